-- `demand_tiled::clear_list` meets its contract. Assumes nothing.
use Rattle.demand_tiled.proofs.clear_list.Goals as goal

pub returns : goal.returns
returns c = record { pointers = c.clear_from.ensures; columns = c.clear_from-2.ensures; values = c.clear_from-3.ensures; product = c.clear_from-4.ensures }
