-- `metadata_first_merge::window_holds` meets its contract. Assumes nothing.
use lib.ListN.{length}
use Rattle.csr32.proofs.WindowLaws.{zeros_as}
use Rattle.metadata_first_merge.proofs.WindowLaws.{window_outside, window_test}
use Rattle.metadata_first_merge.proofs.window_holds.Goals as goal

pub clear_window-requires : goal.clear_window-requires
clear_window-requires c = window_outside c.args.row.cols.now c.args.row.vals.now c.args.base (length c.args.sums.now) _ c.args.row.paired c.add_window.ensures

pub returns : goal.returns
returns c = record { answer = window_test c.args.row.cols.now c.args.row.vals.now c.args.base (length c.args.sums.now) _ c.args.row.paired c.add_window.ensures _ c.sums_hold-holds.ensures; window = zeros_as _ _ _ c.clear_window.ensures c.add_window.auto.sums }
