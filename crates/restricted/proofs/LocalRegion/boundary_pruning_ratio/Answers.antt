-- `restricted::LocalRegion::boundary_pruning_ratio` meets its contract. Assumes nothing.
use Rattle.restricted.proofs.FigureLaws.{ratio_none, ratio_some}
use Rattle.restricted.proofs.LocalRegion.boundary_pruning_ratio.Goals as goal

pub returns-then-self-eq0 : goal.returns-then-self-eq0
returns-then-self-eq0 c = ratio_none _ c.if-self-eq0.true

pub returns : goal.returns
returns c = ratio_some _ _ _ c.if-self-eq0.false c.count_as_f64.ensures c.ratio.ensures
