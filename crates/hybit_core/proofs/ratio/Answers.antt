-- `hybit_core::ratio` meets its contract. Assumes nothing.
use Rattle.hybit_core.proofs.FloatLaws.{ratio_none, ratio_some}
use Rattle.hybit_core.proofs.ratio.Goals as goal

pub returns-then-whole-eq0 : goal.returns-then-whole-eq0
returns-then-whole-eq0 c = ratio_none c.args.part c.args.whole c.if-whole-eq0.true

pub returns : goal.returns
returns c = ratio_some c.args.part c.args.whole c.count_as_f64.result c.count_as_f64-2.result c.if-whole-eq0.false c.count_as_f64.ensures
    c.count_as_f64-2.ensures
