-- `topology::AbtmTopologyStats::word_fill_ratio` meets its contract. Assumes nothing.
use lib.Ieee.{Float, binary64, div}
use Rattle.std.proofs.Common.{ap₂}
use Rattle.topology.proofs.AbtmTopologyStats.word_fill_ratio.Goals as goal

pub returns : goal.returns
returns c = ap₂ (λ (a d : Float). div binary64 a d) c.average_word_nnz.ensures c.count_as_f64.ensures
