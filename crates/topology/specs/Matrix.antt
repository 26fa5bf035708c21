-- Lent words.
use Rattle.topology.specs.declared.matrix.AbtmTopology.{AbtmTopology}
use Rattle.topology.specs.Words.{Words, as_words}

abbrev pub lent_topology : AbtmTopology → Words
lent_topology t = as_words t.nrows t.ncols t.row_word_ptr.now t.word_indices.now t.masks.now t.structural_nnz
