-- The worked plots: in each row of the table the definitions give what the document says. Assumes nothing.
use mathlib.Core.List.{map, zip, zip_with}
use mathlib.Core.Path.{◌≡◌, refl}
use lib.Count.{count_trailing_zeros}
use lib.Ieee.{of_bits, of_fields, odd, add, mul, sum, round, units, size, span, climb}
use Rattle.hybit_core.specs.Domain.{sizes_fit}
use Rattle.lent.specs.Lists.{joined, each, starts, part, only, every, some, first, rises, climbs, spread}
use Rattle.word.specs.Bits.{has, from, below, selected, members, between, number as bits_of, mask_of, words_of}
use Rattle.mask.specs.Mask.{bit_at, active, mask_rules}
use Rattle.csr32.specs.Csr.{framed, framed_lists, entries, present, merged}
use Rattle.topology.specs.Words.{topology_of, mask_in, row_member, member, word_rule, row_rule, row_rules, set_bits, word_rules, word_answer}
use Rattle.topology.specs.Calls.{row_answer, rank_answer, metadata_bytes}
use Rattle.metadata_first.specs.Store.{packed_of, value_at, store_sizes, value_rules, store_rules, store_faults}
use Rattle.metadata_first.specs.Dot.{sum_over, dot_of, dot_on, operands_answer, dot_answer, sparse_dot_row}
use Rattle.metadata_first_build.specs.Pack.{store_of}
use Rattle.abtm_values.specs.Values.{merged_nonzero}
use Rattle.abtm.specs.Tiles.{places_of, kind_of, meta_of, tile_of, row_tiles_of, laid, tiles_of}
use Rattle.abtm_build.specs.Build.{tiles_from}
use Rattle.plots.specs.Worked.{Cell, table}

pub worked : map (λ (r : Cell × Cell). r.0) table ≡ map (λ (r : Cell × Cell). r.1) table
unfolding table sizes_fit joined each starts part only every some first rises climbs spread has from below selected members between bits_of mask_of words_of
    framed framed_lists entries present merged bit_at active mask_rules topology_of mask_in row_member member word_rule row_rule row_rules set_bits word_rules word_answer
    row_answer rank_answer metadata_bytes zip zip_with packed_of value_at store_sizes value_rules store_rules store_faults sum_over dot_of dot_on
    operands_answer dot_answer sparse_dot_row store_of merged_nonzero places_of kind_of meta_of tile_of row_tiles_of laid tiles_of tiles_from of_bits of_fields odd add mul sum round units size span climb count_trailing_zeros
worked = refl
