-- `restricted::ColumnRestriction::storage_bytes` meets its contract. Assumes nothing.
use Rattle.restricted.proofs.FigureLaws.{three-saturated}
use mathlib.Core.Path.{◌≡◌, ap, ◌∙◌}
use Rattle.word.specs.Bits.{ceil64}
use Rattle.word.proofs.BitLaws.{ceil64_is}
use Prim.Native.Nat.{ℕ, ◌*◌}
use Rattle.hybit_core.specs.Domain.{saturated}
use Rattle.restricted.proofs.ColumnRestriction.storage_bytes.Goals as goal

pub returns : goal.returns
returns c =
    let words : c.div_ceil.result ≡ ceil64 c.args.self.ncols = c.div_ceil.ensures ∙ ceil64_is c.args.self.ncols in
    three-saturated _ _ _ _ _ 8 _ _ _ c.saturating_add.ensures c.saturating_mul-pointers.ensures c.saturating_mul-entries.ensures (c.saturating_mul-words.ensures ∙ ap (λ (n : ℕ). saturated (8 * n)) words) c.saturating_add-2.ensures _ c.saturating_add-3.ensures
