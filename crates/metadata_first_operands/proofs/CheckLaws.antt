-- The checks of the dots in the code's order. Assumes nothing.
use mathlib.Core.Bool.{Bool, true, false, ◌&&◌}
use mathlib.Core.List.{List}
use mathlib.Core.Path.{◌≡◌, refl, sym, ap, ◌∙◌}
use lib.ListN.{length}
use lib.Ieee.{Float}
use Rattle.hybit_core.specs.Answer.{Answer, refused, plain, demand, length_is, ◌and_then◌}
use Rattle.hybit_core.specs.Domain.{few}
use Rattle.mask.specs.Mask.{Mask, mask_rules, mask_answer}
use Rattle.metadata_first.specs.Store.{Store, store_sizes, store_faults, store_answer}
use Rattle.metadata_first.specs.Dot.{operands_answer}

-- ---- the checks in the code's order: 1 of the mask's length, the store's own checks, the mask's, the lengths

module _ (s : Store) (a : Mask) (x : List Float) where
  pub mask_first : false ≡ few a.size → refused (plain 1) ≡ operands_answer s a x
  unfolding operands_answer
  mask_first e =
      let rest : Answer = store_faults s and_then demand (mask_rules a) 5 and_then length_is s.words.cols a.size and_then length_is s.words.cols (length x) in
      go (store_sizes s) rest ∙ ap (λ (t : Bool). demand (store_sizes s && t) 1 and_then rest) e
    where
      go : (t : Bool) (rest : Answer) → refused (plain 1) ≡ demand (t && false) 1 and_then rest
      go true rest = refl
      go false rest = refl

  pub store_then : (c : Answer) → true ≡ few a.size → c ≡ store_answer s and_then mask_answer a and_then length_is s.words.cols a.size and_then length_is s.words.cols (length x) → c ≡ operands_answer s a x
  unfolding operands_answer store_answer mask_answer
  store_then c e q =
      let lengths : Answer = length_is s.words.cols a.size and_then length_is s.words.cols (length x) in
      q ∙ ap (λ (t : Bool). (demand (store_sizes s) 1 and_then store_faults s) and_then (demand t 1 and_then demand (mask_rules a) 5) and_then lengths) (sym e)
      ∙ go (store_sizes s) (store_faults s) (demand (mask_rules a) 5 and_then lengths)
      ∙ ap (λ (t : Bool). demand (store_sizes s && t) 1 and_then store_faults s and_then demand (mask_rules a) 5 and_then lengths) e
    where
      go : (t : Bool) (f rest : Answer) → ((demand t 1 and_then f) and_then rest) ≡ (demand (t && true) 1 and_then f and_then rest)
      go true f rest = refl
      go false f rest = refl
