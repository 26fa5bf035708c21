-- Writing to a lent list while there is room: where the last place written lies within the room, all is written. Assumes nothing.
use mathlib.Core.List.{List, [], ◌∷◌, ◌++◌}
use mathlib.Core.Path.{◌≡◌, refl, ◌∙◌}
use Prim.Native.Nat.{ℕ, ◌+◌, ◌≤◌, ◌<◌}
use native.Mathlib.Omega.{arith}
use lib.ListN.{length, set, length-set}
use Rattle.lent.specs.Lent.{Appended}
use Rattle.lent.proofs.LentLaws.{appended_none, appended_join, appended_snoc}

pub record Fitting {A : Type 0} (room : ℕ) (new : List A) (from to : ℕ) (old out : List A) : Type 0 where
  pub same : length out ≡ length old
  pub written : to ≤ room → Appended new from to old out

module _ {A : Type 0} (room : ℕ) where
  pub fitting-none : (at : ℕ) (out : List A) → Fitting {A = A} room [] at at out out
  fitting-none at out = record { same = refl; written = λ l. appended_none at out }

  module _ (new : List A) (from to : ℕ) (old out : List A) (f : Fitting room new from to old out) where
    -- one place more
    pub fitting_more : (v : A) → to < room → room ≤ length old → Fitting room (new ++ (v ∷ [])) from (to + 1) old (set out to v)
    fitting_more v h r = record {
      same = length-set out to v ∙ f.same;
      written = λ l. appended_snoc new from to old out v (f.written (omega arith)) (omega (arith, f.same));
    }

    -- past the room nothing is said of the list
    pub fitting-past : (more : List A) → room ≤ to → Fitting room more from (to + 1) old out
    fitting-past more h = record { same = f.same; written = λ l. absurd (omega arith) }

    pub fitting_join : (more : List A) (end : ℕ) (last : List A) → to ≤ end → length last ≡ length out → (end ≤ room → Appended more to end out last) → Fitting room (new ++ more) from end old last
    fitting_join more end last o s w = record {
      same = s ∙ f.same;
      written = λ l. appended_join new more from to end old out last (f.written (omega arith)) (w l);
    }
