-- What a call says that hands out a record or a part of one, and what a call says that goes on with it. Assumes nothing.
use Rattle.std.proofs.Common.{◌≡◌, ℕ, Bool, true, false, refl, sym, ap, ◌∙◌}
use Rattle.std.specs.Prelude.{Result, Ok, Err}
use Rattle.hybit_core.specs.Answer.{Told, Answer, accepted, refused, plain, demand, gives, refuses, answers, on_given, ◌and_then◌}
use Rattle.hybit_core.specs.Table.{paper, given}
use Rattle.hybit_core.specs.declared.HybitError.{HybitError}

module _ {A : Type 0} (a : Answer) (x : A) where
  -- a refusal refuses what asks for more too
  pub found_refused : (t : Told) (b : Answer) {C : Type 0} (z : C) → refuses t ≡ answers a x → refuses t ≡ answers (a and_then b) z
  found_refused t b z h = go a h
    where
      go : (c : Answer) → refuses t ≡ answers c x → refuses t ≡ answers (c and_then b) z
      go accepted q = cc
      go (refused u) q = cc

  pub found_refuses : (t : Told) → refuses t ≡ answers a x → a ≡ refused t
  found_refuses t h = go a h
    where
      go : (c : Answer) → refuses t ≡ answers c x → c ≡ refused t
      go accepted q = cc
      go (refused u) q = cc

  module _ (y : A) (h : gives y ≡ answers a x) where
    pub found_accepted : a ≡ accepted
    found_accepted = go a h
      where
        go : (c : Answer) → gives y ≡ answers c x → c ≡ accepted
        go accepted q = refl
        go (refused t) q = cc

    pub found_is : y ≡ x
    found_is = go a h
      where
        go : (c : Answer) → gives y ≡ answers c x → y ≡ x
        go accepted q = cc
        go (refused t) q = cc

    pub found_gives : {C : Type 0} (z w : C) → z ≡ w → gives z ≡ answers a w
    found_gives z w e = rw found_accepted (ap gives e)

    pub found_then_gives : {C : Type 0} (b : Bool) (n : ℕ) (z w : C) → true ≡ b → z ≡ w → gives z ≡ answers (a and_then demand b n) w
    found_then_gives b n z w t e = rw (found_accepted, ← t) (ap gives e)

    pub found_then_fails : {C : Type 0} (b : Bool) (n : ℕ) (w : C) → false ≡ b → refuses (plain n) ≡ answers (a and_then demand b n) w
    found_then_fails b n w t = rw (found_accepted, ← t)

-- r is what the call answered, and g c what it hands out
module _ {C A : Type 0} (g : C → A) (a : Answer) (x : A) (r : Result C HybitError) (h : on_given g (given r) ≡ answers a x) where
  pub handed_out : (c : C) → r ≡ Ok c → gives (g c) ≡ answers a x
  handed_out c k = ap (λ (s : Result C HybitError). on_given g (given s)) (sym k) ∙ h

  pub handed_back : (e : HybitError) → r ≡ Err e → refuses (paper e) ≡ answers a x
  handed_back e k = ap (λ (s : Result C HybitError). on_given g (given s)) (sym k) ∙ h

  -- a call that answers f of it
  module _ {B : Type 0} (f : A → B) where
    pub handed_refused : (e : HybitError) (v : Result B HybitError) → r ≡ Err e → v ≡ Err e → given v ≡ answers a (f x)
    handed_refused e v k l = ap given l ∙ rw (found_refuses a x (paper e) (handed_back e k))

    pub handed_value : (c : C) (y : B) → r ≡ Ok c → y ≡ f (g c) → gives y ≡ answers a (f x)
    handed_value c y k e = found_gives a x (g c) (handed_out c k) y (f x) (e ∙ ap f (found_is a x (g c) (handed_out c k)))
