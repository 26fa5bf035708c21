-- Laws of answers: a chain of checks at each return of the code that runs it, and what an accepted chain says. Assumes nothing.
use Rattle.std.proofs.Common.{◌≡◌, ℕ, ◌^◌, ◌≤◌, Bool, true, false, not, ◌&&◌, eqb, sym, refl, ap, ◌∙◌, eq-eqb, ne_eqb, eqb-true, leb-true}
use Rattle.std.specs.Prelude.{Result, Ok, Err}
use borrow.Author.Tests.{not-false}
use Rattle.hybit_core.specs.Answer.{Given, plain, lengths_differ, Answer, accepted, refused, demand, demand_length, length_is, ◌and_then◌, number_in, gives, refuses, answers}
use Rattle.hybit_core.specs.Domain.{few}
use Rattle.hybit_core.specs.Table.{paper, told, given}
use Rattle.hybit_core.specs.declared.HybitError.{HybitError}

-- ---- what an accepted chain says of each check

pub demand_accepted : (b : Bool) (n : ℕ) → demand b n ≡ accepted → b ≡ true
demand_accepted true n e = refl
demand_accepted false n e = cc

pub then_first : (a b : Answer) → a and_then b ≡ accepted → a ≡ accepted
then_first accepted b e = refl
then_first (refused t) b e = cc

pub then_second : (a b : Answer) → a and_then b ≡ accepted → b ≡ accepted
then_second accepted b e = e
then_second (refused t) b e = cc

pub length_accepted : (e n : ℕ) → length_is e n ≡ accepted → n ≡ e
length_accepted e n h = eqb-true n e (go (eqb n e) h)
  where
    go : (t : Bool) → demand_length t e n ≡ accepted → t ≡ true
    go true q = refl
    go false q = cc

-- a dimension that lies in the domain, as a callee's flag r says
pub dimension_small : (n : ℕ) (r : Bool) → r ≡ few n → not r ≡ false → n ≤ 2 ^ 20
dimension_small n r e h = leb-true n (2 ^ 20) (sym e ∙ not-false r h)

-- ---- one check of a chain, at a return: it fails, or it passes and the rest decides

pub test_fails : (b : Bool) (n : ℕ) (rest : Answer) → false ≡ b → refused (plain n) ≡ demand b n and_then rest
test_fails b n rest e = rw (← e)

pub test_passes : (b : Bool) (n : ℕ) (a rest : Answer) → true ≡ b → a ≡ rest → a ≡ demand b n and_then rest
test_passes b n a rest e k = rw (← e) k

pub last_fails : (b : Bool) (n : ℕ) → false ≡ b → refused (plain n) ≡ demand b n
last_fails b n e = rw (← e)

pub last_passes : (b : Bool) (n : ℕ) → true ≡ b → accepted ≡ demand b n
last_passes b n e = rw (← e)

pub length_wrong : (e n : ℕ) (b : Answer) → (n ≡ e → ⊥) → refused (lengths_differ e n) ≡ length_is e n and_then b
length_wrong e n b h = rw (ne_eqb n e h)

pub length_right : (e n : ℕ) (b c : Answer) → n ≡ e → c ≡ b → c ≡ length_is e n and_then b
length_right e n b c h r = rw (eq-eqb n e h) r

pub last_length_wrong : (e n : ℕ) → (n ≡ e → ⊥) → refused (lengths_differ e n) ≡ length_is e n
last_length_wrong e n h = rw (ne_eqb n e h)

pub last_length_right : (e n : ℕ) → n ≡ e → accepted ≡ length_is e n
last_length_right e n h = rw (eq-eqb n e h)

-- a chain whose first part is a call that gave the verdict v
pub call_refused : (a b : Answer) (v : Result Unit HybitError) (e : HybitError) → told v ≡ a → v ≡ Err e → refused (paper e) ≡ a and_then b
call_refused a b v e h k = let is : a ≡ refused (paper e) = sym h ∙ ap told k in rw is

pub call_accepted : (a b c : Answer) (v : Result Unit HybitError) → told v ≡ a → v ≡ Ok tt → c ≡ b → c ≡ a and_then b
call_accepted a b c v h k r = let is : a ≡ accepted = sym h ∙ ap told k in rw is r

-- 1 of the mask has found nothing: the checks of the record beside it are next, then the mask's
pub by_records : (f s m : Bool) (r rest : Answer) → true ≡ f → demand (f && s) 1 and_then r and_then demand m 5 and_then rest ≡ (demand s 1 and_then r) and_then ((demand f 1 and_then demand m 5) and_then rest)
by_records true true m r rest e = refl
by_records true false m r rest e = refl
by_records false s m r rest e = cc

-- a call handed on by `?`, which returned r
pub told_refused : (r : Result Unit HybitError) (e : HybitError) (a : Answer) → r ≡ Err e → refused (paper e) ≡ a → told r ≡ a
told_refused r e a h k = rw h k

pub given_refused_by : {A : Type 0} (r : Result A HybitError) (e : HybitError) (a : Given A) → r ≡ Err e → refuses (paper e) ≡ a → given r ≡ a
given_refused_by r e a h k = rw h k

pub ruleset checks = (test_fails, test_passes, last_fails, last_passes, call_refused, call_accepted, length_wrong, length_right, last_length_wrong, last_length_right)

-- ---- a call whose checks a callee has run, which gave the verdict v

pub accepted_by : (a : Answer) (v : Result Unit HybitError) → told v ≡ a → v ≡ Ok tt → a ≡ accepted
accepted_by a v h k = sym h ∙ ap told k

pub refused_by : (a : Answer) (v : Result Unit HybitError) (e : HybitError) → told v ≡ a → v ≡ Err e → a ≡ refused (paper e)
refused_by a v e h k = sym h ∙ ap told k

pub answer_accepted : (a : Answer) (v : Result Unit HybitError) → told v ≡ a → v ≡ Ok tt → accepted ≡ a
answer_accepted a v h k = sym (accepted_by a v h k)

pub answer_refused : (a : Answer) (v : Result Unit HybitError) (e : HybitError) → told v ≡ a → v ≡ Err e → refused (paper e) ≡ a
answer_refused a v e h k = sym (refused_by a v e h k)

pub number_by : (a : Answer) (v : Result Unit HybitError) (n : ℕ) → told v ≡ a → n ≡ number_in (told v) → n ≡ number_in a
number_by a v n h e = e ∙ ap number_in h

-- the result beside it
pub given_refused : {A : Type 0} (a : Answer) (x : A) (v : Result Unit HybitError) (e : HybitError) → told v ≡ a → v ≡ Err e → refuses (paper e) ≡ answers a x
given_refused a x v e h k = rw (refused_by a v e h k)

pub given_accepted : {A : Type 0} (a : Answer) (x y : A) (v : Result Unit HybitError) → told v ≡ a → v ≡ Ok tt → y ≡ x → gives y ≡ answers a x
given_accepted a x y v h k r = rw (accepted_by a v h k) (ap gives r)

pub ruleset outcomes = (accepted_by, answer_accepted, answer_refused, number_by, given_refused, given_accepted)
