-- What a call answers in document 01's terms, and how its checks follow one another ("Refusals and their carrier").
use Rattle.std.specs.Prelude.{ℕ, Bool, true, false, ◌==◌}

-- a refusal as it is handed out: its number, and expected and actual
pub record Told : Type 0 where
  pub number : ℕ
  pub expected : ℕ
  pub actual : ℕ

-- a refusal other than 6: the expected and actual fields are 0
abbrev pub plain : ℕ → Told
plain n = record { number = n; expected = 0; actual = 0 }

-- 6, lengths differ: it carries expected and actual
abbrev pub lengths_differ : ℕ → ℕ → Told
lengths_differ e a = record { number = 6; expected = e; actual = a }

pub data Answer : Type 0 where
  accepted : Answer
  refused : Told → Answer

-- a check: refused with number n where the test fails
abbrev pub demand : Bool → ℕ → Answer
demand true n = accepted
demand false n = refused (plain n)

-- the check of a length: it is a and should be e
abbrev pub demand_length : Bool → ℕ → ℕ → Answer
demand_length true e a = accepted
demand_length false e a = refused (lengths_differ e a)

abbrev pub length_is : ℕ → ℕ → Answer
length_is e a = demand_length (a == e) e a

-- the first refusal of two checks in order
infixr 20 ◌and_then◌
abbrev pub ◌and_then◌ : Answer → Answer → Answer
accepted and_then b = b
refused t and_then b = refused t

-- the number that goes to a lent number: 0 when accepted
abbrev pub number_in : Answer → ℕ
number_in accepted = 0
number_in (refused t) = t.number

-- what a call with a result answers: a refusal brings none
pub data Given (A : Type 0) : Type 0 where
  gives : A → Given A
  refuses : Told → Given A

-- the result where the checks accept
abbrev pub answers : {A : Type 0} → Answer → A → Given A
answers accepted a = gives a
answers (refused t) a = refuses t

-- a part of the result
abbrev pub on_given : {A B : Type 0} → (A → B) → Given A → Given B
on_given f (gives a) = gives (f a)
on_given f (refuses t) = refuses t
