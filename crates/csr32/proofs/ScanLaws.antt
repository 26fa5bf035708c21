-- Laws of the scans that keep a flag: the flag says it of the places passed, and what is left decides the rest. Assumes nothing.
use mathlib.Core.Bool.{Bool, true, false, not, ◌&&◌}
use mathlib.Core.List.{List}
use mathlib.Core.Path.{◌≡◌, refl, sym, ap, ◌∙◌}
use Prim.Native.Nat.{ℕ, ◌+◌, ◌-◌, ◌*◌, ◌%◌, ◌^◌, ◌≤◌, ◌<◌}
use native.Mathlib.Nat.{mod-eq_of_lt}
use native.Mathlib.Numerals.{add-one}
use native.Mathlib.Omega.{arith}
use lib.Dec.{leb, ltb}
use lib.ListN.{length, get_or, take, drop, drop_of_length-le}
use lib.Seq.{drop-cons}
use borrow.Author.Tests.{leb-true, not-false}
use Rattle.hybit_core.specs.Domain.{few, many, sizes_fit}
use Rattle.hybit_core.proofs.BoolLaws.{and_left, and_right}
use Rattle.lent.specs.Lists.{every, rises}
use Rattle.lent.proofs.ListLaws.{every_join, drop_apart, drop-rest}

-- one place more: its test t is joined to the flag
flag_step : (whole f t g rest : Bool) → whole ≡ (f && (t && rest)) → g ≡ (f && t) → whole ≡ (g && rest)
flag_step whole true t g rest h e = h ∙ rw e
flag_step whole false t g rest h e = h ∙ rw e

-- nothing is left
flag_all : (whole f : Bool) → whole ≡ (f && true) → f ≡ whole
flag_all whole true h = sym h
flag_all whole false h = sym h

-- ---- every element passes

pub record Passed {A : Type 0} (p : A → Bool) (l : List A) (i : ℕ) (f : Bool) : Type 0 where
  pub is : every p l ≡ (f && every p (drop i l))

module _ {A : Type 0} (p : A → Bool) (l : List A) where
  pub passed_none : Passed p l 0 true
  passed_none = record { is = refl }

  module _ (i : ℕ) (f : Bool) (inv : Passed p l i f) where
    pub passed_more : (d : A) (t g : Bool) → i < length l → t ≡ p (get_or l i d) → g ≡ (f && t) → Passed p l (i + 1) g
    unfolding every
    passed_more d t g h e q = record { is = flag_step (every p l) f t g (every p (drop (i + 1) l)) (inv.is ∙ rw (add-one, drop-cons l i d, e)) q }

    pub passed_done : length l ≤ i → f ≡ every p l
    unfolding every
    passed_done h = flag_all (every p l) f (inv.is ∙ rw drop_of_length-le)

-- ---- every element of four lists of one length passes

pub record FourPassed {A : Type 0} (p : A → Bool) (l m n o : List A) (i : ℕ) (a b c d : Bool) : Type 0 where
  pub second_long : length m ≡ length l
  pub third_long : length n ≡ length l
  pub fourth_long : length o ≡ length l
  pub first : Passed p l i a
  pub second : Passed p m i b
  pub third : Passed p n i c
  pub fourth : Passed p o i d

-- four quarters of a list, and the few elements after them
module _ {A : Type 0} (p : A → Bool) (l : List A) where
  part_passes : (a b : ℕ) → a ≤ b → every p (drop a l) ≡ (every p (take (b - a) (drop a l)) && every p (drop b l))
  part_passes a b h = ap (every p) (drop_apart a b l h) ∙ every_join p (take (b - a) (drop a l)) (drop b l)

  pub quarters_pass : (q : ℕ) → 4 * q ≤ length l
      → ((((every p (take (q - 0) (drop 0 l)) && every p (take (2 * q - q) (drop q l))) && every p (take (3 * q - 2 * q) (drop (2 * q) l))) && every p (take (4 * q - 3 * q) (drop (3 * q) l))) && every p (take (length l - 4 * q) (drop (4 * q) l))) ≡ every p l
  quarters_pass q h =
      let a : Bool = every p (take (q - 0) (drop 0 l)) in
      let b : Bool = every p (take (2 * q - q) (drop q l)) in
      let c : Bool = every p (take (3 * q - 2 * q) (drop (2 * q) l)) in
      let d : Bool = every p (take (4 * q - 3 * q) (drop (3 * q) l)) in
      ap (λ (t : List A). (((a && b) && c) && d) && every p t) (drop-rest (4 * q) l)
      ∙ turned a b c d (every p (drop (4 * q) l))
      ∙ sym (part_passes 0 q (omega arith)
      ∙ ap (λ (t : Bool). a && t) (part_passes q (2 * q) (omega arith)
      ∙ ap (λ (t : Bool). b && t) (part_passes (2 * q) (3 * q) (omega arith)
      ∙ ap (λ (t : Bool). c && t) (part_passes (3 * q) (4 * q) (omega arith)))))
    where
      turned : (a b c d e : Bool) → ((((a && b) && c) && d) && e) ≡ (a && (b && (c && (d && e))))
      turned true true true d e = refl
      turned true true false d e = refl
      turned true false c d e = refl
      turned false b c d e = refl

-- ---- no element is below the one before it: a is the one before what is left

pub record Risen (l : List ℕ) (a i : ℕ) (f : Bool) : Type 0 where
  pub is : rises 0 l ≡ (f && rises a (drop i l))

module _ (l : List ℕ) where
  pub risen_none : Risen l 0 0 true
  risen_none = record { is = refl }

  module _ (a i : ℕ) (f : Bool) (inv : Risen l a i f) where
    pub risen_more : (t g : Bool) → i < length l → t ≡ leb a (get_or l i 0) → g ≡ (f && t) → Risen l (get_or l i 0) (i + 1) g
    unfolding rises
    risen_more t g h e q = record { is = flag_step (rises 0 l) f t g (rises (get_or l i 0) (drop (i + 1) l)) (inv.is ∙ rw (add-one, drop-cons l i 0, e)) q }

    pub risen_done : length l ≤ i → f ≡ rises 0 l
    unfolding rises
    risen_done h = flag_all (rises 0 l) f (inv.is ∙ rw drop_of_length-le)

-- ---- the column count as wide as a column

pub columns_narrow : (n m : ℕ) (cs : List ℕ) (t : Bool) → few n ≡ true → m ≡ n % 2 ^ 32 → t ≡ every (λ c. ltb c m) cs → t ≡ every (λ c. ltb c n) cs
columns_narrow n m cs t e q h =
    let same : m ≡ n = q ∙ mod-eq_of_lt (omega (arith, leb-true n (2 ^ 20) e)) in
    h ∙ ap (λ (k : ℕ). every (λ c. ltb c k) cs) same

-- as the code has it after its first test: r is the flag of that test
pub columns_few : (rows cols a b : ℕ) (r : Bool) → r ≡ sizes_fit rows cols a b → not r ≡ false → few cols ≡ true
unfolding sizes_fit
columns_few rows cols a b r e h =
    let all : (few rows && few cols && many a && many b) ≡ true = sym e ∙ not-false r h in
    let three : (few rows && few cols && many a) ≡ true = and_left (few rows && few cols && many a) (many b) all in
    and_right (few rows) (few cols) (and_left (few rows && few cols) (many a) three)
