-- The checks of from_csr32, one after the other, and what an accepted build and a refused one leave. Assumes nothing.
use Rattle.std.specs.Prelude.{Result, Ok, Err}
use mathlib.Core.Bool.{Bool, true, false, not, ◌&&◌}
use mathlib.Core.List.{List, []}
use mathlib.Core.Path.{◌≡◌, refl, sym, ap, ◌∙◌}
use Prim.Native.Nat.{ℕ, ◌-◌}
use native.Mathlib.Omega.{arith}
use lib.Dec.{eqb}
use lib.ListN.{length, take, replicate}
use lib.Seq.{take_at}
use borrow.Author.Tests.{not-false, eqb-true}
use Rattle.hybit_core.specs.Answer.{plain, Answer, accepted, refused, demand, length_is, ◌and_then◌, gives, refuses, answers}
use Rattle.hybit_core.specs.Domain.{few}
use Rattle.hybit_core.specs.Table.{given, paper, told}
use Rattle.hybit_core.specs.declared.HybitError.{HybitError}
use Rattle.hybit_core.proofs.BoolLaws.{and_left, and_right}
use Rattle.hybit_core.proofs.AnswerLaws.{demand_accepted, then_first, then_second, length_accepted, accepted_by, refused_by, call_refused, call_accepted}
use Rattle.lent.specs.Lent.{padded, built}
use Rattle.mask.specs.Mask.{Mask, mask_rules, mask_answer}
use Rattle.csr32.specs.Csr.{Csr, csr_sizes, csr_rules, csr_answer}
use Rattle.csr32.specs.Made.{CsrRoom}
use Rattle.restricted.specs.Local.{fits_local, local_answer, region_of}
use Rattle.restricted.specs.declared.LocalRegion.{LocalRegion}
use Rattle.restricted_local.specs.Region.{region_checks, region_answer, Region}

then_assoc : (a b c : Answer) → (a and_then b) and_then c ≡ a and_then (b and_then c)
then_assoc accepted b c = refl
then_assoc (refused t) b c = refl

-- ---- the checks before 13: f is the flag of the region's length

module _ (m : Csr) (a : Mask) where
  abbrev after_mask : Answer
  after_mask = demand (eqb m.rows m.cols) 10 and_then length_is m.rows a.size

  abbrev after_list : Answer
  after_list = demand (mask_rules a) 5 and_then after_mask

  pub region_long : (f : Bool) → f ≡ few a.size → not f ≡ true → refused (plain 1) ≡ region_checks m a
  unfolding region_checks
  region_long true e h = cc
  region_long false e h = rw (← e)

  module _ (f : Bool) (ef : f ≡ few a.size) (on : not f ≡ false) where
    long : true ≡ few a.size
    long = sym (not-false f on) ∙ ef

    list_first : csr_answer m and_then after_list ≡ region_checks m a
    unfolding region_checks csr_answer
    list_first = rw (← long) (then_assoc (demand (csr_sizes m) 1) (csr_rules m) after_list)

    pub region_list : (v : Result Unit HybitError) (e : HybitError) → told v ≡ csr_answer m → v ≡ Err e → refused (paper e) ≡ region_checks m a
    region_list v e h k = call_refused (csr_answer m) after_list v e h k ∙ list_first

    module _ (v : Result Unit HybitError) (h : told v ≡ csr_answer m) (k : v ≡ Ok tt) (w : Result Unit HybitError) (g : told w ≡ mask_answer a) where
      mask_rules_lem : told w ≡ demand (mask_rules a) 5
      unfolding mask_answer
      mask_rules_lem = g ∙ rw (← long)

      pub region_mask : (e : HybitError) → w ≡ Err e → refused (paper e) ≡ region_checks m a
      region_mask e l = call_accepted (csr_answer m) after_list (refused (paper e)) v h k (call_refused (demand (mask_rules a) 5) after_mask w e mask_rules_lem l) ∙ list_first

      pub region_rest : (x : Answer) → w ≡ Ok tt → x ≡ demand (eqb m.rows m.cols) 10 and_then length_is m.rows a.size → x ≡ region_checks m a
      region_rest x l r = call_accepted (csr_answer m) after_list x v h k (call_accepted (demand (mask_rules a) 5) after_mask x w mask_rules_lem l r) ∙ list_first

  pub region_facts : region_checks m a ≡ accepted → Region m a
  unfolding region_checks csr_answer mask_answer
  region_facts e =
      let d : Bool = few a.size && csr_sizes m in
      let square : Answer = demand (eqb m.rows m.cols) 10 in
      let one : d ≡ true = demand_accepted d 1 (then_first (demand d 1) (csr_rules m and_then after_list) e) in
      let lists : csr_rules m and_then after_list ≡ accepted = then_second (demand d 1) (csr_rules m and_then after_list) e in
      let rest : after_list ≡ accepted = then_second (csr_rules m) after_list lists in
      let last : after_mask ≡ accepted = then_second (demand (mask_rules a) 5) after_mask rest in
      let small : few a.size ≡ true = and_left (few a.size) (csr_sizes m) one in
      let sizes : csr_sizes m ≡ true = and_right (few a.size) (csr_sizes m) one in
      record {
        list_accepted = rw sizes (then_first (csr_rules m) after_list lists);
        mask_accepted = rw small (then_first (demand (mask_rules a) 5) after_mask rest);
        square = eqb-true m.rows m.cols (demand_accepted (eqb m.rows m.cols) 10 (then_first square (length_is m.rows a.size) last));
        size_is = length_accepted m.rows a.size (then_second square (length_is m.rows a.size) last);
      }

  -- ---- and 13

  module _ (places : ℕ) (room : CsrRoom) where
    local_chain : local_answer m a places room ≡ region_checks m a and_then demand (fits_local m a places room) 13
    unfolding local_answer region_checks
    local_chain =
        let first : Answer = demand (few a.size && csr_sizes m) 1 in
        let mask : Answer = demand (mask_rules a) 5 in
        let square : Answer = demand (eqb m.rows m.cols) 10 in
        let size : Answer = length_is m.rows a.size in
        let fits : Answer = demand (fits_local m a places room) 13 in
        sym (then_assoc first (csr_rules m and_then after_list) fits
        ∙ ap (λ (t : Answer). first and_then t) (then_assoc (csr_rules m) after_list fits
        ∙ ap (λ (t : Answer). csr_rules m and_then t) (then_assoc mask after_mask fits
        ∙ ap (λ (t : Answer). mask and_then t) (then_assoc square size fits))))

    pub local_accepted : local_answer m a places room ≡ accepted → Region m a × (fits_local m a places room ≡ true)
    local_accepted e =
        let all : region_checks m a and_then demand (fits_local m a places room) 13 ≡ accepted = sym local_chain ∙ e in
        (region_facts (then_first (region_checks m a) (demand (fits_local m a places room) 13) all), demand_accepted (fits_local m a places room) 13 (then_second (region_checks m a) (demand (fits_local m a places room) 13) all))

    -- v is the verdict of the checks before 13
    module _ (v : Result Unit HybitError) (h : told v ≡ region_checks m a) where
      pub local_refused : (e : HybitError) → v ≡ Err e → refuses (paper e) ≡ region_answer m a places room
      unfolding region_answer
      local_refused e k = let r : region_checks m a ≡ refused (paper e) = refused_by (region_checks m a) v e h k in rw (local_chain, r)

      module _ (k : v ≡ Ok tt) where
        pub local_short : false ≡ fits_local m a places room → refuses (plain 13) ≡ region_answer m a places room
        unfolding region_answer
        local_short f = let r : region_checks m a ≡ accepted = accepted_by (region_checks m a) v h k in rw (local_chain, r, ← f)

        pub local_built : (s : LocalRegion) → true ≡ fits_local m a places room → s ≡ region_of m a → gives s ≡ region_answer m a places room
        unfolding region_answer
        local_built s f q = let r : region_checks m a ≡ accepted = accepted_by (region_checks m a) v h k in rw (local_chain, r, ← f) (ap gives q)

-- ---- what the answer of a build says of its checks and of a lent list

module _ (m : Csr) (a : Mask) (places : ℕ) (room : CsrRoom) (v : Result LocalRegion HybitError) (h : given v ≡ region_answer m a places room) where
  pub built_accepts : (t : LocalRegion) → v ≡ Ok t → local_answer m a places room ≡ accepted
  unfolding region_answer
  built_accepts t k = go (local_answer m a places room) (sym (ap given k) ∙ h)
    where
      go : (y : Answer) → gives t ≡ answers y (region_of m a) → y ≡ accepted
      go accepted e = refl
      go (refused r) e = cc

  pub built_answer : (e : HybitError) → v ≡ Err e → refuses (paper e) ≡ answers (local_answer m a places room) (region_of m a)
  unfolding region_answer
  built_answer e k = sym (ap given k) ∙ h

  pub built_nothing : {A : Type 0} (e : HybitError) (z : A) (n : ℕ) (new out : List A) → v ≡ Err e → out ≡ padded z n [] → out ≡ built z n (local_answer m a places room) new
  built_nothing {A} e z n new out k q = go (local_answer m a places room) (built_answer e k)
    where
      go : (y : Answer) → refuses (paper e) ≡ answers y (region_of m a) → out ≡ built z n y new
      go accepted r = let w : ◌≡◌ {A = ℕ} 0 1 = cc in absurd (omega arith)
      go (refused t) r = q

pub built-all : {A : Type 0} (x : Answer) (z : A) (n : ℕ) (new out : List A) → x ≡ accepted → out ≡ padded z n new → out ≡ built z n x new
built-all x z n new out e q = rw e q

-- the used part of it
pub front_used : {A : Type 0} (z : A) (n k : ℕ) (l out : List A) → out ≡ padded z n l → k ≡ length l → take k out ≡ l
unfolding padded
front_used z n k l out e q = ap (take k) e ∙ take_at l (replicate (n - length l) z) k (sym q)
