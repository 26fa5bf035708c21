-- The entries of one row, added to the blocks of its block row a run at a time. Assumes nothing.
use mathlib.Core.Bool.{true}
use mathlib.Core.List.{List, ◌++◌, zip, zip_with}
use mathlib.Core.Path.{◌≡◌, sym, ap, ap₂, ◌∙◌, subst}
use Prim.Native.Nat.{ℕ, ◌+◌, ◌-◌, ◌*◌, ◌/◌, ◌%◌, ◌≤◌, ◌<◌, zero-le}
use native.Mathlib.Omega.{arith}
use lib.Dec.{eqb, ltb}
use lib.ListN.{length, get_or, take, drop, length-take, length-drop}
use lib.Ieee.{Float}
use borrow.Author.Tests.{ltb-true}
use Rattle.lent.specs.Lists.{every}
use Rattle.lent.proofs.ListLaws.{every-get_or, every-left}
use Rattle.word.specs.Bits.{has, below, count}
use Rattle.word.proofs.BelowLaws.{length-below-le, rank_lt, selects, below-at-rank}
use Rattle.mask.specs.Mask.{bit_at}
use Rattle.levels.specs.Ranks.{Ranks}
use Rattle.csr32.specs.Csr.{Entry}
use Rattle.dense_block_build.specs.Making.{in_block, in_row}
use Rattle.dense_block_build.proofs.MergeLaws.{zip_split}
use Rattle.dense_block_build.proofs.RowLaws.{row_length, row_none, row_append, run_room, run_part, run_adds}

module _ (w i n : ℕ) (cols : List ℕ) (vals : List Float) (bits starts : List ℕ) (old : List Float) where
  -- the first k entries are added
  pub record Adding (k : ℕ) (out : List Float) : Type 0 where
    pub inside : k ≤ length cols
    pub is : out ≡ in_row w i (below (bit_at bits) n) (zip (take k cols) (take k vals)) old

  pub adding_none : length old ≡ count (bit_at bits) n * (w * w) → Adding 0 old
  unfolding zip zip_with
  adding_none e = record { inside = zero-le; is = row_none w i (below (bit_at bits) n) old e }

  module _ (k : ℕ) (out : List Float) (inv : Adding k out) where
    long : length out ≡ count (bit_at bits) n * (w * w)
    long = ap length inv.is ∙ row_length w i (below (bit_at bits) n) (zip (take k cols) (take k vals)) old

    pub adding_same : length old ≡ count (bit_at bits) n * (w * w) → length out ≡ length old
    adding_same e = long ∙ sym e

    module _ (same : length vals ≡ length cols) where
      -- key is the block column of the next entry
      module _ (low : every (λ c. ltb (c / w) n) cols ≡ true) (noted : every (λ c. bit_at bits (c / w)) cols ≡ true) (ranks : Ranks (bit_at bits) n bits starts) (h : k < length cols) (key : ℕ) (e : key ≡ get_or cols k 0 / w) where
        inner : key < n
        inner = omega (arith, ltb-true (get_or cols k 0 / w) n (every-get_or (λ c. ltb (c / w) n) cols k 0 low h))

        member : bit_at bits key ≡ true
        member = ap (bit_at bits) e ∙ every-get_or (λ c. bit_at bits (c / w)) cols k 0 noted h

        pub adding_bits : key / 64 < length bits
        adding_bits = omega (arith, inner, ranks.bits_room)

        pub adding_starts : key / 64 < length starts
        adding_starts = omega (arith, inner, ranks.starts_room)

        -- a + b is the place that is read for it, s the numbers of a block
        module _ (a b s : ℕ) (ea : a ≡ get_or starts (key / 64) 0) (eb : b ≡ count (has (get_or bits (key / 64) 0)) (key % 64)) (es : s ≡ w * w) (pos : 0 < w) where
          ranked : a + b ≡ count (bit_at bits) key
          ranked = ap₂ (λ (x y : ℕ). x + y) ea eb ∙ ranks.rank_is key inner member

          pub adding_fits : a + b ≤ n
          adding_fits = omega (arith, ranked, length-below-le (bit_at bits) key, inner)

          there : a + b < count (bit_at bits) n
          there = omega (arith, ranked, rank_lt (bit_at bits) key n inner member)

          is_key : get_or (below (bit_at bits) n) (a + b) 0 ≡ key
          is_key = ap (λ (x : ℕ). get_or (below (bit_at bits) n) x 0) ranked ∙ below-at-rank (bit_at bits) n key inner member

          alone : (x : ℕ) → x < count (bit_at bits) n → get_or (below (bit_at bits) n) x 0 ≡ key → x ≡ a + b
          alone x l q = sym (selects (bit_at bits) n x l).ranked ∙ ap (count (bit_at bits)) q ∙ sym ranked

          module _ (next : ℕ) (o : k < next) (l : next ≤ length cols) (run : every (λ c. eqb (c / w) key) (take (next - k) (drop k cols)) ≡ true) where
            abbrev fs : List Entry
            fs = zip (take (next - k) (drop k cols)) (take (next - k) (drop k vals))

            all : every (λ (x : Entry). eqb (x.0 / w) key) fs ≡ true
            all = every-left (λ c. eqb (c / w) key) (take (next - k) (drop k cols)) (take (next - k) (drop k vals)) run

            pub adding_sides : length (take (next - k) (drop k vals)) ≡ length (take (next - k) (drop k cols))
            adding_sides = omega (arith, length-take (next - k) (drop k vals), length-take (next - k) (drop k cols), length-drop k vals, length-drop k cols)

            pub adding_room : (a + b) * s + s ≤ length out
            adding_room = subst (λ (t : ℕ). (a + b) * t + t ≤ length out) (sym es) (run_room w i (below (bit_at bits) n) (a + b) key pos there is_key alone fs all (length out) long)

            pub adding_part : length (take ((a + b) * s + s - (a + b) * s) (drop ((a + b) * s) out)) ≡ w * w
            adding_part =
                subst (λ (t : ℕ). length (take ((a + b) * t + t - (a + b) * t) (drop ((a + b) * t) out)) ≡ w * w) (sym es)
                (run_part w i (below (bit_at bits) n) (a + b) key pos there is_key alone fs all out long)

            pub adding_more : (new : List Float) → new ≡ in_block w i fs (take ((a + b) * s + s - (a + b) * s) (drop ((a + b) * s) out))
                → Adding next (take ((a + b) * s) out ++ (new ++ drop ((a + b) * s + s - (a + b) * s) (drop ((a + b) * s) out)))
            adding_more new x =
                let y : new ≡ in_block w i fs (take ((a + b) * (w * w) + w * w - (a + b) * (w * w)) (drop ((a + b) * (w * w)) out)) =
                x ∙ ap (λ (t : ℕ). in_block w i fs (take ((a + b) * t + t - (a + b) * t) (drop ((a + b) * t) out))) es in
                let z : k + (next - k) ≡ next = omega arith in
                record {
                  inside = l;
                  is =
                      ap (λ (t : ℕ). take ((a + b) * t) out ++ (new ++ drop ((a + b) * t + t - (a + b) * t) (drop ((a + b) * t) out))) es
                      ∙ run_adds w i (below (bit_at bits) n) (a + b) key pos there is_key alone fs all out new long y
                      ∙ ap (in_row w i (below (bit_at bits) n) fs) inv.is ∙ row_append w i (below (bit_at bits) n) (zip (take k cols) (take k vals)) fs old
                      ∙ ap (λ (es : List Entry). in_row w i (below (bit_at bits) n) es old) (sym (zip_split cols vals k (next - k)) ∙ ap (λ (m : ℕ). zip (take m cols) (take m vals)) z);
                }
