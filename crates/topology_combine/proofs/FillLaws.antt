-- The combined record as it is written, row after row. Assumes nothing.
use mathlib.Core.Bool.{true, ◌&&◌}
use mathlib.Core.List.{List, ◌++◌}
use mathlib.Core.Path.{◌≡◌, refl, sym, ap, ◌∙◌}
use Prim.Native.Nat.{ℕ, suc, ◌+◌, ◌%◌, ◌^◌, ◌≤◌, ◌<◌}
use native.Mathlib.Nat.{zero-add}
use native.Mathlib.Omega.{arith}
use lib.Dec.{leb}
use lib.ListN.{length, get_or, set}
use borrow.Author.Tests.{leb-true}
use Rattle.hybit_core.specs.Domain.{many}
use Rattle.hybit_core.proofs.BoolLaws.{and_left, and_right}
use Rattle.lent.specs.Lists.{joined}
use Rattle.lent.specs.Lent.{Appended}
use Rattle.lent.proofs.ListLaws.{joined_lengths, length-joined-suc, length-joined-le, get_or-starts, joined-suc}
use Rattle.lent.proofs.LentLaws.{Filled, filled_none, filled_more, filled_length, appended_none, appended_join}
use Rattle.word.specs.Word.{combined}
use Rattle.word.specs.declared.Operation.{Operation}
use Rattle.topology.specs.Words.{Words, member}
use Rattle.topology.specs.Calls.{as_room, fits_words}
use Rattle.topology.proofs.TopologyLaws.{topology_pointers}
use Rattle.topology_combine.specs.Combine.{combined_words}
use Rattle.topology_combine.proofs.RowsLaws.{words_at, masks_at, combined-words, combined_masks, combined_ptr, masks_long}

module _ (op : Operation) (a b : Words) where
  -- the mask list is as long as the word list
  pub masks_total : (r : ℕ) → length (joined (masks_at op a b) r) ≡ length (joined (words_at op a b) r)
  masks_total r = joined_lengths (masks_at op a b) (words_at op a b) r (masks_long op a b)

  pub pointers_long : length (combined_words op a b).ptr ≡ suc a.rows
  pointers_long = topology_pointers a.rows a.cols (λ r c. combined op (member a r c) (member b r c))

  pub pointer_at : (r : ℕ) → r ≤ a.rows → get_or (combined_words op a b).ptr r 0 ≡ length (joined (words_at op a b) r)
  pointer_at r h = ap (λ (l : List ℕ). get_or l r 0) (combined_ptr op a b) ∙ get_or-starts (words_at op a b) a.rows r h

  -- the first r rows are written, and where each starts: to is the next place
  pub record Filling (ptr₀ words₀ masks₀ : List ℕ) (r to : ℕ) (ptr words masks : List ℕ) : Type 0 where
    pub inside : r ≤ a.rows
    pub few : length (joined (words_at op a b) a.rows) ≤ 2 ^ 24
    pub ptr_room : a.rows < length ptr₀
    pub word_room : length (joined (words_at op a b) a.rows) ≤ length words₀
    pub mask_room : length (joined (words_at op a b) a.rows) ≤ length masks₀
    pub words_same : length words ≡ length words₀
    pub masks_same : length masks ≡ length masks₀
    pub pointers : Filled (λ k. get_or (combined_words op a b).ptr k 0) ptr₀ r ptr
    pub numbers : Appended (joined (words_at op a b) r) 0 to words₀ words
    pub bits : Appended (joined (masks_at op a b) r) 0 to masks₀ masks

  module _ (ptr₀ words₀ masks₀ : List ℕ) where
    pub filling_none : many (length (combined_words op a b).word) ≡ true → fits_words (combined_words op a b) (as_room (length ptr₀) (length words₀) (length masks₀)) ≡ true
        → Filling ptr₀ words₀ masks₀ 0 0 ptr₀ words₀ masks₀
    unfolding fits_words joined
    filling_none m f =
        let np : ℕ = length (combined_words op a b).ptr in
        let nw : ℕ = length (combined_words op a b).word in
        let nm : ℕ = length (combined_words op a b).mask in
        let two : (leb np (length ptr₀) && leb nw (length words₀)) ≡ true = and_left (leb np (length ptr₀) && leb nw (length words₀)) (leb nm (length masks₀)) f in
        let ew : nw ≡ length (joined (words_at op a b) a.rows) = ap length (combined-words op a b) in
        let em : nm ≡ length (joined (words_at op a b) a.rows) = ap length (combined_masks op a b) ∙ masks_total a.rows in
        let rp : np ≤ length ptr₀ = leb-true np (length ptr₀) (and_left (leb np (length ptr₀)) (leb nw (length words₀)) two) in
        let room : nw ≤ length words₀ = leb-true nw (length words₀) (and_right (leb np (length ptr₀)) (leb nw (length words₀)) two) in
        let rm : nm ≤ length masks₀ = leb-true nm (length masks₀) (and_right (leb np (length ptr₀) && leb nw (length words₀)) (leb nm (length masks₀)) f) in
        record {
          inside = omega arith;
          few = omega (arith, leb-true nw (2 ^ 24) m, ew);
          ptr_room = omega (arith, pointers_long);
          word_room = omega arith;
          mask_room = omega arith;
          words_same = refl;
          masks_same = refl;
          pointers = filled_none (λ k. get_or (combined_words op a b).ptr k 0) ptr₀;
          numbers = appended_none 0 words₀;
          bits = appended_none 0 masks₀;
        }

    module _ (r to : ℕ) (ptr words masks : List ℕ) (inv : Filling ptr₀ words₀ masks₀ r to ptr words masks) where
      pub filling_at : to ≡ length (joined (words_at op a b) r)
      filling_at = inv.numbers.next ∙ zero-add (length (joined (words_at op a b) r))

      pub filling_ptr : length ptr ≡ length ptr₀
      filling_ptr = filled_length (λ k. get_or (combined_words op a b).ptr k 0) ptr₀ r ptr inv.pointers (omega (arith, inv.inside, inv.ptr_room))

      module _ (h : r < a.rows) where
        upto : to + length (words_at op a b r) ≤ length (joined (words_at op a b) a.rows)
        upto = omega (arith, filling_at, length-joined-suc (words_at op a b) r, length-joined-le (words_at op a b) (suc r) a.rows h)

        -- the next row has room, and its pointer
        pub filling_room : (r < length ptr) × ((to + length (words_at op a b r) ≤ length words) × (to + length (words_at op a b r) ≤ length masks))
        filling_room = (
          omega (arith, filling_ptr, inv.ptr_room),
          (omega (arith, upto, inv.word_room, inv.words_same), omega (arith, upto, inv.mask_room, inv.masks_same)),
        )

        pub filling_more : (v to' : ℕ) (words' masks' new more : List ℕ) → v ≡ to % 2 ^ 32 → new ≡ words_at op a b r → more ≡ masks_at op a b r
            → Appended new to to' words words' → Appended more to to' masks masks' → length words' ≡ length words → length masks' ≡ length masks
            → Filling ptr₀ words₀ masks₀ (r + 1) to' (set ptr r v) words' masks'
        filling_more v to' words' masks' new more ev ew em aw am sw sm =
            let whole : v ≡ to = omega (arith, upto, inv.few) in
            let wr : joined (words_at op a b) r ++ new ≡ joined (words_at op a b) (r + 1) = ap (λ (l : List ℕ). joined (words_at op a b) r ++ l) ew ∙ sym (joined-suc (words_at op a b) r) in
            let mr : joined (masks_at op a b) r ++ more ≡ joined (masks_at op a b) (r + 1) = ap (λ (l : List ℕ). joined (masks_at op a b) r ++ l) em ∙ sym (joined-suc (masks_at op a b) r) in
            record {
              inside = omega arith;
              few = inv.few;
              ptr_room = inv.ptr_room;
              word_room = inv.word_room;
              mask_room = inv.mask_room;
              words_same = sw ∙ inv.words_same;
              masks_same = sm ∙ inv.masks_same;
              pointers = filled_more (λ k. get_or (combined_words op a b).ptr k 0) ptr₀ r ptr inv.pointers v (whole ∙ filling_at ∙ sym (pointer_at r inv.inside)) (omega (arith, inv.ptr_room));
              numbers = rw wr at (appended_join (joined (words_at op a b) r) new 0 to to' words₀ words words' inv.numbers aw);
              bits = rw mr at (appended_join (joined (masks_at op a b) r) more 0 to to' masks₀ masks masks' inv.bits am);
            }

      module _ (e : r ≡ a.rows) where
        pub filled_pointers : Filled (λ k. get_or (combined_words op a b).ptr k 0) ptr₀ a.rows ptr
        filled_pointers = rw e at inv.pointers

        pub filled_words : Appended (combined_words op a b).word 0 to words₀ words
        filled_words = rw (combined-words op a b) (rw e at inv.numbers)

        pub filled_masks : Appended (combined_words op a b).mask 0 to masks₀ masks
        filled_masks = rw (combined_masks op a b) (rw e at inv.bits)
