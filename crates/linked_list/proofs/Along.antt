-- What the iterator over a list has still to give. Assumes nothing.
use mathlib.Core.Path.{◌≡◌, refl, sym, ap, ◌∙◌}
use mathlib.Core.List.{List, [], ◌∷◌}
use Prim.Native.Nat.{ℕ, zero, suc, ◌+◌, ◌*◌, ◌<◌, ◌≤◌, zero-le}
use native.Mathlib.Omega.{arith}
use native.Mathlib.Numerals.{add-one}
use lib.ListN.{length, drop, get_or}
use Rattle.std.specs.Prelude.{Option, Some, None, slice_get}
use Rattle.std.proofs.lemmas.Option.{slice_get_within}
use Rattle.seqs.specs.Cells.{code, decoded}
use Rattle.linked_list.specs.Links.{at, walk, row, lists, Linked, OnRow, rest_from, next_in, row_of}
use Rattle.linked_list.proofs.View.{row_short, walk_drop, drop_at}
use Rattle.seqs.proofs.Cells.{stored}
use Rattle.linked_list.proofs.Getters.{cells, decoded_at, at_some, node_lt, next_is}

module _ {nc nn : ℕ} {s : List ℕ} where
  -- the nodes from the index i on
  rest_is : (L : Linked nc nn s) (c i : ℕ) {k : Option ℕ} → c < nc → i ≤ length (row nc nn s c) → k ≡ slice_get (row nc nn s c) i → rest_from nc nn s k ≡ drop i (row nc nn s c)
  rest_is L c i {k} c< h e =
      let R = L.row c c< in
      let w : code k ≡ at (row nc nn s c) i = stored (e ∙ sym (decoded_at (row nc nn s c) i)) in
      ap (walk nc s nn) w ∙ walk_drop R nn i h (omega (arith, row_short R))

  -- from the head on: all
  pub rest_head : (L : Linked nc nn s) (c : ℕ) {k : Option ℕ} → c < nc → k ≡ slice_get (row nc nn s c) 0 → rest_from nc nn s k ≡ row nc nn s c
  rest_head L c c< e = rest_is L c 0 c< zero-le e

  module _ {k : Option ℕ} (O : OnRow nc nn s k) where
    abbrev l : List ℕ
    l = row nc nn s O.cont

    pub rest_none : k ≡ None → rest_from nc nn s k ≡ []
    unfolding walk
    rest_none e = ap (rest_from nc nn s) e ∙ walk_none nn
      where
        walk_none : (f : ℕ) → walk nc s f 0 ≡ []
        walk_none zero = refl
        walk_none (suc f) = refl

    module _ {n : ℕ} (e : k ≡ Some n) where
      there : slice_get l O.index ≡ Some n
      there = sym O.there ∙ e

      pub on_lt : n < nn
      on_lt = node_lt O.linked O.cont< O.index there

      -- what is stored after it
      pub link : {i : ℕ} → i ≡ 2 * nc + n → decoded (get_or s i 0) ≡ next_in n (row_of n (lists nc nn s))
      link q = ap (λ i. decoded (get_or s i 0)) q ∙ (cells O.linked n on_lt).next

      module _ {j : Option ℕ} (N : j ≡ next_in n (row_of n (lists nc nn s))) where
        after : j ≡ slice_get l (O.index + 1)
        after = N ∙ next_is O.linked O.cont< O.index there

        within : O.index < length l
        within = slice_get_within l O.index n there

        pub on_next : OnRow nc nn s j
        on_next = record { linked = O.linked; cont = O.cont; index = O.index + 1; cont< = O.cont<; index≤ = omega (arith, within); there = after }

        pub rest_next : rest_from nc nn s k ≡ n ∷ rest_from nc nn s j
        rest_next =
            rest_is O.linked O.cont O.index O.cont< O.index≤ O.there
            ∙ drop_at l O.index n (at_some l O.index there)
            ∙ rw (← add-one O.index) (ap (λ (r : List ℕ). n ∷ r) (sym (rest_is O.linked O.cont (O.index + 1) O.cont< (omega (arith, within)) after)))
