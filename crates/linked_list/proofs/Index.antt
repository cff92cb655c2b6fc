-- Insertion by index: before the node that stands there, or at the back. Assumes nothing.
use mathlib.Core.Path.{◌≡◌, sym, ap, ◌∙◌, subst}
use mathlib.Core.List.{List, [], ◌∷◌, ◌++◌}
use Prim.Native.Nat.{ℕ, suc, ◌+◌, ◌≤◌, ◌<◌}
use native.Mathlib.Omega.{arith}
use lib.ListN.{length, get_or}
use Rattle.seqs.specs.Seqs.{seq_insert_at}
use Rattle.seqs.proofs.Base.{insert_at_back}
use Rattle.linked_list.specs.Links.{at, home, lists, Linked, Rowed, row, container, list_of, insert_before}
use Rattle.linked_list.proofs.View.{Seat, seat, index_at}
use Rattle.linked_list.proofs.Getters.{at_get_d}

module _ {nc nn : ℕ} {s : List ℕ} (L : Linked nc nn s) (c i n : ℕ) (h : c < nc) where
  module _ (m : ℕ) (k : i < length (row nc nn s c)) (e : m ≡ get_or (row nc nn s c) i 0) where
    pub nth_home : (m < nn) × (get_or s (home nc nn m) 0 ≡ suc c)
    nth_home = (L.row c h).own i m (at_get_d (row nc nn s c) i k ∙ ap suc (sym e))

    pub before_nth : {s' : List ℕ} → Rowed nc nn s s' (container nc nn s m) (insert_before m n (list_of nc nn s m)) n (container nc nn s m + 1) → Rowed nc nn s s' c (seq_insert_at i n (row nc nn s c)) n (c + 1)
    before_nth {s'} R =
        let S : Seat nc nn s (lists nc nn s) c m = seat L c m nth_home.0 nth_home.1 in
        let a : at (row nc nn s c) i ≡ suc m = at_get_d (row nc nn s c) i k ∙ ap suc (sym e) in
        let same : container nc nn s m ≡ c = omega (arith, nth_home.1) in
        let w : insert_before m n (row nc nn s c) ≡ seq_insert_at i n (row nc nn s c) = ap (λ (j : ℕ). seq_insert_at j n (row nc nn s c)) (index_at m (row nc nn s c) i a (λ j g. S.only j g ∙ sym (S.only i a))) in
        subst (λ (l : List ℕ). Rowed nc nn s s' c l n (c + 1)) w (subst (λ (d : ℕ). Rowed nc nn s s' d (insert_before m n (row nc nn s d)) n (d + 1)) same R)

  pub back_nth : {s' : List ℕ} → length (row nc nn s c) ≤ i → Rowed nc nn s s' c (row nc nn s c ++ n ∷ []) n (c + 1) → Rowed nc nn s s' c (seq_insert_at i n (row nc nn s c)) n (c + 1)
  back_nth k R = rw (insert_at_back i n (row nc nn s c) k) R
