-- The lists that s holds are `lists nc nn s`; where a linked node is; and what each update does to the lists. Assumes nothing.
use mathlib.Core.Path.{◌≡◌, refl, sym, ap, ◌∙◌}
use mathlib.Core.Logic.{◌⊎◌, inl, inr, ◌≢◌, if_pos, if_neg}
use mathlib.Core.List.{List, [], ◌∷◌, ◌++◌}
use Prim.Native.Nat.{ℕ, zero, suc, ◌+◌, ◌*◌, ◌<◌, ◌≤◌, zero-le, suc-le-suc}
use native.Mathlib.Nat.{le_of_suc-le-suc, not-suc-le-zero, suc_inj}
use native.Mathlib.Omega.{arith}
use native.Mathlib.Decide.{ℕ_discrete}
use lib.ListN.{length, get_or, set, drop, length-set, drop_of_length-le}
use lib.Seq.{ext_get_or, get_or-set_same, get_or-set_other}
use Rattle.seqs.specs.Seqs.{seq_insert_at, without, index_of}
use Rattle.seqs.proofs.Base.{length_insert_at, insert_at_back}
use Rattle.linked_list.specs.Links.{at, place, after, before, home, Row, Free, Held, Links, Linked, Homes, Rowed, walk, tab, lists, row, container, list_of, insert_after, insert_before, splice, put_in, taken_out_of}
use Rattle.linked_list.proofs.Laws.{after_home, before_home, sh, at_sh, place_ins_le, at_ins_gt, at_lt, at_out, at_end, at_inj, mine_le, place_mine, at_mine, links_insert, links_delete}

-- ---- the first n of l, found or not

pub find : (n : ℕ) (l : List ℕ) → ((i : ℕ) × (at l i ≡ suc n)) ⊎ ((i : ℕ) → at l i ≢ suc n)
find n [] = inr (λ i e. omega arith)
find n (x ∷ xs) = go (ℕ_discrete x n) (find n xs)
  where
    go : Dec (x ≡ n) → ((i : ℕ) × (at xs i ≡ suc n)) ⊎ ((i : ℕ) → at xs i ≢ suc n) → ((i : ℕ) × (at (x ∷ xs) i ≡ suc n)) ⊎ ((i : ℕ) → at (x ∷ xs) i ≢ suc n)
    go (yes e) h = inl (zero, ap suc e)
    go (no f) (inl (i, e)) = inl (suc i, e)
    go (no f) (inr h) = inr (λ i. none_of i)
      where
        none_of : (i : ℕ) → at (x ∷ xs) i ≢ suc n
        none_of zero e = f (suc_inj e)
        none_of (suc i) e = h i e

-- l has n at i: l without it, with it put back
pub out_of : (l : List ℕ) (i n : ℕ) → at l i ≡ suc n → (l₀ : List ℕ) × (l ≡ seq_insert_at i n l₀) × (i ≤ length l₀)
out_of [] i n e = absurd (omega arith)
out_of (x ∷ xs) zero n e = (xs, ap (λ (k : ℕ). k ∷ xs) (suc_inj e), zero-le)
out_of (x ∷ xs) (suc i) n e = let (l₀, w, h) = out_of xs i n e in (x ∷ l₀, ap (λ (r : List ℕ). x ∷ r) w, suc-le-suc h)

sh_inj : (i j k : ℕ) → sh i j ≡ sh i k → j ≡ k
sh_inj zero j k e = suc_inj e
sh_inj (suc i) zero zero e = refl
sh_inj (suc i) zero (suc k) e = omega arith
sh_inj (suc i) (suc j) zero e = omega arith
sh_inj (suc i) (suc j) (suc k) e = ap suc (sh_inj i j k (suc_inj e))

sh_ne : (i j : ℕ) → sh i j ≢ i
sh_ne zero j e = omega arith
sh_ne (suc i) zero e = omega arith
sh_ne (suc i) (suc j) e = sh_ne i j (suc_inj e)

-- ---- different numbers below n are at most n

pub pigeon : (n : ℕ) (l : List ℕ) → ((i x : ℕ) → at l i ≡ suc x → x < n) → ((i j x : ℕ) → at l i ≡ suc x → at l j ≡ suc x → i ≡ j) → length l ≤ n
pigeon zero [] low one = zero-le
pigeon zero (x ∷ xs) low one = absurd (not-suc-le-zero (low zero x refl))
pigeon (suc n) l low one = go (find n l) (pigeon n)
  where
    go : ((i : ℕ) × (at l i ≡ suc n)) ⊎ ((i : ℕ) → at l i ≢ suc n)
        → ((r : List ℕ) → ((i x : ℕ) → at r i ≡ suc x → x < n) → ((i j x : ℕ) → at r i ≡ suc x → at r j ≡ suc x → i ≡ j) → length r ≤ n) → length l ≤ suc n
    go (inl (i, e)) rec =
        let (r, w, h) = out_of l i n e in
        let back : (j : ℕ) → at l (sh i j) ≡ at r j = λ j. ap (λ (k : List ℕ). at k (sh i j)) w ∙ at_sh i n r j h in
        let short : length r ≤ n = rec r
        (λ j x f.
        let a : x < suc n = low (sh i j) x (back j ∙ f) in
        let b : x ≢ n = λ q. sh_ne i j (one (sh i j) i n (back j ∙ f ∙ ap suc q) e) in
        omega arith)
        (λ j k x f g. sh_inj i j k (one (sh i j) (sh i k) x (back j ∙ f) (back k ∙ g))) in
        omega (arith, ap length w, length_insert_at i n r)
    go (inr f) rec =
        let short : length l ≤ n = rec l (λ i x e. let a : x < suc n = low i x e in let b : x ≢ n = λ q. f i (e ∙ ap suc q) in omega arith) one in
        omega arith

pub row_short : {nc nn c : ℕ} {s l : List ℕ} → Row nc nn s c l → length l ≤ nn
row_short {nn} {l} R =
    pigeon nn l (λ i x e. (R.own i x e).0)
    (λ i j x e f. at_inj R i j (omega (arith, at_lt l i x e)) (omega (arith, at_lt l j x f)) (e ∙ sym f))

-- ---- a walk along next reads the list

pub drop_at : (l : List ℕ) (i x : ℕ) → at l i ≡ suc x → drop i l ≡ x ∷ drop (suc i) l
drop_at [] i x e = absurd (omega arith)
drop_at (y ∷ ys) zero x e = ap (λ (k : ℕ). k ∷ ys) (suc_inj e)
drop_at (y ∷ ys) (suc i) x e = drop_at ys i x e

module _ {nc nn c : ℕ} {s l : List ℕ} (R : Row nc nn s c l) where
  pub walk_drop : (f i : ℕ) → i ≤ length l → length l ≤ i + f → walk nc s f (at l i) ≡ drop i l
  unfolding walk
  walk_drop zero i h k = sym (drop_of_length-le l {i = i} (omega arith))
  walk_drop (suc f) i h k = go (at l i) refl (λ b. walk_drop f (suc i) b (omega arith))
    where
      go : (a : ℕ) → at l i ≡ a → (suc i ≤ length l → walk nc s f (at l (suc i)) ≡ drop (suc i) l) → walk nc s (suc f) a ≡ drop i l
      go zero e rec = sym (drop_of_length-le l {i = i} (at_end l i e))
      go (suc x) e rec =
          let b : i < length l = at_lt l i x e in
          ap (λ (r : List ℕ). x ∷ r) (ap (walk nc s f) (rw e at (R.next (suc i) b)) ∙ rec b) ∙ sym (drop_at l i x e)

pub get_d_tab : (n : ℕ) (f : ℕ → List ℕ) (i : ℕ) → i < n → get_or (tab n f) i [] ≡ f i
unfolding tab
get_d_tab zero f i h = absurd (not-suc-le-zero h)
get_d_tab (suc n) f zero h = refl
get_d_tab (suc n) f (suc i) h = get_d_tab n (λ k. f (suc k)) i (le_of_suc-le-suc h)

pub length_tab : (n : ℕ) (f : ℕ → List ℕ) → length (tab n f) ≡ n
unfolding tab
length_tab zero f = refl
length_tab (suc n) f = ap suc (length_tab n (λ k. f (suc k)))

pub lists_count : (nc nn : ℕ) (s : List ℕ) → length (lists nc nn s) ≡ nc
unfolding lists
lists_count nc nn s = length_tab nc (λ c. walk nc s nn (get_or s c 0))

pub row_is : {nc nn c : ℕ} {s l : List ℕ} → Row nc nn s c l → walk nc s nn (get_or s c 0) ≡ l
row_is {nc} {nn} {c} {s} {l} R = ap (walk nc s nn) (R.next zero zero-le) ∙ walk_drop R nn zero zero-le (omega (arith, row_short R))

pub lists_is : {nc nn : ℕ} {s : List ℕ} {ls : List (List ℕ)} → Links nc nn s ls → lists nc nn s ≡ ls
unfolding lists
lists_is {nc} {nn} {s} {ls} L =
    ext_get_or [] (lists nc nn s) ls (lists_count nc nn s ∙ sym L.count) (λ c h.
    let c< : c < nc = rw (lists_count nc nn s) at h in
    get_d_tab nc _ c c< ∙ row_is (L.row c c<))

-- ---- the list without m, and m's index: m is at i, and nowhere else

module _ (m : ℕ) where
  without_none : (l : List ℕ) → ((j : ℕ) → at l j ≢ suc m) → without ℕ_discrete m l ≡ l
  without_none [] f = refl
  without_none (x ∷ xs) f = rw (if_neg (ℕ_discrete x m) (λ e. f zero (ap suc e)) (without ℕ_discrete m xs) (x ∷ without ℕ_discrete m xs)) (ap (λ (r : List ℕ). x ∷ r) (without_none xs (λ j. f (suc j))))

  pub without_at : (l : List ℕ) (i : ℕ) → at l i ≡ suc m → ((j : ℕ) → at l j ≡ suc m → j ≡ i) → (l ≡ seq_insert_at i m (without ℕ_discrete m l)) × (i ≤ length (without ℕ_discrete m l))
  without_at [] i e only = absurd (omega arith)
  without_at (x ∷ xs) zero e only =
      rw (if_pos (ℕ_discrete x m) (suc_inj e) (without ℕ_discrete m xs) (x ∷ without ℕ_discrete m xs), without_none xs (λ j f. omega (arith, only (suc j) f)))
      (ap (λ (k : ℕ). k ∷ xs) (suc_inj e), zero-le)
  without_at (x ∷ xs) (suc i) e only =
      let (w, h) = without_at xs i e (λ j f. suc_inj (only (suc j) f)) in
      rw (if_neg (ℕ_discrete x m) (λ q. omega (arith, only zero (ap suc q))) (without ℕ_discrete m xs) (x ∷ without ℕ_discrete m xs)) (ap (λ (r : List ℕ). x ∷ r) w, suc-le-suc h)

  pub index_at : (l : List ℕ) (i : ℕ) → at l i ≡ suc m → ((j : ℕ) → at l j ≡ suc m → j ≡ i) → index_of ℕ_discrete m l ≡ i
  index_at [] i e only = absurd (omega arith)
  index_at (x ∷ xs) zero e only = if_pos (ℕ_discrete x m) (suc_inj e) zero (suc (index_of ℕ_discrete m xs))
  index_at (x ∷ xs) (suc i) e only =
      if_neg (ℕ_discrete x m) (λ q. omega (arith, only zero (ap suc q))) zero (suc (index_of ℕ_discrete m xs)) ∙ ap suc (index_at xs i e (λ j f. suc_inj (only (suc j) f)))

-- ---- where a linked node is

pub record Seat (nc nn : ℕ) (s : List ℕ) (ls : List (List ℕ)) (c n : ℕ) : Type 0 where
  pub c< : c < nc
  pub index : ℕ
  pub index< : index < length (get_or ls c [])
  pub there : at (get_or ls c []) index ≡ suc n
  pub prev_is : get_or s (2 * nc + nn + n) 0 ≡ place (get_or ls c []) index
  pub next_is : get_or s (2 * nc + n) 0 ≡ at (get_or ls c []) (suc index)
  pub only : (j : ℕ) → at (get_or ls c []) j ≡ suc n → j ≡ index
  pub apart : (d : ℕ) → d < nc → d ≢ c → (j : ℕ) → at (get_or ls d []) j ≢ suc n

pub seat : {nc nn : ℕ} {s : List ℕ} {ls : List (List ℕ)} → Links nc nn s ls → (c n : ℕ) → n < nn → get_or s (home nc nn n) 0 ≡ suc c → Seat nc nn s ls c n
seat {nc} {nn} {s} {ls} L c n n< says = go (L.node n n<)
  where
    at_c : (i : ℕ) → c < nc → at (get_or ls c []) i ≡ suc n → Seat nc nn s ls c n
    at_c i c< e =
        let R = L.row c c< in
        let i< = at_lt (get_or ls c []) i n e in
        record {
          c< = c<;
          index = i;
          index< = i<;
          there = e;
          prev_is = rw e at (R.prev i (omega arith));
          next_is = rw e at (R.next (suc i) i<);
          only = λ j f. at_inj R j i (omega (arith, at_lt (get_or ls c []) j n f)) (omega arith) (f ∙ sym e);
          apart = λ d d< w j f. w (suc_inj (sym ((L.row d d<).own j n f).1 ∙ says));
        }

    go : Free nc nn s n ⊎ Held nc ls n → Seat nc nn s ls c n
    go (inl F) = absurd (omega (arith, F.home0))
    go (inr H) =
        let same : H.cont ≡ c = suc_inj (sym ((L.row H.cont H.cont<).own H.index n H.there).1 ∙ says) in
        at_c H.index (rw same at H.cont<) (rw same at H.there)

-- ---- what each update does to the lists

pub homes : (nc nn c p q n u v x y z : ℕ) (s : List ℕ) → length s ≡ 2 * nc + 3 * nn → c < nc → p ≤ nn → q ≤ nn → n < nn → Homes nc nn s (splice nc nn c p q n u v x y z s) n z
unfolding splice
homes nc nn c p q n u v x y z s size c< p≤ q≤ n< = record {
  mine =
      let h : home nc nn n < length (set (set (set (set s (after nc p c) u) (before nc nn q c) v) (2 * nc + n) x) (2 * nc + nn + n) y) = simp length-set (omega arith) in
      simp get_or-set_same;
  others = λ m o.
      let h₁ : home nc nn m ≢ home nc nn n = omega arith in
      let h₂ : home nc nn m ≢ 2 * nc + nn + n = omega arith in
      let h₃ : home nc nn m ≢ 2 * nc + n = omega arith in
      let h₄ : home nc nn m ≢ before nc nn q c = λ e. before_home nc nn q c m c< q≤ (sym e) in
      let h₅ : home nc nn m ≢ after nc p c = λ e. after_home nc nn p c m c< p≤ (sym e) in
      simp get_or-set_other;
}

module _ {nc nn : ℕ} {s : List ℕ} (L : Linked nc nn s) where
  rowed : {s' : List ℕ} {l : List ℕ} {c n v : ℕ} → c < nc → Links nc nn s' (set (lists nc nn s) c l) → Homes nc nn s s' n v → Rowed nc nn s s' c l n v
  rowed h K H = record { linked = rw (lists_is K) K; c< = h; row = lists_is K; homes = H }

  -- n, in no list, comes to stand between the codes p and q at index i of c's list
  inserts : (c i n p q : ℕ) → c < nc → n < nn → get_or s (home nc nn n) 0 ≡ 0 → i ≤ length (row nc nn s c) → place (row nc nn s c) i ≡ p → at (row nc nn s c) i ≡ q
      → Rowed nc nn s (put_in nc nn c p q n s) c (seq_insert_at i n (row nc nn s c)) n (suc c)
  inserts c i n p q c< n< lone i≤ pe qe =
      let R = L.row c c< in
      rw (← pe, ← qe)
      (rowed c< (links_insert L c c< i n i≤ n< lone)
      (homes nc nn c (place (row nc nn s c) i) (at (row nc nn s c) i) n _ _ _ _ (suc c) s L.size c< (mine_le (place_mine R i)) (mine_le (at_mine R i)) n<))

  -- a linked node says its container
  says : (n : ℕ) → 0 < get_or s (home nc nn n) 0 → get_or s (home nc nn n) 0 ≡ suc (container nc nn s n)
  says n h = omega arith

  pub seated : (n : ℕ) → n < nn → 0 < get_or s (home nc nn n) 0 → Seat nc nn s (lists nc nn s) (container nc nn s n) n
  seated n n< h = seat L (container nc nn s n) n n< (says n h)

  pub unlinks : (n : ℕ) → n < nn → 0 < get_or s (home nc nn n) 0
      → Rowed nc nn s (taken_out_of nc nn (container nc nn s n) (get_or s (2 * nc + nn + n) 0) (get_or s (2 * nc + n) 0) n s) (container nc nn s n) (without ℕ_discrete n (list_of nc nn s n)) n 0
  unlinks n n< h = go (container nc nn s n) (seated n n< h)
    where
      go : (c : ℕ) → Seat nc nn s (lists nc nn s) c n
          → Rowed nc nn s (taken_out_of nc nn c (get_or s (2 * nc + nn + n) 0) (get_or s (2 * nc + n) 0) n s) c (without ℕ_discrete n (row nc nn s c)) n 0
      go c S =
          let l = row nc nn s c in
          let r = without ℕ_discrete n l in
          let i = S.index in
          let R = L.row c S.c< in
          let (w, h) = without_at n l i S.there S.only in
          let pe : place r i ≡ get_or s (2 * nc + nn + n) 0 = sym (place_ins_le i n r i h (omega arith)) ∙ ap (λ (x : List ℕ). place x i) (sym w) ∙ sym S.prev_is in
          let qe : at r i ≡ get_or s (2 * nc + n) 0 = sym (at_ins_gt i n r i h (omega arith)) ∙ ap (λ (x : List ℕ). at x (suc i)) (sym w) ∙ sym S.next_is in
          rowed S.c< (rw (← pe, ← qe) (links_delete L c S.c< i n r h w))
          (homes nc nn c (get_or s (2 * nc + nn + n) 0) (get_or s (2 * nc + n) 0) n _ _ _ _ 0 s L.size S.c< (rw S.prev_is (mine_le (place_mine R i))) (rw S.next_is (mine_le (at_mine R (suc i)))) n<)

  module _ (n : ℕ) (n< : n < nn) (lone : get_or s (home nc nn n) 0 ≡ 0) where
    -- at the index after the mark m's, and at its own
    module _ (m : ℕ) (m< : m < nn) (held : 0 < get_or s (home nc nn m) 0) where
      abbrev c : ℕ
      c = container nc nn s m

      pub inserts_after : Rowed nc nn s (put_in nc nn c (suc m) (get_or s (2 * nc + m) 0) n s) c (insert_after m n (row nc nn s c)) n (suc c)
      inserts_after =
          let S = seated m m< held in
          rw (index_at m (row nc nn s c) S.index S.there S.only)
          (inserts c (suc S.index) n (suc m) (get_or s (2 * nc + m) 0) S.c< n< lone S.index< S.there (sym S.next_is))

      pub inserts_before : Rowed nc nn s (put_in nc nn c (get_or s (2 * nc + nn + m) 0) (suc m) n s) c (insert_before m n (row nc nn s c)) n (suc c)
      inserts_before =
          let S = seated m m< held in
          let lt = S.index< in
          rw (index_at m (row nc nn s c) S.index S.there S.only)
          (inserts c S.index n (get_or s (2 * nc + nn + m) 0) (suc m) S.c< n< lone (omega arith) (sym S.prev_is) S.there)

    pub inserts_front : (c : ℕ) → c < nc → Rowed nc nn s (put_in nc nn c 0 (get_or s c 0) n s) c (n ∷ row nc nn s c) n (suc c)
    inserts_front c c< = inserts c zero n 0 (get_or s c 0) c< n< lone zero-le refl (sym ((L.row c c<).next zero zero-le))

    pub inserts_back : (c : ℕ) → c < nc → Rowed nc nn s (put_in nc nn c (get_or s (nc + c) 0) 0 n s) c (row nc nn s c ++ n ∷ []) n (suc c)
    inserts_back c c< =
        let l = row nc nn s c in
        let qe : at l (length l) ≡ 0 = at_out l (length l) (omega arith) in
        rw (← insert_at_back (length l) n l (omega arith))
        (inserts c (length l) n (get_or s (nc + c) 0) 0 c< n< lone (omega arith) (sym (rw qe at ((L.row c c<).prev (length l) (omega arith)))) qe)

-- ---- the ranges that the code needs

pub record Ranges (nc nn : ℕ) (s : List ℕ) (n : ℕ) : Type 0 where
  pub c< : container nc nn s n < nc
  pub prev≤ : get_or s (2 * nc + nn + n) 0 ≤ nn
  pub next≤ : get_or s (2 * nc + n) 0 ≤ nn

pub ranges : {nc nn : ℕ} {s : List ℕ} → Linked nc nn s → (n : ℕ) → n < nn → 0 < get_or s (home nc nn n) 0 → Ranges nc nn s n
ranges {nc} {nn} {s} L n n< held =
    let S = seated L n n< held in
    let R = L.row (container nc nn s n) S.c< in
    record {
      c< = S.c<;
      prev≤ = rw S.prev_is (mine_le (place_mine R S.index));
      next≤ = rw S.next_is (mine_le (at_mine R (suc S.index)));
    }

pub record Ends (nc nn : ℕ) (s : List ℕ) (c : ℕ) : Type 0 where
  pub head≤ : get_or s c 0 ≤ nn
  pub tail≤ : get_or s (nc + c) 0 ≤ nn

pub ends : {nc nn : ℕ} {s : List ℕ} {ls : List (List ℕ)} → Links nc nn s ls → (c : ℕ) → c < nc → Ends nc nn s c
ends {nc} {nn} {s} {ls} L c c< =
    let R = L.row c c< in
    let l = get_or ls c [] in
    let qe : at l (length l) ≡ 0 = at_out l (length l) (omega arith) in
    record {
      head≤ = rw (R.next zero zero-le) (mine_le (at_mine R zero));
      tail≤ = rw (rw qe at (R.prev (length l) (omega arith))) (mine_le (place_mine R (length l)));
    }
