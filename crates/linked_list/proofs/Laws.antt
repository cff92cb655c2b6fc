-- Laws of `Links`: what the five stores leave, one list after an insertion and a deletion, all the lists, and that s has one such ls.
-- Assumes nothing.
use mathlib.Core.Path.{◌≡◌, refl, sym, ap, ◌∙◌}
use mathlib.Core.Logic.{◌⊎◌, inl, inr, ◌≢◌}
use mathlib.Core.List.{List, [], ◌∷◌}
use Prim.Native.Nat.{ℕ, zero, suc, ◌+◌, ◌-◌, ◌*◌, ◌<◌, ◌≤◌, zero-le, suc-le-suc}
use native.Mathlib.Nat.{le_of_suc-le-suc, not-suc-le-zero, suc_inj}
use native.Mathlib.Omega.{arith}
use native.Mathlib.Decide.{ℕ_discrete}
use lib.ListN.{length, get_or, set, length-set}
use lib.Seq.{get_or-set_same, get_or-set_other}
use Rattle.seqs.specs.Seqs.{seq_insert_at}
use Rattle.seqs.proofs.Base.{length_insert_at}
use Rattle.linked_list.specs.Links.{at, place, after, before, home, Row, Free, Held, Links, splice, put_in, taken_out_of}

-- ---- codes

pub at_in : (l : List ℕ) (i : ℕ) → i < length l → (x : ℕ) × (at l i ≡ suc x)
at_in [] i h = absurd (not-suc-le-zero h)
at_in (y ∷ ys) zero h = (y, refl)
at_in (y ∷ ys) (suc i) h = at_in ys i (le_of_suc-le-suc h)

pub at_lt : (l : List ℕ) (i x : ℕ) → at l i ≡ suc x → i < length l
at_lt [] i x e = omega arith
at_lt (y ∷ ys) zero x e = suc-le-suc zero-le
at_lt (y ∷ ys) (suc i) x e = suc-le-suc (at_lt ys i x e)

pub at_out : (l : List ℕ) (i : ℕ) → length l ≤ i → at l i ≡ 0
at_out [] i h = refl
at_out (y ∷ ys) zero h = absurd (not-suc-le-zero h)
at_out (y ∷ ys) (suc i) h = at_out ys i (le_of_suc-le-suc h)

pub at_end : (l : List ℕ) (i : ℕ) → at l i ≡ 0 → length l ≤ i
at_end [] i e = zero-le
at_end (y ∷ ys) zero e = omega arith
at_end (y ∷ ys) (suc i) e = suc-le-suc (at_end ys i e)

-- ---- l with n put in at index i

pub at_ins_lt : (i n : ℕ) (l : List ℕ) (j : ℕ) → i ≤ length l → j < i → at (seq_insert_at i n l) j ≡ at l j
at_ins_lt zero n l j b h = absurd (not-suc-le-zero h)
at_ins_lt (suc i) n [] j b h = absurd (not-suc-le-zero b)
at_ins_lt (suc i) n (x ∷ xs) zero b h = refl
at_ins_lt (suc i) n (x ∷ xs) (suc j) b h = at_ins_lt i n xs j (le_of_suc-le-suc b) (le_of_suc-le-suc h)

pub at_ins_eq : (i n : ℕ) (l : List ℕ) → i ≤ length l → at (seq_insert_at i n l) i ≡ suc n
at_ins_eq zero n l b = refl
at_ins_eq (suc i) n [] b = absurd (not-suc-le-zero b)
at_ins_eq (suc i) n (x ∷ xs) b = at_ins_eq i n xs (le_of_suc-le-suc b)

pub at_ins_gt : (i n : ℕ) (l : List ℕ) (j : ℕ) → i ≤ length l → i ≤ j → at (seq_insert_at i n l) (suc j) ≡ at l j
at_ins_gt zero n l j b h = refl
at_ins_gt (suc i) n [] j b h = absurd (not-suc-le-zero b)
at_ins_gt (suc i) n (x ∷ xs) zero b h = absurd (not-suc-le-zero h)
at_ins_gt (suc i) n (x ∷ xs) (suc j) b h = at_ins_gt i n xs j (le_of_suc-le-suc b) (le_of_suc-le-suc h)

pub place_ins_le : (i n : ℕ) (l : List ℕ) (j : ℕ) → i ≤ length l → j ≤ i → place (seq_insert_at i n l) j ≡ place l j
place_ins_le i n l zero b h = refl
place_ins_le i n l (suc j) b h = at_ins_lt i n l j b h

-- where l's index j is once n is put in at i: every index but i
abbrev pub sh : ℕ → ℕ → ℕ
sh zero j = suc j
sh (suc i) zero = zero
sh (suc i) (suc j) = suc (sh i j)

pub at_sh : (i n : ℕ) (l : List ℕ) (j : ℕ) → i ≤ length l → at (seq_insert_at i n l) (sh i j) ≡ at l j
at_sh zero n l j b = refl
at_sh (suc i) n [] j b = absurd (not-suc-le-zero b)
at_sh (suc i) n (x ∷ xs) zero b = refl
at_sh (suc i) n (x ∷ xs) (suc j) b = at_sh i n xs j (le_of_suc-le-suc b)

-- and back: what is in l with n put in, and is not n, is in l
pub unshift : (i n : ℕ) (l : List ℕ) (m k : ℕ) → i ≤ length l → m ≢ n → at (seq_insert_at i n l) k ≡ suc m → (j : ℕ) × (at l j ≡ suc m)
unshift zero n l m zero b f e = absurd (f (suc_inj (sym e)))
unshift zero n l m (suc k) b f e = (k, e)
unshift (suc i) n [] m k b f e = absurd (not-suc-le-zero b)
unshift (suc i) n (x ∷ xs) m zero b f e = (zero, e)
unshift (suc i) n (x ∷ xs) m (suc k) b f e = let (j, w) = unshift i n xs m k (le_of_suc-le-suc b) f e in (suc j, w)

-- how j stands to i: before it, at it, just after it, further on
pub data Spot : ℕ → ℕ → Type 0 where
  left : {i j : ℕ} → j < i → Spot i j
  here : {i : ℕ} → Spot i i
  next : {i : ℕ} → Spot i (suc i)
  right : {i k : ℕ} → i ≤ k → Spot i (suc (suc k))

spot_suc : {i j : ℕ} → Spot i j → Spot (suc i) (suc j)
spot_suc (left h) = left (suc-le-suc h)
spot_suc here = here
spot_suc next = next
spot_suc (right h) = right (suc-le-suc h)

pub spot : (i j : ℕ) → Spot i j
spot zero zero = here
spot zero (suc zero) = next
spot zero (suc (suc k)) = right zero-le
spot (suc i) zero = left (suc-le-suc zero-le)
spot (suc i) (suc j) = spot_suc (spot i j)

-- ---- the places of s do not meet

after_before : (nc nn p c q d : ℕ) → c < nc → d < nc → p ≤ nn → q ≤ nn → after nc p c ≢ before nc nn q d
after_before nc nn zero c zero d hc hd hp hq = omega arith
after_before nc nn zero c (suc q) d hc hd hp hq = omega arith
after_before nc nn (suc p) c zero d hc hd hp hq = omega arith
after_before nc nn (suc p) c (suc q) d hc hd hp hq = omega arith

pub after_home : (nc nn p c m : ℕ) → c < nc → p ≤ nn → after nc p c ≢ home nc nn m
after_home nc nn zero c m hc hp = omega arith
after_home nc nn (suc p) c m hc hp = omega arith

pub before_home : (nc nn q c m : ℕ) → c < nc → q ≤ nn → before nc nn q c ≢ home nc nn m
before_home nc nn zero c m hc hp = omega arith
before_home nc nn (suc p) c m hc hp = omega arith

after_node : (nc p c n : ℕ) → c < nc → p ≢ suc n → after nc p c ≢ 2 * nc + n
after_node nc zero c n hc h = omega arith
after_node nc (suc p) c n hc h = omega arith

before_node : (nc nn q c n : ℕ) → c < nc → q ≢ suc n → before nc nn q c ≢ 2 * nc + nn + n
before_node nc nn zero c n hc h = omega arith
before_node nc nn (suc p) c n hc h = omega arith

after_lt : (nc nn p c : ℕ) → c < nc → p ≤ nn → after nc p c < 2 * nc + 3 * nn
after_lt nc nn zero c hc hp = omega arith
after_lt nc nn (suc p) c hc hp = omega arith

before_lt : (nc nn q c : ℕ) → c < nc → q ≤ nn → before nc nn q c < 2 * nc + 3 * nn
before_lt nc nn zero c hc hp = omega arith
before_lt nc nn (suc p) c hc hp = omega arith

-- a code of container c: none, or a node that says c
pub data Mine (nc nn : ℕ) (s : List ℕ) (c : ℕ) : ℕ → Type 0 where
  none : Mine nc nn s c 0
  some : {x : ℕ} → x < nn → get_or s (home nc nn x) 0 ≡ suc c → Mine nc nn s c (suc x)

pub mine_le : {nc nn c p : ℕ} {s : List ℕ} → Mine nc nn s c p → p ≤ nn
mine_le none = zero-le
mine_le (some h e) = h

pub mine_ne : {nc nn c p : ℕ} {s : List ℕ} → Mine nc nn s c p → (n : ℕ) → get_or s (home nc nn n) 0 ≢ suc c → p ≢ suc n
mine_ne none n h e = omega arith
mine_ne {nc} {nn} {c} {s = s} (some {x} k w) n h e = h (ap (λ (m : ℕ). get_or s (home nc nn m) 0) (sym (suc_inj e)) ∙ w)

-- between the codes p and q of container c there is room for the node n, which is neither
pub record Cut (nc nn : ℕ) (s : List ℕ) (c p q n : ℕ) : Type 0 where
  pub size : length s ≡ 2 * nc + 3 * nn
  pub c< : c < nc
  pub n< : n < nn
  pub P : Mine nc nn s c p
  pub Q : Mine nc nn s c q
  pub p≢ : p ≢ suc n
  pub q≢ : q ≢ suc n

-- ---- what the five stores leave

module _ {nc nn c p q n : ℕ} {s : List ℕ} (B : Cut nc nn s c p q n) (u v x y z : ℕ) where
  open B use {size, c<, n<, P, Q, p≢, q≢}

  p≤ : p ≤ nn
  p≤ = mine_le P

  q≤ : q ≤ nn
  q≤ = mine_le Q

  pub length_splice : length (splice nc nn c p q n u v x y z s) ≡ 2 * nc + 3 * nn
  unfolding splice
  length_splice = simp length-set size

  pub after_same : get_or (splice nc nn c p q n u v x y z s) (after nc p c) 0 ≡ u
  unfolding splice
  after_same =
      let h₁ = after_home nc nn p c n c< p≤ in
      let h₂ = after_before nc nn p c (suc n) c c< c< p≤ n< in
      let h₃ = after_node nc p c n c< p≢ in
      let h₄ = after_before nc nn p c q c c< c< p≤ q≤ in
      let h₅ : after nc p c < length s = omega (arith, after_lt nc nn p c c< p≤) in
      simp (get_or-set_same, get_or-set_other)

  pub before_same : get_or (splice nc nn c p q n u v x y z s) (before nc nn q c) 0 ≡ v
  unfolding splice
  before_same =
      let h₁ = before_home nc nn q c n c< q≤ in
      let h₂ = before_node nc nn q c n c< q≢ in
      let h₃ : before nc nn q c ≢ 2 * nc + n = λ e. after_before nc nn (suc n) c q c c< c< n< q≤ (sym e) in
      let h₅ : before nc nn q c < length (set s (after nc p c) u) = simp length-set (omega (arith, before_lt nc nn q c c< q≤)) in
      simp (get_or-set_same, get_or-set_other)

  pub node_next : get_or (splice nc nn c p q n u v x y z s) (2 * nc + n) 0 ≡ x
  unfolding splice
  node_next =
      let h₁ : 2 * nc + n ≢ home nc nn n = omega arith in
      let h₂ : 2 * nc + n ≢ 2 * nc + nn + n = omega arith in
      let h₅ : 2 * nc + n < length (set (set s (after nc p c) u) (before nc nn q c) v) = simp length-set (omega arith) in
      simp (get_or-set_same, get_or-set_other)

  pub node_prev : get_or (splice nc nn c p q n u v x y z s) (2 * nc + nn + n) 0 ≡ y
  unfolding splice
  node_prev =
      let h₁ : 2 * nc + nn + n ≢ home nc nn n = omega arith in
      let h₅ : 2 * nc + nn + n < length (set (set (set s (after nc p c) u) (before nc nn q c) v) (2 * nc + n) x) = simp length-set (omega arith) in
      simp (get_or-set_same, get_or-set_other)

  pub node_home : get_or (splice nc nn c p q n u v x y z s) (home nc nn n) 0 ≡ z
  unfolding splice
  node_home =
      let h₅ : home nc nn n < length (set (set (set (set s (after nc p c) u) (before nc nn q c) v) (2 * nc + n) x) (2 * nc + nn + n) y) = simp length-set (omega arith) in
      simp get_or-set_same

  pub after_other : (p' c' : ℕ) → c' < nc → p' ≤ nn → p' ≢ suc n → after nc p' c' ≢ after nc p c
      → get_or (splice nc nn c p q n u v x y z s) (after nc p' c') 0 ≡ get_or s (after nc p' c') 0
  unfolding splice
  after_other p' c' k l m w =
      let h₁ = after_home nc nn p' c' n k l in
      let h₂ = after_before nc nn p' c' (suc n) c k c< l n< in
      let h₃ = after_node nc p' c' n k m in
      let h₄ = after_before nc nn p' c' q c k c< l q≤ in
      simp get_or-set_other

  pub before_other : (q' c' : ℕ) → c' < nc → q' ≤ nn → q' ≢ suc n → before nc nn q' c' ≢ before nc nn q c
      → get_or (splice nc nn c p q n u v x y z s) (before nc nn q' c') 0 ≡ get_or s (before nc nn q' c') 0
  unfolding splice
  before_other q' c' k l m w =
      let h₁ = before_home nc nn q' c' n k l in
      let h₂ = before_node nc nn q' c' n k m in
      let h₃ : before nc nn q' c' ≢ 2 * nc + n = λ e. after_before nc nn (suc n) c q' c' c< k n< l (sym e) in
      let h₄ : before nc nn q' c' ≢ after nc p c = λ e. after_before nc nn p c q' c' c< k p≤ l (sym e) in
      simp get_or-set_other

  pub home_other : (m : ℕ) → m ≢ n → get_or (splice nc nn c p q n u v x y z s) (home nc nn m) 0 ≡ get_or s (home nc nn m) 0
  unfolding splice
  home_other m h =
      let h₁ : home nc nn m ≢ home nc nn n = omega arith in
      let h₂ : home nc nn m ≢ 2 * nc + nn + n = omega arith in
      let h₃ : home nc nn m ≢ 2 * nc + n = omega arith in
      let h₄ : home nc nn m ≢ before nc nn q c = λ e. before_home nc nn q c m c< q≤ (sym e) in
      let h₅ : home nc nn m ≢ after nc p c = λ e. after_home nc nn p c m c< p≤ (sym e) in
      simp get_or-set_other

-- ---- one list: its codes differ from each other, and from those of another list

module _ {nc nn c : ℕ} {s l : List ℕ} (R : Row nc nn s c l) where
  place_same : (i j : ℕ) → i ≤ length l → j ≤ length l → at l i ≡ at l j → place l i ≡ place l j
  place_same i j hi hj e = sym (R.prev i hi) ∙ ap (λ (k : ℕ). get_or s (before nc nn k c) 0) e ∙ R.prev j hj

  pub at_inj : (i j : ℕ) → i ≤ length l → j ≤ length l → at l i ≡ at l j → i ≡ j
  at_inj zero zero hi hj e = refl
  at_inj zero (suc j) hi hj e = let (x, w) = at_in l j hj in omega (arith, place_same zero (suc j) hi hj e)
  at_inj (suc i) zero hi hj e = let (x, w) = at_in l i hi in omega (arith, place_same (suc i) zero hi hj e)
  at_inj (suc i) (suc j) hi hj e = ap suc (at_inj i j (omega arith) (omega arith) (place_same (suc i) (suc j) hi hj e))

  pub place_inj : (i j : ℕ) → i ≤ length l → j ≤ length l → place l i ≡ place l j → i ≡ j
  place_inj zero zero hi hj e = refl
  place_inj zero (suc j) hi hj e = let (x, w) = at_in l j hj in omega arith
  place_inj (suc i) zero hi hj e = let (x, w) = at_in l i hi in omega arith
  place_inj (suc i) (suc j) hi hj e = ap suc (at_inj i j (omega arith) (omega arith) e)

  pub after_inj : (i j : ℕ) → i ≤ length l → j ≤ length l → i ≢ j → after nc (place l i) c ≢ after nc (place l j) c
  after_inj i j hi hj h e = h (at_inj i j hi hj (sym (R.next i hi) ∙ ap (λ (k : ℕ). get_or s k 0) e ∙ R.next j hj))

  pub before_inj : (i j : ℕ) → i ≤ length l → j ≤ length l → i ≢ j → before nc nn (at l i) c ≢ before nc nn (at l j) c
  before_inj i j hi hj h e = h (place_inj i j hi hj (sym (R.prev i hi) ∙ ap (λ (k : ℕ). get_or s k 0) e ∙ R.prev j hj))

pub at_mine : {nc nn c : ℕ} {s l : List ℕ} → Row nc nn s c l → (i : ℕ) → Mine nc nn s c (at l i)
at_mine {nc} {nn} {c} {s} {l} R i = go (at l i) refl
  where
    go : (k : ℕ) → at l i ≡ k → Mine nc nn s c k
    go zero e = none
    go (suc x) e = let (a, b) = R.own i x e in some a b

pub place_mine : {nc nn c : ℕ} {s l : List ℕ} → Row nc nn s c l → (i : ℕ) → Mine nc nn s c (place l i)
place_mine R zero = none
place_mine R (suc i) = at_mine R i

module _ {nc nn c d : ℕ} {s : List ℕ} (c< : c < nc) (d< : d < nc) (apart : c ≢ d) where
  after_apart : {p q : ℕ} → Mine nc nn s c p → Mine nc nn s d q → after nc p c ≢ after nc q d
  after_apart none none e = apart e
  after_apart none (some h w) e = omega arith
  after_apart (some h w) none e = omega arith
  after_apart (some {x} h w) (some {x = y} k v) e = let same : x ≡ y = omega arith in apart (suc_inj (sym w ∙ ap (λ (m : ℕ). get_or s (home nc nn m) 0) same ∙ v))

  before_apart : {p q : ℕ} → Mine nc nn s c p → Mine nc nn s d q → before nc nn p c ≢ before nc nn q d
  before_apart none none e = omega arith
  before_apart none (some h w) e = omega arith
  before_apart (some h w) none e = omega arith
  before_apart (some {x} h w) (some {x = y} k v) e = let same : x ≡ y = omega arith in apart (suc_inj (sym w ∙ ap (λ (m : ℕ). get_or s (home nc nn m) 0) same ∙ v))

-- ---- the stores between two codes of c leave another container's list, and a free node, as they were

module _ {nc nn c p q n : ℕ} {s : List ℕ} (B : Cut nc nn s c p q n) (u v x y z : ℕ) where
  open B use {size, c<, n<, P, Q, p≢, q≢}

  pub row_frame : (d : ℕ) (l : List ℕ) → d < nc → c ≢ d → get_or s (home nc nn n) 0 ≢ suc d → Row nc nn s d l → Row nc nn (splice nc nn c p q n u v x y z s) d l
  row_frame d l d< apart other R = record {
    next = λ i h.
        let M = place_mine R i in
        after_other B u v x y z (place l i) d d< (mine_le M) (mine_ne M n other) (λ e. after_apart c< d< apart P M (sym e)) ∙ R.next i h;
    prev = λ i h.
        let M = at_mine R i in
        before_other B u v x y z (at l i) d d< (mine_le M) (mine_ne M n other) (λ e. before_apart c< d< apart Q M (sym e)) ∙ R.prev i h;
    own = λ i m e.
        let (a, b) = R.own i m e in
        (a, home_other B u v x y z m (λ w. other (ap (λ (k : ℕ). get_or s (home nc nn k) 0) (sym w) ∙ b)) ∙ b);
  }

  pub free_frame : (m : ℕ) → m < nn → m ≢ n → Free nc nn s m → Free nc nn (splice nc nn c p q n u v x y z s) m
  free_frame m m< other F =
      let lone : get_or s (home nc nn m) 0 ≢ suc c = λ e. absurd (omega (arith, F.home0, e)) in
      let k : suc m ≢ suc n = omega arith in
      record {
        home0 = home_other B u v x y z m other ∙ F.home0;
        next0 = after_other B u v x y z (suc m) c c< m< k (λ e. after_free P e) ∙ F.next0;
        prev0 = before_other B u v x y z (suc m) c c< m< k (λ e. before_free Q e) ∙ F.prev0;
      }
    where
      after_free : {r : ℕ} → Mine nc nn s c r → after nc (suc m) c ≢ after nc r c
      after_free none e = omega arith
      after_free (some {x = y} k w) e = let same : m ≡ y = omega arith in omega (arith, F.home0, w, ap (λ (j : ℕ). get_or s (home nc nn j) 0) same)

      before_free : {r : ℕ} → Mine nc nn s c r → before nc nn (suc m) c ≢ before nc nn r c
      before_free none e = omega arith
      before_free (some {x = y} k w) e = let same : m ≡ y = omega arith in omega (arith, F.home0, w, ap (λ (j : ℕ). get_or s (home nc nn j) 0) same)

-- ---- the list itself, with n put in at index i

module _ {nc nn c n : ℕ} {s l : List ℕ} (size : length s ≡ 2 * nc + 3 * nn) (c< : c < nc) (n< : n < nn) (R : Row nc nn s c l) (i : ℕ) (i≤ : i ≤ length l)
    (lone : get_or s (home nc nn n) 0 ≢ suc c) where
  pub row_insert : Row nc nn (put_in nc nn c (place l i) (at l i) n s) c (seq_insert_at i n l)
  row_insert = record { next = λ j h. next' j (spot i j) (simp length_insert_at at h); prev = λ j h. prev' j (spot i j) (simp length_insert_at at h); own = λ j m e. own' j m (spot i j) e }
    where
      s' : List ℕ
      s' = put_in nc nn c (place l i) (at l i) n s

      B : Cut nc nn s c (place l i) (at l i) n
      B = record { size = size; c< = c<; n< = n<; P = place_mine R i; Q = at_mine R i; p≢ = mine_ne (place_mine R i) n lone; q≢ = mine_ne (at_mine R i) n lone }

      keep_after : (j : ℕ) → j ≤ length l → j ≢ i → get_or s' (after nc (place l j) c) 0 ≡ at l j
      keep_after j h w =
          let M = place_mine R j in
          after_other B _ _ _ _ _
          (place l j) c c< (mine_le M) (mine_ne M n lone) (after_inj R j i h i≤ w) ∙ R.next j h

      keep_before : (j : ℕ) → j ≤ length l → j ≢ i → get_or s' (before nc nn (at l j) c) 0 ≡ place l j
      keep_before j h w =
          let M = at_mine R j in
          before_other B _ _ _ _ _
          (at l j) c c< (mine_le M) (mine_ne M n lone) (before_inj R j i h i≤ w) ∙ R.prev j h

      keep_own : (j m : ℕ) → at l j ≡ suc m → (m < nn) × (get_or s' (home nc nn m) 0 ≡ suc c)
      keep_own j m e =
          let (a, b) = R.own j m e in (
            a,
            home_other B _ _ _ _ _
                m (λ w. lone (ap (λ (k : ℕ). get_or s (home nc nn k) 0) (sym w) ∙ b)) ∙ b,
          )

      next' : (j : ℕ) → Spot i j → j ≤ suc (length l) → get_or s' (after nc (place (seq_insert_at i n l) j) c) 0 ≡ at (seq_insert_at i n l) j
      next' j (left h) k = rw (place_ins_le i n l j i≤ (omega arith), at_ins_lt i n l j i≤ h) (keep_after j (omega arith) (omega arith))
      next' j here k = rw (place_ins_le i n l i i≤ (omega arith), at_ins_eq i n l i≤) (after_same B _ _ _ _ _)
      next' j next k = rw (at_ins_eq i n l i≤, at_ins_gt i n l i i≤ (omega arith)) (node_next B _ _ _ _ _)
      next' j (right {k = m} h) k = rw (at_ins_gt i n l m i≤ h, at_ins_gt i n l (suc m) i≤ (omega arith)) (keep_after (suc m) (omega arith) (omega arith))

      prev' : (j : ℕ) → Spot i j → j ≤ suc (length l) → get_or s' (before nc nn (at (seq_insert_at i n l) j) c) 0 ≡ place (seq_insert_at i n l) j
      prev' j (left h) k = rw (place_ins_le i n l j i≤ (omega arith), at_ins_lt i n l j i≤ h) (keep_before j (omega arith) (omega arith))
      prev' j here k = rw (place_ins_le i n l i i≤ (omega arith), at_ins_eq i n l i≤) (node_prev B _ _ _ _ _)
      prev' j next k = rw (at_ins_eq i n l i≤, at_ins_gt i n l i i≤ (omega arith)) (before_same B _ _ _ _ _)
      prev' j (right {k = m} h) k = rw (at_ins_gt i n l m i≤ h, at_ins_gt i n l (suc m) i≤ (omega arith)) (keep_before (suc m) (omega arith) (omega arith))

      own' : (j m : ℕ) → Spot i j → at (seq_insert_at i n l) j ≡ suc m → (m < nn) × (get_or s' (home nc nn m) 0 ≡ suc c)
      own' j m (left h) e = keep_own j m (rw (at_ins_lt i n l j i≤ h) at e)
      own' j m here e =
          let same : n ≡ m = suc_inj (rw (at_ins_eq i n l i≤) at e) in
          rw (← same) (n<, node_home B _ _ _ _ _)
      own' j m next e = keep_own i m (rw (at_ins_gt i n l i i≤ (omega arith)) at e)
      own' j m (right {k = k} h) e = keep_own (suc k) m (rw (at_ins_gt i n l (suc k) i≤ (omega arith)) at e)

-- ---- the list itself, with n taken out from index i

module _ {nc nn c : ℕ} {s : List ℕ} (size : length s ≡ 2 * nc + 3 * nn) (c< : c < nc) (i n : ℕ) (l : List ℕ) (i≤ : i ≤ length l) (R : Row nc nn s c (seq_insert_at i n l)) where
  -- the codes around n
  p_is : place (seq_insert_at i n l) i ≡ place l i
  p_is = place_ins_le i n l i i≤ (omega arith)

  q_is : at (seq_insert_at i n l) (suc i) ≡ at l i
  q_is = at_ins_gt i n l i i≤ (omega arith)

  n_is : at (seq_insert_at i n l) i ≡ suc n
  n_is = at_ins_eq i n l i≤

  long : length (seq_insert_at i n l) ≡ suc (length l)
  long = length_insert_at i n l

  not_n : (j : ℕ) → j ≤ length (seq_insert_at i n l) → j ≢ i → at (seq_insert_at i n l) j ≢ suc n
  not_n j h w e = w (at_inj R j i h (omega (arith, long)) (e ∙ sym n_is))

  not_n' : (j : ℕ) → j ≤ length (seq_insert_at i n l) → j ≢ suc i → place (seq_insert_at i n l) j ≢ suc n
  not_n' j h w e = w (place_inj R j (suc i) h (omega (arith, long)) (e ∙ sym n_is))

  pub cut_out : Cut nc nn s c (place l i) (at l i) n
  cut_out = record {
    size = size;
    c< = c<;
    n< = (R.own i n n_is).0;
    P = rw p_is at (place_mine R i);
    Q = rw q_is at (at_mine R (suc i));
    p≢ = rw (← p_is) (not_n' i (omega (arith, long)) (omega arith));
    q≢ = rw (← q_is) (not_n (suc i) (omega (arith, long)) (omega arith));
  }

  out : List ℕ
  out = taken_out_of nc nn c (place l i) (at l i) n s

  keep_after : (j : ℕ) → j ≤ length (seq_insert_at i n l) → j ≢ i → j ≢ suc i → get_or out (after nc (place (seq_insert_at i n l) j) c) 0 ≡ at (seq_insert_at i n l) j
  unfolding out
  keep_after j h w w' =
      after_other cut_out _ _ _ _ _ (place (seq_insert_at i n l) j) c c< (mine_le (place_mine R j)) (not_n' j h w')
      (λ e. after_inj R j i h (omega (arith, long)) w (e ∙ ap (λ (k : ℕ). after nc k c) (sym p_is)))
      ∙ R.next j h

  keep_before : (j : ℕ) → j ≤ length (seq_insert_at i n l) → j ≢ i → j ≢ suc i → get_or out (before nc nn (at (seq_insert_at i n l) j) c) 0 ≡ place (seq_insert_at i n l) j
  unfolding out
  keep_before j h w w' =
      before_other cut_out _ _ _ _ _ (at (seq_insert_at i n l) j) c c< (mine_le (at_mine R j)) (not_n j h w)
      (λ e. before_inj R j (suc i) h (omega (arith, long)) w' (e ∙ ap (λ (k : ℕ). before nc nn k c) (sym q_is)))
      ∙ R.prev j h

  keep_own : (j m : ℕ) → j ≢ i → at (seq_insert_at i n l) j ≡ suc m → (m < nn) × (get_or out (home nc nn m) 0 ≡ suc c)
  unfolding out
  keep_own j m w e =
      let (a, b) = R.own j m e in
      (a, home_other cut_out _ _ _ _ _ m (λ f. not_n j (omega (arith, at_lt (seq_insert_at i n l) j m e)) w (e ∙ ap suc f)) ∙ b)

  next_on : (k : ℕ) → i ≤ k → suc k ≤ length l → get_or out (after nc (at l k) c) 0 ≡ at l (suc k)
  next_on k h b =
      ap (λ (r : ℕ). get_or out (after nc r c) 0) (sym (at_ins_gt i n l k i≤ h)) ∙ keep_after (suc (suc k)) (omega (arith, long)) (omega arith) (omega arith)
      ∙ at_ins_gt i n l (suc k) i≤ (omega arith)

  prev_on : (k : ℕ) → i ≤ k → suc k ≤ length l → get_or out (before nc nn (at l (suc k)) c) 0 ≡ at l k
  prev_on k h b =
      ap (λ (r : ℕ). get_or out (before nc nn r c) 0) (sym (at_ins_gt i n l (suc k) i≤ (omega arith))) ∙ keep_before (suc (suc k)) (omega (arith, long)) (omega arith) (omega arith)
      ∙ at_ins_gt i n l k i≤ h

  pub row_delete : Row nc nn (taken_out_of nc nn c (place l i) (at l i) n s) c l
  unfolding out
  row_delete = record { next = λ j h. next' j (spot i j) h; prev = λ j h. prev' j (spot i j) h; own = λ j m e. own' j m (spot i j) e }
    where
      next' : (j : ℕ) → Spot i j → j ≤ length l → get_or out (after nc (place l j) c) 0 ≡ at l j
      next' j (left h) k =
          ap (λ (r : ℕ). get_or out (after nc r c) 0) (sym (place_ins_le i n l j i≤ (omega arith))) ∙ keep_after j (omega (arith, long)) (omega arith) (omega arith)
          ∙ at_ins_lt i n l j i≤ h
      next' j here k = after_same cut_out _ _ _ _ _
      next' j next k = next_on i (omega arith) k
      next' j (right {k = m} h) k = next_on (suc m) (omega arith) k

      prev' : (j : ℕ) → Spot i j → j ≤ length l → get_or out (before nc nn (at l j) c) 0 ≡ place l j
      prev' j (left h) k =
          ap (λ (r : ℕ). get_or out (before nc nn r c) 0) (sym (at_ins_lt i n l j i≤ h)) ∙ keep_before j (omega (arith, long)) (omega arith) (omega arith)
          ∙ place_ins_le i n l j i≤ (omega arith)
      prev' j here k = before_same cut_out _ _ _ _ _
      prev' j next k = prev_on i (omega arith) k
      prev' j (right {k = m} h) k = prev_on (suc m) (omega arith) k

      own' : (j m : ℕ) → Spot i j → at l j ≡ suc m → (m < nn) × (get_or out (home nc nn m) 0 ≡ suc c)
      own' j m (left h) e = keep_own j m (omega arith) (at_ins_lt i n l j i≤ h ∙ e)
      own' j m here e = keep_own (suc i) m (omega arith) (q_is ∙ e)
      own' j m next e = keep_own (suc (suc i)) m (omega arith) (at_ins_gt i n l (suc i) i≤ (omega arith) ∙ e)
      own' j m (right {k = k} h) e = keep_own (suc (suc (suc k))) m (omega arith) (at_ins_gt i n l (suc (suc k)) i≤ (omega arith) ∙ e)

-- ---- all the lists

module _ {nc : ℕ} (ls : List (List ℕ)) (c : ℕ) (l' : List ℕ) (count : length ls ≡ nc) (c< : c < nc) where
  set_row_lem : get_or (set ls c l') c [] ≡ l'
  set_row_lem = get_or-set_same ls c l' [] (omega arith)

  -- a node that is in ls is in ls with c's list changed, if the change keeps it
  held_set : (m : ℕ) → ((k : ℕ) → at (get_or ls c []) k ≡ suc m → (k' : ℕ) × (at l' k' ≡ suc m)) → Held nc ls m → Held nc (set ls c l') m
  held_set m move H = go (ℕ_discrete H.cont c)
    where
      go : Dec (H.cont ≡ c) → Held nc (set ls c l') m
      go (yes e) =
          let (k', w) = move H.index (rw e at H.there) in
          record { cont = c; index = k'; cont< = c<; there = rw set_row_lem w }
      go (no f) = record { cont = H.cont; index = H.index; cont< = H.cont<; there = rw (get_or-set_other ls c H.cont l' [] f) H.there }

  rows_set : {nn : ℕ} {s' : List ℕ} → Row nc nn s' c l' → ((d : ℕ) → d < nc → c ≢ d → Row nc nn s' d (get_or ls d [])) → (d : ℕ) → d < nc → Row nc nn s' d (get_or (set ls c l') d [])
  rows_set {nn} {s'} mine others d d< = go (ℕ_discrete d c)
    where
      go : Dec (d ≡ c) → Row nc nn s' d (get_or (set ls c l') d [])
      go (yes e) = rw (e, set_row_lem) mine
      go (no f) = rw (get_or-set_other ls c d l' [] f) (others d d< (λ e. f (sym e)))

module _ {nc nn : ℕ} {s : List ℕ} {ls : List (List ℕ)} (L : Links nc nn s ls) (c : ℕ) (c< : c < nc) where
  module _ (i n : ℕ) (i≤ : i ≤ length (get_or ls c [])) (n< : n < nn) (lone : get_or s (home nc nn n) 0 ≡ 0) where
    pub cut_in : Cut nc nn s c (place (get_or ls c []) i) (at (get_or ls c []) i) n
    cut_in =
        let P = place_mine (L.row c c<) i in
        let Q = at_mine (L.row c c<) i in
        let f : get_or s (home nc nn n) 0 ≢ suc c = omega arith in
        record { size = L.size; c< = c<; n< = n<; P = P; Q = Q; p≢ = mine_ne P n f; q≢ = mine_ne Q n f }

    pub links_insert : Links nc nn (put_in nc nn c (place (get_or ls c []) i) (at (get_or ls c []) i) n s) (set ls c (seq_insert_at i n (get_or ls c [])))
    links_insert = record {
      size = length_splice cut_in _ _ _ _ _;
      count = length-set ls c _ ∙ L.count;
      row = rows_set ls c _ L.count c< (row_insert L.size c< n< (L.row c c<) i i≤ (omega arith))
          (λ d d< f. row_frame cut_in _ _ _ _ _ d (get_or ls d []) d< f (omega arith) (L.row d d<));
      node = λ m m<. node' m m< (ℕ_discrete m n) (L.node m m<);
    }
      where
        s' : List ℕ
        s' = put_in nc nn c (place (get_or ls c []) i) (at (get_or ls c []) i) n s

        ls' : List (List ℕ)
        ls' = set ls c (seq_insert_at i n (get_or ls c []))

        node' : (m : ℕ) → m < nn → Dec (m ≡ n) → Free nc nn s m ⊎ Held nc ls m → Free nc nn s' m ⊎ Held nc ls' m
        node' m m< (yes e) h = inr (record { cont = c; index = i; cont< = c<; there = rw (set_row_lem ls c _ L.count c<, e) (at_ins_eq i n (get_or ls c []) i≤) })
        node' m m< (no f) (inl F) = inl (free_frame cut_in _ _ _ _ _ m m< f F)
        node' m m< (no f) (inr H) = inr (held_set ls c _ L.count c< m (λ k e. (sh i k, at_sh i n (get_or ls c []) k i≤ ∙ e)) H)

  module _ (i n : ℕ) (l : List ℕ) (i≤ : i ≤ length l) (is : get_or ls c [] ≡ seq_insert_at i n l) where
    row_here : Row nc nn s c (seq_insert_at i n l)
    row_here = rw is at (L.row c c<)

    cut_del : Cut nc nn s c (place l i) (at l i) n
    cut_del = cut_out L.size c< i n l i≤ row_here

    pub links_delete : Links nc nn (taken_out_of nc nn c (place l i) (at l i) n s) (set ls c l)
    links_delete = record {
      size = length_splice cut_del _ _ _ _ _;
      count = length-set ls c l ∙ L.count;
      row = rows_set ls c l L.count c< (row_delete L.size c< i n l i≤ row_here)
          (λ d d< f. row_frame cut_del _ _ _ _ _ d (get_or ls d []) d< f (λ e. f (suc_inj (sym says ∙ e))) (L.row d d<));
      node = λ m m<. node' m m< (ℕ_discrete m n) (L.node m m<);
    }
      where
        says : get_or s (home nc nn n) 0 ≡ suc c
        says = (row_here.own i n (at_ins_eq i n l i≤)).1

        s' : List ℕ
        s' = taken_out_of nc nn c (place l i) (at l i) n s

        node' : (m : ℕ) → m < nn → Dec (m ≡ n) → Free nc nn s m ⊎ Held nc ls m → Free nc nn s' m ⊎ Held nc (set ls c l) m
        node' m m< (yes e) h = inl (rw e (record { home0 = node_home cut_del _ _ _ _ _; next0 = node_next cut_del _ _ _ _ _; prev0 = node_prev cut_del _ _ _ _ _ }))
        node' m m< (no f) (inl F) = inl (free_frame cut_del _ _ _ _ _ m m< f F)
        node' m m< (no f) (inr H) = inr (held_set ls c l L.count c< m (λ k e. unshift i n l m k i≤ f (rw is at e)) H)

-- ---- as the code has it

pub after_of : (nc p c : ℕ) → p ≢ 0 → after nc p c ≡ 2 * nc + (p - 1)
after_of nc zero c h = absurd (h refl)
after_of nc (suc p) c h = omega arith

pub before_of : (nc nn q c : ℕ) → q ≢ 0 → before nc nn q c ≡ 2 * nc + nn + (q - 1)
before_of nc nn zero c h = absurd (h refl)
before_of nc nn (suc p) c h = omega arith

pub before_end : (nc nn q c : ℕ) → q ≡ 0 → before nc nn q c ≡ nc + c
before_end nc nn q c e = ap (λ (k : ℕ). before nc nn k c) e
