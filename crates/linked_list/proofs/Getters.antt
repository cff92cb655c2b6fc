-- What the getters read, as the lists have it; and one step along a list. Assumes nothing.
use mathlib.Core.Path.{◌≡◌, refl, sym, ap, ◌∙◌, subst}
use mathlib.Core.Logic.{◌⊎◌, inl, inr, ◌≢◌, by_cases}
use mathlib.Core.Bool.{Bool, true, false}
use mathlib.Core.List.{List, [], ◌∷◌}
use Prim.Native.Nat.{ℕ, zero, suc, ◌+◌, ◌*◌, ◌<◌, ◌≤◌, zero-le, suc-le-suc}
use native.Mathlib.Nat.{le_of_suc-le-suc, not-suc-le-zero, suc_inj}
use native.Mathlib.Decide.{ℕ_discrete}
use native.Mathlib.Omega.{arith}
use native.Mathlib.Numerals.{add-one}
use lib.ListN.{length, get_or}
use lib.Dec.{eqb}
use borrow.Author.Tests.{eq-eqb, ne_eqb}
use Rattle.std.specs.Prelude.{Option, Some, None, slice_get, option_map, is_some}
use Rattle.std.specs.Option.{option_eq}
use Rattle.seqs.specs.Cells.{code, decoded}
use Rattle.seqs.proofs.Cells.{some_of, zero_of, above_of, stored, stored_some, stored_none}
use Rattle.linked_list.specs.Links.{at, place, preceding, home, Row, Free, Held, Links, has, row_of, cont_of, HomeIn, next_in, prev_in, last_in, choose, container}
use Rattle.seqs.specs.Seqs.{index_of}
use Rattle.linked_list.proofs.Laws.{at_lt, at_out, at_end}
use Rattle.linked_list.proofs.View.{seat, index_at}

-- ---- stored nodes

pub decoded_at : (l : List ℕ) (i : ℕ) → decoded (at l i) ≡ slice_get l i
decoded_at [] i = refl
decoded_at (x ∷ xs) zero = refl
decoded_at (x ∷ xs) (suc i) = decoded_at xs i

pub decoded_place : (l : List ℕ) (i : ℕ) → decoded (place l i) ≡ preceding l i
decoded_place l zero = refl
decoded_place l (suc i) = decoded_at l i

-- ---- what the getters read

module _ (n : ℕ) where
  has_true : (l : List ℕ) (i : ℕ) → at l i ≡ suc n → has n l ≡ true
  unfolding has
  has_true [] i e = absurd (omega arith)
  has_true (x ∷ xs) zero e = rw (eq-eqb x n (suc_inj e))
  has_true (x ∷ xs) (suc i) e = or_true (eqb x n) (has_true xs i e)
    where
      or_true : (b : Bool) → has n xs ≡ true → choose b true (has n xs) ≡ true
      or_true true h = refl
      or_true false h = h

  has_false : (l : List ℕ) → ((j : ℕ) → at l j ≢ suc n) → has n l ≡ false
  unfolding has
  has_false [] f = refl
  has_false (x ∷ xs) f = rw (ne_eqb x n (λ q. f zero (ap suc q))) (has_false xs (λ j. f (suc j)))

  row_of_lem : (ls : List (List ℕ)) (c : ℕ) → c < length ls → has n (get_or ls c []) ≡ true → ((d : ℕ) → d < c → has n (get_or ls d []) ≡ false)
      → (row_of n ls ≡ get_or ls c []) × (cont_of n ls ≡ Some c)
  unfolding row_of cont_of
  row_of_lem [] c h t f = absurd (not-suc-le-zero h)
  row_of_lem (l ∷ ls) zero h t f = rw t (refl, refl)
  row_of_lem (l ∷ ls) (suc c) h t f =
      let (a, b) = row_of_lem ls c (le_of_suc-le-suc h) t (λ d k. f (suc d) (suc-le-suc k)) in
      rw (f zero (suc-le-suc zero-le)) (a, ap (option_map suc) b)

  row_none : (ls : List (List ℕ)) → ((d : ℕ) → d < length ls → has n (get_or ls d []) ≡ false) → (row_of n ls ≡ []) × (cont_of n ls ≡ None)
  unfolding row_of cont_of
  row_none [] f = (refl, refl)
  row_none (l ∷ ls) f =
      let (a, b) = row_none ls (λ d k. f (suc d) (suc-le-suc k)) in
      rw (f zero (suc-le-suc zero-le)) (a, ap (option_map suc) b)

-- the list that has the node n, and where n is in it
pub record Place (ls : List (List ℕ)) (c i n : ℕ) : Type 0 where
  pub row : row_of n ls ≡ get_or ls c []
  pub cont : cont_of n ls ≡ Some c
  pub index : index_of ℕ_discrete n (get_or ls c []) ≡ i

pub place_of : {nc nn : ℕ} {s : List ℕ} {ls : List (List ℕ)} → Links nc nn s ls → (c i n : ℕ) → c < nc → at (get_or ls c []) i ≡ suc n → Place ls c i n
place_of {nc} {nn} {s} {ls} L c i n c< e =
    let (n<, says) = (L.row c c<).own i n e in
    let S = seat L c n n< says in
    let (a, b) = row_of_lem n ls c (rw L.count c<) (has_true n (get_or ls c []) i e)
    (λ d h. has_false n (get_or ls d []) (S.apart d (omega arith) (omega arith))) in
    record { row = a; cont = b; index = index_at n (get_or ls c []) i e (λ j f. S.only j f ∙ sym (S.only i e)) }

pub record Cells (nc nn : ℕ) (s : List ℕ) (ls : List (List ℕ)) (n : ℕ) : Type 0 where
  pub next : decoded (get_or s (2 * nc + n) 0) ≡ next_in n (row_of n ls)
  pub prev : decoded (get_or s (2 * nc + nn + n) 0) ≡ prev_in n (row_of n ls)
  pub cont : decoded (get_or s (home nc nn n) 0) ≡ cont_of n ls

pub cells : {nc nn : ℕ} {s : List ℕ} {ls : List (List ℕ)} → Links nc nn s ls → (n : ℕ) → n < nn → Cells nc nn s ls n
cells {nc} {nn} {s} {ls} L n n< = go (L.node n n<)
  where
    free : Free nc nn s n → Cells nc nn s ls n
    free F =
        let (a, b) = row_none n ls (λ d h. has_false n (get_or ls d []) (λ j e. absurd (omega (arith, F.home0, ((L.row d (rw L.count at h)).own j n e).1)))) in
        record { next = rw (a, F.next0) refl; prev = rw (a, F.prev0) refl; cont = rw F.home0 (sym b) }

    held : Held nc ls n → Cells nc nn s ls n
    held H =
        let c = H.cont in
        let l = get_or ls c [] in
        let i = H.index in
        let R = L.row c H.cont< in
        let P = place_of L c i n H.cont< H.there in
        let i< = at_lt l i n H.there in
        record {
          next = rw (P.row, P.index, rw H.there at (R.next (suc i) i<)) (decoded_at l (suc i));
          prev = rw (P.row, P.index, rw H.there at (R.prev i (omega arith))) (decoded_place l i);
          cont = rw (R.own i n H.there).1 (sym P.cont);
        }

    go : Free nc nn s n ⊎ Held nc ls n → Cells nc nn s ls n
    go (inl F) = free F
    go (inr H) = held H

-- which list has a node: its cell says it
pub home_in : {nc nn : ℕ} {s : List ℕ} {ls : List (List ℕ)} → Links nc nn s ls → (n : ℕ) → n < nn → HomeIn nc ls n (decoded (get_or s (home nc nn n) 0))
home_in {nc} {nn} {s} {ls} L n n< =
    record {
      none = ((λ e c h. has_false n (get_or ls c []) (λ j z. absurd (omega (arith, stored_none refl e, ((L.row c h).own j n z).1)))), (λ f. go f (L.node n n<)));
      one = λ c h. ((λ e. let S = seat L c n n< (stored_some refl e) in has_true n (get_or ls c []) S.index S.there), (λ t. by_cases (ℕ_discrete (get_or s (home nc nn n) 0) (suc c)) (λ e. ap decoded e) (λ d. absurd (both (has n (get_or ls c [])) t (has_false n (get_or ls c []) (λ j z. d ((L.row c h).own j n z).1))))));
    }
  where
    both : (b : Bool) → b ≡ true → b ≡ false → ⊥
    both b t f = let z : ◌≡◌ {A = ℕ} 0 1 = cc in omega arith

    go : ((c : ℕ) → c < nc → has n (get_or ls c []) ≡ false) → Free nc nn s n ⊎ Held nc ls n → decoded (get_or s (home nc nn n) 0) ≡ None
    go f (inl F) = ap decoded F.home0
    go f (inr H) = absurd (both (has n (get_or ls H.cont [])) (has_true n (get_or ls H.cont []) H.index H.there) (f H.cont H.cont<))

pub home_is : {nc nn : ℕ} {s : List ℕ} {ls : List (List ℕ)} → Links nc nn s ls → (n : ℕ) → n < nn → {r : Option ℕ} → r ≡ cont_of n ls → HomeIn nc ls n r
home_is {nc} {ls} L n n< e = subst (λ (r : Option ℕ). HomeIn nc ls n r) ((cells L n n<).cont ∙ sym e) (home_in L n n<)

-- and nothing else says it: for a caller that knows the slice by its cells
pub home_cell : {nc nn : ℕ} {s : List ℕ} {ls : List (List ℕ)} → Links nc nn s ls → (n : ℕ) (r : Option ℕ) → n < nn → HomeIn nc ls n r → r ≡ decoded (get_or s (home nc nn n) 0)
home_cell {nc} {nn} {s} {ls} L n r n< H = go (L.node n n<)
  where
    go : Free nc nn s n ⊎ Held nc ls n → r ≡ decoded (get_or s (home nc nn n) 0)
    go (inl F) = H.none.1 ((home_in L n n<).none.0 (ap decoded F.home0)) ∙ sym (ap decoded F.home0)
    go (inr K) =
        let e : decoded (get_or s (home nc nn n) 0) ≡ Some K.cont = ap decoded ((L.row K.cont K.cont<).own K.index n K.there).1 in
        (H.one K.cont K.cont<).1 (((home_in L n n<).one K.cont K.cont<).0 e) ∙ sym e

-- whether c's list has a node: its cell is compared with what is stored for c
cell_same : (w c : ℕ) → eqb w (suc c) ≡ option_eq eqb (decoded w) (Some c)
cell_same zero c = ne_eqb 0 (suc c) (λ q. omega (arith, q))
cell_same (suc k) c =
    by_cases (ℕ_discrete k c) (λ e. eq-eqb (suc k) (suc c) (ap suc e) ∙ sym (eq-eqb k c e)) (λ d. ne_eqb (suc k) (suc c) (λ q. d (suc_inj q)) ∙ sym (ne_eqb k c d))

pub has_is : {nc nn : ℕ} {s : List ℕ} {ls : List (List ℕ)} → Links nc nn s ls → (n c : ℕ) → n < nn → eqb (get_or s (home nc nn n) 0) (suc c) ≡ option_eq eqb (cont_of n ls) (Some c)
has_is {nc} {nn} {s} L n c n< = cell_same (get_or s (home nc nn n) 0) c ∙ ap (λ (r : Option ℕ). option_eq eqb r (Some c)) (cells L n n<).cont

-- a node with no container has none stored, and a node with a container has one stored
module _ {nc nn : ℕ} {s : List ℕ} {ls : List (List ℕ)} (L : Links nc nn s ls) (n : ℕ) (n< : n < nn) where
  pub home_free : false ≡ is_some (cont_of n ls) → get_or s (home nc nn n) 0 ≡ 0
  home_free e = zero_of (sym (cells L n n<).cont) (sym e)

  pub home_held : true ≡ is_some (cont_of n ls) → 0 < get_or s (home nc nn n) 0
  home_held e = omega (arith, above_of (sym (cells L n n<).cont) (sym e))

pub tail_cell : {nc nn c : ℕ} {s l : List ℕ} → Row nc nn s c l → get_or s (nc + c) 0 ≡ place l (length l)
tail_cell {nc} {nn} {c} {s} {l} R =
    let qe : at l (length l) ≡ 0 = at_out l (length l) (omega arith) in
    rw qe at (R.prev (length l) (omega arith))

pub head_is : {nc nn c : ℕ} {s l : List ℕ} → Row nc nn s c l → decoded (get_or s c 0) ≡ slice_get l 0
head_is {l} R = ap decoded (R.next zero zero-le) ∙ decoded_at l zero

pub tail_is : {nc nn c : ℕ} {s l : List ℕ} → Row nc nn s c l → decoded (get_or s (nc + c) 0) ≡ last_in l
tail_is {l} R = ap decoded (tail_cell R) ∙ decoded_place l (length l)

pub head_stored : {nc nn c : ℕ} {s l : List ℕ} → Row nc nn s c l → {r : Option ℕ} → r ≡ slice_get l 0 → code r ≡ get_or s c 0
head_stored R e = stored (e ∙ sym (head_is R))

pub tail_stored : {nc nn c : ℕ} {s l : List ℕ} → Row nc nn s c l → {r : Option ℕ} → r ≡ last_in l → code r ≡ get_or s (nc + c) 0
tail_stored R e = stored (e ∙ sym (tail_is R))

-- ---- what is stored, from what a getter gave

module _ {nc nn : ℕ} {s : List ℕ} {ls : List (List ℕ)} (L : Links nc nn s ls) (n : ℕ) (n< : n < nn) where
  pub next_stored : {r : Option ℕ} → r ≡ next_in n (row_of n ls) → code r ≡ get_or s (2 * nc + n) 0
  next_stored e = stored (e ∙ sym (cells L n n<).next)

  pub prev_stored : {r : Option ℕ} → r ≡ prev_in n (row_of n ls) → code r ≡ get_or s (2 * nc + nn + n) 0
  prev_stored e = stored (e ∙ sym (cells L n n<).prev)

  pub container_is : {c : ℕ} {r : Option ℕ} → r ≡ cont_of n ls → r ≡ Some c → c ≡ container nc nn s n
  container_is e w = omega (arith, stored_some (e ∙ sym (cells L n n<).cont) w)

  -- a linked node has a container
  pub held_is : {r : Option ℕ} → r ≡ cont_of n ls → 0 < get_or s (home nc nn n) 0 → is_some r ≡ true
  held_is e h = some_of (e ∙ sym (cells L n n<).cont) h

-- ---- one step along c's list

pub at_some : (l : List ℕ) (i : ℕ) {x : ℕ} → slice_get l i ≡ Some x → at l i ≡ suc x
at_some l i e = stored_some (sym (decoded_at l i)) e

pub none_past : (l : List ℕ) (i : ℕ) → slice_get l i ≡ None → length l ≤ i
none_past l i e = at_end l i (stored_none (sym (decoded_at l i)) e)

module _ {nc nn c n : ℕ} {s : List ℕ} {ls : List (List ℕ)} (L : Links nc nn s ls) (c< : c < nc) (j : ℕ) (e : slice_get (get_or ls c []) j ≡ Some n) where
  pub node_lt : n < nn
  node_lt = ((L.row c c<).own j n (at_some (get_or ls c []) j e)).0

  pub next_is : next_in n (row_of n ls) ≡ slice_get (get_or ls c []) (j + 1)
  next_is =
      let P = place_of L c j n c< (at_some (get_or ls c []) j e) in
      rw (P.row, P.index, add-one j) refl

pub at_get_d : (l : List ℕ) (i : ℕ) → i < length l → at l i ≡ suc (get_or l i 0)
at_get_d [] i h = absurd (not-suc-le-zero h)
at_get_d (x ∷ xs) zero h = refl
at_get_d (x ∷ xs) (suc i) h = at_get_d xs i (le_of_suc-le-suc h)
