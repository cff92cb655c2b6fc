-- The neighbours of a node in its list, and where it stands: from the cells of a family to the store by places. Assumes nothing.
use mathlib.Core.Path.{◌≡◌, refl, sym, ap, ◌∙◌}
use mathlib.Core.Logic.{◌⊎◌, inl, inr}
use mathlib.Core.List.{List, [], ◌∷◌, ◌++◌, map}
use mathlib.Core.Option.{some}
use Rattle.std.specs.Prelude.{Option, Some, slice_get}
use Prim.Native.Nat.{ℕ, zero, suc, ◌+◌, ◌-◌, ◌*◌, ◌<◌}
use native.Mathlib.Omega.{arith}
use lib.ListN.{length, get_or, take, drop}
use Rattle.seqs.specs.Split.{split}
use Rattle.seqs.specs.Seqs.{seq_last_of}
use Rattle.seqs.specs.Cells.{decoded}
use Rattle.linked_list.specs.Links.{at, home, lists, Linked, Free, Held, row_of, next_in, last_in}
use Rattle.linked_list.proofs.Laws.{at_inj, at_lt}
use Rattle.linked_list.proofs.View.{Seat, seat}
use Rattle.linked_list.proofs.Getters.{cells, decoded_at, at_get_d}
use Rattle.places.specs.Store.{Kind, Fam, Thing, Con, node_of}
use Rattle.places.specs.Parts.{node_in, con_of}
use Rattle.places.proofs.Rows.{node_in_lem}
use Rattle.context.specs.declared.Layout.{Layout}
use Rattle.context.specs.declared.Span.{Span}
use Rattle.context.specs.Layout.{nc_of, nn_of, sizes, fam_part, SpanOf}
use Rattle.context.specs.Memory.{part, decode, parts_of, con, state_of, first_place, Well}
use Rattle.context.specs.Reading.{list_of, last_place, NextIs, NodesAre, LastIs, NthIs}
use Rattle.context.proofs.Families.{node<, con_back, list_at, own_is, stands, free}
use Rattle.context.proofs.Thin.{length_map, seen}

-- ---- a list of things, as the places in it

abbrev pub seconds : List Thing → List ℕ
seconds l = map (λ (x : Thing). x.1) l

pub seconds_of : (k : Kind) (row : List ℕ) → seconds (map (λ (j : ℕ). (k, j)) row) ≡ row
seconds_of k [] = refl
seconds_of k (x ∷ l) = ap (λ (r : List ℕ). x ∷ r) (seconds_of k l)

at_mid : (a b : List Thing) (x : Thing) → at (seconds (a ++ x ∷ b)) (length a) ≡ suc x.1
at_mid [] b x = refl
at_mid (y ∷ a) b x = at_mid a b x

slot_next : (a b : List Thing) (x : Thing) → slice_get (seconds (a ++ x ∷ b)) (suc (length a)) ≡ first_place b
slot_next [] [] x = refl
slot_next [] (y ∷ b) x = refl
slot_next (y ∷ a) b x = slot_next a b x

last_at : (y : Thing) (a : List Thing) → slice_get (seconds (y ∷ a)) (length a) ≡ Some (seq_last_of y a).1
last_at y [] = refl
last_at y (z ∷ a) = last_at z a

last_seconds : (l : List Thing) → last_in (seconds l) ≡ last_place l
last_seconds [] = refl
last_seconds (y ∷ l) = ap (slice_get (seconds (y ∷ l))) (longs l) ∙ last_at y l
  where
    longs : (l : List Thing) → length (seconds l) ≡ length l
    longs [] = refl
    longs (x ∷ l) = ap suc (longs l)

-- a list that has n at index i, taken apart there
cut_at : (k : Kind) (row : List ℕ) (i n : ℕ) → at row i ≡ suc n → (a : List Thing) × (b : List Thing) × (map (λ (j : ℕ). (k, j)) row ≡ a ++ (k, n) ∷ b)
cut_at k [] i n e = absurd (omega arith)
cut_at k (x ∷ l) zero n e = ([], map (λ (j : ℕ). (k, j)) l, ap (λ (y : ℕ). (k, y) ∷ map (λ (j : ℕ). (k, j)) l) (omega (arith, e)))
cut_at k (x ∷ l) (suc i) n e = let w = cut_at k l i n e in ((k, x) ∷ w.0, w.1, ap (λ (r : List Thing). (k, x) ∷ r) w.2)

get_d_map : (k : Kind) (row : List ℕ) (i : ℕ) → i < length row → get_or {A = Thing} (map (λ (j : ℕ). (k, j)) row) i (k, 0) ≡ (k, get_or row i 0)
get_d_map k [] i h = absurd (omega arith)
get_d_map k (x ∷ l) zero h = refl
get_d_map k (x ∷ l) (suc i) h = get_d_map k l i (omega arith)

-- a node in no list has no neighbours
lone : {nc nn : ℕ} {s : List ℕ} (L : Linked nc nn s) (n : ℕ) → n < nn → get_or s (home nc nn n) 0 ≡ 0 → Free nc nn s n
lone {nc} {nn} {s} L n h z = go (L.node n h)
  where
    go : Free nc nn s n ⊎ Held nc (lists nc nn s) n → Free nc nn s n
    go (inl F) = F
    go (inr H) = absurd (omega (arith, z, ((L.row H.cont H.cont<).own H.index n H.there).1))

-- ---- the list that a node stands in

module _ {l : Layout} {m : List ℕ} (W : Well l m) (f : Fam) where
  abbrev nc : ℕ
  nc = nc_of l f

  abbrev nn : ℕ
  nn = nn_of l f

  abbrev s : List ℕ
  s = part l m (fam_part f)

  pub kind_of_lem : (k : ℕ) → node_of (con l f k).0 ≡ node_in f
  kind_of_lem k = sym (node_in_lem (con l f k).0) ∙ ap node_in (con_back l.values l.ops f k).family

  -- the list k, as a row of the family
  pub list_row : (k : ℕ) → list_of l m (con l f k) ≡ map (λ (j : ℕ). (node_in f, j)) (get_or (lists nc nn s) k [])
  unfolding parts_of
  list_row k = list_at l.values l.ops (parts_of l (split (sizes l) m)) f k 0 ∙ ap (λ (t : Kind). map (λ (j : ℕ). (t, j)) (get_or (lists nc nn s) k [])) (kind_of_lem k)

  module _ (n : ℕ) (c : Con) (own : (state_of l m).own (node_in f, n) f ≡ some c) where
    pub seated : (k : ℕ) × (con l f k ≡ c) × (get_or s (home nc nn n) 0 ≡ suc k) × Seat nc nn s (lists nc nn s) k n
    seated =
        let w : (k : ℕ) × (get_or s (home nc nn n) 0 ≡ suc k) × (con l f k ≡ c) = stands l m f n c own in
        (w.0, w.2, w.1, seat (W.families f) w.0 n (node< W f n w.0 w.1) w.1)

    abbrev row : List ℕ
    row = get_or (lists nc nn s) seated.0 []

    pub row_of_list : list_of l m c ≡ map (λ (j : ℕ). (node_in f, j)) row
    row_of_list = ap (list_of l m) (sym seated.1) ∙ list_row seated.0

    pub parted : (a : List Thing) × (b : List Thing) × (list_of l m c ≡ a ++ (node_in f, n) ∷ b)
    parted = let w = cut_at (node_in f) row seated.3.index n seated.3.there in (w.0, w.1, row_of_list ∙ w.2)

    -- a list taken apart at n is taken apart at its index
    module _ (a b : List Thing) (e : list_of l m c ≡ a ++ (node_in f, n) ∷ b) where
      places : row ≡ seconds (a ++ (node_in f, n) ∷ b)
      places = sym (seconds_of (node_in f) row) ∙ ap seconds (sym row_of_list ∙ e)

      there : at row (length a) ≡ suc n
      there = ap (λ (t : List ℕ). at t (length a)) places ∙ at_mid a b (node_in f, n)

      pub index_is : seated.3.index ≡ length a
      index_is = at_inj ((W.families f).row seated.0 seated.3.c<) seated.3.index (length a) (omega (arith, seated.3.index<)) (omega (arith, at_lt row (length a) n there)) (seated.3.there ∙ sym there)

      pub next_place : slice_get row (suc seated.3.index) ≡ first_place b
      next_place = ap (λ (i : ℕ). slice_get row (suc i)) index_is ∙ ap (λ (t : List ℕ). slice_get t (suc (length a))) places ∙ slot_next a b (node_in f, n)

-- ---- what the readers say

module _ {l : Layout} {m : List ℕ} {f : Fam} {r : Span} (W : Well l m) (T : SpanOf l f r) where
  abbrev given : List ℕ
  given = take (r.end - r.at) (drop r.at m)

  pub nth_asked : (k : ℕ) {i : ℕ} → i < length (list_of l m (con l f k)) → i < length (get_or (lists r.lists.nc r.lists.nn given) k [])
  nth_asked k g =
      rw (seen W T, T.containers, T.nodes) (omega (arith, g, ap length (list_row W f k), length_map {B = Thing} (λ (j : ℕ). (node_in f, j)) (get_or (lists (nc_of l f) (nn_of l f) (part l m (fam_part f))) k [])))

  pub nodes_are : {k : ℕ} {x : List ℕ} → x ≡ get_or (lists r.lists.nc r.lists.nn given) k [] → NodesAre l f k m x
  nodes_are {k} {x} g = record { are = list_row W f k ∙ ap (λ (t : List ℕ). map (λ (j : ℕ). (node_in f, j)) t) (sym (rw (seen W T, T.containers, T.nodes) at g)) }

  module _ {n : ℕ} (h : n < nn_of l f) where
    pub next_is : {x : Option ℕ} → x ≡ next_in n (row_of n (lists r.lists.nc r.lists.nn given)) → NextIs l f n m x
    next_is {x} g =
        let e : x ≡ decoded (get_or (part l m (fam_part f)) (2 * nc_of l f + n) 0) = rw (seen W T, T.containers, T.nodes) at g ∙ sym (cells (W.families f) n h).next in
        record {
          none = λ o. e ∙ ap decoded (lone (W.families f) n h (free l m f n o)).next0;
          after = λ c o a b w. e ∙ ap decoded (seated W f n c o).3.next_is ∙ decoded_at (row W f n c o) (suc (seated W f n c o).3.index) ∙ next_place W f n c o a b w;
        }

  pub last_is : {k : ℕ} {x : Option ℕ} → x ≡ last_in (get_or (lists r.lists.nc r.lists.nn given) k []) → LastIs l f k m x
  last_is {k} {x} g =
      let row : List ℕ = get_or (lists (nc_of l f) (nn_of l f) (part l m (fam_part f))) k [] in
      let e : x ≡ last_in row = rw (seen W T, T.containers, T.nodes) at g in
      record { is = e ∙ ap last_in (sym (seconds_of (node_in f) row) ∙ ap seconds (sym (list_row W f k))) ∙ last_seconds (list_of l m (con l f k)) }

  pub nth_is : {k i x : ℕ} → k < nc_of l f → i < length (list_of l m (con l f k)) → x ≡ get_or (get_or (lists r.lists.nc r.lists.nn given) k []) i 0 → NthIs l f k i m x
  nth_is {k} {i} {x} h g z =
      let row : List ℕ = get_or (lists (nc_of l f) (nn_of l f) (part l m (fam_part f))) k [] in
      let e : x ≡ get_or row i 0 = rw (seen W T, T.containers, T.nodes) at z in
      let i< : i < length row = omega (arith, g, ap length (list_row W f k), length_map {B = Thing} (λ (j : ℕ). (node_in f, j)) row) in
      let o : (x < nn_of l f) × (get_or (part l m (fam_part f)) (home (nc_of l f) (nn_of l f) x) 0 ≡ suc k) = ((W.families f).row k h).own i x (at_get_d row i i< ∙ ap suc (sym e)) in
      record {
        is = ap (λ (t : List Thing). get_or t i (node_in f, 0)) (list_row W f k) ∙ get_d_map (node_in f) row i i< ∙ ap (λ (j : ℕ). (node_in f, j)) (sym e);
        inside = o.0;
        own = own_is l m f x ∙ ap (λ (j : ℕ). con_of (con l f) (decode j)) o.1;
      }
