-- The laws of the thin functions on lists. Assumes nothing.
use mathlib.Core.Path.{◌≡◌, refl, sym, ap, ◌∙◌}
use mathlib.Core.Bool.{Bool}
use mathlib.Core.List.{List, [], ◌∷◌, ◌++◌, map}
use mathlib.Core.Option.{none}
use Rattle.std.specs.Prelude.{Option, Some, nat_eq, slice_get}
use Rattle.std.specs.Option.{option_eq}
use Prim.Native.Nat.{ℕ, zero, suc, ◌+◌, ◌-◌, ◌<◌}
use native.Mathlib.Decide.{ℕ_discrete}
use native.Mathlib.Omega.{arith}
use lib.ListN.{length, get_or, take, drop}
use Rattle.seqs.specs.Split.{split, splice}
use Rattle.seqs.specs.Cells.{decoded}
use Rattle.linked_list.specs.Links.{home, lists, Linked, Rowed, row, container, list_of, cont_of, HomeIn}
use Rattle.linked_list.proofs.Getters.{home_cell}
use Rattle.linked_list.proofs.Getters.{home_is as home_of_node}
use Rattle.linked_list.proofs.View.{row_short}
use Rattle.seqs.specs.Seqs.{without, seq_insert_at}
use Rattle.seqs.proofs.Base.{insert_at_back}
use Rattle.places.specs.Store.{Kind, node_of, Thing, Fam, slots, use_sets, vals, regs, ops_in, blocks_in, Con, leave}
use Rattle.places.specs.Parts.{node_in, con_of}
use Rattle.context.specs.declared.Layout.{Layout}
use Rattle.context.specs.declared.Span.{Span}
use Rattle.context.specs.Layout.{nc_of, nn_of, sizes, family, fam_part, SpanOf}
use Rattle.context.specs.Memory.{first_place, given, FirstIs, parts_of, LengthIs, decode, HomeIs, part, con, state_of, Well, Left, Entered, Stands}
use Rattle.context.specs.Reading.{HasIs}
use Rattle.context.proofs.Pieces.{Swapped, elsewhere, lent, swap, well_family, fam_part<}
use Rattle.context.proofs.Families.{node<, list_at, own_is, stands, free, state_left, state_entered}

pub length_map : {A B : Type 0} (f : A → B) (l : List A) → length (map f l) ≡ length l
length_map f [] = refl
length_map f (x ∷ l) = ap suc (length_map f l)

first_map : (k : Kind) (l : List ℕ) → first_place (map (λ (j : ℕ). (k, j)) l) ≡ slice_get l 0
first_map k [] = refl
first_map k (x ∷ l) = refl

-- what is stored, and what it says
pub given_decoded : (k : ℕ) → given (decoded k) ≡ decode k
given_decoded zero = refl
given_decoded (suc k) = refl

pub size_is : (l : Layout) (f : Fam) → get_or (sizes l) (fam_part f) 0 ≡ family (nc_of l f) (nn_of l f)
size_is l slots = refl
size_is l use_sets = refl
size_is l vals = refl
size_is l regs = refl
size_is l ops_in = refl
size_is l blocks_in = refl

module _ {l : Layout} {m : List ℕ} {f : Fam} {r : Span} (W : Well l m) (T : SpanOf l f r) where
  abbrev given_part : List ℕ
  given_part = take (r.end - r.at) (drop r.at m)

  ends : r.end ≡ r.at + get_or (sizes l) (fam_part f) 0
  ends = omega (arith, size_is l f, T.ends, T.containers, T.nodes)

  -- what is lent
  pub seen : given_part ≡ part l m (fam_part f)
  seen = lent l (fam_part f) r.at r.end m (omega (arith, fam_part< f)) T.starts ends

  pub linked : Linked r.lists.nc r.lists.nn given_part
  linked = rw (seen, T.containers, T.nodes) (W.families f)

  -- what the list crate asks
  pub unlink_asked : {n : ℕ} → Stands (state_of l m) (node_in f, n) f
      → (n < r.lists.nn) × (0 < get_or given_part (home r.lists.nc r.lists.nn n) 0)
  unlink_asked {n} Z =
      let w : (k : ℕ) × (get_or (part l m (fam_part f)) (home (nc_of l f) (nn_of l f) n) 0 ≡ suc k) × (con l f k ≡ Z.list) = stands l m f n Z.list Z.there in
      (omega (arith, node< W f n w.0 w.1, T.nodes), rw (seen, T.containers, T.nodes) (omega (arith, w.1)))

  pub unlinked : (n : ℕ) → (state_of l m).own (node_in f, n) f ≡ none → get_or given_part (home r.lists.nc r.lists.nn n) 0 ≡ 0
  unlinked n z = rw (seen, T.containers, T.nodes) (free l m f n z)

  pub home_is : {n : ℕ} {h : Option ℕ} → n < nn_of l f → HomeIn r.lists.nc (lists r.lists.nc r.lists.nn given_part) n h → HomeIs l f n m h
  home_is {n} {h} i H =
      let g : h ≡ decoded (get_or given_part (home r.lists.nc r.lists.nn n) 0) = home_cell linked n h (omega (arith, T.nodes)) H in
      let e : h ≡ decoded (get_or (part l m (fam_part f)) (home (nc_of l f) (nn_of l f) n) 0) = rw (seen, T.containers, T.nodes) at g in
      record { own = own_is l m f n ∙ ap (con_of (con l f)) (sym (given_decoded _) ∙ ap given (sym e)) }

  pub has_is : {k n : ℕ} {b : Bool} → n < nn_of l f → b ≡ option_eq nat_eq (cont_of n (lists r.lists.nc r.lists.nn given_part)) (Some k) → HasIs l f k n m b
  has_is {k} {n} i e =
      record {
        home = cont_of n (lists r.lists.nc r.lists.nn given_part);
        at = home_is i (home_of_node linked n (omega (arith, T.nodes)) refl);
        is = e;
      }

  pub length_is : {k n : ℕ} → n ≡ length (get_or (lists r.lists.nc r.lists.nn given_part) k []) → LengthIs l f k m n
  unfolding parts_of
  length_is {k} g = record { is = rw (seen, T.containers, T.nodes) at g ∙ sym (ap length (list_at l.values l.ops (parts_of l (split (sizes l) m)) f k 0) ∙ length_map {B = Thing} (λ (j : ℕ). (node_of (con l f k).0, j)) (get_or (lists (nc_of l f) (nn_of l f) (part l m (fam_part f))) k [])) }

  pub first_is : {k : ℕ} {h : Option ℕ} → h ≡ slice_get (get_or (lists r.lists.nc r.lists.nn given_part) k []) 0 → FirstIs l f k m h
  unfolding parts_of
  first_is {k} g =
      record { is = rw (seen, T.containers, T.nodes) at g ∙ sym (ap first_place (list_at l.values l.ops (parts_of l (split (sizes l) m)) f k 0) ∙ first_map (node_of (con l f k).0) (get_or (lists (nc_of l f) (nn_of l f) (part l m (fam_part f))) k [])) }

  module _ (s : List ℕ) (kept : length s ≡ length given_part) where
    abbrev m' : List ℕ
    m' = splice r.at (r.end - r.at) s m

    pub swapped : Swapped l (fam_part f) s m m'
    swapped = swap l (fam_part f) r.at r.end s m (omega (arith, fam_part< f)) T.starts ends (omega (arith, T.fits, W.fits)) kept

    pub rest_kept : part l m' 14 ≡ part l m 14
    rest_kept = elsewhere swapped 14 (omega (arith, fam_part< f))

    pub left : {n : ℕ} → Stands (state_of l m) (node_in f, n) f
        → Rowed r.lists.nc r.lists.nn given_part s (container r.lists.nc r.lists.nn given_part n) (without ℕ_discrete n (list_of r.lists.nc r.lists.nn given_part n)) n 0
        → Left l f n m m'
    left {n} Z H =
        let w : (k : ℕ) × (get_or (part l m (fam_part f)) (home (nc_of l f) (nn_of l f) n) 0 ≡ suc k) × (con l f k ≡ Z.list) = stands l m f n Z.list Z.there in
        let c : container (nc_of l f) (nn_of l f) (part l m (fam_part f)) n ≡ w.0 = omega (arith, w.1) in
        let R : Rowed (nc_of l f) (nn_of l f) (part l m (fam_part f)) s w.0 (without ℕ_discrete n (row (nc_of l f) (nn_of l f) (part l m (fam_part f)) w.0)) n 0 =
        rw c at (rw (seen, T.containers, T.nodes) at H) in
        record {
          well = well_family f W swapped R.linked;
          rest = rest_kept;
          state = λ c h. let v : (k : ℕ) × (get_or (part l m (fam_part f)) (home (nc_of l f) (nn_of l f) n) 0 ≡ suc k) × (con l f k ≡ c) = stands l m f n c h in
              let same : w.0 ≡ v.0 = omega (arith, w.1, v.1) in
              state_left f w.0 n swapped R ∙ ap (λ (b : Con). leave b (node_in f, n) (state_of l m)) (ap (con l f) same ∙ v.2);
        }

    pub entered_at : {k i n : ℕ} → Rowed r.lists.nc r.lists.nn given_part s k (seq_insert_at i n (row r.lists.nc r.lists.nn given_part k)) n (k + 1) → Entered l f k i n m m'
    entered_at {k} {i} {n} H =
        let R : Rowed (nc_of l f) (nn_of l f) (part l m (fam_part f)) s k (seq_insert_at i n (row (nc_of l f) (nn_of l f) (part l m (fam_part f)) k)) n (k + 1) = rw (seen, T.containers, T.nodes) at H in
        record { well = well_family f W swapped R.linked; rest = rest_kept; state = state_entered f k n swapped i R }

    pub entered_back : {k n : ℕ} → k < nc_of l f → Rowed r.lists.nc r.lists.nn given_part s k (row r.lists.nc r.lists.nn given_part k ++ n ∷ []) n (k + 1)
        → Entered l f k (nn_of l f) n m m'
    entered_back {k} {n} h H =
        entered_at
        (rw (insert_at_back (nn_of l f) n (row r.lists.nc r.lists.nn given_part k) (rw (← T.nodes) (row_short (linked.row k (omega (arith, T.containers)))))) H)
