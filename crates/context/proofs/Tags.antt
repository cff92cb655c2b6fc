-- The flags of an operation and the type of a value are stored and read, and become 0 as it ends: one law for both. Assumes nothing.
use mathlib.Core.Path.{◌≡◌, refl, sym, ap, ◌∙◌, subst}
use mathlib.Core.Logic.{◌≢◌, by_cases}
use mathlib.Core.List.{List, [], ◌++◌}
use Prim.Native.Nat.{ℕ, ◌+◌, ◌-◌, ◌≤◌, ◌<◌}
use native.Mathlib.Decide.{ℕ_discrete}
use native.Mathlib.Omega.{arith}
use lib.ListN.{length, get_or, set, take, drop, length-set, length-drop, take-append-drop}
use Rattle.std.proofs.lemmas.List.{set-append_left, set-append_right}
use lib.Seq.{get_or-set_same, get_or-set_other, get_or-take, get_or-drop, length-take-le}
use Rattle.seqs.specs.Split.{split, splice, length_part}
use Rattle.seqs.specs.Seqs.{upd}
use Rattle.places.specs.Store.{Kind, op, blk, reg, val, usg, Kind-dec, Thing, Thing-dec, State, alive, Live, end}
use Rattle.places.specs.Parts.{Parts, store}
use Rattle.seqs.proofs.Base.{upd_same, upd_other, upd_upd}
use Rattle.context.specs.declared.Layout.{Layout}
use Rattle.context.specs.Layout.{cap_of, nc_of, nn_of, sizes, kind_part, fam_part, tag_part, HasTag, flags, types, TagsAt}
use Rattle.context.specs.Memory.{part, book_in, rows_in, homes_in, tag_in, parts_of, rows_for, state_of, Well, set_tag, Tagged}
use Rattle.context.specs.Reading.{TagIs}
use Rattle.context.proofs.Pieces.{Swapped, lent, swap, there, elsewhere, well_other, fam_part<, kind_part<}

pub tag_part< : {K : Kind} → HasTag K → (11 < tag_part K) × (tag_part K < 14)
tag_part< flags = (omega arith, omega arith)
tag_part< types = (omega arith, omega arith)

pub size_is : {K : Kind} → HasTag K → (l : Layout) → get_or (sizes l) (tag_part K) 0 ≡ cap_of l K
size_is flags l = refl
size_is types l = refl

pub tag_here : {K : Kind} → HasTag K → (ps : List (List ℕ)) (p : ℕ) → tag_in ps K p ≡ get_or (get_or ps (tag_part K) []) p 0
tag_here flags ps p = refl
tag_here types ps p = refl

-- the flags or types of the other kinds stand in another part
tag_there : {K : Kind} → HasTag K → (ps ps' : List (List ℕ)) → ((j : ℕ) → j ≢ tag_part K → get_or ps' j [] ≡ get_or ps j []) → (k : Kind) → k ≢ K → (q : ℕ) → tag_in ps' k q ≡ tag_in ps k q
tag_there flags ps ps' e op n q = absurd (n refl)
tag_there flags ps ps' e blk n q = refl
tag_there flags ps ps' e reg n q = refl
tag_there flags ps ps' e val n q = ap (λ (s : List ℕ). get_or s q 0) (e 13 (omega arith))
tag_there flags ps ps' e usg n q = refl
tag_there types ps ps' e op n q = ap (λ (s : List ℕ). get_or s q 0) (e 12 (omega arith))
tag_there types ps ps' e blk n q = refl
tag_there types ps ps' e reg n q = refl
tag_there types ps ps' e val n q = absurd (n refl)
tag_there types ps ps' e usg n q = refl

module _ {l : Layout} {m m' : List ℕ} {K : Kind} (h : HasTag K) (p v : ℕ) (S : Swapped l (tag_part K) (set (part l m (tag_part K)) p v) m m') (long : p < length (part l m (tag_part K))) where
  abbrev M : Parts
  M = parts_of l (split (sizes l) m)

  abbrev T : Thing → ℕ
  T = λ a. tag_in (split (sizes l) m) a.0 a.1

  tag_same : (q : ℕ) → tag_in (split (sizes l) m') K q ≡ upd Thing-dec T (K, p) v (K, q)
  tag_same q =
      tag_here h (split (sizes l) m') q
      ∙ ap (λ (s : List ℕ). get_or s q 0) (there S)
      ∙ by_cases (ℕ_discrete q p)
      (λ e. rw e (get_or-set_same (part l m (tag_part K)) p v 0 long ∙ sym (upd_same Thing-dec T (K, p) v)))
      (λ n. get_or-set_other (part l m (tag_part K)) p q v 0 n ∙ sym (tag_here h (split (sizes l) m) q) ∙ sym (upd_other Thing-dec T (K, p) v (λ e. n (ap (λ (a : Thing). a.1) e))))

  tag_is : (k : Kind) (q : ℕ) → tag_in (split (sizes l) m') k q ≡ upd Thing-dec T (K, p) v (k, q)
  tag_is k q =
      by_cases (Kind-dec k K)
      (λ e. rw e (tag_same q))
      (λ n. tag_there h (split (sizes l) m) (split (sizes l) m') (elsewhere S) k n q ∙ sym (upd_other Thing-dec T (K, p) v (λ e. n (ap (λ (a : Thing). a.0) e))))

  parts_are : parts_of l (split (sizes l) m') ≡ record { books = M.books; rows = M.rows; homes = M.homes; tags = upd Thing-dec M.tags (K, p) v }
  unfolding parts_of
  parts_are =
      λ i. record {
        books = λ k. ap (book_in (cap_of l k)) (elsewhere S (kind_part k) (omega (arith, kind_part< k, tag_part< h))) i;
        rows = λ f. ap (rows_in (nc_of l f) (nn_of l f)) (elsewhere S (fam_part f) (omega (arith, fam_part< f, tag_part< h))) i;
        homes = λ f. ap (homes_in (nc_of l f) (nn_of l f)) (elsewhere S (fam_part f) (omega (arith, fam_part< f, tag_part< h))) i;
        tags = λ a. tag_is a.0 a.1 i;
      }

  state_tagged : state_of l m' ≡ set_tag (K, p) v (state_of l m)
  unfolding store set_tag
  state_tagged = ap (store (rows_for l)) parts_are

  -- only a live thing gets a tag that is not 0
  spare_tagged : Well l m → (alive (state_of l m) (K, p) ≡ 0 → v ≡ 0) → (a : Thing) → alive (state_of l m') a ≡ 0 → (state_of l m').tag a ≡ 0
  unfolding set_tag alive
  spare_tagged W ok a z =
      let z' : alive (set_tag (K, p) v (state_of l m)) a ≡ 0 = rw state_tagged at z in
      rw state_tagged
      (by_cases (Thing-dec a (K, p))
      (λ e. rw e (upd_same Thing-dec (state_of l m).tag (K, p) v ∙ ok (rw e at z')))
      (λ d. upd_other Thing-dec (state_of l m).tag (K, p) v d ∙ W.spare a z'))

-- a number stored within a part
set_within : (a c p v : ℕ) (m : List ℕ) → p < c → a + c ≤ length m → set m (a + p) v ≡ splice a c (set (take c (drop a m)) p v) m
set_within a c p v m h f =
    let part : List ℕ = take c (drop a m) in
    let past : List ℕ = drop c (drop a m) in
    let long : length part ≡ c = length-take-le c (drop a m) (omega (arith, length-drop a m, f)) in
    let whole : m ≡ take a m ++ (part ++ past) = sym (ap (λ (r : List ℕ). take a m ++ r) (take-append-drop c (drop a m)) ∙ take-append-drop a m) in
    let at : a + p - a ≡ p = omega arith in
    ap (λ (t : List ℕ). set t (a + p) v) whole
    ∙ set-append_right (take a m) (part ++ past) a (a + p) v (length-take-le a m (omega (arith, f))) (omega arith)
    ∙ ap (λ (r : List ℕ). take a m ++ r) (ap (λ (i : ℕ). set (part ++ past) i v) at ∙ set-append_left part past p v (omega (arith, h, long)))

module _ {K : Kind} (h : HasTag K) {l : Layout} {m : List ℕ} {a : ℕ} (W : Well l m) (F : TagsAt l K a) where
  abbrev e : ℕ
  e = a + cap_of l K

  size : e - a ≡ cap_of l K
  size = omega arith

  seen : take (e - a) (drop a m) ≡ part l m (tag_part K)
  seen = lent l (tag_part K) a e m (omega (arith, tag_part< h)) F.starts (omega (arith, size_is h l))

  tags_long : length (take (e - a) (drop a m)) ≡ cap_of l K
  tags_long = omega (arith, length_part a e m (omega (arith, F.fits, W.fits)))

  pub tag_read : (p : ℕ) → p < cap_of l K → TagIs l (K, p) m (get_or m (a + p) 0)
  unfolding store parts_of
  tag_read p h' =
      record {
        is = sym (get_or-drop a m p 0) ∙ sym (get_or-take (e - a) (drop a m) p 0 (omega (arith, h'))) ∙ ap (λ (s : List ℕ). get_or s p 0) seen
            ∙ sym (tag_here h (split (sizes l) m) p);
      }

  pub tagged : (p v : ℕ) → p < cap_of l K → (alive (state_of l m) (K, p) ≡ 0 → v ≡ 0) → Tagged l (K, p) v m (set m (a + p) v)
  tagged p v g ok =
      let s : List ℕ = set (take (e - a) (drop a m)) p v in
      let kept : length s ≡ length (take (e - a) (drop a m)) = simp length-set refl in
      let S₀ : Swapped l (tag_part K) s m (splice a (e - a) s m) = swap l (tag_part K) a e s m (omega (arith, tag_part< h)) F.starts (omega (arith, size_is h l)) (omega (arith, F.fits, W.fits)) kept in
      let S₁ : Swapped l (tag_part K) s m (set m (a + p) v) = subst (λ (t : List ℕ). Swapped l (tag_part K) s m t) (sym (set_within a (e - a) p v m (omega (arith, g)) (omega (arith, F.fits, W.fits)))) S₀ in
      let S : Swapped l (tag_part K) (set (part l m (tag_part K)) p v) m (set m (a + p) v) = subst (λ (t : List ℕ). Swapped l (tag_part K) t m (set m (a + p) v)) (ap (λ (t : List ℕ). set t p v) seen) S₁ in
      let long : p < length (part l m (tag_part K)) = omega (arith, g, tags_long, ap length seen) in
      record {
        well = well_other (tag_part K) (tag_part< h).0 W S (spare_tagged h p v S long W ok);
        rest = elsewhere S 14 (omega (arith, tag_part< h));
        state = state_tagged h p v S long;
      }

-- the other kinds have neither
pub untagged : (l : Layout) (m : List ℕ) (k : Kind) (p : ℕ) → (HasTag k → ⊥) → (state_of l m).tag (k, p) ≡ 0
unfolding store parts_of
untagged l m op p h = absurd (h flags)
untagged l m blk p h = refl
untagged l m reg p h = refl
untagged l m val p h = absurd (h types)
untagged l m usg p h = refl

-- ---- a thing whose tag was stored

module _ (P : State) (a : Thing) (t : ℕ) where
  alive_tag : (b : Thing) → alive (set_tag a t P) b ≡ alive P b
  unfolding set_tag alive
  alive_tag b = refl

  -- what ends loses its tag, whatever that was
  pub end_tag : end a (set_tag a t P) ≡ end a P
  unfolding set_tag end
  end_tag = λ i. record { tab = (end a P).tab; list = P.list; own = P.own; tag = λ b. upd_upd Thing-dec P.tag a t 0 b i }

module _ {l : Layout} {a : Thing} {t : ℕ} {m m₁ : List ℕ} (T : Tagged l a t m m₁) where
  pub tag_now : (state_of l m₁).tag a ≡ t
  unfolding set_tag
  tag_now = ap (λ (P : State). P.tag a) T.state ∙ upd_same Thing-dec (state_of l m).tag a t

  pub still_live : Live (state_of l m) a → Live (state_of l m₁) a
  still_live h = rw T.state (omega (arith, h, alive_tag (state_of l m) a t a))
