-- A part is lent and comes back: the other parts are as they were. Assumes nothing.
use mathlib.Core.Path.{◌≡◌, refl, sym, ap, ◌∙◌}
use mathlib.Core.Logic.{◌≢◌, by_cases}
use mathlib.Core.List.{List, []}
use Prim.Native.Nat.{ℕ, zero, suc, ◌+◌, ◌-◌, ◌≤◌, ◌<◌}
use native.Mathlib.Decide.{ℕ_discrete}
use Rattle.seqs.specs.Seqs.{count}
use native.Mathlib.Omega.{arith}
use lib.ListN.{length, get_or, take, drop}
use Rattle.seqs.specs.Split.{split, splice, start, seen}
use Rattle.seqs.proofs.Parts.{Swapped as SwappedIn, swap as swap-in, there as there-in, elsewhere as elsewhere-in}
pub use Rattle.seqs.proofs.Parts.{get_d_out}
use Rattle.linked_list.specs.Links.{Linked}
use Rattle.arena.specs.Packed.{Packed}
use Rattle.places.specs.Store.{Kind, op, blk, reg, val, usg, Fam, slots, use_sets, vals, regs, ops_in, blocks_in, Fam-dec, Kind-dec, Thing, alive}
use Rattle.context.specs.declared.Layout.{Layout}
use Rattle.context.specs.Layout.{cap_of, nc_of, nn_of, sizes, kind_part, fam_part}
use Rattle.places.specs.Parts.{store, table_of}
use Rattle.context.specs.Memory.{part, book_in, tag_in, parts_of, state_of, Well}

-- m' is m with s for the part k of the layout's
pub record Swapped (l : Layout) (k : ℕ) (s m m' : List ℕ) : Type 0 where
  pub swapped : SwappedIn (sizes l) k s m m'

-- the part lent
pub lent : (l : Layout) (k a e : ℕ) (m : List ℕ) → k < 14 → a ≡ start (sizes l) k → e ≡ a + get_or (sizes l) k 0 → take (e - a) (drop a m) ≡ part l m k
lent l k a e m h p q = seen (sizes l) k a e m h p q

pub swap : (l : Layout) (k a e : ℕ) (s m : List ℕ) → k < 14 → a ≡ start (sizes l) k → e ≡ a + get_or (sizes l) k 0 → e ≤ length m
    → length s ≡ length (take (e - a) (drop a m)) → Swapped l k s m (splice a (e - a) s m)
swap l k a e s m h p q w kept = record { swapped = swap-in (sizes l) k a e s m h p q w kept }

module _ {l : Layout} {k : ℕ} {s m m' : List ℕ} (S : Swapped l k s m m') where
  pub there : part l m' k ≡ s
  there = there-in S.swapped

  pub elsewhere : (j : ℕ) → j ≢ k → part l m' j ≡ part l m j
  elsewhere j n = elsewhere-in S.swapped j n

pub fam_part< : (f : Fam) → (5 < fam_part f) × (fam_part f < 12)
fam_part< slots = (omega arith, omega arith)
fam_part< use_sets = (omega arith, omega arith)
fam_part< vals = (omega arith, omega arith)
fam_part< regs = (omega arith, omega arith)
fam_part< ops_in = (omega arith, omega arith)
fam_part< blocks_in = (omega arith, omega arith)

pub kind_part< : (k : Kind) → (0 < kind_part k) × (kind_part k < 6)
kind_part< op = (omega arith, omega arith)
kind_part< blk = (omega arith, omega arith)
kind_part< reg = (omega arith, omega arith)
kind_part< val = (omega arith, omega arith)
kind_part< usg = (omega arith, omega arith)

pub fam_part_inj : (f g : Fam) → fam_part f ≡ fam_part g → f ≡ g
fam_part_inj f g e = sym (back f) ∙ ap (λ (k : ℕ). fam_at (k - 6)) e ∙ back g
  where
    fam_at : ℕ → Fam
    fam_at zero = slots
    fam_at (suc zero) = use_sets
    fam_at (suc (suc zero)) = vals
    fam_at (suc (suc (suc zero))) = regs
    fam_at (suc (suc (suc (suc zero)))) = ops_in
    fam_at (suc (suc (suc (suc (suc k))))) = blocks_in

    back : (f : Fam) → fam_at (fam_part f - 6) ≡ f
    back slots = refl
    back use_sets = refl
    back vals = refl
    back regs = refl
    back ops_in = refl
    back blocks_in = refl

pub kind_part_inj : (f g : Kind) → kind_part f ≡ kind_part g → f ≡ g
kind_part_inj f g e = sym (back f) ∙ ap (λ (k : ℕ). kind_at (k - 1)) e ∙ back g
  where
    kind_at : ℕ → Kind
    kind_at zero = op
    kind_at (suc zero) = blk
    kind_at (suc (suc zero)) = reg
    kind_at (suc (suc (suc zero))) = val
    kind_at (suc (suc (suc (suc k)))) = usg

    back : (f : Kind) → kind_at (kind_part f - 1) ≡ f
    back op = refl
    back blk = refl
    back reg = refl
    back val = refl
    back usg = refl

pub tags_kept : (ps ps' : List (List ℕ)) → get_or ps' 12 [] ≡ get_or ps 12 [] → get_or ps' 13 [] ≡ get_or ps 13 [] → (k : Kind) (p : ℕ) → tag_in ps' k p ≡ tag_in ps k p
tags_kept ps ps' a b op p = ap (λ (s : List ℕ). get_or s p 0) a
tags_kept ps ps' a b blk p = refl
tags_kept ps ps' a b reg p = refl
tags_kept ps ps' a b val p = ap (λ (s : List ℕ). get_or s p 0) b
tags_kept ps ps' a b usg p = refl

-- free places stay spare where the tables, the flags and the types are as they were
spare_kept : (l : Layout) (m m' : List ℕ) → Well l m → ((k : Kind) → part l m' (kind_part k) ≡ part l m (kind_part k)) → part l m' 12 ≡ part l m 12 → part l m' 13 ≡ part l m 13
    → (a : Thing) → alive (state_of l m') a ≡ 0 → (state_of l m').tag a ≡ 0
unfolding alive store parts_of
spare_kept l m m' W T F Y a z =
    tags_kept (split (sizes l) m) (split (sizes l) m') F Y a.0 a.1
    ∙ W.spare a (ap (λ (s : List ℕ). count ℕ_discrete a.1 (table_of (book_in (cap_of l a.0) s)).order) (sym (T a.0)) ∙ z)

-- the parts stay well formed
pub well_family : {l : Layout} {s m m' : List ℕ} (f : Fam) → Well l m → Swapped l (fam_part f) s m m' → Linked (nc_of l f) (nn_of l f) s → Well l m'
well_family {l} {s} {m} {m'} f W S L =
    record {
      caps = W.caps;
      fits = omega (arith, W.fits, S.swapped.long);
      head = elsewhere S 0 (omega (arith, fam_part< f)) ∙ W.head;
      tables = λ k. rw (elsewhere S (kind_part k) (omega (arith, fam_part< f, kind_part< k))) (W.tables k);
      families = λ g. by_cases (Fam-dec g f) (λ e. rw (e, there S) L) (λ n. rw (elsewhere S (fam_part g) (λ e. n (fam_part_inj g f e))) (W.families g));
      spare = spare_kept l m m' W (λ k. elsewhere S (kind_part k) (omega (arith, fam_part< f, kind_part< k))) (elsewhere S 12 (omega (arith, fam_part< f))) (elsewhere S 13 (omega (arith, fam_part< f)));
    }

pub well_table : {l : Layout} {s m m' : List ℕ} (k : Kind) → Well l m → Swapped l (kind_part k) s m m' → Packed (cap_of l k) s → ((a : Thing) → alive (state_of l m') a ≡ 0 → (state_of l m').tag a ≡ 0) → Well l m'
well_table {l} {s} {m} {m'} k W S L Z =
    record {
      caps = W.caps;
      fits = omega (arith, W.fits, S.swapped.long);
      head = elsewhere S 0 (omega (arith, kind_part< k)) ∙ W.head;
      tables = λ g. by_cases (Kind-dec g k) (λ e. rw (e, there S) L) (λ n. rw (elsewhere S (kind_part g) (λ e. n (kind_part_inj g k e))) (W.tables g));
      families = λ g. rw (elsewhere S (fam_part g) (omega (arith, fam_part< g, kind_part< k))) (W.families g);
      spare = Z;
    }

pub well_other : {l : Layout} {s m m' : List ℕ} (k : ℕ) → 11 < k → Well l m → Swapped l k s m m' → ((a : Thing) → alive (state_of l m') a ≡ 0 → (state_of l m').tag a ≡ 0) → Well l m'
well_other {l} {s} {m} {m'} k h W S Z =
    record {
      caps = W.caps;
      fits = omega (arith, W.fits, S.swapped.long);
      head = elsewhere S 0 (omega arith) ∙ W.head;
      tables = λ g. rw (elsewhere S (kind_part g) (omega (arith, kind_part< g))) (W.tables g);
      families = λ g. rw (elsewhere S (fam_part g) (omega (arith, fam_part< g))) (W.families g);
      spare = Z;
    }
