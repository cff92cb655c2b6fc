-- A memory of zeros with a header is an empty store. Assumes nothing.
use mathlib.Core.Path.{◌≡◌, refl, sym, ap, ◌∙◌}
use mathlib.Core.Logic.{ite}
use mathlib.Core.List.{List, [], ◌∷◌, ◌++◌}
use mathlib.Core.Option.{Option, none}
use Prim.Native.Nat.{ℕ, zero, suc, ◌+◌, ◌-◌, ◌≤◌, ◌<◌}
use native.Mathlib.Omega.{arith}
use lib.ListN.{length, get_or, set, take, drop, length-append, length-drop, get_or-append, get_or-replicate, replicate}
use lib.Seq.{ext_get_or, get_or-append_right, get_or-take, get_or-drop, get_or-set_other, length-take-le}
use Rattle.seqs.specs.Split.{split}
use Rattle.seqs.proofs.Parts.{rest_is, start_first, part_long as long-part, part_zero as zero-part}
use Rattle.linked_list.specs.Links.{home, Emptied}
use Rattle.linked_list.proofs.Moves.{emptied}
use Rattle.bits.proofs.Digits.{all_clear}
use Rattle.table.proofs.Cells.{started}
use Rattle.arena.specs.Packed.{Fresh, front, back, cells, words}
use Rattle.arena.proofs.Marks.{fresh}
use Rattle.places.specs.Store.{Kind, op, blk, reg, val, usg, Fam, slots, use_sets, vals, regs, ops_in, blocks_in, fam, Thing, Con, Con-dec, Kind-dec, empty}
use Rattle.places.specs.Parts.{node_in, store}
use Rattle.places.proofs.Empty.{empty_sound}
use Rattle.context.specs.declared.Layout.{Layout}
use Rattle.context.specs.Layout.{cap_of, nc_of, nn_of, sizes, total, arena, family, kind_part, fam_part, Caps}
use Rattle.context.specs.Memory.{part, decode, tag_in, parts_of, rows_for, state_of, SoundStore}
use Rattle.context.specs.Steps.{Zeroed, Started}
use Rattle.context.proofs.Pieces.{fam_part<, kind_part<}

module _ (l : Layout) (m : List ℕ) (fits : total l ≤ length m) (z : (i : ℕ) → 5 ≤ i → i < total l → get_or m i 0 ≡ 0) where
  part_long : (k : ℕ) → k < 14 → length (part l m k) ≡ get_or (sizes l) k 0
  part_long k h = long-part (sizes l) m fits k h

  part_zero : (k : ℕ) → 0 < k → k < 14 → (i : ℕ) → get_or (part l m k) i 0 ≡ 0
  part_zero k g h = zero-part (sizes l) m fits k h (λ i a b. z i (omega (arith, start_first 5 (drop 1 (sizes l)) k g (omega arith))) b)

  size_table : (k : Kind) → get_or (sizes l) (kind_part k) 0 ≡ arena (cap_of l k)
  size_table op = refl
  size_table blk = refl
  size_table reg = refl
  size_table val = refl
  size_table usg = refl

  size_family : (f : Fam) → get_or (sizes l) (fam_part f) 0 ≡ family (nc_of l f) (nn_of l f)
  size_family slots = refl
  size_family use_sets = refl
  size_family vals = refl
  size_family regs = refl
  size_family ops_in = refl
  size_family blocks_in = refl

  cap≤ : Caps l → (k : Kind) → cap_of l k ≤ 16384
  cap≤ C op = omega (arith, C.ops)
  cap≤ C blk = omega (arith, C.blocks)
  cap≤ C reg = omega (arith, C.regions)
  cap≤ C val = omega (arith, C.values)
  cap≤ C usg = omega (arith, C.uses)

  table_fresh : Caps l → (k : Kind) → Fresh (cap_of l k) (part l m (kind_part k))
  unfolding arena
  table_fresh C k =
      let n : ℕ = cap_of l k in
      let s : List ℕ = part l m (kind_part k) in
      let long : length s ≡ cells n + words n = part_long (kind_part k) (omega (arith, kind_part< k)) ∙ size_table k in
      let zeros : (i : ℕ) → get_or s i 0 ≡ 0 = part_zero (kind_part k) (kind_part< k).0 (omega (arith, kind_part< k)) in
      fresh n s long
      (started n (front n s) (cap≤ C k) (length-take-le (cells n) s (omega (arith, long))) (λ i h. get_or-take (cells n) s i 0 (omega (arith, h, length-take-le (cells n) s (omega (arith, long)))) ∙ zeros i))
      (all_clear (back n s) (λ i h. get_or-drop (cells n) s i 0 ∙ zeros (cells n + i)))

  family_fresh : (f : Fam) → Emptied (nc_of l f) (nn_of l f) (part l m (fam_part f))
  family_fresh f = emptied (nc_of l f) (nn_of l f) (part l m (fam_part f)) (part_long (fam_part f) (omega (arith, fam_part< f)) ∙ size_family f) (λ i h. part_zero (fam_part f) (omega (arith, fam_part< f)) (omega (arith, fam_part< f)) i)

  nils : (n c : ℕ) → ◌≡◌ {A = List ℕ} (get_or (replicate n []) c []) []
  nils zero c = refl
  nils (suc n) zero = refl
  nils (suc n) (suc c) = nils n c

  rows_none : (f : Fam) (j : ℕ) → (parts_of l (split (sizes l) m)).rows f j ≡ []
  unfolding parts_of
  rows_none f j = ap (λ (ls : List (List ℕ)). get_or ls j []) (family_fresh f).rows ∙ nils (nc_of l f) j

  homes_none : (f : Fam) (q : ℕ) → (parts_of l (split (sizes l) m)).homes f q ≡ none
  unfolding parts_of
  homes_none f q = ap decode (part_zero (fam_part f) (omega (arith, fam_part< f)) (omega (arith, fam_part< f)) (home (nc_of l f) (nn_of l f) q))

  tags_none : (a : Thing) → (parts_of l (split (sizes l) m)).tags a ≡ 0
  unfolding parts_of
  tags_none a = go a.0 a.1
    where
      go : (k : Kind) (p : ℕ) → tag_in (split (sizes l) m) k p ≡ 0
      go op p = part_zero 12 (omega arith) (omega arith) p
      go blk p = refl
      go reg p = refl
      go val p = part_zero 13 (omega arith) (omega arith) p
      go usg p = refl

  books_none : Caps l → (k : Kind) → (parts_of l (split (sizes l) m)).books k ≡ record { cap = cap_of l k; next = 0; live = [] }
  unfolding parts_of
  books_none C k = λ i. record { cap = cap_of l k; next = (table_fresh C k).number i; live = (table_fresh C k).lives i }

  parts_none : Caps l → parts_of l (split (sizes l) m) ≡ record { books = λ k. record { cap = cap_of l k; next = 0; live = [] }; rows = λ f j. []; homes = λ f q. none; tags = λ a. 0 }
  parts_none C = λ i. record { books = λ k. books_none C k i; rows = λ f j. rows_none f j i; homes = λ f q. homes_none f q i; tags = λ a. tags_none a i }

  pick_nil : {A : Type 0} (w : Dec A) → ◌≡◌ {A = List Thing} (ite w [] []) []
  pick_nil (yes a) = refl
  pick_nil (no a) = refl

  pick_none : {A : Type 0} (w : Dec A) → ◌≡◌ {A = Option Con} (ite w none none) none
  pick_none (yes a) = refl
  pick_none (no a) = refl

  state_none : Caps l → state_of l m ≡ empty (cap_of l)
  unfolding store empty
  state_none C =
      ap (store (rows_for l)) (parts_none C)
      ∙ (λ i. record {
        tab = λ k. record { cap = cap_of l k; next = 0; num = λ p. 0; order = [] };
        list = λ a r. pick_nil (Con-dec ((rows_for l).con (fam r) ((rows_for l).row r a.1)) (r, a)) i;
        own = λ a f. pick_none (Kind-dec a.0 (node_in f)) i;
        tag = λ a. 0;
      })

  tags_of : (a : Thing) → (state_of l m).tag a ≡ 0
  unfolding store
  tags_of a = tags_none a

  started_store : Caps l → part l m 0 ≡ l.ops ∷ l.blocks ∷ l.regions ∷ l.values ∷ l.uses ∷ [] → SoundStore l m × (state_of l m ≡ empty (cap_of l))
  started_store C h = (
    record {
      well = record { caps = C; fits = fits; head = h; tables = λ k. (table_fresh C k).packed; families = λ f. (family_fresh f).linked; spare = λ a z. tags_of a };
      sound = rw (state_none C) (empty_sound (cap_of l));
    },
    state_none C,
  )

-- ---- the header

abbrev pub headed : ℕ → ℕ → ℕ → ℕ → ℕ → List ℕ → List ℕ
headed a b c d e m = set (set (set (set (set m 0 a) 1 b) 2 c) 3 d) 4 e

head_is : (a b c d e : ℕ) (m : List ℕ) → 5 ≤ length m → take 5 (headed a b c d e m) ≡ a ∷ b ∷ c ∷ d ∷ e ∷ []
head_is a b c d e [] h = absurd (omega arith)
head_is a b c d e (x ∷ []) h = absurd (omega arith)
head_is a b c d e (x ∷ y ∷ []) h = absurd (omega arith)
head_is a b c d e (x ∷ y ∷ z ∷ []) h = absurd (omega arith)
head_is a b c d e (x ∷ y ∷ z ∷ v ∷ []) h = absurd (omega arith)
head_is a b c d e (x ∷ y ∷ z ∷ v ∷ w ∷ m) h = refl

past_head : (a b c d e : ℕ) (m : List ℕ) (i : ℕ) → 5 ≤ i → get_or (headed a b c d e m) i 0 ≡ get_or m i 0
past_head a b c d e m i h =
    get_or-set_other (set (set (set (set m 0 a) 1 b) 2 c) 3 d) 4 i e 0 (omega arith)
    ∙ get_or-set_other (set (set (set m 0 a) 1 b) 2 c) 3 i d 0 (omega arith)
    ∙ get_or-set_other (set (set m 0 a) 1 b) 2 i c 0 (omega arith)
    ∙ get_or-set_other (set m 0 a) 1 i b 0 (omega arith)
    ∙ get_or-set_other m 0 i a 0 (omega arith)

-- what lies past the parts
past_kept : (l : Layout) (m m' : List ℕ) → total l ≤ length m → length m' ≡ length m → ((i : ℕ) → total l ≤ i → get_or m' i 0 ≡ get_or m i 0) → part l m' 14 ≡ part l m 14
past_kept l m m' fits long same =
    rest_is (sizes l) m'
    ∙ ext_get_or 0 (drop (total l) m') (drop (total l) m) (simp length-drop (omega (arith, long)))
    (λ i h. get_or-drop (total l) m' i 0 ∙ same (total l + i) (omega arith) ∙ sym (get_or-drop (total l) m i 0))
    ∙ sym (rest_is (sizes l) m)

pub started_all : (l : Layout) (m m₁ : List ℕ) {n : ℕ} → Caps l → total l ≤ length m → n ≡ total l → Zeroed n m m₁ → length (headed l.ops l.blocks l.regions l.values l.uses m₁) ≡ length m
    → Started l m (headed l.ops l.blocks l.regions l.values l.uses m₁)
unfolding split
started_all l m m₁ C fits e Z₀ long =
    let Z : Zeroed (total l) m m₁ = rw e at Z₀ in
    let m₂ : List ℕ = headed l.ops l.blocks l.regions l.values l.uses m₁ in
    let r : SoundStore l m₂ × (state_of l m₂ ≡ empty (cap_of l)) =
    started_store l m₂ (omega (arith, long)) (λ i h g. past_head l.ops l.blocks l.regions l.values l.uses m₁ i h ∙ Z.zero i g) C
    (head_is l.ops l.blocks l.regions l.values l.uses m₁ (omega (arith, Z.long))) in
    record {
      sound = r.0;
      state = r.1;
      rest = past_kept l m m₂ fits long (λ i h. past_head l.ops l.blocks l.regions l.values l.uses m₁ i (omega arith) ∙ Z.rest i h);
    }

-- the part that the code filled with zeros
pub filled : {n : ℕ} (m : List ℕ) {s : List ℕ} → n ≤ length m → length s ≡ length (take n m) → s ≡ replicate (length (take n m)) 0 → Zeroed n m (s ++ drop n m)
filled {n} m {s} fits len zeros =
    record {
      long = length-append s (drop n m) ∙ omega (arith, long, length-drop n m);
      zero = λ i h. get_or-append s (drop n m) 0 i (omega (arith, h, long)) ∙ rw zeros (get_or-replicate (length (take n m)) i 0 0 (omega (arith, h, length-take-le n m fits)));
      rest = λ i h. get_or-append_right s (drop n m) i 0 (omega (arith, h, long)) ∙ rw long (get_or-drop n m (i - n) 0 ∙ ap (λ (j : ℕ). get_or m j 0) (omega (arith, h)));
    }
  where
    long : length s ≡ n
    long = len ∙ length-take-le n m fits
