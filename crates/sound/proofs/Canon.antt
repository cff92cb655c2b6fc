-- A sound buffer's words are fixed by what it means: two that mean the same are the same up to the end of the store. Assumes nothing.
use mathlib.Core.Path.{◌≡◌, refl, sym, ap, ap₂, ◌∙◌, subst}
use mathlib.Core.Logic.{⊎_elim, by_cases, if_pos, if_neg}
use mathlib.Core.List.{List, [], ◌∷◌, ◌++◌, map}
use native.Mathlib.Decide.{ℕ_discrete}
use native.Mathlib.Omega.{arith}
use Prim.Native.Nat.{ℕ, zero, suc, ◌+◌, ◌-◌, ◌^◌, ◌<◌, ◌≤◌, suc-le-suc}
use lib.ListN.{length, get_or, take, drop}
use lib.Seq.{get_or-take, get_or-drop, take-add, ext_get_or}
use Rattle.seqs.specs.Seqs.{count, Rises}
use Rattle.seqs.specs.Split.{split, start, length_part}
use Rattle.places.specs.Store.{Kind, op, blk, reg, val, usg, Fam, slots, use_sets, vals, regs, ops_in, blocks_in, node_of, Thing, State}
use Rattle.places.specs.Parts.{lookup, places, store}
use Rattle.seqs.proofs.Base.{tick_yes, rises_once}
use Rattle.places.proofs.Cut.{zero_or}
use Rattle.table.specs.Table as T
use Rattle.linked_list.specs.Links.{Links, Linked, lists}
use Rattle.arena.proofs.Canonical.{canonical}
use Rattle.context.specs.declared.Layout.{Layout}
use Rattle.context.specs.Layout.{cap_of, nc_of, nn_of, sizes, total, kind_part, fam_part}
use Rattle.context.specs.Memory.{part, con, parts_of, state_of, Well, SoundStore}
use Rattle.context.proofs.Families.{list_at}
use Rattle.context.proofs.Pieces.{lent}
use Rattle.sound_parts.proofs.Canon.{links_canonical}
use Rattle.sound.specs.Crossing.{table_in}

-- memories with the same parts are the same up to the end of the last
same_parts : (ns m m' : List ℕ) → ((k : ℕ) → k < length ns → get_or (split ns m) k [] ≡ get_or (split ns m') k []) → take (start ns (length ns)) m ≡ take (start ns (length ns)) m'
unfolding split
same_parts [] m m' h = refl
same_parts (n ∷ ns) m m' h =
    take-add n (start ns (length ns)) m
    ∙ ap₂ {C = List ℕ} (λ a b. a ++ b) (h 0 (omega arith)) (same_parts ns (drop n m) (drop n m') (λ k q. h (suc k) (suc-le-suc q)))
    ∙ sym (take-add n (start ns (length ns)) m')

-- ---- from the meaning back to the entries of a table

pub lookup_none : (a : List (ℕ × ℕ)) (p : ℕ) → count ℕ_discrete p (places a) ≡ 0 → lookup a p ≡ 0
lookup_none [] p h = refl
lookup_none (e ∷ a) p h = by_cases (ℕ_discrete p e.1) (λ q. absurd (omega (arith, h, tick_yes (ℕ_discrete p e.1) q))) (λ n. if_neg (ℕ_discrete p e.1) n e.0 (lookup a p) ∙ lookup_none a p (omega (arith, h)))

-- entries are fixed by their places, in order, and the number at each
entries_same : (a b : List (ℕ × ℕ)) → ((p : ℕ) → count ℕ_discrete p (places a) ≤ 1) → places a ≡ places b → ((p : ℕ) → lookup a p ≡ lookup b p) → a ≡ b
entries_same [] [] o q h = refl
entries_same [] (f ∷ b) o q h = absurd (omega (arith, ap length q))
entries_same (e ∷ a) [] o q h = absurd (omega (arith, ap length q))
entries_same (e ∷ a) (f ∷ b) o q h =
    let place : e.1 ≡ f.1 = ap (λ (l : List ℕ). get_or l 0 0) q in
    let rest : places a ≡ places b = ap (drop 1) q in
    let number : e.0 ≡ f.0 = sym (if_pos (ℕ_discrete e.1 e.1) refl e.0 (lookup a e.1)) ∙ h e.1 ∙ if_pos (ℕ_discrete e.1 f.1) place f.0 (lookup b e.1) in
    let gone : count ℕ_discrete e.1 (places a) ≡ 0 = omega (arith, o e.1, tick_yes (ℕ_discrete e.1 e.1) refl) in
    let same : a ≡ b = entries_same a b (λ p. omega (arith, o p)) rest (λ p. by_cases (ℕ_discrete p e.1)
    (λ w. ap (lookup a) w ∙ lookup_none a e.1 gone ∙ sym (ap (lookup b) w ∙ lookup_none b e.1 (ap (count ℕ_discrete e.1) (sym rest) ∙ gone)))
    (λ n. sym (if_neg (ℕ_discrete p e.1) n e.0 (lookup a p)) ∙ h p ∙ if_neg (ℕ_discrete p f.1) (λ w. n (w ∙ sym place)) f.0 (lookup b p))) in
    λ i. (number i, place i) ∷ same i

-- a list of things of one kind is fixed by their places
unmapped : (k : Kind) (a b : List ℕ) → map {B = Thing} (λ q. (k, q)) a ≡ map {B = Thing} (λ q. (k, q)) b → a ≡ b
unmapped k a b e = sym (back a) ∙ ap (map (λ (x : Thing). x.1)) e ∙ back b
  where
    back : (l : List ℕ) → map (λ (x : Thing). x.1) (map {B = Thing} (λ q. (k, q)) l) ≡ l
    back [] = refl
    back (q ∷ l) = ap {B = List ℕ} (λ r. q ∷ r) (back l)

abbrev pub Small : List ℕ → Type 0
Small m = (i : ℕ) → get_or m i 0 < 2 ^ 32

small_part : (l : Layout) (m : List ℕ) (k : ℕ) → k < 14 → Small m → Small (part l m k)
small_part l m k h u i =
    subst (λ (s : List ℕ). get_or s i 0 < 2 ^ 32) (lent l k (start (sizes l) k) (start (sizes l) k + get_or (sizes l) k 0) m h refl refl)
    (small (start (sizes l) k + get_or (sizes l) k 0 - start (sizes l) k) (start (sizes l) k))
  where
    past : (s : List ℕ) (i : ℕ) → length s ≤ i → get_or s i 0 < 2 ^ 32
    past [] i h = omega arith
    past (x ∷ s) zero h = absurd (omega arith)
    past (x ∷ s) (suc i) h = past s i (omega (arith, h))

    small : (n a : ℕ) → get_or (take n (drop a m)) i 0 < 2 ^ 32
    small n a = ⊎_elim (λ z. past (take n (drop a m)) i (omega (arith, z))) (λ z. subst (λ (x : ℕ). x < 2 ^ 32) (sym (get_or-take n (drop a m) i 0 (omega (arith, z, at_most n (drop a m))) ∙ get_or-drop a m i 0)) (u (a + i))) (zero_or (length (take n (drop a m)) - i))
      where
        at_most : (n : ℕ) (s : List ℕ) → length (take n s) ≤ n
        at_most zero s = omega arith
        at_most (suc n) [] = omega arith
        at_most (suc n) (x ∷ s) = omega (arith, at_most n s)

-- a family is fixed by its lists
family_same : (nc nn : ℕ) (s s' : List ℕ) → Linked nc nn s → Linked nc nn s' → ((c : ℕ) → get_or (lists nc nn s) c [] ≡ get_or (lists nc nn s') c []) → s ≡ s'
family_same nc nn s s' K K' q =
    let e : lists nc nn s ≡ lists nc nn s' = ext_get_or [] (lists nc nn s) (lists nc nn s') (K.count ∙ sym K'.count) (λ i _. q i) in
    links_canonical nc nn s s' (lists nc nn s) K (subst (λ (l : List (List ℕ)). Links nc nn s' l) (sym e) K')

-- two sound buffers with the same layout and the same meaning by places
module _ {l : Layout} {m m' : List ℕ} (S : SoundStore l m) (S' : SoundStore l m') (u : Small m) (u' : Small m') (Q : state_of l m ≡ state_of l m') where
  abbrev W : Well l m
  W = S.well

  abbrev W' : Well l m'
  W' = S'.well

  next_same : (k : Kind) → T.next (table_in l m k) ≡ T.next (table_in l m' k)
  unfolding store parts_of
  next_same k = ap (λ (P : State). (P.tab k).next) Q

  live_same : (k : Kind) → T.live (cap_of l k) (table_in l m k) ≡ T.live (cap_of l k) (table_in l m' k)
  unfolding store parts_of
  live_same k = entries_same (T.live (cap_of l k) (table_in l m k)) (T.live (cap_of l k) (table_in l m' k)) (once (S.sound.linked.tabs k).rises) (ap (λ (P : State). (P.tab k).order) Q) (λ p. ap (λ (P : State). (P.tab k).num p) Q)
    where
      once : Rises ((state_of l m).tab k).num ((state_of l m).tab k).order → (p : ℕ) → count ℕ_discrete p ((state_of l m).tab k).order ≤ 1
      once r p = ⊎_elim (λ z. omega (arith, z)) (λ h. omega (arith, rises_once ((state_of l m).tab k).num ((state_of l m).tab k).order r p h)) (zero_or (count ℕ_discrete p ((state_of l m).tab k).order))

  row_same : (f : Fam) (c : ℕ) → get_or (lists (nc_of l f) (nn_of l f) (part l m (fam_part f))) c [] ≡ get_or (lists (nc_of l f) (nn_of l f) (part l m' (fam_part f))) c []
  unfolding parts_of
  row_same f c =
      unmapped (node_of (con l f c).0) ((parts_of l (split (sizes l) m)).rows f c) ((parts_of l (split (sizes l) m')).rows f c)
      (sym (list_at l.values l.ops (parts_of l (split (sizes l) m)) f c 0) ∙ ap (λ (P : State). P.list (con l f c).1 (con l f c).0) Q ∙ list_at l.values l.ops (parts_of l (split (sizes l) m')) f c 0)

  table_same : (k : Kind) → kind_part k < 14 → part l m (kind_part k) ≡ part l m' (kind_part k)
  table_same k h = canonical (cap_of l k) (part l m (kind_part k)) (part l m' (kind_part k)) (W.tables k) (W'.tables k) (small_part l m (kind_part k) h u) (small_part l m' (kind_part k) h u') (next_same k) (live_same k)

  list_same : (f : Fam) → part l m (fam_part f) ≡ part l m' (fam_part f)
  list_same f = family_same (nc_of l f) (nn_of l f) (part l m (fam_part f)) (part l m' (fam_part f)) (W.families f) (W'.families f) (row_same f)

  tag_same : (a : Thing) → (state_of l m).tag a ≡ (state_of l m').tag a
  tag_same a = ap (λ (P : State). P.tag a) Q

  long : (m : List ℕ) → Well l m → (k : ℕ) → k < 14 → start (sizes l) k + get_or (sizes l) k 0 ≤ total l → length (part l m k) ≡ get_or (sizes l) k 0
  long m W k h g =
      ap length (sym (lent l k (start (sizes l) k) (start (sizes l) k + get_or (sizes l) k 0) m h refl refl))
      ∙ length_part (start (sizes l) k) (start (sizes l) k + get_or (sizes l) k 0) m (omega (arith, W.fits, g)) ∙ omega arith

  flags_same : part l m 12 ≡ part l m' 12
  unfolding store parts_of
  flags_same = ext_get_or 0 (part l m 12) (part l m' 12) (long m W 12 (omega arith) (omega arith) ∙ sym (long m' W' 12 (omega arith) (omega arith))) (λ p _. tag_same (op, p))

  types_same : part l m 13 ≡ part l m' 13
  unfolding store parts_of
  types_same = ext_get_or 0 (part l m 13) (part l m' 13) (long m W 13 (omega arith) (omega arith) ∙ sym (long m' W' 13 (omega arith) (omega arith))) (λ p _. tag_same (val, p))

  each : (k : ℕ) → k < 14 → part l m k ≡ part l m' k
  each zero h = W.head ∙ sym W'.head
  each (suc zero) h = table_same op h
  each (suc (suc zero)) h = table_same blk h
  each (suc (suc (suc zero))) h = table_same reg h
  each (suc (suc (suc (suc zero)))) h = table_same val h
  each (suc (suc (suc (suc (suc zero))))) h = table_same usg h
  each (suc (suc (suc (suc (suc (suc zero)))))) h = list_same slots
  each (suc (suc (suc (suc (suc (suc (suc zero))))))) h = list_same use_sets
  each (suc (suc (suc (suc (suc (suc (suc (suc zero)))))))) h = list_same vals
  each (suc (suc (suc (suc (suc (suc (suc (suc (suc zero))))))))) h = list_same regs
  each (suc (suc (suc (suc (suc (suc (suc (suc (suc (suc zero)))))))))) h = list_same ops_in
  each (suc (suc (suc (suc (suc (suc (suc (suc (suc (suc (suc zero))))))))))) h = list_same blocks_in
  each (suc (suc (suc (suc (suc (suc (suc (suc (suc (suc (suc (suc zero)))))))))))) h = flags_same
  each (suc (suc (suc (suc (suc (suc (suc (suc (suc (suc (suc (suc (suc zero))))))))))))) h = types_same
  each (suc (suc (suc (suc (suc (suc (suc (suc (suc (suc (suc (suc (suc (suc k)))))))))))))) h = absurd (omega (arith, h))

  -- the theorem
  pub store_canonical : take (total l) m ≡ take (total l) m'
  store_canonical = same_parts (sizes l) m m' each
