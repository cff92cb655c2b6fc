-- Where nothing lies inside itself, the operations can be listed with parents later: so a sound state has what the proofs of the climb and of
-- the walks start from. Assumes nothing.
use mathlib.Core.Path.{◌≡◌, refl, sym, ap, subst, ◌∙◌}
use mathlib.Core.Logic.{◌⊎◌, inl, inr}
use mathlib.Core.Bool.{Bool, true, false, not, cond}
use mathlib.Core.List.{List, [], ◌∷◌, ◌++◌}
use mathlib.Core.Option.{Option, none, some}
use Prim.Native.Nat.{ℕ, zero, suc, ◌+◌, ◌≤◌, ◌<◌}
use native.Mathlib.Omega.{arith}
use borrow.Author.Tests.{leb-true, leb-false, eqb-false}
use lib.Dec.{T, eqb, leb, eqb→eq}
use lib.ListN.{length}
use Rattle.rules.specs.Table.{keep, keys, member, one, count}
use Rattle.edit.specs.Record.{Thing, the_operation, the_block, the_region}
use Rattle.rules.specs.History.{History, block_at, region_at, parent}
use Rattle.rules.specs.Demand.{LiesIn, directly, further, as_thing, up_from}
use Rattle.rules.proofs.Tables.{or_split, or_r}
use Rattle.rules.proofs.Places.{count_append, no_member}
use Rattle.rules.proofs.Rising.{Sorted}
use Rattle.rules.proofs.Regions.{parent_found}
use Rattle.rules.proofs.Nest.{next, over, Down, Nested, is_member, less, count_without, length_without, one_self}
use Rattle.rules.proofs.Inside.{found_key}
use Rattle.rules.proofs.Laws.{none_some, is_true}
use Rattle.rules.proofs.Listed.{count_keep}

lies_trans : {up : Thing → Option Thing} {a b c : Thing} → LiesIn up a b → LiesIn up b c → LiesIn up a c
lies_trans (directly e) q = further e q
lies_trans (further e p) q = further e (lies_trans p q)

-- the parent operation is three steps up
over_lies : (h : History) (n p : ℕ) → over h n ≡ some p → LiesIn (up_from h) (the_operation n) (the_operation p)
unfolding over up_from as_thing
over_lies h n p e = at_block (block_at h n) refl e
  where
    at_region : (b r : ℕ) → block_at h n ≡ some b → region_at h b ≡ some r → parent h r ≡ some p → LiesIn (up_from h) (the_operation n) (the_operation p)
    at_region b r x y z = further {b = the_block b} (ap (as_thing the_block) x) (further {b = the_region r} (ap (as_thing the_region) y) (directly (ap (as_thing the_operation) z)))

    next_region : (b : ℕ) → block_at h n ≡ some b → (o : Option ℕ) → region_at h b ≡ o → next o (parent h) ≡ some p → LiesIn (up_from h) (the_operation n) (the_operation p)
    next_region b x none y z = absurd (none_some z)
    next_region b x (some r) y z = at_region b r x y z

    at_block : (o : Option ℕ) → block_at h n ≡ o → next o (λ b. next (region_at h b) (parent h)) ≡ some p → LiesIn (up_from h) (the_operation n) (the_operation p)
    at_block none x z = absurd (none_some z)
    at_block (some b) x z = next_region b x (region_at h b) refl z

-- an operation and those over it, as far as the fuel goes
unfoldable onward : (ℕ → List ℕ) → Option ℕ → List ℕ
onward f none = []
onward f (some p) = f p

unfoldable chain : History → ℕ → ℕ → List ℕ
chain h zero n = []
chain h (suc fuel) n = n ∷ onward (chain h fuel) (over h n)

-- a chain that ends within the fuel is the same with more
chain_ends : (h : History) (fuel n : ℕ) → length (chain h (suc fuel) n) ≤ fuel → chain h fuel n ≡ chain h (suc fuel) n
unfolding chain onward
chain_ends h zero n k = absurd (omega arith)
chain_ends h (suc fuel) n k = ap {B = List ℕ} (λ x. n ∷ x) (go (over h n) k (chain_ends h fuel))
  where
    go : (o : Option ℕ) → suc (length (onward (chain h (suc fuel)) o)) ≤ suc fuel → ((p : ℕ) → length (chain h (suc fuel) p) ≤ fuel → chain h fuel p ≡ chain h (suc fuel) p) → onward (chain h fuel) o ≡ onward (chain h (suc fuel)) o
    go none q ih = refl
    go (some p) q ih = ih p (omega arith)

-- all of a chain but the first lie over it
chain_over : (h : History) (fuel n x : ℕ) → T (member x (chain h fuel n)) → (n ≡ x) ⊎ LiesIn (up_from h) (the_operation n) (the_operation x)
unfolding chain onward member
chain_over h zero n x m = absurd m
chain_over h (suc fuel) n x m = first (λ p. chain_over h fuel p x) (or_split (eqb n x) (member x (onward (chain h fuel) (over h n))) m)
  where
    first : ((p : ℕ) → T (member x (chain h fuel p)) → (p ≡ x) ⊎ LiesIn (up_from h) (the_operation p) (the_operation x)) → T (eqb n x) ⊎ T (member x (onward (chain h fuel) (over h n))) → (n ≡ x) ⊎ LiesIn (up_from h) (the_operation n) (the_operation x)
    first again (inl q) = inl (eqb→eq n x q)
    first again (inr q) = inr (go (over h n) refl q)
      where
        go : (o : Option ℕ) → over h n ≡ o → T (member x (onward (chain h fuel) o)) → LiesIn (up_from h) (the_operation n) (the_operation x)
        go none z t = absurd t
        go (some p) z t = pick (again p t)
          where
            pick : (p ≡ x) ⊎ LiesIn (up_from h) (the_operation p) (the_operation x) → LiesIn (up_from h) (the_operation n) (the_operation x)
            pick (inl e) = subst (λ (y : ℕ). LiesIn (up_from h) (the_operation n) (the_operation y)) e (over_lies h n p z)
            pick (inr e) = lies_trans (over_lies h n p z) e

-- numbers that stand no more often than in another list are no more
pub sub_length : (xs ys : List ℕ) → ((n : ℕ) → count n xs ≤ count n ys) → length xs ≤ length ys
sub_length [] ys k = omega arith
sub_length (x ∷ xs) ys k =
    let m : T (member x ys) = is_member x ys (omega (arith, k x, one_self x)) in
    let ih : length xs ≤ length (less x ys) = sub_length xs (less x ys) (λ n. omega (arith, k n, count_without n x ys m)) in
    omega (arith, length_without x ys m)

module _ (h : History) (b : ℕ) (so : Sorted b h.operations) (free : (t : Thing) → LiesIn (up_from h) t t → ⊥) where
  abbrev live : ℕ → Type 0
  live n = 1 ≤ count n (keys h.operations)

  over_live : (n p : ℕ) → over h n ≡ some p → live p
  unfolding over
  over_live n p e = at_block (block_at h n) e
    where
      at_region : (o : Option ℕ) → next o (parent h) ≡ some p → live p
      at_region none z = absurd (none_some z)
      at_region (some r) z = let f = parent_found r 0 b h.operations p so.rising (unfold parent in z) in found_key p h.operations f.0 f.1

      at_block : (o : Option ℕ) → next o (λ c. next (region_at h c) (parent h)) ≡ some p → live p
      at_block none z = absurd (none_some z)
      at_block (some c) z = at_region (region_at h c) z

  -- each stands once in a chain, and is live
  chain_once : (fuel n x : ℕ) → count x (chain h fuel n) ≤ 1
  unfolding chain onward
  chain_once zero n x = omega arith
  chain_once (suc fuel) n x = go (over h n) refl (eqb n x) refl (λ p. chain_once fuel p x)
    where
      go : (o : Option ℕ) → over h n ≡ o → (c : Bool) → eqb n x ≡ c → ((p : ℕ) → count x (chain h fuel p) ≤ 1) → one (eqb n x) + count x (onward (chain h fuel) o) ≤ 1
      go none z true q ih = omega (arith, ap one q)
      go none z false q ih = omega (arith, ap one q)
      go (some p) z false q ih = omega (arith, ap one q, ih p)
      go (some p) z true q ih = away (member x (chain h fuel p)) refl
        where
          round : (p ≡ x) ⊎ LiesIn (up_from h) (the_operation p) (the_operation x) → LiesIn (up_from h) (the_operation n) (the_operation x)
          round (inl e) = subst (λ (y : ℕ). LiesIn (up_from h) (the_operation n) (the_operation y)) e (over_lies h n p z)
          round (inr e) = lies_trans (over_lies h n p z) e

          away : (c : Bool) → member x (chain h fuel p) ≡ c → one (eqb n x) + count x (chain h fuel p) ≤ 1
          away true w = absurd (free (the_operation x) (subst (λ (y : ℕ). LiesIn (up_from h) (the_operation y) (the_operation x)) (eqb→eq n x (is_true q)) (round (chain_over h fuel p x (is_true w)))))
          away false w = omega (arith, ap one q, no_member x (chain h fuel p) (subst (λ (y : Bool). T (not y)) (sym w) tt))

  chain_live : (fuel n x : ℕ) → live n → count x (chain h fuel n) ≤ count x (keys h.operations)
  chain_live fuel n x l = go (member x (chain h fuel n)) refl
    where
      inner : (f m : ℕ) → live m → T (member x (chain h f m)) → live x
      inner zero m k t = unfold chain member in (absurd t)
      inner (suc f) m k t = first (or_split (eqb m x) (member x (onward (chain h f) (over h m))) (unfold chain member in t)) (inner f)
        where
          first : T (eqb m x) ⊎ T (member x (onward (chain h f) (over h m))) → ((p : ℕ) → live p → T (member x (chain h f p)) → live x) → live x
          first (inl q) ih = subst live (eqb→eq m x q) k
          first (inr q) ih = at (over h m) refl q
            where
              at : (o : Option ℕ) → over h m ≡ o → T (member x (onward (chain h f) o)) → live x
              at none z v = unfold onward member in (absurd v)
              at (some p) z v = ih p (over_live m p z) (unfold onward in v)

      go : (c : Bool) → member x (chain h fuel n) ≡ c → count x (chain h fuel n) ≤ count x (keys h.operations)
      go true z = omega (arith, chain_once fuel n x, inner fuel n l (is_true z))
      go false z = omega (arith, no_member x (chain h fuel n) (subst (λ (y : Bool). T (not y)) (sym z) tt))

  -- how many lie over an operation, itself included
  abbrev size : ℕ
  size = length (keys h.operations)

  abbrev height : ℕ → ℕ
  height n = length (chain h (suc size) n)

  height_most : (n : ℕ) → live n → height n ≤ size
  height_most n l = sub_length (chain h (suc size) n) (keys h.operations) (λ x. chain_live (suc size) n x l)

  height_falls : (n p : ℕ) → over h n ≡ some p → height p < height n
  height_falls n p e =
      let ends : chain h size p ≡ chain h (suc size) p = chain_ends h size p (height_most p (over_live n p e)) in
      let whole : length (chain h (suc size) n) ≡ suc (length (chain h size p)) = unfold chain onward in (ap (λ (o : Option ℕ). suc (length (onward (chain h size) o))) e) in
      omega (arith, ap length ends)

  -- the operations of height e and lower, the higher ones first
  pub levels : ℕ → List ℕ
  levels zero = keep (λ n. eqb (height n) 0) (keys h.operations)
  levels (suc e) = keep (λ n. eqb (height n) (suc e)) (keys h.operations) ++ levels e

  count_levels : (e n : ℕ) → count n (levels e) ≡ cond (leb (height n) e) (count n (keys h.operations)) 0
  unfolding levels
  count_levels zero n = count_keep n (λ m. eqb (height m) 0) (keys h.operations) ∙ ap (λ (b : Bool). cond b (count n (keys h.operations)) 0) (same (eqb (height n) 0) refl (leb (height n) 0) refl)
    where
      same : (x : Bool) → eqb (height n) 0 ≡ x → (y : Bool) → leb (height n) 0 ≡ y → x ≡ y
      same true z true w = refl
      same true z false w = absurd (omega (arith, eqb→eq (height n) 0 (is_true z), leb-false (height n) 0 w))
      same false z true w = absurd (eqb-false (height n) 0 z (omega (arith, leb-true (height n) 0 w)))
      same false z false w = refl
  count_levels (suc e) n =
      let k : count n (keep (λ m. eqb (height m) (suc e)) (keys h.operations)) ≡ cond (eqb (height n) (suc e)) (count n (keys h.operations)) 0 = count_keep n (λ m. eqb (height m) (suc e)) (keys h.operations) in
      let ih : count n (levels e) ≡ cond (leb (height n) e) (count n (keys h.operations)) 0 = count_levels e n in
      omega (arith, count_append n (keep (λ m. eqb (height m) (suc e)) (keys h.operations)) (levels e), sums (eqb (height n) (suc e)) refl (leb (height n) e) refl (leb (height n) (suc e)) refl (count n (keys h.operations)))
    where
      sums : (x : Bool) → eqb (height n) (suc e) ≡ x → (y : Bool) → leb (height n) e ≡ y → (z : Bool) → leb (height n) (suc e) ≡ z → (c : ℕ) → cond (eqb (height n) (suc e)) c 0 + cond (leb (height n) e) c 0 ≡ cond (leb (height n) (suc e)) c 0
      sums true p true q z r c = absurd (omega (arith, eqb→eq (height n) (suc e) (is_true p), leb-true (height n) e q))
      sums true p false q true r c = rw p (rw q (rw r (omega arith)))
      sums true p false q false r c = absurd (omega (arith, eqb→eq (height n) (suc e) (is_true p), leb-false (height n) (suc e) r))
      sums false p true q true r c = rw p (rw q (rw r (omega arith)))
      sums false p true q false r c = absurd (omega (arith, leb-true (height n) e q, leb-false (height n) (suc e) r))
      sums false p false q true r c = absurd (eqb-false (height n) (suc e) p (omega (arith, leb-false (height n) e q, leb-true (height n) (suc e) r)))
      sums false p false q false r c = rw p (rw q (rw r (omega arith)))

  in_levels : (e n : ℕ) → live n → height n ≤ e → T (member n (levels e))
  in_levels e n l k = is_member n (levels e) (go (leb (height n) e) refl)
    where
      go : (b : Bool) → leb (height n) e ≡ b → 1 ≤ count n (levels e)
      go true z = omega (arith, (rw z at (count_levels e n)))
      go false z = absurd (omega (arith, leb-false (height n) e z))

  -- those of one height, in front of all that are lower
  down_level : (e : ℕ) (xs ys : List ℕ) → ((n p : ℕ) → height n ≡ e → over h n ≡ some p → T (member p ys)) → Down h ys → Down h (keep (λ n. eqb (height n) e) xs ++ ys)
  unfolding keep member
  down_level e [] ys k d = d
  down_level e (x ∷ xs) ys k d = go (eqb (height x) e) refl (down_level e xs ys k d)
    where
      later : (p : ℕ) (zs : List ℕ) → T (member p ys) → T (member p (zs ++ ys))
      later p [] t = t
      later p (z ∷ zs) t = or_r (eqb z p) (member p (zs ++ ys)) (later p zs t)

      go : (b : Bool) → eqb (height x) e ≡ b → Down h (keep (λ n. eqb (height n) e) xs ++ ys) → Down h (cond b (x ∷ keep (λ n. eqb (height n) e) xs) (keep (λ n. eqb (height n) e) xs) ++ ys)
      go true z ih = ((λ p q. later p (keep (λ n. eqb (height n) e) xs) (k x p (eqb→eq (height x) e (is_true z)) q)), ih)
      go false z ih = ih

  append_none : (xs : List ℕ) → xs ++ [] ≡ xs
  append_none [] = refl
  append_none (x ∷ xs) = ap {B = List ℕ} (λ r. x ∷ r) (append_none xs)

  down_levels : (e : ℕ) → Down h (levels e)
  unfolding levels
  down_levels zero = subst (Down h) (append_none (keep (λ n. eqb (height n) 0) (keys h.operations))) (down_level 0 (keys h.operations) [] (λ n p z q. absurd (omega (arith, height_falls n p q))) tt)
  down_levels (suc e) = down_level (suc e) (keys h.operations) (levels e) (λ n p z q. in_levels e p (over_live n p q) (omega (arith, height_falls n p q))) (down_levels e)

  -- the operations, each once, inner ones first
  pub nested_levels : Nested (levels size) h
  nested_levels = record { down = down_levels size; same = λ n. count_levels size n ∙ go n (leb (height n) size) refl }
    where
      go : (n : ℕ) (b : Bool) → leb (height n) size ≡ b → cond (leb (height n) size) (count n (keys h.operations)) 0 ≡ count n (keys h.operations)
      go n true z = rw z refl
      go n false z = rw z (dead (count n (keys h.operations)) refl)
        where
          dead : (c : ℕ) → count n (keys h.operations) ≡ c → 0 ≡ c
          dead zero q = refl
          dead (suc c) q = absurd (omega (arith, leb-false (height n) size z, height_most n (omega arith)))
