-- Nothing lies inside itself, as a chain from container to container of any length. Assumes nothing.
use mathlib.Core.Path.{◌≡◌, refl, sym, ap, subst, ◌∙◌}
use mathlib.Core.Logic.{◌⊎◌, inl, inr}
use mathlib.Core.Bool.{Bool, true, false, cond, ◌||◌}
use mathlib.Core.List.{List, [], ◌∷◌}
use mathlib.Core.Option.{Option, none, some}
use Prim.Native.Nat.{ℕ, suc, ◌+◌, ◌*◌, ◌≤◌, ◌<◌}
use native.Mathlib.Omega.{arith}
use lib.Dec.{T, eqb, eqb→eq}
use lib.ListN.{length}
use Rattle.rules.specs.Table.{find, keys, member, one, count}
use Rattle.edit.specs.Record.{Thing, the_operation, the_block, the_region}
use Rattle.rules.specs.History.{Operation, History, block_of_op, block_at, region_at, parent}
use Rattle.rules.specs.Demand.{LiesIn, directly, further, as_thing, up_from}
use Rattle.rules.proofs.Tables.{or_split}
use Rattle.rules.proofs.Places.{yes_member}
use Rattle.rules.proofs.Nest.{next, over, Down, Nested, is_member}
use Rattle.rules.proofs.Inside.{found_key}
use Rattle.rules.proofs.Laws.{none_some, is_true}

-- how many stand from n on
unfoldable rank : ℕ → List ℕ → ℕ
rank n [] = 0
rank n (x ∷ xs) = let r = rank n xs in cond (eqb x n) (suc (length xs)) r

rank_most : (n : ℕ) (xs : List ℕ) → rank n xs ≤ length xs
unfolding rank
rank_most n [] = omega arith
rank_most n (x ∷ xs) = go (eqb x n) (rank_most n xs)
  where
    go : (b : Bool) → rank n xs ≤ length xs → cond b (suc (length xs)) (rank n xs) ≤ suc (length xs)
    go true ih = omega arith
    go false ih = omega arith

rank_least : (n : ℕ) (xs : List ℕ) → T (member n xs) → 1 ≤ rank n xs
unfolding rank member
rank_least n [] m = absurd m
rank_least n (x ∷ xs) m = go (eqb x n) m (rank_least n xs)
  where
    go : (b : Bool) → T (b || member n xs) → (T (member n xs) → 1 ≤ rank n xs) → 1 ≤ cond b (suc (length xs)) (rank n xs)
    go true q ih = omega arith
    go false q ih = ih q

-- the parent of one has a lower rank: each number stands once
rank_down : (h : History) (xs : List ℕ) → Down h xs → ((n : ℕ) → count n xs ≤ 1) → (n p : ℕ) → T (member n xs) → over h n ≡ some p → rank p xs < rank n xs
unfolding rank member
rank_down h [] d u n p m e = absurd m
rank_down h (x ∷ xs) d u n p m e = go (eqb x n) refl (eqb x p) refl m (rank_down h xs d.1 (λ k. once k (eqb x k) (u k)) n p)
  where
    once : (k : ℕ) (b : Bool) → one b + count k xs ≤ 1 → count k xs ≤ 1
    once k b q = omega arith

    twice : (k : ℕ) → eqb x k ≡ true → T (member k xs) → ⊥
    twice k z q = omega (arith, u k, ap one z, yes_member k xs q)

    go : (b : Bool) → eqb x n ≡ b → (c : Bool) → eqb x p ≡ c → T (b || member n xs) → (T (member n xs) → over h n ≡ some p → rank p xs < rank n xs) → cond (eqb x p) (suc (length xs)) (rank p xs) < cond (eqb x n) (suc (length xs)) (rank n xs)
    go true z true w q ih = absurd (twice p w (d.0 p (subst (λ (a : ℕ). over h a ≡ some p) (sym (eqb→eq x n (is_true z))) e)))
    go true z false w q ih = rw z (rw w (omega (arith, rank_most p xs)))
    go false z true w q ih = absurd (twice p w (parent_in h xs d.1 n p q e))
      where
        parent_in : (h : History) (ys : List ℕ) → Down h ys → (a b : ℕ) → T (member a ys) → over h a ≡ some b → T (member b ys)
        parent_in h [] v a b s r = absurd s
        parent_in h (y ∷ ys) v a b s r = at (or_split (eqb y a) (member a ys) s) (parent_in h ys v.1 a b)
          where
            into : T (member b ys) → T (eqb y b || member b ys)
            into s = side (eqb y b)
              where
                side : (c : Bool) → T (c || member b ys)
                side true = tt
                side false = s

            at : T (eqb y a) ⊎ T (member a ys) → (T (member a ys) → over h a ≡ some b → T (member b ys)) → T (eqb y b || member b ys)
            at (inl f) ih = into (v.0 b (subst (λ (c : ℕ). over h c ≡ some b) (sym (eqb→eq y a f)) r))
            at (inr f) ih = into (ih f r)
    go false z false w q ih = rw z (rw w (ih q e))

-- ---- a number for each thing that falls from container to container

module _ (h : History) (ns : List ℕ) where
  abbrev under_region : Option ℕ → ℕ
  under_region none = 0
  under_region (some p) = 1 + 3 * rank p ns

  abbrev under_block : Option ℕ → ℕ
  under_block none = 0
  under_block (some r) = 1 + under_region (parent h r)

  abbrev depth : Thing → ℕ
  depth (the_operation n) = 3 * rank n ns
  depth (the_block b) = under_block (region_at h b)
  depth (the_region r) = under_region (parent h r)

some_thing : (f : ℕ → Thing) (o : Option ℕ) (t : Thing) → as_thing f o ≡ some t → (n : ℕ) × (o ≡ some n) × (f n ≡ t)
unfolding as_thing
some_thing f none t e = absurd (none_some e)
some_thing f (some n) t e = (n, refl, (let w : f n ≡ t = cc in w))

linked_found : (h : History) (n b : ℕ) → block_at h n ≡ some b → 1 ≤ count n (keys h.operations)
unfolding block_at block_of_op
linked_found h n b e = go (find h.operations n) refl e
  where
    go : (o : Option Operation) → find h.operations n ≡ o → block_of_op o ≡ some b → 1 ≤ count n (keys h.operations)
    go none z q = absurd (none_some q)
    go (some a) z q = found_key n h.operations a z

falls : (h : History) (ns : List ℕ) → Nested ns h → ((n : ℕ) → count n ns ≤ 1) → (a b : Thing) → up_from h a ≡ some b → depth h ns b < depth h ns a
unfolding up_from
falls h ns w u (the_operation n) t e =
    let f = some_thing the_block (block_at h n) t e in
    subst (λ (x : Thing). depth h ns x < 3 * rank n ns) f.2 (at f.0 f.1 (is_member n ns (omega (arith, w.same n, linked_found h n f.0 f.1))))
  where
    at : (b : ℕ) → block_at h n ≡ some b → T (member n ns) → under_block h ns (region_at h b) < 3 * rank n ns
    at b z m = region (region_at h b) refl
      where
        region : (o : Option ℕ) → region_at h b ≡ o → under_block h ns o < 3 * rank n ns
        region none q = omega (arith, rank_least n ns m)
        region (some r) q = up (parent h r) refl
          where
            up : (v : Option ℕ) → parent h r ≡ v → 1 + under_region h ns v < 3 * rank n ns
            up none s = omega (arith, rank_least n ns m)
            up (some p) s = omega (arith, rank_down h ns w.down u n p m (unfold over in (ap (λ (c : Option ℕ). next c (λ d. next (region_at h d) (parent h))) z ∙ ap (λ (c : Option ℕ). next c (parent h)) q ∙ s)))
falls h ns w u (the_block b) t e =
    let f = some_thing the_region (region_at h b) t e in
    subst (λ (x : Thing). depth h ns x < under_block h ns (region_at h b)) f.2 (subst (λ (o : Option ℕ). under_region h ns (parent h f.0) < under_block h ns o) (sym f.1) (omega arith))
falls h ns w u (the_region r) t e =
    let f = some_thing the_operation (parent h r) t e in
    subst (λ (x : Thing). depth h ns x < under_region h ns (parent h r)) f.2 (subst (λ (o : Option ℕ). 3 * rank f.0 ns < under_region h ns o) (sym f.1) (omega arith))

lies_falls : (h : History) (ns : List ℕ) → Nested ns h → ((n : ℕ) → count n ns ≤ 1) → {a b : Thing} → LiesIn (up_from h) a b → depth h ns b < depth h ns a
lies_falls h ns w u {a} {b} (directly e) = falls h ns w u a b e
lies_falls h ns w u {a} {b} (further {b = c} e q) = let y : depth h ns c < depth h ns a = falls h ns w u a c e in let z : depth h ns b < depth h ns c = lies_falls h ns w u q in omega arith

pub not_in_itself : (h : History) (ns : List ℕ) → Nested ns h → ((n : ℕ) → count n ns ≤ 1) → (t : Thing) → LiesIn (up_from h) t t → ⊥
not_in_itself h ns w u t q = let z : depth h ns t < depth h ns t = lies_falls h ns w u q in omega arith
