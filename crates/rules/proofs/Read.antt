-- The edits that are read from records keep the limits of 4. Assumes nothing.
use mathlib.Core.Path.{◌≡◌, refl, subst}
use mathlib.Core.Bool.{Bool, true, false, ◌&&◌, ◌||◌}
use mathlib.Core.List.{List, [], ◌∷◌}
use Prim.Native.Nat.{ℕ, zero, suc, ◌+◌, ◌-◌, ◌≤◌}
use native.Mathlib.Omega.{arith}
use borrow.Author.Tests.{ltb-false, eqb-false}
use lib.Dec.{T, eqb, ltb}
use lib.ListN.{length, get_or, take, drop}
use Rattle.edit.specs.Record.{Edit, new_operation, new_block, push_use, insert_use, replace_use, remove_use, pop_use, push_value, insert_value, remove_value, pop_value, link_after, link_before, link_front, link_back, unlink, move_region, move_use, replace_some, retarget_some, drop_uses, erase_operation, erase_block, erase_region, verdict}
use Rattle.edit.specs.Record.{least, field, part, over, filled, edits, refused, asks, read}

-- what 3 and 4 let through: flags of at most 3 and lists of at most 64
abbrev pub Small : Edit → Type 0
Small (new_operation fl ts vs bs g) = (fl ≤ 3) × (length ts ≤ 64) × (length vs ≤ 64) × (length bs ≤ 64) × (g ≤ 64)
Small (new_block ts) = length ts ≤ 64
Small (push_use sl o d) = Unit {0}
Small (insert_use sl o i d) = Unit {0}
Small (replace_use sl o i d) = Unit {0}
Small (remove_use sl o i) = Unit {0}
Small (pop_use sl o) = Unit {0}
Small (push_value m o ty) = Unit {0}
Small (insert_value m o i ty) = Unit {0}
Small (remove_value m o i) = Unit {0}
Small (pop_value m o) = Unit {0}
Small (link_after m x c) = Unit {0}
Small (link_before m x c) = Unit {0}
Small (link_front m x c) = Unit {0}
Small (link_back m x c) = Unit {0}
Small (unlink m x) = Unit {0}
Small (move_region r o) = Unit {0}
Small (move_use sl a u b) = Unit {0}
Small (replace_some a b us) = Unit {0}
Small (retarget_some a b ps) = Unit {0}
Small (drop_uses t) = Unit {0}
Small (erase_operation n) = Unit {0}
Small (erase_block n) = Unit {0}
Small (erase_region o i) = Unit {0}
Small (verdict t) = Unit {0}

take_short : (n : ℕ) (xs : List ℕ) → length (take n xs) ≤ n
take_short zero xs = omega arith
take_short (suc n) [] = omega arith
take_short (suc n) (x ∷ xs) = omega (arith, take_short n xs)

part_short : (fs : List ℕ) (from n : ℕ) → n ≤ 64 → length (part fs from n) ≤ 64
unfolding part
part_short fs from n k = omega (arith, take_short n (drop from fs))

abbrev AllSmall : List Edit → Type 0
AllSmall [] = Unit {0}
AllSmall (e ∷ es) = Small e × AllSmall es

small_at : (es : List Edit) (i : ℕ) (d : Edit) → AllSmall es → Small d → Small (get_or es i d)
small_at [] i d w k = k
small_at (e ∷ es) zero d w k = w.0
small_at (e ∷ es) (suc i) d w k = small_at es i d w.1 k

-- none of the five counts is over
one_under : (fs : List ℕ) → over fs 1 ≡ false → (field fs 0 ≤ 3) × (field fs 1 ≤ 64) × (field fs 2 ≤ 64) × (field fs 3 ≤ 64) × (field fs 4 ≤ 64)
unfolding over
one_under fs z = go (ltb 3 (field fs 0)) refl (ltb 64 (field fs 1)) refl (ltb 64 (field fs 2)) refl (ltb 64 (field fs 3)) refl (ltb 64 (field fs 4)) refl z
  where
    go : (a : Bool) → ltb 3 (field fs 0) ≡ a → (b : Bool) → ltb 64 (field fs 1) ≡ b → (c : Bool) → ltb 64 (field fs 2) ≡ c → (d : Bool) → ltb 64 (field fs 3) ≡ d → (e : Bool) → ltb 64 (field fs 4) ≡ e → (true && (a || b || c || d || e)) || (false && ltb 64 (field fs 0)) || (false && ltb 258 (length fs)) ≡ false → (field fs 0 ≤ 3) × (field fs 1 ≤ 64) × (field fs 2 ≤ 64) × (field fs 3 ≤ 64) × (field fs 4 ≤ 64)
    go true p b q c r d s e t m = absurd (subst T m tt)
    go false p true q c r d s e t m = absurd (subst T m tt)
    go false p false q true r d s e t m = absurd (subst T m tt)
    go false p false q false r true s e t m = absurd (subst T m tt)
    go false p false q false r false s true t m = absurd (subst T m tt)
    go false p false q false r false s false t m = (ltb-false _ _ p, ltb-false _ _ q, ltb-false _ _ r, ltb-false _ _ s, ltb-false _ _ t)

two_under : (fs : List ℕ) → over fs 2 ≡ false → field fs 0 ≤ 64
unfolding over
two_under fs z = go (ltb 64 (field fs 0)) refl z
  where
    go : (a : Bool) → ltb 64 (field fs 0) ≡ a → (false && (ltb 3 (field fs 0) || ltb 64 (field fs 1) || ltb 64 (field fs 2) || ltb 64 (field fs 3) || ltb 64 (field fs 4))) || (true && a) || (false && ltb 258 (length fs)) ≡ false → field fs 0 ≤ 64
    go true p m = absurd (subst T m tt)
    go false p m = ltb-false _ _ p

small_edit : (fs : List ℕ) (kind n : ℕ) → kind - 1 ≡ n → (kind ≡ 0 → ⊥) → over fs kind ≡ false → Small (get_or (edits fs) n (new_block []))
unfolding edits
small_edit fs kind zero z k o =
    let one : kind ≡ 1 = at kind z k in
    let u : (field fs 0 ≤ 3) × (field fs 1 ≤ 64) × (field fs 2 ≤ 64) × (field fs 3 ≤ 64) × (field fs 4 ≤ 64) = one_under fs (subst (λ (q : ℕ). over fs q ≡ false) one o) in
    (u.0, part_short fs 5 (field fs 1) u.1, part_short fs (5 + field fs 1) (field fs 2) u.2, part_short fs (5 + field fs 1 + field fs 2) (field fs 3) u.3, u.4)
  where
    at : (q : ℕ) → q - 1 ≡ 0 → (q ≡ 0 → ⊥) → q ≡ 1
    at zero y x = absurd (x refl)
    at (suc q) y x = omega arith
small_edit fs kind (suc zero) z k o = part_short fs 1 (field fs 0) (two_under fs (subst (λ (q : ℕ). over fs q ≡ false) (let w : kind ≡ 2 = omega arith in w) o))
small_edit fs kind (suc (suc n)) z k o = small_at (drop 2 (edits fs)) n (new_block []) (tt, (tt, (tt, (tt, (tt, (tt, (tt, (tt, (tt, (tt, (tt, (tt, (tt, (tt, (tt, (tt, (tt, (tt, (tt, (tt, (tt, (tt, (tt, (tt, (tt, (tt, (tt, (tt, (tt, (tt, (tt, (tt, (tt, (tt, (tt, (tt, (tt, (tt, (tt, (tt, (tt, (tt, tt)))))))))))))))))))))))))))))))))))))))))) (omega arith)

pub read_small : (kind : ℕ) (fs : List ℕ) (e : Edit) → read kind fs ≡ asks e → Small e
unfolding read
read_small kind fs e r = go (eqb kind 0) refl (ltb 44 kind) (ltb (length fs) (get_or least (kind - 1) 0)) (over fs kind) refl (eqb (length fs) (filled fs kind)) r
  where
    no : (n : ℕ) → refused n ≡ asks e → ⊥
    no n q = let z : ◌≡◌ {A = ℕ} 0 1 = cc in omega arith

    go : (a : Bool) → eqb kind 0 ≡ a → (a' b c : Bool) → over fs kind ≡ c → (d : Bool) → elim (a || a') [ true ↦ refused 2 | false ↦ elim b [ true ↦ refused 3 | false ↦ elim c [ true ↦ refused 4 | false ↦ elim d [ true ↦ asks (get_or (edits fs) (kind - 1) (new_block [])) | false ↦ refused 3 ] ] ] ] ≡ asks e → Small e
    go true p a' b c q d m = absurd (no 2 m)
    go false p true b c q d m = absurd (no 2 m)
    go false p false true c q d m = absurd (no 3 m)
    go false p false false true q d m = absurd (no 4 m)
    go false p false false false q true m = subst Small (let w : get_or (edits fs) (kind - 1) (new_block []) ≡ e = cc in w) (small_edit fs kind (kind - 1) refl (eqb-false kind 0 p) q)
    go false p false false false q false m = absurd (no 3 m)
