-- A table's cells are a function of the next number and of the live things. Assumes nothing.
use Rattle.std.proofs.Common.{◌≡◌, refl, sym, ap, ◌∙◌, ⊎_elim, List, [], ◌∷◌, ◌++◌, ℕ, zero, suc, ◌+◌, ◌-◌, ◌<◌, eq-zero-or-pos, arith, length, get_or, length-append, ext_get_or}
use lib.ListN.{get_or-append}
use lib.Seq.{get_or_at}
use Rattle.bits.proofs.Digits.{le_or_lt}
use Rattle.bits.proofs.Lowest.{last_or}
use Rattle.table.specs.Table.{Table, next, count, order, stamp, live, entry, tab}

pub length_tab : (f : ℕ → ℕ × ℕ) (m : ℕ) → length (tab f m) ≡ m
unfolding tab
length_tab f zero = refl
length_tab f (suc m) = length-append (tab f m) (f m ∷ []) ∙ omega (arith, length_tab f m)

-- what stands at an index
pub tab_get : (f : ℕ → ℕ × ℕ) (m i : ℕ) → i < m → get_or (tab f m) i (0, 0) ≡ f i
unfolding tab
tab_get f zero i l = absurd (omega arith)
tab_get f (suc m) i l = ⊎_elim
    (λ e. ap (λ (j : ℕ). get_or (tab f m ++ (f m ∷ [])) j (0, 0)) e ∙ get_or_at (tab f m) (f m) [] (0, 0) m (length_tab f m) ∙ ap f (sym e))
    (λ q. get_or-append (tab f m) (f m ∷ []) (0, 0) i (omega (arith, length_tab f m)) ∙ tab_get f m i q) (last_or l)

pub canonical : (n : ℕ) (t t' : List ℕ) → Table n t → Table n t' → next t ≡ next t' → live n t ≡ live n t' → t ≡ t'
canonical n t t' T T' eN eL =
    let c : count t ≡ count t' = sym (length_tab (entry n t) (count t)) ∙ ap length eL ∙ length_tab (entry n t') (count t') in
    let same : (i : ℕ) → i < count t → entry n t i ≡ entry n t' i = λ i l. sym (tab_get (entry n t) (count t) i l) ∙ ap (λ (x : List (ℕ × ℕ)). get_or x i (0, 0)) eL ∙ tab_get (entry n t') (count t') i (omega arith) in
    let place : (i : ℕ) → i < count t → order t i ≡ order t' i = λ i l. ap (λ (x : ℕ × ℕ). x.1) (same i l) in
    let num : (i : ℕ) → i < count t → stamp n t (order t i) ≡ stamp n t' (order t' i) = λ i l. let e : stamp n t (order t i) - 1 ≡ stamp n t' (order t' i) - 1 = ap (λ (x : ℕ × ℕ). x.0) (same i l) in omega (arith, T.used i l, T'.used i (omega arith)) in
    let orders : (i : ℕ) → i < n → order t i ≡ order t' i = λ i l. ⊎_elim (λ q. T.rest i q l ∙ sym (T'.rest i (omega arith) l)) (λ q. place i q) (le_or_lt (count t) i) in
    let stamps : (p : ℕ) → p < n → stamp n t p ≡ stamp n t' p = λ p l. ⊎_elim
    (λ z. ⊎_elim (λ y. z ∙ sym y)
    (λ y. let f : (i : ℕ) × (i < count t') × (order t' i ≡ p) = T'.found p l y in
    let k : f.0 < count t = omega (arith, f.1) in
    absurd (omega (arith, ap (stamp n t) (place f.0 k ∙ f.2), T.used f.0 k))) (eq-zero-or-pos (stamp n t' p)))
    (λ z. let f : (i : ℕ) × (i < count t) × (order t i ≡ p) = T.found p l z in
    ap (stamp n t) (sym f.2) ∙ num f.0 f.1 ∙ ap (stamp n t') (sym (place f.0 f.1) ∙ f.2)) (eq-zero-or-pos (stamp n t p)) in
    ext_get_or 0 t t' (T.size ∙ sym T'.size) (λ i q.
    let b : i < 2 + n + n = omega (arith, T.size) in
    ⊎_elim
    (λ u. ⊎_elim
    (λ v. let e : i ≡ 2 + n + (i - 2 - n) = omega arith in ap (λ (x : ℕ). get_or t x 0) e ∙ stamps (i - 2 - n) (omega arith) ∙ ap (λ (x : ℕ). get_or t' x 0) (sym e))
    (λ v. let e : i ≡ 2 + (i - 2) = omega arith in ap (λ (x : ℕ). get_or t x 0) e ∙ orders (i - 2) (omega arith) ∙ ap (λ (x : ℕ). get_or t' x 0) (sym e)) (le_or_lt (2 + n) i))
    (λ u. ⊎_elim
    (λ v. let e : i ≡ 1 = omega arith in ap (λ (x : ℕ). get_or t x 0) e ∙ c ∙ ap (λ (x : ℕ). get_or t' x 0) (sym e))
    (λ v. let e : i ≡ 0 = omega arith in ap (λ (x : ℕ). get_or t x 0) e ∙ eN ∙ ap (λ (x : ℕ). get_or t' x 0) (sym e)) (le_or_lt 1 i)) (le_or_lt 2 i))
