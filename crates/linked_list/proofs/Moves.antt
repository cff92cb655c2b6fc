-- The loop of `append_linked_list`: the first node of one list moves to the back of another. And a slice of zeros has empty lists. Assumes nothing.
use mathlib.Core.Path.{◌≡◌, refl, sym, ap, ◌∙◌}
use mathlib.Core.Logic.{◌⊎◌, inl, inr, ⊎_elim, ◌≢◌, by_cases}
use mathlib.Core.List.{List, [], ◌∷◌, ◌++◌, append_assoc, append-nil}
use Prim.Native.Nat.{ℕ, zero, suc, ◌+◌, ◌*◌, ◌<◌, ◌≤◌}
use native.Mathlib.Nat.{not-suc-le-zero}
use native.Mathlib.Omega.{arith}
use native.Mathlib.Numerals.{add-one}
use native.Mathlib.Decide.{ℕ_discrete, dec_lt}
use lib.ListN.{length, get_or, set, replicate, length-replicate, length-set}
use lib.Seq.{ext_get_or, get_or-set_same, get_or-set_other}
use Rattle.seqs.specs.Seqs.{without}
use Rattle.seqs.proofs.Parts.{get_d_out}
use Rattle.linked_list.specs.Links.{at, home, Links, Linked, Rowed, Appended, Emptied, lists, row, container, list_of}
use Rattle.linked_list.proofs.View.{lists_is, without_at, seat}
use Rattle.linked_list.proofs.Getters.{at_some, none_past}
use Rattle.std.specs.Prelude.{Some, None, slice_get}
use Rattle.std.proofs.lemmas.List.{get_or-replicate}

-- a node that says a container is one of the nn
node_lt : (nc nn : ℕ) (s : List ℕ) (n k : ℕ) → length s ≡ 2 * nc + 3 * nn → get_or s (home nc nn n) 0 ≡ suc k → n < nn
node_lt nc nn s n k size e = by_cases (dec_lt n nn) (λ y. y) (λ y. absurd (omega (arith, get_d_out s (home nc nn n) (omega arith))))

-- ---- moving the first node of one list to the back of another

-- where the loop stands: the two lists together, and every other list, are as they were
pub record Moved (nc nn : ℕ) (s₀ s : List ℕ) (to from : ℕ) : Type 0 where
  pub linked : Linked nc nn s
  pub both : row nc nn s to ++ row nc nn s from ≡ row nc nn s₀ to ++ row nc nn s₀ from
  pub others : (d : ℕ) → d ≢ to → d ≢ from → row nc nn s d ≡ row nc nn s₀ d
  pub homes : (m : ℕ) → (get_or s (home nc nn m) 0 ≡ get_or s₀ (home nc nn m) 0) ⊎ ((get_or s₀ (home nc nn m) 0 ≡ suc from) × (get_or s (home nc nn m) 0 ≡ suc to))

module _ {nc nn : ℕ} {s₀ s : List ℕ} {to from : ℕ} (to< : to < nc) (from< : from < nc) (apart : to ≢ from) where
  -- n is the first node of the list `from`
  pub mover : Moved nc nn s₀ s to from → (n : ℕ) → slice_get (row nc nn s from) 0 ≡ Some n → (n < nn) × (get_or s (home nc nn n) 0 ≡ suc from)
  mover M n e = (M.linked.row from from<).own zero n (at_some (row nc nn s from) 0 e)

  pub moved_more : Moved nc nn s₀ s to from → (n : ℕ) → slice_get (row nc nn s from) 0 ≡ Some n → {s₁ s₂ : List ℕ} → Rowed nc nn s s₁ (container nc nn s n) (without ℕ_discrete n (list_of nc nn s n)) n 0
      → Rowed nc nn s₁ s₂ to (row nc nn s₁ to ++ n ∷ []) n (to + 1) → Moved nc nn s₀ s₂ to from × (length (row nc nn s₂ from) < length (row nc nn s from))
  moved_more M n e {s₁} {s₂} R₁ R₂ =
      let L = M.linked in
      let ls = lists nc nn s in
      let (n<, says) = mover M n e in
      let S = seat L from n n< says in
      let w : at (get_or ls from []) 0 ≡ suc n = at_some (row nc nn s from) 0 e in
      let r = without ℕ_discrete n (get_or ls from []) in
      let f : get_or ls from [] ≡ n ∷ r = (without_at n (get_or ls from []) 0 w (λ j g. S.only j g ∙ sym (S.only 0 w))).0 in
      let ce : container nc nn s n ≡ from = omega (arith, says) in
      let l₁ : lists nc nn s₁ ≡ set ls from r = R₁.row ∙ ap (λ (c : ℕ). set ls c (without ℕ_discrete n (get_or ls c []))) ce in
      let c₁ : length (set ls from r) ≡ nc = length-set ls from r ∙ L.count in
      let at₁ : (d : ℕ) → d ≢ from → get_or (set ls from r) d [] ≡ get_or ls d [] = λ d o. get_or-set_other ls from d r [] o in
      let x = get_or (set ls from r) to [] ++ n ∷ [] in
      let l₂ : lists nc nn s₂ ≡ set (set ls from r) to x = R₂.row ∙ ap (λ (m : List (List ℕ)). set m to (get_or m to [] ++ n ∷ [])) l₁ in
      let to₂ : row nc nn s₂ to ≡ get_or ls to [] ++ n ∷ [] =
      ap (λ (m : List (List ℕ)). get_or m to []) l₂ ∙ get_or-set_same (set ls from r) to x [] (rw c₁ to<) ∙ ap (λ (m : List ℕ). m ++ n ∷ []) (at₁ to apart) in
      let from₂ : row nc nn s₂ from ≡ r =
      ap (λ (m : List (List ℕ)). get_or m from []) l₂ ∙ get_or-set_other (set ls from r) to from x [] (λ q. apart (sym q)) ∙ get_or-set_same ls from r [] (rw L.count from<) in (
        record {
          linked = R₂.linked;
          both = rw (to₂, from₂) (append_assoc (get_or ls to []) (n ∷ []) r ∙ ap (λ (m : List ℕ). get_or ls to [] ++ m) (sym f) ∙ M.both);
          others = λ d o o'. ap (λ (m : List (List ℕ)). get_or m d []) l₂ ∙ get_or-set_other (set ls from r) to d x [] o ∙ at₁ d o' ∙ M.others d o o';
          homes = λ m. by_cases (ℕ_discrete m n)
              (λ q. rw q (inr (came says (M.homes n), R₂.homes.mine ∙ add-one to)))
              (λ o. ⊎_elim (λ h. inl (same m o ∙ h)) (λ h. inr (h.0, same m o ∙ h.1)) (M.homes m));
        },
        omega (arith, ap length f, ap length from₂),
      )
    where
      came : get_or s (home nc nn n) 0 ≡ suc from → (get_or s (home nc nn n) 0 ≡ get_or s₀ (home nc nn n) 0) ⊎ ((get_or s₀ (home nc nn n) 0 ≡ suc from) × (get_or s (home nc nn n) 0 ≡ suc to)) → get_or s₀ (home nc nn n) 0 ≡ suc from
      came says (inl h) = sym h ∙ says
      came says (inr h) = h.0

      same : (m : ℕ) → m ≢ n → get_or s₂ (home nc nn m) 0 ≡ get_or s (home nc nn m) 0
      same m o = R₂.homes.others m o ∙ R₁.homes.others m o

  pub moved_all : Moved nc nn s₀ s to from → length (lists nc nn s₀) ≡ nc → slice_get (row nc nn s from) 0 ≡ None → Appended nc nn s₀ s to from
  moved_all M c₀ z =
      let L = M.linked in
      let ls = lists nc nn s in
      let ls₀ = lists nc nn s₀ in
      let none : get_or ls from [] ≡ [] = nil_of (get_or ls from []) (none_past (get_or ls from []) 0 z) in
      let y = get_or ls₀ to [] ++ get_or ls₀ from [] in
      let all : get_or ls to [] ≡ y = sym (append-nil (get_or ls to [])) ∙ ap (λ (m : List ℕ). get_or ls to [] ++ m) (sym none) ∙ M.both in
      record {
        linked = L;
        rows = ext_get_or [] ls (set (set ls₀ to y) from []) (L.count ∙ sym (length-set (set ls₀ to y) from [] ∙ length-set ls₀ to y ∙ c₀)) (λ d h.
            go d y all none c₀ (λ o o'. M.others d o o') (ℕ_discrete d from) (ℕ_discrete d to));
        moved = λ n e. ⊎_elim (λ h. absurd (left L none n (h ∙ e ∙ add-one from))) (λ h. h.1 ∙ sym (add-one to)) (M.homes n);
        others = λ n o. ⊎_elim (λ h. h) (λ h. absurd (o (h.0 ∙ sym (add-one from)))) (M.homes n);
      }
    where
      nil_of : (l : List ℕ) → length l ≤ 0 → l ≡ []
      nil_of [] h = refl
      nil_of (x ∷ xs) h = absurd (not-suc-le-zero h)

      left : Linked nc nn s → row nc nn s from ≡ [] → (n : ℕ) → get_or s (home nc nn n) 0 ≡ suc from → ⊥
      left L none n e = let S = seat L from n (node_lt nc nn s n from L.size e) e in omega (arith, S.index<, ap length none)

      go : (d : ℕ) (y : List ℕ) → get_or (lists nc nn s) to [] ≡ y → get_or (lists nc nn s) from [] ≡ [] → length (lists nc nn s₀) ≡ nc
          → (d ≢ to → d ≢ from → get_or (lists nc nn s) d [] ≡ get_or (lists nc nn s₀) d []) → Dec (d ≡ from) → Dec (d ≡ to)
          → get_or (lists nc nn s) d [] ≡ get_or (set (set (lists nc nn s₀) to y) from []) d []
      go d y all none c₀ o (yes e) t = rw e (none ∙ sym (get_or-set_same (set (lists nc nn s₀) to y) from [] [] (rw (length-set, c₀) from<)))
      go d y all none c₀ o (no f) (yes e) = rw e (all ∙ sym (get_or-set_other (set (lists nc nn s₀) to y) from to [] [] apart ∙ get_or-set_same (lists nc nn s₀) to y [] (rw c₀ to<)))
      go d y all none c₀ o (no f) (no g) = o g f ∙ sym (get_or-set_other (set (lists nc nn s₀) to y) from d [] [] f ∙ get_or-set_other (lists nc nn s₀) to d y [] g)

-- ---- a slice of zeros has empty lists

links_zero : (nc nn : ℕ) (s : List ℕ) → length s ≡ 2 * nc + 3 * nn → ((i : ℕ) → i < length s → get_or s i 0 ≡ 0) → Links nc nn s (replicate nc [])
links_zero nc nn s size z = record {
  size = size;
  count = length-replicate nc [];
  row = λ c h. rw (get_or-replicate {A = List ℕ} nc c [] [] h) (record {
    next = λ i k. let e : i ≡ 0 = omega arith in rw e (z c (omega arith));
    prev = λ i k. let e : i ≡ 0 = omega arith in rw e (z (nc + c) (omega arith));
    own = λ i x e. absurd (omega (arith, e));
  });
  node = λ n h. inl (record { home0 = z _ (omega arith); next0 = z _ (omega arith); prev0 = z _ (omega arith) });
}

pub emptied : (nc nn : ℕ) (s : List ℕ) → length s ≡ 2 * nc + 3 * nn → ((i : ℕ) → i < length s → get_or s i 0 ≡ 0) → Emptied nc nn s
emptied nc nn s size z =
    let L = links_zero nc nn s size z in
    record { linked = rw (lists_is L) L; rows = lists_is L; homes = λ n h. z (home nc nn n) (omega arith) }

pub filled : {nc nn n : ℕ} {s : List ℕ} → length s ≡ n → n ≡ 2 * nc + 3 * nn → s ≡ replicate n 0 → Emptied nc nn s
filled {nc} {nn} {n} {s} len size zeros = emptied nc nn s (len ∙ size) (λ i h. rw zeros (get_or-replicate n i 0 0 (rw len at h)))
