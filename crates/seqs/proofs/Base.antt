-- Laws of function updates, counts and lists under a map. Assumes nothing.
use mathlib.Core.Path.{◌≡◌, refl, sym, ap, ◌∙◌}
use mathlib.Core.Logic.{◌≢◌, ◌↔◌, ite, if_pos, if_neg, by_cases, ◌⊎◌, inl, inr}
use mathlib.Core.HLevel.{Discrete}
use mathlib.Core.List.{List, [], ◌∷◌, ◌++◌, map}
use native.Mathlib.Decide.{ℕ_discrete}
use native.Mathlib.Omega.{arith}
use native.Mathlib.Nat.{zero-add}
use Prim.Native.Nat.{ℕ, zero, suc, ◌+◌, ◌<◌, ◌≤◌}
use lib.ListN.{length}
use Rattle.seqs.specs.Seqs.{upd, tick, seq_insert_at, count, without_by, without, In, Rises}

-- ---- updates

module _ {ℓ κ} {A : Type ℓ} {B : Type κ} (d : Discrete A) where
  pub upd_at : (f : A → B) (k : A) (v : B) {x : A} → x ≡ k → upd d f k v x ≡ v
  unfolding upd
  upd_at f k v {x} e = if_pos (d x k) e v (f x)

  pub upd_same : (f : A → B) (k : A) (v : B) → upd d f k v k ≡ v
  upd_same f k v = upd_at f k v refl

  pub upd_other : (f : A → B) (k : A) (v : B) {x : A} → x ≢ k → upd d f k v x ≡ f x
  unfolding upd
  upd_other f k v {x} n = if_neg (d x k) n v (f x)

-- an update's image is the image's update
pub upd_image {ℓ κ μ} : {A : Type ℓ} {B : Type κ} {C : Type μ} (d : Discrete A) (G : A → B → C) (f : A → B) (k : A) (v : B) (w : C) → G k v ≡ w → (x : A) → G x (upd d f k v x) ≡ upd d (λ y. G y (f y)) k w x
upd_image d G f k v w e x =
    by_cases (d x k)
    (λ p. rw (upd_at d f k v p, upd_at d (λ y. G y (f y)) k w p, p) e)
    (λ n. rw (upd_other d f k v n, upd_other d (λ y. G y (f y)) k w n))

-- nothing new is put there
pub upd_self {ℓ κ} : {A : Type ℓ} {B : Type κ} (d : Discrete A) (f : A → B) (k : A) (v : B) → v ≡ f k → (x : A) → upd d f k v x ≡ f x
upd_self d f k v e x = by_cases (d x k) (λ p. rw (upd_at d f k v p, p) e) (λ n. upd_other d f k v n)

pub upd_upd {ℓ κ} : {A : Type ℓ} {B : Type κ} (d : Discrete A) (f : A → B) (k : A) (v w : B) (x : A) → upd d (upd d f k v) k w x ≡ upd d f k w x
upd_upd d f k v w x =
    by_cases (d x k)
    (λ p. upd_at d (upd d f k v) k w p ∙ sym (upd_at d f k w p))
    (λ n. upd_other d (upd d f k v) k w n ∙ upd_other d f k v n ∙ sym (upd_other d f k w n))

-- an update at two arguments, and what stands at any two
module _ {ℓ κ μ} {A : Type ℓ} {B : Type κ} {C : Type μ} (dA : Discrete A) (dB : Discrete B) (F : A → B → C) (a : A) (b : B) (v : C) where
  pub upd2_same : upd dA F a (upd dB (F a) b v) a b ≡ v
  upd2_same = rw (upd_same dA F a (upd dB (F a) b v)) (upd_same dB (F a) b v)

  pub upd2_cases : (x : A) (y : B) → ((x ≡ a) × (y ≡ b) × (upd dA F a (upd dB (F a) b v) x y ≡ v)) ⊎ (((x ≡ a) → (y ≡ b) → ⊥) × (upd dA F a (upd dB (F a) b v) x y ≡ F x y))
  upd2_cases x y =
      by_cases (dA x a)
      (λ p. by_cases (dB y b)
      (λ q. inl (p, q, rw (p, q) upd2_same))
      (λ n. inr (λ _ q. n q, rw (p, upd_same dA F a (upd dB (F a) b v)) (upd_other dB (F a) b v n))))
      (λ n. inr (λ p _. n p, rw (upd_other dA F a (upd dB (F a) b v) n)))

-- ---- counts

pub tick_yes {ℓ} : {A : Type ℓ} (w : Dec A) → A → tick w ≡ 1
unfolding tick
tick_yes (yes e) a = refl
tick_yes (no n) a = absurd (n a)

pub tick_no {ℓ} : {A : Type ℓ} (w : Dec A) → ¬ A → tick w ≡ 0
unfolding tick
tick_no (yes e) n = absurd (n e)
tick_no (no m) n = refl

pub tick_pos {ℓ} : {A : Type ℓ} (w : Dec A) → 0 < tick w → A
unfolding tick
tick_pos (yes e) h = e
tick_pos (no m) h = absurd (omega arith)

module _ {A : Type 0} (d : Discrete A) where
  pub in_head : (x : A) (l : List A) → In d x (x ∷ l)
  in_head x l = omega (arith, tick_yes (d x x) refl)

  pub in_tail : (x y : A) (l : List A) → In d x l → In d x (y ∷ l)
  in_tail x y l h = omega arith

  pub count_append : (x : A) (l m : List A) → count d x (l ++ m) ≡ count d x l + count d x m
  count_append x [] m = sym (zero-add (count d x m))
  count_append x (y ∷ l) m = omega (arith, count_append x l m)

  pub count_insert_at : (y : A) (i : ℕ) (x : A) (l : List A) → count d y (seq_insert_at i x l) ≡ tick (d y x) + count d y l
  count_insert_at y zero x l = refl
  count_insert_at y (suc i) x [] = refl
  count_insert_at y (suc i) x (z ∷ l) = omega (arith, count_insert_at y i x l)

  pub count_gone : (x : A) (l : List A) → count d x (without d x l) ≡ 0
  count_gone x [] = refl
  count_gone x (z ∷ l) = go (count_gone x l) (d z x)
    where
      go : count d x (without d x l) ≡ 0 → (w : Dec (z ≡ x)) → count d x (ite w (without d x l) (z ∷ without d x l)) ≡ 0
      go ih (yes e) = ih
      go ih (no n) = omega (arith, tick_no (d x z) (λ e. n (sym e)))

  pub count_stays : (y x : A) (l : List A) → y ≢ x → count d y (without d x l) ≡ count d y l
  count_stays y x [] h = refl
  count_stays y x (z ∷ l) h = go (count_stays y x l h) (d z x)
    where
      go : count d y (without d x l) ≡ count d y l → (w : Dec (z ≡ x)) → count d y (ite w (without d x l) (z ∷ without d x l)) ≡ tick (d y z) + count d y l
      go ih (yes e) = omega (arith, tick_no (d y z) (λ f. h (f ∙ e)))
      go ih (no n) = omega arith

  pub count_less : (y x : A) (l : List A) → count d y (without d x l) ≤ count d y l
  count_less y x l = by_cases (d y x) (λ e. rw (e, count_gone) (omega arith)) (λ n. rw (count_stays y x l n) (omega arith))

  -- where x stands once: x leaves, all the others stay
  pub count_leaves : (x : A) (l : List A) → count d x l ≡ 1 → (y : A) → tick (d y x) + count d y (without d x l) ≡ count d y l
  count_leaves x l once y =
      by_cases (d y x)
      (λ e. rw (e, count_gone, tick_yes (d x x) refl, once))
      (λ n. omega (arith, tick_no (d y x) n, count_stays y x l n))

  pub length_less : (x : A) (l : List A) → length (without d x l) ≤ length l
  length_less x [] = omega arith
  length_less x (z ∷ l) = go (length_less x l) (d z x)
    where
      go : length (without d x l) ≤ length l → (w : Dec (z ≡ x)) → length (ite w (without d x l) (z ∷ without d x l)) ≤ suc (length l)
      go ih (yes e) = omega arith
      go ih (no n) = omega arith

  without_nothing : (x : A) (l : List A) → count d x l ≡ 0 → length (without d x l) ≡ length l
  without_nothing x [] h = refl
  without_nothing x (y ∷ l) h = rw (if_neg (d y x) (λ e. absurd (omega (arith, tick_yes (d x y) (sym e)))) (without d x l) (y ∷ without d x l)) (ap suc (without_nothing x l (omega arith)))

  pub length_falls : (x : A) (l : List A) → count d x l ≡ 1 → suc (length (without d x l)) ≡ length l
  length_falls x [] h = absurd (omega arith)
  length_falls x (y ∷ l) h =
      by_cases (d y x)
      (λ e. rw (if_pos (d y x) e (without d x l) (y ∷ without d x l)) (ap suc (without_nothing x l (omega (arith, tick_yes (d x y) (sym e))))))
      (λ n. rw (if_neg (d y x) n (without d x l) (y ∷ without d x l)) (ap suc (length_falls x l (omega (arith, tick_no (d x y) (λ e. n (sym e)))))))

  -- ---- maps

  pub map_on {κ} : {B : Type κ} (f g : A → B) (l : List A) → ((x : A) → In d x l → f x ≡ g x) → map f l ≡ map g l
  map_on f g [] h = refl
  map_on {B} f g (x ∷ l) h = cc (h x (in_head x l), map_on f g l (λ y k. h y (in_tail y x l k)))

  pub map_without_by {κ μ} : {B : Type κ} {C : Type 0} {D : Type μ} (dB : Discrete B) (dD : Discrete D) (f : A → C) (kA : A → B) (kC : C → D) (b : B) (c : D) (l : List A)
      → ((x : A) → In d x l → (kA x ≡ b) ↔ (kC (f x) ≡ c)) → map f (without_by dB kA b l) ≡ without_by dD kC c (map f l)
  map_without_by dB dD f kA kC b c [] h = refl
  map_without_by {C} dB dD f kA kC b c (x ∷ l) h = go (map_without_by dB dD f kA kC b c l (λ y k. h y (in_tail y x l k))) (dB (kA x) b) (dD (kC (f x)) c)
    where
      go : map f (without_by dB kA b l) ≡ without_by dD kC c (map f l) → (v : Dec (kA x ≡ b)) (w : Dec (kC (f x) ≡ c)) → map f (ite v (without_by dB kA b l) (x ∷ without_by dB kA b l)) ≡ ite w (without_by dD kC c (map f l)) (f x ∷ without_by dD kC c (map f l))
      go ih (yes p) (yes q) = ih
      go ih (yes p) (no q) = absurd (q ((h x (in_head x l)).0 p))
      go ih (no p) (yes q) = absurd (p ((h x (in_head x l)).1 q))
      go ih (no p) (no q) = ap {B = List C} (λ r. f x ∷ r) ih

pub map_insert_at : {A B : Type 0} (f : A → B) (i : ℕ) (x : A) (l : List A) → map f (seq_insert_at i x l) ≡ seq_insert_at i (f x) (map f l)
map_insert_at f zero x l = refl
map_insert_at f (suc i) x [] = refl
map_insert_at {B} f (suc i) x (y ∷ l) = ap {B = List B} (λ r. f y ∷ r) (map_insert_at f i x l)

pub map_append {κ} : {A : Type 0} {B : Type κ} (f : A → B) (l m : List A) → map f (l ++ m) ≡ map f l ++ map f m
map_append f [] m = refl
map_append {B} f (y ∷ l) m = ap {B = List B} (λ r. f y ∷ r) (map_append f l m)

pub length_insert_at : {A : Type 0} (i : ℕ) (x : A) (l : List A) → length (seq_insert_at i x l) ≡ suc (length l)
length_insert_at zero x l = refl
length_insert_at (suc i) x [] = refl
length_insert_at (suc i) x (y ∷ l) = ap suc (length_insert_at i x l)

-- past the end is last
pub insert_at_back : {A : Type 0} (i : ℕ) (x : A) (l : List A) → length l ≤ i → seq_insert_at i x l ≡ l ++ x ∷ []
insert_at_back zero x [] h = refl
insert_at_back zero x (y ∷ l) h = absurd (omega arith)
insert_at_back (suc i) x [] h = refl
insert_at_back {A} (suc i) x (y ∷ l) h = ap (λ (r : List A). y ∷ r) (insert_at_back i x l (omega arith))

-- ---- rising orders

abbrev InN : ℕ → List ℕ → Type 0
InN = In ℕ_discrete

in_cases : (q p : ℕ) (l : List ℕ) → InN q (p ∷ l) → (q ≢ p → InN q l)
in_cases q p l h n = omega (arith, tick_no (ℕ_discrete q p) n)

pub rises_inj : (num : ℕ → ℕ) (l : List ℕ) → Rises num l → (p q : ℕ) → InN p l → InN q l → num p ≡ num q → p ≡ q
rises_inj num [] h p q hp hq e = absurd (omega arith)
rises_inj num (x ∷ l) h p q hp hq e = go (λ hp' hq'. rises_inj num l h.1 p q hp' hq' e) (ℕ_discrete p x) (ℕ_discrete q x)
  where
    go : (InN p l → InN q l → p ≡ q) → Dec (p ≡ x) → Dec (q ≡ x) → p ≡ q
    go ih (yes a) (yes b) = a ∙ sym b
    go ih (yes a) (no b) = absurd (omega (arith, h.0 q (in_cases q x l hq b), ap num a))
    go ih (no a) (yes b) = absurd (omega (arith, h.0 p (in_cases p x l hp a), ap num b))
    go ih (no a) (no b) = ih (in_cases p x l hp a) (in_cases q x l hq b)

pub rises_once : (num : ℕ → ℕ) (l : List ℕ) → Rises num l → (p : ℕ) → InN p l → count ℕ_discrete p l ≡ 1
rises_once num [] h p i = absurd (omega arith)
rises_once num (x ∷ l) h p i =
    by_cases (ℕ_discrete p x)
    (λ e. by_cases (ℕ_discrete (count ℕ_discrete p l) 0)
    (λ z. omega (arith, tick_yes (ℕ_discrete p x) e))
    (λ z. absurd (omega (arith, h.0 p (omega arith), ap num e))))
    (λ n. omega (arith, tick_no (ℕ_discrete p x) n, rises_once num l h.1 p (in_cases p x l i n)))

-- the numbers may change where they are not looked at
pub rises_on : (num num' : ℕ → ℕ) (l : List ℕ) → ((p : ℕ) → InN p l → num' p ≡ num p) → Rises num l → Rises num' l
rises_on num num' [] e h = tt
rises_on num num' (x ∷ l) e h = (λ q i. omega (arith, h.0 q i, e x (in_head ℕ_discrete x l), e q (in_tail ℕ_discrete q x l i)), rises_on num num' l (λ p i. e p (in_tail ℕ_discrete p x l i)) h.1)

pub rises_snoc : (num : ℕ → ℕ) (l : List ℕ) (p : ℕ) → Rises num l → ((q : ℕ) → InN q l → num q < num p) → Rises num (l ++ p ∷ [])
rises_snoc num [] p h b = (λ q i. absurd (omega arith), tt)
rises_snoc num (x ∷ l) p h b = (λ q i. last q i, rises_snoc num l p h.1 (λ q i. b q (in_tail ℕ_discrete q x l i)))
  where
    last : (q : ℕ) → InN q (l ++ p ∷ []) → num x < num q
    last q i =
        by_cases (ℕ_discrete q p)
        (λ e. omega (arith, b x (in_head ℕ_discrete x l), ap num e))
        (λ n. h.0 q (omega (arith, count_append ℕ_discrete q l (p ∷ []), tick_no (ℕ_discrete q p) n)))

pub rises_without : (num : ℕ → ℕ) (l : List ℕ) (p : ℕ) → Rises num l → Rises num (without ℕ_discrete p l)
rises_without num [] p h = tt
rises_without num (x ∷ l) p h = go (rises_without num l p h.1) (ℕ_discrete x p)
  where
    go : Rises num (without ℕ_discrete p l) → (w : Dec (x ≡ p)) → Rises num (ite w (without ℕ_discrete p l) (x ∷ without ℕ_discrete p l))
    go ih (yes e) = ih
    go ih (no n) = (λ q i. h.0 q (omega (arith, count_less ℕ_discrete q p l)), ih)
