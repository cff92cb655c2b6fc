-- An element taken out, and the last one put into its gap: counts, lengths and images. Assumes nothing.
use mathlib.Core.Path.{◌≡◌, refl, sym, ap, ◌∙◌, subst}
use mathlib.Core.Logic.{◌≢◌, ◌↔◌, ite, if_pos, if_neg, by_cases}
use mathlib.Core.HLevel.{Discrete}
use mathlib.Core.List.{List, [], ◌∷◌, map, map-map}
use native.Mathlib.Omega.{arith}
use Prim.Native.Nat.{suc, ◌+◌, ◌≤◌}
use lib.ListN.{length, length-map}
use Rattle.seqs.specs.Seqs.{tick, count, In, seq_last_of, seq_front_of, seq_swap_out}
use Rattle.seqs.proofs.Base.{tick_yes, tick_no, map_on}

module _ {A : Type 0} (d : Discrete A) where
  pub count_front : (a y : A) (l : List A) → count d a (seq_front_of y l) + tick (d a (seq_last_of y l)) ≡ count d a (y ∷ l)
  count_front a y [] = omega arith
  count_front a y (z ∷ l) = omega (arith, count_front a z l)

  module _ (x z : A) where
    s : A → A
    s a = ite (d a x) z a

    count_same : x ≢ z → (l : List A) → count d x (map s l) ≡ 0
    unfolding s
    count_same n [] = refl
    count_same n (y ∷ l) = by_cases (d y x) (λ e. omega (arith, count_same n l, tick_no (d x (s y)) (λ q. n (q ∙ if_pos (d y x) e z y)))) (λ m. omega (arith, count_same n l, tick_no (d x (s y)) (λ q. m (sym (q ∙ if_neg (d y x) m z y)))))

    count_other : (a : A) → a ≢ x → a ≢ z → (l : List A) → count d a (map s l) ≡ count d a l
    unfolding s
    count_other a n m [] = refl
    count_other a n m (y ∷ l) = by_cases (d y x) (λ e. omega (arith, count_other a n m l, tick_no (d a (s y)) (λ q. m (q ∙ if_pos (d y x) e z y)), tick_no (d a y) (λ q. n (q ∙ e)))) (λ k. rw (if_neg (d y x) k z y) (omega (arith, count_other a n m l)))

    count_new : x ≢ z → (l : List A) → count d z (map s l) ≡ count d z l + count d x l
    unfolding s
    count_new n [] = refl
    count_new n (y ∷ l) = by_cases (d y x) (λ e. omega (arith, count_new n l, tick_yes (d z (s y)) (sym (if_pos (d y x) e z y)), tick_no (d z y) (λ q. n (sym (q ∙ e))), tick_yes (d x y) (sym e))) (λ k. rw (if_neg (d y x) k z y) (omega (arith, count_new n l, tick_no (d x y) (λ q. k (sym q)))))

    none_there : (l : List A) → count d x l ≡ 0 → map s l ≡ l
    unfolding s
    none_there [] h = refl
    none_there (y ∷ l) h = by_cases (d y x) (λ e. absurd (omega (arith, tick_yes (d x y) (sym e)))) (λ k. cc (if_neg (d y x) k z y, none_there l (omega arith)))

  pub count_seq_swap_out : (x : A) (l : List A) → count d x l ≡ 1 → (a : A) → tick (d a x) + count d a (seq_swap_out d x l) ≡ count d a l
  unfolding s
  count_seq_swap_out x [] h a = absurd (omega arith)
  count_seq_swap_out x (y ∷ l) h a = by_cases (d x (seq_last_of y l)) last (λ n. by_cases (d a x) (λ e. subst (λ (b : A). tick (d b x) + count d b (seq_swap_out d x (y ∷ l)) ≡ count d b (y ∷ l)) (sym e) (rw (count_same x (seq_last_of y l) n (seq_front_of y l)) (omega (arith, tick_yes (d x x) refl))))
      (λ m. by_cases (d a (seq_last_of y l)) (λ e. subst (λ (b : A). tick (d b x) + count d b (seq_swap_out d x (y ∷ l)) ≡ count d b (y ∷ l)) (sym e) (rw (count_new x (seq_last_of y l) n (seq_front_of y l)) (omega (arith, tick_no (d (seq_last_of y l) x) (λ q. n (sym q)), count_front x y l, count_front (seq_last_of y l) y l, tick_no (d x (seq_last_of y l)) n, tick_yes (d (seq_last_of y l) (seq_last_of y l)) refl))))
      (λ k. omega (arith, count_other x (seq_last_of y l) a m k (seq_front_of y l), tick_no (d a x) m, tick_no (d a (seq_last_of y l)) k, count_front a y l))))
    where
      last : x ≡ seq_last_of y l → tick (d a x) + count d a (seq_swap_out d x (y ∷ l)) ≡ count d a (y ∷ l)
      last e = rw (none_there x (seq_last_of y l) (seq_front_of y l) (omega (arith, count_front x y l, tick_yes (d x (seq_last_of y l)) e)), e) (omega (arith, count_front a y l))

  length_front : (y : A) (l : List A) → length (seq_front_of y l) ≡ length l
  length_front y [] = refl
  length_front y (z ∷ l) = ap suc (length_front z l)

  pub length_swap_out : (x : A) (l : List A) → length (seq_swap_out d x l) ≤ length l
  length_swap_out x [] = omega arith
  length_swap_out x (y ∷ l) = omega (arith, length-map (seq_front_of y l) (λ a. ite (d a x) (seq_last_of y l) a), length_front y l)

  in_front : (a y : A) (l : List A) → In d a (seq_front_of y l) → In d a (y ∷ l)
  in_front a y l i = omega (arith, count_front a y l)

  map_last : {B : Type 0} (f : A → B) (y : A) (l : List A) → f (seq_last_of y l) ≡ seq_last_of (f y) (map f l)
  map_last f y [] = refl
  map_last f y (z ∷ l) = map_last f z l

  map_front : {B : Type 0} (f : A → B) (y : A) (l : List A) → map f (seq_front_of y l) ≡ seq_front_of (f y) (map f l)
  map_front f y [] = refl
  map_front {B} f y (z ∷ l) = ap {B = List B} (λ r. f y ∷ r) (map_front f z l)

  pub map_swap_out : {B : Type 0} (dB : Discrete B) (f : A → B) (x : A) (l : List A) → ((a : A) → In d a l → (a ≡ x) ↔ (f a ≡ f x)) → map f (seq_swap_out d x l) ≡ seq_swap_out dB (f x) (map f l)
  map_swap_out dB f x [] h = refl
  map_swap_out {B} dB f x (y ∷ l) h =
      map-map f (λ a. ite (d a x) (seq_last_of y l) a) (seq_front_of y l)
      ∙ map_on d (λ a. f (ite (d a x) (seq_last_of y l) a)) (λ a. ite (dB (f a) (f x)) (seq_last_of (f y) (map f l)) (f a)) (seq_front_of y l) (λ a i. one a (h a (in_front a y l i)) (d a x) (dB (f a) (f x)))
      ∙ sym (map-map (λ b. ite (dB b (f x)) (seq_last_of (f y) (map f l)) b) f (seq_front_of y l))
      ∙ ap (map (λ b. ite (dB b (f x)) (seq_last_of (f y) (map f l)) b)) (map_front f y l)
    where
      one : (a : A) → (a ≡ x) ↔ (f a ≡ f x) → (v : Dec (a ≡ x)) (w : Dec (f a ≡ f x)) → f (ite v (seq_last_of y l) a) ≡ ite w (seq_last_of (f y) (map f l)) (f a)
      one a t (yes p) (yes q) = map_last f y l
      one a t (yes p) (no q) = absurd (q (t.0 p))
      one a t (no p) (yes q) = absurd (p (t.1 q))
      one a t (no p) (no q) = refl
