-- Tests as numbers, and tables by number. Assumes nothing.
use mathlib.Core.Path.{◌≡◌, refl, sym, ap, ap₂, ◌∙◌, subst}
use mathlib.Core.Logic.{by_cases}
use mathlib.Core.Bool.{Bool, true, false, cond, ◌||◌}
use mathlib.Core.List.{List, [], ◌∷◌, map, map-map}
use mathlib.Core.Option.{some}
use native.Mathlib.Decide.{ℕ_discrete}
use native.Mathlib.Omega.{arith}
use Prim.Native.Nat.{ℕ, zero, suc, ◌+◌, ◌<◌, ◌≤◌}
use lib.Dec.{T, eqb, eqb→eq, eqb_refl}
use Rattle.seqs.specs.Seqs.{tick, count, In}
use Rattle.places.specs.Store.{Kind, Thing, Thing-dec, State, alive, Live, Linked}
use Rattle.places.specs.View.{Rec, num, rec_of, view}
use Rattle.places.specs.Hist.{tabled}
use Rattle.places.specs.Walk.{pick, sgn}
use Rattle.rules.specs.Table.{Table, find, find_key, member}
use Rattle.seqs.proofs.Base.{tick_yes, tick_no, tick_pos, in_head, in_tail}
use Rattle.places.proofs.Sees.{num_inj}
use Rattle.places.proofs.Cut.{pick_1}

abbrev pub bit : Bool → ℕ
bit true = 1
bit false = 0

pub or_sum : (a b : Bool) (m n : ℕ) → bit a ≡ sgn m → bit b ≡ sgn n → bit (a || b) ≡ sgn (m + n)
unfolding pick
or_sum true b zero n e f = absurd (omega arith)
or_sum true b (suc m) n e f = sym (pick_1 (suc m + n) 0 1 (omega arith))
or_sum false b zero n e f = let q : n ≡ zero + n = omega arith in f ∙ ap sgn q
or_sum false b (suc m) n e f = absurd (omega arith)

pub bit_eqb : (m n : ℕ) → bit (eqb m n) ≡ tick (ℕ_discrete m n)
bit_eqb m n = go (eqb m n) refl
  where
    go : (b : Bool) → eqb m n ≡ b → bit b ≡ tick (ℕ_discrete m n)
    go true e = sym (tick_yes (ℕ_discrete m n) (eqb→eq m n (subst T (sym e) tt)))
    go false e = sym (tick_no (ℕ_discrete m n) (λ h. subst T e (subst (λ (k : ℕ). T (eqb m k)) h (eqb_refl m))))

pub bit_true : (b : Bool) → 0 < bit b → b ≡ true
bit_true true h = refl
bit_true false h = absurd (omega arith)

pub bit_false : (b : Bool) → bit b ≡ 0 → b ≡ false
bit_false true h = absurd (omega arith)
bit_false false h = refl

pub sgn_tick {ℓ} : {A : Type ℓ} (w : Dec A) → sgn (tick w) ≡ tick w
unfolding pick tick
sgn_tick (yes e) = refl
sgn_tick (no n) = refl

pub sgn_bit : (b : Bool) → sgn (bit b) ≡ bit b
unfolding pick
sgn_bit true = refl
sgn_bit false = refl

pub sgn_one : (n : ℕ) → n ≤ 1 → sgn n ≡ n
unfolding pick
sgn_one zero h = refl
sgn_one (suc n) h = omega arith

pub bit_member : (m : ℕ) (l : List ℕ) → bit (member m l) ≡ sgn (count ℕ_discrete m l)
unfolding member pick
bit_member m [] = refl
bit_member m (x ∷ l) = or_sum (eqb x m) (member m l) (tick (ℕ_discrete m x)) (count ℕ_discrete m l) (bit_eqb x m ∙ turned ∙ sym (sgn_tick (ℕ_discrete m x))) (bit_member m l)
  where
    turned : tick (ℕ_discrete x m) ≡ tick (ℕ_discrete m x)
    turned = by_cases (ℕ_discrete x m) (λ e. tick_yes (ℕ_discrete x m) e ∙ sym (tick_yes (ℕ_discrete m x) (sym e))) (λ n. tick_no (ℕ_discrete x m) n ∙ sym (tick_no (ℕ_discrete m x) (λ e. n (sym e))))

-- ---- tables over a list of places

module _ {A : Type 0} (nm : ℕ → ℕ) (g : ℕ → A) where
  pub find_tabled : (l : List ℕ) (p : ℕ) → ((q : ℕ) → In ℕ_discrete q l → nm q ≡ nm p → q ≡ p) → In ℕ_discrete p l → find (map (λ q. (nm q, g q)) l) (nm p) ≡ some (g p)
  unfolding find
  find_tabled [] p inj i = absurd (omega arith)
  find_tabled (q ∷ l) p inj i = go (find_tabled l p (λ r j. inj r (in_tail ℕ_discrete r q l j))) (eqb (nm q) (nm p)) (bit_eqb (nm q) (nm p))
    where
      go : (In ℕ_discrete p l → find (map (λ q. (nm q, g q)) l) (nm p) ≡ some (g p)) → (b : Bool) → bit b ≡ tick (ℕ_discrete (nm q) (nm p)) → cond b (some (g q)) (find (map (λ q. (nm q, g q)) l) (nm p)) ≡ some (g p)
      go ih true e = ap (λ (r : ℕ). some (g r)) (inj q (in_head ℕ_discrete q l) (tick_pos (ℕ_discrete (nm q) (nm p)) (omega arith)))
      go ih false e = ih (omega (arith, tick_no (ℕ_discrete p q) (λ h. absurd (omega (arith, tick_yes (ℕ_discrete (nm q) (nm p)) (ap nm (sym h)))))))

  pub key_tabled : (test : A → Bool) (l : List ℕ) (p : ℕ) → ((q : ℕ) → In ℕ_discrete q l → bit (test (g q)) ≡ tick (ℕ_discrete q p)) → In ℕ_discrete p l → find_key test (map (λ q. (nm q, g q)) l) ≡ some (nm p)
  unfolding find_key
  key_tabled test [] p only i = absurd (omega arith)
  key_tabled test (q ∷ l) p only i = go (key_tabled test l p (λ r j. only r (in_tail ℕ_discrete r q l j))) (test (g q)) (only q (in_head ℕ_discrete q l))
    where
      go : (In ℕ_discrete p l → find_key test (map (λ q. (nm q, g q)) l) ≡ some (nm p)) → (b : Bool) → bit b ≡ tick (ℕ_discrete q p) → cond b (some (nm q)) (find_key test (map (λ q. (nm q, g q)) l)) ≡ some (nm p)
      go ih true e = ap (λ (r : ℕ). some (nm r)) (tick_pos (ℕ_discrete q p) (omega arith))
      go ih false e = ih (omega (arith, tick_no (ℕ_discrete p q) (λ h. absurd (omega (arith, tick_yes (ℕ_discrete q p) (sym h))))))

-- ---- the view's tables

pub tabled_view : {A : Type 0} (P : State) (k : Kind) (f : Rec → A) → tabled f ((view P).things k) ≡ map (λ p. (num P (k, p), f (rec_of P (k, p)))) (P.tab k).order
unfolding view rec_of
tabled_view P k f = map-map (λ e. (e.num, f e)) (λ p. rec_of P (k, p)) (P.tab k).order

module _ {P : State} (S : Linked P) where
  pub find_view : {A : Type 0} (k : Kind) (f : Rec → A) (p : ℕ) → Live P (k, p) → find (tabled f ((view P).things k)) (num P (k, p)) ≡ some (f (rec_of P (k, p)))
  unfolding alive
  find_view k f p h =
      ap (λ (t : Table _). find t (num P (k, p))) (tabled_view P k f)
      ∙ find_tabled (λ q. num P (k, q)) (λ q. f (rec_of P (k, q))) (P.tab k).order p (λ q i e. ap (λ (a : Thing). a.1) (num_inj P S.tabs (k, q) (k, p) refl i h e)) h

  -- numbers count as things do, among live things of one kind
  pub count_nums : (a : Thing) (l : List Thing) → Live P a → ((x : Thing) → In Thing-dec x l → (x.0 ≡ a.0) × Live P x) → count ℕ_discrete (num P a) (map (num P) l) ≡ count Thing-dec a l
  count_nums a [] h g = refl
  count_nums a (y ∷ l) h g =
      ap₂ ◌+◌ (one (g y (in_head Thing-dec y l))) (count_nums a l h (λ x i. g x (in_tail Thing-dec x y l i)))
    where
      one : (y.0 ≡ a.0) × Live P y → tick (ℕ_discrete (num P a) (num P y)) ≡ tick (Thing-dec a y)
      one k = by_cases (Thing-dec a y) (λ e. tick_yes (ℕ_discrete (num P a) (num P y)) (ap (num P) e) ∙ sym (tick_yes (Thing-dec a y) e)) (λ n. tick_no (ℕ_discrete (num P a) (num P y)) (λ e. n (num_inj P S.tabs a y (sym k.0) h k.1 e)) ∙ sym (tick_no (Thing-dec a y) n))
