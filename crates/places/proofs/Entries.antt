-- The rules' tables where a record changes: a changed record is a changed entry. Assumes nothing.
use mathlib.Core.Path.{◌≡◌, refl, sym, ap, ◌∙◌, subst}
use mathlib.Core.Logic.{ite, if_neg}
use mathlib.Core.Bool.{Bool, true, false, cond}
use mathlib.Core.List.{List, [], ◌∷◌, map, map-map}
use native.Mathlib.Decide.{ℕ_discrete}
use native.Mathlib.Omega.{arith}
use Prim.Native.Nat.{ℕ, ◌+◌}
use lib.Dec.{eqb}
use Rattle.seqs.specs.Seqs.{tick, In}
use Rattle.places.specs.Store.{Kind, Thing, State, alive, Live, Linked}
use Rattle.places.specs.View.{Rec, num, rec_of, view, amend_in}
use Rattle.places.specs.Hist.{tabled}
use Rattle.rules.specs.Table.{Table, change}
use Rattle.rules.specs.History.{Five, zeros, plus}
use Rattle.seqs.proofs.Base.{tick_pos, in_head, in_tail, map_on}
use Rattle.places.proofs.Bits.{bit, bit_eqb, tabled_view}
use Rattle.places.proofs.Sees.{num_inj}

-- the two ways to decide that two numbers are the same
module _ {A : Type 0} (x n : ℕ) (a b : A) where
  pub cond_ite : cond (eqb x n) a b ≡ ite (ℕ_discrete x n) a b
  unfolding tick
  cond_ite = go (eqb x n) (ℕ_discrete x n) (bit_eqb x n)
    where
      go : (t : Bool) (w : Dec (x ≡ n)) → bit t ≡ tick w → cond t a b ≡ ite w a b
      go true (yes e) h = refl
      go true (no e) h = absurd (omega arith)
      go false (yes e) h = absurd (omega arith)
      go false (no e) h = refl

-- a changed record is a changed entry
module _ {A : Type 0} (p : Rec → A) (n : ℕ) (f : Rec → Rec) (keeps : (e : Rec) → (f e).num ≡ e.num) where
  pub tabled_amend : (g : A → A) → ((e : Rec) → p (f e) ≡ g (p e)) → (l : List Rec) → tabled p (amend_in n f l) ≡ change n g (tabled p l)
  unfolding change
  tabled_amend g h [] = refl
  tabled_amend g h (e ∷ l) = go (ℕ_discrete e.num n) (tabled_amend g h l) ∙ sym (cond_ite e.num n ((e.num, g (p e)) ∷ change n g (tabled p l)) ((e.num, p e) ∷ change n g (tabled p l)))
    where
      go : (w : Dec (e.num ≡ n)) → tabled p (amend_in n f l) ≡ change n g (tabled p l) → tabled p (ite w (f e) e ∷ amend_in n f l) ≡ ite w ((e.num, g (p e)) ∷ change n g (tabled p l)) ((e.num, p e) ∷ change n g (tabled p l))
      go (yes q) ih = λ i. (keeps e i, h e i) ∷ ih i
      go (no q) ih = λ i. (e.num, p e) ∷ ih i

  -- or none, where the entry does not show it
  pub tabled_same : ((e : Rec) → p (f e) ≡ p e) → (l : List Rec) → tabled p (amend_in n f l) ≡ tabled p l
  tabled_same h [] = refl
  tabled_same h (e ∷ l) = go (ℕ_discrete e.num n) (tabled_same h l)
    where
      go : (w : Dec (e.num ≡ n)) → tabled p (amend_in n f l) ≡ tabled p l → tabled p (ite w (f e) e ∷ amend_in n f l) ≡ tabled p (e ∷ l)
      go (yes q) ih = λ i. (keeps e i, h e i) ∷ ih i
      go (no q) ih = λ i. (e.num, p e) ∷ ih i

-- two changes of one entry are the same where they are the same there
pub change_on : {A : Type 0} (nm : ℕ → ℕ) (v : ℕ → A) (n : ℕ) (f g : A → A) (l : List ℕ) → ((q : ℕ) → In ℕ_discrete q l → nm q ≡ n → f (v q) ≡ g (v q)) → change n f (map (λ q. (nm q, v q)) l) ≡ change n g (map (λ q. (nm q, v q)) l)
unfolding change
change_on nm v n f g [] h = refl
change_on {A} nm v n f g (q ∷ l) h = go (change_on nm v n f g l (λ r i. h r (in_tail ℕ_discrete r q l i))) (eqb (nm q) n) (bit_eqb (nm q) n)
  where
    go : change n f (map (λ q. (nm q, v q)) l) ≡ change n g (map (λ q. (nm q, v q)) l) → (b : Bool) → bit b ≡ tick (ℕ_discrete (nm q) n) → ◌≡◌ {A = Table A} (cond b ((nm q, f (v q)) ∷ change n f (map (λ q. (nm q, v q)) l)) ((nm q, v q) ∷ change n f (map (λ q. (nm q, v q)) l))) (cond b ((nm q, g (v q)) ∷ change n g (map (λ q. (nm q, v q)) l)) ((nm q, v q) ∷ change n g (map (λ q. (nm q, v q)) l)))
    go ih true e = λ i. (nm q, h q (in_head ℕ_discrete q l) (tick_pos (ℕ_discrete (nm q) n) (omega arith)) i) ∷ ih i
    go ih false e = λ i. (nm q, v q) ∷ ih i

-- two changes of a live thing's entry are the same where they agree on it
pub change_there : {P : State} → Linked P → {A : Type 0} (k : Kind) (p : Rec → A) (o : ℕ) (f g : A → A) → Live P (k, o) → f (p (rec_of P (k, o))) ≡ g (p (rec_of P (k, o)))
    → change (num P (k, o)) f (tabled p ((view P).things k)) ≡ change (num P (k, o)) g (tabled p ((view P).things k))
unfolding alive
change_there {P} S k p o f g lo h =
    ap (change (num P (k, o)) f) (tabled_view P k p)
    ∙ change_on (λ q. num P (k, q)) (λ q. p (rec_of P (k, q))) (num P (k, o)) f g (P.tab k).order
    (λ q i m. subst (λ (r : ℕ). f (p (rec_of P (k, r))) ≡ g (p (rec_of P (k, r)))) (sym (ap (λ (x : Thing). x.1) (num_inj P S.tabs (k, q) (k, o) refl i lo m))) h)
    ∙ ap (change (num P (k, o)) g) (sym (tabled_view P k p))

-- no record has the next number
pub next_new : {P : State} → Linked P → (k : Kind) (f : Rec → Rec) → amend_in ((view P).next k) f ((view P).things k) ≡ (view P).things k
unfolding view rec_of
next_new {P} S k f =
    map-map (λ e. ite (ℕ_discrete e.num (P.tab k).next) (f e) e) (λ p. rec_of P (k, p)) (P.tab k).order
    ∙ map_on ℕ_discrete (λ p. ite (ℕ_discrete (num P (k, p)) (P.tab k).next) (f (rec_of P (k, p))) (rec_of P (k, p))) (λ p. rec_of P (k, p)) (P.tab k).order
    (λ p i. if_neg (ℕ_discrete (num P (k, p)) (P.tab k).next) (λ e. absurd (omega (arith, (S.tabs k).below p i))) (f (rec_of P (k, p))) (rec_of P (k, p)))

-- the births of an edit that has none
pub plus_zeros : (f : Five) → plus f zeros ≡ f
unfolding plus zeros
plus_zeros f = λ i. record { operations = z f.operations i; blocks = z f.blocks i; regions = z f.regions i; values = z f.values i; uses = z f.uses i }
  where
    z : (n : ℕ) → n + 0 ≡ n
    z n = omega arith
