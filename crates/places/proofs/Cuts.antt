-- Each primitive that ends a thing is a cut of that thing. Assumes nothing.
use mathlib.Core.Path.{◌≡◌, refl, sym, ap, ap₂, ◌∙◌}
use mathlib.Core.Logic.{◌≢◌, ite, by_cases, ⊎_elim}
use mathlib.Core.HLevel.{Discrete}
use mathlib.Core.List.{List, [], ◌∷◌}
use mathlib.Core.Option.{Option, none, some}
use native.Mathlib.Decide.{ℕ_discrete}
use native.Mathlib.Omega.{arith}
use Prim.Native.Nat.{ℕ, ◌+◌, ◌<◌}
use Rattle.seqs.specs.Seqs.{upd, count, without}
use Rattle.places.specs.Store.{Kind, usg, Role, Fam, Kind-dec, fam, Thing, Thing-dec, Con, State, Live, owns, Linked, UseHeld, Sound, gone, end, leave, relink, set_own, set_list}
use Rattle.places.specs.Edits.{end_use}
use Rattle.places.specs.Walk.{pick, sgn, sift, gone_by, place_cut_by, among, cut_all}
use Rattle.seqs.proofs.Base.{tick_yes, tick_no, tick_pos, upd_at, upd_other}
use Rattle.places.proofs.Steps.{thing_eq, owns_none, once, leave_ok, lists, own_leave_other}
use Rattle.places.proofs.EndUse.{bare₂, L₂}
use Rattle.places.proofs.Cut.{pick_0, pick_1, zero_or, sift_on, sift_all, sift_sift, cut_sound}

abbrev one : Thing → Thing → ℕ
one a x = among (a ∷ []) x

pub one_yes : (a x : Thing) → x ≡ a → 0 < one a x
one_yes a x e = omega (arith, tick_yes (Thing-dec x a) e)

pub one_no : (a x : Thing) → x ≢ a → one a x ≡ 0
one_no a x n = omega (arith, tick_no (Thing-dec x a) n)

module _ {A : Type 0} (d : Discrete A) where
  -- to take out by name is to sift
  pub without_sift : (x : A) (p : A → ℕ) → ((y : A) → y ≡ x → 0 < p y) → ((y : A) → y ≢ x → p y ≡ 0) → (l : List A) → without d x l ≡ sift p l
  without_sift x p yes' no' [] = refl
  without_sift x p yes' no' (y ∷ l) = go (without_sift x p yes' no' l) (d y x)
    where
      go : without d x l ≡ sift p l → (w : Dec (y ≡ x)) → ite w (without d x l) (y ∷ without d x l) ≡ pick (p y) (y ∷ sift p l) (sift p l)
      go ih (yes e) = ih ∙ sym (pick_1 (p y) (y ∷ sift p l) (sift p l) (yes' y e))
      go ih (no n) = ap {B = List A} (λ r. y ∷ r) ih ∙ sym (pick_0 (p y) (y ∷ sift p l) (sift p l) (no' y n))

-- what stands in no list: its end is its cut
module _ {P : State} (S : Linked P) (a : Thing) (alone : (f : Fam) → P.own a f ≡ none) where
  table_here : gone a.1 (P.tab a.0) ≡ gone_by (λ q. one a (a.0, q)) (P.tab a.0)
  table_here = λ i. record {
    cap = (P.tab a.0).cap;
    next = (P.tab a.0).next;
    num = λ q. nums q i;
    order = without_sift ℕ_discrete a.1 (λ q. one a (a.0, q)) (λ q e. one_yes a (a.0, q) (thing_eq (a.0, q) a refl e)) (λ q n. one_no a (a.0, q) (λ e. n (ap (λ (t : Thing). t.1) e))) (P.tab a.0).order i;
  }
    where
      nums : (q : ℕ) → upd ℕ_discrete (P.tab a.0).num a.1 0 q ≡ pick (one a (a.0, q)) ((P.tab a.0).num q) 0
      nums q =
          by_cases (ℕ_discrete q a.1)
          (λ e. upd_at ℕ_discrete (P.tab a.0).num a.1 0 e ∙ sym (pick_1 (one a (a.0, q)) ((P.tab a.0).num q) 0 (one_yes a (a.0, q) (thing_eq (a.0, q) a refl e))))
          (λ n. upd_other ℕ_discrete (P.tab a.0).num a.1 0 n ∙ sym (pick_0 (one a (a.0, q)) ((P.tab a.0).num q) 0 (one_no a (a.0, q) (λ e. n (ap (λ (t : Thing). t.1) e)))))

  table_there : (k : Kind) → k ≢ a.0 → P.tab k ≡ gone_by (λ q. one a (k, q)) (P.tab k)
  table_there k n = λ i. record {
    cap = (P.tab k).cap;
    next = (P.tab k).next;
    num = λ q. sym (pick_0 (one a (k, q)) ((P.tab k).num q) 0 (no' q)) i;
    order = sym (sift_all ℕ_discrete (λ q. one a (k, q)) (P.tab k).order (λ q _. no' q)) i;
  }
    where
      no' : (q : ℕ) → one a (k, q) ≡ 0
      no' q = one_no a (k, q) (λ e. n (ap (λ (t : Thing). t.0) e))

  tables : (k : Kind) → upd Kind-dec P.tab a.0 (gone a.1 (P.tab a.0)) k ≡ gone_by (λ q. one a (k, q)) (P.tab k)
  tables k =
      by_cases (Kind-dec k a.0)
      (λ e. upd_at Kind-dec P.tab a.0 (gone a.1 (P.tab a.0)) e ∙ table_here ∙ ap (λ (j : Kind). gone_by (λ q. one a (j, q)) (P.tab j)) (sym e))
      (λ n. upd_other Kind-dec P.tab a.0 (gone a.1 (P.tab a.0)) n ∙ table_there k n)

  pub end_cut : end a P ≡ cut_all (a ∷ []) P
  unfolding end place_cut_by
  end_cut = λ i. record { tab = λ k. tables k i; list = λ c r. listed' c r i; own = λ x f. owned x f i; tag = λ x. tagged x i }
    where
      listed' : (c : Thing) (r : Role) → P.list c r ≡ sift (one a) (P.list c r)
      listed' c r = sym (sift_all Thing-dec (one a) (P.list c r) (λ x i. one_no a x (λ e. absurd (omega (arith, S.held r c a, ap (λ (o : Option Con). owns o (r, c)) (alone (fam r)), owns_none (r, c), ap (λ (t : Thing). count Thing-dec t (P.list c r)) e)))))

      owned : (x : Thing) (f : Fam) → P.own x f ≡ pick (one a x) (P.own x f) none
      owned x f =
          by_cases (Thing-dec x a)
          (λ e. ap (λ (t : Thing). P.own t f) e ∙ alone f ∙ sym (pick_1 (one a x) (P.own x f) none (one_yes a x e)))
          (λ n. sym (pick_0 (one a x) (P.own x f) none (one_no a x n)))

      tagged : (x : Thing) → upd Thing-dec P.tag a 0 x ≡ pick (one a x) (P.tag x) 0
      tagged x =
          by_cases (Thing-dec x a)
          (λ e. upd_at Thing-dec P.tag a 0 e ∙ sym (pick_1 (one a x) (P.tag x) 0 (one_yes a x e)))
          (λ n. upd_other Thing-dec P.tag a 0 n ∙ sym (pick_0 (one a x) (P.tag x) 0 (one_no a x n)))

-- what leaves a list before it is cut
pub leave_cut : (P : State) (c : Con) (x : Thing) → cut_all (x ∷ []) (leave c x P) ≡ cut_all (x ∷ []) P
unfolding place_cut_by leave relink set_own set_list
leave_cut P c x = λ i. record { tab = λ k. gone_by (λ q. one x (k, q)) (P.tab k); list = λ b r. sifted b r i; own = λ y f. owned y f i; tag = λ y. pick (one x y) (P.tag y) 0 }
  where
    Q : State
    Q = leave c x P

    out : without Thing-dec x (P.list c.1 c.0) ≡ sift (one x) (P.list c.1 c.0)
    out = without_sift Thing-dec x (one x) (λ y e. one_yes x y e) (λ y n. one_no x y n) (P.list c.1 c.0)

    sifted : (b : Thing) (r : Role) → sift (one x) ((leave c x P).list b r) ≡ sift (one x) (P.list b r)
    sifted b r =
        ⊎_elim
        (λ h. ap (sift (one x)) (h.2 ∙ out) ∙ sift_sift (one x) (one x) (P.list c.1 c.0) ∙ sift_on Thing-dec (λ y. one x y + one x y) (one x) (P.list c.1 c.0) (λ y _. twice (one x y)) ∙ ap₂ {C = List Thing} (λ (t : Thing) (s : Role). sift (one x) (P.list t s)) (sym h.0) (sym h.1))
        (λ h. ap (sift (one x)) h.1)
        (lists P c (without Thing-dec x (P.list c.1 c.0)) x none b r)
      where
        twice : (n : ℕ) → sgn (n + n) ≡ sgn n
        twice n = ⊎_elim (λ z. pick_0 (n + n) 0 1 (omega arith) ∙ sym (pick_0 n 0 1 z)) (λ z. pick_1 (n + n) 0 1 (omega arith) ∙ sym (pick_1 n 0 1 z)) (zero_or n)

    owned : (y : Thing) (f : Fam) → pick (one x y) ((leave c x P).own y f) none ≡ pick (one x y) (P.own y f) none
    owned y f =
        by_cases (Thing-dec y x)
        (λ e. pick_1 (one x y) ((leave c x P).own y f) none (one_yes x y e) ∙ sym (pick_1 (one x y) (P.own y f) none (one_yes x y e)))
        (λ n. ap (λ (h : Fam → Option Con). pick (one x y) (h f) none) (own_leave_other P c x y n))

-- a use ends
pub end_use_cut : {P : State} (S : Sound P) (q : ℕ) (live : Live P (usg, q)) (held : UseHeld (P.own (usg, q))) → end_use held.slot held.def (usg, q) P ≡ cut_all ((usg, q) ∷ []) P
end_use_cut {P} S q live held = end_cut (L₂ S q live held) (usg, q) (bare₂ S q live held).alone ∙ leave_cut (leave held.slot (usg, q) P) held.def (usg, q) ∙ leave_cut P held.slot (usg, q)

-- what stands in one list leaves it and ends
pub finish_cut : {P : State} → Linked P → (c : Con) (x : Thing) → P.own x (fam c.0) ≡ some c → ((f : Fam) → (leave c x P).own x f ≡ none) → end x (leave c x P) ≡ cut_all (x ∷ []) P
finish_cut {P} S c x at alone = end_cut (leave_ok S c x at) x alone ∙ leave_cut P c x

-- a thing with no lists of its own may be cut
pub cut_one_sound : {P : State} → Sound P → (a : Thing) → ((r : Role) → P.list a r ≡ []) → Sound (cut_all (a ∷ []) P)
cut_one_sound {P} S a empty =
    cut_sound (one a) P
    (λ x f c e h. absurd (omega (arith, once S.linked x f c e, ap (count Thing-dec x) (ap (λ (t : Thing). P.list t c.0) (is_a c.1 h) ∙ empty c.0))))
    S
  where
    is_a : (x : Thing) → 0 < one a x → x ≡ a
    is_a x h = tick_pos (Thing-dec x a) (omega arith)
