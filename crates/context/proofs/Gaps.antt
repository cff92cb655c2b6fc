-- A thing leaves a list and the last one takes its gap: the list, and the store. Assumes nothing.
use mathlib.Core.Path.{◌≡◌, refl, sym, ap, ◌∙◌}
use mathlib.Core.Logic.{◌≢◌, ⊎_elim, ite, if_pos, if_neg, by_cases}
use mathlib.Core.HLevel.{Discrete}
use mathlib.Core.List.{List, [], ◌∷◌, ◌++◌, map, append_assoc, append-nil}
use mathlib.Core.Option.{Option, none, some}
use native.Mathlib.Omega.{arith}
use lib.ListN.{length}
use Rattle.seqs.specs.Seqs.{count, without, seq_insert_at, seq_last_of, seq_front_of, seq_swap_out}
use Rattle.seqs.proofs.Base.{tick_yes}
use Rattle.places.specs.Store.{Role, Fam, fam, Thing, Con, State, relink, set_own, set_list}
use Rattle.places.proofs.Steps.{lists, owners}
use Rattle.places.proofs.Extra.{without_none}

module _ {A : Type 0} (d : Discrete A) where
  pub without_mid : (x : A) (a b : List A) → count d x a ≡ 0 → count d x b ≡ 0 → without d x (a ++ x ∷ b) ≡ a ++ b
  without_mid x [] b h k = if_pos (d x x) refl (without d x b) (x ∷ without d x b) ∙ without_none d x b k
  without_mid x (y ∷ a) b h k =
      by_cases (d y x)
      (λ e. absurd (omega (arith, h, tick_yes (d x y) (sym e))))
      (λ n. if_neg (d y x) n (without d x (a ++ x ∷ b)) (y ∷ without d x (a ++ x ∷ b)) ∙ ap (λ (r : List A). y ∷ r) (without_mid x a b (omega (arith, h)) k))

  pub insert_mid : (z : A) (a b : List A) → seq_insert_at (length a) z (a ++ b) ≡ a ++ z ∷ b
  insert_mid z [] b = refl
  insert_mid z (y ∷ a) b = ap (λ (r : List A). y ∷ r) (insert_mid z a b)

  last_snoc : (y z : A) (l : List A) → seq_last_of y (l ++ z ∷ []) ≡ z
  last_snoc y z [] = refl
  last_snoc y z (w ∷ l) = last_snoc w z l

  front_snoc : (y z : A) (l : List A) → seq_front_of y (l ++ z ∷ []) ≡ y ∷ l
  front_snoc y z [] = refl
  front_snoc y z (w ∷ l) = ap (λ (r : List A). y ∷ r) (front_snoc w z l)

  pub snoc_is : (y : A) (l : List A) → y ∷ l ≡ seq_front_of y l ++ seq_last_of y l ∷ []
  snoc_is y [] = refl
  snoc_is y (w ∷ l) = ap (λ (r : List A). y ∷ r) (snoc_is w l)

  swap_snoc : (x z : A) (l : List A) → seq_swap_out d x (l ++ z ∷ []) ≡ map (λ a. ite (d a x) z a) l
  swap_snoc x z [] = refl
  swap_snoc x z (y ∷ l) =
      ap (λ (w : A). map (λ a. ite (d a x) w a) (seq_front_of y (l ++ z ∷ []))) (last_snoc y z l)
      ∙ ap (map (λ a. ite (d a x) z a)) (front_snoc y z l)

  sub_none : (x z : A) (l : List A) → count d x l ≡ 0 → map (λ a. ite (d a x) z a) l ≡ l
  sub_none x z [] h = refl
  sub_none x z (y ∷ l) h =
      by_cases (d y x)
      (λ e. absurd (omega (arith, h, tick_yes (d x y) (sym e))))
      (λ n. ap (λ (w : A). w ∷ map (λ a. ite (d a x) z a) l) (if_neg (d y x) n z y) ∙ ap (λ (r : List A). y ∷ r) (sub_none x z l (omega (arith, h))))

  sub_mid : (x z : A) (a b : List A) → count d x a ≡ 0 → count d x b ≡ 0 → map (λ q. ite (d q x) z q) (a ++ x ∷ b) ≡ a ++ z ∷ b
  sub_mid x z [] b h k = ap (λ (w : A). w ∷ map (λ q. ite (d q x) z q) b) (if_pos (d x x) refl z x) ∙ ap (λ (r : List A). z ∷ r) (sub_none x z b k)
  sub_mid x z (y ∷ a) b h k =
      by_cases (d y x)
      (λ e. absurd (omega (arith, h, tick_yes (d x y) (sym e))))
      (λ n. ap (λ (w : A). w ∷ map (λ q. ite (d q x) z q) (a ++ x ∷ b)) (if_neg (d y x) n z y) ∙ ap (λ (r : List A). y ∷ r) (sub_mid x z a b (omega (arith, h)) k))

  -- x is the last itself
  pub swap_last : (x : A) (a : List A) → count d x a ≡ 0 → seq_swap_out d x (a ++ x ∷ []) ≡ without d x (a ++ x ∷ [])
  swap_last x a h = swap_snoc x x a ∙ sub_none x x a h ∙ sym (append-nil a) ∙ sym (without_mid x a [] h refl)

  -- the last is put before x, and x leaves
  module _ (x z : A) (a b : List A) (xa : count d x a ≡ 0) (xb : count d x b ≡ 0) (za : count d z a ≡ 0) (zb : count d z b ≡ 0) (n : z ≢ x) (xz : count d x (a ++ z ∷ []) ≡ 0) (zf : count d z (a ++ x ∷ b) ≡ 0) where
    abbrev L : List A
    L = a ++ x ∷ (b ++ z ∷ [])

    snoc : L ≡ (a ++ x ∷ b) ++ z ∷ []
    snoc = sym (append_assoc a (x ∷ b) (z ∷ []))

    pub gap_out : without d z L ≡ a ++ x ∷ b
    gap_out = ap (without d z) snoc ∙ without_mid z (a ++ x ∷ b) [] zf refl ∙ append-nil (a ++ x ∷ b)

    pub gap_swap : without d x (a ++ z ∷ x ∷ b) ≡ seq_swap_out d x L
    gap_swap =
        ap (without d x) (sym (append_assoc a (z ∷ []) (x ∷ b)))
        ∙ without_mid x (a ++ z ∷ []) b xz xb
        ∙ append_assoc a (z ∷ []) b
        ∙ sym (ap (seq_swap_out d x) snoc ∙ swap_snoc x z (a ++ x ∷ b) ∙ sub_mid x z a b xa xb)

-- ---- z leaves a list and comes back into it, and x leaves it

module _ (P : State) (c : Con) (x z : Thing) (l₁ l₂ l₃ : List Thing) (own : P.own z (fam c.0) ≡ some c) where
  abbrev P₁ : State
  P₁ = relink c l₁ z none P

  abbrev P₂ : State
  P₂ = relink c l₂ z (some c) P₁

  on_list : (Q : State) (y : Thing) (l : List Thing) (o : Option Con) (b : Thing) (r : Role) → b ≡ c.1 → r ≡ c.0 → (relink c l y o Q).list b r ≡ l
  on_list Q y l o b r p q = ⊎_elim (λ h. h.2) (λ h. absurd (h.0 p q)) (lists Q c l y o b r)

  off_list : (Q : State) (y : Thing) (l : List Thing) (o : Option Con) (b : Thing) (r : Role) → (b ≡ c.1 → r ≡ c.0 → ⊥) → (relink c l y o Q).list b r ≡ Q.list b r
  off_list Q y l o b r n = ⊎_elim (λ h. absurd (n h.0 h.1)) (λ h. h.1) (lists Q c l y o b r)

  on_own : (Q : State) (w : Thing) (l : List Thing) (o : Option Con) (y : Thing) (g : Fam) → y ≡ w → g ≡ fam c.0 → (relink c l w o Q).own y g ≡ o
  on_own Q w l o y g p q = ⊎_elim (λ h. h.2) (λ h. absurd (h.0 p q)) (owners Q c l w o y g)

  off_own : (Q : State) (w : Thing) (l : List Thing) (o : Option Con) (y : Thing) (g : Fam) → (y ≡ w → g ≡ fam c.0 → ⊥) → (relink c l w o Q).own y g ≡ Q.own y g
  off_own Q w l o y g n = ⊎_elim (λ h. absurd (n h.0 h.1)) (λ h. h.1) (owners Q c l w o y g)

  same_list : (b : Thing) (r : Role) → (relink c l₃ x none P₂).list b r ≡ (relink c l₃ x none P).list b r
  same_list b r =
      ⊎_elim (λ h. h.2 ∙ sym (on_list P x l₃ none b r h.0 h.1))
      (λ h. h.1 ∙ off_list P₁ z l₂ (some c) b r h.0 ∙ off_list P z l₁ none b r h.0 ∙ sym (off_list P x l₃ none b r h.0))
      (lists P₂ c l₃ x none b r)

  back : (y : Thing) (g : Fam) → P₂.own y g ≡ P.own y g
  back y g =
      ⊎_elim (λ h. h.2 ∙ sym (ap (λ (w : Thing). P.own w g) h.0 ∙ ap (P.own z) h.1 ∙ own))
      (λ h. h.1 ∙ off_own P z l₁ none y g h.0)
      (owners P₁ c l₂ z (some c) y g)

  same_own : (y : Thing) (g : Fam) → (relink c l₃ x none P₂).own y g ≡ (relink c l₃ x none P).own y g
  same_own y g =
      ⊎_elim (λ h. h.2 ∙ sym (on_own P x l₃ none y g h.0 h.1))
      (λ h. h.1 ∙ back y g ∙ sym (off_own P x l₃ none y g h.0))
      (owners P₂ c l₃ x none y g)

  pub there_and_back : relink c l₃ x none (relink c l₂ z (some c) (relink c l₁ z none P)) ≡ relink c l₃ x none P
  unfolding relink set_own set_list
  there_and_back = λ i. record { tab = P.tab; list = λ b r. same_list b r i; own = λ y g. same_own y g i; tag = P.tag }
