-- A region moves: the last region of its operation takes its gap, and it goes last in the other. Assumes nothing.
use mathlib.Core.Path.{◌≡◌, refl, sym, ap, ◌∙◌}
use mathlib.Core.Logic.{◌≢◌, ⊎_elim}
use mathlib.Core.List.{List, [], ◌∷◌, ◌++◌}
use mathlib.Core.Option as math
use mathlib.Core.Option.{none, some}
use Rattle.std.specs.Prelude.{Option, Some}
use Rattle.std.specs.Option.{IsSome}
use Prim.Native.Nat.{ℕ, ◌+◌, ◌<◌}
use native.Mathlib.Omega.{arith}
use lib.ListN.{length}
use Rattle.seqs.specs.Seqs.{tick, count, In, without, seq_insert_at, seq_last_of, seq_front_of, seq_swap_out}
use Rattle.seqs.proofs.Base.{tick_yes, tick_no, count_append}
use Rattle.places.specs.Store.{op, reg, Fam, regs, regions, Thing, Thing-dec, Con, State, Live, Link, enter, leave, relink}
use Rattle.places.specs.Parts.{rows_of}
use Rattle.places.proofs.Steps.{thing_eq, some_inj, once, listed, own_left, own_leave_other, own_enter_other, list_left, list_entered, owners}
use Rattle.places.proofs.MoveRegion.{move_region_sound}
use Rattle.context.specs.declared.Layout.{Layout}
use Rattle.context.specs.Layout.{nc_of, nn_of}
use Rattle.context.specs.Memory.{state_of, SoundStore, Left, Entered, Stands, HomeIs}
use Rattle.context.specs.Reading.{last_place, LastIs, EnteredBy}
use Rattle.context.specs.Steps.{SwappedOut, CanMoveRegion, MovedRegion}
use Rattle.context.proofs.Places.{place<}
use Rattle.context.proofs.Users.{around_some}
use Rattle.context.proofs.Families.{stands}
use Rattle.context.proofs.Neighbours.{parted}
use Rattle.context.proofs.Gaps.{insert_mid, snoc_is, swap_last, gap_out, gap_swap, there_and_back}

last_of_mid : (y x : Thing) (a b : List Thing) → seq_last_of y (a ++ x ∷ b) ≡ seq_last_of x b
last_of_mid y x [] b = refl
last_of_mid y x (w ∷ a) b = last_of_mid w x a b

last_mid : (x : Thing) (a b : List Thing) → last_place (a ++ x ∷ b) ≡ Some (seq_last_of x b).1
last_mid x [] b = refl
last_mid x (y ∷ a) b = ap (λ (w : Thing). Some w.1) (last_of_mid y x a b)

in_last : (y : Thing) (l : List Thing) → In Thing-dec (seq_last_of y l) (y ∷ l)
in_last y [] = omega (arith, tick_yes (Thing-dec y y) refl)
in_last y (w ∷ l) = omega (arith, in_last w l)

add_zero : (i : ℕ) → i + 0 ≡ i
add_zero i = omega arith

-- where the region stands
module _ {l : Layout} {m : List ℕ} (r : ℕ) (S : SoundStore l m) (live : Live (state_of l m) (reg, r)) where
  abbrev P : State
  P = state_of l m

  abbrev x : Thing
  x = (reg, r)

  pub own_at : {q : Option ℕ} {h : ℕ} → HomeIs l regs r m q → q ≡ Some h → P.own x regs ≡ some (regions, (op, h))
  unfolding rows_of
  own_at H e = around_some H e

  module _ {h : ℕ} (own : P.own x regs ≡ some (regions, (op, h))) where
    pub stand : Stands P x regs
    stand = record { list = (regions, (op, h)); there = own }

    K : Link P x regs (regions, (op, h))
    K = S.sound.linked.link x regs (regions, (op, h)) own

    pub row< : h < nc_of l regs
    row< = place< S (op, h) K.home

    abbrev c : Con
    c = (regions, (op, h))

    abbrev L : List Thing
    L = P.list (op, h) regions

    pub apart : (a : List Thing) × (b : List Thing) × (L ≡ a ++ x ∷ b)
    apart = parted S.well regs r (regions, (op, h)) own

    abbrev a : List Thing
    a = apart.0

    abbrev b : List Thing
    b = apart.1

    one : count Thing-dec x L ≡ 1
    one = once S.sound.linked x regs c own

    -- how often x stands before x and after it
    none_round : (count Thing-dec x a ≡ 0) × (count Thing-dec x b ≡ 0)
    none_round =
        let e : count Thing-dec x L ≡ count Thing-dec x a + count Thing-dec x (x ∷ b) = ap (count Thing-dec x) apart.2 ∙ count_append Thing-dec x a (x ∷ b) in
        (omega (arith, one, e, tick_yes (Thing-dec x x) refl), omega (arith, one, e, tick_yes (Thing-dec x x) refl))

    last_is : {q : Option ℕ} → LastIs l regs h m q → q ≡ Some (seq_last_of x b).1
    unfolding rows_of
    last_is Z = Z.is ∙ ap last_place apart.2 ∙ last_mid x a b

    pub last_some : {q : Option ℕ} → LastIs l regs h m q → IsSome q
    last_some Z = rw (last_is Z) refl

    pub last_at : {q : Option ℕ} {z : ℕ} → LastIs l regs h m q → q ≡ Some z → z ≡ (seq_last_of x b).1
    last_at Z e = let s = last_is Z in cc

    module _ {z : ℕ} (code : z ≡ (seq_last_of x b).1) where
      -- the things of the list are regions
      kind_in : (w : Thing) → In Thing-dec w L → w.0 ≡ reg
      kind_in w i = (S.sound.linked.link w regs c (listed S.sound.linked w (op, h) regions i)).node

      -- x is the last: the list ends with it
      module _ (e : z ≡ r) where
        ends : (b' : List Thing) → L ≡ a ++ x ∷ b' → z ≡ (seq_last_of x b').1 → count Thing-dec x b' ≡ 0 → L ≡ a ++ x ∷ []
        ends [] q k n = q
        ends (y ∷ b') q k n =
            let i : In Thing-dec (seq_last_of y b') (y ∷ b') = in_last y b' in
            let f : count Thing-dec (seq_last_of y b') L ≡ count Thing-dec (seq_last_of y b') a + count Thing-dec (seq_last_of y b') (x ∷ y ∷ b') = ap (count Thing-dec (seq_last_of y b')) q ∙ count_append Thing-dec (seq_last_of y b') a (x ∷ y ∷ b') in
            let w : seq_last_of y b' ≡ x = thing_eq (seq_last_of y b') x (kind_in (seq_last_of y b') (omega (arith, i, f))) (omega (arith, k, e)) in
            absurd (omega (arith, i, n, ap (λ (t : Thing). count Thing-dec t (y ∷ b')) w))

        pub swapped_last : {m₁ : List ℕ} → Left l regs r m m₁ → SwappedOut l r m m₁
        unfolding leave
        swapped_last E =
            let q : L ≡ a ++ x ∷ [] = ends b apart.2 code none_round.1 in
            record {
              well = E.well;
              rest = E.rest;
              state = λ g o.
                  let s : ◌≡◌ {A = Con} (regions, (op, g)) c = some_inj (sym o ∙ own) in
                  E.state (regions, (op, g)) o
                  ∙ ap (λ (d : Con). relink d (without Thing-dec x (P.list d.1 d.0)) x none P) s
                  ∙ ap (λ (t : List Thing). relink c t x none P) (ap (without Thing-dec x) q ∙ sym (swap_last Thing-dec x a none_round.0) ∙ ap (seq_swap_out Thing-dec x) (sym q))
                  ∙ ap (λ (d : Con). relink d (seq_swap_out Thing-dec x (P.list d.1 d.0)) x none P) (sym s);
            }

      -- another is the last: it takes the gap
      module _ (n : z ≢ r) where
        abbrev w : Thing
        w = (reg, z)

        ends_with : (b' : List Thing) → L ≡ a ++ x ∷ b' → z ≡ (seq_last_of x b').1 → (b₁ : List Thing) × (L ≡ a ++ x ∷ (b₁ ++ w ∷ []))
        ends_with [] q k = absurd (n (omega (arith, k)))
        ends_with (y ∷ b') q k =
            let i : In Thing-dec (seq_last_of y b') (y ∷ b') = in_last y b' in
            let f : count Thing-dec (seq_last_of y b') L ≡ count Thing-dec (seq_last_of y b') a + count Thing-dec (seq_last_of y b') (x ∷ y ∷ b') = ap (count Thing-dec (seq_last_of y b')) q ∙ count_append Thing-dec (seq_last_of y b') a (x ∷ y ∷ b') in
            let e : seq_last_of y b' ≡ w = thing_eq (seq_last_of y b') w (kind_in (seq_last_of y b') (omega (arith, i, f))) (omega (arith, k)) in
            (seq_front_of y b', q ∙ ap (λ (t : List Thing). a ++ x ∷ t) (snoc_is Thing-dec y b' ∙ ap (λ (t : Thing). seq_front_of y b' ++ t ∷ []) e))

        split : (b₁ : List Thing) × (L ≡ a ++ x ∷ (b₁ ++ w ∷ []))
        split = ends_with b apart.2 code

        abbrev b₁ : List Thing
        b₁ = split.0

        w≢x : w ≢ x
        w≢x e = n (omega (arith, ap (λ (t : Thing). t.1) e))

        counts : (t : Thing) → count Thing-dec t L ≡ count Thing-dec t a + (tick (Thing-dec t x) + (count Thing-dec t b₁ + (tick (Thing-dec t w) + 0)))
        counts t = ap (count Thing-dec t) split.1 ∙ count_append Thing-dec t a (x ∷ (b₁ ++ w ∷ [])) ∙ ap (λ (j : ℕ). count Thing-dec t a + (tick (Thing-dec t x) + j)) (count_append Thing-dec t b₁ (w ∷ []))

        w_in : In Thing-dec w L
        w_in = omega (arith, counts w, tick_yes (Thing-dec w w) refl)

        own_w : P.own w regs ≡ some c
        own_w = listed S.sound.linked w (op, h) regions w_in

        one_w : count Thing-dec w L ≡ 1
        one_w = once S.sound.linked w regs c own_w

        xa : count Thing-dec x a ≡ 0
        xa = omega (arith, one, counts x, tick_yes (Thing-dec x x) refl)

        xb : count Thing-dec x b₁ ≡ 0
        xb = omega (arith, one, counts x, tick_yes (Thing-dec x x) refl)

        wa : count Thing-dec w a ≡ 0
        wa = omega (arith, one_w, counts w, tick_yes (Thing-dec w w) refl)

        wb : count Thing-dec w b₁ ≡ 0
        wb = omega (arith, one_w, counts w, tick_yes (Thing-dec w w) refl)

        xz : count Thing-dec x (a ++ w ∷ []) ≡ 0
        xz = count_append Thing-dec x a (w ∷ []) ∙ omega (arith, xa, tick_no (Thing-dec x w) (λ e. w≢x (sym e)))

        wf : count Thing-dec w (a ++ x ∷ b₁) ≡ 0
        wf = count_append Thing-dec w a (x ∷ b₁) ∙ omega (arith, wa, wb, tick_no (Thing-dec w x) w≢x)

        pub stand_w : Stands P w regs
        stand_w = record { list = c; there = own_w }

        pub room_w : z < nn_of l regs
        room_w = place< S w (S.sound.linked.link w regs c own_w).live

        module _ {m₁ : List ℕ} (L₁ : Left l regs z m m₁) where
          out : state_of l m₁ ≡ leave c w P
          out = L₁.state c own_w

          own₁ : (state_of l m₁).own x regs ≡ some c
          own₁ = rw out (ap (λ (f : Fam → math.Option Con). f regs) (own_leave_other P c w x (λ e. w≢x (sym e))) ∙ own)

          pub stand₁ : Stands (state_of l m₁) x regs
          stand₁ = record { list = c; there = own₁ }

          pub free₁ : (state_of l m₁).own w regs ≡ none
          free₁ = rw out (own_left P c w)

          list₁ : (leave c w P).list (op, h) regions ≡ a ++ x ∷ b₁
          list₁ = list_left P c w ∙ ap (without Thing-dec w) split.1 ∙ gap_out Thing-dec x w a b₁ xa xb wa wb w≢x xz wf

          module _ {m₂ : List ℕ} (E : EnteredBy l regs r z 0 m₁ m₂) where
            put : state_of l m₂ ≡ enter c (length a + 0) w (leave c w P)
            put = E.state c own₁ a b₁ (ap (λ (Q : State). Q.list (op, h) regions) out ∙ list₁) ∙ ap (enter c (length a + 0) w) out

            own₂ : (state_of l m₂).own x regs ≡ some c
            own₂ = rw put (ap (λ (f : Fam → math.Option Con). f regs) (own_enter_other (leave c w P) c w (length a + 0) x (λ e. w≢x (sym e)) ∙ own_leave_other P c w x (λ e. w≢x (sym e))) ∙ own)

            pub stand₂ : Stands (state_of l m₂) x regs
            stand₂ = record { list = c; there = own₂ }

            list₂ : (enter c (length a + 0) w (leave c w P)).list (op, h) regions ≡ a ++ w ∷ x ∷ b₁
            list₂ =
                list_entered (leave c w P) c w (length a + 0)
                ∙ ap (seq_insert_at (length a + 0) w) list₁
                ∙ ap (λ (i : ℕ). seq_insert_at i w (a ++ x ∷ b₁)) (add_zero (length a))
                ∙ insert_mid Thing-dec w a (x ∷ b₁)

            swapped : leave c x (enter c (length a + 0) w (leave c w P)) ≡ relink c (seq_swap_out Thing-dec x L) x none P
            unfolding leave enter
            swapped =
                there_and_back P c x w _ _ (without Thing-dec x ((enter c (length a + 0) w (leave c w P)).list (op, h) regions)) own_w
                ∙ ap (λ (t : List Thing). relink c t x none P) (ap (without Thing-dec x) list₂ ∙ gap_swap Thing-dec x w a b₁ xa xb wa wb w≢x xz wf ∙ ap (seq_swap_out Thing-dec x) (sym split.1))

            pub swapped_gap : {m₃ : List ℕ} → Left l regs r m₂ m₃ → SwappedOut l r m m₃
            swapped_gap L₃ =
                record {
                  well = L₃.well;
                  rest = L₃.rest ∙ E.rest ∙ L₁.rest;
                  state = λ g o.
                      let s : ◌≡◌ {A = Con} (regions, (op, g)) c = some_inj (sym o ∙ own) in
                      L₃.state c own₂ ∙ ap (leave c x) put ∙ swapped ∙ ap (λ (d : Con). relink d (seq_swap_out Thing-dec x (P.list d.1 d.0)) x none P) (sym s);
                }

-- into the other operation
module _ {l : Layout} {m : List ℕ} (r o : ℕ) (S : SoundStore l m) (C : CanMoveRegion (state_of l m) r o) {m₁ : List ℕ} (W : SwappedOut l r m m₁) where
  home : (h : ℕ) × ((state_of l m).own (reg, r) regs ≡ some (regions, (op, h)))
  unfolding rows_of
  home =
      let p : (c : Con) × ((state_of l m).own (reg, r) regs ≡ some c) = S.sound.placed (reg, r) C.live in
      let k = stands l m regs r p.0 p.1 in
      (k.0, p.1 ∙ ap some (sym k.2))

  abbrev P₀ : State
  P₀ = state_of l m

  abbrev d : Con
  d = (regions, (op, home.0))

  abbrev gap : List Thing
  gap = seq_swap_out Thing-dec (reg, r) (P₀.list (op, home.0) regions)

  pub alone : (state_of l m₁).own (reg, r) regs ≡ none
  alone = rw (W.state home.0 home.1) (⊎_elim (λ h. h.2) (λ h. absurd (h.0 refl refl)) (owners P₀ d gap (reg, r) none (reg, r) regs))

  pub moved_region : {m₂ : List ℕ} → Entered l regs o l.regions r m₁ m₂ → MovedRegion l r o m m₂
  unfolding rows_of
  moved_region E =
      let e : (h : ℕ) → P₀.own (reg, r) regs ≡ some (regions, (op, h)) → state_of l _ ≡ enter (regions, (op, o)) l.regions (reg, r) (relink (regions, (op, h)) (seq_swap_out Thing-dec (reg, r) (P₀.list (op, h) regions)) (reg, r) none P₀) =
      λ h a. E.state ∙ ap (enter (regions, (op, o)) l.regions (reg, r)) (W.state h a) in
      record {
        sound =
            record {
              well = E.well;
              sound = rw (e home.0 home.1)
                  (move_region_sound S.sound (reg, r) (op, home.0) (op, o) l.regions refl refl C.home home.1
                  (λ q. C.other (home.1 ∙ ap (λ (t : Thing). some (regions, t)) (sym q))) C.limit C.clear);
            };
        rest = E.rest ∙ W.rest;
        state = e;
      }
