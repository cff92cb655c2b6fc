-- A sound store from the mere fact that it is one: what the fact chooses can be chosen again from the words. Assumes nothing.
use mathlib.Core.Path.{◌≡◌, refl, sym, ap, ap₂, ◌∙◌, subst}
use mathlib.Core.Logic.{∥∥₁_elim, ◌⊎◌, inl, inr}
use mathlib.Core.HLevel.{hedberg}
use mathlib.Core.List.{List, [], ◌∷◌}
use native.Mathlib.Decide.{ℕ_discrete, dec_lt}
use native.Mathlib.Omega.{arith}
use Prim.Native.Nat.{ℕ, zero, suc, ◌<◌}
use Rattle.std.proofs.Props.{props}
use Rattle.std.proofs.Math.Option.{Option, none, some, discrete}
use Rattle.std.proofs.Math.Logic.{∥∥₁_map, by_cases}
use Rattle.std.specs.Coded.{×_prop, Unit-prop}
use Rattle.seqs.specs.Seqs.{Rises}
use Rattle.linked_list.proofs.Truncated.{linked}
use Rattle.table.specs.Table.{order, count, stamp}
use Rattle.arena.specs.Packed.{Packed, front}
use Rattle.places.specs.Store.{Kind, Kind-dec, op, blk, reg, val, usg, Fam-dec, Fam, slots, use_sets, regs, vals, Role, Thing, Thing-dec, Con, State, Ends, up, Fit, Placed, Sound}
use Rattle.places.proofs.Steps.{some_inj, some_none}
use Rattle.context.specs.declared.Layout.{Layout}
use Rattle.context.specs.Layout.{cap_of, nc_of, nn_of, kind_part, fam_part}
use Rattle.context.specs.Memory.{part, state_of, Well, SoundStore}

-- ---- the words

-- a place of the order of a table, or that there is none, among the first c
seek : (t : List ℕ) (p c : ℕ) → ((i : ℕ) × (i < c) × (order t i ≡ p)) ⊎ ((i : ℕ) → i < c → order t i ≡ p → ⊥)
seek t p zero = inr (λ i h e. omega (arith, h))
seek t p (suc c) =
    by_cases (ℕ_discrete (order t c) p)
    (λ e. inl (c, omega arith, e))
    (λ n. go (seek t p c) n)
  where
    go : ((i : ℕ) × (i < c) × (order t i ≡ p)) ⊎ ((i : ℕ) → i < c → order t i ≡ p → ⊥) → (order t c ≡ p → ⊥) → ((i : ℕ) × (i < suc c) × (order t i ≡ p)) ⊎ ((i : ℕ) → i < suc c → order t i ≡ p → ⊥)
    go (inl x) n = inl (x.0, omega (arith, x.1), x.2)
    go (inr f) n = inr (λ i h e. by_cases (dec_lt i c) (λ l. f i l e) (λ g. n (subst (λ (j : ℕ). order t j ≡ p) (omega (arith, h, g)) e)))

module _ (n : ℕ) (m : List ℕ) (T : ∥ Packed n m ∥₁) where
  abbrev t : List ℕ
  t = front n m

  found : (p : ℕ) → p < n → 0 < stamp n t p → (i : ℕ) × (i < count t) × (order t i ≡ p)
  found p h l = go (seek t p (count t))
    where
      go : ((i : ℕ) × (i < count t) × (order t i ≡ p)) ⊎ ((i : ℕ) → i < count t → order t i ≡ p → ⊥) → (i : ℕ) × (i < count t) × (order t i ≡ p)
      go (inl x) = x
      go (inr f) = absurd (∥∥₁_elim T (Prim.hlevel props) (λ K. let x = K.table.found p h l in f x.0 x.1 x.2))

  pub packed : Packed n m
  packed =
      record {
        size = ∥∥₁_elim T (Prim.hlevel props) (λ K. K.size);
        table =
            record {
              cap = ∥∥₁_elim T (Prim.hlevel props) (λ K. K.table.cap);
              size = ∥∥₁_elim T (Prim.hlevel props) (λ K. K.table.size);
              few = ∥∥₁_elim T (Prim.hlevel props) (λ K. K.table.few);
              fresh = ∥∥₁_elim T (Prim.hlevel props) (λ K. K.table.fresh);
              inside = ∥∥₁_elim T (Prim.hlevel props) (λ K. K.table.inside);
              used = ∥∥₁_elim T (Prim.hlevel props) (λ K. K.table.used);
              rising = ∥∥₁_elim T (Prim.hlevel props) (λ K. K.table.rising);
              below = ∥∥₁_elim T (Prim.hlevel props) (λ K. K.table.below);
              found = found;
              rest = ∥∥₁_elim T (Prim.hlevel props) (λ K. K.table.rest);
            };
        marks = ∥∥₁_elim T (Prim.hlevel props) (λ K. K.marks);
        spare = ∥∥₁_elim T (Prim.hlevel props) (λ K. K.spare);
      }

-- ---- the store by places

rises_prop : (num : ℕ → ℕ) (l : List ℕ) → IsProp (Rises num l)
rises_prop num [] = Unit-prop
rises_prop num (p ∷ l) = ×_prop (Prim.hlevel props) (rises_prop num l)

same_climb : {u : Thing → Option Thing} {x y : Thing} (p : u x ≡ some y) (c : Ends u y) → ((d : Ends u y) → c ≡ d) → (z : Thing) → y ≡ z → (q : u x ≡ some z) (d : Ends u z) → ◌≡◌ {A = Ends u x} (Ends.climb p c) (Ends.climb q d)
same_climb {u} {x} {y} p c same z r =
    subst (λ (z : Thing). (q : u x ≡ some z) (d : Ends u z) → ◌≡◌ {A = Ends u x} (Ends.climb p c) (Ends.climb q d)) r
    (λ q d. ap₂ (λ (a : u x ≡ some y) (b : Ends u y). Ends.climb a b) (hedberg (discrete Thing-dec) (u x) (some y) p q) (same d))

ends_prop : (u : Thing → Option Thing) (x : Thing) (a b : Ends u x) → a ≡ b
ends_prop u x (Ends.top p) (Ends.top q) = ap (λ (a : u x ≡ none). Ends.top a) (hedberg (discrete Thing-dec) (u x) none p q)
ends_prop u x (Ends.top p) (Ends.climb q d) = absurd (some_none q p)
ends_prop u x (Ends.climb p c) (Ends.top q) = absurd (some_none p q)
ends_prop u x (Ends.climb {y = y} p c) (Ends.climb {y = z} q d) = same_climb p c (λ e. ends_prop u y c e) z (some_inj (sym p ∙ q)) q d

fit_prop : (r s : Role) (a b : Fit r s) → a ≡ b
fit_prop _ _ Fit.operand Fit.operand = refl
fit_prop _ _ Fit.successor Fit.successor = refl

-- the list that an owner names
chosen : (o : Option Con) → ∥ ((c : Con) × (o ≡ some c)) ∥₁ → (c : Con) × (o ≡ some c)
chosen none T = absurd (∥∥₁_elim T (Prim.hlevel props) (λ x. some_none x.1 refl))
chosen (some c) T = (c, refl)

placed_at : (k : Kind) (h : Fam → Option Con) → ∥ Placed k h ∥₁ → Placed k h
placed_at op h T = tt
placed_at blk h T = tt
placed_at reg h T = chosen (h regs) T
placed_at val h T = chosen (h vals) T
placed_at usg h T =
    let s : (c : Con) × (h slots ≡ some c) = chosen (h slots) (∥∥₁_map T (λ H. (H.slot, H.in_slot))) in
    let d : (c : Con) × (h use_sets ≡ some c) = chosen (h use_sets) (∥∥₁_map T (λ H. (H.def, H.in_def))) in
    record {
      slot = s.0;
      def = d.0;
      in_slot = s.1;
      in_def = d.1;
      fit = ∥∥₁_elim T (fit_prop s.0.0 d.0.0) (λ H. rw (some_inj (sym s.1 ∙ H.in_slot), some_inj (sym d.1 ∙ H.in_def)) H.fit);
    }

module _ (P : State) (T : ∥ Sound P ∥₁) where
  sound : Sound P
  sound =
      record {
        linked =
            record {
              tabs = λ k. record { rises = ∥∥₁_elim T (rises_prop (P.tab k).num (P.tab k).order) (λ S. (S.linked.tabs k).rises); below = ∥∥₁_elim T (Prim.hlevel props) (λ S. (S.linked.tabs k).below); fits = ∥∥₁_elim T (Prim.hlevel props) (λ S. (S.linked.tabs k).fits) };
              held = ∥∥₁_elim T (Prim.hlevel props) (λ S. S.linked.held);
              link =
                  λ x f c e.
                  record {
                    family = ∥∥₁_elim T (hedberg Fam-dec _ _) (λ S. (S.linked.link x f c e).family);
                    node = ∥∥₁_elim T (hedberg Kind-dec _ _) (λ S. (S.linked.link x f c e).node);
                    holder = ∥∥₁_elim T (hedberg Kind-dec _ _) (λ S. (S.linked.link x f c e).holder);
                    live = ∥∥₁_elim T (Prim.hlevel props) (λ S. (S.linked.link x f c e).live);
                    home = ∥∥₁_elim T (Prim.hlevel props) (λ S. (S.linked.link x f c e).home);
                  };
              short = ∥∥₁_elim T (Prim.hlevel props) (λ S. S.linked.short);
              flags = ∥∥₁_elim T (Prim.hlevel props) (λ S. S.linked.flags);
              ends = λ x. ∥∥₁_elim T (ends_prop (up P) x) (λ S. S.linked.ends x);
            };
        placed = λ x l. placed_at x.0 (P.own x) (∥∥₁_map T (λ S. S.placed x l));
      }

module _ {l : Layout} {m : List ℕ} (T : ∥ SoundStore l m ∥₁) where
  pub well_of : Well l m
  well_of =
      record {
        caps = ∥∥₁_elim T (Prim.hlevel props) (λ S. S.well.caps);
        fits = ∥∥₁_elim T (Prim.hlevel props) (λ S. S.well.fits);
        head = ∥∥₁_elim T (Prim.hlevel props) (λ S. S.well.head);
        tables = λ k. packed (cap_of l k) (part l m (kind_part k)) (∥∥₁_map T (λ S. S.well.tables k));
        families = λ f. linked (nc_of l f) (nn_of l f) (part l m (fam_part f)) (∥∥₁_map T (λ S. S.well.families f));
        spare = ∥∥₁_elim T (Prim.hlevel props) (λ S. S.well.spare);
      }

  pub sound_of : SoundStore l m
  sound_of = record { well = well_of; sound = sound (state_of l m) (∥∥₁_map T (λ S. S.sound)) }
