-- What the tests of an edit of a list come to: the refusals of the code are those of the rules. Assumes nothing.
use mathlib.Core.Path.{◌≡◌, refl, sym, ap, ◌∙◌, subst}
use mathlib.Core.Logic.{⊎_elim}
use mathlib.Core.Bool.{Bool, true, false}
use mathlib.Core.List.{List, [], ◌∷◌}
use mathlib.Core.Option.{Option, none, some}
use native.Mathlib.Omega.{arith}
use Prim.Native.Nat.{ℕ, suc, ◌-◌, ◌<◌}
use lib.ListN.{length}
use Rattle.std.specs.Prelude as Rust
use Rattle.std.specs.Prelude.{Some, is_some}
use Rattle.seqs.specs.Seqs.{Says, count}
use Rattle.seqs.proofs.Base.{tick_no}
use Rattle.edit.specs.Kinds.{number_of}
use Rattle.edit.specs.declared.Refusal.{Refusal}
use Rattle.edit.specs.declared.Nested.{Nested}
use Rattle.edit.specs.declared.Nested.TheVariants as nested
use Rattle.edit.specs.Record.{Member, operation, block, Edit, link_after, link_before, link_front, link_back}
use Rattle.edit.proofs.Numbers.{number_of-positive}
use Rattle.rules.specs.Refusal.{Name, member_named, container_named, named, missing, first_missing, from_state, refusal_of}
use Rattle.places.specs.Alias.{RState}
use Rattle.places.specs.Store.{Kind, op, blk, reg, usg, Fam, fam, node_of, holder_of, Thing, Thing-dec, Con, State, Live, Sound, up}
use Rattle.places.specs.View.{num}
use Rattle.places.specs.Hist.{rule_state, meaning}
use Rattle.places.specs.Parts.{rows_of}
use Rattle.places.specs.Walk.{gather, kids, walk_by, population, walk}
use Rattle.places.specs.Members.{role_of, member_at, container_at, place_list_at, home_of, held_code, inside_code, mark_code, enter_code, beside_code}
use Rattle.places.specs.Roles.{Unnamed, missing_code, member_kind, container_kind}
use Rattle.places.proofs.Cut.{pick_0, pick_1, zero_or}
use Rattle.places.proofs.Nest.{kind_code}
use Rattle.places.proofs.DropTurn.{kids_op, kids_blk, kids_reg}
use Rattle.places.proofs.RuleRefusals.{refusal_name, refusal_tests, missing_first, missing_next, member_there, member_missing, container_there, container_missing}
use Rattle.places.proofs.RuleLinkTests.{walk_clear, container_live, front_code, back_code, after_code, before_code}
use Rattle.context.specs.declared.Layout.{Layout}
use Rattle.context.specs.Nest.{nested_kind, inner_fam}
use Rattle.context.specs.Memory.{state_of, SoundStore, HomeIs, first_place, FirstIs}
use Rattle.context.specs.Performed.{abs}
use Rattle.links.specs.declared.Step.{Step}
use Rattle.links.specs.declared.Step.TheVariants.{Ended, Met, At}
use Rattle.links.specs.Tests.{Refuses, Entering, Beside}
use Rattle.links.specs.Climbing.{climbed, thrice, StepIs, container_steps}
use Rattle.links.proofs.Sorts.{home_free, home_at, home_held}
use Rattle.links.proofs.Climb.{step_ended, step_met, step_on, block_walk, region_walk}

-- ---- the codes 15, 16, 17

module _ (P : State) (w : Member) (x : ℕ) where
  pub inside_yes : (c : ℕ) → 0 < count Thing-dec (container_at w c) (walk P (member_at w x)) → inside_code P w x c ≡ 17
  unfolding inside_code
  inside_yes c h = pick_1 (count Thing-dec (container_at w c) (walk P (member_at w x))) 0 17 h

  pub inside_no : (c : ℕ) → (0 < count Thing-dec (container_at w c) (walk P (member_at w x)) → ⊥) → inside_code P w x c ≡ 0
  unfolding inside_code
  inside_no c h = pick_0 (count Thing-dec (container_at w c) (walk P (member_at w x))) 0 17 (omega (arith, h))

  outside : (c : ℕ) → inside_code P w x c ≡ 0 → count Thing-dec (container_at w c) (walk P (member_at w x)) ≡ 0
  outside c h = ⊎_elim (λ z. z) (λ z. absurd (omega (arith, h, inside_yes c z))) (zero_or (count Thing-dec (container_at w c) (walk P (member_at w x))))

  -- nothing refused: in no list, and the container is not inside
  enter_none : (c : ℕ) → enter_code P w x c ≡ 0 → (home_of P w x ≡ none) × (count Thing-dec (container_at w c) (walk P (member_at w x)) ≡ 0)
  enter_none c h = go (home_of P w x) refl h
    where
      go : (o : Option Con) → home_of P w x ≡ o → held_code o 15 (inside_code P w x c) ≡ 0 → (home_of P w x ≡ none) × (count Thing-dec (container_at w c) (walk P (member_at w x)) ≡ 0)
      go none e h = (e, outside c h)
      go (some d) e h = absurd (omega arith)

  beside_none : (k : ℕ) → beside_code P w x k ≡ 0 → (c : Con) × (home_of P w k ≡ some c) × ((home_of P w x ≡ none) × (count Thing-dec (container_at w c.1.1) (walk P (member_at w x)) ≡ 0))
  beside_none k h = go (home_of P w x) refl (home_of P w k) refl h
    where
      go : (o : Option Con) → home_of P w x ≡ o → (q : Option Con) → home_of P w k ≡ q → held_code o 15 (mark_code P w x q) ≡ 0 → (c : Con) × (home_of P w k ≡ some c) × ((home_of P w x ≡ none) × (count Thing-dec (container_at w c.1.1) (walk P (member_at w x)) ≡ 0))
      go none e (some d) f h = (d, f, (e, outside d.1.1 h))
      go none e none f h = absurd (omega arith)
      go (some d) e none f h = absurd (omega arith)
      go (some d) e (some g) f h = absurd (omega arith)

-- ---- what the code tests

module _ {l : Layout} {m : List ℕ} (w : Member) (n : ℕ) (f : Fam) (e : f ≡ fam (role_of w)) (r : Rust.Option ℕ) (H : HomeIs l f n m r) where
  abbrev P : State
  P = state_of l m

  pub held_15 : (a b : ℕ) → is_some r ≡ true → held_code (home_of P w n) a b ≡ a
  held_15 a b z = ap (λ (o : Option Con). held_code o a b) (home_held w l f e n r H z).1

  pub held_none : (a b : ℕ) → is_some r ≡ false → held_code (home_of P w n) a b ≡ b
  held_none a b z = ap (λ (o : Option Con). held_code o a b) (home_free w l f e n r H z)

  module _ (c : ℕ) (z : r ≡ Some c) where
    pub mark_in : (x : ℕ) → mark_code P w x (home_of P w n) ≡ inside_code P w x c
    mark_in x = ap (mark_code P w x) (home_at w l f e n r H c z)

    pub mark_live : Sound P → Live P (container_at w c)
    mark_live S = (container_live S w n (place_list_at w c) (home_at w l f e n r H c z)).1

-- ---- names

module _ (s : RState) (e : Edit) where
  -- a name is missing: the refusal is its code
  gone : (c : ℕ) → 0 < c → (c ≡ suc (c - 1) → first_missing s.history (named e) ≡ suc (c - 1)) → refusal_of s e ≡ c
  gone c h p = let k : c ≡ suc (c - 1) = omega (arith, h) in refusal_name s e (c - 1) (p k) ∙ sym k

  module _ (a b : Name) (n : named e ≡ a ∷ b ∷ []) where
    pub first_gone : (c : ℕ) → 0 < c → missing s.history a ≡ c → refusal_of s e ≡ c
    first_gone c h p = gone c h (λ k. ap (first_missing s.history) n ∙ missing_first s.history a (b ∷ []) (c - 1) (p ∙ k))

    pub second_gone : (c : ℕ) → 0 < c → missing s.history a ≡ 0 → missing s.history b ≡ c → refusal_of s e ≡ c
    second_gone c h p q = gone c h (λ k. ap (first_missing s.history) n ∙ missing_next s.history a (b ∷ []) p ∙ missing_first s.history b [] (c - 1) (q ∙ k))

    pub both_there : missing s.history a ≡ 0 → missing s.history b ≡ 0 → refusal_of s e ≡ from_state s e
    unfolding first_missing
    both_there p q = refusal_tests s e (ap (first_missing s.history) n ∙ missing_next s.history a (b ∷ []) p ∙ missing_next s.history b [] q)

  module _ (a : Name) (n : named e ≡ a ∷ []) where
    pub only_gone : (c : ℕ) → 0 < c → missing s.history a ≡ c → refusal_of s e ≡ c
    only_gone c h p = gone c h (λ k. ap (first_missing s.history) n ∙ missing_first s.history a [] (c - 1) (p ∙ k))

    pub only_there : missing s.history a ≡ 0 → refusal_of s e ≡ from_state s e
    unfolding first_missing
    only_there p = refusal_tests s e (ap (first_missing s.history) n ∙ missing_next s.history a [] p)

-- what a look-up that failed says
abbrev pub Lost : State → Kind → ℕ → Refusal → Type 0
Lost P k x e = Unnamed P k x × (number_of e ≡ missing_code k)

module _ {P : State} (S : Sound P) where
  abbrev n₀ : ℕ
  n₀ = (P.tab usg).next - length (P.tab usg).order

  pub is_there : (w : Member) (n x : ℕ) → Live P (member_at w n) → num P (member_at w n) ≡ x → missing (meaning P).history (member_named w x) ≡ 0
  unfolding meaning rule_state
  is_there operation n x l e = member_there S n₀ operation n x l e
  is_there block n x l e = member_there S n₀ block n x l e

  pub holder_there : (w : Member) (n x : ℕ) → Live P (container_at w n) → num P (container_at w n) ≡ x → missing (meaning P).history (container_named w x) ≡ 0
  unfolding meaning rule_state
  holder_there operation n x l e = container_there S n₀ operation n x l e
  holder_there block n x l e = container_there S n₀ block n x l e

  module _ (w : Member) (x : ℕ) (k : Kind) (r : Refusal) (u : Lost P k x r) where
    pub not_there : k ≡ member_kind w → missing (meaning P).history (member_named w x) ≡ number_of r
    unfolding meaning rule_state
    not_there e = member_missing S n₀ w x (subst (λ (j : Kind). Unnamed P j x) e u.0) ∙ sym (u.1 ∙ ap missing_code e)

    pub no_holder : k ≡ container_kind w → missing (meaning P).history (container_named w x) ≡ number_of r
    unfolding meaning rule_state
    no_holder e = container_missing S n₀ w x (subst (λ (j : Kind). Unnamed P j x) e u.0) ∙ sym (u.1 ∙ ap missing_code e)

-- ---- the tests of 23, 24, 28, 29, and of 21, 22, 26, 27

module _ {l : Layout} {m : List ℕ} (S : SoundStore l m) (w : Member) (x y : ℕ) where
  abbrev Q : State
  Q = state_of l m

  pub no_member_front : (k : Kind) (r : Refusal) → Lost Q k x r → k ≡ member_kind w → Refuses l (link_front w x y) (link_back w x y) m (number_of r)
  unfolding abs named
  no_member_front k r u e = let p : missing (meaning Q).history (member_named w x) ≡ number_of r = not_there S.sound w x k r u e in
      record {
        first = first_gone (meaning Q) (link_front w x y) (member_named w x) (container_named w y) refl (number_of r) (number_of-positive r) p;
        second = first_gone (meaning Q) (link_back w x y) (member_named w x) (container_named w y) refl (number_of r) (number_of-positive r) p;
      }

  pub no_member_beside : (k : Kind) (r : Refusal) → Lost Q k x r → k ≡ member_kind w → Refuses l (link_after w x y) (link_before w x y) m (number_of r)
  unfolding abs named
  no_member_beside k r u e = let p : missing (meaning Q).history (member_named w x) ≡ number_of r = not_there S.sound w x k r u e in
      record {
        first = first_gone (meaning Q) (link_after w x y) (member_named w x) (member_named w y) refl (number_of r) (number_of-positive r) p;
        second = first_gone (meaning Q) (link_before w x y) (member_named w x) (member_named w y) refl (number_of r) (number_of-positive r) p;
      }

  module _ (n : ℕ) (at : Live Q (member_at w n) × (num Q (member_at w n) ≡ x)) where
    abbrev there₁ : missing (meaning Q).history (member_named w x) ≡ 0
    there₁ = is_there S.sound w n x at.0 at.1

    pub no_container_front : (k : Kind) (r : Refusal) → Lost Q k y r → k ≡ container_kind w → Refuses l (link_front w x y) (link_back w x y) m (number_of r)
    unfolding abs named
    no_container_front k r u e = let p : missing (meaning Q).history (container_named w y) ≡ number_of r = no_holder S.sound w y k r u e in
        record {
          first = second_gone (meaning Q) (link_front w x y) (member_named w x) (container_named w y) refl (number_of r) (number_of-positive r) there₁ p;
          second = second_gone (meaning Q) (link_back w x y) (member_named w x) (container_named w y) refl (number_of r) (number_of-positive r) there₁ p;
        }

    pub no_mark_beside : (k : Kind) (r : Refusal) → Lost Q k y r → k ≡ member_kind w → Refuses l (link_after w x y) (link_before w x y) m (number_of r)
    unfolding abs named
    no_mark_beside k r u e = let p : missing (meaning Q).history (member_named w y) ≡ number_of r = not_there S.sound w y k r u e in
        record {
          first = second_gone (meaning Q) (link_after w x y) (member_named w x) (member_named w y) refl (number_of r) (number_of-positive r) there₁ p;
          second = second_gone (meaning Q) (link_before w x y) (member_named w x) (member_named w y) refl (number_of r) (number_of-positive r) there₁ p;
        }

    module _ (c : ℕ) (at' : Live Q (container_at w c) × (num Q (container_at w c) ≡ y)) (t : ℕ) (t-is : t ≡ enter_code Q w n c) where
      pub tests_front : Refuses l (link_front w x y) (link_back w x y) m t
      unfolding abs named
      tests_front =
          record {
            first = both_there (meaning Q) (link_front w x y) (member_named w x) (container_named w y) refl there₁ (holder_there S.sound w c y at'.0 at'.1) ∙ front_code S.sound w n x at.0 at.1 c y at'.0 at'.1 ∙ sym t-is;
            second = both_there (meaning Q) (link_back w x y) (member_named w x) (container_named w y) refl there₁ (holder_there S.sound w c y at'.0 at'.1) ∙ back_code S.sound w n x at.0 at.1 c y at'.0 at'.1 ∙ sym t-is;
          }

      pub entering : t ≡ 0 → Entering l w x y n c m
      entering z =
          let none_ : (home_of Q w n ≡ none) × (count Thing-dec (container_at w c) (walk Q (member_at w n)) ≡ 0) = enter_none Q w n c (sym t-is ∙ z) in
          record {
            may = record { live = at.0; named = at.1; home = at'.0; free = none_.0; clear = walk_clear S.sound.linked (member_at w n) (container_at w c) none_.1 };
            container = at'.1;
            none = record { first = tests_front.first ∙ z; second = tests_front.second ∙ z };
          }

    module _ (k : ℕ) (at' : Live Q (member_at w k) × (num Q (member_at w k) ≡ y)) (t : ℕ) (t-is : t ≡ beside_code Q w n k) where
      pub tests_beside : Refuses l (link_after w x y) (link_before w x y) m t
      unfolding abs named
      tests_beside =
          record {
            first = both_there (meaning Q) (link_after w x y) (member_named w x) (member_named w y) refl there₁ (is_there S.sound w k y at'.0 at'.1) ∙ after_code S.sound w n x at.0 at.1 k y at'.0 at'.1 ∙ sym t-is;
            second = both_there (meaning Q) (link_before w x y) (member_named w x) (member_named w y) refl there₁ (is_there S.sound w k y at'.0 at'.1) ∙ before_code S.sound w n x at.0 at.1 k y at'.0 at'.1 ∙ sym t-is;
          }

      pub standing : t ≡ 0 → Beside l w x y n k m
      standing z =
          let b : (c : Con) × (home_of Q w k ≡ some c) × ((home_of Q w n ≡ none) × (count Thing-dec (container_at w c.1.1) (walk Q (member_at w n)) ≡ 0)) = beside_none Q w n k (sym t-is ∙ z) in
          record {
            container = b.0.1.1;
            may = record { live = at.0; named = at.1; home = (container_live S.sound w k b.0 b.1).1; free = b.2.0; clear = walk_clear S.sound.linked (member_at w n) (container_at w b.0.1.1) b.2.1 };
            mark = at'.1;
            there = b.1 ∙ ap some (container_live S.sound w k b.0 b.1).0;
            none = record { first = tests_beside.first ∙ z; second = tests_beside.second ∙ z };
          }

-- ---- the container inside the member

module _ {P : State} (S : Sound P) (w : Member) (n c : ℕ) (X : Thing) (e : X ≡ member_at w n) (lc : Live P (container_at w c)) where
  climbs : (r : Bool) → Says r (0 < climbed (up P) (container_steps w (thrice (length (P.tab op).order))) X (container_at w c)) → Says r (0 < count Thing-dec (container_at w c) (walk P (member_at w n)))
  climbs r says = go w lc (subst (λ (x : Thing). Says r (0 < climbed (up P) (container_steps w (thrice (length (P.tab op).order))) x (container_at w c))) e says)
    where
      go : (v : Member) → Live P (container_at v c) → Says r (0 < climbed (up P) (container_steps v (thrice (length (P.tab op).order))) (member_at v n) (container_at v c)) → Says r (0 < count Thing-dec (container_at v c) (walk P (member_at v n)))
      go operation l s = block_walk S.linked (op, n) (blk, c) l (length (P.tab op).order) refl r refl s
      go block l s = region_walk S.linked (blk, n) (reg, c) l (length (P.tab op).order) refl r refl s

  module _ (s : Step) (T : StepIs P X (container_at w c) (container_steps w) s) where
    pub not_inside : s ≡ Ended → 0 < count Thing-dec (container_at w c) (walk P (member_at w n)) → ⊥
    not_inside z = climbs false (step_ended S X (container_at w c) (container_steps w) s T (thrice (length (P.tab op).order)) z)

    pub surely_inside : s ≡ Met → 0 < count Thing-dec (container_at w c) (walk P (member_at w n))
    surely_inside z = climbs true (step_met S X (container_at w c) (container_steps w) s T (thrice (length (P.tab op).order)) z)

    pub inside_by : (o d : ℕ) (r : Bool) → d ≡ length (P.tab op).order → s ≡ At o → Says r (0 < climbed (up P) (thrice d) X (op, o)) → Says r (0 < count Thing-dec (container_at w c) (walk P (member_at w n)))
    inside_by o d r all z says = climbs r (step_on S X (container_at w c) (container_steps w) s T (thrice (length (P.tab op).order)) o r z (subst (λ (k : ℕ). Says r (0 < climbed (up P) (thrice k) X (op, o))) all says))

-- a member that holds nothing: nothing but itself lies in it
alone : (P : State) (x y : Thing) → kids P x ≡ [] → (kind_code y.0 ≡ kind_code x.0 → ⊥) → 0 < count Thing-dec y (walk P x) → ⊥
unfolding walk
alone P x y e d h = absurd (omega (arith, h, ap (λ (c : List Thing). count Thing-dec y (x ∷ gather (walk_by (kids P) (population P)) c)) e, tick_no (Thing-dec y x) (λ q. d (ap (λ (t : Thing). kind_code t.0) q))))

apart : (w : Member) → kind_code (holder_of (role_of w)) ≡ kind_code (node_of (role_of w)) → ⊥
unfolding kind_code
apart operation q = omega (arith, q)
apart block q = omega (arith, q)

first_none : (c : List Thing) (r : Rust.Option ℕ) → r ≡ first_place c → is_some r ≡ false → c ≡ []
first_none [] r e z = refl
first_none (x ∷ c) r e z = let q : true ≡ false = sym (ap (λ (o : Rust.Option ℕ). is_some o) e) ∙ z in let y : ◌≡◌ {A = ℕ} 0 1 = cc in absurd (omega arith)

module _ {l : Layout} {m : List ℕ} (S : SoundStore l m) where
  no_kids : (k : Nested) (p : ℕ) → (r : Rust.Option ℕ) → FirstIs l (inner_fam k) p m r → is_some r ≡ false → kids (state_of l m) (nested_kind k, p) ≡ []
  unfolding rows_of
  no_kids nested.Operation p r F z = kids_op S.sound.linked p ∙ first_none _ r F.is z
  no_kids nested.Block p r F z = kids_blk S.sound.linked p ∙ first_none _ r F.is z
  no_kids nested.Region p r F z = kids_reg S.sound.linked p ∙ first_none _ r F.is z

  pub empty_member : (w : Member) (n c : ℕ) (k : Nested) (p : ℕ) → (nested_kind k, p) ≡ member_at w n → (f : Fam) → f ≡ inner_fam k → (r : Rust.Option ℕ) → FirstIs l f p m r → is_some r ≡ false → 0 < count Thing-dec (container_at w c) (walk (state_of l m) (member_at w n)) → ⊥
  empty_member w n c k p e f g r F z h = alone (state_of l m) (member_at w n) (container_at w c) (subst (λ (x : Thing). kids (state_of l m) x ≡ []) e (no_kids k p r (subst (λ (j : Fam). FirstIs l j p m r) g F) z)) (apart w) h
