-- The tests of 20 and 21 over all kinds, as the code makes them. Assumes nothing.
use mathlib.Core.Path.{◌≡◌, refl, sym, ap, ap₂, ◌∙◌}
use mathlib.Core.Bool.{Bool, true, false, ◌||◌}
use mathlib.Core.List.{List}
use Prim.Native.Nat.{ℕ, ◌-◌, ◌≤◌}
use native.Mathlib.Omega.{arith}
use lib.Dec.{ltb}
use Rattle.std.proofs.lemmas.Bool.{ltb-false}
use Rattle.rules.specs.History.{Five}
use Rattle.rules.specs.Refusal.{check, lacks, numbers, live_counts}
use Rattle.places.specs.Store.{Kind, op, blk, reg, val, usg, State}
use Rattle.places.specs.Parts.{store}
use Rattle.places.proofs.RuleRefusals.{lives_is, caps_is, born_is}
use Rattle.context.specs.declared.Layout.{Layout}
use Rattle.context.specs.Layout.{cap_of}
use Rattle.context.specs.Memory.{state_of, parts_of, SoundStore}
use Rattle.context.specs.Performed.{abs}
use Rattle.creation.specs.declared.Five as counts
use Rattle.creation.specs.Room.{wants, over, spare, left, RoomIs}

neither : (a b : Bool) → (a || b) ≡ false → (a ≡ false) × (b ≡ false)
neither false b e = (refl, e)
neither true b e = let z : ◌≡◌ {A = ℕ} 0 1 = cc in absurd (omega arith)

-- five zeros
abbrev pub Zeros : counts.Five → Type 0
Zeros z = (z.operations ≡ 0) × ((z.blocks ≡ 0) × ((z.regions ≡ 0) × ((z.values ≡ 0) × (z.uses ≡ 0))))

-- ---- the five of a store

-- x holds the five numbers that f gives
pub record Holds (x : Five) (f : Kind → ℕ) : Type 0 where
  pub operations : x.operations ≡ f op
  pub blocks : x.blocks ≡ f blk
  pub regions : x.regions ≡ f reg
  pub values : x.values ≡ f val
  pub uses : x.uses ≡ f usg

module _ {x : Five} {f : Kind → ℕ} (H : Holds x f) (w : Five) where
  over_is : over w x ≡ (ltb (f op) w.operations || ltb (f blk) w.blocks || ltb (f reg) w.regions || ltb (f val) w.values || ltb (f usg) w.uses)
  over_is = λ j. ltb (H.operations j) w.operations || ltb (H.blocks j) w.blocks || ltb (H.regions j) w.regions || ltb (H.values j) w.values || ltb (H.uses j) w.uses

  -- none is over: there is enough of each kind
  enough : over w x ≡ false → (k : Kind) → wants k w ≤ f k
  enough e k =
      let d : ((ltb x.operations w.operations || ltb x.blocks w.blocks || ltb x.regions w.regions || ltb x.values w.values) ≡ false) × (ltb x.uses w.uses ≡ false) = neither _ _ e in
      let c : ((ltb x.operations w.operations || ltb x.blocks w.blocks || ltb x.regions w.regions) ≡ false) × (ltb x.values w.values ≡ false) = neither _ _ d.0 in
      let b : ((ltb x.operations w.operations || ltb x.blocks w.blocks) ≡ false) × (ltb x.regions w.regions ≡ false) = neither _ _ c.0 in
      let a : (ltb x.operations w.operations ≡ false) × (ltb x.blocks w.blocks ≡ false) = neither _ _ b.0 in
      elim k as (λ j. wants j w ≤ f j) [
        | op ↦ omega (arith, ltb-false x.operations w.operations a.0, H.operations)
        | blk ↦ omega (arith, ltb-false x.blocks w.blocks a.1, H.blocks)
        | reg ↦ omega (arith, ltb-false x.regions w.regions b.1, H.regions)
        | val ↦ omega (arith, ltb-false x.values w.values c.1, H.values)
        | usg ↦ omega (arith, ltb-false x.uses w.uses d.1, H.uses)
      ]

-- ---- what the rules test

module _ {l : Layout} {m : List ℕ} (S : SoundStore l m) (w : Five) where
  abbrev P : State
  P = state_of l m

  cap_is : (k : Kind) → (P.tab k).cap ≡ cap_of l k
  unfolding store parts_of
  cap_is k = refl

  places_over : {x : Five} → Holds x (spare l m) → over w x ≡ lacks (abs l m).capacities (live_counts (abs l m)) w
  unfolding abs lacks
  places_over H =
      over_is H w
      ∙ sym (λ j.
      ltb ((caps_is S.sound op ∙ cap_is op) j - lives_is S.sound op j) w.operations
      || ltb ((caps_is S.sound blk ∙ cap_is blk) j - lives_is S.sound blk j) w.blocks
      || ltb ((caps_is S.sound reg ∙ cap_is reg) j - lives_is S.sound reg j) w.regions
      || ltb ((caps_is S.sound val ∙ cap_is val) j - lives_is S.sound val j) w.values
      || ltb ((caps_is S.sound usg ∙ cap_is usg) j - lives_is S.sound usg j) w.uses)

  numbers_over : {x : Five} → Holds x (left l m) → over w x ≡ lacks numbers (abs l m).history.born w
  unfolding abs lacks numbers
  numbers_over H =
      over_is H w
      ∙ sym (λ j.
      ltb (4294967295 - born_is S.sound op j) w.operations
      || ltb (4294967295 - born_is S.sound blk j) w.blocks
      || ltb (4294967295 - born_is S.sound reg j) w.regions
      || ltb (4294967295 - born_is S.sound val j) w.values
      || ltb (4294967295 - born_is S.sound usg j) w.uses)

  -- ---- 20, 21 or 0

  module _ {x : Five} (X : Holds x (spare l m)) where
    abbrev rest : ℕ
    rest = check (lacks numbers (abs l m).history.born w) 21 0

    pub is_20 : over w x ≡ true → RoomIs l w m 20
    unfolding check
    is_20 e = record { is = sym (ap (λ (t : Bool). check t 20 rest) (sym (places_over X) ∙ e)); places = λ z. absurd (omega (arith, z)); numbers = λ z. absurd (omega (arith, z)) }

    module _ (no : over w x ≡ false) {y : Five} (Y : Holds y (left l m)) where
      both : check (lacks (abs l m).capacities (live_counts (abs l m)) w) 20 rest ≡ check (over w y) 21 0
      unfolding check
      both = ap₂ (λ (s t : Bool). check s 20 (check t 21 0)) (sym (places_over X) ∙ no) (sym (numbers_over Y))

      pub is_21 : over w y ≡ true → RoomIs l w m 21
      unfolding check
      is_21 e = record { is = sym (both ∙ ap (λ (t : Bool). check t 21 0) e); places = λ z. absurd (omega (arith, z)); numbers = λ z. absurd (omega (arith, z)) }

      pub is_0 : over w y ≡ false → RoomIs l w m 0
      unfolding check
      is_0 e = record { is = sym (both ∙ ap (λ (t : Bool). check t 21 0) e); places = λ z. enough X w no; numbers = λ z. enough Y w e }
