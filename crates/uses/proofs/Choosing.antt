-- The block of a use's operation, and whether it is marked. Assumes nothing.
use mathlib.Core.Path.{◌≡◌, refl, sym, ap, ◌∙◌}
use mathlib.Core.Bool.{Bool}
use mathlib.Core.List.{List}
use mathlib.Core.Option.{Option}
use Prim.Native.Nat.{ℕ}
use Rattle.std.specs.Prelude as Rust
use Rattle.std.specs.Prelude.{Some, None}
use Rattle.rules.specs.Table.{some_and, member}
use Rattle.places.specs.Store.{blk, usg, slots, Thing, State, outer, up}
use Rattle.places.specs.View.{num}
use Rattle.places.proofs.Steps.{up_live}
use Rattle.context.specs.declared.Layout.{Layout}
use Rattle.context.specs.Memory.{state_of, SoundStore}
use Rattle.context.specs.Reading.{block_by, BlockOf}
use Rattle.uses.specs.Retarget.{Marks, marked_by, Chosen}

-- does the use stand at an operation of a block with a listed number?
abbrev pub stands_in_list : State → List ℕ → Thing → Bool
stands_in_list P ps u = some_and (outer (P.own u slots)) (λ o. some_and (up P o) (λ c. member (num P c) ps))

module _ {l : Layout} {m : List ℕ} {u : ℕ} {r : Rust.Option ℕ} (B : BlockOf l u m r) where
  abbrev Q : State
  Q = state_of l m

  -- is its number listed?
  stands : (ps : List ℕ) → stands_in_list Q ps (usg, u) ≡ some_and (block_by r) (λ c. member (num Q c) ps)
  unfolding some_and
  stands ps = ap (λ (o : Option Thing). some_and o (λ o. some_and (up Q o) (λ c. member (num Q c) ps))) B.at ∙ ap (λ (o : Option Thing). some_and o (λ c. member (num Q c) ps)) B.is

-- a use is at a marked block exactly if it is at a listed one
pub chosen_listed : {l : Layout} {m ps : List ℕ} {w : List Bool} → SoundStore l m → Marks l ps m w → {u : ℕ} {r : Bool} → Chosen l u w m r → stands_in_list (state_of l m) ps (usg, u) ≡ r
unfolding some_and
chosen_listed {l} {m} {ps} {w} S M {u} C = stands C.at ps ∙ by C.block C.at ∙ sym C.is
  where
    by : (k : Rust.Option ℕ) → BlockOf l u m k → some_and (block_by k) (λ c. member (num (state_of l m) c) ps) ≡ marked_by w k
    by None B = refl
    by (Some b) B = sym (M.is b (up_live S.sound.linked B.user (blk, b) B.is))
