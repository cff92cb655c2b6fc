-- Verdicts by places. Assumes nothing.
use Rattle.std.specs.Prelude.{Bool, true, false, not, ◌&&◌, ◌||◌, List, [], ◌∷◌, ℕ, zero, suc, ◌%◌, eqb, leb}
use Rattle.std.proofs.Math.Option.{Option, none, some}
use Rattle.places.specs.Store.{successors, block_uses, regions, ops, blocks, slots, use_sets, Thing, Thing-dec, Con, Con-dec, State, outer, up}
use Rattle.places.specs.View.{num}
use Rattle.rules.specs.Table.{any, some_and, is_some}
use Rattle.edit.specs.Answer.{Reply, clean, refuse, found}
use Rattle.rules.specs.Verdict.{is_clean}

abbrev pub as_bool {ℓ} : {A : Type ℓ} → Dec A → Bool
as_bool (yes e) = true
as_bool (no n) = false

abbrev pub place_first_met : {A : Type 0} → (A → Reply) → List A → Reply
place_first_met f [] = clean
place_first_met f (x ∷ xs) = elim (is_clean (f x)) [ true ↦ place_first_met f xs | false ↦ f x ]

abbrev pub last_thing : List Thing → Option Thing
last_thing [] = none
last_thing (x ∷ []) = some x
last_thing (x ∷ y ∷ l) = last_thing (y ∷ l)

abbrev pub follows : Thing → List Thing → Bool
follows x [] = false
follows x (y ∷ []) = false
follows x (y ∷ z ∷ l) = as_bool (Thing-dec y x) || follows x (z ∷ l)

abbrev pub is_held_by : Option Con → Con → Bool
is_held_by none c = false
is_held_by (some d) c = as_bool (Con-dec d c)

module _ (P : State) where
  unfoldable pub terminates : Thing → Bool
  terminates o = eqb (P.tag o % 2) 1

  unfoldable pub lackable : Thing → Bool
  lackable o = leb 2 (P.tag o)

  unfoldable pub place_ends_well : Thing → Bool
  place_ends_well b = some_and (last_thing (P.list b ops)) terminates

  unfoldable pub place_names_block : Thing → Thing → Bool
  place_names_block b o = any (λ u. is_held_by (P.own u use_sets) (block_uses, b)) (P.list o successors)

  unfoldable pub place_leads_to : Thing → Thing → Bool
  place_leads_to b p = some_and (last_thing (P.list p ops)) (λ o. terminates o && place_names_block b o)

  unfoldable pub place_stray_user : Thing → Bool
  place_stray_user b = any (λ u. not (some_and (outer (P.own u slots)) (λ o. is_some (up P o)))) (P.list b block_uses)

  unfoldable pub place_lost_pred : Thing → Bool
  place_lost_pred b = any (λ u. not (some_and (outer (P.own u slots)) (λ o. some_and (up P o) (place_leads_to b)))) (P.list b block_uses)

  module _ (v : Thing → Reply) where
    unfoldable pub place_in_block : Thing → Option Thing → Reply
    place_in_block b none = found 1 (num P b)
    place_in_block b (some r) =
        elim (some_and (up P r) lackable || place_ends_well b) [
          | false ↦ found 2 (num P b)
          | true ↦ elim (place_stray_user b) [
            | true ↦ refuse 18
            | false ↦ elim (place_lost_pred b) [
              | true ↦ found 4 (num P b)
              | false ↦ place_first_met v (P.list b ops)
            ]
          ]
        ]

    unfoldable pub place_block_verdict : Thing → Reply
    place_block_verdict b = place_in_block b (up P b)

    unfoldable pub place_region_verdict : Thing → Reply
    place_region_verdict r = place_first_met place_block_verdict (P.list r blocks)

  unfoldable pub place_too_early : Thing → Reply
  place_too_early o =
      elim (terminates o && some_and (up P o) (λ b. follows o (P.list b ops))) [
        | true ↦ found 3 (num P o)
        | false ↦ clean
      ]

  unfoldable pub op_verdict : ℕ → Thing → Reply
  op_verdict zero o = clean
  op_verdict (suc d) o = elim (is_clean (place_first_met (place_region_verdict (op_verdict d)) (P.list o regions))) [ true ↦ place_too_early o | false ↦ place_first_met (place_region_verdict (op_verdict d)) (P.list o regions) ]
