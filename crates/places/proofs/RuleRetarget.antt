-- Kind 35: the uses of a block that stand at operations of listed blocks move, one after the other. Assumes nothing.
use mathlib.Core.Path.{◌≡◌, refl, sym, ap, ap₂, ◌∙◌, subst, fun_ext}
use mathlib.Core.Bool.{Bool, true, false, ◌||◌}
use mathlib.Core.List.{List}
use mathlib.Core.Option.{Option, none, some}
use Prim.Native.Nat.{ℕ}
use lib.Dec.{eqb}
use borrow.Author.Tests.{eqb-true}
use Rattle.places.specs.Store.{op, blk, usg, block_uses, slots, use_sets, Thing, Con, State, Live, UseHeld, Link, Sound, outer, up}
use Rattle.places.specs.View.{num, view}
use Rattle.places.specs.Edits.{place_move_use}
use Rattle.places.specs.Hist.{hist, rule_state, meaning}
use Rattle.places.specs.Alias.{RState}
use Rattle.edit.specs.Record.{successor, Definition, of_block, retarget_some}
use Rattle.rules.specs.Table.{Table, some_and, member}
use Rattle.rules.specs.History.{History, births, carry_out, remember, defined, user, block_at, with_uses, place_some}
use Rattle.rules.specs.Orders.{order, reorder}
use Rattle.rules.specs.State.{new_flags, new_types, accept}
use Rattle.places.proofs.RuleClimb.{num_opt, block_at_num}
use Rattle.places.proofs.RuleNames.{user_is, use_holder}
use Rattle.places.proofs.RuleAccept.{ended_of}
use Rattle.places.proofs.RuleMoves.{rehold, rehold_self, rehold_uses, rehold_twice, reheld_accept}
use Rattle.places.proofs.RuleSome.{placed, placed_twice, placed_stays, one_placed}

-- the rules' test: does the use stand at an operation of a listed block?
abbrev pub chosen : History → List ℕ → ℕ → Bool
chosen h ps u = some_and (user h u) (λ o. some_and (block_at h o) (λ c. member c ps))

-- the same by places
abbrev pub stands_in : State → List ℕ → Thing → Bool
stands_in P ps u = some_and (outer (P.own u slots)) (λ o. some_and (up P o) (λ c. member (num P c) ps))

block_in : (P : State) (ps : List ℕ) (c : Option Thing) → some_and (num_opt P c) (λ k. member k ps) ≡ some_and c (λ k. member (num P k) ps)
unfolding some_and
block_in P ps none = refl
block_in P ps (some z) = refl

pub chosen_is : {P : State} (S : Sound P) (ps : List ℕ) (u : ℕ) → Live P (usg, u) → chosen (meaning P).history ps (num P (usg, u)) ≡ stands_in P ps (usg, u)
unfolding meaning rule_state some_and
chosen_is {P} S ps u lu =
    let H : UseHeld (P.own (usg, u)) = S.placed (usg, u) lu in
    let L : Link P (usg, u) slots H.slot = S.linked.link (usg, u) slots H.slot H.in_slot in
    let z : H.slot.1 ≡ (op, H.slot.1.1) = use_holder S (ended_of P) u lu H.slot H.in_slot in
    ap (λ (o : Option ℕ). some_and o (λ k. some_and (block_at (hist (ended_of P) (view P)) k) (λ c. member c ps))) (user_is S (ended_of P) u lu (num P (usg, u)) refl ∙ ap (λ (o : Option Con). num_opt P (outer o)) H.in_slot)
    ∙ ap (λ (y : Thing). some_and (block_at (hist (ended_of P) (view P)) (num P y)) (λ c. member c ps)) z
    ∙ ap (λ (o : Option ℕ). some_and o (λ c. member c ps)) (block_at_num S (ended_of P) H.slot.1.1 (subst (λ (y : Thing). Live P y) z L.home))
    ∙ block_in P ps (up P (op, H.slot.1.1))
    ∙ ap (λ (y : Thing). some_and (up P y) (λ c. member (num P c) ps)) (sym z)
    ∙ ap (λ (o : Option Con). some_and (outer o) (λ y. some_and (up P y) (λ c. member (num P c) ps))) (sym H.in_slot)

-- the test does not see which definitions uses have
chosen_kept : (h : History) (t : Table Definition) (ps : List ℕ) → chosen (with_uses h t) ps ≡ chosen h ps
unfolding user block_at with_uses
chosen_kept h t ps = refl

module _ {P : State} (S : Sound P) (ps : List ℕ) (pa : ℕ) (la : Live P (blk, pa)) (B : ℕ) where
  -- what is left to do
  abbrev pub to_move : RState
  to_move = rehold (placed (of_block (num P (blk, pa))) (of_block B) (chosen (meaning P).history ps) (meaning P).history.uses) (meaning P)

  -- none in the set is left: nothing is to be done
  pub none_left : ((u : ℕ) → Live P (usg, u) → P.own (usg, u) use_sets ≡ some (block_uses, (blk, pa)) → stands_in P ps (usg, u) ≡ false) → to_move ≡ meaning P
  unfolding defined
  none_left h =
      ap (λ (t : Table Definition). rehold t (meaning P)) (placed_stays S successor pa la (of_block B) (chosen (meaning P).history ps) (λ u lu held. chosen_is S ps u lu ∙ h u lu held))
      ∙ rehold_self (meaning P)

-- all moved: what the rules say
pub retarget_accept : (P Q : State) → Sound Q → (a b : ℕ) (ps : List ℕ) → meaning Q ≡ rehold (placed (of_block a) (of_block b) (chosen (meaning P).history ps) (meaning P).history.uses) (meaning P) → meaning Q ≡ accept (retarget_some a b ps) (meaning P)
unfolding remember births carry_out place_some reorder order new_flags new_types
retarget_accept P Q S a b ps e =
    reheld_accept P Q S (retarget_some a b ps) (record { orders = λ h k r. refl; flags = refl; types = refl }) (placed (of_block a) (of_block b) (chosen (meaning P).history ps) (meaning P).history.uses) e refl

-- one that passes the test moves: what is left to do is the whole still
module _ {P : State} (S : Sound P) (ps : List ℕ) (pa pb q j : ℕ) (la : Live P (blk, pa)) (lb : Live P (blk, pb)) (lu : Live P (usg, q)) (held : P.own (usg, q) use_sets ≡ some (block_uses, (blk, pa))) (passes : stands_in P ps (usg, q) ≡ true) where
  abbrev Q : State
  Q = place_move_use (block_uses, (blk, pa)) (block_uses, (blk, pb)) j (usg, q) P

  abbrev A : Definition
  A = of_block (num P (blk, pa))

  abbrev C : Definition
  C = of_block (num P (blk, pb))

  abbrev T : ℕ → Bool
  T = chosen (meaning P).history ps

  abbrev one : Table Definition
  one = placed A C (λ k. eqb (num P (usg, q)) k) (meaning P).history.uses

  moved : meaning Q ≡ rehold one (meaning P)
  unfolding defined
  moved = one_placed S successor pa la pb q j lb lu held

  passed : (u : ℕ) → (eqb (num P (usg, q)) u || T u) ≡ T u
  passed u = go (eqb (num P (usg, q)) u) refl
    where
      go : (x : Bool) → eqb (num P (usg, q)) u ≡ x → (x || T u) ≡ T u
      go true e = sym (ap T (sym (eqb-true (num P (usg, q)) u e)) ∙ chosen_is S ps q lu ∙ passes)
      go false e = refl

  test_kept : chosen (rehold one (meaning P)).history ps ≡ T
  unfolding rehold
  test_kept = chosen_kept (meaning P).history one ps

  pub still_left : rehold (placed A C (chosen (meaning Q).history ps) (meaning Q).history.uses) (meaning Q) ≡ rehold (placed A C T (meaning P).history.uses) (meaning P)
  still_left =
      ap (λ (s : RState). rehold (placed A C (chosen s.history ps) s.history.uses) s) moved
      ∙ rehold_twice (placed A C (chosen (rehold one (meaning P)).history ps) (rehold one (meaning P)).history.uses) one (meaning P)
      ∙ ap₂ (λ (t : ℕ → Bool) (x : Table Definition). rehold (placed A C t x) (meaning P)) test_kept (rehold_uses one (meaning P))
      ∙ ap (λ (x : Table Definition). rehold x (meaning P)) (placed_twice A C (λ k. eqb (num P (usg, q)) k) T (meaning P).history.uses ∙ ap (λ (t : ℕ → Bool). placed A C t (meaning P).history.uses) (fun_ext passed))
