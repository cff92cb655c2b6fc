-- The edits 36 to 41 whole: the state after them, and their answers and refusals, are the rules'. Assumes nothing.
use mathlib.Core.Path.{◌≡◌, refl, sym, ap, ap₂, ◌∙◌}
use mathlib.Core.List.{List, [], ◌++◌}
use native.Mathlib.Omega.{arith}
use Prim.Native.Nat.{ℕ, ◌+◌, ◌-◌, ◌<◌, ◌≤◌}
use lib.ListN.{length, get_or}
use Rattle.places.specs.Store.{op, blk, reg, val, regions, Thing, State, Live, Sound}
use Rattle.places.specs.View.{num, view}
use Rattle.places.specs.Hist.{tabled, born_of, hist, orders_of, rule_state, the_thing}
use Rattle.places.specs.Walk.{place_cut_by, among, walk, drop_list, dropped, everything, erased}
use Rattle.rules.specs.Table.{Table, keep_keys, number}
use Rattle.edit.specs.Record.{Edit, drop_uses, erase_operation, erase_block, erase_region, Member, operation, block}
use Rattle.rules.specs.History.{Five, History, zeros, plus, bear, births, carry_out, remember, drop_inside, end_inside, end_uses, with_operations, live_operation, live_value}
use Rattle.rules.specs.Orders.{order, reorder, still_live, live_member, live_container}
use Rattle.rules.specs.State.{accept, new_flags, new_types}
use Rattle.edit.specs.Answer.{Reply, found}
use Rattle.rules.specs.Step.{answer}
use Rattle.places.specs.Alias.{RState}
use Rattle.places.proofs.Climb.{ops_among}
use Rattle.places.proofs.Cut.{Closed}
use Rattle.places.proofs.Nest.{kind_code}
use Rattle.places.proofs.DropTurn.{append_nil}
use Rattle.places.proofs.Outside.{erased_is}
use Rattle.places.proofs.RuleDrop.{closed_drop, drop_rules, drop_ops_of, drop_blocks_of}
use Rattle.places.proofs.RuleErase.{erase_rules}
use Rattle.places.proofs.RuleRegion.{freed, region_rules}
use Rattle.places.proofs.Entries.{plus_zeros}
use Rattle.places.proofs.RuleTables.{ops_of_cut, blocks_of_cut, flags_cut, types_cut}

-- an edit without births
born_same : (h : History) (f : Five) → f ≡ h.born → bear f h ≡ h
unfolding bear
born_same h f e = λ i. record { operations = h.operations; blocks = h.blocks; uses = h.uses; born = e i; ended = h.ended }

-- ---- dropping

module _ {P : State} (S : Sound P) (e : ℕ) (x : Thing) (lx : Live P x) (kx : kind_code x.0 ≤ 2) where
  abbrev e' : ℕ
  e' = e + length (drop_list P x)

  abbrev D : Thing → ℕ
  D = among (drop_list P x)

  remembered : remember (drop_uses (the_thing P x)) (rule_state e P).history ≡ hist e' (view (dropped P x))
  unfolding remember carry_out births rule_state drop_inside end_uses with_operations hist
  remembered = born_same (drop_inside (the_thing P x) (hist e (view P))) (plus (born_of (view P)) zeros) (plus_zeros (born_of (view P))) ∙ sym (drop_rules S e x lx kx)

  pub drop_accept : rule_state e' (dropped P x) ≡ accept (drop_uses (the_thing P x)) (rule_state e P)
  unfolding accept reorder order new_flags new_types number rule_state orders_of dropped place_cut_by
  drop_accept = λ i. record {
    history = sym remembered i;
    orders = record { ops_of = drop_ops_of S e x lx kx i; blocks_of = drop_blocks_of S e x lx kx i };
    flags = (flags_cut S D (closed_drop S e x lx kx) e' ∙ ap₂ {C = Table ℕ} (λ (k : History) (t : Table ℕ). keep_keys (live_operation k) t) (sym remembered) (sym (append_nil (tabled (λ r. r.tag) ((view P).things op))))) i;
    types = (types_cut S D (closed_drop S e x lx kx) e' ∙ ap₂ {C = Table ℕ} (λ (k : History) (t : Table ℕ). keep_keys (live_value k) t) (sym remembered) (sym (append_nil (tabled (λ r. r.tag) ((view P).things val))))) i;
    capacities = (rule_state e P).capacities;
  }

  pub drop_answer : answer (drop_uses (the_thing P x)) (rule_state e P) (rule_state e' (dropped P x)).history ≡ found 0 (length (drop_list P x))
  unfolding answer rule_state hist
  drop_answer = let q : e + length (drop_list P x) - e ≡ length (drop_list P x) = omega arith in ap (found 0) q

-- ---- erasing

-- nothing is born
born_erased : (P : State) (x : Thing) (e f : ℕ) → (hist f (view (erased P x))).born ≡ (hist e (view P)).born
unfolding hist erased dropped place_cut_by view
born_erased P x e f = refl

-- an edit that erases x, where e uses had ended
pub record Erases (P : State) (x : Thing) (e : ℕ) (d : Edit) : Type 0 where
  pub history : remember d (hist e (view P)) ≡ hist (e + length (drop_list P x)) (view (erased P x))
  pub flags : new_flags d ≡ []
  pub types : new_types d ≡ []
  pub orders : (m : Member) (h k : History) (t : Table (List ℕ)) → order m d h k t ≡ still_live m k t
  pub reply : (s : RState) (k : History) → answer d s k ≡ found (length s.history.operations - length k.operations) (k.ended - s.history.ended)

module _ {P : State} (S : Sound P) (e : ℕ) (x : Thing) (lx : Live P x) (kx : kind_code x.0 ≤ 2) (closed : Closed (among (everything P x)) P) where
  abbrev eₑ : ℕ
  eₑ = e + length (drop_list P x)

  abbrev H : History
  H = hist eₑ (view (erased P x))

  abbrev E : Thing → ℕ
  E = among (everything P x)

  to_cut : hist eₑ (view (place_cut_by E P)) ≡ H
  to_cut = ap (λ (Q : State). hist eₑ (view Q)) (sym (erased_is P x))

  module _ (d : Edit) (Z : Erases P x e d) where
    abbrev k : History
    k = remember d (hist e (view P))

    none_new : (t : Table ℕ) (n : ℕ) (l : List ℕ) → l ≡ [] → t ≡ t ++ number n l
    unfolding number
    none_new t n l z = sym (ap (λ (m : List ℕ). t ++ number n m) z ∙ append_nil t)

    pub erase_accept : rule_state eₑ (erased P x) ≡ accept d (rule_state e P)
    unfolding accept rule_state orders_of reorder still_live live_member live_container place_cut_by hist view
    erase_accept =
        ap (rule_state eₑ) (erased_is P x)
        ∙ (λ i. record {
          history = (to_cut ∙ sym Z.history) i;
          orders = record {
            ops_of = (ops_of_cut S E closed eₑ ∙ ap (λ (m : History). still_live operation m (rule_state e P).orders.ops_of) (to_cut ∙ sym Z.history) ∙ sym (Z.orders operation (hist e (view P)) k (rule_state e P).orders.ops_of)) i;
            blocks_of = (blocks_of_cut S E closed eₑ ∙ ap (λ (m : History). still_live block m (rule_state e P).orders.blocks_of) (to_cut ∙ sym Z.history) ∙ sym (Z.orders block (hist e (view P)) k (rule_state e P).orders.blocks_of)) i;
          };
          flags = (flags_cut S E closed eₑ ∙ ap₂ {C = Table ℕ} (λ (m : History) (t : Table ℕ). keep_keys (live_operation m) t) (to_cut ∙ sym Z.history) (none_new (rule_state e P).flags (P.tab op).next (new_flags d) Z.flags)) i;
          types = (types_cut S E closed eₑ ∙ ap₂ {C = Table ℕ} (λ (m : History) (t : Table ℕ). keep_keys (live_value m) t) (to_cut ∙ sym Z.history) (none_new (rule_state e P).types (P.tab val).next (new_types d) Z.types)) i;
          capacities = (rule_state e P).capacities;
        })

    -- A and B
    pub erase_answer : answer d (rule_state e P) (rule_state eₑ (erased P x)).history ≡ found (length (ops_among (walk P x))) (length (drop_list P x))
    unfolding rule_state hist
    erase_answer =
        let q : length (hist e (view P)).operations - length (hist e (view (erased P x))).operations ≡ length (ops_among (walk P x)) = omega (arith, freed S e x lx kx closed) in
        let r : e + length (drop_list P x) - e ≡ length (drop_list P x) = omega arith in
        Z.reply (rule_state e P) H ∙ ap₂ {C = Reply} found q r

  -- 39 and 40
  ended_history : (d : Edit) → kind_code x.0 ≤ 1 → remember d (hist e (view P)) ≡ bear (plus (born_of (view P)) zeros) (end_inside (the_thing P x) (hist e (view P))) → remember d (hist e (view P)) ≡ H
  unfolding drop_inside end_inside end_uses with_operations hist
  ended_history d k1 is = is ∙ born_same (end_inside (the_thing P x) (hist e (view P))) (plus (born_of (view P)) zeros) (plus_zeros (born_of (view P))) ∙ sym (erase_rules S e x lx kx closed k1)

module _ {P : State} (S : Sound P) (e : ℕ) where
  pub erases_op : (o : ℕ) → Live P (op, o) → Closed (among (everything P (op, o))) P → Erases P (op, o) e (erase_operation (num P (op, o)))
  unfolding remember carry_out births new_flags new_types order answer kind_code hist
  erases_op o l closed = record { history = ended_history S e (op, o) l (omega arith) closed (erase_operation (num P (op, o))) (omega arith) refl; flags = refl; types = refl; orders = λ m h k t. refl; reply = λ s k. refl }

  pub erases_block : (b : ℕ) → Live P (blk, b) → Closed (among (everything P (blk, b))) P → Erases P (blk, b) e (erase_block (num P (blk, b)))
  unfolding remember carry_out births new_flags new_types order answer kind_code hist
  erases_block b l closed = record { history = ended_history S e (blk, b) l (omega arith) closed (erase_block (num P (blk, b))) (omega arith) refl; flags = refl; types = refl; orders = λ m h k t. refl; reply = λ s k. refl }

  -- 41
  module _ (r o i : ℕ) (l : Live P (reg, r)) (lo : Live P (op, o)) (inside : i < length (P.list (op, o) regions)) (at : get_or (P.list (op, o) regions) i (reg, r) ≡ (reg, r)) (closed : Closed (among (everything P (reg, r))) P) where
    abbrev K : History
    K = hist (e + length (drop_list P (reg, r))) (view (erased P (reg, r)))

    region_history : remember (erase_region (num P (op, o)) i) (hist e (view P)) ≡ K
    unfolding remember births
    region_history =
        ap (bear (plus (hist e (view P)).born zeros)) (sym (region_rules S e r o i l lo inside at closed))
        ∙ born_same K (plus (hist e (view P)).born zeros) (plus_zeros (hist e (view P)).born ∙ sym (born_erased P (reg, r) e (e + length (drop_list P (reg, r)))))

    pub erases_region : Erases P (reg, r) e (erase_region (num P (op, o)) i)
    unfolding new_flags new_types order answer
    erases_region = record { history = region_history; flags = refl; types = refl; orders = λ m h k t. refl; reply = λ s k. refl }
