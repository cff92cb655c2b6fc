-- What the tables of a store say of it, while a new operation or block is made: how many things live, the next numbers, how long the lists
-- of the new thing are, and that no number is lost. Assumes nothing.
use mathlib.Core.Path.{◌≡◌, refl, sym, ap, ap₂, ◌∙◌}
use mathlib.Core.Bool.{Bool, true, false, cond}
use mathlib.Core.List.{List, [], ◌∷◌, ◌++◌, map}
use mathlib.Core.Option.{Option, none, some}
use native.Mathlib.Omega.{arith}
use Prim.Native.Nat.{ℕ, ◌+◌}
use lib.Dec.{eqb}
use lib.ListN.{length, length-append, length-map, length-replicate, replicate}
use Rattle.places.specs.Store.{op, blk, reg, val, usg, results, arguments, operands, successors, regions, blocks, Thing, Con, State, Live, Linked, Sound, birth, enter, relink, set_own, set_list}
use Rattle.places.specs.View.{num, rec_of, view}
use Rattle.places.specs.Hist.{tabled, op_of, block_of, use_of, hist, orders_of}
use Rattle.places.specs.Roles.{Unnamed}
use Rattle.places.specs.Accepts.{Accepts}
use Rattle.edit.specs.Record.{operand, successor, operation, block, of_value, of_block, new_operation, new_block}
use Rattle.rules.specs.Table.{Table, find, number, up}
use Rattle.rules.specs.History.{Operation, Block, History, births, plus, bear, carry_out, remember, with_blocks, slot_of, uses_in, results_of, arguments_of, regions_of, values_at}
use Rattle.rules.specs.Orders.{Orders, containers, new_lists, order, reorder}
use Rattle.rules.specs.State.{new_types}
use Rattle.rules.specs.Refusal.{slot_length, values_length}
use Rattle.places.specs.May.{Fresh}
use Rattle.places.proofs.Steps.{some_none, live_birth, alive_enter}
use Rattle.places.proofs.Sees.{num_old, not_new}
use Rattle.places.proofs.RuleNames.{find_live, find_dead, length_view, values_long, slot_long}
use Rattle.places.proofs.RuleAccept.{ended_of}
use Rattle.places.proofs.RuleBirths.{unborn, number_long, up_length, made_operation, made_block}

-- ---- what lives keeps its number while others are born

pub kept_birth : {P : State} (S : Linked P) (x : Thing) (t : ℕ) → Fresh P x t → (c : Con) (i : ℕ) (y : Thing) → Live P y → Live (enter c i x (birth x t P)) y × (num (enter c i x (birth x t P)) y ≡ num P y)
unfolding enter relink set_own set_list
kept_birth {P} S x t F c i y l = (omega (arith, live_birth P x t y l, alive_enter (birth x t P) c x i y), num_old P S x t F y (not_new P S x t F y l))

pub kept_enter : (P : State) (x : Thing) (c : Con) (i : ℕ) (y : Thing) → Live P y → Live (enter c i x P) y × (num (enter c i x P) y ≡ num P y)
unfolding enter relink set_own set_list
kept_enter P x c i y l = (omega (arith, l, alive_enter P c x i y), refl)

find_front : {A : Type 0} (n : ℕ) (t s : Table A) (x : A) → find t n ≡ some x → find (t ++ s) n ≡ some x
unfolding find
find_front n [] s x e = absurd (some_none e refl)
find_front n (y ∷ t) s x e = go (eqb y.0 n) (λ q. find_front n t s x q) e
  where
    go : (b : Bool) → (find t n ≡ some x → find (t ++ s) n ≡ some x) → cond b (some y.1) (find t n) ≡ some x → cond b (some y.1) (find (t ++ s) n) ≡ some x
    go true ih e = e
    go false ih e = ih e

-- ---- a new operation, so far

module _ {P Q : State} (S : Linked P) (T : Sound Q) (e fl : ℕ) (ts vs bs : List ℕ) (g : ℕ) (A : Accepts P Q (new_operation fl ts vs bs g) e e) where
  pub values_live : length (Q.tab val).order ≡ length (P.tab val).order + length ts
  unfolding new_types
  values_live =
      sym (length_view T.linked val (λ r. r.tag)) ∙ ap length A.types
      ∙ length-append (tabled (λ r. r.tag) ((view P).things val)) (number (P.tab val).next ts) ∙ ap₂ ◌+◌ (length_view S val (λ r. r.tag)) (number_long (P.tab val).next ts)

  pub uses_live : length (Q.tab usg).order ≡ length (P.tab usg).order + (length vs + length bs)
  unfolding hist remember bear carry_out
  uses_live =
      sym (length_view T.linked usg use_of) ∙ ap (λ (k : History). length k.uses) A.history
      ∙ length-append (tabled use_of ((view P).things usg)) (number ((view P).next usg) (map of_value vs ++ map of_block bs))
      ∙ ap₂ ◌+◌ (length_view S usg use_of) (number_long ((view P).next usg) (map of_value vs ++ map of_block bs) ∙ length-append (map of_value vs) (map of_block bs) ∙ ap₂ ◌+◌ (length-map vs of_value) (length-map bs of_block))

  pub regions_live : length (Q.tab reg).order ≡ length (P.tab reg).order + g
  unfolding orders_of reorder order new_lists containers births
  regions_live =
      sym (length_view T.linked reg (λ r. r.lists blocks)) ∙ ap (λ (o : Orders). length o.blocks_of) A.orders
      ∙ length-append (tabled (λ r. r.lists blocks) ((view P).things reg)) (number (hist e (view P)).born.regions (replicate g []))
      ∙ ap₂ ◌+◌ (length_view S reg (λ r. r.lists blocks)) (number_long (hist e (view P)).born.regions (replicate g []) ∙ length-replicate g [])

  pub values_next : (Q.tab val).next ≡ (P.tab val).next + length ts
  unfolding hist view remember bear births plus
  values_next = ap (λ (k : History). k.born.values) A.history

  pub uses_next : (Q.tab usg).next ≡ (P.tab usg).next + (length vs + length bs)
  unfolding hist view remember bear births plus
  uses_next = ap (λ (k : History). k.born.uses) A.history

  pub regions_next : (Q.tab reg).next ≡ (P.tab reg).next + g
  unfolding hist view remember bear births plus
  regions_next = ap (λ (k : History). k.born.regions) A.history

  pub same_ended : ended_of Q ≡ ended_of P
  same_ended = omega (arith, uses_live, uses_next)

  -- no number is lost
  pub value_kept : (n : ℕ) → Unnamed Q val n → Unnamed P val n
  value_kept n u p l m =
      some_none
      (ap (λ (t : Table ℕ). find t n) A.types ∙ find_front n (tabled (λ r. r.tag) ((view P).things val)) (number (P.tab val).next (new_types (new_operation fl ts vs bs g))) (rec_of P (val, p)).tag (find_live S val (λ r. r.tag) p n l m))
      (find_dead T.linked val (λ r. r.tag) n u)

  pub block_kept : (n : ℕ) → Unnamed Q blk n → Unnamed P blk n
  unfolding hist remember bear carry_out
  block_kept n u p l m =
      some_none
      (ap (λ (k : History). find k.blocks n) A.history ∙ find_live S blk block_of p n l m)
      (find_dead T.linked blk block_of n u)

  -- the lists of the new operation, at o
  module _ (o : ℕ) (lo : Live Q (op, o)) (nm : num Q (op, o) ≡ (P.tab op).next) where
    abbrev h : History
    h = hist e (view P)

    abbrev made : Operation
    made = record { results = up h.born.values (length ts); operands = up h.born.uses (length vs); successors = up (h.born.uses + length vs) (length bs); regions = up h.born.regions g; block = none }

    there : find (hist e (view Q)).operations (P.tab op).next ≡ some made
    unfolding view hist
    there = ap (λ (k : History). find k.operations (P.tab op).next) A.history ∙ made_operation h (unborn S e) fl ts vs bs g

    pub results_long : length (Q.list (op, o) results) ≡ length ts
    unfolding values_length values_at results_of
    results_long = sym (values_long T e operation o (P.tab op).next lo nm) ∙ ap (λ (x : Option Operation). length (results_of x)) there ∙ up_length h.born.values (length ts)

    pub operands_long : length (Q.list (op, o) operands) ≡ length vs
    unfolding slot_length slot_of uses_in
    operands_long = sym (slot_long T e operand o (P.tab op).next lo nm) ∙ ap (λ (x : Option Operation). length (slot_of operand x)) there ∙ up_length h.born.uses (length vs)

    pub successors_long : length (Q.list (op, o) successors) ≡ length bs
    unfolding slot_length slot_of uses_in
    successors_long = sym (slot_long T e successor o (P.tab op).next lo nm) ∙ ap (λ (x : Option Operation). length (slot_of successor x)) there ∙ up_length (h.born.uses + length vs) (length bs)

    pub regions_long : length (Q.list (op, o) regions) ≡ g
    unfolding regions_of rec_of hist
    regions_long = sym (ap (λ (x : Option Operation). length (regions_of x)) (find_live T.linked op op_of o (P.tab op).next lo nm) ∙ length-map (Q.list (op, o) regions) (num Q)) ∙ ap (λ (x : Option Operation). length (regions_of x)) there ∙ up_length h.born.regions g

-- ---- a new block, so far

module _ {P Q : State} (S : Linked P) (T : Sound Q) (e : ℕ) (ts : List ℕ) (A : Accepts P Q (new_block ts) e e) where
  pub arguments_live : length (Q.tab val).order ≡ length (P.tab val).order + length ts
  unfolding new_types
  arguments_live =
      sym (length_view T.linked val (λ r. r.tag)) ∙ ap length A.types
      ∙ length-append (tabled (λ r. r.tag) ((view P).things val)) (number (P.tab val).next ts) ∙ ap₂ ◌+◌ (length_view S val (λ r. r.tag)) (number_long (P.tab val).next ts)

  pub arguments_next : (Q.tab val).next ≡ (P.tab val).next + length ts
  unfolding hist view remember bear births plus
  arguments_next = ap (λ (k : History). k.born.values) A.history

  pub block_ended : ended_of Q ≡ ended_of P
  unfolding hist view remember bear births plus carry_out with_blocks
  block_ended =
      omega (
        arith,
        sym (length_view T.linked usg use_of) ∙ ap (λ (k : History). length k.uses) A.history ∙ length_view S usg use_of,
        ap (λ (k : History). k.born.uses) A.history,
      )

  pub arguments_long : (b : ℕ) → Live Q (blk, b) → num Q (blk, b) ≡ (P.tab blk).next → length (Q.list (blk, b) arguments) ≡ length ts
  unfolding values_length values_at arguments_of hist view
  arguments_long b lb nm =
      sym (values_long T e block b (P.tab blk).next lb nm)
      ∙ ap (λ (k : History). length (arguments_of (find k.blocks (P.tab blk).next))) A.history
      ∙ ap (λ (x : Option Block). length (arguments_of x)) (made_block (hist e (view P)) (unborn S e) ts)
      ∙ up_length (P.tab val).next (length ts)
