-- The operations at which uses stand, and whether they are in blocks. Assumes nothing.
use mathlib.Core.Path.{◌≡◌, refl, sym, ap, ◌∙◌, subst}
use mathlib.Core.Logic.{by_cases, if_pos, if_neg}
use mathlib.Core.Bool.{Bool, not}
use mathlib.Core.List.{List}
use mathlib.Core.Option as math
use mathlib.Core.Option.{none, some}
use Rattle.std.specs.Prelude.{Option, Some, None, is_none as gone?}
use native.Mathlib.Decide.{ℕ_discrete, dec_lt}
use native.Mathlib.Omega.{arith}
use Prim.Native.Nat.{ℕ, ◌+◌, ◌-◌, ◌/◌, ◌%◌, ◌≤◌, ◌<◌}
use Rattle.places.specs.Store.{op, blk, val, usg, operands, successors, value_uses, block_uses, ops, Fam, slots, use_sets, ops_in, Thing, Con, State, Live, outer, up}
use Rattle.places.specs.Parts.{node_in, rows_of, con_of}
use Rattle.places.specs.View.{num}
use Rattle.places.specs.Verdict.{place_stray_user}
use Rattle.rules.specs.Table.{any, some_and, is_some}
use Rattle.places.proofs.Steps.{some_inj, some_none, up_live}
use Rattle.context.specs.declared.Layout.{Layout}
use Rattle.context.specs.Memory.{con, ListIs, state_of, given, SoundStore, HomeIs}
use Rattle.context.specs.Reading.{NodesAre, NumberIs, DefNumberIs, DefinitionIs, UserIs, block_by, BlockOf}
use Rattle.context.proofs.Cursor.{row}
use Rattle.context.proofs.Numbers.{list_there, value_set, block_set}

-- ---- where things stand

pub con_block_uses : (l : Layout) (b : ℕ) → con l use_sets (l.values + b) ≡ (block_uses, (blk, b))
unfolding rows_of
con_block_uses l b =
    let q : l.values + b - l.values ≡ b = omega arith in
    if_neg {C = Con} (dec_lt (l.values + b) l.values) (λ h. absurd (omega (arith, h))) (value_uses, (val, l.values + b)) (block_uses, (blk, l.values + b - l.values)) ∙ ap (λ (p : ℕ). (block_uses, (blk, p))) q

con_slot : (l : Layout) (k : ℕ) → (con l slots k).1 ≡ (op, k / 2)
unfolding rows_of
con_slot l k =
    by_cases (ℕ_discrete (k % 2) 0)
    (λ e. ap (λ (c : Con). c.1) (if_pos {C = Con} (ℕ_discrete (k % 2) 0) e (operands, (op, k / 2)) (successors, (op, k / 2))))
    (λ e. ap (λ (c : Con). c.1) (if_neg {C = Con} (ℕ_discrete (k % 2) 0) e (operands, (op, k / 2)) (successors, (op, k / 2))))

pub around_none : {l : Layout} {f : Fam} {n : ℕ} {m : List ℕ} {h : Option ℕ} → HomeIs l f n m h → h ≡ None → (state_of l m).own (node_in f, n) f ≡ none
around_none {l} {f} H e = H.own ∙ ap (λ (i : Option ℕ). con_of (con l f) (given i)) e

pub around_some : {l : Layout} {f : Fam} {n k : ℕ} {m : List ℕ} {h : Option ℕ} → HomeIs l f n m h → h ≡ Some k → (state_of l m).own (node_in f, n) f ≡ some (con l f k)
around_some {l} {f} H e = H.own ∙ ap (λ (i : Option ℕ). con_of (con l f) (given i)) e

-- ---- the definition whose uses a set has

pub value_live : (l : Layout) (m : List ℕ) {d : ℕ} → d < l.values → Live (state_of l m) (con l use_sets d).1 → Live (state_of l m) (val, d)
value_live l m {d} v = subst (λ (c : Con). Live (state_of l m) c.1) (value_set l d v)

pub value_number : {l : Layout} {m : List ℕ} {d r : ℕ} → d < l.values → NumberIs l val d m r → DefNumberIs l d m r
value_number {l} {m} {d} v N = record { is = N.is ∙ ap (λ (c : Con). num (state_of l m) c.1) (sym (value_set l d v)) }

pub block_holds : (l : Layout) (m : List ℕ) {d : ℕ} → l.values ≤ d → Live (state_of l m) (con l use_sets d).1 → Live (state_of l m) (blk, d - l.values)
block_holds l m {d} v = subst (λ (c : Con). Live (state_of l m) c.1) (block_set l d v)

pub block_number : {l : Layout} {m : List ℕ} {d r : ℕ} → l.values ≤ d → NumberIs l blk (d - l.values) m r → DefNumberIs l d m r
block_number {l} {m} {d} v N = record { is = N.is ∙ ap (λ (c : Con). num (state_of l m) c.1) (sym (block_set l d v)) }

module _ {l : Layout} {m : List ℕ} (S : SoundStore l m) where
  abbrev P : State
  P = state_of l m

  -- ---- the user of a use

  pub user_is : {u k : ℕ} {h : Option ℕ} → HomeIs l slots u m h → h ≡ Some k → UserIs l u m (k / 2)
  user_is {k = k} H e = record { is = ap outer (around_some H e) ∙ ap some (con_slot l k) }

  pub user_live : (u r : ℕ) → Live P (usg, u) → UserIs l u m r → Live P (op, r)
  user_live u r v U = go (P.own (usg, u) slots) refl U.is
    where
      go : (o : math.Option Con) → P.own (usg, u) slots ≡ o → outer o ≡ some (op, r) → Live P (op, r)
      go none e q = absurd (some_none q refl)
      go (some c) e q = subst (λ (y : Thing). Live P y) (some_inj q) (S.sound.linked.link (usg, u) slots c e).home

  -- ---- the definition of a use

  module _ {u d : ℕ} {h : Option ℕ} (H : HomeIs l use_sets u m h) (e : h ≡ Some d) where
    pub definition_live : Live P (con l use_sets d).1
    definition_live = (S.sound.linked.link (usg, u) use_sets (con l use_sets d) (around_some H e)).home

    pub definition_is : {r : ℕ} → DefNumberIs l d m r → DefinitionIs l u m r
    definition_is N = record { is = λ c o. N.is ∙ ap (λ (x : Con). num P x.1) (some_inj (sym (around_some H e) ∙ o)) }

  -- the block of a use lives
  pub block_live : {u b : ℕ} {r : Option ℕ} → BlockOf l u m r → r ≡ Some b → Live P (blk, b)
  block_live {b = b} B e = up_live S.sound.linked B.user (blk, b) (B.is ∙ ap block_by e)

-- ---- the block of a use's operation

con_block : (l : Layout) (k : ℕ) → con l ops_in k ≡ (ops, (blk, k))
unfolding rows_of
con_block l k = refl

outside : (l : Layout) (r : Option ℕ) → outer (con_of (con l ops_in) (given r)) ≡ block_by r
outside l None = refl
outside l (Some b) = ap (λ (c : Con). some c.1) (con_block l b)

pub block_of_lem : {l : Layout} {m : List ℕ} {u o : ℕ} {r : Option ℕ} → UserIs l u m o → HomeIs l ops_in o m r → BlockOf l u m r
unfolding up
block_of_lem {l} {m} {u} {o} {r} U R = record { user = (op, o); at = U.is; is = ap outer R.own ∙ outside l r }

-- is the user of a use in no block?
abbrev pub stray? : State → Thing → Bool
stray? P u = not (some_and (outer (P.own u slots)) (λ o. is_some (up P o)))

pub astray : {l : Layout} {m : List ℕ} {u : ℕ} {r : Option ℕ} → BlockOf l u m r → gone? r ≡ stray? (state_of l m) (usg, u)
unfolding some_and is_some
astray {l} {m} {u} {r} B = go r ∙ sym (ap (λ (o : math.Option Thing). not (some_and o (λ q. is_some (up (state_of l m) q)))) B.at ∙ ap (λ (o : math.Option Thing). not (is_some o)) B.is)
  where
    go : (o : Option ℕ) → gone? o ≡ not (is_some (block_by o))
    go None = refl
    go (Some b) = refl

pub stray_at : (l : Layout) (m : List ℕ) (b : ℕ) → any (stray? (state_of l m)) (row l use_sets (l.values + b) m) ≡ place_stray_user (state_of l m) (blk, b)
unfolding place_stray_user
stray_at l m b = ap (λ (c : Con). any (stray? (state_of l m)) ((state_of l m).list c.1 c.0)) (con_block_uses l b)

-- the set of the uses of a block, by its number
pub block_nodes : {l : Layout} {m : List ℕ} {b k : ℕ} {q : List ℕ} → ListIs l use_sets (block_uses, (blk, b)) k → NodesAre l use_sets k m q → NodesAre l use_sets (l.values + b) m q
block_nodes {l} {m} {b} L N = record { are = ap (λ (c : Con). (state_of l m).list c.1 c.0) (con_block_uses l b ∙ sym L.row) ∙ N.are }
