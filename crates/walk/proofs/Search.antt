-- Searches through one list of the store for the first reply that is not clean, and what the searches for a test say. Assumes nothing.
use mathlib.Core.Path.{◌≡◌, refl, sym, ap, ◌∙◌}
use mathlib.Core.Bool.{Bool, true, false, not}
use mathlib.Core.List.{List, [], ◌∷◌}
use Prim.Native.Nat.{ℕ, ◌+◌}
use Rattle.std.specs.Prelude.{Option, None, Some, nat_eq}
use Rattle.std.specs.Option.{option_eq}
use Rattle.places.specs.Store.{op, blk, reg, usg, successors, block_uses, regions, ops, blocks, Fam, slots, use_sets, regs, ops_in, blocks_in, Thing, State, Con}
use Rattle.places.specs.Parts.{node_in, rows_of}
use Rattle.places.specs.Verdict.{place_first_met, is_held_by, place_names_block, place_lost_pred, place_block_verdict, place_region_verdict}
use Rattle.rules.specs.Table.{any}
use Rattle.rules.specs.Verdict.{is_clean}
use Rattle.edit.specs.Answer.{Reply, clean, refuse, found}
use Rattle.context.specs.declared.Layout.{Layout}
use Rattle.context.specs.Memory.{ListIs, state_of, SoundStore, HomeIs}
use Rattle.context.specs.Reading.{NodesAre}
use Rattle.walk.specs.declared.Fault.{Fault}
use Rattle.walk.specs.declared.Fault.TheVariants.{Unlinked, NoTerminator, TooEarly, LostPredecessor, StrayUser}
use Rattle.walk.specs.Judge.{fault_reply, on_op, user_leads}
use Rattle.context.proofs.Cursor.{row}
use Rattle.context.proofs.Rest.{nodes, Rest, rest_all, rest_on}
use Rattle.context.proofs.Numbers.{list_there}
use Rattle.context.proofs.Users.{con_block_uses}
use Rattle.walk.proofs.JudgeLaws.{met_hit, met_miss, met_over, held_by}

-- a fault is not clean
pub faulty : (e : Fault) → is_clean (fault_reply e) ≡ false
unfolding is_clean fault_reply found refuse
faulty (Unlinked n) = refl
faulty (NoTerminator n) = refl
faulty (TooEarly n) = refl
faulty (LostPredecessor n) = refl
faulty StrayUser = refl

pub clean_is : is_clean clean ≡ true
unfolding is_clean clean
clean_is = refl

-- ---- the first that is not clean

pub record Meeting (l : Layout) (f : Fam) (s : ℕ) (m k : List ℕ) (v : Thing → Reply) : Type 0 where
  pub rest : Rest l f s m k
  pub left : place_first_met v (nodes f k) ≡ place_first_met v (row l f s m)

pub meeting : {l : Layout} {f : Fam} {s : ℕ} {m k : List ℕ} (v : Thing → Reply) → NodesAre l f s m k → Meeting l f s m k v
meeting v N = record { rest = rest_all N; left = ap (place_first_met v) (sym N.are) }

module _ {l : Layout} {f : Fam} {s : ℕ} {m : List ℕ} {v : Thing → Reply} where
  module _ {p : ℕ} {k : List ℕ} (G : Meeting l f s m (p ∷ k) v) where
    -- a fault, and what it stops
    pub met : (e : Fault) → fault_reply e ≡ v (node_in f, p) → fault_reply e ≡ place_first_met v (row l f s m)
    met e q = q ∙ met_hit v (nodes f (p ∷ k)) (row l f s m) (node_in f, p) (nodes f k) G.left refl (ap is_clean (sym q) ∙ faulty e)

    pub on : clean ≡ v (node_in f, p) → Meeting l f s m k v
    on e = record { rest = rest_on G.rest; left = met_miss v (nodes f (p ∷ k)) (row l f s m) (node_in f, p) (nodes f k) G.left refl (ap is_clean (sym e) ∙ clean_is) }

  pub none_met : Meeting l f s m [] v → clean ≡ place_first_met v (row l f s m)
  none_met G = met_over v [] (row l f s m) G.left refl

-- ---- the searches of the tests

abbrev pub names? : State → ℕ → Thing → Bool
names? P b u = is_held_by (P.own u use_sets) (block_uses, (blk, b))

-- by the set that the use stands in
pub names_by : {l : Layout} {b d : ℕ} → ListIs l use_sets (block_uses, (blk, b)) d → (m : List ℕ) (u : ℕ) {h : Option ℕ} {r : Bool} → HomeIs l use_sets u m h → r ≡ option_eq nat_eq h (Some d) → r ≡ names? (state_of l m) b (usg, u)
names_by {l} D m u {h} H e = e ∙ held_by D h ((state_of l m).own (usg, u) use_sets) H.own

pub names_is : {l : Layout} {k o : ℕ} → ListIs l slots (successors, (op, o)) k → (m : List ℕ) (b : ℕ) → any (names? (state_of l m) b) (row l slots k m) ≡ place_names_block (state_of l m) (blk, b) (op, o)
unfolding place_names_block
names_is {l} K m b = ap (any (names? (state_of l m) b)) (list_there K m)

abbrev pub lost? : State → ℕ → Thing → Bool
lost? P b u = not (user_leads P (blk, b) u)

pub lost_at : (l : Layout) (m : List ℕ) (b : ℕ) → any (lost? (state_of l m) b) (row l use_sets (l.values + b) m) ≡ place_lost_pred (state_of l m) (blk, b)
unfolding place_lost_pred
lost_at l m b = ap (λ (c : Con). any (lost? (state_of l m) b) ((state_of l m).list c.1 c.0)) (con_block_uses l b)

-- the lists of the nest
pub regions_row : (l : Layout) (m : List ℕ) (o : ℕ) → row l regs o m ≡ (state_of l m).list (op, o) regions
unfolding rows_of
regions_row l m o = refl

pub blocks_row : (l : Layout) (m : List ℕ) (r : ℕ) → row l blocks_in r m ≡ (state_of l m).list (reg, r) blocks
unfolding rows_of
blocks_row l m r = refl

pub ops_row : (l : Layout) (m : List ℕ) (b : ℕ) → row l ops_in b m ≡ (state_of l m).list (blk, b) ops
unfolding rows_of
ops_row l m b = refl

pub region_is : (l : Layout) (m : List ℕ) (r : ℕ) → place_first_met (place_block_verdict (state_of l m) (on_op (state_of l m))) (row l blocks_in r m) ≡ place_region_verdict (state_of l m) (on_op (state_of l m)) (reg, r)
unfolding place_region_verdict
region_is l m r = ap (place_first_met (place_block_verdict (state_of l m) (on_op (state_of l m)))) (blocks_row l m r)
