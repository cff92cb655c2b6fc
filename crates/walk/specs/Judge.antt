-- Verdicts: what the functions over the nest answer. Assumes nothing: these are definitions.
use Rattle.std.specs.Prelude.{◌≡◌, Bool, List, ℕ, length, Result, Ok, Err}
use Rattle.edit.specs.Answer.{Answer, Reply, clean, refuse, found, numbers_of}
use Rattle.places.specs.Store.{op, blk, reg, slots, Thing, State, outer, up}
use Rattle.places.specs.Verdict.{place_leads_to, place_block_verdict, place_region_verdict, op_verdict}
use Rattle.rules.specs.Table.{some_and}
use Rattle.context.specs.declared.Layout.{Layout}
use Rattle.context.specs.Memory.{state_of}
use Rattle.walk.specs.declared.Fault.{Fault}
use Rattle.walk.specs.declared.Fault.TheVariants.{Unlinked, NoTerminator, TooEarly, LostPredecessor, StrayUser}

-- the document's reply to each fault: 1 to 4 with the number found, and refusal 18
unfoldable pub fault_reply : Fault → Reply
fault_reply (Unlinked n) = found 1 n
fault_reply (NoTerminator n) = found 2 n
fault_reply (TooEarly n) = found 3 n
fault_reply (LostPredecessor n) = found 4 n
fault_reply StrayUser = refuse 18

-- what the conversion gives
abbrev pub Answers : Fault → Answer → Type 0
Answers f r = numbers_of r ≡ fault_reply f

-- and the reply to what was judged
abbrev pub reply_of : Result (Unit {0}) Fault → Reply
reply_of (Ok _) = clean
reply_of (Err f) = fault_reply f

-- the verdict on an operation, by a depth that is enough
abbrev pub on_op : State → Thing → Reply
on_op P x = op_verdict P (length (P.tab op).order) x

-- a block by itself: all but its operations
abbrev pub alone : State → Thing → Reply
alone P b = place_block_verdict P (λ _. clean) b

pub record BlockAlone (l : Layout) (b : ℕ) (m : List ℕ) (r : Result (Unit {0}) Fault) : Type 0 where
  pub is : reply_of r ≡ alone (state_of l m) (blk, b)

pub record OpJudged (l : Layout) (o : ℕ) (m : List ℕ) (r : Result (Unit {0}) Fault) : Type 0 where
  pub is : reply_of r ≡ on_op (state_of l m) (op, o)

pub record BlockJudged (l : Layout) (b : ℕ) (m : List ℕ) (r : Result (Unit {0}) Fault) : Type 0 where
  pub is : reply_of r ≡ place_block_verdict (state_of l m) (on_op (state_of l m)) (blk, b)

pub record RegionJudged (l : Layout) (p : ℕ) (m : List ℕ) (r : Result (Unit {0}) Fault) : Type 0 where
  pub is : reply_of r ≡ place_region_verdict (state_of l m) (on_op (state_of l m)) (reg, p)

-- is the user of a use in a block that leads to b?
abbrev pub user_leads : State → Thing → Thing → Bool
user_leads P b u = some_and (outer (P.own u slots)) (λ o. some_and (up P o) (place_leads_to P b))
