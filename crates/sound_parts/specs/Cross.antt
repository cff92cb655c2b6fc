-- What is tested of a store across its parts, place by place, and the store that the parts are. Assumes nothing.
use Rattle.std.specs.Prelude.{◌≡◌, ◌↔◌, Bool, true, false, ℕ, zero, suc, ◌+◌, ◌-◌, ◌*◌, ◌/◌, ◌%◌, ◌<◌, ◌≤◌, length}
use Rattle.std.proofs.Math.Option.{Option, none, some}
use Rattle.std.proofs.Math.Decide.{ℕ_discrete}
use Rattle.seqs.specs.Seqs.{tick, count, In}
use Rattle.places.specs.Store.{Kind, op, blk, reg, val, usg, Fam, slots, use_sets, vals, regs, ops_in, blocks_in, Tab, Sound}
use Rattle.places.specs.Parts.{Parts, places, table_of, node_in, store, rows_of}

-- What the cells say: a place's stamp (0: free), a node's container (0: none, k + 1: the container k), the length of a container's list, an
-- operation's flags, and how many operations live.
pub record Cells : Type 0 where
  pub cap : Kind → ℕ
  pub stamp : Kind → ℕ → ℕ
  pub home : Fam → ℕ → ℕ
  pub len : Fam → ℕ → ℕ
  pub flag : ℕ → ℕ
  pub depth : ℕ

-- how many containers a family has
abbrev pub conts : (Kind → ℕ) → Fam → ℕ
conts cap slots = 2 * cap op
conts cap use_sets = cap val + cap blk
conts cap vals = cap op + cap blk
conts cap regs = cap op
conts cap ops_in = cap blk
conts cap blocks_in = cap reg

-- the thing that has the container k lives
abbrev pub Holder : Cells → Fam → ℕ → Type 0
Holder C slots k = 0 < C.stamp op (k / 2)
Holder C use_sets k = (k < C.cap val → 0 < C.stamp val k) × (C.cap val ≤ k → 0 < C.stamp blk (k - C.cap val))
Holder C vals k = (k < C.cap op → 0 < C.stamp op k) × (C.cap op ≤ k → 0 < C.stamp blk (k - C.cap op))
Holder C regs k = 0 < C.stamp op k
Holder C ops_in k = 0 < C.stamp blk k
Holder C blocks_in k = 0 < C.stamp reg k

-- a node that stands in a list lives, and so does what has the list
abbrev pub Node : Cells → Fam → ℕ → Type 0
Node C f q = (k : ℕ) → C.home f q ≡ suc k → (0 < C.stamp (node_in f) q) × Holder C f k

-- a live node stands in a list
abbrev pub Must : Cells → Fam → ℕ → Type 0
Must C f q = 0 < C.stamp (node_in f) q → 0 < C.home f q

-- an operand's definition is a value, a successor's a block
abbrev pub FitAt : Cells → ℕ → Type 0
FitAt C q = (k j : ℕ) → C.home slots q ≡ suc k → C.home use_sets q ≡ suc j → (k % 2 ≡ 0 → j < C.cap val) × (k % 2 ≡ 1 → C.cap val ≤ j)

-- climbing from the operation p to the operation around it, and so on, ends within n steps
abbrev pub step_up : ℕ → (ℕ → Bool) → Bool
step_up zero f = true
step_up (suc k) f = f k

abbrev pub climb_by : (ℕ → ℕ) → (ℕ → ℕ) → (ℕ → ℕ) → ℕ → ℕ → Bool
climb_by place_in_block place_in_region place_in_op zero p = false
climb_by place_in_block place_in_region place_in_op (suc n) p = step_up (place_in_block p) (λ b. step_up (place_in_region b) (λ r. step_up (place_in_op r) (climb_by place_in_block place_in_region place_in_op n)))

abbrev pub ends_at : (Fam → ℕ → ℕ) → ℕ → ℕ → Bool
ends_at H n p = climb_by (H ops_in) (H blocks_in) (H regs) n p

pub record Crossed (C : Cells) : Type 0 where
  pub node : (f : Fam) (q : ℕ) → q < C.cap (node_in f) → Node C f q
  pub must_slot : (q : ℕ) → q < C.cap usg → Must C slots q
  pub must_set : (q : ℕ) → q < C.cap usg → Must C use_sets q
  pub must_val : (q : ℕ) → q < C.cap val → Must C vals q
  pub must_reg : (q : ℕ) → q < C.cap reg → Must C regs q
  pub fit : (q : ℕ) → q < C.cap usg → FitAt C q
  pub short_slots : (c : ℕ) → c < conts C.cap slots → C.len slots c ≤ 64
  pub short_vals : (c : ℕ) → c < conts C.cap vals → C.len vals c ≤ 64
  pub short_regs : (c : ℕ) → c < conts C.cap regs → C.len regs c ≤ 64
  pub flags : (p : ℕ) → p < C.cap op → 0 < C.stamp op p → C.flag p ≤ 3
  pub climb : (p : ℕ) → p < C.cap op → 0 < C.stamp op p → 0 < C.len regs p → ends_at C.home C.depth p ≡ true

abbrev pub code_of : ℕ → Option ℕ
code_of zero = none
code_of (suc k) = some k

-- 1 where the code names c
abbrev pub sits : ℕ → ℕ → ℕ
sits zero c = 0
sits (suc d) c = tick (ℕ_discrete d c)

-- the cells C are those of the parts M, each of which is well formed
pub record Reads (C : Cells) (M : Parts) : Type 0 where
  pub tabs : (k : Kind) → Tab (table_of (M.books k))
  pub caps : (k : Kind) → (M.books k).cap ≡ C.cap k
  pub lives : (k : Kind) (p : ℕ) → (0 < C.stamp k p) ↔ In ℕ_discrete p (places (M.books k).live)
  pub homes : (f : Fam) (q : ℕ) → M.homes f q ≡ code_of (C.home f q)
  pub within : (f : Fam) (q : ℕ) → 0 < C.home f q → q < C.cap (node_in f)
  pub rows : (f : Fam) (c q : ℕ) → count ℕ_discrete q (M.rows f c) ≡ sits (C.home f q) c
  pub lens : (f : Fam) (c : ℕ) → length (M.rows f c) ≡ C.len f c
  pub beyond : (f : Fam) (c : ℕ) → conts C.cap f ≤ c → C.len f c ≡ 0
  pub tags : (p : ℕ) → M.tags (op, p) ≡ C.flag p
  pub depth : length (places (M.books op).live) ≡ C.depth

abbrev pub SoundBy : Cells → Parts → Type 0
SoundBy C M = Sound (store (rows_of (C.cap val) (C.cap op)) M)
