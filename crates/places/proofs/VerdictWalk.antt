-- The verdict by a depth is the same for every depth that the nest fits into: so it may be opened without one. Assumes nothing.
use mathlib.Core.Path.{◌≡◌, refl, sym, ap, ap₂, ◌∙◌}
use mathlib.Core.Bool.{true, false, ◌||◌}
use mathlib.Core.List.{List, [], ◌∷◌, ◌++◌}
use mathlib.Core.Option.{Option, none, some}
use native.Mathlib.Omega.{arith}
use Prim.Native.Nat.{ℕ, zero, suc, ◌+◌, ◌≤◌}
use lib.ListN.{length}
use Rattle.seqs.specs.Seqs.{tick, In}
use Rattle.places.specs.Store.{Kind-dec, op, blk, reg, val, usg, regions, ops, blocks, fam, Thing, Thing-dec, State, Live, Linked, Sound, up}
use Rattle.places.specs.View.{num}
use Rattle.places.specs.Hist.{the_thing, rule_state}
use Rattle.places.specs.Walk.{kids, walk}
use Rattle.rules.specs.Table.{some_and}
use Rattle.edit.specs.Answer.{Reply, refuse, found}
use Rattle.rules.specs.Verdict.{is_clean, sight, block_verdict_by, region_verdict_by, operation_verdict, verdict_on}
use Rattle.places.specs.Verdict.{lackable, place_ends_well, place_stray_user, place_lost_pred, place_first_met, place_in_block, place_block_verdict, place_region_verdict, place_too_early, op_verdict}
use Rattle.seqs.proofs.Base.{tick_yes, in_head, in_tail, count_append}
use Rattle.places.proofs.Steps.{listed}
use Rattle.places.proofs.Climb.{ops_among}
use Rattle.places.proofs.Nest.{kind_code, walk_ops}
use Rattle.places.proofs.DropTurn.{ops_eq}
use Rattle.places.proofs.Outside.{part_sum}
use Rattle.places.proofs.Verdicts.{operation_num, block_num, region_num, depth_seen}

met_same : (f g : Thing → Reply) (l : List Thing) → ((y : Thing) → In Thing-dec y l → f y ≡ g y) → place_first_met f l ≡ place_first_met g l
met_same f g [] h = refl
met_same f g (y ∷ l) h = ap₂ {C = Reply} (λ (r m : Reply). elim (is_clean r) [ true ↦ m | false ↦ r ]) (h y (in_head Thing-dec y l)) (met_same f g l (λ z i. h z (in_tail Thing-dec z y l i)))

-- the first not clean of the regions, and else 3
abbrev pub regions_then : State → (Thing → Reply) → Thing → Reply
regions_then P w o = elim (is_clean (place_first_met (place_region_verdict P w) (P.list o regions))) [ true ↦ place_too_early P o | false ↦ place_first_met (place_region_verdict P w) (P.list o regions) ]

module _ {P : State} (S : Linked P) where
  abbrev size : Thing → ℕ
  size x = length (ops_among (walk P x))

  kid_size : (x k : Thing) → In Thing-dec k (kids P x) → tick (Kind-dec x.0 op) + size k ≤ size x
  kid_size x k i = omega (arith, ops_eq S x, part_sum Thing-dec size (kids P x) k i)

  in_regions : (x k : Thing) → In Thing-dec k (P.list x regions) → In Thing-dec k (kids P x)
  in_regions x k i = omega (arith, i, count_append Thing-dec k (P.list x regions) (P.list x blocks ++ P.list x ops))

  in_blocks : (x k : Thing) → In Thing-dec k (P.list x blocks) → In Thing-dec k (kids P x)
  in_blocks x k i = omega (arith, i, count_append Thing-dec k (P.list x regions) (P.list x blocks ++ P.list x ops), count_append Thing-dec k (P.list x blocks) (P.list x ops))

  in_ops : (x k : Thing) → In Thing-dec k (P.list x ops) → In Thing-dec k (kids P x)
  in_ops x k i = omega (arith, i, count_append Thing-dec k (P.list x regions) (P.list x blocks ++ P.list x ops), count_append Thing-dec k (P.list x blocks) (P.list x ops))

  -- verdicts that agree on the operations inside
  block_same : (v w : Thing → Reply) (b : Thing) → ((o : Thing) → In Thing-dec o (P.list b ops) → v o ≡ w o) → place_block_verdict P v b ≡ place_block_verdict P w b
  unfolding place_block_verdict place_in_block
  block_same v w b h = go (up P b)
    where
      go : (o : Option Thing) → place_in_block P v b o ≡ place_in_block P w b o
      go none = refl
      go (some r) = ap {B = Reply} (λ (m : Reply). elim (some_and (up P r) (lackable P) || place_ends_well P b) [ false ↦ found 2 (num P b) | true ↦ elim (place_stray_user P b) [ true ↦ refuse 18 | false ↦ elim (place_lost_pred P b) [ true ↦ found 4 (num P b) | false ↦ m ] ] ]) (met_same v w (P.list b ops) h)

  region_same : (v w : Thing → Reply) (r : Thing) → ((b o : Thing) → In Thing-dec b (P.list r blocks) → In Thing-dec o (P.list b ops) → v o ≡ w o) → place_region_verdict P v r ≡ place_region_verdict P w r
  unfolding place_region_verdict
  region_same v w r h = met_same (place_block_verdict P v) (place_block_verdict P w) (P.list r blocks) (λ b i. block_same v w b (λ o j. h b o i j))

  op_node : (b o : Thing) → In Thing-dec o (P.list b ops) → o.0 ≡ op
  op_node b o i = (S.link o (fam ops) (ops, b) (listed S o b ops i)).node

  regions_same : (v w : Thing → Reply) (o : Thing) → o.0 ≡ op → (d : ℕ) → size o ≤ suc d → ((q : Thing) → q.0 ≡ op → size q ≤ d → v q ≡ w q) → regions_then P v o ≡ regions_then P w o
  regions_same v w o k d h ih = ap {B = Reply} (λ (r : Reply). elim (is_clean r) [ true ↦ place_too_early P o | false ↦ r ])
      (met_same (place_region_verdict P v) (place_region_verdict P w) (P.list o regions) (λ r i. region_same v w r (λ b q j m. ih q (op_node b q m)
      (omega (arith, h, kid_size o r (in_regions o r i), tick_yes (Kind-dec o.0 op) k, kid_size r b (in_blocks r b j), kid_size b q (in_ops b q m))))))

  pub deep : (d : ℕ) (o : Thing) → o.0 ≡ op → size o ≤ d → op_verdict P (suc d) o ≡ op_verdict P d o
  unfolding op_verdict
  deep zero o k h = absurd (omega (arith, ops_eq S o, tick_yes (Kind-dec o.0 op) k))
  deep (suc d) o k h = regions_same (op_verdict P (suc d)) (op_verdict P d) o k d h (λ q kq hq. deep d q kq hq)

  pub verdict_eq : (o : ℕ) → Live P (op, o) → op_verdict P (length (P.tab op).order) (op, o) ≡ regions_then P (op_verdict P (length (P.tab op).order)) (op, o)
  unfolding op_verdict
  verdict_eq o l = sym (deep (length (P.tab op).order) (op, o) refl (walk_ops S (op, o) l))

-- the whole: what the rules say, by places
abbrev pub verdict_at : State → ℕ → Thing → Reply
verdict_at P d (op, p) = op_verdict P d (op, p)
verdict_at P d (blk, p) = place_block_verdict P (op_verdict P d) (blk, p)
verdict_at P d (reg, p) = place_region_verdict P (op_verdict P d) (reg, p)
verdict_at P d (val, p) = place_region_verdict P (op_verdict P d) (reg, p)
verdict_at P d (usg, p) = place_region_verdict P (op_verdict P d) (reg, p)

pub verdict_rules : {P : State} → Sound P → (e : ℕ) (x : Thing) → Live P x → kind_code x.0 ≤ 2 → verdict_on (sight (rule_state e P)) (the_thing P x) ≡ verdict_at P (length (P.tab op).order) x
unfolding verdict_on kind_code
verdict_rules {P} S e (op, p) l k = ap (λ (d : ℕ). operation_verdict (sight (rule_state e P)) d (num P (op, p))) (depth_seen S e) ∙ operation_num S e (length (P.tab op).order) p l
verdict_rules {P} S e (blk, p) l k =
    ap (λ (d : ℕ). block_verdict_by (sight (rule_state e P)) (operation_verdict (sight (rule_state e P)) d) (num P (blk, p))) (depth_seen S e)
    ∙ block_num S e (operation_verdict (sight (rule_state e P)) (length (P.tab op).order)) (op_verdict P (length (P.tab op).order)) (operation_num S e (length (P.tab op).order)) p l
verdict_rules {P} S e (reg, p) l k =
    ap (λ (d : ℕ). region_verdict_by (sight (rule_state e P)) (operation_verdict (sight (rule_state e P)) d) (num P (reg, p))) (depth_seen S e)
    ∙ region_num S e (operation_verdict (sight (rule_state e P)) (length (P.tab op).order)) (op_verdict P (length (P.tab op).order)) (operation_num S e (length (P.tab op).order)) p l
verdict_rules {P} S e (val, p) l k = absurd (omega arith)
verdict_rules {P} S e (usg, p) l k = absurd (omega arith)
