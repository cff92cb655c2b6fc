-- The three functions that judge the nest: their loops, and the edits 42 to 44. Assumes nothing.
use mathlib.Core.Path.{◌≡◌, sym, ap, ◌∙◌}
use mathlib.Core.List.{List, [], ◌∷◌}
use native.Mathlib.Omega.{arith}
use Prim.Native.Nat.{ℕ, ◌<◌}
use Rattle.std.specs.Prelude.{Result, Ok, Err}
use Rattle.seqs.specs.Seqs.{count}
use Rattle.places.specs.Store.{op, regions, Fam, regs, ops_in, blocks_in, Thing, Thing-dec, State, Live}
use Rattle.places.specs.Parts.{node_in}
use Rattle.places.specs.Verdict.{place_first_met, place_block_verdict, place_region_verdict, place_too_early}
use Rattle.rules.specs.Verdict.{is_clean}
use Rattle.edit.specs.Answer.{Reply}
use Rattle.seqs.proofs.Base.{count_append, in_head}
use Rattle.places.proofs.Runs.{measure, falls}
use Rattle.context.specs.declared.Layout.{Layout}
use Rattle.context.specs.Memory.{state_of, SoundStore}
use Rattle.walk.specs.declared.Fault.{Fault}
use Rattle.walk.specs.Judge.{fault_reply, reply_of, on_op, BlockAlone, OpJudged, BlockJudged, RegionJudged}
use Rattle.walk.proofs.DropWalk.{Nests, list_of_lem}
use Rattle.context.proofs.Rest.{nodes, Rest}
use Rattle.walk.proofs.JudgeLaws.{block_not, block_then, op_not, op_then}
use Rattle.walk.proofs.Search.{faulty, clean_is, Meeting, met, none_met, regions_row, ops_row, region_is}

-- what lies in x is smaller than x
pub kid_falls : {l : Layout} {f : Fam} {x : Thing} → Nests l f x → {m : List ℕ} {p : ℕ} {k : List ℕ} (S : SoundStore l m) → Rest l f x.1 m (p ∷ k) → measure (state_of l m) (node_in f, p) < measure (state_of l m) x
kid_falls {l} {f} {x} T {m} {p} {k} S R =
    falls S.sound.linked x (node_in f, p)
    (omega (
      arith,
      ap (count Thing-dec (node_in f, p)) (list_of_lem T m S.sound.linked ∙ R.parts),
      count_append Thing-dec (node_in f, p) R.done (nodes f (p ∷ k)),
      in_head Thing-dec (node_in f, p) (nodes f k),
    ))

module _ {l : Layout} {m : List ℕ} (S : SoundStore l m) where
  abbrev P : State
  P = state_of l m

  abbrev verdict_on_region : Thing → Reply
  verdict_on_region = place_region_verdict P (on_op P)

  abbrev verdict_on_block : Thing → Reply
  verdict_on_block = place_block_verdict P (on_op P)

  -- ---- an operation

  pub op_hit : (o : ℕ) {p : ℕ} {k : List ℕ} {e : Fault} → Live P (op, o) → Meeting l regs o m (p ∷ k) verdict_on_region → RegionJudged l p m (Err e) → OpJudged l o m (Err e)
  op_hit o {p} {k} {e} v G J =
      let q : fault_reply e ≡ place_first_met verdict_on_region (P.list (op, o) regions) = met G e J.is ∙ ap (place_first_met verdict_on_region) (regions_row l m o) in
      record { is = q ∙ op_not S o v (ap is_clean (sym q) ∙ faulty e) }

  pub op_end : (o : ℕ) (r : Result (Unit {0}) Fault) → Live P (op, o) → Meeting l regs o m [] verdict_on_region → reply_of r ≡ place_too_early P (op, o) → OpJudged l o m r
  op_end o r v G e = record { is = e ∙ op_then S o v (none_met G ∙ ap (place_first_met verdict_on_region) (regions_row l m o)) }

  -- ---- a region

  pub region_hit : (r : ℕ) {p : ℕ} {k : List ℕ} {e : Fault} → Meeting l blocks_in r m (p ∷ k) verdict_on_block → BlockJudged l p m (Err e) → RegionJudged l r m (Err e)
  region_hit r {p} {k} {e} G J = record { is = met G e J.is ∙ region_is l m r }

  pub region_end : (r : ℕ) → Meeting l blocks_in r m [] verdict_on_block → RegionJudged l r m (Ok tt)
  region_end r G = record { is = none_met G ∙ region_is l m r }

  -- ---- a block

  pub block_self : (b : ℕ) {e : Fault} → BlockAlone l b m (Err e) → BlockJudged l b m (Err e)
  block_self b {e} J = record { is = J.is ∙ block_not S (on_op P) b (ap is_clean (sym J.is) ∙ faulty e) }

  pub block_hit : (b : ℕ) {p : ℕ} {k : List ℕ} {e : Fault} → BlockAlone l b m (Ok tt) → Meeting l ops_in b m (p ∷ k) (on_op P) → OpJudged l p m (Err e) → BlockJudged l b m (Err e)
  block_hit b {p} {k} {e} A G J = record { is = met G e J.is ∙ ap (place_first_met (on_op P)) (ops_row l m b) ∙ block_then S (on_op P) b (ap is_clean (sym A.is) ∙ clean_is) }

  pub block_end : (b : ℕ) → BlockAlone l b m (Ok tt) → Meeting l ops_in b m [] (on_op P) → BlockJudged l b m (Ok tt)
  block_end b A G = record { is = none_met G ∙ ap (place_first_met (on_op P)) (ops_row l m b) ∙ block_then S (on_op P) b (ap is_clean (sym A.is) ∙ clean_is) }
