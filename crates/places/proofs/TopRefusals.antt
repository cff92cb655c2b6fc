-- Refusals 13 and 14 of the edits 39 to 41, and the verdicts 42 to 44, are the rules'. Assumes nothing.
use mathlib.Core.Path.{◌≡◌, refl, sym, ap, ◌∙◌, subst}
use mathlib.Core.Bool.{Bool, true, false}
use mathlib.Core.List.{map}
use mathlib.Core.Option.{Option}
use native.Mathlib.Omega.{arith}
use Prim.Native.Nat.{ℕ, zero, suc, ◌+◌, ◌<◌, ◌≤◌}
use borrow.Author.Tests.{le-leb}
use lib.Dec.{T, leb, leb→le}
use lib.ListN.{length, length-map, get_or}
use Rattle.seqs.specs.Seqs.{sum}
use Rattle.places.specs.Store.{op, blk, reg, regions, ops, Thing, State, Live, Sound}
use Rattle.places.specs.View.{num, rec_of, view}
use Rattle.places.specs.Hist.{op_of, hist, rule_state, the_thing}
use Rattle.places.specs.Walk.{pick, sgn, strays, strays_in}
use Rattle.rules.specs.Table.{find}
use Rattle.edit.specs.Record.{of_value, the_region, erase_operation, erase_block, erase_region, verdict}
use Rattle.rules.specs.History.{History, Operation, values_at, results_of, regions_of, region_index}
use Rattle.edit.specs.Answer.{Reply}
use Rattle.rules.specs.Step.{answer}
use Rattle.rules.specs.Refusal.{check, meets, definitions_in, used_outside, direct, from_state}
use Rattle.places.proofs.Nest.{kind_code}
use Rattle.places.proofs.Bits.{bit, find_view}
use Rattle.places.proofs.Outside.{Marks}
use Rattle.places.proofs.RuleOutside.{deeper, direct_op, direct_blk}
use Rattle.places.proofs.RuleRegion.{index_of}
use Rattle.places.proofs.VerdictWalk.{verdict_at, verdict_rules}

check_num : (b : Bool) (m n r : ℕ) → bit b ≡ sgn m → check b n r ≡ pick m r n
unfolding check pick
check_num true zero n r e = absurd (omega arith)
check_num true (suc m) n r e = refl
check_num false zero n r e = refl
check_num false (suc m) n r e = absurd (omega arith)

module _ {P : State} (S : Sound P) (e : ℕ) (mk : ℕ → ℕ) where
  abbrev h : History
  h = hist e (view P)

  kop : kind_code op ≤ 2
  unfolding kind_code
  kop = omega arith

  kblk : kind_code blk ≤ 2
  unfolding kind_code
  kblk = omega arith

  kreg : kind_code reg ≤ 2
  unfolding kind_code
  kreg = omega arith

  -- 14, or nothing
  deep_check : (x : Thing) (lx : Live P x) (kx : kind_code x.0 ≤ 2) → Marks P mk x → check (meets h (definitions_in h (the_thing P x)) (used_outside h (the_thing P x))) 14 0 ≡ pick (strays_in P mk x) 0 14
  deep_check x lx kx right = check_num (meets h (definitions_in h (the_thing P x)) (used_outside h (the_thing P x))) (strays_in P mk x) 14 0 (deeper S e x lx kx mk right)

  pub refuse_op : (o : ℕ) → Live P (op, o) → Marks P mk (op, o) → from_state (rule_state e P) (erase_operation (num P (op, o))) ≡ pick (strays P mk (op, o)) (pick (strays_in P mk (op, o)) 0 14) 13
  unfolding from_state rule_state values_at
  refuse_op o l right =
      check_num (meets h (map of_value (results_of (find h.operations (num P (op, o))))) (used_outside h (the_thing P (op, o)))) (strays P mk (op, o)) 13 (check (meets h (definitions_in h (the_thing P (op, o))) (used_outside h (the_thing P (op, o)))) 14 0) (direct_op S e (op, o) l kop mk right o l)
      ∙ ap (λ (r : ℕ). pick (strays P mk (op, o)) r 13) (deep_check (op, o) l kop right)

  pub refuse_block : (b : ℕ) → Live P (blk, b) → Marks P mk (blk, b) → from_state (rule_state e P) (erase_block (num P (blk, b))) ≡ pick (strays P mk (blk, b) + sum (strays P mk) (P.list (blk, b) ops)) (pick (strays_in P mk (blk, b)) 0 14) 13
  unfolding from_state rule_state
  refuse_block b l right =
      check_num (meets h (direct h (num P (blk, b))) (used_outside h (the_thing P (blk, b)))) (strays P mk (blk, b) + sum (strays P mk) (P.list (blk, b) ops)) 13 (check (meets h (definitions_in h (the_thing P (blk, b))) (used_outside h (the_thing P (blk, b)))) 14 0) (direct_blk S e (blk, b) l kblk mk right b l)
      ∙ ap (λ (r : ℕ). pick (strays P mk (blk, b) + sum (strays P mk) (P.list (blk, b) ops)) r 13) (deep_check (blk, b) l kblk right)

  pub refuse_region : (r o i : ℕ) → Live P (reg, r) → Live P (op, o) → (inside : i < length (P.list (op, o) regions)) → (at : get_or (P.list (op, o) regions) i (reg, r) ≡ (reg, r)) → Marks P mk (reg, r)
      → from_state (rule_state e P) (erase_region (num P (op, o)) i) ≡ pick (strays_in P mk (reg, r)) 0 14
  unfolding from_state rule_state check regions_of hist rec_of
  refuse_region r o i l lo inside at right =
      ap (λ (q : Option Operation). check (leb (length (regions_of q)) i) 12 (check (meets h (definitions_in h (the_region (region_index (num P (op, o)) i h))) (used_outside h (the_region (region_index (num P (op, o)) i h)))) 14 0)) (find_view S.linked op op_of o lo)
      ∙ ap (λ (b : Bool). check b 12 (check (meets h (definitions_in h (the_region (region_index (num P (op, o)) i h))) (used_outside h (the_region (region_index (num P (op, o)) i h)))) 14 0)) (short (leb (length (map (num P) (P.list (op, o) regions))) i) refl)
      ∙ ap (λ (m : ℕ). check (meets h (definitions_in h (the_region m)) (used_outside h (the_region m))) 14 0) (index_of S e r o i lo inside at)
      ∙ deep_check (reg, r) l kreg right
    where
      short : (b : Bool) → leb (length (map (num P) (P.list (op, o) regions))) i ≡ b → leb (length (map (num P) (P.list (op, o) regions))) i ≡ false
      short true q = absurd (omega (arith, leb→le (length (map (num P) (P.list (op, o) regions))) i (subst T (sym q) tt), length-map (P.list (op, o) regions) (num P)))
      short false q = q

  -- 12: no region at the index
  pub refuse_index : (o i : ℕ) → Live P (op, o) → length (P.list (op, o) regions) ≤ i → from_state (rule_state e P) (erase_region (num P (op, o)) i) ≡ 12
  unfolding from_state rule_state check regions_of hist rec_of
  refuse_index o i lo beyond =
      ap (λ (q : Option Operation). check (leb (length (regions_of q)) i) 12 (check (meets h (definitions_in h (the_region (region_index (num P (op, o)) i h))) (used_outside h (the_region (region_index (num P (op, o)) i h)))) 14 0)) (find_view S.linked op op_of o lo)
      ∙ ap (λ (b : Bool). check b 12 (check (meets h (definitions_in h (the_region (region_index (num P (op, o)) i h))) (used_outside h (the_region (region_index (num P (op, o)) i h)))) 14 0)) (le-leb (length (map (num P) (P.list (op, o) regions))) i (omega (arith, length-map (P.list (op, o) regions) (num P))))

  -- 42 to 44: the verdict is the answer, and its 18 the refusal
  pub verdict_refusal : (x : Thing) → Live P x → kind_code x.0 ≤ 2 → from_state (rule_state e P) (verdict (the_thing P x)) ≡ (verdict_at P (length (P.tab op).order) x).refusal
  unfolding from_state
  verdict_refusal x l k = ap (λ (r : Reply). r.refusal) (verdict_rules S e x l k)

  pub verdict_answer : (x : Thing) → Live P x → kind_code x.0 ≤ 2 → (k : History) → answer (verdict (the_thing P x)) (rule_state e P) k ≡ verdict_at P (length (P.tab op).order) x
  unfolding answer
  verdict_answer x l k _ = verdict_rules S e x l k
