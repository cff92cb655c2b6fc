-- The edits 42 to 44: a verdict changes nothing, and is the reply. Assumes nothing.
use mathlib.Core.Path.{◌≡◌, refl, sym, ap, ap₂, ◌∙◌, subst}
use mathlib.Core.List.{List, []}
use native.Mathlib.Omega.{arith}
use Prim.Native.Nat.{ℕ, ◌+◌, ◌≤◌}
use lib.ListN.{length}
use Rattle.places.specs.Store.{op, val, Thing, State, Live, Sound}
use Rattle.places.specs.View.{Rec, num, view}
use Rattle.places.specs.Hist.{tabled, hist, orders_of, rule_state, meaning, thing_named, the_thing}
use Rattle.places.specs.Alias.{RThing}
use Rattle.places.specs.Walk.{among}
use Rattle.rules.specs.Table.{Table, keep_keys, number}
use Rattle.edit.specs.Record.{Edit, verdict}
use Rattle.std.specs.Prelude.{Ok, Err}
use Rattle.edit.specs.Answer.{Answer, Reply, refuse, found, numbers_of}
use Rattle.edit.specs.Kinds.{thing_of}
use Rattle.edit.specs.declared.Nested.{Nested}
use Rattle.rules.specs.History.{Five, History, zeros, plus, bear, births, carry_out, remember, live_operation, live_value}
use Rattle.rules.specs.Orders.{order, reorder}
use Rattle.rules.specs.State.{accept, new_flags, new_types}
use Rattle.rules.specs.Refusal.{named, refusal_of}
use Rattle.rules.specs.Step.{answer}
use Rattle.places.proofs.Cut.{Closed, cut_nothing}
use Rattle.places.proofs.Nest.{kind_code}
use Rattle.places.proofs.DropTurn.{append_nil}
use Rattle.places.proofs.Settling.{settles_same}
use Rattle.places.proofs.RuleTables.{flags_cut, types_cut}
use Rattle.places.proofs.VerdictWalk.{verdict_at}
use Rattle.places.proofs.TopRefusals.{verdict_refusal, verdict_answer}
use Rattle.context.specs.declared.Layout.{Layout}
use Rattle.context.specs.Memory.{state_of, SoundStore}
use Rattle.context.specs.Nest.{nested_kind}
use Rattle.context.specs.Performed.{Performed}
use Rattle.context.proofs.Performing.{refuses, accepts}
use Rattle.walk.proofs.Asked.{passes, thing_is}
use Rattle.walk.proofs.EraseWalk.{nested≤}

plus_zeros : (f : Five) → plus f zeros ≡ f
unfolding plus zeros
plus_zeros f = λ i. record { operations = z f.operations i; blocks = z f.blocks i; regions = z f.regions i; values = z f.values i; uses = z f.uses i }
  where
    z : (n : ℕ) → n + 0 ≡ n
    z n = omega arith

module _ {P : State} (S : Sound P) (e : ℕ) (t : RThing) where
  abbrev h : History
  h = hist e (view P)

  remembered : remember (verdict t) h ≡ h
  unfolding remember carry_out births bear
  remembered = λ i. record { operations = h.operations; blocks = h.blocks; uses = h.uses; born = plus_zeros h.born i; ended = h.ended }

  closed : Closed (among []) P
  closed = λ x f c q z. absurd (omega (arith, z))

  flags_kept : tabled (λ (r : Rec). r.tag) ((view P).things op) ≡ keep_keys (live_operation h) (tabled (λ r. r.tag) ((view P).things op))
  flags_kept =
      ap (λ (Q : State). tabled (λ (r : Rec). r.tag) ((view Q).things op)) (sym (cut_nothing P))
      ∙ flags_cut S (among []) closed e
      ∙ ap (λ (Q : State). keep_keys (live_operation (hist e (view Q))) (tabled (λ r. r.tag) ((view P).things op))) (cut_nothing P)

  types_kept : tabled (λ (r : Rec). r.tag) ((view P).things val) ≡ keep_keys (live_value h) (tabled (λ r. r.tag) ((view P).things val))
  types_kept =
      ap (λ (Q : State). tabled (λ (r : Rec). r.tag) ((view Q).things val)) (sym (cut_nothing P))
      ∙ types_cut S (among []) closed e
      ∙ ap (λ (Q : State). keep_keys (live_value (hist e (view Q))) (tabled (λ r. r.tag) ((view P).things val))) (cut_nothing P)

  pub verdict_accept : rule_state e P ≡ accept (verdict t) (rule_state e P)
  unfolding accept reorder order new_flags new_types number rule_state orders_of
  verdict_accept = λ i. record {
    history = sym remembered i;
    orders = orders_of (view P);
    flags = (flags_kept ∙ ap₂ {C = Table ℕ} (λ (k : History) (u : Table ℕ). keep_keys (live_operation k) u) (sym remembered) (sym (append_nil (tabled (λ r. r.tag) ((view P).things op))))) i;
    types = (types_kept ∙ ap₂ {C = Table ℕ} (λ (k : History) (u : Table ℕ). keep_keys (live_value k) u) (sym remembered) (sym (append_nil (tabled (λ r. r.tag) ((view P).things val))))) i;
    capacities = (rule_state e P).capacities;
  }

module _ {l : Layout} {m : List ℕ} (S : SoundStore l m) where
  abbrev P : State
  P = state_of l m

  module _ (x : Thing) (kx : kind_code x.0 ≤ 2) (lx : Live P x) where
    abbrev v : Edit
    v = verdict (the_thing P x)

    asked : refusal_of (meaning P) v ≡ (verdict_at P (length (P.tab op).order) x).refusal
    unfolding meaning named
    asked = passes S v x (num P x) kx lx refl refl ∙ verdict_refusal S.sound _ (λ _. 0) x lx kx

    after : meaning P ≡ accept v (meaning P)
    unfolding meaning
    after = verdict_accept S.sound _ (the_thing P x)

    replied : (h : History) → answer v (meaning P) h ≡ verdict_at P (length (P.tab op).order) x
    unfolding meaning
    replied = verdict_answer S.sound _ (λ _. 0) x lx kx

    accepted : (a b : ℕ) → found a b ≡ verdict_at P (length (P.tab op).order) x → Performed l v m m (Ok (a, b))
    unfolding found
    accepted a b e = accepts v S (asked ∙ ap (λ (q : Reply). q.refusal) (sym e)) after refl (settles_same (λ k. refl)) a b (replied _ ∙ sym e)

    -- what was judged, as the answer
    judged : (a : Answer) → numbers_of a ≡ verdict_at P (length (P.tab op).order) x → Performed l v m m a
    unfolding numbers_of found refuse
    judged (Ok (a, b)) e = accepted a b e
    judged (Err r) e = refuses v S r (asked ∙ ap (λ (q : Reply). q.refusal) (sym e))

  -- the thing that the look-up found
  pub did_judge : (k : Nested) (n p : ℕ) → Live P (nested_kind k, p) × (num P (nested_kind k, p) ≡ n) → (a : Answer) → numbers_of a ≡ verdict_at P (length (P.tab op).order) (nested_kind k, p) → Performed l (verdict (thing_of k n)) m m a
  did_judge k n p F a e =
      subst (λ (t : RThing). Performed l (verdict t) m m a) (ap (thing_named (nested_kind k)) F.1 ∙ sym (thing_is k n))
      (judged (nested_kind k, p) (nested≤ k) F.0 a e)
