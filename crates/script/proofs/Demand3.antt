-- DEMAND 3 over the words: after every list of calls of a store that was started in a lent buffer, single edits and scripts, with any bytes, any scratch
-- and any room for answers, refused calls included, from what start, edit and script ensure and nothing else. Assumes nothing.
use mathlib.Core.Path.{◌≡◌, refl, sym, ap, ◌∙◌, subst}
use mathlib.Core.Logic.{◌⊎◌, inl, inr, by_cases}
use mathlib.Core.List.{List, [], ◌∷◌, ◌++◌}
use Prim.Native.Nat.{ℕ, ◌*◌, ◌/◌}
use native.Mathlib.Decide.{dec_lt}
use native.Mathlib.Omega.{arith}
use lib.ListN.{length, drop}
use Rattle.edit.specs.Record.{Cut, nothing, broken, whole, cut, Read, refused, asks}
use Rattle.edit.specs.Answer.{Reply, Answer, numbers_of}
use Rattle.rules.specs.History.{Five}
use Rattle.rules.specs.State.{start}
use Rattle.rules.specs.Step.{obey, step_cut, step}
use Rattle.rules.specs.Script.{run}
use Rattle.rules.specs.Calls.{Call}
use Rattle.rules.specs.Told.{recall}
use Rattle.rules.specs.Demand.{Demand3, view as rule-view}
use Rattle.rules.specs.Alike.{Alike}
use Rattle.rules.specs.Sound.{Sound as RuleSound}
use Rattle.rules.specs.Refine.{AsStep, EditAway, AsRun, ScriptAway, Refines}
use Rattle.rules.proofs.Refined.{demand_3_of_memory, memory_sound}
use Rattle.places.specs.Alias.{RState}
use Rattle.context.specs.declared.Layout.{Layout}
use Rattle.context.specs.Memory.{SoundStore, layout_of}
use Rattle.context.specs.Performed.{abs, Performed}
use Rattle.context.proofs.Checking.{headed}
use Rattle.script.specs.Calls.{SoundWords, single, Away, Answered, flat, Ended, RanOn}
use Rattle.script.specs.See.{see}
use Rattle.script.specs.Runs.{replies_in, rules_state_of, Started, EditCall, ScriptCall, Runs}
use Rattle.script.proofs.Alike.{alike_at}

-- ---- the header names the capacities

-- a sound store of these capacities is a sound memory, and stands for the same state
pub sound_words : {l : Layout} {m : List ℕ} → SoundStore l m → SoundWords m × (rules_state_of m ≡ abs l m)
unfolding rules_state_of
sound_words {l} {m} S = let e = sym (headed (record { head = S.well.head })) in (subst (λ (k : Layout). SoundStore k m) (sym e) S, ap (λ (k : Layout). abs k m) e)

-- ---- start

starts : (k : Five) (m : List ℕ) → Started k m → SoundWords m × (rules_state_of m ≡ start k)
starts k m T =
    let w = sound_words (T.accepted.started refl).sound in
    (w.0, w.1 ∙ T.accepted.state refl ∙ ap start T.same)

-- ---- a single edit

step_is : (s : RState) (c : Cut) → step_cut s c ≡ obey s (single c)
unfolding step_cut single obey
step_is s nothing = refl
step_is s broken = refl
step_is s (whole kind fs []) = refl
step_is s (whole kind fs (x ∷ rest)) = refl

module _ (m bytes n scratch : List ℕ) (a : Answer) (G : SoundWords m) where
  -- a store that was kept is as sound as it was
  kept : n ≡ m → SoundWords n × (rules_state_of n ≡ rules_state_of m)
  kept e = (subst SoundWords (sym e) G, ap rules_state_of e)

  -- what was read is answered as the rules have it, or turned away for its scratch
  edit_by : (q : Read) → Answered q (length scratch) m n a → SoundWords n × (((numbers_of a ≡ (obey (rules_state_of m) q).0) × (rules_state_of n ≡ (obey (rules_state_of m) q).1)) ⊎ EditAway (rules_state_of m) (numbers_of a) (rules_state_of n))
  unfolding obey rules_state_of
  edit_by (refused k) A = let z = kept A.kept in (z.0, inl (A.reply, z.1))
  edit_by (asks e) J =
      by_cases (dec_lt (length scratch) (layout_of m).ops)
      (λ h. let A : Away 22 m n a = J.short G h in let z = kept A.kept in (z.0, inr (record { reply = A.reply; state = z.1 })))
      (λ h. let D : Performed (layout_of m) e m n a = J.done G (omega arith) in let z = sound_words D.sound in (z.0, inl (D.reply, z.1 ∙ D.state)))

edits : (m bytes : List ℕ) (r : Reply) (n : List ℕ) → SoundWords m → RuleSound (rules_state_of m) → EditCall m bytes r n → SoundWords n × (AsStep (rules_state_of m) bytes r (rules_state_of n) ⊎ EditAway (rules_state_of m) r (rules_state_of n))
unfolding step
edits m bytes r n G R E = go (edit_by m bytes n E.scratch E.answer G (single (cut bytes)) E.called.answered)
  where
    go : SoundWords n × (((numbers_of E.answer ≡ (obey (rules_state_of m) (single (cut bytes))).0) × (rules_state_of n ≡ (obey (rules_state_of m) (single (cut bytes))).1)) ⊎ EditAway (rules_state_of m) (numbers_of E.answer) (rules_state_of n))
        → SoundWords n × (AsStep (rules_state_of m) bytes r (rules_state_of n) ⊎ EditAway (rules_state_of m) r (rules_state_of n))
    go (w, inl z) = (w, inl (record { reply = E.same ∙ z.0 ∙ ap (λ (x : Reply × RState). x.0) (sym (step_is (rules_state_of m) (cut bytes))); state = z.1 ∙ ap (λ (x : Reply × RState). x.1) (sym (step_is (rules_state_of m) (cut bytes))) }))
    go (w, inr z) = (w, inr (record { reply = E.same ∙ z.reply; state = z.state }))

-- ---- a script

-- answers written are the answers read
replies_flat : (rs : List Reply) (rest : List ℕ) → replies_in (length rs) (flat rs ++ rest) ≡ rs
unfolding replies_in flat
replies_flat [] rest = refl
replies_flat (r ∷ rs) rest = ap (λ (z : List Reply). r ∷ z) (replies_flat rs rest)

scripts : (m : List ℕ) (room : ℕ) (bytes : List ℕ) (code : ℕ) (rs : List Reply) (n : List ℕ) → SoundWords m → RuleSound (rules_state_of m) → ScriptCall m room bytes code rs n
    → SoundWords n × (AsRun (rules_state_of m) room bytes code rs (rules_state_of n) ⊎ ScriptAway (rules_state_of m) code rs (rules_state_of n))
unfolding rules_state_of replies_in
scripts m room bytes code rs n G R C =
    by_cases (dec_lt (length C.scratch) (layout_of m).ops)
    (λ h. let E : Ended 22 m n C.out C.out_after C.ran = C.called.short G h in
    (subst SoundWords (sym E.kept) G, inr (record { code_same = C.code_is ∙ E.code; answers = C.answers_are ∙ ap (λ (k : ℕ). replies_in k C.out_after) E.count; state = ap rules_state_of E.kept })))
    (λ h. let D : RanOn (layout_of m) bytes m n C.out C.out_after C.ran = C.called.done G (omega arith) in
    let z = sound_words D.sound in
    let again : run (length C.out / 3) (rules_state_of m) bytes ≡ run room (rules_state_of m) bytes = ap (λ (k : ℕ). run k (rules_state_of m) bytes) (sym C.room_is) in (
      z.0,
      inl (record {
        code_same = C.code_is ∙ D.code ∙ ap (λ x. x.code) again;
        answers = C.answers_are ∙ ap (λ (k : ℕ). replies_in k C.out_after) D.count ∙ ap (replies_in (length (run (length C.out / 3) (rules_state_of m) bytes).answers)) D.answers ∙ replies_flat (run (length C.out / 3) (rules_state_of m) bytes).answers (drop (3 * C.ran.count) C.out) ∙ ap (λ x. x.answers) again;
        state = z.1 ∙ D.state ∙ ap (λ x. x.state) again;
      }),
    ))

-- ---- the demand

seen : (m : List ℕ) → SoundWords m → RuleSound (rules_state_of m) → Alike (see m) (rule-view (rules_state_of m))
unfolding see rules_state_of
seen m G R = alike_at G R

-- start, edit and script refine the rules
pub refines : Refines (List ℕ) SoundWords rules_state_of see Started EditCall ScriptCall
refines = record { starts = starts; edits = edits; scripts = scripts; seen = seen }

-- DEMAND 3: for all capacities with which start accepted a buffer, and every list of calls from there on
pub demand_3 : (k : Five) (m o : List ℕ) (cs : List Call) (rss : List (List Reply)) → Started k m → Runs m cs rss o → Demand3 (see o) (recall [] cs rss)
demand_3 = demand_3_of_memory (List ℕ) SoundWords rules_state_of see Started EditCall ScriptCall refines

-- and the store is sound after them: no call of the list gets 6
pub sound_after : (k : Five) (m o : List ℕ) (cs : List Call) (rss : List (List Reply)) → Started k m → Runs m cs rss o → SoundWords o
sound_after k m o cs rss t r = (memory_sound (List ℕ) SoundWords rules_state_of see Started EditCall ScriptCall refines k m o cs rss t r).0
