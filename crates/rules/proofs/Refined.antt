-- A store in memory that refines the rules meets demand 3. Assumes nothing.
use mathlib.Core.Path.{◌≡◌, refl, sym, subst}
use mathlib.Core.Logic.{◌⊎◌, inl, inr}
use mathlib.Core.Bool.{false}
use mathlib.Core.List.{List, [], ◌∷◌}
use Prim.Native.Nat.{ℕ}
use Rattle.edit.specs.Record.{Edit, Cut, nothing, broken, whole, cut}
use Rattle.rules.specs.History.{Five}
use Rattle.rules.specs.State.{State, start}
use Rattle.rules.specs.Sound.{Sound}
use Rattle.edit.specs.Answer.{Reply, refuse}
use Rattle.rules.specs.Step.{step}
use Rattle.rules.specs.Script.{run}
use Rattle.rules.specs.Calls.{Call, single, script, bytes_of, left_by, answers_to}
use Rattle.rules.specs.Told.{accepted, tell_cut, tell, recall}
use Rattle.rules.specs.Demand.{View, view, Demand3}
use Rattle.rules.specs.Refine.{AsStep, EditAway, AsRun, ScriptAway, Refines, Runs, done, edit_then, script_then}
use Rattle.rules.proofs.Closure.{call_keeps}
use Rattle.rules.proofs.Soundness.{sound_of}
use Rattle.rules.proofs.Alike.{alike_same, alike_demand}
use Rattle.rules.proofs.Whole.{Kept, kept_accept, kept_start, demanded}

-- a refusal tells of no edit
refused_tells : (l : List Edit) (bytes : List ℕ) → tell (refuse 22 ∷ []) l bytes ≡ l
unfolding tell accepted refuse
refused_tells l bytes = go (cut bytes)
  where
    go : (c : Cut) → tell_cut (tell []) l c false ≡ l
    go nothing = unfold tell_cut in refl
    go broken = unfold tell_cut in refl
    go (whole kind fs rest) = unfold tell_cut tell in refl

module _
    (M : Type 0) (Good : M → Type 0) (abs : M → State) (see : M → View)
    (Started : Five → M → Type 0) (Edited : M → List ℕ → Reply → M → Type 0) (Scripted : M → ℕ → List ℕ → ℕ → List Reply → M → Type 0)
    (R : Refines M Good abs see Started Edited Scripted) where
  edit_keeps : (l : List Edit) (m : M) (bytes : List ℕ) (r : Reply) (n : M) → Kept (abs m) l → AsStep (abs m) bytes r (abs n) ⊎ EditAway (abs m) r (abs n) → Kept (abs n) (tell (r ∷ []) l bytes)
  edit_keeps l m bytes r n w (inl a) =
      subst (λ (s : State). Kept s (tell (r ∷ []) l bytes)) (sym a.state) (subst (λ (x : Reply). Kept (step (abs m) bytes).1 (tell (x ∷ []) l bytes)) (sym a.reply) (unfold left_by answers_to bytes_of in (call_keeps Kept kept_accept (abs m) l (single bytes) w)))
  edit_keeps l m bytes r n w (inr a) =
      subst (λ (s : State). Kept s (tell (r ∷ []) l bytes)) (sym a.state) (subst (λ (x : Reply). Kept (abs m) (tell (x ∷ []) l bytes)) (sym a.reply) (subst (Kept (abs m)) (sym (refused_tells l bytes)) w))

  script_keeps : (l : List Edit) (m : M) (room : ℕ) (bytes : List ℕ) (code : ℕ) (rs : List Reply) (n : M) → Kept (abs m) l → AsRun (abs m) room bytes code rs (abs n) ⊎ ScriptAway (abs m) code rs (abs n) → Kept (abs n) (tell rs l bytes)
  script_keeps l m room bytes code rs n w (inl a) =
      subst (λ (s : State). Kept s (tell rs l bytes)) (sym a.state) (subst (λ (x : List Reply). Kept (run room (abs m) bytes).state (tell x l bytes)) (sym a.answers) (unfold left_by answers_to bytes_of in (call_keeps Kept kept_accept (abs m) l (script room bytes) w)))
  script_keeps l m room bytes code rs n w (inr a) =
      subst (λ (s : State). Kept s (tell rs l bytes)) (sym a.state) (subst (λ (x : List Reply). Kept (abs m) (tell x l bytes)) (sym a.answers) (unfold tell in w))

  runs_keep : (l : List Edit) {m o : M} {cs : List Call} {rss : List (List Reply)} → Runs M Good abs see Started Edited Scripted m cs rss o → Good m → Kept (abs m) l → Good o × Kept (abs o) (recall l cs rss)
  unfolding recall bytes_of
  runs_keep l done so w = (so, w)
  runs_keep l {m} (edit_then {n = n} {bytes = bytes} {r = r} e rest) so w =
      let a = R.edits m bytes r n so (sound_of (abs m) w.core) e in
      runs_keep (tell (r ∷ []) l bytes) rest a.0 (edit_keeps l m bytes r n w a.1)
  runs_keep l {m} (script_then {n = n} {room = room} {code = code} {bytes = bytes} {rs = rs} e rest) so w =
      let a = R.scripts m room bytes code rs n so (sound_of (abs m) w.core) e in
      runs_keep (tell rs l bytes) rest a.0 (script_keeps l m room bytes code rs n w a.1)

  started_kept : (k : Five) (m : M) → abs m ≡ start k → Kept (abs m) []
  started_kept k m e = subst (λ (s : State). Kept s []) (sym e) (kept_start k)

  -- after every list of calls of a memory newly started with any capacities, what the readers show of it meets demand 3
  pub demand_3_of_memory : (k : Five) (m o : M) (cs : List Call) (rss : List (List Reply)) → Started k m → Runs M Good abs see Started Edited Scripted m cs rss o → Demand3 (see o) (recall [] cs rss)
  demand_3_of_memory k m o cs rss b runs =
      let a = R.starts k m b in
      let z = runs_keep [] runs a.0 (started_kept k m a.1) in
      alike_demand (see o) (view (abs o)) (R.seen o z.0 (sound_of (abs o) z.1.core)) (recall [] cs rss) (demanded (abs o) (recall [] cs rss) z.1)

  -- and it is sound: no call of such a list gets 6
  pub memory_sound : (k : Five) (m o : M) (cs : List Call) (rss : List (List Reply)) → Started k m → Runs M Good abs see Started Edited Scripted m cs rss o → Good o × Sound (abs o)
  memory_sound k m o cs rss b runs =
      let a = R.starts k m b in
      let z = runs_keep [] runs a.0 (started_kept k m a.1) in
      (z.0, sound_of (abs o) z.1.core)

-- ---- the rules themselves are such a store: the duties can be met

pub ByRuleStart : Five → State → Type 0
ByRuleStart k s = s ≡ start k

pub ByRuleEdit : State → List ℕ → Reply → State → Type 0
ByRuleEdit s bytes r t = AsStep s bytes r t

pub ByRuleScript : State → ℕ → List ℕ → ℕ → List Reply → State → Type 0
ByRuleScript s room bytes code rs t = AsRun s room bytes code rs t

pub by_rule : Refines State (λ _. Unit {0}) (λ s. s) view ByRuleStart ByRuleEdit ByRuleScript
unfolding ByRuleStart ByRuleEdit ByRuleScript
by_rule = record { starts = λ k m e. (tt, e); edits = λ m bytes r n _ _ e. (tt, inl e); scripts = λ m room bytes code rs n _ _ e. (tt, inl e); seen = λ m _ _. alike_same (view m) }
