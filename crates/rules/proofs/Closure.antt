-- What every accepted edit keeps, of a state and the list of the accepted edits so far, holds after every list of calls, with the list that
-- the calls' bytes and answers tell: the one induction of all invariants. Assumes nothing.
use mathlib.Core.Path.{◌≡◌, refl, sym, ap, ◌∙◌, subst}
use mathlib.Core.Bool.{Bool, true, false, cond}
use mathlib.Core.List.{List, [], ◌∷◌}
use Prim.Native.Nat.{ℕ, zero, suc}
use lib.ListN.{length}
use lib.Dec.{T, eqb, eqb→eq}
use Rattle.edit.specs.Record.{Edit, new_operation, new_block, push_use, insert_use, replace_use, remove_use, pop_use, push_value, insert_value, remove_value, pop_value, link_after, link_before, link_front, link_back, unlink, move_region, move_use, replace_some, retarget_some, drop_uses, erase_operation, erase_block, erase_region, verdict, Cut, nothing, broken, whole, cut, Read, refused, asks, read}
use Rattle.rules.proofs.Read.{Small, read_small}
use Rattle.rules.specs.History.{History}
use Rattle.rules.specs.State.{State, accept}
use Rattle.edit.specs.Answer.{Reply, clean, found, refuse}
use Rattle.rules.specs.Refusal.{refusal_of, first_missing, named, from_state, or_else}
use Rattle.rules.specs.Step.{answer, perform, obey, step, step_cut}
use Rattle.rules.specs.Script.{Ran, ended_with, after_reply, turn, run_by, run}
use Rattle.rules.specs.Calls.{Call, single, script, bytes_of, left_by, answers_to, after, all_answers}
use Rattle.rules.specs.Told.{accepted, note, tell_cut, tell, recall}

pub or_else_zero : (m r : ℕ) → T (eqb (or_else m r) 0) → T (eqb m 0) × T (eqb r 0)
unfolding or_else
or_else_zero m r t = go (eqb m 0) refl t
  where
    go : (b : Bool) → eqb m 0 ≡ b → T (eqb (cond b r m) 0) → T (eqb m 0) × T (eqb r 0)
    go true e k = (subst T (sym e) tt, k)
    go false e k = absurd (subst T e k)

-- an accepted edit's reply is an acceptance
answered : (e : Edit) (s : State) (k : History) → T (eqb (refusal_of s e) 0) → (answer e s k).refusal ≡ 0
unfolding answer found clean refusal_of from_state
answered (new_operation fl ts vs bs g) s k t = refl
answered (new_block ts) s k t = refl
answered (push_use sl o d) s k t = refl
answered (insert_use sl o i d) s k t = refl
answered (replace_use sl o i d) s k t = refl
answered (remove_use sl o i) s k t = refl
answered (pop_use sl o) s k t = refl
answered (push_value m o ty) s k t = refl
answered (insert_value m o i ty) s k t = refl
answered (remove_value m o i) s k t = refl
answered (pop_value m o) s k t = refl
answered (link_after m x c) s k t = refl
answered (link_before m x c) s k t = refl
answered (link_front m x c) s k t = refl
answered (link_back m x c) s k t = refl
answered (unlink m x) s k t = refl
answered (move_region r o) s k t = refl
answered (move_use sl a u b) s k t = refl
answered (replace_some a b us) s k t = refl
answered (retarget_some a b ps) s k t = refl
answered (drop_uses th) s k t = refl
answered (erase_operation n) s k t = refl
answered (erase_block n) s k t = refl
answered (erase_region o i) s k t = refl
answered (verdict th) s k t = eqb→eq _ 0 (or_else_zero (first_missing s.history (named (verdict th))) (from_state s (verdict th)) t).1

pub accepted_reply : (s : State) (e : Edit) → refusal_of s e ≡ 0 → (perform s e).0.refusal ≡ 0
unfolding perform
accepted_reply s e z =
    let t : eqb (refusal_of s e) 0 ≡ true = ap (λ (n : ℕ). eqb n 0) z in
    ap (λ (b : Bool). (cond {A = Reply × State} b (answer e s (accept e s).history, accept e s) (refuse (refusal_of s e), s)).0.refusal) t ∙ answered e s (accept e s).history (subst T (sym t) tt)

module _ (P : State → List Edit → Type 0) (keeps : (e : Edit) (s : State) (l : List Edit) → Small e → T (eqb (refusal_of s e) 0) → P s l → P (accept e s) (e ∷ l)) where
  perform_keeps : (s : State) (l : List Edit) (e : Edit) → Small e → P s l → P (perform s e).1 (cond (accepted (perform s e).0) (e ∷ l) l)
  unfolding perform accepted refuse
  perform_keeps s l e f t = go (eqb (refusal_of s e) 0) refl
    where
      go : (b : Bool) → eqb (refusal_of s e) 0 ≡ b → P (cond {A = Reply × State} b (answer e s (accept e s).history, accept e s) (refuse (refusal_of s e), s)).1 (cond (eqb (cond {A = Reply × State} b (answer e s (accept e s).history, accept e s) (refuse (refusal_of s e), s)).0.refusal 0) (e ∷ l) l)
      go true w = rw (answered e s (accept e s).history (subst T (sym w) tt)) (keeps e s l f (subst T (sym w) tt) t)
      go false w = rw w t

  obey_keeps : (s : State) (l : List Edit) (r : Read) → ((e : Edit) → r ≡ asks e → Small e) → P s l → P (obey s r).1 (cond (accepted (obey s r).0) (note l r) l)
  unfolding obey note
  obey_keeps s l (refused n) f t = same (accepted (refuse n))
    where
      same : (b : Bool) → P s (cond b l l)
      same true = t
      same false = t
  obey_keeps s l (asks e) f t = perform_keeps s l e (f e refl) t

  cut_keeps : (s : State) (l : List Edit) (c : Cut) → P s l → P (step_cut s c).1 (tell_cut (tell []) l c (accepted (step_cut s c).0))
  unfolding step_cut tell_cut tell accepted refuse
  cut_keeps s l nothing t = t
  cut_keeps s l broken t = t
  cut_keeps s l (whole kind fs []) t = obey_keeps s l (read kind fs) (read_small kind fs) t
  cut_keeps s l (whole kind fs (x ∷ rest)) t = t

  turn_keeps : (on : ℕ → State → List ℕ → Ran) → ((room : ℕ) (s : State) (l : List Edit) (bytes : List ℕ) → P s l → P (on room s bytes).state (tell (on room s bytes).answers l bytes)) → (s : State) (l : List Edit) (bytes : List ℕ) (c : Cut) (room : ℕ) → cut bytes ≡ c → P s l → P (turn on s c room).state (tell (turn on s c room).answers l bytes)
  unfolding turn ended_with after_reply tell tell_cut
  turn_keeps on ih s l bytes nothing room e t = t
  turn_keeps on ih s l bytes broken zero e t = t
  turn_keeps on ih s l bytes broken (suc room) e t = rw e t
  turn_keeps on ih s l bytes (whole kind fs rest) zero e t = t
  turn_keeps on ih s l bytes (whole kind fs rest) (suc room) e t = rw e (ih room (obey s (read kind fs)).1 _ rest (obey_keeps s l (read kind fs) (read_small kind fs) t))

  run_keeps : (fuel room : ℕ) (s : State) (l : List Edit) (bytes : List ℕ) → P s l → P (run_by fuel room s bytes).state (tell (run_by fuel room s bytes).answers l bytes)
  unfolding run_by ended_with tell
  run_keeps zero room s l bytes t = t
  run_keeps (suc fuel) room s l bytes t = turn_keeps (run_by fuel) (run_keeps fuel) s l bytes (cut bytes) room refl t

  pub call_keeps : (s : State) (l : List Edit) (c : Call) → P s l → P (left_by s c) (tell (answers_to s c) l (bytes_of c))
  unfolding left_by answers_to bytes_of step run
  call_keeps s l (single bytes) t = unfold tell in (cut_keeps s l (cut bytes) t)
  call_keeps s l (script room bytes) t = run_keeps (suc (length bytes)) room s l bytes t

  pub after_told : (cs : List Call) (s : State) (l : List Edit) → P s l → P (after s cs) (recall l cs (all_answers s cs))
  unfolding after recall all_answers
  after_told [] s l t = t
  after_told (c ∷ cs) s l t = after_told cs (left_by s c) _ (call_keeps s l c t)
