-- The steps of a script: one record, and the records from there on. Assumes nothing.
use mathlib.Core.Path.{◌≡◌, refl, sym, ap, ◌∙◌, subst}
use mathlib.Core.List.{List, [], ◌∷◌, ◌++◌, append-nil}
use Prim.Native.Nat.{ℕ, zero, suc, ◌+◌, ◌-◌, ◌*◌, ◌/◌, ◌≤◌, ◌<◌}
use native.Mathlib.Omega.{arith}
use native.Mathlib.Nat.{sub-zero}
use lib.ListN.{length, drop, length-append, length-drop}
use Rattle.std.specs.Prelude.{Option, Result, Some, None, Ok, Err}
use Rattle.std.specs.Result.{result_unwrap_or}
use Rattle.edit.specs.Kinds.{code_of}
use Rattle.edit.specs.Record.{Cut, nothing, broken, whole, cut, Read, read}
use Rattle.edit.specs.Taken.{record_kind, fields_of, record_at, cut_of, NextCut, edit_by, read_of, Taken}
use Rattle.edit.specs.Answer.{Reply, refuse, Answer, numbers_of, Put}
use Rattle.edit.specs.declared.Kind.{Kind}
use Rattle.edit.specs.declared.Refusal.{Refusal}
use Rattle.edit.specs.declared.Refusal.TheVariants.{Malformed, NoRoom}
use Rattle.rules.specs.Step.{obey}
use Rattle.rules.proofs.Closure.{accepted_reply}
use Rattle.rules.specs.Script.{ended_with, after_reply, turn, run_by, run}
use Rattle.rules.specs.Script as Rules
use Rattle.places.specs.Alias.{RState}
use Rattle.places.proofs.Settling.{settles_same}
use Rattle.context.specs.declared.Layout.{Layout}
use Rattle.context.specs.Memory.{part, SoundStore}
use Rattle.context.specs.Performed.{abs}
use Rattle.edits.specs.Scratch.{PerformedWith}
use Rattle.script.specs.Calls.{flat, Over, Course, over, next, RanOn}
use Rattle.script.specs.Records.{Obeyed, WentOn, Stepped, before, Going}
use Rattle.script.proofs.Turns.{some_left, turn_full, turn_broken, turn_whole, run_turn, run_on, run_none, before_ended, before_more}
use Rattle.script.proofs.Written.{written_more}

-- ---- a record that was read

module _ {l : Layout} {m : List ℕ} (S : SoundStore l m) (bytes : List ℕ) where
  pub obeyed_refused : {e : Refusal} → Taken bytes (Err e) → (s : List ℕ) → Obeyed l (read (record_kind bytes) (fields_of bytes)) m m s s (Err e)
  unfolding read_of obey numbers_of
  obeyed_refused T s = record {
    sound = S;
    reply = ap (λ (x : Read). (obey (abs l m) x).0) (sym T.same);
    state = ap (λ (x : Read). (obey (abs l m) x).1) (sym T.same);
    places = settles_same (λ k. refl);
    kept = λ n. refl;
    rest = refl;
    scratch = refl;
  }

  pub obeyed_asks : {k : Kind} → Taken bytes (Ok k) → {m' s s' : List ℕ} {a : Answer} → PerformedWith l (edit_by k (fields_of bytes)) m m' s s' a → Obeyed l (read (record_kind bytes) (fields_of bytes)) m m' s s' a
  unfolding read_of obey
  obeyed_asks {k} T P = record {
    sound = P.performed.sound;
    reply = P.performed.reply ∙ ap (λ (x : Read). (obey (abs l m) x).0) (sym T.same);
    state = P.performed.state ∙ ap (λ (x : Read). (obey (abs l m) x).1) (sym T.same);
    places = P.performed.places;
    kept = λ n. P.performed.kept (λ z. n (ap (λ (x : Read). (obey (abs l m) x).0.refusal) T.same ∙ accepted_reply (abs l m) (edit_by k (fields_of bytes)) z));
    rest = P.performed.rest;
    scratch = P.scratch;
  }

-- ---- no record is obeyed any more

over_full : (c : Cut) (room : ℕ) → room ≡ 0 → Over c room
over_full nothing zero e = tt
over_full broken zero e = tt
over_full (whole kind fs rest) zero e = tt
over_full nothing (suc room) e = tt
over_full broken (suc room) e = tt
over_full (whole kind fs rest) (suc room) e = omega (arith, e)

over_none : (bytes : List ℕ) (room : ℕ) → length bytes ≡ 0 → Over (cut bytes) room
unfolding cut
over_none [] room h = tt
over_none (x ∷ bytes) room h = absurd (omega arith)

-- ---- one record of a script

-- a whole record was found
pub found : {bytes : List ℕ} {at end : ℕ} (r : Result (Option ℕ) Refusal) → NextCut bytes at r → result_unwrap_or r None ≡ Some end → NextCut bytes at (Ok (Some end))
found {bytes} {at} (Ok o) N e = subst (λ (o : Option ℕ). NextCut bytes at (Ok o)) e N
found (Err x) N e = let z : ◌≡◌ {A = ℕ} 0 1 = cc in absurd (omega arith)

module _ (l : Layout) (bytes : List ℕ) (at count : ℕ) (m s out : List ℕ) where
  pub step_full : at < length bytes → length out / 3 ≤ count → Stepped l bytes at count m m s s out out (Err NoRoom)
  step_full h r = record {
    step = record { turned = λ on. turn_full on (abs l m) (drop at bytes) (length out / 3 - count) (omega (arith, length-drop at bytes)) (omega arith); over = over_full (cut (drop at bytes)) (length out / 3 - count) (omega arith); kept = refl; answers = refl };
    scratch = refl;
  }

  -- before the end of the bytes, a search finds a record, or a broken one
  step_left : at < length bytes → NextCut bytes at (Ok None) → ⊥
  unfolding cut_of
  step_left h N = some_left (drop at bytes) (omega (arith, length-drop at bytes)) N.same

  step_broken : {e : Refusal} → NextCut bytes at (Err e) → count < length out / 3 → {out' : List ℕ} → Put out out' count (numbers_of (Err Malformed)) → Stepped l bytes at count m m s s out out' (Ok None)
  unfolding cut_of numbers_of
  step_broken {e} N h {out'} P = record {
    step = record {
      turned = λ on. turn_broken on (abs l m) (cut (drop at bytes)) (length out / 3 - count) (length out / 3 - suc count) N.same (omega arith);
      over = subst (λ (c : Cut). Over c (length out / 3 - count)) (sym N.same) tt;
      room = h;
      kept = refl;
      answers = P;
    };
    scratch = refl;
  }

  -- none was found
  pub step_last : at < length bytes → (r : Result (Option ℕ) Refusal) → NextCut bytes at r → result_unwrap_or r None ≡ None → count < length out / 3 → {out' : List ℕ} → Put out out' count (numbers_of (Err Malformed)) → Stepped l bytes at count m m s s out out' (Ok None)
  step_last h (Ok None) N e k P = absurd (step_left h N)
  step_last h (Ok (Some end)) N e k P = let z : ◌≡◌ {A = ℕ} 0 1 = cc in absurd (omega arith)
  step_last h (Err x) N e k P = step_broken N k P

  pub step_whole : {end : ℕ} → NextCut bytes at (Ok (Some end)) → count < length out / 3 → {m' s' out' : List ℕ} {a : Answer} → Obeyed l (read (record_kind (record_at bytes at end)) (fields_of (record_at bytes at end))) m m' s s' a
      → Put out out' count (numbers_of a) → Stepped l bytes at count m m' s s' out out' (Ok (Some end))
  unfolding cut_of
  step_whole {end} N h {a = a} O P = record {
    step = record {
      reply = numbers_of a;
      turned = λ on.
          turn_whole on (abs l m) (cut (drop at bytes)) (length out / 3 - count) (length out / 3 - suc count) (record_kind (record_at bytes at end)) (fields_of (record_at bytes at end)) (drop end bytes) N.same (omega arith)
          ∙ ap (λ (x : Reply). after_reply x (on (length out / 3 - suc count) (obey (abs l m) (read (record_kind (record_at bytes at end)) (fields_of (record_at bytes at end)))).1 (drop end bytes))) (sym O.reply)
          ∙ ap (λ (x : RState). after_reply (numbers_of a) (on (length out / 3 - suc count) x (drop end bytes))) (sym O.state);
      kind = record_kind (record_at bytes at end);
      fields = fields_of (record_at bytes at end);
      cut_off = N.same;
      words = record { sound = O.sound; state = O.state; places = O.places; kept = O.kept };
      room = h;
      lies = N.lies end refl;
      sound = O.sound;
      rest = O.rest;
      answers = P;
    };
    scratch = O.scratch;
  }

-- ---- all of them

pub going_first : {l : Layout} {m : List ℕ} (bytes out : List ℕ) → SoundStore l m → Going l bytes m m out out 0 0
unfolding before flat
going_first {l} {m} bytes out S = record {
  replies = [];
  counted = refl;
  whole = ap (λ (n : ℕ). run n (abs l m) bytes) (sym (sub-zero (length out / 3)));
  places = λ m' c. subst (λ (n : ℕ). Course l bytes n m m') (sub-zero (length out / 3)) c;
  written = refl;
  long = refl;
  room = omega arith;
  inside = omega arith;
  sound = S;
  rest = refl;
}

module _ {l : Layout} {bytes m₀ m out₀ out : List ℕ} {at count : ℕ} (G : Going l bytes m₀ m out₀ out at count) where
  abbrev left : ℕ
  left = length out₀ / 3 - count

  pub same_room : length out / 3 ≡ length out₀ / 3
  same_room = ap (λ (n : ℕ). n / 3) G.long

  -- the run of what is left ends here, with these answers
  ends : (r : Result (Unit {0}) Refusal) (k : ℕ) (xs : List Reply) → k ≡ count + length xs → {m' out' : List ℕ} → run left (abs l m) (drop at bytes) ≡ ended_with (code_of r) xs (abs l m) → m' ≡ m
      → Over (cut (drop at bytes)) left → out' ≡ flat (G.replies ++ xs) ++ drop (3 * k) out₀ → RanOn l bytes m₀ m' out₀ out' (record { end = r; count = k })
  unfolding ended_with
  ends r k xs c {m'} e z o w =
      let all : run (length out₀ / 3) (abs l m₀) bytes ≡ ended_with (code_of r) (G.replies ++ xs) (abs l m) = G.whole ∙ ap (before G.replies) e ∙ before_ended G.replies xs (code_of r) (abs l m) in
      record {
        sound = subst (SoundStore l) (sym z) G.sound;
        state = ap (abs l) z ∙ ap (λ (x : Rules.Ran). x.state) (sym all);
        places = subst (λ (x : List ℕ). Course l bytes (length out₀ / 3) m₀ x) (sym z) (G.places m (over o));
        code = ap (λ (x : Rules.Ran). x.code) (sym all);
        count = omega (arith, length-append G.replies xs, G.counted, ap (λ (x : Rules.Ran). length x.answers) all);
        answers = w ∙ ap (λ (x : Rules.Ran). flat x.answers ++ drop (3 * k) out₀) (sym all);
        rest = ap (λ (x : List ℕ). part l x 14) z ∙ G.rest;
      }

  -- the turn at this record, with the room that is left
  here : (on : ℕ → RState → List ℕ → Rules.Ran) → turn on (abs l m) (cut (drop at bytes)) left ≡ turn on (abs l m) (cut (drop at bytes)) (length out / 3 - count)
  here on = ap (λ (n : ℕ). turn on (abs l m) (cut (drop at bytes)) (n - count)) (sym same_room)

  -- the room that is left is counted from either buffer
  over_here : Over (cut (drop at bytes)) (length out / 3 - count) → Over (cut (drop at bytes)) left
  over_here o = subst (λ (n : ℕ). Over (cut (drop at bytes)) (n - count)) same_room o

  pub going_stop : {e : Refusal} {m' s s' out' : List ℕ} → Stepped l bytes at count m m' s s' out out' (Err e) → RanOn l bytes m₀ m' out₀ out' (record { end = Err e; count = count })
  going_stop {e} T =
      ends (Err e) count [] (omega arith) (run_turn left (abs l m) (drop at bytes) ∙ here (run_by (length (drop at bytes))) ∙ T.step.turned (run_by (length (drop at bytes)))) T.step.kept (over_here T.step.over)
      (T.step.answers ∙ G.written ∙ ap (λ (x : List Reply). flat x ++ drop (3 * count) out₀) (sym (append-nil G.replies)))

  pub going_last : {m' s s' out' : List ℕ} → Stepped l bytes at count m m' s s' out out' (Ok None) → RanOn l bytes m₀ m' out₀ out' (record { end = Ok tt; count = count + 1 })
  going_last T =
      ends (Ok tt) (count + 1) (refuse 1 ∷ []) refl (run_turn left (abs l m) (drop at bytes) ∙ here (run_by (length (drop at bytes))) ∙ T.step.turned (run_by (length (drop at bytes)))) T.step.kept (over_here T.step.over)
      (written_more G.replies (refuse 1) count out₀ out _ G.counted (omega (arith, T.step.room, same_room)) G.long G.written T.step.answers)

  pub going_on : {end : ℕ} {m' s s' out' : List ℕ} → Stepped l bytes at count m m' s s' out out' (Ok (Some end)) → Going l bytes m₀ m' out₀ out' end (count + 1)
  going_on {end} {m'} {out' = out'} T =
      let W : WentOn l bytes at count m m' out out' end = T.step in
      let f : ℕ = length (drop at bytes) in
      record {
        replies = G.replies ++ W.reply ∷ [];
        counted = omega (arith, length-append G.replies (W.reply ∷ []), G.counted);
        whole =
            G.whole
            ∙ ap (before G.replies) (run_turn left (abs l m) (drop at bytes) ∙ here (run_by (length (drop at bytes))) ∙ W.turned (run_by (length (drop at bytes))))
            ∙ ap (λ (x : Rules.Ran). before G.replies (after_reply W.reply x))
            (run_on (length (drop at bytes)) (length out / 3 - suc count) (abs l m') (drop end bytes) (omega (arith, length-drop at bytes, length-drop end bytes, W.lies.head, W.lies.inside)) ∙ ap (λ (n : ℕ). run n (abs l m') (drop end bytes)) room_on)
            ∙ sym (before_more G.replies W.reply (run (length out₀ / 3 - (count + 1)) (abs l m') (drop end bytes)));
        places = λ m'' c. G.places m'' (subst (λ (n : ℕ). Course l (drop at bytes) n m m'') (omega (arith, W.room, same_room)) (next W.kind W.fields (drop end bytes) W.cut_off W.words c));
        written = written_more G.replies W.reply count out₀ out out' G.counted (omega (arith, W.room, same_room)) G.long G.written W.answers;
        long = W.answers.long ∙ G.long;
        room = omega (arith, W.room, same_room);
        inside = W.lies.inside;
        sound = W.sound;
        rest = W.rest ∙ G.rest;
      }
    where
      room_on : length out / 3 - suc count ≡ length out₀ / 3 - (count + 1)
      room_on = omega (arith, same_room)

  pub going_end : length bytes ≤ at → RanOn l bytes m₀ m out₀ out (record { end = Ok tt; count = count })
  going_end h =
      ends (Ok tt) count [] (omega arith) (run_none left (abs l m) (drop at bytes) (omega (arith, length-drop at bytes))) refl (over_none (drop at bytes) left (omega (arith, length-drop at bytes))) (G.written ∙ ap (λ (x : List Reply). flat x ++ drop (3 * count) out₀) (sym (append-nil G.replies)))
