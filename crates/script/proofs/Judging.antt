-- The order of a single edit's refusals, and of a script's: from the record, then 6, then 22, then the store. Assumes nothing.
use mathlib.Core.Path.{◌≡◌, refl, sym, ap, ◌∙◌, subst}
use mathlib.Core.Logic.{◌≢◌, inl, inr}
use mathlib.Core.List.{List, [], ◌∷◌}
use Prim.Native.Nat.{ℕ, ◌-◌, ◌≤◌, ◌<◌}
use native.Mathlib.Omega.{arith}
use lib.ListN.{length, take, drop, replicate, length-drop, length-replicate}
use lib.Seq.{take-length}
use Rattle.std.specs.Prelude.{Option, Some, None, Ok, Err, Bool, true, false, not, eqb}
use Rattle.std.proofs.lemmas.Bool.Decides.{eqb_tells}
use Rattle.std.specs.Option.{option_eq}
use Rattle.edit.specs.Record.{Edit, whole, cut, Read, refused, read}
use Rattle.edit.specs.Kinds.{number_of}
use Rattle.edit.specs.Taken.{record_kind, fields_of, record_at, cut_of, NextCut, edit_by, read_of, Taken}
use Rattle.edit.specs.Answer.{refuse, Answer, numbers_of}
use Rattle.edit.specs.declared.Kind.{Kind}
use Rattle.edit.specs.declared.Refusal.{Refusal}
use Rattle.edit.specs.declared.Refusal.TheVariants.{Malformed}
use Rattle.context.specs.declared.Layout.{Layout}
use Rattle.context.specs.Memory.{SoundStore}
use Rattle.edits.specs.Scratch.{Scratch, PerformedWith}
use Rattle.script.specs.declared.Ran.{Ran}
use Rattle.script.specs.Calls.{SoundWords, Readied, single, Away, Answered, Judged, AnsweredWith, Edited, Ended, RanOn, Scripted}
use Rattle.script.specs.Records.{RanWith}

-- turned away, with this refusal
away : {n : ℕ} (m : List ℕ) (e : Refusal) → number_of e ≡ n → Away n m m (Err e)
unfolding numbers_of
away m e q = record { reply = ap refuse q; kept = refl }

-- a sound memory has a header
pub header : (m : List ℕ) → SoundWords m → 5 ≤ length m
header m S = omega (arith, S.well.fits)

-- the store is sound with the layout that is ready, and the scratch may be lent
pub sound_by : {l : Layout} (m : List ℕ) (room : ℕ) → Readied m room (Ok l) → SoundStore l m
sound_by m room R = subst (λ (k : Layout). SoundStore k m) (sym R.0) R.1

pub scratch_by : {l : Layout} (m s : List ℕ) (n : ℕ) → Readied m (length s) (Ok l) → s ≡ replicate n 0 → Scratch l s
scratch_by m s n R z = record {
  long = omega (arith, R.2, ap (λ (x : Layout). x.ops) R.0);
  zeros = z ∙ ap (λ (k : ℕ). replicate k 0) (sym (ap length z ∙ length-replicate {A = ℕ} n 0));
}

-- ---- a single edit

module _ (E : Edit) (m : List ℕ) (room : ℕ) where
  judged_unready : {e : Refusal} → Readied m room (Err e) → Judged E room m m (Err e)
  judged_unready {e} (inl u) = record { unsound = λ _. away m e u.1; short = λ S. absurd (u.0 S); done = λ S. absurd (u.0 S) }
  judged_unready {e} (inr u) = record { unsound = λ n. absurd (n u.0); short = λ _ _. away m e u.2; done = λ _ k. absurd (omega (arith, k, u.1)) }

  judged_done : {l : Layout} → Readied m room (Ok l) → {m' s s' : List ℕ} {r : Answer} → PerformedWith l E m m' s s' r → Judged E room m m' r
  judged_done R {m'} {s} {s'} {r} P = record { unsound = λ n. absurd (n R.1); short = λ _ k. absurd (omega (arith, k, R.2)); done = λ _ _. (subst (λ (x : Layout). PerformedWith x E m m' s s' r) R.0 P).performed }

module _ (bytes m s : List ℕ) where
  pub answered_refused : {e : Refusal} → Taken bytes (Err e) → AnsweredWith (read (record_kind bytes) (fields_of bytes)) m m s s (Err e)
  unfolding read_of
  answered_refused {e} T = subst (λ (q : Read). AnsweredWith q m m s s (Err e)) (sym T.same) (record { answered = away m e refl; scratch = refl })

  module _ {k : Kind} (T : Taken bytes (Ok k)) where
    asked : {m' s' : List ℕ} {r : Answer} → Judged (edit_by k (fields_of bytes)) (length s) m m' r → s' ≡ s → AnsweredWith (read (record_kind bytes) (fields_of bytes)) m m' s s' r
    unfolding read_of
    asked {m'} {s'} {r} J z = subst (λ (q : Read). AnsweredWith q m m' s s' r) (sym T.same) (record { answered = J; scratch = z })

    pub answered_unready : {e : Refusal} → Readied m (length s) (Err e) → AnsweredWith (read (record_kind bytes) (fields_of bytes)) m m s s (Err e)
    answered_unready R = asked (judged_unready (edit_by k (fields_of bytes)) m (length s) R) refl

    pub answered_done : {l : Layout} → Readied m (length s) (Ok l) → {m' s' : List ℕ} {r : Answer} → PerformedWith l (edit_by k (fields_of bytes)) m m' s s' r → AnsweredWith (read (record_kind bytes) (fields_of bytes)) m m' s s' r
    answered_done R P = asked (judged_done (edit_by k (fields_of bytes)) m (length s) R P) P.scratch

-- the first record ends where the bytes end
abbrev ends_there : List ℕ → Option ℕ → Bool
ends_there bytes r = option_eq eqb r (Some (length bytes))

apart : (a b : ℕ) → true ≡ not (eqb a b) → a ≢ b
apart a b h = elim (eqb_tells a b) [ inl t ↦ absurd (let z : true ≡ false = h ∙ ap not t.0 in cc) | inr t ↦ t.1 ]

together : (a b : ℕ) → false ≡ not (eqb a b) → a ≡ b
together a b h = elim (eqb_tells a b) [ inl t ↦ t.1 | inr t ↦ absurd (let z : false ≡ true = h ∙ ap not t.0 in cc) ]

-- the bytes are one record, or not
module _ (bytes m s₀ s : List ℕ) (cleared : s ≡ replicate (length s₀) 0) where
  not_one : {e : Refusal} → e ≡ Malformed → single (cut bytes) ≡ refused 1 → Edited bytes m m s₀ s (Err e)
  not_one {e} q c = record { answered = subst (λ (x : Read). Answered x (length s₀) m m (Err e)) (sym c) (away m e (ap number_of q)); zeros = cleared }

  pub edited_broken : {e : Refusal} → NextCut bytes 0 (Err e) → Edited bytes m m s₀ s (Err e)
  unfolding cut_of single
  edited_broken {e} N = not_one (N.broken e refl) (ap single N.same)

  pub edited_part : {r : Option ℕ} → NextCut bytes 0 (Ok r) → true ≡ not (ends_there bytes r) → Edited bytes m m s₀ s (Err Malformed)
  unfolding cut_of single
  edited_part {r = None} N n = not_one refl (ap single N.same)
  edited_part {r = Some end} N n = not_one refl (ap single N.same ∙ go (drop end bytes) (omega (arith, length-drop end bytes, (N.lies end refl).inside, apart end (length bytes) n)))
    where
      go : (z : List ℕ) → 0 < length z → single (whole (record_kind (record_at bytes 0 end)) (fields_of (record_at bytes 0 end)) z) ≡ refused 1
      go [] k = absurd (omega arith)
      go (x ∷ z) k = refl

  pub edited_one : {r : Option ℕ} → NextCut bytes 0 (Ok r) → false ≡ not (ends_there bytes r) → {m' s' : List ℕ} {a : Answer} → AnsweredWith (read (record_kind bytes) (fields_of bytes)) m m' s s' a → Edited bytes m m' s₀ s' a
  unfolding cut_of single
  edited_one {r = None} N n A = absurd (cc)
  edited_one {r = Some end} N n {m'} {s'} {a} A = record {
    answered = subst (λ (q : Read). Answered q (length s₀) m m' a) (sym (ap single N.same ∙ go (drop end bytes) (omega (arith, length-drop end bytes, together end (length bytes) n)) ∙ ap (λ (z : List ℕ). read (record_kind z) (fields_of z)) same))
        (subst (λ (n : ℕ). Answered (read (record_kind bytes) (fields_of bytes)) n m m' a) (ap length cleared ∙ length-replicate {A = ℕ} (length s₀) 0) A.answered);
    zeros = A.scratch ∙ cleared;
  }
    where
      same : record_at bytes 0 end ≡ bytes
      same = ap (λ (n : ℕ). take n bytes) (let z : end - 0 ≡ length bytes = omega (arith, together end (length bytes) n) in z) ∙ take-length bytes

      go : (z : List ℕ) → length z ≡ 0 → single (whole (record_kind (record_at bytes 0 end)) (fields_of (record_at bytes 0 end)) z) ≡ read (record_kind (record_at bytes 0 end)) (fields_of (record_at bytes 0 end))
      go [] k = refl
      go (x ∷ z) k = absurd (omega arith)

-- ---- a script

module _ (bytes m s₀ s out : List ℕ) (cleared : s ≡ replicate (length s₀) 0) where
  same_long : length s ≡ length s₀
  same_long = ap length cleared ∙ length-replicate {A = ℕ} (length s₀) 0

  ended : {n : ℕ} (e : Refusal) → number_of e ≡ n → Ended n m m out out (record { end = Err e; count = 0 })
  ended e q = record { code = q; count = refl; kept = refl; answers = refl }

  pub scripted_unready : {e : Refusal} → Readied m (length s) (Err e) → Scripted bytes m m s₀ s out out (record { end = Err e; count = 0 })
  scripted_unready {e} (inl u) = record { unsound = λ _. ended e u.1; short = λ S. absurd (u.0 S); done = λ S. absurd (u.0 S); zeros = cleared }
  scripted_unready {e} (inr u) = record { unsound = λ n. absurd (n u.0); short = λ _ _. ended e u.2; done = λ _ k. absurd (omega (arith, k, u.1, same_long)); zeros = cleared }

  pub scripted_done : {l : Layout} → Readied m (length s) (Ok l) → {m' s' out' : List ℕ} {r : Ran} → RanWith l bytes m m' s s' out out' r → Scripted bytes m m' s₀ s' out out' r
  scripted_done R {m'} {s'} {out'} {r} P = record {
    unsound = λ n. absurd (n R.1);
    short = λ _ k. absurd (omega (arith, k, R.2, same_long));
    done = λ _ _. subst (λ (x : Layout). RanOn x bytes m m' out out' r) R.0 P.ran;
    zeros = P.scratch ∙ cleared;
  }
