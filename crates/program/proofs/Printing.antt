-- The program's steps put together: an empty store, the script's run, its answers and the listing. Assumes nothing.
use mathlib.Core.Path.{◌≡◌, refl, sym, ap, ap₂, ◌∙◌, subst}
use mathlib.Core.Bool.{Bool, true, false}
use mathlib.Core.List.{List, [], ◌∷◌, ◌++◌}
use Prim.Native.Nat.{ℕ, ◌+◌, ◌-◌, ◌*◌, ◌/◌, ◌≤◌, ◌<◌}
use native.Mathlib.Decide.{dec_lt}
use native.Mathlib.Omega.{arith}
use lib.ListN.{length, take, drop, length-append, length-drop}
use borrow.Author.Tests.{lt-ltb, le-ltb}
use Rattle.std.proofs.Math.Seq.{take-append_seam}
use Rattle.std.specs.Prelude.{Result, Ok, Err, IsOk}
use Rattle.edit.specs.Answer.{Reply}
use Rattle.edit.specs.Kinds.{code_of}
use Rattle.edit.specs.declared.Refusal.{Refusal}
use Rattle.edit.proofs.Numbers.{number_of-positive}
use Rattle.rules.specs.State.{start}
use Rattle.rules.specs.Script as rules-script
use Rattle.rules.specs.Listing as rules
use Rattle.context.specs.declared.Layout.{Layout}
use Rattle.context.specs.Layout.{arena}
use Rattle.context.specs.Memory.{SoundStore, layout_of}
use Rattle.context.specs.Start.{start_code, StartBy}
use Rattle.context.specs.Performed.{abs}
use Rattle.context.proofs.Checking.{headed}
use Rattle.script.specs.declared.Ran.{Ran}
use Rattle.script.specs.Calls.{flat, RanOn, Scripted}
use Rattle.listing.specs.declared.Pen.{Pen}
use Rattle.listing.specs.Writer.{Wrote}
use Rattle.listing.specs.Lines.{replies_from}
use Rattle.listing.proofs.Pens.{and_then, same_text}
use Rattle.program.specs.Program.{capacities, Begun}
use Rattle.program.proofs.Replies.{read_back}

module _ {m m' : List ℕ} (long : length m ≡ 9135) where
  no_refusal : {r : ℕ} → StartBy capacities m m' r → r ≡ 0
  unfolding start_code arena dec_lt
  no_refusal t = t.reply ∙ ap (start_code capacities) long

  pub accepted : (r : Result (Unit {0}) Refusal) → StartBy capacities m m' (code_of r) → IsOk r
  accepted (Ok _) t = refl
  accepted (Err e) t = absurd (omega (arith, no_refusal t, number_of-positive e))

  pub begun : {r : ℕ} → StartBy capacities m m' r → Begun capacities m'
  unfolding rules.program_capacities
  begun t = record { places = refl; sound = (t.started (no_refusal t)).sound; state = t.state (no_refusal t) }

laid : (r : Reply) (rs : List Reply) → flat (r ∷ rs) ≡ r.refusal ∷ r.a ∷ r.b ∷ flat rs
unfolding flat
laid r rs = refl

long : (rs : List Reply) → length (flat rs) ≡ 3 * length rs
unfolding flat
long [] = refl
long (r ∷ rs) = omega (arith, long rs)

module _ {l : Layout} {m bytes m' s s' out out' : List ℕ} {r : Ran} (B : Begun l m) (T : Scripted bytes m m' s s' out out' r) (hs : length s ≡ 128) (ho : length out ≡ 12288) where
  header : l ≡ layout_of m
  header = headed (record { head = B.sound.well.head })

  ran : RanOn l bytes m m' out out' r
  ran = subst (λ (j : Layout). RanOn j bytes m m' out out' r) (sym header) (T.done (subst (λ (j : Layout). SoundStore j m) header B.sound) (omega (arith, hs, ap (λ (j : Layout). j.ops) (sym header ∙ B.places))))

  pub after : SoundStore l m'
  after = ran.sound

  abbrev R : rules-script.Ran
  R = rules-script.run 4096 (start rules.program_capacities) bytes

  the_run : rules-script.run (length out / 3) (abs l m) bytes ≡ R
  the_run = ap₂ (λ n q. rules-script.run n q bytes) (ap (λ (n : ℕ). n / 3) ho) B.state

  counted : r.count ≡ length R.answers
  counted = ran.count ∙ ap (λ (q : rules-script.Ran). length q.answers) the_run

  words : out' ≡ flat R.answers ++ drop (3 * r.count) out
  words = ran.answers ∙ ap (λ (q : rules-script.Ran). flat q.answers ++ drop (3 * r.count) out) the_run

  front : take (3 * r.count) out' ≡ flat R.answers
  front = ap (take (3 * r.count)) words ∙ ap (λ (n : ℕ). take n (flat R.answers ++ drop (3 * r.count) out)) (let e : 3 * r.count ≡ length (flat R.answers) = omega (arith, long R.answers, counted) in e) ∙ take-append_seam (flat R.answers) (drop (3 * r.count) out)

  third : length (take (3 * r.count) out') / 3 ≡ length R.answers
  third = omega (arith, ap length front, long R.answers)

  pub few : length out' ≡ length out → (3 * r.count ≤ length out') × (length (take (3 * r.count) out') / 3 ≤ 4294967295)
  few k =
      let w : length out' ≡ length (flat R.answers) + (length out - 3 * r.count) = ap length words ∙ length-append (flat R.answers) (drop (3 * r.count) out) ∙ ap (λ (n : ℕ). length (flat R.answers) + n) (length-drop (3 * r.count) out) in
      let v : length (flat R.answers) ≡ 3 * length R.answers = long R.answers in
      (omega (arith, w, v, counted, k, ho), omega (arith, w, v, counted, k, ho, third))

  replies : replies_from (take (3 * r.count) out') 0 (length (take (3 * r.count) out') / 3) ≡ R.answers
  replies = ap₂ (λ t n. replies_from t 0 n) front third ∙ read_back flat laid R.answers

  pub printed_is : {p q s : Pen ℕ} → Wrote (rules.edit_lines 0 (replies_from (take (3 * r.count) out') 0 (length (take (3 * r.count) out') / 3))) p q → Wrote (rules.listing (abs l m')) q s → Wrote (rules.printed bytes) p s
  unfolding rules.printed
  printed_is v w = and_then (same_text (ap (rules.edit_lines 0) replies) v) (same_text (ap rules.listing (ran.state ∙ ap (λ (q : rules-script.Ran). q.state) the_run)) w)

-- any script
module _ (bytes : List ℕ) {p q : Pen ℕ} where
  pub too_long : 16384 < length bytes → Wrote (rules.text "script too long\n") p q → Wrote (rules.output bytes) p q
  unfolding rules.output
  too_long h w = same_text (ap (λ (t : Bool). elim t [ true ↦ rules.text "script too long\n" | false ↦ rules.printed bytes ]) (sym (lt-ltb 16384 (length bytes) h))) w

  pub not_long : length bytes ≤ 16384 → Wrote (rules.printed bytes) p q → Wrote (rules.output bytes) p q
  unfolding rules.output
  not_long h w = same_text (ap (λ (t : Bool). elim t [ true ↦ rules.text "script too long\n" | false ↦ rules.printed bytes ]) (sym (le-ltb 16384 (length bytes) h))) w
