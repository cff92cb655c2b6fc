-- The contract of an edit from its refusal: refused, nothing changed; or accepted. Assumes nothing.
use mathlib.Core.Path.{◌≡◌, refl, sym, ap, ◌∙◌, subst}
use mathlib.Core.List.{List}
use Prim.Native.Nat.{ℕ, suc, ◌-◌}
use native.Mathlib.Omega.{arith}
use Rattle.edit.specs.Record.{Edit}
use Rattle.std.specs.Prelude.{Ok, Err, IsErr, IsErrAnd}
use Rattle.edit.specs.declared.Refusal.{Refusal}
use Rattle.edit.specs.Kinds.{number_of}
use Rattle.edit.specs.Answer.{Answer, Reply, found, refuse, numbers_of}
use Rattle.edit.proofs.Numbers.{number_of-positive}
use Rattle.rules.specs.State.{accept}
use Rattle.rules.specs.Refusal.{refusal_of}
use Rattle.rules.specs.Step.{answer, perform}
use Rattle.places.specs.Alias.{RState}
use Rattle.places.specs.Hist.{meaning}
use Rattle.places.specs.Settled.{Settles}
use Rattle.places.proofs.RuleRefusals.{refused, accepted}
use Rattle.places.proofs.Settling.{settles_same}
use Rattle.context.specs.declared.Layout.{Layout}
use Rattle.context.specs.Memory.{part, state_of, SoundStore}
use Rattle.context.specs.Performed.{abs, Performed}

pub refuses : {l : Layout} {m : List ℕ} (E : Edit) → SoundStore l m → (r : Refusal) → refusal_of (meaning (state_of l m)) E ≡ number_of r → Performed l E m m (Err r)
unfolding abs numbers_of
refuses {l} {m} E S r e =
    let s : RState = meaning (state_of l m) in
    let c : ℕ = number_of r in
    let k : c ≡ suc (c - 1) = omega (arith, number_of-positive r) in
    let p : perform s E ≡ (refuse (suc (c - 1)), s) = refused s E (c - 1) (e ∙ k) in
    record { sound = S; reply = ap refuse k ∙ sym (ap (λ (x : Reply × RState). x.0) p); state = sym (ap (λ (x : Reply × RState). x.1) p); places = settles_same (λ k. refl); kept = λ z. refl; rest = refl }

pub accepts : {l : Layout} {m m' : List ℕ} (E : Edit) → SoundStore l m' → refusal_of (meaning (state_of l m)) E ≡ 0 → meaning (state_of l m') ≡ accept E (meaning (state_of l m)) → part l m' 14 ≡ part l m 14
    → Settles (state_of l m) (state_of l m') → (a b : ℕ) → answer E (meaning (state_of l m)) (accept E (meaning (state_of l m))).history ≡ found a b → Performed l E m m' (Ok (a, b))
unfolding abs numbers_of
accepts {l} {m} E S e st rest places a b an =
    let s : RState = meaning (state_of l m) in
    let p : perform s E ≡ (answer E s (accept E s).history, accept E s) = accepted s E e in
    record { sound = S; reply = sym an ∙ sym (ap (λ (x : Reply × RState). x.0) p); state = st ∙ sym (ap (λ (x : Reply × RState). x.1) p); places = places; kept = λ z. absurd (z e); rest = rest }

-- the edit that a record asks for
pub as_asked : {l : Layout} {D E : Edit} {m m' : List ℕ} {r : Answer} → D ≡ E → Performed l D m m' r → Performed l E m m' r
as_asked {l} {m} {m'} {r} e P = subst (λ (E : Edit). Performed l E m m' r) e P

-- the refusal of a step that a `?` passes on
pub passed_on : {l : Layout} {E : Edit} {m m' : List ℕ} {e : Refusal} (r : Answer) → IsErr r × IsErrAnd r (λ y. y ≡ e) → Performed l E m m' (Err e) → Performed l E m m' r
passed_on (Ok x) h P = absurd h.1
passed_on (Err y) h P = rw h.1 P
