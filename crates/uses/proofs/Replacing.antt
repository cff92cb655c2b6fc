-- Replace, each way out: the use at the index ends, and a new one is born there. Assumes nothing.
use mathlib.Core.Path.{◌≡◌, refl, sym, ap, ap₂, ◌∙◌, subst}
use mathlib.Core.Logic.{ite, if_pos, if_neg}
use mathlib.Core.List.{List}
use Prim.Native.Nat.{ℕ, ◌≤◌, ◌<◌}
use native.Mathlib.Decide.{dec_lt}
use native.Mathlib.Omega.{arith}
use lib.Dec.{leb}
use lib.ListN.{length, get_or}
use borrow.Author.Tests.{le-leb, lt-leb}
use Rattle.edit.specs.Record.{Slot, Edit, replace_use}
use Rattle.edit.specs.Answer.{clean, found}
use Rattle.std.proofs.Common.{Ok, Err}
use Rattle.edit.specs.declared.Refusal.TheVariants.{NoIndex, NoNumber}
use Rattle.rules.specs.State.{accept}
use Rattle.rules.specs.Refusal.{named, check, refusal_of}
use Rattle.rules.specs.Step.{answer}
use Rattle.places.specs.Store.{op, usg, slots, use_sets, Con, State, UseHeld}
use Rattle.places.specs.Hist.{meaning}
use Rattle.places.specs.Edits.{birth_use, end_use}
use Rattle.places.specs.Roles.{slot_role, def_kind, def_role}
use Rattle.places.specs.Settled.{Settles}
use Rattle.places.proofs.Settling.{settles_birth_use, settles_end_use, lowest_free}
use Rattle.places.proofs.RuleAccept.{lives_born}
use Rattle.places.proofs.RuleUses.{slot_fits}
use Rattle.places.proofs.RuleEnds.{at_held, ended_order}
use Rattle.places.proofs.RuleReplace.{lives_fit, still_op, still_def, shorter, left_cap, left_next, replace_accept}
use Rattle.places.proofs.RuleCodes.{both_there, replace_code}
use Rattle.context.specs.declared.Layout.{Layout}
use Rattle.context.specs.Memory.{con, state_of, SoundStore, LengthIs}
use Rattle.context.specs.Reading.{NthIs, NextNumberIs}
use Rattle.context.specs.Steps.{EndedUse, CanBear, BorneUse}
use Rattle.context.specs.Performed.{Performed}
use Rattle.uses.specs.Look.{SlotAt, DefAt}
use Rattle.context.proofs.Performing.{refuses, accepts}
use Rattle.uses.proofs.Growing.{cap_is}

module _ {l : Layout} {m : List ℕ} (S : SoundStore l m) {sl : Slot} {n d s k : ℕ} (A : SlotAt l m sl n s) (B : DefAt l m sl d k) {x : ℕ} (X : LengthIs l slots s m x) (i : ℕ) where
  abbrev P : State
  P = state_of l m

  abbrev E : Edit
  E = replace_use sl n i d

  long : x ≡ length (P.list (op, A.place) (slot_role sl))
  long = X.is ∙ ap (λ (r : Con). length (P.list r.1 r.0)) A.row

  code : refusal_of (meaning P) E ≡ check (leb x i) 12 (ite (dec_lt (P.tab usg).next 4294967295) 0 21)
  unfolding named
  code =
      both_there S.sound E A.place n A.live A.number sl d B.place refl B.live B.number
      ∙ replace_code S.sound sl A.place n A.live A.number i d
      ∙ ap (λ (a : ℕ). check (leb a i) 12 (ite (dec_lt (P.tab usg).next 4294967295) 0 21)) (sym long)

  pub past_end : x ≤ i → Performed l E m m (Err NoIndex)
  unfolding check
  past_end h = refuses E S NoIndex (code ∙ ap (λ b. check b 12 (ite (dec_lt (P.tab usg).next 4294967295) 0 21)) (le-leb x i h))

  module _ (i< : i < x) {y : ℕ} (Y : NextNumberIs l usg m y) where
    code₁ : refusal_of (meaning P) E ≡ ite (dec_lt (P.tab usg).next 4294967295) 0 21
    unfolding check
    code₁ = code ∙ ap (λ b. check b 12 (ite (dec_lt (P.tab usg).next 4294967295) 0 21)) (lt-leb x i i<)

    pub no_number : 4294967295 ≤ y → Performed l E m m (Err NoNumber)
    no_number h = refuses E S NoNumber (code₁ ∙ if_neg (dec_lt (P.tab usg).next 4294967295) (λ z. absurd (omega (arith, z, h, Y.is))) 0 21)

    module _ (y< : y < 4294967295) {u : ℕ} (N : NthIs l slots s i m u) where
      code₂ : refusal_of (meaning P) E ≡ 0
      code₂ = code₁ ∙ if_pos (dec_lt (P.tab usg).next 4294967295) (omega (arith, y<, Y.is)) 0 21

      inside : i < length (P.list (op, A.place) (slot_role sl))
      inside = omega (arith, long, i<)

      at : get_or (P.list (op, A.place) (slot_role sl)) i (usg, 0) ≡ (usg, u)
      at = ap (λ (c : Con). get_or (P.list c.1 c.0) i (usg, 0)) (sym A.row) ∙ N.is

      H : UseHeld (P.own (usg, u))
      H = at_held S.sound sl A.place i u A.live inside at

      module _ {m₁ : List ℕ} (D : EndedUse l u m m₁) where
        left : state_of l m₁ ≡ end_use (at_held S.sound sl A.place i u A.live inside at).slot (at_held S.sound sl A.place i u A.live inside at).def (usg, u) P
        unfolding H
        left = D.state H.slot H.def H.in_slot H.in_def

        fewer : length ((state_of l m₁).tab usg).order < l.uses
        fewer = rw left (omega (arith, ended_order S.sound sl A.place i u A.live inside at, left_next S.sound sl A.place i u A.live inside at, lives_born S.sound.linked usg, lives_fit S.sound.linked usg, cap_is l m))

        pub can_bear : CanBear (state_of l m₁) l.uses (con l slots s) (con l use_sets k)
        can_bear =
            rw (A.row, B.row)
            (record {
              room = record { place = fewer; number = rw left (omega (arith, left_next S.sound sl A.place i u A.live inside at, y<, Y.is)) };
              fit = slot_fits sl;
              slot = rw left (still_op S.sound sl A.place i u A.live inside at);
              limit = rw left (shorter S.sound sl A.place i u A.live inside at);
              home = rw left (still_def S.sound sl A.place i u A.live inside at B.place B.live);
            })

        settled : {m₂ : List ℕ} (p : ℕ) → BorneUse l s i k m₁ m₂ p → Settles P (state_of l m₂)
        unfolding H
        settled p R =
            subst (Settles P) (sym R.state)
            (settles_birth_use (con l slots s) i (con l use_sets k) l.uses p (subst (Settles P) (sym left) (settles_end_use H.slot H.def (usg, u) P)) (lowest_free (state_of l m₁) usg p R.dead R.lowest))

        pub replaced : {m₂ : List ℕ} {p : ℕ} → BorneUse l s i k m₁ m₂ p → Performed l E m m₂ (Ok (0, 0))
        unfolding answer clean found
        replaced {m₂} {p} R =
            accepts E R.sound code₂
            (ap meaning (R.state ∙ ap₂ (λ (a b : Con). birth_use a i b l.uses p (state_of l m₁)) A.row B.row ∙ ap (birth_use (slot_role sl, (op, A.place)) i (def_role sl, (def_kind sl, B.place)) l.uses p) left)
            ∙ replace_accept S.sound sl A.place i u A.live inside at B.place l.uses p (rw left at R.dead) (rw (left_cap S.sound sl A.place i u A.live inside at usg, cap_is l m) R.room) B.live
            ∙ ap₂ (λ (a b : ℕ). accept (replace_use sl a i b) (meaning P)) A.number B.number)
            (R.rest ∙ D.rest) (settled p R) 0 0 refl
