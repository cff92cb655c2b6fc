-- The readers of a memory of any contents: what is told where the store is sound, and what a refusal hands back. Assumes nothing.
use mathlib.Core.Path.{◌≡◌, refl, ap, ◌∙◌, subst}
use mathlib.Core.List.{List, [], ◌∷◌}
use native.Mathlib.Omega.{arith}
use Prim.Native.Nat.{ℕ, ◌+◌, ◌-◌}
use lib.ListN.{length, drop, length-append, length-drop}
use Rattle.std.specs.Prelude.{Result, Ok, Err, IsErr, IsErrAnd}
use Rattle.std.specs.Borrow.{MutBor}
use Rattle.edit.specs.Record.{Definition}
use Rattle.edit.specs.declared.Refusal.{Refusal}
use Rattle.edit.specs.declared.Refusal.TheVariants.{Unsound}
use Rattle.context.specs.declared.Layout.{Layout}
use Rattle.context.specs.Memory.{layout_of, SoundStore}
use Rattle.context.specs.Performed.{abs}
use Rattle.readers.specs.UsesOf.{handed, Told, ToldOf, Fronted}

-- what `?` hands on
pub passed_on : {A : Type 0} {e : Refusal} (r : Result A Refusal) → IsErr r × IsErrAnd r (λ y. y ≡ e) → r ≡ Err e
passed_on (Ok x) h = absurd h.1
passed_on (Err y) h = ap Err h.1

module _ {m : List ℕ} {d : Definition} {out out' : List ℕ} where
  pub told : {r : Result ℕ Refusal} {l : Layout} → SoundStore (layout_of m) m → l ≡ layout_of m → length out' ≡ length out → Told (abs l m) d out out' r → ToldOf m d out out' r
  told {r} {l} S e k t =
      record {
        fits =
            let b : length out' ≡ length (handed (abs l m) d (length out)) + (length out - length (handed (abs l m) d (length out))) = ap length t.buffer ∙ length-append (handed (abs l m) d (length out)) (drop (length (handed (abs l m) d (length out))) out) ∙ ap (λ (n : ℕ). length (handed (abs l m) d (length out)) + n) (length-drop (length (handed (abs l m) d (length out))) out) in
            omega (arith, b, k, t.count);
        unsound = λ n. absurd (n S);
        sound = λ _. subst (λ (j : Layout). Told (abs j m) d out out' r) e t;
      }

  -- no part with a refusal
  pub not_fronted : {r : Refusal} → ToldOf m d out out' (Err r) → Fronted m d out (Err r)
  not_fronted t =
      record {
        unsound = λ u. ap refusal_alone (t.unsound u).0;
        sound = λ S. (nothing_handed (handed (abs (layout_of m) m) d (length out)) (t.sound S).count, (t.sound S).refusal);
      }
    where
      refusal_alone : Result ℕ Refusal → Result (MutBor (List ℕ)) Refusal
      refusal_alone (Ok k) = Err Unsound
      refusal_alone (Err r) = Err r

      nothing_handed : (xs : List ℕ) → 0 ≡ length xs → [] ≡ xs
      nothing_handed [] e = refl
      nothing_handed (x ∷ xs) e = absurd (omega (arith, e))
