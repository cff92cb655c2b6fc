-- What lives by the reading of specs/Told was given birth by an edit and ended by none since, and the other way round. Assumes nothing.
use mathlib.Core.Path.{refl, sym, ap, subst}
use mathlib.Core.Logic.{◌⊎◌, inl, inr}
use mathlib.Core.Bool.{Bool, true, false, not, ◌&&◌}
use mathlib.Core.List.{List, [], ◌∷◌, ◌++◌}
use Prim.Native.Nat.{ℕ}
use lib.Dec.{T}
use Rattle.edit.specs.Record.{Edit}
use Rattle.rules.specs.History.{History}
use Rattle.rules.specs.Told.{told, lives, NoneEnds, BornNotEnded}
use Rattle.rules.proofs.Tables.{or_l, or_r, or_split, and_l, and_r}

module _ (births-it ends_it : Edit → History → ℕ → Bool) (n : ℕ) where
  pub lives_born : (log : List Edit) → T (lives births-it ends_it log n) → BornNotEnded births-it ends_it log n
  unfolding lives
  lives_born [] t = absurd t
  lives_born (e ∷ es) t = go (or_split (births-it e (told es) n) (lives births-it ends_it es n && not (ends_it e (told es) n)) t) (lives_born es)
    where
      go : T (births-it e (told es) n) ⊎ T (lives births-it ends_it es n && not (ends_it e (told es) n)) → (T (lives births-it ends_it es n) → BornNotEnded births-it ends_it es n) → BornNotEnded births-it ends_it (e ∷ es) n
      go (inl b) ih = record { since = []; by = e; before = es; all = refl; birth = b; no_ending = tt }
      go (inr q) ih =
          let r : BornNotEnded births-it ends_it es n = ih (and_l (lives births-it ends_it es n) (not (ends_it e (told es) n)) q) in
          record {
            since = e ∷ r.since;
            by = r.by;
            before = r.before;
            all = ap {B = List Edit} (λ x. e ∷ x) r.all;
            birth = r.birth;
            no_ending = (subst (λ (x : List Edit). T (not (ends_it e (told x) n))) r.all (and_r (lives births-it ends_it es n) (not (ends_it e (told es) n)) q), r.no_ending);
          }

  both : (a b : Bool) → T a → T b → T (a && b)
  both true b x y = y
  both false b x y = absurd x

  after_birth : (since : List Edit) (by : Edit) (before : List Edit) → T (births-it by (told before) n) → NoneEnds ends_it n since (by ∷ before) → T (lives births-it ends_it (since ++ (by ∷ before)) n)
  unfolding lives
  after_birth [] by before b k = or_l (births-it by (told before) n) (lives births-it ends_it before n && not (ends_it by (told before) n)) b
  after_birth (e ∷ es) by before b k =
      or_r (births-it e (told (es ++ (by ∷ before))) n) (lives births-it ends_it (es ++ (by ∷ before)) n && not (ends_it e (told (es ++ (by ∷ before))) n))
      (both (lives births-it ends_it (es ++ (by ∷ before)) n) (not (ends_it e (told (es ++ (by ∷ before))) n)) (after_birth es by before b k.1) k.0)

  pub born_lives : (log : List Edit) → BornNotEnded births-it ends_it log n → T (lives births-it ends_it log n)
  born_lives log r = subst (λ (x : List Edit). T (lives births-it ends_it x n)) (sym r.all) (after_birth r.since r.by r.before r.birth r.no_ending)
