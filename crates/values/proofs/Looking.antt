-- The value at an index, and whether it is used. Assumes nothing.
use mathlib.Core.Path.{◌≡◌, refl, sym, ap, ◌∙◌}
use mathlib.Core.Bool.{true, false}
use mathlib.Core.List.{List, [], ◌∷◌}
use Prim.Native.Nat.{ℕ, ◌<◌}
use native.Mathlib.Omega.{arith}
use lib.ListN.{length}
use Rattle.std.proofs.Common.{Option, Ok, Err, is_some}
use Rattle.edit.specs.declared.Refusal.TheVariants.{Used}
use Rattle.places.specs.Store.{val, value_uses, vals, use_sets, Thing, Con, State, Live}
use Rattle.places.specs.Parts.{rows_of}
use Rattle.places.proofs.Rows.{mine}
use Rattle.context.specs.declared.Layout.{Layout}
use Rattle.context.specs.Memory.{con, state_of, SoundStore, FirstIs, first_place}
use Rattle.context.specs.Reading.{NthIs}
use Rattle.context.specs.Steps.{Unused, EndedValue}
use Rattle.values.specs.Look.{TakenValue}

first_none : (xs : List Thing) → is_some (first_place xs) ≡ false → xs ≡ []
first_none [] e = refl
first_none (x ∷ xs) e = let z : ◌≡◌ {A = ℕ} 0 1 = cc in absurd (omega arith)

first_some : (xs : List Thing) → is_some (first_place xs) ≡ true → 0 < length xs
first_some [] e = let z : ◌≡◌ {A = ℕ} 0 1 = cc in absurd (omega arith)
first_some (x ∷ xs) e = omega arith

module _ {l : Layout} {m : List ℕ} (S : SoundStore l m) {k i p : ℕ} (N : NthIs l vals k i m p) where
  abbrev R : State
  R = state_of l m

  nth_live : Live R (val, p)
  nth_live = (S.sound.linked.link (val, p) vals (con l vals k) N.own).live

  module _ {u : Option ℕ} (F : FirstIs l use_sets p m u) where
    set_is : con l use_sets p ≡ (value_uses, (val, p))
    unfolding rows_of
    set_is = mine l.values l.ops value_uses p N.inside

    first_is : u ≡ first_place (R.list (val, p) value_uses)
    first_is = F.is ∙ ap (λ (c : Con). first_place (R.list c.1 c.0)) set_is

    not_used : is_some u ≡ false → R.list (val, p) value_uses ≡ []
    not_used z = first_none (R.list (val, p) value_uses) (ap is_some (sym first_is) ∙ z)

    pub unused : is_some u ≡ false → Unused R p
    unused z = record { live = nth_live; none = not_used z }

    pub is_used : is_some u ≡ true → TakenValue l k i m m (Err Used)
    is_used n =
        record {
          place = p;
          at = N.is;
          used = λ e q. (cc, refl, first_some (R.list (val, p) value_uses) (ap is_some (sym first_is) ∙ n));
          idle = λ q. let z : ◌≡◌ {A = ℕ} 0 1 = cc in absurd (omega arith);
          ended = λ q. let z : ◌≡◌ {A = ℕ} 0 1 = cc in absurd (omega arith);
        }

    pub taken : {m' : List ℕ} → is_some u ≡ false → EndedValue l p m m' → TakenValue l k i m m' (Ok tt)
    taken z E = record { place = p; at = N.is; used = λ e q. (let z : ◌≡◌ {A = ℕ} 0 1 = cc in absurd (omega arith)); idle = λ _. not_used z; ended = λ _. E }
