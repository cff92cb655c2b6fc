-- What is seen of a sound store in memory is alike to what the rules see of its state. Assumes nothing.
use mathlib.Core.Path.{◌≡◌, refl, ap, ◌∙◌}
use mathlib.Core.List.{List}
use mathlib.Core.Option.{Option, none, some}
use Prim.Native.Nat.{ℕ, ◌-◌}
use lib.ListN.{length}
use Rattle.edit.specs.Record.{Member}
use Rattle.rules.specs.Table.{next_of, previous_of}
use Rattle.rules.specs.History.{container}
use Rattle.rules.specs.Demand.{members_of}
use Rattle.rules.specs.Demand.{view as rule-view}
use Rattle.rules.specs.Alike.{Alike}
use Rattle.rules.specs.Sound.{Sound as RuleSound}
use Rattle.rules.proofs.Inside.{rising_once}
use Rattle.places.specs.Store.{usg, State}
use Rattle.places.specs.View.{view}
use Rattle.places.specs.Hist.{hist, rule_state, meaning}
use Rattle.context.specs.declared.Layout.{Layout}
use Rattle.context.specs.Memory.{state_of, SoundStore}
use Rattle.context.specs.Performed.{abs}
use Rattle.script.specs.See.{see_at}
use Rattle.script.proofs.Seen.{use_lives, thing_lives, definition_lives, slots_same, members_same, up_same, all_same, uses_same, sizes_same}
use Rattle.script.proofs.Neighbours.{listed, Sides, sides_of}

module _ {l : Layout} {m : List ℕ} (S : SoundStore l m) where
  abbrev P : State
  P = state_of l m

  -- how many uses have ended
  abbrev past : ℕ
  past = (P.tab usg).next - length (P.tab usg).order

  same_list : (w : Member) (o : Option ℕ) → listed S.well S.sound past w o ≡ members_of w (abs l m) o
  unfolding members_of abs meaning rule_state
  same_list w none = refl
  same_list w (some c) = refl

  sides : (w : Member) (x : ℕ) → Sides l m w x (listed S.well S.sound past w (container w (hist past (view P)) x))
  sides w x = sides_of S.well S.sound past w x

  pub alike_at : RuleSound (abs l m) → Alike (see_at l m) (rule-view (abs l m))
  unfolding see_at rule-view abs meaning rule_state
  alike_at R = record {
    holds_use = use_lives S.sound past;
    holds = thing_lives S.sound past;
    holds_definition = definition_lives S.sound past;
    definitions = all_same S.sound past;
    use_set = uses_same S.sound past (λ u. rising_once 0 _ u (hist past (view P)).uses R.uses_rise);
    use_sizes = sizes_same S.sound past;
    uses_at = slots_same S.sound past;
    members = members_same S.sound past;
    next = λ w x. (sides w x).next ∙ ap (next_of x) (same_list w (container w (hist past (view P)) x));
    previous = λ w x. (sides w x).previous ∙ ap (previous_of x) (same_list w (container w (hist past (view P)) x));
    up = up_same S.sound past;
  }
