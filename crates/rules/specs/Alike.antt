-- Two views that show the same store: they differ at most in the order of a definition's uses.
-- Assumes nothing: these are definitions.
use Rattle.std.specs.Prelude.{◌≡◌, ℕ, length}
use Rattle.edit.specs.Record.{Slot, Member, Thing, Definition}
use Rattle.rules.specs.Table.{count}
use Rattle.rules.specs.Demand.{View}

-- every field is the same, but for the use sets: those have the same uses, each as often, in whatever order
pub record Alike (v w : View) : Type 0 where
  pub holds_use : (u : ℕ) → v.holds_use u ≡ w.holds_use u
  pub holds : (t : Thing) → v.holds t ≡ w.holds t
  pub holds_definition : (d : Definition) → v.holds_definition d ≡ w.holds_definition d
  pub definitions : v.definitions ≡ w.definitions
  pub use_set : (d : Definition) (u : ℕ) → count u (v.use_set d) ≡ count u (w.use_set d)
  pub use_sizes : (d : Definition) → length (v.use_set d) ≡ length (w.use_set d)
  pub uses_at : (sl : Slot) (o : ℕ) → v.uses_at sl o ≡ w.uses_at sl o
  pub members : (m : Member) (c : ℕ) → v.members m c ≡ w.members m c
  pub next : (m : Member) (x : ℕ) → v.next m x ≡ w.next m x
  pub previous : (m : Member) (x : ℕ) → v.previous m x ≡ w.previous m x
  pub up : (t : Thing) → v.up t ≡ w.up t
