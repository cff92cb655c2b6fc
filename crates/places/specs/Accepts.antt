-- What the tables of a store have to be for it to be what the rules make of another store by an edit that ends nothing.
-- Assumes nothing: these are definitions.
use Rattle.std.specs.Prelude.{◌≡◌, ◌++◌, ℕ}
use Rattle.places.specs.Store.{Kind, op, val, State}
use Rattle.places.specs.View.{view}
use Rattle.places.specs.Hist.{tabled, hist, orders_of}
use Rattle.edit.specs.Record.{Edit}
use Rattle.rules.specs.Table.{number}
use Rattle.rules.specs.History.{remember}
use Rattle.rules.specs.Orders.{reorder}
use Rattle.rules.specs.State.{new_flags, new_types}

-- from P to Q, where n uses had ended and k have
pub record Accepts (P Q : State) (e : Edit) (n k : ℕ) : Type 0 where
  pub history : hist k (view Q) ≡ remember e (hist n (view P))
  pub flags : tabled (λ r. r.tag) ((view Q).things op) ≡ tabled (λ r. r.tag) ((view P).things op) ++ number (P.tab op).next (new_flags e)
  pub types : tabled (λ r. r.tag) ((view Q).things val) ≡ tabled (λ r. r.tag) ((view P).things val) ++ number (P.tab val).next (new_types e)
  pub orders : orders_of (view Q) ≡ reorder e (hist n (view P)) (hist k (view Q)) (orders_of (view P))
  pub caps : (j : Kind) → (Q.tab j).cap ≡ (P.tab j).cap
