-- A depth that reaches all that lies in a thing. Assumes nothing.
use mathlib.Core.Path.{◌≡◌}
use mathlib.Core.List.{List, [], ◌++◌}
use native.Mathlib.Omega.{arith}
use Prim.Native.Nat.{ℕ, ◌+◌}
use lib.ListN.{length, length-map}
use Rattle.places.specs.Store.{Kind, op, blk, reg, val, usg, State}
use Rattle.places.specs.Walk.{things, population}
use Rattle.places.proofs.Nest.{walk_more}
use Rattle.places.proofs.DropTurn.{length_append}
use Rattle.context.specs.declared.Layout.{Layout}
use Rattle.context.specs.Memory.{state_of, SoundStore}
use Rattle.context.specs.Reading.{LiveIs}
use Rattle.walk.specs.Tests.{within, DepthIs}

population_is : (P : State) → population P ≡ length (P.tab op).order + (length (P.tab blk).order + (length (P.tab reg).order + (length (P.tab val).order + length (P.tab usg).order)))
population_is P =
    omega (
      arith,
      one op,
      one blk,
      one reg,
      one val,
      one usg,
      length_append (things P op) (things P blk ++ (things P reg ++ (things P val ++ (things P usg ++ [])))),
      length_append (things P blk) (things P reg ++ (things P val ++ (things P usg ++ []))),
      length_append (things P reg) (things P val ++ (things P usg ++ [])),
      length_append (things P val) (things P usg ++ []),
      length_append (things P usg) [],
    )
  where
    one : (k : Kind) → length (things P k) ≡ length (P.tab k).order
    one k = length-map (P.tab k).order (λ p. (k, p))

pub deep_enough : {l : Layout} {m : List ℕ} (S : SoundStore l m) (a b c d e : ℕ) → LiveIs l op m a → LiveIs l blk m b → LiveIs l reg m c → LiveIs l val m d → LiveIs l usg m e → DepthIs l m (a + b + c + d + e + 1)
unfolding within
deep_enough {l} {m} S a b c d e A B C D E = record { all = λ x. walk_more S.sound.linked 0 (a + b + c + d + e + 1) x (omega (arith, A.is, B.is, C.is, D.is, E.is, population_is (state_of l m))) }
