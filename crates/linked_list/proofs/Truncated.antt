-- A family's links from the mere fact that there are some: where each node stands can be read off the words. Assumes nothing.
use mathlib.Core.Path.{◌≡◌, refl, ap, ◌∙◌}
use mathlib.Core.Logic.{∥∥₁_elim, ◌⊎◌, inl, inr}
use mathlib.Core.List.{List}
use native.Mathlib.Decide.{ℕ_discrete}
use native.Mathlib.Omega.{arith}
use Prim.Native.Nat.{ℕ, zero, suc, ◌<◌}
use lib.ListN.{get_or}
use Rattle.std.proofs.Props.{props}
use Rattle.seqs.specs.Seqs.{index_of}
use Rattle.linked_list.specs.Links.{home, lists, row, at, Linked, Free, Held}
use Rattle.linked_list.proofs.View.{seat, Seat, index_at}

module _ (nc nn : ℕ) (s : List ℕ) (T : ∥ Linked nc nn s ∥₁) where
  node : (n : ℕ) → n < nn → (h : ℕ) → get_or s (home nc nn n) 0 ≡ h → Free nc nn s n ⊎ Held nc (lists nc nn s) n
  node n l zero e = inl (∥∥₁_elim T (Prim.hlevel props) (λ K. free K (K.node n l)))
    where
      free : Linked nc nn s → Free nc nn s n ⊎ Held nc (lists nc nn s) n → Free nc nn s n
      free K (inl F) = F
      free K (inr H) = absurd (omega (arith, ((K.row H.cont H.cont<).own H.index n H.there).1))
  node n l (suc d) e = inr (record { cont = d; index = index_of ℕ_discrete n (row nc nn s d); cont< = ∥∥₁_elim T (Prim.hlevel props) (λ K. (seat K d n l e).c<); there = ∥∥₁_elim T (Prim.hlevel props) (λ K. there (seat K d n l e)) })
    where
      there : Seat nc nn s (lists nc nn s) d n → at (row nc nn s d) (index_of ℕ_discrete n (row nc nn s d)) ≡ suc n
      there S = ap (at (row nc nn s d)) (index_at n (row nc nn s d) S.index S.there S.only) ∙ S.there

  pub linked : Linked nc nn s
  linked = record { size = ∥∥₁_elim T (Prim.hlevel props) (λ K. K.size); count = ∥∥₁_elim T (Prim.hlevel props) (λ K. K.count); row = ∥∥₁_elim T (Prim.hlevel props) (λ K. K.row); node = λ n l. node n l (get_or s (home nc nn n) 0) refl }
