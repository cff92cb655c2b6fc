-- An operation, a block or a region ends, in a list or not: one law for the three. Assumes nothing.
use mathlib.Core.Path.{◌≡◌, refl, sym, ap, ◌∙◌}
use mathlib.Core.Logic.{◌≢◌}
use mathlib.Core.List.{List, [], ◌∷◌}
use mathlib.Core.Option as math
use mathlib.Core.Option.{none, some}
use mathlib.Core.Bool.{true, false}
use Rattle.std.specs.Prelude.{Option, Some, None, is_some}
use Prim.Native.Nat.{ℕ}
use native.Mathlib.Omega.{arith}
use Rattle.places.specs.Store.{op, blk, reg, usg, Fam, fam, node_of, Thing, Con, State, Live, Link, end, leave}
use Rattle.places.specs.Parts.{node_in}
use Rattle.places.specs.Walk.{cut_all}
use Rattle.places.proofs.Steps.{alive_leave, some_none}
use Rattle.places.proofs.Prims.{end_in, end_free, end_sound}
use Rattle.context.specs.declared.Layout.{Layout}
use Rattle.context.specs.Memory.{part, con, state_of, Well, SoundStore, Left, Stands, Freed, Tagged, Finished, HomeIs}
use Rattle.context.specs.Steps.{CanEnd, Ended}
use Rattle.context.proofs.Families.{con_back}
use Rattle.context.proofs.Neighbours.{kind_of_lem}
use Rattle.context.proofs.Tags.{end_tag}
use Rattle.context.proofs.Users.{around_none, around_some}

pub op_not_use : op ≢ usg
op_not_use e = let z : ◌≡◌ {A = ℕ} 0 1 = cc in omega arith

pub block_not_use : blk ≢ usg
block_not_use e = let z : ◌≡◌ {A = ℕ} 0 1 = cc in omega arith

pub region_not_use : reg ≢ usg
region_not_use e = let z : ◌≡◌ {A = ℕ} 0 1 = cc in omega arith

-- ---- out of the list, if it is in one

pub home_stands : {l : Layout} {f : Fam} {n : ℕ} {m : List ℕ} {r : Option ℕ} → HomeIs l f n m r → is_some r ≡ true → Stands (state_of l m) (node_in f, n) f
home_stands {l} {f} {n} {m} {r} H z = go r refl
  where
    go : (o : Option ℕ) → r ≡ o → Stands (state_of l m) (node_in f, n) f
    go None e = let z : ◌≡◌ {A = ℕ} 0 1 = cc in absurd (omega arith)
    go (Some k) e = record { list = con l f k; there = around_some H e }

pub freed_none : {l : Layout} {f : Fam} {n : ℕ} {m : List ℕ} {r : Option ℕ} → Well l m → HomeIs l f n m r → is_some r ≡ false → Freed l f n m m
freed_none {l} {f} {n} {m} {r} W H z = go r refl
  where
    go : (o : Option ℕ) → r ≡ o → Freed l f n m m
    go None e = record { well = W; rest = refl; alone = λ e. refl; left = λ c q. absurd (some_none q (around_none H e)) }
    go (Some k) e = let z : ◌≡◌ {A = ℕ} 0 1 = cc in absurd (omega arith)

pub freed_some : {l : Layout} {f : Fam} {n : ℕ} {m m' : List ℕ} → Stands (state_of l m) (node_in f, n) f → Left l f n m m' → Freed l f n m m'
freed_some Z L = record { well = L.well; rest = L.rest; alone = λ e. absurd (some_none Z.there e); left = L.state }

module _ {l : Layout} {m : List ℕ} (f : Fam) (n : ℕ) (solo : node_in f ≢ usg) (S : SoundStore l m) (C : CanEnd (state_of l m) (node_in f, n)) {m₁ : List ℕ} (D : Freed l f n m m₁) where
  abbrev P : State
  P = state_of l m

  abbrev x : Thing
  x = (node_in f, n)

  family₀ : fam (con l f 0).0 ≡ f
  family₀ = (con_back l.values l.ops f 0).family

  node₀ : node_of (con l f 0).0 ≡ node_in f
  node₀ = kind_of_lem S.well f 0

  -- by whether it stood in a list
  module _ (goal : Type 0) (no : state_of l m₁ ≡ P → P.own x f ≡ none → goal) (yes' : (c : Con) → P.own x f ≡ some c → state_of l m₁ ≡ leave c x P → goal) where
    either : goal
    either = go (P.own x f) refl
      where
        go : (o : math.Option Con) → P.own x f ≡ o → goal
        go none e = no (D.alone e) e
        go (some c) e = yes' c e (D.left c e)

  cut : end x (state_of l m₁) ≡ cut_all (x ∷ []) P
  cut =
      either (end x (state_of l m₁) ≡ cut_all (x ∷ []) P)
      (λ e o. ap (end x) e ∙ end_free S.sound x C.empty (con l f 0) (λ z. solo (sym node₀ ∙ z)) (sym node₀) (rw family₀ o))
      (λ c o e.
      let K : Link P x f c = S.sound.linked.link x f c o in
      ap (end x) e ∙ end_in S.sound x C.empty c (λ z. solo (K.node ∙ z)) (rw K.family o))

  pub live₁ : Live (state_of l m₁) x
  live₁ = either (Live (state_of l m₁) x) (λ e o. rw e C.live) (λ c o e. rw e (omega (arith, C.live, alive_leave P c x x)))

  done : {m₃ : List ℕ} → Well l m₃ → part l m₃ 14 ≡ part l m 14 → state_of l m₃ ≡ end x (state_of l m₁) → Ended l x m m₃
  done W r e = record { sound = record { well = W; sound = rw (e ∙ cut) (end_sound S.sound x C.empty) }; rest = r; state = e ∙ cut }

  -- with flags, and without
  pub ended_flags : {m₂ m₃ : List ℕ} → Tagged l x 0 m₁ m₂ → Finished l (node_in f) n m₂ m₃ → Ended l x m m₃
  ended_flags T F = done F.well (F.rest ∙ T.rest ∙ D.rest) (F.state ∙ ap (end x) T.state ∙ end_tag (state_of l m₁) x 0)

  pub ended_plain : {m₃ : List ℕ} → Finished l (node_in f) n m₁ m₃ → Ended l x m m₃
  ended_plain F = done F.well (F.rest ∙ D.rest) F.state
