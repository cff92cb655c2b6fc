-- The two sorts of members: what they are to families, kinds, look-ups and homes. Assumes nothing.
use mathlib.Core.Path.{◌≡◌, refl, sym, ap, ◌∙◌, subst}
use mathlib.Core.Bool.{true, false}
use mathlib.Core.List.{List}
use mathlib.Core.Option.{none, some}
use native.Mathlib.Omega.{arith}
use Prim.Native.Nat.{ℕ, ◌<◌}
use Rattle.std.specs.Prelude as Rust
use Rattle.std.specs.Prelude.{Some, None, is_some}
use Rattle.edit.specs.Record.{Member, operation, block}
use Rattle.edit.specs.declared.Nested.{Nested}
use Rattle.edit.specs.declared.Nested.TheVariants as nested
use Rattle.places.specs.Store.{Kind, op, blk, reg, Fam, fam, node_of, holder_of, Con, State, Live}
use Rattle.places.specs.View.{num}
use Rattle.places.specs.Parts.{node_in, con_of, rows_of}
use Rattle.places.specs.Members.{role_of, member_at, container_at, place_list_at, home_of}
use Rattle.places.specs.Roles.{member_kind, container_kind}
use Rattle.context.specs.declared.Layout.{Layout}
use Rattle.context.specs.Layout.{nc_of, nn_of}
use Rattle.context.specs.Memory.{given, con, state_of, SoundStore, HomeIs, Stands}
use Rattle.context.specs.Steps.{CanLinkTo, CanLinkBy}
use Rattle.context.specs.Nest.{nested_kind, inner_fam}
use Rattle.context.proofs.Places.{place<}
use Rattle.links.specs.Tests.{MayEnter}

-- ---- some and none

pub not_some : (r : Rust.Option ℕ) → is_some r ≡ false → r ≡ None
not_some None e = refl
not_some (Some x) e = let z : ◌≡◌ {A = ℕ} 0 1 = cc in absurd (omega arith)

the_some : (r : Rust.Option ℕ) → is_some r ≡ true → (x : ℕ) × (r ≡ Some x)
the_some None e = let z : ◌≡◌ {A = ℕ} 0 1 = cc in absurd (omega arith)
the_some (Some x) e = (x, refl)

-- a thing with an inside is the number of its own lists
pub inner< : {l : Layout} {m : List ℕ} → SoundStore l m → (k : Nested) (p : ℕ) → Live (state_of l m) (nested_kind k, p) → p < nc_of l (inner_fam k)
inner< S nested.Operation p v = place< S (op, p) v
inner< S nested.Block p v = place< S (blk, p) v
inner< S nested.Region p v = place< S (reg, p) v

module _ (w : Member) where
  pub node_is : node_in (fam (role_of w)) ≡ node_of (role_of w)
  node_is = elim w as (λ (v : Member). node_in (fam (role_of v)) ≡ node_of (role_of v)) [ operation ↦ refl | block ↦ refl ]

  pub kind_is : member_kind w ≡ node_of (role_of w)
  kind_is = elim w as (λ (v : Member). member_kind v ≡ node_of (role_of v)) [ operation ↦ refl | block ↦ refl ]

  pub kind_above : container_kind w ≡ holder_of (role_of w)
  kind_above = elim w as (λ (v : Member). container_kind v ≡ holder_of (role_of v)) [ operation ↦ refl | block ↦ refl ]

  module _ (l : Layout) where
    pub list_is : (k : ℕ) → con l (fam (role_of w)) k ≡ place_list_at w k
    unfolding rows_of
    list_is k = elim w as (λ (v : Member). con l (fam (role_of v)) k ≡ place_list_at v k) [ operation ↦ refl | block ↦ refl ]

    module _ {m : List ℕ} (S : SoundStore l m) where
      pub member< : (n : ℕ) → Live (state_of l m) (member_at w n) → n < nn_of l (fam (role_of w))
      member< n = elim w as (λ (v : Member). Live (state_of l m) (member_at v n) → n < nn_of l (fam (role_of v))) [ operation ↦ place< S (op, n) | block ↦ place< S (blk, n) ]

      pub container< : (k : ℕ) → Live (state_of l m) (container_at w k) → k < nc_of l (fam (role_of w))
      container< k = elim w as (λ (v : Member). Live (state_of l m) (container_at v k) → k < nc_of l (fam (role_of v))) [ operation ↦ place< S (blk, k) | block ↦ place< S (reg, k) ]

    -- the list of a member, from what is stored for it
    pub home_is : {m : List ℕ} (n : ℕ) (r : Rust.Option ℕ) → HomeIs l (fam (role_of w)) n m r → home_of (state_of l m) w n ≡ con_of (place_list_at w) (given r)
    unfolding rows_of
    home_is {m} n r = elim w as (λ (v : Member). HomeIs l (fam (role_of v)) n m r → home_of (state_of l m) v n ≡ con_of (place_list_at v) (given r)) [ operation ↦ λ H. H.own | block ↦ λ H. H.own ]

    -- the list of a member is what its family holds for it
    pub own_is : (m : List ℕ) (n : ℕ) → (state_of l m).own (node_in (fam (role_of w)), n) (fam (role_of w)) ≡ home_of (state_of l m) w n
    own_is m n = ap (λ (k : Kind). (state_of l m).own (k, n) (fam (role_of w))) node_is

    pub stands_at : (m : List ℕ) (n : ℕ) (c : Con) → home_of (state_of l m) w n ≡ some c → Stands (state_of l m) (node_in (fam (role_of w)), n) (fam (role_of w))
    stands_at m n c e = record { list = c; there = own_is m n ∙ e }

    -- what may enter can be linked
    pub can_link : (m : List ℕ) (x n c : ℕ) → MayEnter (state_of l m) w x n c → CanLinkTo (state_of l m) (fam (role_of w)) n (con l (fam (role_of w)) c)
    unfolding rows_of
    can_link m x n c = elim w as (λ (v : Member). MayEnter (state_of l m) v x n c → CanLinkTo (state_of l m) (fam (role_of v)) n (con l (fam (role_of v)) c)) [
      | operation ↦ λ M. record { live = M.live; home = M.home; free = M.free; clear = M.clear }
      | block ↦ λ M. record { live = M.live; home = M.home; free = M.free; clear = M.clear }
    ]

    pub can_stand : (m : List ℕ) (x n k c : ℕ) → MayEnter (state_of l m) w x n c → home_of (state_of l m) w k ≡ some (place_list_at w c) → CanLinkBy (state_of l m) (fam (role_of w)) k n
    can_stand m x n k c M e = record { list = con l (fam (role_of w)) c; there = own_is m k ∙ e ∙ ap some (sym (list_is c)); can = can_link m x n c M }

    -- ---- by the family that the code names

    module _ {m : List ℕ} (f : Fam) (e : f ≡ fam (role_of w)) (n : ℕ) where
      pub node< : SoundStore l m → Live (state_of l m) (member_at w n) → n < nn_of l f
      node< S v = subst (λ (g : Fam). n < nn_of l g) (sym e) (member< S n v)

      home_by : (r : Rust.Option ℕ) → HomeIs l f n m r → home_of (state_of l m) w n ≡ con_of (place_list_at w) (given r)
      home_by r H = home_is n r (subst (λ (g : Fam). HomeIs l g n m r) e H)

      pub home_free : (r : Rust.Option ℕ) → HomeIs l f n m r → is_some r ≡ false → home_of (state_of l m) w n ≡ none
      home_free r H z = home_by r H ∙ ap (λ (o : Rust.Option ℕ). con_of (place_list_at w) (given o)) (not_some r z)

      pub home_at : (r : Rust.Option ℕ) → HomeIs l f n m r → (c : ℕ) → r ≡ Some c → home_of (state_of l m) w n ≡ some (place_list_at w c)
      home_at r H c z = home_by r H ∙ ap (λ (o : Rust.Option ℕ). con_of (place_list_at w) (given o)) z

      pub home_held : (r : Rust.Option ℕ) → HomeIs l f n m r → is_some r ≡ true → (c : ℕ) × (home_of (state_of l m) w n ≡ some (place_list_at w c))
      home_held r H z = let c : (x : ℕ) × (r ≡ Some x) = the_some r z in (c.0, home_at r H c.0 c.1)

  -- ---- by the kind that the code names

  module _ (P : State) (k : Kind) (x n : ℕ) where
    pub member_live : k ≡ member_kind w → Live P (k, n) × (num P (k, n) ≡ x) → Live P (member_at w n) × (num P (member_at w n) ≡ x)
    member_live e F = subst (λ (j : Kind). Live P (j, n) × (num P (j, n) ≡ x)) (e ∙ kind_is) F

    pub holder_live : k ≡ container_kind w → Live P (k, n) × (num P (k, n) ≡ x) → Live P (container_at w n) × (num P (container_at w n) ≡ x)
    holder_live e F = subst (λ (j : Kind). Live P (j, n) × (num P (j, n) ≡ x)) (e ∙ kind_above) F
