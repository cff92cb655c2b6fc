-- An operation is put into a block and taken out, a block into a region: one law for both. Assumes nothing.
use mathlib.Core.Path.{◌≡◌, refl, sym, ap, ◌∙◌}
use mathlib.Core.List.{List, ◌∷◌, ◌++◌}
use mathlib.Core.Option.{some}
use Prim.Native.Nat.{ℕ, suc, ◌+◌}
use lib.ListN.{length, get_or}
use Rattle.linked_list.specs.Links.{home}
use Rattle.places.specs.Store.{op, blk, reg, Fam, ops, blocks, Thing, Con, Sound, enter, leave}
use Rattle.places.specs.Parts.{node_in, rows_of}
use Rattle.places.proofs.Whole.{link_sound, unlink_sound}
use Rattle.context.specs.declared.Layout.{Layout}
use Rattle.context.specs.Layout.{nc_of, nn_of, fam_part}
use Rattle.context.specs.Memory.{part, con, state_of, SoundStore, Left, Entered, Stands}
use Rattle.context.specs.Reading.{EnteredBy}
use Rattle.context.specs.Steps.{CanLinkTo, LinkedTo, CanLinkBy, LinkedBy, Unlinked}
use Rattle.edit.specs.declared.Member.{Member}
use Rattle.edit.specs.declared.Member.TheVariants.{Operation, Block}
use Rattle.context.specs.Kinds.{member_fam}
use Rattle.context.proofs.Families.{stands}
use Rattle.context.proofs.Neighbours.{parted}

module _ {l : Layout} {m : List ℕ} (S : SoundStore l m) where
  enter_sound : (w : Member) (k i n : ℕ) → CanLinkTo (state_of l m) (member_fam w) n (con l (member_fam w) k) → Sound (enter (con l (member_fam w) k) i (node_in (member_fam w), n) (state_of l m))
  unfolding rows_of
  enter_sound Operation k i n C =
      link_sound S.sound (ops, (blk, k)) (op, n) (λ h. tt) (λ r. refl) i
      (record { free = C.free; node = refl; holder = refl; live = C.live; home = C.home; limit = λ z. elim z [ ]; clear = λ e. C.clear })
  enter_sound Block k i n C =
      link_sound S.sound (blocks, (reg, k)) (blk, n) (λ h. tt) (λ r. refl) i
      (record { free = C.free; node = refl; holder = refl; live = C.live; home = C.home; limit = λ z. elim z [ ]; clear = λ e. C.clear })

  leave_sound : (w : Member) (k n : ℕ) → (state_of l m).own (node_in (member_fam w), n) (member_fam w) ≡ some (con l (member_fam w) k) → Sound (leave (con l (member_fam w) k) (node_in (member_fam w), n) (state_of l m))
  unfolding rows_of
  leave_sound Operation k n e = unlink_sound S.sound (ops, (blk, k)) (op, n) (λ h. tt) (λ r. refl) e
  leave_sound Block k n e = unlink_sound S.sound (blocks, (reg, k)) (blk, n) (λ h. tt) (λ r. refl) e

  -- a family g that the code has from the member w
  module _ (w : Member) {g : Fam} (is : g ≡ member_fam w) {m' : List ℕ} where
    put_in : {k i n : ℕ} → CanLinkTo (state_of l m) (member_fam w) n (con l (member_fam w) k) → Entered l (member_fam w) k i n m m' → LinkedTo l (member_fam w) k i n m m'
    put_in {k} {i} {n} C E = record { sound = record { well = E.well; sound = rw E.state (enter_sound w k i n C) }; rest = E.rest; state = E.state }

    pub linked_to : {k i n : ℕ} → CanLinkTo (state_of l m) (member_fam w) n (con l (member_fam w) k) → Entered l g k i n m m' → LinkedTo l (member_fam w) k i n m m'
    linked_to C E = put_in C (rw is at E)

    pub linked_last : {k n : ℕ} → CanLinkTo (state_of l m) (member_fam w) n (con l (member_fam w) k) → Entered l g k (nn_of l g) n m m' → LinkedTo l (member_fam w) k (nn_of l (member_fam w)) n m m'
    linked_last C E = put_in C (rw is at E)

    pub linked_by : {mark n d : ℕ} → CanLinkBy (state_of l m) (member_fam w) mark n → EnteredBy l g mark n d m m' → LinkedBy l (member_fam w) mark n d m m'
    linked_by {mark} {n} {d} C E₀ =
        let E : EnteredBy l (member_fam w) mark n d m m' = rw is at E₀ in
        let v : (k : ℕ) × (get_or (part l m (fam_part (member_fam w))) (home (nc_of l (member_fam w)) (nn_of l (member_fam w)) mark) 0 ≡ suc k) × (con l (member_fam w) k ≡ C.list) = stands l m (member_fam w) mark C.list C.there in
        let s : (a : List Thing) × (b : List Thing) × ((state_of l m).list C.list.1 C.list.0 ≡ a ++ (node_in (member_fam w), mark) ∷ b) = parted S.well (member_fam w) mark C.list C.there in
        let e : state_of l m' ≡ enter (con l (member_fam w) v.0) (length s.0 + d) (node_in (member_fam w), n) (state_of l m) =
        E.state C.list C.there s.0 s.1 s.2 ∙ ap (λ (c : Con). enter c (length s.0 + d) (node_in (member_fam w), n) (state_of l m)) (sym v.2) in
        record { sound = record { well = E.well; sound = rw e (enter_sound w v.0 (length s.0 + d) n (rw v.2 C.can)) }; rest = E.rest; state = E.state }

    pub unlinked : {n : ℕ} → Stands (state_of l m) (node_in (member_fam w), n) (member_fam w) → Left l g n m m' → Unlinked l (member_fam w) n m m'
    unlinked {n} Z L₀ =
        let L : Left l (member_fam w) n m m' = rw is at L₀ in
        let v : (k : ℕ) × (get_or (part l m (fam_part (member_fam w))) (home (nc_of l (member_fam w)) (nn_of l (member_fam w)) n) 0 ≡ suc k) × (con l (member_fam w) k ≡ Z.list) = stands l m (member_fam w) n Z.list Z.there in
        let o : (state_of l m).own (node_in (member_fam w), n) (member_fam w) ≡ some (con l (member_fam w) v.0) = Z.there ∙ ap some (sym v.2) in
        record { sound = record { well = L.well; sound = rw (L.state (con l (member_fam w) v.0) o) (leave_sound w v.0 n o) }; rest = L.rest; state = L.state }
