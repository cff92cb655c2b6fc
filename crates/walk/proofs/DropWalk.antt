-- The loops that drop what lies in a thing, in the memory: one law for operation, region and block. Assumes nothing.
use mathlib.Core.Path.{◌≡◌, refl, sym, ap, ◌∙◌, subst}
use mathlib.Core.List.{List, [], ◌∷◌, ◌++◌}
use mathlib.Core.Option.{some}
use native.Mathlib.Omega.{arith}
use Prim.Native.Nat.{ℕ, ◌+◌, ◌*◌, ◌<◌, ◌≤◌}
use lib.ListN.{length}
use Rattle.seqs.specs.Seqs.{tick, count, In, sum}
use Rattle.places.specs.Store.{Kind-dec, op, blk, reg, Role, regions, blocks, ops, Fam, regs, ops_in, blocks_in, fam, node_of, Thing, Thing-dec, Con, State, Live, Link, Linked, Sound}
use Rattle.places.specs.Parts.{node_in, rows_of}
use Rattle.places.specs.Walk.{cut_all, kids, place_uses_at, drop_list, dropped}
use Rattle.seqs.proofs.Base.{tick_yes, tick_no, count_append, in_head}
use Rattle.places.proofs.Steps.{thing_eq, listed}
use Rattle.places.proofs.Nest.{kind_code}
use Rattle.places.proofs.DropTurn.{append_assoc, kids_op, kids_reg, kids_blk}
use Rattle.std.specs.Prelude.{Option, None, Some}
use Rattle.context.specs.declared.Layout.{Layout}
use Rattle.context.specs.Layout.{cap_of, nc_of, nn_of}
use Rattle.context.specs.Memory.{part, con, state_of, SoundStore, first_place, FirstIs}
use Rattle.context.specs.Reading.{list_of, NextIs}
use Rattle.context.proofs.Places.{place<}
use Rattle.walk.specs.Drop.{Walked, operations, CanDrop, Counted, Dropped}
use Rattle.context.proofs.Cursor.{from, from_place, Single, single, kid_live}
use Rattle.walk.proofs.Nested.{operations_eq}
use Rattle.walk.proofs.DropLaws.{Going, reached, ended_in, Next, begins, next, reads, same_ops, enough, goes_on, more_reached, more_ended, ends, all_reached, all_ended, region_own, block_own, own_none, own_rest, own_ops, own_ended, after_kids}

-- ---- what lies directly in a thing is a list of one family

pub record Nests (l : Layout) (f : Fam) (x : Thing) : Type 0 where
  pub role : Role
  pub con_is : con l f x.1 ≡ (role, x)
  pub family : fam role ≡ f
  pub node : node_of role ≡ node_in f
  pub lists : {P : State} → Linked P → kids P x ≡ P.list x role
  pub containers : cap_of l x.0 ≡ nc_of l f

pub in_op : (l : Layout) (o : ℕ) → Nests l regs (op, o)
unfolding rows_of
in_op l o = record { role = regions; con_is = refl; family = refl; node = refl; lists = λ S. kids_op S o; containers = refl }

pub in_region : (l : Layout) (r : ℕ) → Nests l blocks_in (reg, r)
unfolding rows_of
in_region l r = record { role = blocks; con_is = refl; family = refl; node = refl; lists = λ S. kids_reg S r; containers = refl }

pub in_block : (l : Layout) (b : ℕ) → Nests l ops_in (blk, b)
unfolding rows_of
in_block l b = record { role = ops; con_is = refl; family = refl; node = refl; lists = λ S. kids_blk S b; containers = refl }

module _ {l : Layout} {f : Fam} {x : Thing} (T : Nests l f x) (m : List ℕ) (S : Linked (state_of l m)) where
  abbrev P : State
  P = state_of l m

  pub list_of_lem : kids P x ≡ list_of l m (con l f x.1)
  list_of_lem = T.lists S ∙ ap (λ (c : Con). list_of l m c) (sym T.con_is)

  pub first_kid : (k : Option ℕ) → FirstIs l f x.1 m k → k ≡ first_place (kids P x)
  first_kid k F = F.is ∙ ap first_place (sym list_of_lem)

  module _ (d : List Thing) (y : Thing) (r : List Thing) (e : kids P x ≡ d ++ (y ∷ r)) where
    inside : In Thing-dec y (P.list x T.role)
    inside = omega (arith, ap (count Thing-dec y) (sym (T.lists S) ∙ e), count_append Thing-dec y d (y ∷ r), in_head Thing-dec y r)

    L : Link P y (fam T.role) (T.role, x)
    L = kid_live S x y T.role inside

    pub kid_is : y ≡ (node_in f, y.1)
    kid_is = thing_eq y (node_in f, y.1) (L.node ∙ T.node) refl

    pub kid_lives : Live P (node_in f, y.1)
    kid_lives = subst (λ (z : Thing). Live P z) kid_is L.live

    pub next_kid : (j : Option ℕ) → NextIs l f y.1 m j → j ≡ first_place r
    next_kid j N =
        N.after (T.role, x)
        (subst (λ (z : Thing). P.own z f ≡ some (T.role, x)) kid_is (subst (λ (g : Fam). P.own y g ≡ some (T.role, x)) T.family (listed S y x T.role inside)))
        d r
        (sym (T.lists S) ∙ e ∙ ap {B = List Thing} (λ (z : Thing). d ++ (z ∷ r)) kid_is)

  -- what is left from a place on
  pub from_is : (a b : List Thing) → kids P x ≡ a ++ b → from (first_place b) (kids P x) ≡ b
  from_is a b e =
      ap (from (first_place b)) e
      ∙ from_place (node_of T.role) a b (subst (λ (z : List Thing). Single (node_of T.role) z) (sym (T.lists S) ∙ e) (single S x T.role))

-- ---- the loop

-- the uses of the operation itself ended
pub record OwnDropped (l : Layout) (x : Thing) (w : Walked) (m m' : List ℕ) (r : Walked) : Type 0 where
  pub store : SoundStore l m'
  pub rest : part l m' 14 ≡ part l m 14
  pub state : state_of l m' ≡ cut_all (place_uses_at (state_of l m) x) (state_of l m)
  pub numbers : Counted w 1 (length (place_uses_at (state_of l m) x)) r

-- x can be gone through: it has no uses of its own
pub record Ready (l : Layout) (x : Thing) (w : Walked) (m : List ℕ) : Type 0 where
  pub store : SoundStore l m
  pub own : place_uses_at (state_of l m) x ≡ []
  pub room : sum (operations (state_of l m)) (kids (state_of l m) x) ≤ w.left
  pub few : w.left + w.freed ≤ 4096
  pub uses : w.ended + 128 * w.left ≤ 600000

-- begun at m₀ with w₀, come to the place k
pub record Dropping (l : Layout) (x : Thing) (m₀ m : List ℕ) (k : Option ℕ) (w₀ w : Walked) : Type 0 where
  pub ready : Ready l x w₀ m₀
  pub store : SoundStore l m
  pub rest : part l m 14 ≡ part l m₀ 14
  pub going : Going (state_of l m₀) x k (state_of l m)
  pub numbers : Counted w₀ (reached going) (ended_in going) w

-- what is left to go through
abbrev pub ahead : Layout → Thing → List ℕ → Option ℕ → ℕ
ahead l x m k = length (from k (kids (state_of l m) x))

module _ {l : Layout} {f : Fam} {x : Thing} (T : Nests l f x) where
  pub begun : {m : List ℕ} {w : Walked} (k : Option ℕ) → Ready l x w m → FirstIs l f x.1 m k → Dropping l x m m k w w
  unfolding begins
  begun {m} {w} k R F =
      record {
        ready = R;
        store = R.store;
        rest = refl;
        going = begins k R.store.sound R.own (first_kid T m R.store.sound.linked k F);
        numbers = record { left = omega arith; freed = omega arith; ended = omega arith; small = omega arith };
      }

  module _ {m₀ m : List ℕ} {k : Option ℕ} {w₀ w : Walked} {p : ℕ} (D : Dropping l x m₀ m k w₀ w) (h : k ≡ Some p) where
    abbrev Z : State
    Z = state_of l m₀

    abbrev Q : State
    Q = state_of l m

    N : Next Z x p D.going.done
    N = next D.going h

    parts : kids Q x ≡ D.going.done ++ (N.kid ∷ N.later)
    unfolding N
    parts = reads D.going N ∙ N.parts

    kid : N.kid ≡ (node_in f, p)
    kid = kid_is T m D.store.sound.linked D.going.done N.kid N.later parts ∙ ap (λ (q : ℕ). (node_in f, q)) (sym N.at)

    lives : Live Q (node_in f, p)
    lives = subst (λ (q : ℕ). Live Q (node_in f, q)) (sym N.at) (kid_lives T m D.store.sound.linked D.going.done N.kid N.later parts)

    -- the next one can be dropped
    pub child : CanDrop l (node_in f, p) w m
    child =
        record {
          store = D.store;
          live = lives;
          enough = omega (arith, ap (operations Q) kid, same_ops D.going N, enough D.going N, operations_eq D.ready.store.sound.linked x, D.ready.room, D.numbers.left);
          few = omega (arith, D.ready.few, D.numbers.left, D.numbers.freed);
          uses = omega (arith, D.ready.uses, D.numbers.small);
        }

    pub no_more : w.left ≤ w₀.left
    no_more = omega (arith, D.numbers.left)

    module _ {m' : List ℕ} {r : Walked} (E : Dropped l (node_in f, p) w m m' r) where
      gone : state_of l m' ≡ dropped Q N.kid
      gone = E.state ∙ ap (dropped Q) (sym kid)

      -- the place is one of the family's
      pub asked : p < nn_of l f
      asked = place< D.store (node_in f, p) lives

      module _ (j : Option ℕ) (F : NextIs l f p m' j) where
        -- the same things lie in x as before
        still : kids (state_of l m') x ≡ D.going.done ++ (N.kid ∷ N.later)
        still = kept ∙ N.parts
          where
            G₀ : Going Z x (first_place N.later) (state_of l m')
            G₀ = goes_on D.going N (first_place N.later) gone refl

            kept : kids (state_of l m') x ≡ kids Z x
            kept = after_kids G₀

        place : j ≡ first_place N.later
        place = next_kid T m' E.store.sound.linked D.going.done N.kid N.later still j (subst (λ (q : ℕ). NextIs l f q m' j) N.at F)

        pub turn : Dropping l x m₀ m' j w₀ r
        turn =
            record {
              ready = D.ready;
              store = E.store;
              rest = E.rest ∙ D.rest;
              going = goes_on D.going N j gone place;
              numbers =
                  record {
                    left = omega (arith, E.numbers.left, D.numbers.left, ap (operations Q) kid, more_reached D.going N j gone place);
                    freed = omega (arith, E.numbers.freed, D.numbers.freed, ap (operations Q) kid, more_reached D.going N j gone place);
                    ended = omega (arith, E.numbers.ended, D.numbers.ended, ap (λ (y : Thing). length (drop_list Q y)) kid, more_ended D.going N j gone place);
                    small = omega (arith, E.numbers.small, D.numbers.small);
                  };
            }

        pub less : ahead l x m' j < ahead l x m k
        less =
            omega (
              arith,
              ap (λ (i : Option ℕ). length (from i (kids (state_of l m') x))) place,
              ap length (from_is T m' E.store.sound.linked (D.going.done ++ (N.kid ∷ [])) N.later (still ∙ sym (append_assoc D.going.done (N.kid ∷ []) N.later))),
              ap (λ (i : Option ℕ). length (from i (kids Q x))) (h ∙ ap Some N.at),
              ap length (from_is T m D.store.sound.linked D.going.done (N.kid ∷ N.later) parts),
            )

  -- the loop has come to its end
  module _ {m₀ m : List ℕ} {k : Option ℕ} {w₀ w : Walked} (D : Dropping l x m₀ m k w₀ w) (h : k ≡ None) where
    -- what is in a region or a block
    pub whole : tick (Kind-dec x.0 op) ≡ 0 → Dropped l x w₀ m₀ m w
    whole t =
        record {
          store = D.store;
          rest = D.rest;
          state = ends D.going h;
          numbers =
              record {
                left = omega (arith, D.numbers.left, all_reached D.going h, t);
                freed = omega (arith, D.numbers.freed, all_reached D.going h, t);
                ended = omega (arith, D.numbers.ended, all_ended D.going h);
                small = D.numbers.small;
              };
        }

    -- what is in an operation, once its own uses have ended
    pub whole_op : {n : List ℕ} {v : Walked} → Sound (state_of l n) → x.0 ≡ op → OwnDropped l x v n m₀ w₀ → Dropped l x v n m w
    whole_op {n} {v} S t O =
        record {
          store = D.store;
          rest = D.rest ∙ O.rest;
          state = ends D.going h ∙ own_rest S x O.state;
          numbers =
              record {
                left = omega (arith, D.numbers.left, O.numbers.left, all_reached D.going h, own_ops S x O.state, tick_yes (Kind-dec x.0 op) t);
                freed = omega (arith, D.numbers.freed, O.numbers.freed, all_reached D.going h, own_ops S x O.state, tick_yes (Kind-dec x.0 op) t);
                ended = omega (arith, D.numbers.ended, O.numbers.ended, all_ended D.going h, own_ended S x O.state);
                small = omega (arith, D.numbers.small, O.numbers.small);
              };
        }

-- the place is one of the containers
pub row< : {l : Layout} {m : List ℕ} {f : Fam} {x : Thing} → Nests l f x → SoundStore l m → Live (state_of l m) x → x.1 < nc_of l f
row< {l} {m} {f} {x} T S h = rw (sym T.containers) (place< S x h)

-- ---- ready

pub ready_region : {l : Layout} {m : List ℕ} {w : Walked} (r : ℕ) → CanDrop l (reg, r) w m → Ready l (reg, r) w m
ready_region r C =
    record { store = C.store; own = region_own C.store.sound r; room = omega (arith, C.enough, operations_eq C.store.sound.linked (reg, r)); few = C.few; uses = C.uses }

pub ready_block : {l : Layout} {m : List ℕ} {w : Walked} (b : ℕ) → CanDrop l (blk, b) w m → Ready l (blk, b) w m
ready_block b C =
    record { store = C.store; own = block_own C.store.sound b; room = omega (arith, C.enough, operations_eq C.store.sound.linked (blk, b)); few = C.few; uses = C.uses }

pub ready_op : {l : Layout} {m m' : List ℕ} {w r : Walked} (o : ℕ) → CanDrop l (op, o) w m → OwnDropped l (op, o) w m m' r → Ready l (op, o) r m'
ready_op o C O =
    record {
      store = O.store;
      own = own_none C.store.sound (op, o) O.state;
      room = omega (arith, C.enough, O.numbers.left, own_ops C.store.sound (op, o) O.state, operations_eq O.store.sound.linked (op, o), tick_yes (Kind-dec op op) refl);
      few = omega (arith, C.few, O.numbers.left, O.numbers.freed);
      uses = omega (arith, C.uses, O.numbers.small);
    }

pub blk_no_op : tick (Kind-dec blk op) ≡ 0
unfolding kind_code
blk_no_op = tick_no (Kind-dec blk op) (λ e. absurd (omega (arith, ap kind_code e)))

pub reg_no_op : tick (Kind-dec reg op) ≡ 0
unfolding kind_code
reg_no_op = tick_no (Kind-dec reg op) (λ e. absurd (omega (arith, ap kind_code e)))
