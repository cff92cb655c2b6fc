-- What the three groups of tests find is what is asked across the parts. Assumes nothing.
use mathlib.Core.Path.{◌≡◌, refl}
use mathlib.Core.List.{List}
use native.Mathlib.Omega.{arith}
use Prim.Native.Nat.{ℕ, zero, suc, ◌+◌, ◌*◌, ◌/◌, ◌<◌}
use lib.ListN.{get_or}
use Rattle.places.specs.Store.{op, usg, Fam, slots, use_sets, vals, regs, ops_in, blocks_in}
use Rattle.places.specs.Parts.{node_in}
use Rattle.linked_list.specs.Links.{home, at, lists, row}
use Rattle.linked_list.proofs.View.{seat, Seat}
use Rattle.sound_parts.specs.Cross.{Node, Crossed}
use Rattle.sound_parts.specs.Memory.{Mem, cells_of, Formed, mem_of}
use Rattle.sound_parts.specs.Tests.{UseAt, SlotsAt, Slots, UsesOk, ValsOk, NestOk}

some_code : (h : ℕ) → 0 < h → (k : ℕ) × (h ≡ suc k)
some_code zero p = absurd (omega arith)
some_code (suc k) p = (k, refl)

module _ (o b r v u : ℕ) (to tb tr tv tu ss su sv sr so sb fl ty : List ℕ) where
  abbrev m : Mem
  m = mem_of o b r v u to tb tr tv tu ss su sv sr so sb fl ty

  module _ (W : Formed m) where
    -- the use q in the list k of slots
    use_in : Slots o v (v + b) u to tu ss su → (q : ℕ) → q < u → (k : ℕ) → get_or ss (home (2 * o) u q) 0 ≡ suc k → UseAt o v (v + b) u to tu su k q
    use_in S q h k e = let Z : Seat (2 * o) u ss (lists (2 * o) u ss) k q = seat (W.links slots) k q h e in (S k Z.c<).uses Z.index q Z.there

    pub crossed_of : UsesOk o b v u to tb tv tu ss su → ValsOk o b v to tb tv sv → NestOk o b r to tb tr so sb sr fl → Crossed (cells_of m)
    crossed_of U G N =
        record {
          node = nodes;
          must_slot = U.must;
          must_set = λ q h l. let w : (k : ℕ) × (get_or ss (home (2 * o) u q) 0 ≡ suc k) = some_code (get_or ss (home (2 * o) u q) 0) (U.must q h l) in (use_in U.slots q h w.0 w.1).held;
          must_val = G.must;
          must_reg = N.regions.must;
          fit = λ q h k j e d. let A : UseAt o v (v + b) u to tu su k q = use_in U.slots q h k e in (λ z. omega (arith, A.value z), λ z. omega (arith, A.block z));
          short_slots = λ c h. (U.slots c h).short;
          short_vals = G.short;
          short_regs = N.regions.short;
          flags = N.flags;
          climb = N.climbs;
        }
      where
        nodes : (f : Fam) (q : ℕ) → q < (cells_of m).cap (node_in f) → Node (cells_of m) f q
        nodes slots q h k e = let A : UseAt o v (v + b) u to tu su k q = use_in U.slots q h k e in (A.alive, A.holder)
        nodes use_sets q h k e = U.sets q h k e
        nodes vals q h k e = G.node q h k e
        nodes regs q h k e = N.regions.node q h k e
        nodes ops_in q h k e = N.ops q h k e
        nodes blocks_in q h k e = N.blocks q h k e

    module _ (X : Crossed (cells_of m)) where
      slots_of : (c : ℕ) → c < 2 * o → SlotsAt o v (v + b) u to tu ss su c
      slots_of c h = record { short = X.short_slots c h; uses = uses }
        where
          uses : (i x : ℕ) → at (row (2 * o) u ss c) i ≡ suc x → UseAt o v (v + b) u to tu su c x
          uses i x e =
              let w : (x < u) × (get_or ss (home (2 * o) u x) 0 ≡ suc c) = ((W.links slots).row c h).own i x e in
              let n : (0 < (cells_of m).stamp usg x) × (0 < (cells_of m).stamp op (c / 2)) = X.node slots x w.0 c w.1 in
              let d : (k : ℕ) × (get_or su (home (v + b) u x) 0 ≡ suc k) = some_code (get_or su (home (v + b) u x) 0) (X.must_set x w.0 n.0) in
              record {
                alive = n.0;
                holder = n.1;
                held = X.must_set x w.0 n.0;
                value = λ z. omega (arith, d.1, (X.fit x w.0 c d.0 w.1 d.1).0 z);
                block = λ z. omega (arith, d.1, (X.fit x w.0 c d.0 w.1 d.1).1 z);
              }

      pub uses_of : UsesOk o b v u to tb tv tu ss su
      uses_of = record { slots = slots_of; must = X.must_slot; sets = X.node use_sets }

      pub vals_of : ValsOk o b v to tb tv sv
      vals_of = record { node = X.node vals; must = X.must_val; short = X.short_vals }

      pub nest_of : NestOk o b r to tb tr so sb sr fl
      nest_of = record { regions = record { node = X.node regs; must = X.must_reg; short = X.short_regs }; ops = X.node ops_in; blocks = X.node blocks_in; flags = X.flags; climbs = X.climb }
