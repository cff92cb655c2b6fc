-- The check of the parts. Assumes nothing.
use mathlib.Core.Path.{◌≡◌, sym, ap, ◌∙◌}
use mathlib.Core.Bool.{Bool}
use mathlib.Core.List.{List, [], ◌∷◌}
use Prim.Native.Nat.{ℕ, ◌-◌, ◌≤◌, ◌<◌}
use native.Mathlib.Omega.{arith}
use lib.Seq.{get_or-take}
use lib.ListN.{length, get_or, take, drop}
use Rattle.seqs.specs.Split.{split}
use Rattle.linked_list.specs.Links.{Linked}
use Rattle.seqs.specs.Seqs.{Says}
use Rattle.seqs.proofs.Says.{says_map}
use Rattle.arena.specs.Packed.{Packed}
use Rattle.places.specs.Store.{Kind, op, blk, reg, val, usg, Fam, slots, use_sets, vals, regs, ops_in, blocks_in}
use Rattle.context.specs.declared.Layout.{Layout}
use Rattle.context.specs.declared.Span.{Span}
use Rattle.context.specs.declared.Table.{Table}
use Rattle.context.specs.Layout.{total, arena, kind_part, fam_part, SpanOf, RoomOf, Caps}
use Rattle.context.specs.Memory.{part, layout_of, Well}
use Rattle.context.specs.Checked.{Headed, TableOk, FamilyOk, TablesOk, FamiliesOk, SpareOk}
use Rattle.context.proofs.Sparing.{spare_of}
use Rattle.context.proofs.Pieces.{lent, fam_part<, kind_part<}
use Rattle.context.proofs.Books as books
use Rattle.context.proofs.Thin as thin

pub head_read : (l : Layout) (m : List ℕ) → 5 ≤ length m → l.ops ≡ get_or m 0 0 → l.blocks ≡ get_or m 1 0 → l.regions ≡ get_or m 2 0 → l.values ≡ get_or m 3 0 → l.uses ≡ get_or m 4 0 → Headed l m
unfolding split
head_read l [] h a b c d e = absurd (omega arith)
head_read l (x ∷ []) h a b c d e = absurd (omega arith)
head_read l (x ∷ y ∷ []) h a b c d e = absurd (omega arith)
head_read l (x ∷ y ∷ z ∷ []) h a b c d e = absurd (omega arith)
head_read l (x ∷ y ∷ z ∷ v ∷ []) h a b c d e = absurd (omega arith)
head_read l (x ∷ y ∷ z ∷ v ∷ w ∷ m) h a b c d e = record { head = sym (λ i. a i ∷ b i ∷ c i ∷ d i ∷ e i ∷ []) }

-- the capacities that were read are the header's
pub headed : {l : Layout} {m : List ℕ} → Headed l m → l ≡ layout_of m
unfolding split
headed {l} {m} H = λ i. record { ops = at 0 (omega arith) i; blocks = at 1 (omega arith) i; regions = at 2 (omega arith) i; values = at 3 (omega arith) i; uses = at 4 (omega arith) i }
  where
    at : (j : ℕ) → j < 5 → get_or (l.ops ∷ l.blocks ∷ l.regions ∷ l.values ∷ l.uses ∷ []) j 0 ≡ get_or m j 0
    at j h = ap (λ (t : List ℕ). get_or t j 0) (sym H.head) ∙ get_or-take 5 m j 0 h

pub table_says : {l : Layout} {k : Kind} {r : Table} (m : List ℕ) → RoomOf l k r → (b : Bool) → Says b (Packed r.places (take (r.end - r.at) (drop r.at m))) → Says b (TableOk l m k)
table_says {l} {k} {r} m T b h =
    let e : take (r.end - r.at) (drop r.at m) ≡ part l m (kind_part k) =
    lent l (kind_part k) r.at r.end m (omega (arith, kind_part< k)) T.starts (omega (arith, books.size_is l k, T.ends, ap arena T.capacity)) in
    rw (e, T.capacity) at h

pub family_says : {l : Layout} {f : Fam} {r : Span} (m : List ℕ) → SpanOf l f r → (b : Bool) → Says b (Linked r.lists.nc r.lists.nn (take (r.end - r.at) (drop r.at m))) → Says b (FamilyOk l m f)
family_says {l} {f} {r} m T b h =
    let e : take (r.end - r.at) (drop r.at m) ≡ part l m (fam_part f) =
    lent l (fam_part f) r.at r.end m (omega (arith, fam_part< f)) T.starts (omega (arith, thin.size_is l f, T.ends, T.containers, T.nodes)) in
    rw (e, T.containers, T.nodes) at h

-- the kinds and the families, one by one
pub tables_say : (l : Layout) (m : List ℕ) (b : Bool) → Says b (TableOk l m op × TableOk l m blk × TableOk l m reg × TableOk l m val × TableOk l m usg) → Says b (TablesOk l m)
tables_say l m b =
    says_map b (λ (o, c, r, v, u). record { all = λ k. elim k as (λ j. TableOk l m j) [ op ↦ o | blk ↦ c | reg ↦ r | val ↦ v | usg ↦ u ] })
    (λ T. (T.all op, T.all blk, T.all reg, T.all val, T.all usg))

pub families_say : (l : Layout) (m : List ℕ) (b : Bool) → Says b (FamilyOk l m slots × FamilyOk l m use_sets × FamilyOk l m vals × FamilyOk l m regs × FamilyOk l m ops_in × FamilyOk l m blocks_in) → Says b (FamiliesOk l m)
families_say l m b =
    says_map b (λ (s, u, v, r, o, c). record { all = λ f. elim f as (λ g. FamilyOk l m g) [ slots ↦ s | use_sets ↦ u | vals ↦ v | regs ↦ r | ops_in ↦ o | blocks_in ↦ c ] })
    (λ F. (F.all slots, F.all use_sets, F.all vals, F.all regs, F.all ops_in, F.all blocks_in))

pub well_says : (l : Layout) (m : List ℕ) → Headed l m → (b : Bool) → Says b (Caps l × (total l ≤ length m) × TablesOk l m × FamiliesOk l m × SpareOk l m op × SpareOk l m val) → Says b (Well l m)
well_says l m H b =
    says_map b (λ (C, F, T, G, A, B). record { caps = C; fits = F; head = H.head; tables = T.all; families = G.all; spare = spare_of l m A B })
    (λ W. (W.caps, W.fits, record { all = W.tables }, record { all = W.families }, record { all = λ p. W.spare (op, p) }, record { all = λ p. W.spare (val, p) }))
