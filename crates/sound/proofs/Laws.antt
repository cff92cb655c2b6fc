-- The parts of a well-formed buffer as the tests across them read it; what they find is that the store is sound. Assumes nothing.
use mathlib.Core.Path.{◌≡◌, refl, sym, ap, ◌∙◌, subst}
use mathlib.Core.Bool.{Bool}
use mathlib.Core.List.{List}
use native.Mathlib.Omega.{arith}
use Prim.Native.Nat.{ℕ, zero, suc, ◌+◌, ◌-◌, ◌≤◌}
use lib.ListN.{length, get_or, take, drop}
use lib.Seq.{take-take}
use Rattle.seqs.specs.Seqs.{Says}
use Rattle.seqs.specs.Split.{split, start, length_part}
use Rattle.seqs.proofs.Says.{says_map}
use Rattle.table.specs.Table as T
use Rattle.table.proofs.Live.{length_live}
use Rattle.linked_list.specs.Links.{home, Linked}
use Rattle.arena.specs.Packed.{front}
use Rattle.places.specs.Store.{Kind, op, blk, reg, val, usg, Fam, slots, use_sets, vals, regs, ops_in, blocks_in, Sound}
use Rattle.places.specs.Parts.{Parts, rows_of, store}
use Rattle.context.specs.declared.Layout.{Layout}
use Rattle.context.specs.declared.Table.{Table}
use Rattle.context.specs.Layout.{arena, cap_of, nc_of, nn_of, sizes, total, Caps, RoomOf, TagsAt}
use Rattle.context.specs.Reading.{LiveIs}
use Rattle.context.specs.Memory.{part, decode, parts_of, layout_of, state_of, Well, SoundStore}
use Rattle.context.proofs.Pieces.{lent}
use Rattle.context.proofs.Books as books
use Rattle.sound_parts.specs.Cross.{Crossed, code_of}
use Rattle.sound_parts.specs.Memory as S
use Rattle.sound_parts.proofs.Slices.{checked_iff}
use Rattle.sound_parts.proofs.Whole.{crossed_of, uses_of, vals_of, nest_of}
use Rattle.sound.specs.Crossing.{table_in, UsesCross, ValsCross, NestCross}

-- ---- the parts as they are lent

-- the words of an arena suffice for its table
enough : (n : ℕ) → 2 + n + n ≤ arena n
unfolding arena
enough n = omega arith

pub small_total : {l : Layout} → Caps l → total l ≤ 300000
unfolding arena
small_total C = omega (arith, C.ops, C.blocks, C.regions, C.values, C.uses)

module _ {l : Layout} {m : List ℕ} (W : Well l m) where
  module _ {k : Kind} {r : Table} (R : RoomOf l k r) where
    pub table_end : r.at + (2 + r.places + r.places) ≤ length m
    table_end = omega (arith, R.fits, R.ends, enough r.places, W.fits)

    pub table_seen : take (r.at + (2 + r.places + r.places) - r.at) (drop r.at m) ≡ table_in l m k
    table_seen =
        let n : ℕ = 2 + r.places + r.places in
        let w : n ≡ r.at + n - r.at = omega arith in
        sym (ap (λ (t : List ℕ). front (cap_of l k) t) (sym (books.seen W R)) ∙ ap (λ (c : ℕ). front c (take (r.end - r.at) (drop r.at m))) (sym R.capacity) ∙ take-take n (r.end - r.at) (drop r.at m) (omega (arith, R.ends, enough r.places)) ∙ ap (λ (c : ℕ). take c (drop r.at m)) w)

    pub shape : T.Shape r.places (take (r.at + (2 + r.places + r.places) - r.at) (drop r.at m))
    shape = let t : T.Table (cap_of l k) (table_in l m k) = (W.tables k).table in rw (table_seen, R.capacity) (record { cap = t.cap; size = t.size; few = t.few })

  pub flags_seen : (t n : ℕ) → TagsAt l op t → n ≡ l.ops → take (t + n - t) (drop t m) ≡ part l m 12
  flags_seen t n R e = lent l 12 t (t + n) m (omega arith) R.starts (omega (arith, e))

  pub flags_long : length (part l m 12) ≡ l.ops
  flags_long =
      ap length (sym (lent l 12 (start (sizes l) 12) (start (sizes l) 12 + l.ops) m (omega arith) refl refl))
      ∙ length_part (start (sizes l) 12) (start (sizes l) 12 + l.ops) m (omega (arith, W.fits)) ∙ omega arith

  -- how many operations live, as their table counts them
  pub counted : (n : ℕ) → LiveIs l op m n → n ≡ T.count (table_in l m op)
  unfolding store parts_of
  counted n N = N.is ∙ length_live (T.entry l.ops (table_in l m op)) (T.count (table_in l m op))

-- ---- what they find

code_same : (n : ℕ) → code_of n ≡ decode n
code_same zero = refl
code_same (suc n) = refl

module _ (l : Layout) (m : List ℕ) where
  abbrev M : S.Mem
  M = S.mem_of l.ops l.blocks l.regions l.values l.uses (table_in l m op) (table_in l m blk) (table_in l m reg) (table_in l m val) (table_in l m usg) (part l m 6) (part l m 7) (part l m 8) (part l m 9) (part l m 10) (part l m 11) (part l m 12) (part l m 13)

  abbrev ps : List (List ℕ)
  ps = split (sizes l) m

  books_are : (k : Kind) → (S.parts_of M).books k ≡ (parts_of l ps).books k
  unfolding S.parts_of parts_of
  books_are op = refl
  books_are blk = refl
  books_are reg = refl
  books_are val = refl
  books_are usg = refl

  rows_are : (f : Fam) → (S.parts_of M).rows f ≡ (parts_of l ps).rows f
  unfolding S.parts_of parts_of
  rows_are slots = refl
  rows_are use_sets = refl
  rows_are vals = refl
  rows_are regs = refl
  rows_are ops_in = refl
  rows_are blocks_in = refl

  homes_are : (f : Fam) (q : ℕ) → (S.parts_of M).homes f q ≡ (parts_of l ps).homes f q
  unfolding S.parts_of parts_of
  homes_are slots q = code_same (get_or (part l m 6) (home (nc_of l slots) (nn_of l slots) q) 0)
  homes_are use_sets q = code_same (get_or (part l m 7) (home (nc_of l use_sets) (nn_of l use_sets) q) 0)
  homes_are vals q = code_same (get_or (part l m 8) (home (nc_of l vals) (nn_of l vals) q) 0)
  homes_are regs q = code_same (get_or (part l m 9) (home (nc_of l regs) (nn_of l regs) q) 0)
  homes_are ops_in q = code_same (get_or (part l m 10) (home (nc_of l ops_in) (nn_of l ops_in) q) 0)
  homes_are blocks_in q = code_same (get_or (part l m 11) (home (nc_of l blocks_in) (nn_of l blocks_in) q) 0)

  tags_are : (k : Kind) (p : ℕ) → (S.parts_of M).tags (k, p) ≡ (parts_of l ps).tags (k, p)
  unfolding S.parts_of parts_of
  tags_are op p = refl
  tags_are blk p = refl
  tags_are reg p = refl
  tags_are val p = refl
  tags_are usg p = refl

  parts_are : S.parts_of M ≡ parts_of l ps
  parts_are i = record { books = λ k. books_are k i; rows = λ f. rows_are f i; homes = λ f q. homes_are f q i; tags = λ a. tags_are a.0 a.1 i }

  module _ (W : Well l m) where
    formed : S.Formed M
    formed = record { tables = tables; links = links }
      where
        tables : (k : Kind) → T.Table (M.cap k) (M.table k)
        tables op = (W.tables op).table
        tables blk = (W.tables blk).table
        tables reg = (W.tables reg).table
        tables val = (W.tables val).table
        tables usg = (W.tables usg).table

        links : (f : Fam) → Linked (S.nc M.cap f) (S.nn M.cap f) (M.family f)
        links slots = W.families slots
        links use_sets = W.families use_sets
        links vals = W.families vals
        links regs = W.families regs
        links ops_in = W.families ops_in
        links blocks_in = W.families blocks_in

    pub sound_of : UsesCross l m → ValsCross l m → NestCross l m → Sound (state_of l m)
    sound_of u v n =
        subst (λ (X : Parts). Sound (store (rows_of l.values l.ops) X)) parts_are
        ((checked_iff M).0 (record { formed = formed; crossed = crossed_of l.ops l.blocks l.regions l.values l.uses (table_in l m op) (table_in l m blk) (table_in l m reg) (table_in l m val) (table_in l m usg) (part l m 6) (part l m 7) (part l m 8) (part l m 9) (part l m 10) (part l m 11) (part l m 12) (part l m 13) formed u v n })).sound

    module _ (Z : Sound (state_of l m)) where
      crossed : Crossed (S.cells_of M)
      crossed = ((checked_iff M).1 (record { formed = formed; sound = subst (λ (X : Parts). Sound (store (rows_of l.values l.ops) X)) (sym parts_are) Z })).crossed

      pub sound_uses : UsesCross l m
      sound_uses = uses_of l.ops l.blocks l.regions l.values l.uses (table_in l m op) (table_in l m blk) (table_in l m reg) (table_in l m val) (table_in l m usg) (part l m 6) (part l m 7) (part l m 8) (part l m 9) (part l m 10) (part l m 11) (part l m 12) (part l m 13) formed crossed

      pub sound_vals : ValsCross l m
      sound_vals = vals_of l.ops l.blocks l.regions l.values l.uses (table_in l m op) (table_in l m blk) (table_in l m reg) (table_in l m val) (table_in l m usg) (part l m 6) (part l m 7) (part l m 8) (part l m 9) (part l m 10) (part l m 11) (part l m 12) (part l m 13) formed crossed

      pub sound_nest : NestCross l m
      sound_nest = nest_of l.ops l.blocks l.regions l.values l.uses (table_in l m op) (table_in l m blk) (table_in l m reg) (table_in l m val) (table_in l m usg) (part l m 6) (part l m 7) (part l m 8) (part l m 9) (part l m 10) (part l m 11) (part l m 12) (part l m 13) formed crossed

-- ---- the header

pub store_says : {l : Layout} {m : List ℕ} (k : Bool) → l ≡ layout_of m → Well l m → Says k (Sound (state_of l m)) → Says k (SoundStore (layout_of m) m)
store_says {l} {m} k e W h = subst (λ (y : Layout). Says k (SoundStore y m)) e (says_map k (λ S. record { well = W; sound = S }) (λ S. S.sound) h)

pub well_of : {l : Layout} {m : List ℕ} → l ≡ layout_of m → SoundStore (layout_of m) m → Well l m
well_of {l} {m} e S = subst (λ (y : Layout). Well y m) (sym e) S.well
