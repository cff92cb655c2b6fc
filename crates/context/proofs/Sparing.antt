-- The check that free places have no flags and no type. Assumes nothing.
use mathlib.Core.Path.{◌≡◌, sym, ap, ◌∙◌}
use mathlib.Core.Logic.{by_cases}
use mathlib.Core.Bool.{Bool}
use mathlib.Core.List.{List}
use Prim.Native.Nat.{ℕ, ◌+◌, ◌-◌, ◌<◌}
use native.Mathlib.Decide.{ℕ_discrete, dec_lt}
use native.Mathlib.Omega.{arith}
use borrow.Author.Tests.{eq-eqb, ne_eqb}
use Rattle.std.specs.Prelude.{nat_eq}
use lib.ListN.{length, get_or, take, drop}
use Rattle.seqs.specs.Split.{split, length_part}
use Rattle.seqs.specs.Seqs.{Says}
use Rattle.table.specs.Table.{stamp}
use Rattle.seqs.proofs.Says.{says_map}
use Rattle.arena.specs.Packed.{Packed, Alive, front}
use Rattle.places.specs.Store.{Kind, op, blk, reg, val, usg, Thing, alive}
use Rattle.places.specs.Parts.{store}
use Rattle.context.specs.declared.Layout.{Layout}
use Rattle.context.specs.declared.Table.{Table}
use Rattle.context.specs.Layout.{cap_of, sizes, arena, kind_part, tag_part, HasTag, TagsAt, RoomOf}
use Rattle.context.specs.Memory.{part, parts_of, state_of}
use Rattle.context.specs.Checked.{Fits, TableOk, SpareAt, SpareIn, SpareOk}
use Rattle.context.proofs.Pieces.{lent, get_d_out, kind_part<}
use Rattle.context.proofs.Tags.{tag_part<, tag_here, size_is, untagged}
use Rattle.table.proofs.Live.{stamp_live, free_dead}
use Rattle.context.proofs.Books as books

module _ {K : Kind} (h : HasTag K) {l : Layout} {m : List ℕ} (F : Fits l m) (P : TableOk l m K) {r : Table} (T : RoomOf l K r) {b : ℕ} (A : TagsAt l K b) where
  abbrev t : List ℕ
  t = take (r.end - r.at) (drop r.at m)

  abbrev s : List ℕ
  s = take (b + r.places - b) (drop b m)

  table_seen : t ≡ part l m (kind_part K)
  table_seen = lent l (kind_part K) r.at r.end m (omega (arith, kind_part< K)) T.starts (omega (arith, books.size_is l K, T.ends, ap arena T.capacity))

  tags_seen : s ≡ part l m (tag_part K)
  tags_seen = lent l (tag_part K) b (b + r.places) m (omega (arith, tag_part< h)) A.starts (omega (arith, size_is h l, T.capacity))

  tags_long : length s ≡ r.places
  tags_long = omega (arith, length_part b (b + r.places) m (omega (arith, A.fits, F.fits, T.capacity)))

  pub spare_asked : Packed r.places t × (length s ≡ r.places)
  spare_asked = (rw (table_seen, T.capacity) P, tags_long)

  -- a place past the capacity has no cell
  past : (p : ℕ) → (p < cap_of l K → ⊥) → get_or (part l m (tag_part K)) p 0 ≡ 0
  past p n = get_d_out (part l m (tag_part K)) p (omega (arith, n, tags_long, T.capacity, ap length tags_seen))

  to : SpareIn (cap_of l K) (part l m (kind_part K)) (part l m (tag_part K)) → SpareOk l m K
  unfolding alive store parts_of
  to Z =
      record {
        all = λ p z.
            tag_here h (split (sizes l) m) p
            ∙ by_cases (dec_lt p (cap_of l K))
            (λ y. (Z.all p y).is
            (by_cases (ℕ_discrete (stamp (cap_of l K) (front (cap_of l K) (part l m (kind_part K))) p) 0) (λ e. e)
            (λ d. absurd (omega (arith, z, stamp_live P.table p y (omega (arith, d)))))))
            (past p);
      }

  from : SpareOk l m K → SpareIn (cap_of l K) (part l m (kind_part K)) (part l m (tag_part K))
  unfolding alive store parts_of
  from Z = record { all = λ p y. record { is = λ e. sym (tag_here h (split (sizes l) m) p) ∙ Z.all p (free_dead P.table p e) } }

  pub spare_says : (g : Bool) → Says g (SpareIn r.places t s) → Says g (SpareOk l m K)
  spare_says g S = says_map g to from (rw (table_seen, tags_seen, T.capacity) at S)

-- of a free place the check looks at the tag
pub free_says : {n p : ℕ} {t : List ℕ} → Packed n t → p < n → (s : List ℕ) → (Alive n t p → ⊥) → Says (nat_eq (get_or s p 0) 0) (SpareAt n t s p)
free_says {n} {p} {t} P h s dead =
    by_cases (ℕ_discrete (get_or s p 0) 0)
    (λ e. rw (eq-eqb (get_or s p 0) 0 e) (record { is = λ z. e }))
    (λ d. rw (ne_eqb (get_or s p 0) 0 d) (λ S. d (S.is free)))
  where
    free : stamp n (front n t) p ≡ 0
    free = by_cases (ℕ_discrete (stamp n (front n t) p) 0) (λ e. e) (λ d. absurd (dead (stamp_live P.table p h (omega (arith, d)))))

pub spare_of : (l : Layout) (m : List ℕ) → SpareOk l m op → SpareOk l m val → (a : Thing) → alive (state_of l m) a ≡ 0 → (state_of l m).tag a ≡ 0
spare_of l m F Y a z = go a.0 a.1 z
  where
    go : (k : Kind) (p : ℕ) → alive (state_of l m) (k, p) ≡ 0 → (state_of l m).tag (k, p) ≡ 0
    go op p z = F.all p z
    go blk p z = untagged l m blk p (λ h. elim h [ ])
    go reg p z = untagged l m reg p (λ h. elim h [ ])
    go val p z = Y.all p z
    go usg p z = untagged l m usg p (λ h. elim h [ ])
