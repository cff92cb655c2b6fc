-- A birth and an end in one table are steps of the store; the laws of the thin functions on tables. Assumes nothing.
use mathlib.Core.Path.{◌≡◌, refl, sym, ap, ◌∙◌}
use mathlib.Core.Logic.{by_cases, if_pos, if_neg}
use mathlib.Core.List.{List}
use Prim.Native.Nat.{ℕ, ◌+◌, ◌-◌, ◌<◌}
use native.Mathlib.Decide.{ℕ_discrete, dec_lt}
use native.Mathlib.Numerals.{add-one}
use native.Mathlib.Omega.{arith}
use lib.ListN.{length, get_or, take, drop}
use Rattle.seqs.specs.Split.{split, splice}
use Rattle.std.specs.Prelude.{Option, Some, None, Ok, Err}
use Rattle.bits.proofs.Lowest.{Low, low_at}
use Rattle.table.specs.Table.{next, stamp, live, entry, find_in, count as lives}
use Rattle.arena.specs.Packed.{Packed, Alive, Bore, Gone, front}
use Rattle.seqs.specs.Seqs.{upd, count}
use Rattle.seqs.specs.Entries.{lookup, places}
use Rattle.places.specs.Store.{Kind, op, blk, reg, val, usg, Fam, Kind-dec, Thing, Thing-dec, alive, Live, birth, end}
use Rattle.places.specs.Parts.{Book, Parts, born_book, gone_book, book_birth, book_end, store}
use Rattle.seqs.proofs.Base.{upd_at, upd_same, upd_other, upd_self}
use Rattle.places.proofs.Steps.{alive_born, alive_birth, alive_end}
use Rattle.places.proofs.Rows.{book_birth_lem, book_end_lem}
use Rattle.edit.specs.declared.Refusal.TheVariants.{NoPlace, NoNumber}
use Rattle.edit.specs.Kinds.{code_of}
use Rattle.context.specs.declared.Layout.{Layout}
use Rattle.context.specs.declared.Table.{Table}
use Rattle.context.specs.Layout.{cap_of, nc_of, nn_of, sizes, arena, kind_part, fam_part, RoomOf}
use Rattle.context.specs.Memory.{part, book_in, rows_in, homes_in, parts_of, rows_for, state_of, Well, Borne, Finished, Finds, RoomFor, RoomIs}
use Rattle.context.specs.Reading.{NumberIs, LiveIs, NextNumberIs, NthLiveIs}
use Rattle.context.proofs.Pieces.{Swapped, lent, swap, there, elsewhere, well_table, fam_part<, kind_part<, kind_part_inj, tags_kept}
use Rattle.table.proofs.Live.{length_live, live_stamp, stamp_live, free_dead, found_at, found_none, nth_live}

module _ {l : Layout} {m m' s' : List ℕ} (k : Kind) (S : Swapped l (kind_part k) s' m m') where
  abbrev M : Parts
  M = parts_of l (split (sizes l) m)

  -- one book is b now
  module _ (b : Book) (is : book_in (cap_of l k) s' ≡ b) where
    pub books_are : (j : Kind) → (parts_of l (split (sizes l) m')).books j ≡ upd Kind-dec M.books k b j
    unfolding parts_of
    books_are j =
        by_cases (Kind-dec j k)
        (λ e. rw e (ap (book_in (cap_of l k)) (there S) ∙ is ∙ sym (upd_same Kind-dec M.books k b)))
        (λ d. ap (book_in (cap_of l j)) (elsewhere S (kind_part j) (λ e. d (kind_part_inj j k e))) ∙ sym (upd_other Kind-dec M.books k b d))

  pub rows_are : (f : Fam) (j : ℕ) → (parts_of l (split (sizes l) m')).rows f j ≡ M.rows f j
  unfolding parts_of
  rows_are f j = ap (λ (t : List ℕ). rows_in (nc_of l f) (nn_of l f) t j) (elsewhere S (fam_part f) (omega (arith, fam_part< f, kind_part< k)))

  pub homes_are : (f : Fam) (q : ℕ) → (parts_of l (split (sizes l) m')).homes f q ≡ M.homes f q
  unfolding parts_of
  homes_are f q = ap (λ (t : List ℕ). homes_in (nc_of l f) (nn_of l f) t q) (elsewhere S (fam_part f) (omega (arith, fam_part< f, kind_part< k)))

  pub tags_are : (a : Thing) → (parts_of l (split (sizes l) m')).tags a ≡ M.tags a
  unfolding parts_of
  tags_are a = tags_kept (split (sizes l) m) (split (sizes l) m') (elsewhere S 12 (omega (arith, kind_part< k))) (elsewhere S 13 (omega (arith, kind_part< k))) a.0 a.1

  parts_born : (p : ℕ) → book_in (cap_of l k) s' ≡ born_book p (M.books k) → parts_of l (split (sizes l) m') ≡ book_birth (k, p) (M.tags (k, p)) M
  unfolding book_birth
  parts_born p e =
      λ i. record {
        books = λ j. books_are (born_book p (M.books k)) e j i;
        rows = λ f j. rows_are f j i;
        homes = λ f q. homes_are f q i;
        tags = λ a. (tags_are a ∙ sym (upd_self Thing-dec M.tags (k, p) (M.tags (k, p)) refl a)) i;
      }

  parts_gone : (p : ℕ) → M.tags (k, p) ≡ 0 → book_in (cap_of l k) s' ≡ gone_book p (M.books k) → parts_of l (split (sizes l) m') ≡ book_end (k, p) M
  unfolding book_end
  parts_gone p bare e =
      λ i. record {
        books = λ j. books_are (gone_book p (M.books k)) e j i;
        rows = λ f j. rows_are f j i;
        homes = λ f q. homes_are f q i;
        tags = λ a. (tags_are a ∙ sym (upd_self Thing-dec M.tags (k, p) 0 (sym bare) a)) i;
      }

pub size_is : (l : Layout) (k : Kind) → get_or (sizes l) (kind_part k) 0 ≡ arena (cap_of l k)
size_is l op = refl
size_is l blk = refl
size_is l reg = refl
size_is l val = refl
size_is l usg = refl

module _ {l : Layout} {m : List ℕ} {k : Kind} {r : Table} (W : Well l m) (T : RoomOf l k r) where
  abbrev n : ℕ
  n = cap_of l k

  abbrev s : List ℕ
  s = part l m (kind_part k)

  abbrev given : List ℕ
  given = take (r.end - r.at) (drop r.at m)

  ends : r.end ≡ r.at + get_or (sizes l) (kind_part k) 0
  ends = omega (arith, size_is l k, T.ends, ap arena T.capacity)

  pub seen : given ≡ s
  seen = lent l (kind_part k) r.at r.end m (omega (arith, kind_part< k)) T.starts ends

  pub packed : Packed r.places given
  packed = rw (seen, T.capacity) (W.tables k)

  -- the store's words for what the table asks
  pub room_asked : RoomFor (state_of l m) k (cap_of l k) → Packed r.places given × ((lives (front r.places given) < r.places) × (next (front r.places given) < 4294967295))
  unfolding store parts_of
  room_asked h = (packed, (rw (seen, T.capacity) (omega (arith, h.place, length_live (entry n (front n s)) (lives (front n s)))), rw (seen, T.capacity) h.number))

  pub live_asked : (p : ℕ) → Live (state_of l m) (k, p) → Packed r.places given × ((p < r.places) × (0 < stamp r.places (front r.places given) p))
  unfolding alive store parts_of
  live_asked p h =
      let w : (p < n) × (0 < stamp n (front n s) p) = live_stamp (W.tables k).table p h in
      (packed, (rw T.capacity w.0, rw (seen, T.capacity) w.1))

  pub alive_asked : (p : ℕ) → Live (state_of l m) (k, p) → Packed r.places given × Alive r.places given p
  unfolding alive store parts_of
  alive_asked p h = (packed, rw (seen, T.capacity) h)

  pub finds : (x : ℕ) (a : Option ℕ) → a ≡ find_in (live r.places (front r.places given)) x → Finds (state_of l m) k x a
  unfolding alive store parts_of
  finds x (Some p) h = found_at (W.tables k).table x p (sym (rw (seen, T.capacity) at h))
  finds x None h = λ p g. found_none (W.tables k).table x p (sym (rw (seen, T.capacity) at h)) g

  pub lives_are : {x : ℕ} → x ≡ lives (front r.places given) → x ≡ length ((state_of l m).tab k).order
  unfolding store parts_of
  lives_are h = rw (seen, T.capacity) at h ∙ sym (length_live (entry n (front n s)) (lives (front n s)))

  pub next_is : {x : ℕ} → x ≡ next (front r.places given) → x ≡ ((state_of l m).tab k).next
  unfolding store parts_of
  next_is h = rw (seen, T.capacity) at h

  pub number_is : {p x : ℕ} → x ≡ lookup (live r.places (front r.places given)) p → NumberIs l k p m x
  unfolding store parts_of
  number_is g = record { is = rw (seen, T.capacity) at g }

  pub live_is : {x : ℕ} → x ≡ lives (front r.places given) → LiveIs l k m x
  live_is {x} h =
      let e : x ≡ lives (front n s) = rw (seen, T.capacity) at h in
      record { is = lives_are h; small = omega (arith, e, (W.tables k).table.few) }

  pub next_number_is : {x : ℕ} → x ≡ next (front r.places given) → NextNumberIs l k m x
  next_number_is h = record { is = next_is h }

  pub nth_asked : {i : ℕ} → i < length ((state_of l m).tab k).order → Packed r.places given × (i < lives (front r.places given))
  unfolding store parts_of
  nth_asked h = (packed, rw (seen, T.capacity) (omega (arith, h, length_live (entry n (front n s)) (lives (front n s)))))

  pub nth_live_is : {i x : ℕ} → i < length ((state_of l m).tab k).order → x ≡ get_or (places (live r.places (front r.places given))) i 0 → NthLiveIs l k i m x
  unfolding alive store parts_of
  nth_live_is {i} {x} h g =
      let e : x ≡ get_or (places (live n (front n s))) i 0 = rw (seen, T.capacity) at g in
      let i< : i < lives (front n s) = omega (arith, h, length_live (entry n (front n s)) (lives (front n s))) in
      let z : 0 < count ℕ_discrete x (places (live n (front n s))) = rw e (nth_live (W.tables k).table i i<) in
      record { is = e; live = z; inside = (live_stamp (W.tables k).table x z).0 }

  pub full : {x : ℕ} → x ≡ lives (front r.places given) → (x < cap_of l k → ⊥) → RoomIs l k m (Err NoPlace)
  full h n = record { is = sym (if_neg (dec_lt (length ((state_of l m).tab k).order) (cap_of l k)) (λ y. n (omega (arith, y, lives_are h))) _ 20); some = λ e. absurd (omega (arith, ap code_of e)) }

  module _ {x y : ℕ} (hx : x ≡ lives (front r.places given)) (hy : y ≡ next (front r.places given)) (room : x < cap_of l k) where
    a : length ((state_of l m).tab k).order < cap_of l k
    a = omega (arith, lives_are hx, room)

    pub ran_out : (y < 4294967295 → ⊥) → RoomIs l k m (Err NoNumber)
    ran_out n =
        record {
          is = sym (if_pos (dec_lt (length ((state_of l m).tab k).order) (cap_of l k)) a _ 20 ∙ if_neg (dec_lt ((state_of l m).tab k).next 4294967295) (λ g. n (omega (arith, g, next_is hy))) 0 21);
          some = λ e. absurd (omega (arith, ap code_of e));
        }

    pub roomy : y < 4294967295 → RoomIs l k m (Ok tt)
    roomy h =
        let b : ((state_of l m).tab k).next < 4294967295 = omega (arith, next_is hy, h) in
        record {
          is = sym (if_pos (dec_lt (length ((state_of l m).tab k).order) (cap_of l k)) a _ 20 ∙ if_pos (dec_lt ((state_of l m).tab k).next 4294967295) b 0 21);
          some = λ e. record { place = a; number = b };
        }

  module _ (s' : List ℕ) (kept : length s' ≡ length given) where
    abbrev m' : List ℕ
    m' = splice r.at (r.end - r.at) s' m

    S : Swapped l (kind_part k) s' m m'
    S = swap l (kind_part k) r.at r.end s' m (omega (arith, kind_part< k)) T.starts ends (omega (arith, T.fits, W.fits)) kept

    module _ {p : ℕ} (B₀ : Bore r.places given s' p) where
      B : Bore n s s' p
      B = rw (seen, T.capacity) at B₀

      F : Low (stamp n (front n s)) n p
      F = low_at (stamp n (front n s)) n p B.place

      dead : alive (state_of l m) (k, p) ≡ 0
      unfolding alive store parts_of
      dead = free_dead (W.tables k).table p F.free

      state_born : state_of l m' ≡ birth (k, p) 0 (state_of l m)
      unfolding alive store parts_of
      state_born =
          ap (store (rows_for l)) (parts_born k S p (λ i. record { cap = n; next = (B.number ∙ add-one (next (front n s))) i; live = B.lives i }))
          ∙ book_birth_lem (rows_for l) (parts_of l (split (sizes l) m)) (k, p) ((state_of l m).tag (k, p)) dead
          ∙ ap (λ (t : ℕ). birth (k, p) t (state_of l m)) (W.spare (k, p) dead)

      spare_born : (a : Thing) → alive (state_of l m') a ≡ 0 → (state_of l m').tag a ≡ 0
      unfolding birth
      spare_born a z =
          let z' : alive (birth (k, p) 0 (state_of l m)) a ≡ 0 = rw state_born at z in
          rw state_born
          (by_cases (Thing-dec a (k, p))
          (λ e. absurd (omega (arith, alive_born (state_of l m) (k, p) 0, ap (alive (birth (k, p) 0 (state_of l m))) e, z')))
          (λ d. upd_other Thing-dec (state_of l m).tag (k, p) 0 d ∙ W.spare a (omega (arith, alive_birth (state_of l m) (k, p) 0 a d, z'))))

      low : (q : ℕ) → q < p → Live (state_of l m) (k, q)
      unfolding alive store parts_of
      low q h = stamp_live (W.tables k).table q (omega (arith, F.inside)) (F.before q h)

      pub borne : Borne l k m m' p
      borne =
          record {
            well = well_table k W S B.packed spare_born;
            rest = elsewhere S 14 (omega (arith, kind_part< k));
            dead = dead;
            room = F.inside;
            lowest = low;
            state = state_born;
          }

    module _ {p : ℕ} (bare : (state_of l m).tag (k, p) ≡ 0) (G₀ : Gone r.places given s' p) where
      G : Gone n s s' p
      G = rw (seen, T.capacity) at G₀

      state_gone : state_of l m' ≡ end (k, p) (state_of l m)
      unfolding store parts_of
      state_gone =
          ap (store (rows_for l)) (parts_gone k S p bare (λ i. record { cap = n; next = G.number i; live = G.lives i }))
          ∙ book_end_lem (rows_for l) (parts_of l (split (sizes l) m)) (k, p)

      spare_gone : (a : Thing) → alive (state_of l m') a ≡ 0 → (state_of l m').tag a ≡ 0
      unfolding end
      spare_gone a z =
          let z' : alive (end (k, p) (state_of l m)) a ≡ 0 = rw state_gone at z in
          rw state_gone
          (by_cases (Thing-dec a (k, p))
          (λ e. upd_at Thing-dec (state_of l m).tag (k, p) 0 e)
          (λ d. upd_other Thing-dec (state_of l m).tag (k, p) 0 d ∙ W.spare a (omega (arith, alive_end (state_of l m) (k, p) a d, z'))))

      pub finished : Finished l k p m m'
      finished = record { well = well_table k W S G.packed spare_gone; rest = elsewhere S 14 (omega (arith, kind_part< k)); state = state_gone }

pub borne_live : {l : Layout} {m m₁ : List ℕ} {k : Kind} {p : ℕ} → Borne l k m m₁ p → Live (state_of l m₁) (k, p)
borne_live {l} {m} {m₁} {k} {p} B = rw B.state (omega (arith, alive_born (state_of l m) (k, p) 0))
