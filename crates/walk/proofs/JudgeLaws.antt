-- Verdicts: the laws of the tests, and of the three functions' loops. Assumes nothing.
use mathlib.Core.Path.{◌≡◌, refl, sym, ap, ap₂, ◌∙◌, subst}
use mathlib.Core.Logic.{◌≢◌, by_cases}
use mathlib.Core.Bool.{Bool, true, false, ◌&&◌, ◌||◌}
use mathlib.Core.List.{List, [], ◌∷◌, ◌++◌}
use mathlib.Core.Option.{Option, none, some}
use native.Mathlib.Omega.{arith}
use Prim.Native.Nat.{ℕ, ◌≤◌}
use Rattle.std.specs.Prelude as Rust
use Rattle.std.specs.Prelude.{None, Some, Ok, Err}
use Rattle.std.specs.Option.{ok_or, option_eq}
use Rattle.seqs.specs.Seqs.{count, In, seq_last_of}
use Rattle.places.specs.Store.{op, blk, reg, usg, block_uses, regions, ops, Fam, use_sets, regs, ops_in, blocks_in, Thing, Thing-dec, Con, Con-dec, State, Live, Link, outer, up}
use Rattle.places.specs.Parts.{node_in, rows_of, con_of}
use Rattle.places.specs.View.{num}
use Rattle.rules.specs.Table.{some_and}
use Rattle.rules.specs.Verdict.{is_clean}
use Rattle.edit.specs.Answer.{Reply, clean, refuse, found}
use Rattle.places.specs.Verdict.{as_bool, place_first_met, last_thing, follows, is_held_by, terminates, lackable, place_ends_well, place_names_block, place_leads_to, place_stray_user, place_lost_pred, place_in_block, place_block_verdict, place_region_verdict, place_too_early}
use borrow.Author.Tests.{eqb-true, eqb-false}
use Rattle.seqs.proofs.Base.{tick_yes, tick_no, count_append, in_head, in_tail}
use Rattle.places.proofs.Steps.{thing_eq, listed, once}
use Rattle.places.proofs.Nest.{is_nest, fam_role, role_is}
use Rattle.places.proofs.VerdictWalk.{verdict_eq}
use Rattle.context.specs.declared.Layout.{Layout}
use Rattle.context.specs.Memory.{con, ListIs, state_of, given, SoundStore, first_place, HomeIs}
use Rattle.context.specs.Reading.{list_of, last_place, NextIs, LastIs, NumberIs, block_by, BlockOf}
use Rattle.context.proofs.Numbers.{same_row}
use Rattle.walk.specs.Judge.{on_op, alone, user_leads}
use Rattle.context.proofs.Users.{around_none, around_some}
use Rattle.context.proofs.Cursor.{single}
use Rattle.walk.proofs.Nested.{same_place, none_some}

-- ---- booleans

pub as_yes {ℓ} : {A : Type ℓ} (w : Dec A) → A → as_bool w ≡ true
as_yes (yes e) a = refl
as_yes (no n) a = absurd (n a)

pub as_no {ℓ} : {A : Type ℓ} (w : Dec A) → (A → ⊥) → as_bool w ≡ false
as_no (yes e) n = absurd (n e)
as_no (no e) n = refl

-- ---- one search: what is left to search says what the whole says

pub met_hit : (f : Thing → Reply) (t l : List Thing) (y : Thing) (r : List Thing) → place_first_met f t ≡ place_first_met f l → t ≡ y ∷ r → is_clean (f y) ≡ false → f y ≡ place_first_met f l
met_hit f t l y r e q h = sym (ap {B = Reply} (λ (b : Bool). elim b [ true ↦ place_first_met f r | false ↦ f y ]) h) ∙ ap (place_first_met f) (sym q) ∙ e

pub met_miss : (f : Thing → Reply) (t l : List Thing) (y : Thing) (r : List Thing) → place_first_met f t ≡ place_first_met f l → t ≡ y ∷ r → is_clean (f y) ≡ true → place_first_met f r ≡ place_first_met f l
met_miss f t l y r e q h = sym (ap {B = Reply} (λ (b : Bool). elim b [ true ↦ place_first_met f r | false ↦ f y ]) h) ∙ ap (place_first_met f) (sym q) ∙ e

pub met_over : (f : Thing → Reply) (t l : List Thing) → place_first_met f t ≡ place_first_met f l → t ≡ [] → clean ≡ place_first_met f l
met_over f t l e q = ap (place_first_met f) (sym q) ∙ e

-- ---- the last of a list

last_none_lem : (l : List Thing) → ◌≡◌ {A = Rust.Option ℕ} None (last_place l) → last_thing l ≡ none
last_none_lem [] e = refl
last_none_lem (x ∷ l) e = absurd (none_some e)

last_some_lem : {p : ℕ} (l : List Thing) → ◌≡◌ {A = Rust.Option ℕ} (Some p) (last_place l) → (y : Thing) × (last_thing l ≡ some y) × (p ≡ y.1) × In Thing-dec y l
last_some_lem [] e = absurd (none_some (sym e))
last_some_lem (x ∷ l) e = (seq_last_of x l, is x l, same_place e, inside x l)
  where
    is : (x : Thing) (l : List Thing) → last_thing (x ∷ l) ≡ some (seq_last_of x l)
    is x [] = refl
    is x (y ∷ l) = is y l

    inside : (x : Thing) (l : List Thing) → In Thing-dec (seq_last_of x l) (x ∷ l)
    inside x [] = in_head Thing-dec x []
    inside x (y ∷ l) = in_tail Thing-dec (seq_last_of y l) x (y ∷ l) (inside y l)

-- ---- does something follow?

pub some_in : List Thing → Bool
some_in [] = false
some_in (y ∷ l) = true

follow_skip : (o x : Thing) (a b : List Thing) → x ≢ o → follows o (x ∷ (a ++ (o ∷ b))) ≡ follows o (a ++ (o ∷ b))
follow_skip o x [] b n = ap (λ (c : Bool). c || follows o (o ∷ b)) (as_no (Thing-dec x o) n)
follow_skip o x (z ∷ a) b n = ap (λ (c : Bool). c || follows o (z ∷ (a ++ (o ∷ b)))) (as_no (Thing-dec x o) n)

follow_split : (o : Thing) (a b : List Thing) → count Thing-dec o (a ++ (o ∷ b)) ≤ 1 → follows o (a ++ (o ∷ b)) ≡ some_in b
unfolding some_in
follow_split o [] [] h = refl
follow_split o [] (y ∷ b) h = ap (λ (c : Bool). c || follows o (y ∷ b)) (as_yes (Thing-dec o o) refl)
follow_split o (x ∷ a) b h =
    follow_skip o x a b (λ e. absurd (omega (arith, h, tick_yes (Thing-dec o x) (sym e), count_append Thing-dec o a (o ∷ b), in_head Thing-dec o b)))
    ∙ follow_split o a b (omega (arith, h))

first_in : (b : List Thing) → some_in b ≡ Rust.is_some (first_place b)
unfolding some_in
first_in [] = refl
first_in (y ∷ b) = refl

split_in : (x : Thing) (l : List Thing) → In Thing-dec x l → (a : List Thing) × (b : List Thing) × (l ≡ a ++ (x ∷ b))
split_in x [] i = absurd (omega arith)
split_in x (y ∷ l) i =
    by_cases (Thing-dec x y)
    (λ e. ([], l, ap {B = List Thing} (λ (z : Thing). z ∷ l) (sym e)))
    (λ n. let w : (a : List Thing) × (b : List Thing) × (l ≡ a ++ (x ∷ b)) = split_in x l (omega (arith, i, tick_no (Thing-dec x y) n)) in (y ∷ w.0, w.1, ap {B = List Thing} (λ (z : List Thing). y ∷ z) w.2))

-- ---- where things stand

-- the list k of the use sets is the block's exactly if it has the number d of the block's
module _ {l : Layout} {b d : ℕ} (K : ListIs l use_sets (block_uses, (blk, b)) d) where
  held_at : (k : ℕ) → k ≡ d → is_held_by (some (con l use_sets k)) (block_uses, (blk, b)) ≡ true
  held_at k e = as_yes (Con-dec (con l use_sets k) (block_uses, (blk, b))) (ap (con l use_sets) e ∙ K.row)

  held_off : (k : ℕ) → k ≢ d → is_held_by (some (con l use_sets k)) (block_uses, (blk, b)) ≡ false
  held_off k n = as_no (Con-dec (con l use_sets k) (block_uses, (blk, b))) (λ e. n (same_row l use_sets k d (e ∙ sym K.row)))

  -- by the list that it stands in
  pub held_by : (h : Rust.Option ℕ) (o : Option Con) → o ≡ con_of (con l use_sets) (given h) → option_eq Rust.nat_eq h (Some d) ≡ is_held_by o (block_uses, (blk, b))
  held_by None o e = sym (ap (λ (c : Option Con). is_held_by c (block_uses, (blk, b))) e)
  held_by (Some k) o e =
      go (Rust.nat_eq k d) refl ∙ sym (ap (λ (c : Option Con). is_held_by c (block_uses, (blk, b))) e)
    where
      go : (t : Bool) → Rust.nat_eq k d ≡ t → Rust.nat_eq k d ≡ is_held_by (some (con l use_sets k)) (block_uses, (blk, b))
      go true q = q ∙ sym (held_at k (omega (arith, eqb-true k d q)))
      go false q = q ∙ sym (held_off k (λ w. eqb-false k d q w))

-- an option that a refusal stands for
pub was_some : {A E : Type 0} {r : Rust.Option A} (e : E) {n : A} → ok_or r e ≡ Ok n → r ≡ Some n
was_some {r = None} e h = let z : ◌≡◌ {A = ℕ} 0 1 = cc in absurd (omega arith)
was_some {r = Some x} e h = cc

pub was_none : {A E : Type 0} {r : Rust.Option A} (e : E) {x : E} → ok_or r e ≡ Err x → (r ≡ None) × (x ≡ e)
was_none {r = None} e h = (refl, cc)
was_none {r = Some x} e h = let z : ◌≡◌ {A = ℕ} 0 1 = cc in absurd (omega arith)

-- what lies around
module _ {l : Layout} {m : List ℕ} (S : SoundStore l m) where
  abbrev P : State
  P = state_of l m

  -- what it lies in lives
  around_live : (f : Fam) (n k : ℕ) → P.own (node_in f, n) f ≡ some (con l f k) → Live P (con l f k).1
  around_live f n k e = (S.sound.linked.link (node_in f, n) f (con l f k) e).home

  -- the region of a block, the operation of a region
  block_free : (b : ℕ) {h : Rust.Option ℕ} → HomeIs l blocks_in b m h → h ≡ None → up P (blk, b) ≡ none
  unfolding up
  block_free b H z = ap outer (around_none H z)

  block_in : (b : ℕ) {h : Rust.Option ℕ} {r : ℕ} → HomeIs l blocks_in b m h → h ≡ Some r → up P (blk, b) ≡ some (reg, r)
  unfolding up rows_of
  block_in b H z = ap outer (around_some H z)

  pub block_in_live : (b : ℕ) {h : Rust.Option ℕ} {r : ℕ} → HomeIs l blocks_in b m h → h ≡ Some r → Live P (reg, r)
  unfolding rows_of
  block_in_live b {h} {r} H z = around_live blocks_in b r (around_some H z)

  region_in : (r : ℕ) {h : Rust.Option ℕ} {o : ℕ} → HomeIs l regs r m h → h ≡ Some o → up P (reg, r) ≡ some (op, o)
  unfolding up rows_of
  region_in r H z = ap outer (around_some H z)

  pub region_in_live : (r : ℕ) {h : Rust.Option ℕ} {o : ℕ} → HomeIs l regs r m h → h ≡ Some o → Live P (op, o)
  unfolding rows_of
  region_in_live r {h} {o} H z = around_live regs r o (around_some H z)

  -- ---- the tests of a use

  user_up : {u : ℕ} {h : Rust.Option ℕ} (b : ℕ) → BlockOf l u m h → user_leads P (blk, b) (usg, u) ≡ some_and (block_by h) (place_leads_to P (blk, b))
  unfolding some_and
  user_up b B =
      ap (λ (o : Option Thing). some_and o (λ q. some_and (up P q) (place_leads_to P (blk, b)))) B.at
      ∙ ap (λ (o : Option Thing). some_and o (place_leads_to P (blk, b))) B.is

  pub leads_none : {u : ℕ} {h : Rust.Option ℕ} (b : ℕ) → BlockOf l u m h → h ≡ None → false ≡ user_leads P (blk, b) (usg, u)
  unfolding some_and
  leads_none b B z = sym (user_up b B ∙ ap (λ (i : Rust.Option ℕ). some_and (block_by i) (place_leads_to P (blk, b))) z)

  pub leads_some : {u p : ℕ} {h : Rust.Option ℕ} (b : ℕ) → BlockOf l u m h → h ≡ Some p → place_leads_to P (blk, b) (blk, p) ≡ user_leads P (blk, b) (usg, u)
  unfolding some_and
  leads_some b B z = sym (user_up b B ∙ ap (λ (i : Rust.Option ℕ). some_and (block_by i) (place_leads_to P (blk, b))) z)

  -- ---- the last operation of a block

  list_ops : (b : ℕ) → list_of l m (con l ops_in b) ≡ P.list (blk, b) ops
  unfolding rows_of
  list_ops b = refl

  last_none : (b : ℕ) {k : Rust.Option ℕ} → LastIs l ops_in b m k → k ≡ None → last_thing (P.list (blk, b) ops) ≡ none
  last_none b L z = last_none_lem (P.list (blk, b) ops) (sym z ∙ L.is ∙ ap last_place (list_ops b))

  pub last_some : (b : ℕ) {k : Rust.Option ℕ} {p : ℕ} → LastIs l ops_in b m k → k ≡ Some p → (last_thing (P.list (blk, b) ops) ≡ some (op, p)) × Live P (op, p)
  last_some b {k} {p} L z =
      let w : (y : Thing) × (last_thing (P.list (blk, b) ops) ≡ some y) × (p ≡ y.1) × In Thing-dec y (P.list (blk, b) ops) = last_some_lem (P.list (blk, b) ops) (sym z ∙ L.is ∙ ap last_place (list_ops b)) in
      let K : Link P w.0 ops_in (ops, (blk, b)) = S.sound.linked.link w.0 ops_in (ops, (blk, b)) (listed S.sound.linked w.0 (blk, b) ops w.3) in
      let e : w.0 ≡ (op, p) = thing_eq w.0 (op, p) K.node (sym w.2) in
      (w.1 ∙ ap some e, subst (λ (y : Thing). Live P y) e K.live)

  pub ends_none : (b : ℕ) {k : Rust.Option ℕ} → LastIs l ops_in b m k → k ≡ None → false ≡ place_ends_well P (blk, b)
  unfolding place_ends_well some_and
  ends_none b L z = ap (λ (o : Option Thing). some_and o (terminates P)) (sym (last_none b L z))

  pub ends_some : (b : ℕ) {k : Rust.Option ℕ} {p : ℕ} → LastIs l ops_in b m k → k ≡ Some p → terminates P (op, p) ≡ place_ends_well P (blk, b)
  unfolding place_ends_well some_and
  ends_some b L z = ap (λ (o : Option Thing). some_and o (terminates P)) (sym (last_some b L z).0)

  pub leads_empty : (b p : ℕ) {k : Rust.Option ℕ} → LastIs l ops_in p m k → k ≡ None → false ≡ place_leads_to P (blk, b) (blk, p)
  unfolding place_leads_to some_and
  leads_empty b p L z = ap (λ (q : Option Thing). some_and q (λ o. terminates P o && place_names_block P (blk, b) o)) (sym (last_none p L z))

  pub leads_last : (b p : ℕ) {k : Rust.Option ℕ} {o : ℕ} → LastIs l ops_in p m k → k ≡ Some o → (terminates P (op, o) && place_names_block P (blk, b) (op, o)) ≡ place_leads_to P (blk, b) (blk, p)
  unfolding place_leads_to some_and
  leads_last b p L z = ap (λ (q : Option Thing). some_and q (λ o. terminates P o && place_names_block P (blk, b) o)) (sym (last_some p L z).0)

  -- ---- the end of a block

  well_is : (b r : ℕ) {h : Rust.Option ℕ} {o : ℕ} → HomeIs l regs r m h → h ≡ Some o → (lackable P (op, o) || place_ends_well P (blk, b)) ≡ (some_and (up P (reg, r)) (lackable P) || place_ends_well P (blk, b))
  unfolding some_and
  well_is b r H z = sym (ap (λ (o : Option Thing). some_and o (lackable P) || place_ends_well P (blk, b)) (region_in r H z))

  pub well_first : (b r : ℕ) {h : Rust.Option ℕ} {o : ℕ} → HomeIs l regs r m h → h ≡ Some o → true ≡ lackable P (op, o) → true ≡ (some_and (up P (reg, r)) (lackable P) || place_ends_well P (blk, b))
  well_first b r H z e = ap (λ (c : Bool). c || place_ends_well P (blk, b)) e ∙ well_is b r H z

  pub well_second : (b r : ℕ) {h : Rust.Option ℕ} {o : ℕ} → HomeIs l regs r m h → h ≡ Some o → false ≡ lackable P (op, o) → place_ends_well P (blk, b) ≡ (some_and (up P (reg, r)) (lackable P) || place_ends_well P (blk, b))
  well_second b r H z e = ap (λ (c : Bool). c || place_ends_well P (blk, b)) e ∙ well_is b r H z

  -- ---- a terminator with a next operation

  abbrev next? : ℕ → Bool
  next? o = some_and (up P (op, o)) (λ b. follows (op, o) (P.list b ops))

  next_is : (o : ℕ) {k : Rust.Option ℕ} → NextIs l ops_in o m k → next? o ≡ Rust.is_some k
  unfolding some_and up is_nest fam_role
  next_is o {k} N = go (P.own (op, o) ops_in) refl
    where
      go : (q : Option Con) → P.own (op, o) ops_in ≡ q → some_and (outer q) (λ b. follows (op, o) (P.list b ops)) ≡ Rust.is_some k
      go none e = sym (ap Rust.is_some (N.none e))
      go (some c) e =
          let r : c.0 ≡ ops = role_is S.sound.linked (op, o) ops_in c refl e in
          let e' : P.own (op, o) ops_in ≡ some (ops, c.1) = e ∙ ap some (λ i. (r i, c.1)) in
          let w : (a : List Thing) × (b : List Thing) × (P.list c.1 ops ≡ a ++ ((op, o) ∷ b)) = split_in (op, o) (P.list c.1 ops) (omega (arith, once S.sound.linked (op, o) ops_in (ops, c.1) e')) in
          let f : follows (op, o) (P.list c.1 ops) ≡ some_in w.1 = ap (follows (op, o)) w.2 ∙ follow_split (op, o) w.0 w.1 (omega (arith, ap (count Thing-dec (op, o)) w.2, (single S.sound.linked c.1 ops).once (op, o))) in
          f ∙ first_in w.1 ∙ sym (ap Rust.is_some (N.after (ops, c.1) e' w.0 w.1 w.2))

  pub no_end : (o : ℕ) → terminates P (op, o) ≡ false → clean ≡ place_too_early P (op, o)
  unfolding place_too_early
  no_end o t = sym (ap {B = Reply} (λ (b : Bool). elim (b && next? o) [ true ↦ found 3 (num P (op, o)) | false ↦ clean ]) t)

  pub good_end : (o : ℕ) {k : Rust.Option ℕ} → NextIs l ops_in o m k → terminates P (op, o) ≡ true → Rust.is_some k ≡ false → clean ≡ place_too_early P (op, o)
  unfolding place_too_early
  good_end o N t z = sym (ap₂ {C = Reply} (λ (b c : Bool). elim (b && c) [ true ↦ found 3 (num P (op, o)) | false ↦ clean ]) t (next_is o N ∙ z))

  pub early_end : (o n : ℕ) {k : Rust.Option ℕ} → NextIs l ops_in o m k → terminates P (op, o) ≡ true → Rust.is_some k ≡ true → NumberIs l op o m n → found 3 n ≡ place_too_early P (op, o)
  unfolding place_too_early
  early_end o n N t z M = ap (found 3) M.is ∙ sym (ap₂ {C = Reply} (λ (b c : Bool). elim (b && c) [ true ↦ found 3 (num P (op, o)) | false ↦ clean ]) t (next_is o N ∙ z))

  -- ---- a block by itself

  pub alone_1 : (b n : ℕ) {h : Rust.Option ℕ} → HomeIs l blocks_in b m h → h ≡ None → NumberIs l blk b m n → found 1 n ≡ alone P (blk, b)
  unfolding place_block_verdict place_in_block
  alone_1 b n H z N = ap (found 1) N.is ∙ ap (place_in_block P (λ _. clean) (blk, b)) (sym (block_free b H z))

  abbrev shape : ℕ → Bool → Bool → Bool → Reply → Reply
  shape b c st lp r = elim c [ false ↦ found 2 (num P (blk, b)) | true ↦ elim st [ true ↦ refuse 18 | false ↦ elim lp [ true ↦ found 4 (num P (blk, b)) | false ↦ r ] ] ]

  abbrev well? : ℕ → ℕ → Bool
  well? b r = some_and (up P (reg, r)) (lackable P) || place_ends_well P (blk, b)

  alone_in : (b : ℕ) {h : Rust.Option ℕ} {r : ℕ} → HomeIs l blocks_in b m h → h ≡ Some r → shape b (well? b r) (place_stray_user P (blk, b)) (place_lost_pred P (blk, b)) (place_first_met (λ _. clean) (P.list (blk, b) ops)) ≡ alone P (blk, b)
  unfolding place_block_verdict place_in_block
  alone_in b H z = ap (place_in_block P (λ _. clean) (blk, b)) (sym (block_in b H z))

  pub alone_2 : (b n : ℕ) {h : Rust.Option ℕ} {r : ℕ} → HomeIs l blocks_in b m h → h ≡ Some r → NumberIs l blk b m n → well? b r ≡ false → found 2 n ≡ alone P (blk, b)
  alone_2 b n H z N w = ap (found 2) N.is ∙ sym (ap (λ (c : Bool). shape b c (place_stray_user P (blk, b)) (place_lost_pred P (blk, b)) (place_first_met (λ _. clean) (P.list (blk, b) ops))) w) ∙ alone_in b H z

  pub alone_18 : (b : ℕ) {h : Rust.Option ℕ} {r : ℕ} → HomeIs l blocks_in b m h → h ≡ Some r → well? b r ≡ true → place_stray_user P (blk, b) ≡ true → refuse 18 ≡ alone P (blk, b)
  alone_18 b H z w s = sym (ap₂ {C = Reply} (λ (c st : Bool). shape b c st (place_lost_pred P (blk, b)) (place_first_met (λ _. clean) (P.list (blk, b) ops))) w s) ∙ alone_in b H z

  pub alone_4 : (b n : ℕ) {h : Rust.Option ℕ} {r : ℕ} → HomeIs l blocks_in b m h → h ≡ Some r → NumberIs l blk b m n → well? b r ≡ true → place_stray_user P (blk, b) ≡ false → place_lost_pred P (blk, b) ≡ true → found 4 n ≡ alone P (blk, b)
  alone_4 b n H z N w s p =
      ap (found 4) N.is
      ∙ sym (ap (λ (lp : Bool). shape b true false lp (place_first_met (λ _. clean) (P.list (blk, b) ops))) p)
      ∙ sym (ap₂ {C = Reply} (λ (c st : Bool). shape b c st (place_lost_pred P (blk, b)) (place_first_met (λ _. clean) (P.list (blk, b) ops))) w s)
      ∙ alone_in b H z

  all_clean : (t : List Thing) → place_first_met (λ _. clean) t ≡ clean
  unfolding is_clean clean
  all_clean [] = refl
  all_clean (y ∷ t) = all_clean t

  pub alone_0 : (b : ℕ) {h : Rust.Option ℕ} {r : ℕ} → HomeIs l blocks_in b m h → h ≡ Some r → well? b r ≡ true → place_stray_user P (blk, b) ≡ false → place_lost_pred P (blk, b) ≡ false → clean ≡ alone P (blk, b)
  alone_0 b H z w s p =
      sym (all_clean (P.list (blk, b) ops))
      ∙ sym (ap (λ (lp : Bool). shape b true false lp (place_first_met (λ _. clean) (P.list (blk, b) ops))) p)
      ∙ sym (ap₂ {C = Reply} (λ (c st : Bool). shape b c st (place_lost_pred P (blk, b)) (place_first_met (λ _. clean) (P.list (blk, b) ops))) w s)
      ∙ alone_in b H z

  -- ---- a block with its operations

  pub block_not : (v : Thing → Reply) (b : ℕ) → is_clean (alone P (blk, b)) ≡ false → alone P (blk, b) ≡ place_block_verdict P v (blk, b)
  unfolding place_block_verdict place_in_block is_clean clean found refuse
  block_not v b n = go (up P (blk, b)) n
    where
      inner : (r : Thing) (c st lp : Bool) → is_clean (shape b c st lp (place_first_met (λ _. clean) (P.list (blk, b) ops))) ≡ false → shape b c st lp (place_first_met (λ _. clean) (P.list (blk, b) ops)) ≡ shape b c st lp (place_first_met v (P.list (blk, b) ops))
      inner r false st lp h = refl
      inner r true true lp h = refl
      inner r true false true h = refl
      inner r true false false h = absurd (let q : true ≡ false = sym (ap is_clean (all_clean (P.list (blk, b) ops))) ∙ h in let z : ◌≡◌ {A = ℕ} 0 1 = cc in omega arith)

      go : (o : Option Thing) → is_clean (place_in_block P (λ _. clean) (blk, b) o) ≡ false → place_in_block P (λ _. clean) (blk, b) o ≡ place_in_block P v (blk, b) o
      go none h = refl
      go (some r) h = inner r (some_and (up P r) (lackable P) || place_ends_well P (blk, b)) (place_stray_user P (blk, b)) (place_lost_pred P (blk, b)) h

  pub block_then : (v : Thing → Reply) (b : ℕ) → is_clean (alone P (blk, b)) ≡ true → place_first_met v (P.list (blk, b) ops) ≡ place_block_verdict P v (blk, b)
  unfolding place_block_verdict place_in_block is_clean clean found refuse
  block_then v b n = go (up P (blk, b)) n
    where
      no : {A : Type 0} → false ≡ true → A
      no q = absurd (let z : ◌≡◌ {A = ℕ} 0 1 = cc in omega arith)

      inner : (c st lp : Bool) → is_clean (shape b c st lp (place_first_met (λ _. clean) (P.list (blk, b) ops))) ≡ true → place_first_met v (P.list (blk, b) ops) ≡ shape b c st lp (place_first_met v (P.list (blk, b) ops))
      inner false st lp h = no h
      inner true true lp h = no h
      inner true false true h = no h
      inner true false false h = refl

      go : (o : Option Thing) → is_clean (place_in_block P (λ _. clean) (blk, b) o) ≡ true → place_first_met v (P.list (blk, b) ops) ≡ place_in_block P v (blk, b) o
      go none h = no h
      go (some r) h = inner (some_and (up P r) (lackable P) || place_ends_well P (blk, b)) (place_stray_user P (blk, b)) (place_lost_pred P (blk, b)) h

  -- ---- an operation with its regions

  pub op_not : (o : ℕ) → Live P (op, o) → is_clean (place_first_met (place_region_verdict P (on_op P)) (P.list (op, o) regions)) ≡ false → place_first_met (place_region_verdict P (on_op P)) (P.list (op, o) regions) ≡ on_op P (op, o)
  op_not o v h = sym (verdict_eq S.sound.linked o v ∙ ap {B = Reply} (λ (b : Bool). elim b [ true ↦ place_too_early P (op, o) | false ↦ place_first_met (place_region_verdict P (on_op P)) (P.list (op, o) regions) ]) h)

  pub op_then : (o : ℕ) → Live P (op, o) → clean ≡ place_first_met (place_region_verdict P (on_op P)) (P.list (op, o) regions) → place_too_early P (op, o) ≡ on_op P (op, o)
  unfolding is_clean clean
  op_then o v h = sym (verdict_eq S.sound.linked o v ∙ ap {B = Reply} (λ (r : Reply). elim (is_clean r) [ true ↦ place_too_early P (op, o) | false ↦ r ]) (sym h))
