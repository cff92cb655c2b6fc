-- The refusals of 21 to 30, by places: 15 and 16 by where a member stands, 17 by the walk; and what a walk that does not reach a thing says of the climb. Assumes nothing.
use mathlib.Core.Path.{◌≡◌, refl, sym, ap, ap₂, ◌∙◌, subst}
use mathlib.Core.Bool.{Bool, true, false}
use mathlib.Core.Option.{Option, none, some}
use native.Mathlib.Omega.{arith}
use Prim.Native.Nat.{ℕ, zero, suc, ◌-◌}
use lib.ListN.{length}
use Rattle.seqs.specs.Seqs.{count}
use Rattle.places.specs.Store.{Kind, op, blk, usg, ops_in, blocks_in, fam, holder_of, Thing, Thing-dec, Con, State, Live, Link, Linked, Sound, outer, up, Ends, Clear}
use Rattle.places.specs.View.{num, view}
use Rattle.places.specs.Hist.{hist, rule_state, meaning}
use Rattle.places.specs.Members.{role_of, member_at, container_at, place_list_at, home_of, held_code, inside_code, mark_code, enter_code, beside_code}
use Rattle.places.specs.Walk.{sgn, walk, pick}
use Rattle.edit.specs.Record.{Member, operation, block, link_after, link_before, link_front, link_back, unlink}
use Rattle.rules.specs.Table.{is_some}
use Rattle.rules.specs.History.{History, container}
use Rattle.rules.specs.Refusal.{check, is_linked, contained_in, mark_tests, from_state}
use Rattle.seqs.proofs.Base.{tick_yes}
use Rattle.places.proofs.Climb.{path}
use Rattle.places.proofs.Nest.{kind_code, is_nest, fam_role, role_is, walk_climb}
use Rattle.places.proofs.Bits.{bit}
use Rattle.places.proofs.RuleClimb.{num_opt, block_in_walk, region_in_walk}
use Rattle.places.proofs.RuleLinks.{container_num}

-- ---- the climb

path_clear : {u : Thing → Option Thing} (x : Thing) {y : Thing} (a : Ends u y) → count Thing-dec x (path a) ≡ 0 → Clear u x y
unfolding path
path_clear x {y} (Ends.top e) z = Clear.top (λ (p : y ≡ x). absurd (omega (arith, z, tick_yes (Thing-dec x y) (sym p)))) e
path_clear x {y} (Ends.climb e c) z = Clear.climb (λ (p : y ≡ x). absurd (omega (arith, z, tick_yes (Thing-dec x y) (sym p)))) e (path_clear x c (omega arith))

-- what the walk from x does not reach climbs clear of x
pub walk_clear : {P : State} → Linked P → (x y : Thing) → count Thing-dec y (walk P x) ≡ 0 → Clear (up P) x y
walk_clear S x y z = path_clear x (S.ends y) (sym (walk_climb S x y) ∙ z)

-- ---- the tests

-- a member's list is of its sort's role
one_role : {P : State} → Linked P → (w : Member) (x : ℕ) (c : Con) → home_of P w x ≡ some c → c.0 ≡ role_of w
unfolding is_nest fam_role
one_role S operation x c e = role_is S (op, x) ops_in c refl e
one_role S block x c e = role_is S (blk, x) blocks_in c refl e

module _ {P : State} (S : Sound P) (w : Member) where
  abbrev n₀ : ℕ
  n₀ = (P.tab usg).next - length (P.tab usg).order

  abbrev h : History
  h = (meaning P).history

  history_is : h ≡ hist n₀ (view P)
  unfolding meaning rule_state
  history_is = refl

  pub container_of : (x n : ℕ) → Live P (member_at w x) → num P (member_at w x) ≡ n → container w h n ≡ num_opt P (outer (P.own (member_at w x) (fam (role_of w))))
  container_of x n l e = ap₂ (container w) history_is (sym e) ∙ container_num S w x n₀ l

  -- in no list, and in one
  pub not_linked : (x n : ℕ) → Live P (member_at w x) → num P (member_at w x) ≡ n → P.own (member_at w x) (fam (role_of w)) ≡ none → is_linked h w n ≡ false
  unfolding is_linked is_some
  not_linked x n l e f = ap (λ (o : Option ℕ). is_some o) (container_of x n l e ∙ ap (λ (o : Option Con). num_opt P (outer o)) f)

  pub linked_in : (x n : ℕ) (c : Con) → Live P (member_at w x) → num P (member_at w x) ≡ n → P.own (member_at w x) (fam (role_of w)) ≡ some c → is_linked h w n ≡ true
  unfolding is_linked is_some
  linked_in x n c l e f = ap (λ (o : Option ℕ). is_some o) (container_of x n l e ∙ ap (λ (o : Option Con). num_opt P (outer o)) f)

  inside_walk : (v : Member) (x c : ℕ) → Live P (member_at v x) → Live P (container_at v c) → bit (contained_in (hist n₀ (view P)) v (num P (member_at v x)) (num P (container_at v c))) ≡ sgn (count Thing-dec (container_at v c) (walk P (member_at v x)))
  unfolding contained_in kind_code
  inside_walk operation x c lx lc = block_in_walk S n₀ (op, x) lx (omega arith) c lc
  inside_walk block x c lx lc = region_in_walk S n₀ (blk, x) lx (omega arith) c lc

  -- the container lies in the member exactly if the walk from the member reaches it
  pub inside_is : (x c n k : ℕ) → Live P (member_at w x) → num P (member_at w x) ≡ n → Live P (container_at w c) → num P (container_at w c) ≡ k → bit (contained_in h w n k) ≡ sgn (count Thing-dec (container_at w c) (walk P (member_at w x)))
  inside_is x c n k lx ex lc ec = ap₂ (λ (a b : ℕ). bit (contained_in h w a b)) (sym ex) (sym ec) ∙ ap (λ (g : History). bit (contained_in g w (num P (member_at w x)) (num P (container_at w c)))) history_is ∙ inside_walk w x c lx lc

  -- ---- the codes

  inside_code_lem : (x c n k : ℕ) → Live P (member_at w x) → num P (member_at w x) ≡ n → Live P (container_at w c) → num P (container_at w c) ≡ k → check (contained_in h w n k) 17 0 ≡ inside_code P w x c
  unfolding check pick inside_code
  inside_code_lem x c n k lx ex lc ec = go (contained_in h w n k) (count Thing-dec (container_at w c) (walk P (member_at w x))) (inside_is x c n k lx ex lc ec)
    where
      go : (b : Bool) (z : ℕ) → bit b ≡ sgn z → check b 17 0 ≡ pick z 0 17
      go true zero e = absurd (omega arith)
      go true (suc z) e = refl
      go false zero e = refl
      go false (suc z) e = absurd (omega arith)

  linked_code : (x n a b : ℕ) → Live P (member_at w x) → num P (member_at w x) ≡ n → check (is_linked h w n) a b ≡ held_code (home_of P w x) a b
  unfolding check
  linked_code x n a b lx ex = go (home_of P w x) refl
    where
      go : (o : Option Con) → home_of P w x ≡ o → check (is_linked h w n) a b ≡ held_code o a b
      go none e = ap (λ (t : Bool). check t a b) (not_linked x n lx ex e)
      go (some c) e = ap (λ (t : Bool). check t a b) (linked_in x n c lx ex e)

  -- where a member stands: a list of its sort, of a live container
  pub container_live : (x : ℕ) (c : Con) → home_of P w x ≡ some c → (c ≡ place_list_at w c.1.1) × Live P (container_at w c.1.1)
  container_live x c e =
      let L : Link P (member_at w x) (fam (role_of w)) c = S.linked.link (member_at w x) (fam (role_of w)) c e in
      let r : c.0 ≡ role_of w = one_role S.linked w x c e in
      let k : c.1.0 ≡ holder_of (role_of w) = L.holder ∙ ap holder_of r in
      ((λ i. (r i, (k i, c.1.1))), subst (λ (j : Kind). Live P (j, c.1.1)) k L.home)

  module _ (x n : ℕ) (lx : Live P (member_at w x)) (ex : num P (member_at w x) ≡ n) where
    module _ (c k : ℕ) (lc : Live P (container_at w c)) (ec : num P (container_at w c) ≡ k) where
      pub front_code : from_state (meaning P) (link_front w n k) ≡ enter_code P w x c
      unfolding from_state
      front_code = linked_code x n 15 (check (contained_in h w n k) 17 0) lx ex ∙ ap (held_code (home_of P w x) 15) (inside_code_lem x c n k lx ex lc ec)

      pub back_code : from_state (meaning P) (link_back w n k) ≡ enter_code P w x c
      unfolding from_state
      back_code = linked_code x n 15 (check (contained_in h w n k) 17 0) lx ex ∙ ap (held_code (home_of P w x) 15) (inside_code_lem x c n k lx ex lc ec)

    module _ (k y : ℕ) (ly : Live P (member_at w k)) (ey : num P (member_at w k) ≡ y) where
      mark_code_lem : mark_tests (meaning P) w n (container w h y) ≡ mark_code P w x (home_of P w k)
      unfolding mark_tests
      mark_code_lem = go (home_of P w k) refl
        where
          go : (o : Option Con) → home_of P w k ≡ o → mark_tests (meaning P) w n (container w h y) ≡ mark_code P w x o
          go none e = ap (mark_tests (meaning P) w n) (container_of k y ly ey ∙ ap (λ (o : Option Con). num_opt P (outer o)) e)
          go (some c) e =
              ap (mark_tests (meaning P) w n) (container_of k y ly ey ∙ ap (λ (o : Option Con). num_opt P (outer o)) (e ∙ ap some (container_live k c e).0))
              ∙ inside_code_lem x c.1.1 n (num P (container_at w c.1.1)) lx ex (container_live k c e).1 refl

      pub after_code : from_state (meaning P) (link_after w n y) ≡ beside_code P w x k
      unfolding from_state
      after_code = linked_code x n 15 (mark_tests (meaning P) w n (container w h y)) lx ex ∙ ap (held_code (home_of P w x) 15) mark_code_lem

      pub before_code : from_state (meaning P) (link_before w n y) ≡ beside_code P w x k
      unfolding from_state
      before_code = linked_code x n 15 (mark_tests (meaning P) w n (container w h y)) lx ex ∙ ap (held_code (home_of P w x) 15) mark_code_lem

    pub unlink_code : from_state (meaning P) (unlink w n) ≡ held_code (home_of P w x) 0 16
    unfolding from_state
    unlink_code = linked_code x n 0 16 lx ex
