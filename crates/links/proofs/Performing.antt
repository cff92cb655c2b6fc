-- An edit of a list was refused, or carried out: the whole contract. Assumes nothing.
use mathlib.Core.Path.{◌≡◌, refl, sym, ap, ap₂, ◌∙◌, subst}
use mathlib.Core.Bool.{true, false}
use mathlib.Core.List.{List, [], ◌∷◌, ◌++◌}
use mathlib.Core.Option.{some}
use native.Mathlib.Omega.{arith}
use Prim.Native.Nat.{ℕ, suc, ◌+◌, ◌<◌, ◌≤◌}
use lib.ListN.{length, length-map, get_or}
use Rattle.seqs.specs.Split.{split}
use Rattle.linked_list.proofs.View.{row_short}
use Rattle.linked_list.specs.Links.{lists}
use Rattle.std.specs.Prelude as Rust
use Rattle.std.specs.Prelude.{Ok, Err, is_some}
use Rattle.edit.specs.declared.Refusal.{Refusal}
use Rattle.edit.specs.Kinds.{number_of}
use Rattle.edit.proofs.Numbers.{number_of-positive}
use Rattle.edit.specs.Answer.{clean, found}
use Rattle.edit.specs.Record.{Member, operation, block, Edit, link_after, link_before, link_front, link_back, unlink}
use Rattle.rules.specs.History.{History}
use Rattle.rules.specs.State.{accept}
use Rattle.rules.specs.Step.{answer}
use Rattle.rules.specs.Refusal.{member_named, named, refusal_of}
use Rattle.places.specs.Store.{Kind, Fam, fam, node_of, Limited, Thing, Thing-dec, Con, State, Live, enter, leave}
use Rattle.places.specs.View.{num}
use Rattle.places.specs.Hist.{meaning}
use Rattle.places.specs.Settled.{Settles}
use Rattle.places.specs.Members.{role_of, member_at, container_at, place_list_at, home_of, held_code, position}
use Rattle.places.proofs.Steps.{CanEnter, once}
use Rattle.places.specs.Parts.{node_in}
use Rattle.places.specs.Roles.{member_kind}
use Rattle.places.proofs.RuleLinks.{split_at, front_accept, back_accept, after_accept, before_accept, unlink_accept}
use Rattle.places.proofs.RuleLinkTests.{unlink_code}
use Rattle.places.proofs.Settling.{settles_same, settles_enter, settles_leave}
use Rattle.context.specs.declared.Layout.{Layout}
use Rattle.context.specs.Layout.{nc_of, nn_of, fam_part, sizes}
use Rattle.context.specs.Memory.{part, parts_of, con, state_of, Well, SoundStore, HomeIs, Stands}
use Rattle.context.specs.Reading.{list_of}
use Rattle.context.specs.Steps.{LinkedTo, LinkedBy, Unlinked}
use Rattle.context.specs.Performed.{abs, Performed}
use Rattle.context.proofs.Families.{list_at}
use Rattle.context.proofs.Performing.{refuses, accepts}
use Rattle.links.specs.Tests.{MayEnter, Entering, Beside}
use Rattle.links.proofs.Sorts.{list_is, node_is, own_is, stands_at, container<, home_held}
use Rattle.links.proofs.Testing.{Lost, held_15, held_none, only_gone, only_there, is_there, not_there}

module _ {l : Layout} {m : List ℕ} (S : SoundStore l m) (e : Edit) where
  pub refused : (r : Refusal) → refusal_of (abs l m) e ≡ number_of r → Performed l e m m (Err r)
  unfolding abs
  refused r h = refuses e S r h

  pub carried_out : {m' : List ℕ} → SoundStore l m' → refusal_of (abs l m) e ≡ 0 → ((k : History) → answer e (abs l m) k ≡ clean) → abs l m' ≡ accept e (abs l m) → part l m' 14 ≡ part l m 14 → Settles (state_of l m) (state_of l m') → Performed l e m m' (Ok (0, 0))
  unfolding abs found clean
  carried_out S' r a s rest places = accepts e S' r s rest places 0 0 (a (accept e (abs l m)).history)

-- a list has no more nodes than there are
pub list_short : {l : Layout} {m : List ℕ} → Well l m → (f : Fam) (k : ℕ) → k < nc_of l f → length (list_of l m (con l f k)) ≤ nn_of l f
unfolding parts_of
list_short {l} {m} w f k h =
    omega (arith, ap length (list_at l.values l.ops (parts_of l (split (sizes l) m)) f k 0), length-map {B = Thing} (get_or (lists (nc_of l f) (nn_of l f) (part l m (fam_part f))) k []) (λ (j : ℕ). (node_of (con l f k).0, j)), row_short ((w.families f).row k h))

can_enter : {P : State} {w : Member} {x n c : ℕ} → MayEnter P w x n c → CanEnter P (place_list_at w c) (member_at w n)
can_enter {P} {w} {x} {n} {c} M = record { free = M.free; node = refl; holder = refl; live = M.live; home = M.home; limit = λ q. absurd (no_limit w q); clear = λ e. M.clear }
  where
    no_limit : (v : Member) → Limited (role_of v) → ⊥
    no_limit operation q = elim q [ ]
    no_limit block q = elim q [ ]

module _ {l : Layout} {m : List ℕ} (S : SoundStore l m) (w : Member) where
  abbrev P : State
  P = state_of l m

  -- a member came to stand at index i of the container at c
  put_in : {m' : List ℕ} (e : Edit) (n c i : ℕ) → SoundStore l m' → part l m' 14 ≡ part l m 14 → state_of l m' ≡ enter (place_list_at w c) i (member_at w n) P → refusal_of (abs l m) e ≡ 0 → ((k : History) → answer e (abs l m) k ≡ clean)
      → meaning (enter (place_list_at w c) i (member_at w n) P) ≡ accept e (meaning P) → Performed l e m m' (Ok (0, 0))
  unfolding abs
  put_in e n c i S' rest s r a done = carried_out S e S' r a (ap meaning s ∙ done) rest (subst (λ (Q : State). Settles P Q) (sym s) (settles_enter (place_list_at w c) i (member_at w n) (settles_same (λ k. refl))))

  state_of_lem : {m' : List ℕ} (n c i : ℕ) → LinkedTo l (fam (role_of w)) c i n m m' → state_of l m' ≡ enter (place_list_at w c) i (member_at w n) P
  state_of_lem n c i E = E.state ∙ ap₂ (λ (d : Con) (k : Kind). enter d i (k, n) P) (list_is w l c) (node_is w)

  module _ (x y n c : ℕ) (T : Entering l w x y n c m) where
    pub front_done : {m' : List ℕ} → LinkedTo l (fam (role_of w)) c 0 n m m' → Performed l (link_front w x y) m m' (Ok (0, 0))
    unfolding answer
    front_done E =
        put_in (link_front w x y) n c 0 E.sound E.rest (state_of_lem n c 0 E) T.none.first (λ k. refl)
        (front_accept S.sound w c n (can_enter T.may) ∙ ap₂ (λ (a b : ℕ). accept (link_front w a b) (meaning P)) T.may.named T.container)

    pub back_done : {m' : List ℕ} → LinkedTo l (fam (role_of w)) c (nn_of l (fam (role_of w))) n m m' → Performed l (link_back w x y) m m' (Ok (0, 0))
    unfolding answer
    back_done E =
        let i : ℕ = nn_of l (fam (role_of w)) in
        put_in (link_back w x y) n c i E.sound E.rest (state_of_lem n c i E) T.none.second (λ k. refl)
        (back_accept S.sound w c n i (can_enter T.may) (subst (λ (d : Con). length (P.list d.1 d.0) ≤ i) (list_is w l c) (list_short S.well (fam (role_of w)) c (container< w l S c T.may.home)))
        ∙ ap₂ (λ (a b : ℕ). accept (link_back w a b) (meaning P)) T.may.named T.container)

  module _ (x y n k : ℕ) (T : Beside l w x y n k m) where
    abbrev c : ℕ
    c = T.container

    abbrev rows : List Thing
    rows = P.list (container_at w c) (role_of w)

    cut : (a : List Thing) × (b : List Thing) × (rows ≡ a ++ member_at w k ∷ b) × (length a ≡ position Thing-dec (member_at w k) rows)
    cut = split_at Thing-dec (member_at w k) rows (omega (arith, once S.sound.linked (member_at w k) (fam (role_of w)) (place_list_at w c) T.there))

    beside_state : {m' : List ℕ} (d : ℕ) → LinkedBy l (fam (role_of w)) k n d m m' → state_of l m' ≡ enter (place_list_at w c) (position Thing-dec (member_at w k) rows + d) (member_at w n) P
    unfolding cut
    beside_state {m'} d E =
        E.state (place_list_at w c) (own_is w l m k ∙ T.there) cut.0 cut.1 (cut.2 ∙ ap (λ (j : Kind). cut.0 ++ (j, k) ∷ cut.1) (sym (node_is w)))
        ∙ ap₂ (λ (i : ℕ) (j : Kind). enter (place_list_at w c) (i + d) (j, n) P) cut.3 (node_is w)

    pub after_done : {m' : List ℕ} → LinkedBy l (fam (role_of w)) k n 1 m m' → Performed l (link_after w x y) m m' (Ok (0, 0))
    unfolding answer
    after_done {m'} E =
        let i : ℕ = position Thing-dec (member_at w k) rows in
        let z : i + 1 ≡ suc i = omega arith in
        let s : state_of l m' ≡ enter (place_list_at w c) (suc i) (member_at w n) P = beside_state 1 E ∙ ap (λ (j : ℕ). enter (place_list_at w c) j (member_at w n) P) z in
        put_in (link_after w x y) n c (suc i) E.sound E.rest s T.none.first (λ k. refl)
        (after_accept S.sound w c n k T.there (can_enter T.may) ∙ ap₂ (λ (a b : ℕ). accept (link_after w a b) (meaning P)) T.may.named T.mark)

    pub before_done : {m' : List ℕ} → LinkedBy l (fam (role_of w)) k n 0 m m' → Performed l (link_before w x y) m m' (Ok (0, 0))
    unfolding answer
    before_done {m'} E =
        let i : ℕ = position Thing-dec (member_at w k) rows in
        let z : i + 0 ≡ i = omega arith in
        let s : state_of l m' ≡ enter (place_list_at w c) i (member_at w n) P = beside_state 0 E ∙ ap (λ (j : ℕ). enter (place_list_at w c) j (member_at w n) P) z in
        put_in (link_before w x y) n c i E.sound E.rest s T.none.second (λ k. refl)
        (before_accept S.sound w c n k T.there (can_enter T.may) ∙ ap₂ (λ (a b : ℕ). accept (link_before w a b) (meaning P)) T.may.named T.mark)

  -- ---- unlink

  module _ (x : ℕ) where
    pub unlink_gone : (k : Kind) (r : Refusal) → Lost P k x r → k ≡ member_kind w → refusal_of (abs l m) (unlink w x) ≡ number_of r
    unfolding abs named
    unlink_gone k r u e = only_gone (meaning P) (unlink w x) (member_named w x) refl (number_of r) (number_of-positive r) (not_there S.sound w x k r u e)

    module _ (n : ℕ) (at : Live P (member_at w n) × (num P (member_at w n) ≡ x)) where
      unlink_tests : refusal_of (abs l m) (unlink w x) ≡ held_code (home_of P w n) 0 16
      unfolding abs named
      unlink_tests = only_there (meaning P) (unlink w x) (member_named w x) refl (is_there S.sound w n x at.0 at.1) ∙ unlink_code S.sound w n x at.0 at.1

      module _ (f : Fam) (e : f ≡ fam (role_of w)) (r : Rust.Option ℕ) (H : HomeIs l f n m r) where
        pub unlink_16 : is_some r ≡ false → refusal_of (abs l m) (unlink w x) ≡ 16
        unlink_16 z = unlink_tests ∙ held_none w n f e r H 0 16 z

        pub unlink_can : is_some r ≡ true → Stands P (node_in (fam (role_of w)), n) (fam (role_of w))
        unlink_can z = let c : (c : ℕ) × (home_of P w n ≡ some (place_list_at w c)) = home_held w l f e n r H z in stands_at w l m n (place_list_at w c.0) c.1

        pub unlink_done : {m' : List ℕ} → is_some r ≡ true → Unlinked l (fam (role_of w)) n m m' → Performed l (unlink w x) m m' (Ok (0, 0))
        unfolding answer abs
        unlink_done {m'} z L =
            let there : (c : ℕ) × (home_of P w n ≡ some (place_list_at w c)) = home_held w l f e n r H z in
            let c : ℕ = there.0 in
            let s : state_of l m' ≡ leave (place_list_at w c) (member_at w n) P = L.state (place_list_at w c) (own_is w l m n ∙ there.1) ∙ ap (λ (j : Kind). leave (place_list_at w c) (j, n) P) (node_is w) in
            carried_out S (unlink w x) L.sound (unlink_tests ∙ held_15 w n f e r H 0 16 z) (λ k. refl)
            (ap meaning s ∙ unlink_accept S.sound w c n there.1 ∙ ap (λ (a : ℕ). accept (unlink w a) (meaning P)) at.1)
            L.rest (subst (λ (Q : State). Settles P Q) (sym s) (settles_leave (place_list_at w c) (member_at w n) (settles_same (λ k. refl))))
