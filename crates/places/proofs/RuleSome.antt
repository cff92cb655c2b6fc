-- The uses of a definition that pass a test move to another: table laws, and one use after another by places. Assumes nothing.
use mathlib.Core.Path.{◌≡◌, refl, sym, ap, ap₂, ◌∙◌}
use mathlib.Core.Logic.{by_cases}
use mathlib.Core.Bool.{Bool, true, false, cond, ◌&&◌, ◌||◌}
use mathlib.Core.List.{List, [], ◌∷◌, map}
use mathlib.Core.Option.{Option, some}
use native.Mathlib.Decide.{ℕ_discrete}
use native.Mathlib.Omega.{arith}
use Prim.Native.Nat.{ℕ}
use lib.Dec.{eqb}
use borrow.Author.Tests.{eqb-true, eqb-false, eq-eqb, ne_eqb}
use Rattle.seqs.specs.Seqs.{tick, In}
use Rattle.places.specs.Store.{usg, use_sets, Thing, Con, Con-dec, State, alive, Live, Link, UseHeld, Sound}
use Rattle.places.specs.View.{num, home_by, rec_of}
use Rattle.places.specs.Edits.{place_move_use}
use Rattle.places.specs.Hist.{def_of, use_of, hist, rule_state, meaning}
use Rattle.places.specs.Roles.{def_kind, def_role}
use Rattle.edit.specs.Record.{Slot, operand, successor, Definition}
use Rattle.rules.specs.Table.{Table, change, change_all}
use Rattle.rules.specs.History.{defined, same_definition}
use Rattle.seqs.proofs.Base.{tick_yes, tick_no, tick_pos, in_head, in_tail}
use Rattle.places.proofs.Steps.{some_inj}
use Rattle.places.proofs.Sees.{num_inj}
use Rattle.places.proofs.Bits.{bit, bit_true, tabled_view}
use Rattle.places.proofs.RuleOutside.{same_def, fit_def, IsDef}
use Rattle.places.proofs.RuleUses.{def_is, def_holder}
use Rattle.places.proofs.RuleMoves.{rehold, moved_meaning}

-- the uses of a that pass the test are uses of b
abbrev pub placed : Definition → Definition → (ℕ → Bool) → Table Definition → Table Definition
placed a b p t = change_all (λ u d. cond (same_definition d a && p u) b d) t

-- ---- laws of tables

same_cond : {A : Type 0} (c : Bool) (x : A) → cond c x x ≡ x
same_cond true x = refl
same_cond false x = refl

and_false : (c : Bool) → (c && false) ≡ false
and_false true = refl
and_false false = refl

module _ (a b : Definition) where
  -- one test after another
  pub placed_twice : (p q : ℕ → Bool) (t : Table Definition) → placed a b q (placed a b p t) ≡ placed a b (λ u. p u || q u) t
  unfolding change_all
  placed_twice p q [] = refl
  placed_twice p q (e ∷ t) = ap₂ {C = List (ℕ × Definition)} (λ d r. (e.0, d) ∷ r) (go (same_definition e.1 a) refl (p e.0)) (placed_twice p q t)
    where
      go : (x : Bool) → same_definition e.1 a ≡ x → (y : Bool) → cond (same_definition (cond (x && y) b e.1) a && q e.0) b (cond (x && y) b e.1) ≡ cond (x && (y || q e.0)) b e.1
      go true s true = same_cond (same_definition b a && q e.0) b
      go true s false = ap (λ (z : Bool). cond (z && q e.0) b e.1) s
      go false s y = ap (λ (z : Bool). cond (z && q e.0) b e.1) s

  -- no test
  pub placed_none : (t : Table Definition) → placed a b (λ u. false) t ≡ t
  unfolding change_all
  placed_none [] = refl
  placed_none (e ∷ t) = ap₂ {C = List (ℕ × Definition)} (λ d r. (e.0, d) ∷ r) (ap (λ (z : Bool). cond z b e.1) (and_false (same_definition e.1 a))) (placed_none t)

  module _ (nm : ℕ → ℕ) (g : ℕ → Definition) where
    -- tests that agree on the uses of a
    pub placed_agree : (p q : ℕ → Bool) (l : List ℕ) → ((u : ℕ) → In ℕ_discrete u l → same_definition (g u) a ≡ true → p (nm u) ≡ q (nm u)) → placed a b p (map (λ u. (nm u, g u)) l) ≡ placed a b q (map (λ u. (nm u, g u)) l)
    unfolding change_all
    placed_agree p q [] h = refl
    placed_agree p q (u ∷ l) h = ap₂ {C = List (ℕ × Definition)} (λ d r. (nm u, d) ∷ r) (go (same_definition (g u) a) refl) (placed_agree p q l (λ v i. h v (in_tail ℕ_discrete v u l i)))
      where
        go : (x : Bool) → same_definition (g u) a ≡ x → cond (x && p (nm u)) b (g u) ≡ cond (x && q (nm u)) b (g u)
        go true s = ap (λ (z : Bool). cond z b (g u)) (h u (in_head ℕ_discrete u l) s)
        go false s = refl

    -- one entry, which is a use of a
    pub change_placed : (x : ℕ) (l : List ℕ) → ((u : ℕ) → In ℕ_discrete u l → nm u ≡ x → same_definition (g u) a ≡ true) → change x (λ _. b) (map (λ u. (nm u, g u)) l) ≡ placed a b (λ k. eqb x k) (map (λ u. (nm u, g u)) l)
    unfolding change change_all
    change_placed x [] h = refl
    change_placed x (u ∷ l) h = go (eqb (nm u) x) refl (change_placed x l (λ v i. h v (in_tail ℕ_discrete v u l i)))
      where
        go : (y : Bool) → eqb (nm u) x ≡ y → change x (λ _. b) (map (λ u. (nm u, g u)) l) ≡ placed a b (λ k. eqb x k) (map (λ u. (nm u, g u)) l)
            → cond y ((nm u, b) ∷ change x (λ _. b) (map (λ u. (nm u, g u)) l)) ((nm u, g u) ∷ change x (λ _. b) (map (λ u. (nm u, g u)) l)) ≡ (nm u, cond (same_definition (g u) a && eqb x (nm u)) b (g u)) ∷ placed a b (λ k. eqb x k) (map (λ u. (nm u, g u)) l)
        go true e ih = let k : nm u ≡ x = eqb-true (nm u) x e in
            ap₂ {C = List (ℕ × Definition)} (λ d r. (nm u, d) ∷ r) (sym (ap₂ (λ (s t : Bool). cond (s && t) b (g u)) (h u (in_head ℕ_discrete u l) k) (eq-eqb x (nm u) (sym k)))) ih
        go false e ih =
            ap₂ {C = List (ℕ × Definition)} (λ d r. (nm u, d) ∷ r) (sym (ap (λ (t : Bool). cond (same_definition (g u) a && t) b (g u)) (ne_eqb x (nm u) (λ k. eqb-false (nm u) x e (sym k))) ∙ ap (λ (z : Bool). cond z b (g u)) (and_false (same_definition (g u) a)))) ih

-- ---- by places

module _ {P : State} (S : Sound P) (sl : Slot) (pa : ℕ) (la : Live P (def_kind sl, pa)) where
  abbrev A : Definition
  A = defined sl (num P (def_kind sl, pa))

  uses_are : (meaning P).history.uses ≡ map (λ u. (num P (usg, u), use_of (rec_of P (usg, u)))) (P.tab usg).order
  unfolding meaning rule_state hist
  uses_are = tabled_view P usg use_of

  role_is : IsDef (def_role sl)
  role_is = elim sl as (λ s. IsDef (def_role s)) [ operand ↦ IsDef.of_val | successor ↦ IsDef.of_blk ]

  -- is it a use of a?
  pub use_of_lem : (u : ℕ) (d : Con) → Live P (usg, u) → P.own (usg, u) use_sets ≡ some d → bit (same_definition (use_of (rec_of P (usg, u))) A) ≡ tick (Con-dec d (def_role sl, (def_kind sl, pa)))
  unfolding rec_of
  use_of_lem u d lu held =
      let H : UseHeld (P.own (usg, u)) = S.placed (usg, u) lu in
      let M : Link P (usg, u) use_sets H.def = S.linked.link (usg, u) use_sets H.def H.in_def in
      ap₂ (λ (o : Option Con) (x : Definition). bit (same_definition (def_of (home_by (num P) o)) x)) H.in_def (sym (def_is sl (num P (def_kind sl, pa))))
      ∙ same_def S.linked H.def.0 (def_role sl) H.def.1 (def_kind sl, pa) (fit_def H.fit) role_is M.holder (def_holder sl) M.home la
      ∙ turned H.def (def_role sl, (def_kind sl, pa))
      ∙ ap (λ (c : Con). tick (Con-dec c (def_role sl, (def_kind sl, pa)))) (some_inj (sym H.in_def ∙ held))
    where
      turned : (c d : Con) → tick (Con-dec d c) ≡ tick (Con-dec c d)
      turned c d = by_cases (Con-dec c d) (λ e. tick_yes (Con-dec d c) (sym e) ∙ sym (tick_yes (Con-dec c d) e)) (λ n. tick_no (Con-dec d c) (λ e. n (sym e)) ∙ sym (tick_no (Con-dec c d) n))

  -- two tests that agree on the uses in the set
  pub placed_same : (B : Definition) (p q : ℕ → Bool) → ((u : ℕ) → Live P (usg, u) → P.own (usg, u) use_sets ≡ some (def_role sl, (def_kind sl, pa)) → p (num P (usg, u)) ≡ q (num P (usg, u))) → placed A B p (meaning P).history.uses ≡ placed A B q (meaning P).history.uses
  unfolding alive
  placed_same B p q h =
      ap (placed A B p) uses_are
      ∙ placed_agree A B (λ u. num P (usg, u)) (λ u. use_of (rec_of P (usg, u))) p q (P.tab usg).order (λ u i s. agree u i s)
      ∙ ap (placed A B q) (sym uses_are)
    where
      agree : (u : ℕ) → Live P (usg, u) → same_definition (use_of (rec_of P (usg, u))) A ≡ true → p (num P (usg, u)) ≡ q (num P (usg, u))
      agree u lu s = let H : UseHeld (P.own (usg, u)) = S.placed (usg, u) lu in
          h u lu (H.in_def ∙ ap (λ (c : Con). some c) (tick_pos (Con-dec H.def (def_role sl, (def_kind sl, pa))) (omega (arith, sym (use_of_lem u H.def lu H.in_def) ∙ ap bit s))))

  -- nothing moves where no use in the set passes
  pub placed_stays : (B : Definition) (p : ℕ → Bool) → ((u : ℕ) → Live P (usg, u) → P.own (usg, u) use_sets ≡ some (def_role sl, (def_kind sl, pa)) → p (num P (usg, u)) ≡ false) → placed A B p (meaning P).history.uses ≡ (meaning P).history.uses
  placed_stays B p h = placed_same B p (λ _. false) h ∙ placed_none A B (meaning P).history.uses

  -- one use of the set moves
  module _ (pb q j : ℕ) (lb : Live P (def_kind sl, pb)) (lu : Live P (usg, q)) (held : P.own (usg, q) use_sets ≡ some (def_role sl, (def_kind sl, pa))) where
    abbrev B : Definition
    B = defined sl (num P (def_kind sl, pb))

    pub one_placed : meaning (place_move_use (def_role sl, (def_kind sl, pa)) (def_role sl, (def_kind sl, pb)) j (usg, q) P) ≡ rehold (placed A B (λ k. eqb (num P (usg, q)) k) (meaning P).history.uses) (meaning P)
    unfolding alive
    one_placed =
        moved_meaning S sl q pa pb j lu held lb
        ∙ ap (λ (t : Table Definition). rehold t (meaning P))
        (ap (change (num P (usg, q)) (λ _. B)) uses_are
        ∙ change_placed A B (λ u. num P (usg, u)) (λ u. use_of (rec_of P (usg, u))) (num P (usg, q)) (P.tab usg).order
        (λ u i e. bit_true (same_definition (use_of (rec_of P (usg, u))) A) (omega (arith, use_of_lem u (def_role sl, (def_kind sl, pa)) i (ap (λ (x : Thing). P.own x use_sets) (num_inj P S.linked.tabs (usg, u) (usg, q) refl i lu e) ∙ held), tick_yes (Con-dec (def_role sl, (def_kind sl, pa)) (def_role sl, (def_kind sl, pa))) refl)))
        ∙ ap (placed A B (λ k. eqb (num P (usg, q)) k)) (sym uses_are))
