-- Retarget some, each way out. Assumes nothing.
use mathlib.Core.Path.{◌≡◌, refl, sym, ap, ap₂, ◌∙◌}
use mathlib.Core.Bool.{Bool, true, false, cond, ◌&&◌}
use mathlib.Core.List.{List, [], ◌∷◌}
use native.Mathlib.Omega.{arith}
use Prim.Native.Nat.{ℕ}
use lib.ListN.{get_or, drop}
use borrow.Author.Tests.{eqb-true}
use Rattle.edit.specs.Record.{successor, Definition, of_value, of_block, Edit, retarget_some}
use Rattle.edit.specs.Taken.{edit_by}
use Rattle.edit.specs.declared.Kind.TheVariants.{RetargetSome}
use Rattle.edit.proofs.ByKind.{by_retarget_some}
use Rattle.edit.specs.Answer.{clean, found}
use Rattle.std.proofs.Common.{Ok, Err}
use Rattle.edit.specs.declared.Refusal.TheVariants.{StrayUser}
use Rattle.rules.specs.Table.{Table, change_all}
use Rattle.rules.specs.History.{same_definition}
use Rattle.rules.specs.Refusal.{check, from_state, refusal_of, named, definition_named}
use Rattle.rules.specs.Verdict.{sight, stray_user}
use Rattle.rules.specs.Step.{answer}
use Rattle.places.specs.Store.{blk, block_uses, use_sets, Con, State}
use Rattle.places.specs.View.{num}
use Rattle.places.specs.Hist.{meaning}
use Rattle.places.specs.Verdict.{place_stray_user}
use Rattle.places.proofs.RuleAccept.{ended_of}
use Rattle.places.proofs.RuleMoves.{rehold, rehold_self}
use Rattle.places.proofs.Settling.{settles_same}
use Rattle.places.proofs.RuleSome.{placed}
use Rattle.places.proofs.RuleRetarget.{chosen, retarget_accept}
use Rattle.places.proofs.RuleCodes.{definitions_there}
use Rattle.places.proofs.Verdicts.{stray_num}
use Rattle.context.specs.declared.Layout.{Layout}
use Rattle.context.specs.Memory.{con, ListIs, state_of, SoundStore, LooksUp}
use Rattle.context.specs.Performed.{Performed}
use Rattle.uses.specs.Look.{DefAt}
use Rattle.uses.specs.Retarget.{RetargetedAll}
use Rattle.context.proofs.Performing.{refuses, accepts}

pub retarget_edit : (fs : List ℕ) {a b : ℕ} → a ≡ get_or fs 0 0 → b ≡ get_or fs 1 0 → retarget_some a b (drop 2 fs) ≡ edit_by RetargetSome fs
retarget_edit fs p q = ap₂ (λ (x y : ℕ). retarget_some x y (drop 2 fs)) p q ∙ sym (by_retarget_some fs)

-- ---- uses placed where they are

same_is : (d a : Definition) → same_definition d a ≡ true → d ≡ a
unfolding same_definition
same_is (of_value x) (of_value y) e = ap of_value (eqb-true x y e)
same_is (of_value x) (of_block y) e = absurd (let z : ◌≡◌ {A = ℕ} 0 1 = cc in omega arith)
same_is (of_block x) (of_value y) e = absurd (let z : ◌≡◌ {A = ℕ} 0 1 = cc in omega arith)
same_is (of_block x) (of_block y) e = ap of_block (eqb-true x y e)

placed_self : (a : Definition) (p : ℕ → Bool) (t : Table Definition) → placed a a p t ≡ t
unfolding change_all
placed_self a p [] = refl
placed_self a p (e ∷ t) = ap₂ {C = List (ℕ × Definition)} (λ d r. (e.0, d) ∷ r) (go (same_definition e.1 a) refl (p e.0)) (placed_self a p t)
  where
    go : (x : Bool) → same_definition e.1 a ≡ x → (y : Bool) → cond (x && y) a e.1 ≡ e.1
    go true s true = sym (same_is e.1 a s)
    go true s false = refl
    go false s y = refl

-- ---- the set of uses of a block

pub set_at : {l : Layout} {m : List ℕ} {a d : ℕ} (p : ℕ) → LooksUp (state_of l m) blk a (Ok p) → ListIs l use_sets (block_uses, (blk, p)) d → DefAt l m successor a d
set_at p F D = record { place = p; live = F.0; number = F.1; row = D.row; inside = D.inside }

-- ---- the edit

module _ {l : Layout} {m : List ℕ} (S : SoundStore l m) {a b e : ℕ} (p : ℕ) (F : LooksUp (state_of l m) blk a (Ok p)) (B : DefAt l m successor b e) (ps : List ℕ) {r : Bool} (R : r ≡ place_stray_user (state_of l m) (blk, p)) where
  abbrev P : State
  P = state_of l m

  abbrev E : Edit
  E = retarget_some a b ps

  code : refusal_of (meaning P) E ≡ check r 18 0
  unfolding meaning from_state named definition_named
  code =
      definitions_there S.sound E successor p a F.0 F.1 b B.place refl B.live B.number
      ∙ ap (λ (t : Bool). check t 18 0) (ap (stray_user (sight (meaning P))) (sym F.1) ∙ stray_num S.sound (ended_of P) p F.0 ∙ sym R)

  pub is_stray : r ≡ true → Performed l E m m (Err StrayUser)
  unfolding check
  is_stray t = refuses E S StrayUser (code ∙ ap (λ (x : Bool). check x 18 0) t)

  module _ (f : r ≡ false) {d : ℕ} (D : ListIs l use_sets (block_uses, (blk, p)) d) where
    code₀ : refusal_of (meaning P) E ≡ 0
    unfolding check
    code₀ = code ∙ ap (λ (x : Bool). check x 18 0) f

    pub same_block : d ≡ e → Performed l E m m (Ok (0, 0))
    unfolding answer clean found
    same_block q =
        let same : a ≡ b = sym F.1 ∙ ap (λ (c : Con). num P c.1) (sym D.row ∙ ap (con l use_sets) q ∙ B.row) ∙ B.number in
        accepts E S code₀
        (retarget_accept P P S.sound a b ps
        (sym (ap (λ (y : ℕ). rehold (placed (of_block a) (of_block y) (chosen (meaning P).history ps) (meaning P).history.uses) (meaning P)) (sym same)
        ∙ ap (λ (t : Table Definition). rehold t (meaning P)) (placed_self (of_block a) (chosen (meaning P).history ps) (meaning P).history.uses)
        ∙ rehold_self (meaning P))))
        refl (settles_same (λ k. refl)) 0 0 refl

    pub retargeted : {m' : List ℕ} → RetargetedAll l d e ps m m' → Performed l E m m' (Ok (0, 0))
    unfolding answer clean found
    retargeted Q = accepts E Q.sound code₀ (Q.state a b (set_at p F D) B) Q.rest (settles_same Q.tables) 0 0 refl
