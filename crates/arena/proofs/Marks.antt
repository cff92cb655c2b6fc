-- The map and the table agree. Assumes nothing.
use Rattle.std.proofs.Common.{◌≡◌, refl, sym, ap, ap₂, ◌∙◌, ⊎_elim, List, ℕ, zero, suc, ◌+◌, ◌-◌, ◌<◌, arith, length}
use Rattle.bits.specs.Map.{bit, lowest, if_zero, Flipped}
use Rattle.std.specs.Prelude.{Option, Some, None, IsSome}
use Rattle.std.specs.Option.{option_or}
use Rattle.std.proofs.lemmas.Bool.{cases_eq}
use Rattle.table.specs.Table.{Born, Ended, Started, stamp, sign}
use Rattle.bits.proofs.Lowest.{Low, lowest_at}
use Rattle.table.proofs.Quick.{sign_pos}
use Rattle.arena.specs.Packed.{Packed, Bore, Gone, Fresh, front, back, cells, words}

sign_zero : (x p : ℕ) → if_zero (sign x) p ≡ if_zero x p
sign_zero zero p = refl
sign_zero (suc x) p = refl

pub some_of : (o : Option ℕ) → (o ≡ None → ⊥) → IsSome o
some_of None d = absurd (d refl)
some_of (Some x) d = refl

pub lowest_sign : (f g : ℕ → ℕ) (m : ℕ) → ((i : ℕ) → i < m → f i ≡ sign (g i)) → lowest f m ≡ lowest g m
unfolding lowest
lowest_sign f g zero h = refl
lowest_sign f g (suc m) h = ap₂ option_or (lowest_sign f g m (λ i l. h i (omega arith))) (ap (λ (x : ℕ). if_zero x m) (h m (omega arith)) ∙ sign_zero (g m) m)

module _ (n : ℕ) (t t' b b' : List ℕ) (p : ℕ) (F : Flipped b b' p) (marks : (q : ℕ) → q < n → bit b q ≡ sign (stamp n t q)) (h : p < n)
    (others : (q : ℕ) → q < n → (q ≡ p → ⊥) → stamp n t' q ≡ stamp n t q) where
  -- p was free and is taken, or the other way round
  pub marked : 1 - sign (stamp n t p) ≡ sign (stamp n t' p) → (q : ℕ) → q < n → bit b' q ≡ sign (stamp n t' q)
  marked e q l = ⊎_elim
      (λ d. ap (bit b') d ∙ F.here ∙ ap (λ (x : ℕ). 1 - x) (marks p h) ∙ e ∙ ap (λ (x : ℕ). sign (stamp n t' x)) (sym d))
      (λ d. F.others q d ∙ marks q l ∙ ap sign (sym (others q l d))) (cases_eq q p)

pub bore : (n : ℕ) (m m' : List ℕ) (p : ℕ) → Packed n m → length m' ≡ length m → Born n (front n m) (front n m') p → Flipped (back n m) (back n m') p → Low (stamp n (front n m)) n p → Bore n m m' p
bore n m m' p P l B F L = record {
  packed = record {
    size = l ∙ P.size;
    table = B.table;
    marks = marked n (front n m) (front n m') (back n m) (back n m') p F P.marks L.inside B.others (ap (λ (x : ℕ). 1 - sign x) L.free ∙ sym (sign_pos (stamp n (front n m') p) (omega (arith, B.here))));
    spare = λ q l. F.others q (omega (arith, L.inside)) ∙ P.spare q l;
  };
  place = lowest_at _ _ _ L.inside L.before L.free;
  number = B.number;
  lives = B.lives;
}

pub gone : (n : ℕ) (m m' : List ℕ) (p : ℕ) → Packed n m → length m' ≡ length m → Ended n (front n m) (front n m') p → Flipped (back n m) (back n m') p → p < n → 0 < stamp n (front n m) p → Gone n m m' p
gone n m m' p P l E F h u = record {
  packed = record {
    size = l ∙ P.size;
    table = E.table;
    marks = marked n (front n m) (front n m') (back n m) (back n m') p F P.marks h E.others (ap (λ (x : ℕ). 1 - x) (sign_pos _ u) ∙ ap sign (sym E.here));
    spare = λ q l. F.others q (omega arith) ∙ P.spare q l;
  };
  number = E.number;
  lives = E.lives;
}

pub fresh : (n : ℕ) (m : List ℕ) → length m ≡ cells n + words n → Started n (front n m) → ((p : ℕ) → bit (back n m) p ≡ 0) → Fresh n m
fresh n m l S z = record {
  packed = record { size = l; table = S.table; marks = λ p h. z p ∙ ap sign (sym (S.free p h)); spare = λ p h. z p };
  number = S.number;
  lives = S.lives;
}
