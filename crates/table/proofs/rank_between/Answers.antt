-- The order rises, so the things with a stamp of at most x stand first. Assumes nothing.
use Rattle.std.proofs.Common.{◌≡◌, sym, ◌∙◌, ap, ⊎_elim, ℕ, ◌+◌, ◌-◌, ◌≤◌, ◌<◌, Bool, true, false, ◌&&◌, ltb, leb, List, length, get_or, take, drop, arith, rules, tests}
use Rattle.std.specs.List.Sorted.{IsPartitionPoint, IsPartitionedBy}
use Rattle.std.proofs.lemmas.Bool.{lt-ltb, le-leb, leb-true, leb-false, cases_lt}
use Rattle.std.proofs.lemmas.List.Sorted.{IsPartitionPoint-from_clause}
use Rattle.seqs.specs.Split.{length_part}
use Rattle.table.specs.Table.{Table, Bracket, Rank, count, order, stamp}
use Rattle.table.proofs.Laws.{tri}
use Rattle.table.proofs.Checks.{part_get}
use Rattle.table.proofs.rank_between.Goals as goal

-- what the search asks of a place v
abbrev old : ℕ → List ℕ → ℕ → ℕ → Bool
old n t x v = ltb v n && leb (get_or t (2 + n + v) 0) x

module _ (n : ℕ) (t : List ℕ) (x lo hi : ℕ) (T : Table n t) (B : Bracket n t x lo hi) where
  abbrev part : List ℕ
  part = take (2 + hi - (2 + lo)) (drop (2 + lo) t)

  fits : 2 + hi ≤ length t
  fits = omega (arith, T.size, T.few, B.within)

  long : length part ≡ hi - lo
  long = length_part (2 + lo) (2 + hi) t fits ∙ omega arith

  cell : (i d : ℕ) → i < hi - lo → get_or part i d ≡ order t (lo + i)
  cell i d h = part_get (2 + lo) (2 + hi) t i (2 + (lo + i)) d fits (omega arith) (omega arith)

  -- at a place of the order, the stamp alone decides
  decides : (i d : ℕ) → i < hi - lo → old n t x (get_or part i d) ≡ leb (stamp n t (order t (lo + i))) x
  decides i d h = ap (old n t x) (cell i d h) ∙ ap (λ (b : Bool). b && leb (stamp n t (order t (lo + i))) x) (lt-ltb (order t (lo + i)) n (T.inside (lo + i) (omega (arith, B.within))))

  rises : (i j : ℕ) → i ≤ j → j < count t → stamp n t (order t i) ≤ stamp n t (order t j)
  rises i j h l = ⊎_elim (λ q. omega (arith, T.rising i j q l)) (⊎_elim (λ e. omega (arith, ap (λ (k : ℕ). stamp n t (order t k)) e)) (λ q. absurd (omega arith))) (tri i j)

  parted : IsPartitionedBy (old n t x) part
  parted i j d h l e =
      let top : stamp n t (order t (lo + j)) ≤ x = leb-true _ _ (sym (decides j d (omega (arith, long))) ∙ e) in
      decides i d (omega (arith, long)) ∙ le-leb _ _ (omega (arith, rises (lo + i) (lo + j) (omega arith) (omega (arith, long, B.within))))

  ranked : (k : ℕ) → k ≤ length part → IsPartitionPoint (λ y. old n t x y ≡ true) (λ y. old n t x y ≡ false) part k → Rank n t x (lo + k)
  ranked k f P = record {
    within = omega (arith, long, B.ordered, B.within);
    low = λ i h. ⊎_elim (λ q. B.low i q)
        (λ q.
        let e : lo + (i - lo) ≡ i = omega arith in
        omega (arith, ap (λ (j : ℕ). stamp n t (order t j)) e, leb-true _ _ (sym (decides (i - lo) 0 (omega (arith, long))) ∙ P.0 (i - lo) 0 (omega arith) (omega arith)))) (cases_lt i lo);
    high = λ i h l. ⊎_elim
        (λ q.
        let e : lo + (i - lo) ≡ i = omega arith in
        omega (arith, ap (λ (j : ℕ). stamp n t (order t j)) e, leb-false _ _ (sym (decides (i - lo) 0 (omega (arith, long))) ∙ P.1 (i - lo) 0 (omega arith) (omega (arith, long)))))
        (λ q. B.high i q l) (cases_lt i hi);
  }

pub returns : goal.returns
returns c =
    let n = c.args.n in
    let t = c.args.t.now in
    let T = c.requires.0 in
    let B = c.requires.1 in
    ranked n t c.args.x c.args.from c.args.to T B _ c.partition_point.ensures.bound
    (IsPartitionPoint-from_clause (old n t c.args.x) _ _ c.partition_point.ensures.partitioned (parted n t c.args.x c.args.from c.args.to T B) (λ a r f k. search (rules, tests)))
