-- The reply to a start, the rules' state that it begins in, and how many words it takes. Assumes nothing.
use mathlib.Core.Path.{◌≡◌, refl, sym, ap, ◌∙◌}
use mathlib.Core.Logic.{◌⊎◌, inl, inr, ⊎_elim, ite, if_pos, if_neg, by_cases}
use mathlib.Core.List.{List}
use Rattle.std.specs.Prelude.{Option, Some, None, Ok, Err}
use Rattle.std.specs.Option.{ok_or}
use Prim.Native.Nat.{ℕ, ◌+◌, ◌*◌, ◌≤◌, ◌<◌}
use native.Mathlib.Decide.{dec_le, dec_lt}
use native.Mathlib.Omega.{arith}
use lib.ListN.{length}
use Rattle.rules.specs.History.{begin, zeros}
use Rattle.rules.specs.Orders.{no_orders}
use Rattle.rules.specs.State.{start}
use Rattle.places.specs.Store.{empty}
use Rattle.places.specs.View.{view, rec_of}
use Rattle.places.specs.Hist.{hist, orders_of, rule_state, meaning}
use Rattle.context.specs.declared.Layout.{Layout}
use Rattle.context.specs.Layout.{cap_of, total, arena, Caps}
use Rattle.context.specs.Steps.{Started}
use Rattle.context.specs.Performed.{abs}
use Rattle.context.specs.Start.{five_of, within, start_code, StartBy, WordsNeeded}

-- ---- the reply

within_yes : (n limit r : ℕ) → 0 < n → n ≤ limit → within n limit r ≡ r
within_yes n limit r a b = if_pos (dec_lt 0 n) a (ite (dec_le n limit) r 5) 5 ∙ if_pos (dec_le n limit) b r 5

-- 5, or the limit is kept
within_or : (n limit r : ℕ) → (within n limit r ≡ 5) ⊎ ((0 < n) × (n ≤ limit))
within_or n limit r =
    by_cases (dec_lt 0 n)
    (λ a. by_cases (dec_le n limit) (λ b. inr (a, b)) (λ b. inl (if_pos (dec_lt 0 n) a (ite (dec_le n limit) r 5) 5 ∙ if_neg (dec_le n limit) b r 5)))
    (λ a. inl (if_neg (dec_lt 0 n) a (ite (dec_le n limit) r 5) 5))

-- 5, or what comes after it
within_step : (n limit r : ℕ) → (((0 < n) × (n ≤ limit)) → r ≡ 5) → within n limit r ≡ 5
within_step n limit r h = ⊎_elim (λ e. e) (λ k. within_yes n limit r k.0 k.1 ∙ h k) (within_or n limit r)

module _ (l : Layout) (long : ℕ) where
  pub code_yes : Caps l → total l ≤ long → start_code l long ≡ 0
  unfolding start_code
  code_yes C f =
      within_yes l.ops 4096 _ C.some_ops C.ops
      ∙ within_yes l.blocks 1024 _ C.some_blocks C.blocks
      ∙ within_yes l.regions 1024 _ C.some_regions C.regions
      ∙ within_yes l.values 8192 _ C.some_values C.values
      ∙ within_yes l.uses 16384 _ C.some_uses C.uses
      ∙ if_pos (dec_le (total l) long) f 0 5

  pub code_no : (Caps l → total l ≤ long → ⊥) → start_code l long ≡ 5
  unfolding start_code
  code_no n =
      within_step l.ops 4096 _ (λ a. within_step l.blocks 1024 _ (λ b. within_step l.regions 1024 _ (λ c. within_step l.values 8192 _ (λ d. within_step l.uses 16384 _ (λ e.
      if_neg (dec_le (total l) long) (n (record { ops = a.1; blocks = b.1; regions = c.1; values = d.1; uses = e.1; some_ops = a.0; some_blocks = b.0; some_regions = c.0; some_values = d.0; some_uses = e.0 })) 0 5)))))

-- ---- what the rules see

empty_means : (l : Layout) → meaning (empty (cap_of l)) ≡ start (five_of l)
unfolding meaning rule_state hist orders_of view rec_of empty start begin no_orders zeros
empty_means l = refl

pub start_refused : (l : Layout) (m : List ℕ) (r : ℕ) → (Caps l → total l ≤ length m → ⊥) → r ≡ 5 → StartBy l m m r
start_refused l m r n e = record { reply = e ∙ sym (code_no l (length m) n); started = λ z. absurd (omega (arith, e, z)); state = λ z. absurd (omega (arith, e, z)); kept = λ z. refl }

pub start_done : (l : Layout) (m m' : List ℕ) → Caps l → total l ≤ length m → Started l m m' → StartBy l m m' 0
unfolding abs
start_done l m m' C f S = record { reply = sym (code_yes l (length m) C f); started = λ e. S; state = λ e. ap meaning S.state ∙ empty_means l; kept = λ n. absurd (n refl) }

-- ---- what the words needed say of the capacities

pub no_store : {l : Layout} {r : Option ℕ} → WordsNeeded l r → r ≡ None → Caps l → ⊥
no_store N e C = let q = N.is C in let z : ◌≡◌ {A = ℕ} 0 1 = cc in absurd (omega arith)

pub a_store : {l : Layout} {r : Option ℕ} {n : ℕ} → WordsNeeded l r → r ≡ Some n → Caps l × (n ≡ total l)
a_store {l} {r} {n} N e =
    let C : Caps l =
    record {
      ops = by (dec_le l.ops 4096) (λ C. C.ops);
      blocks = by (dec_le l.blocks 1024) (λ C. C.blocks);
      regions = by (dec_le l.regions 1024) (λ C. C.regions);
      values = by (dec_le l.values 8192) (λ C. C.values);
      uses = by (dec_le l.uses 16384) (λ C. C.uses);
      some_ops = by (dec_lt 0 l.ops) (λ C. C.some_ops);
      some_blocks = by (dec_lt 0 l.blocks) (λ C. C.some_blocks);
      some_regions = by (dec_lt 0 l.regions) (λ C. C.some_regions);
      some_values = by (dec_lt 0 l.values) (λ C. C.some_values);
      some_uses = by (dec_lt 0 l.uses) (λ C. C.some_uses);
    } in
    let q = N.is C in
    (C, cc)
  where
    -- a limit that is not kept leaves no store
    by : {P : Type 0} → Dec P → (Caps l → P) → P
    by d f = by_cases d (λ y. y) (λ no. let q = N.none (λ C. no (f C)) in let z : ◌≡◌ {A = ℕ} 0 1 = cc in absurd (omega arith))

-- an option that a refusal stands for
pub was_some : {A E : Type 0} {r : Option A} (e : E) {n : A} → ok_or r e ≡ Ok n → r ≡ Some n
was_some {r = None} e h = let z : ◌≡◌ {A = ℕ} 0 1 = cc in absurd (omega arith)
was_some {r = Some x} e h = cc

pub was_none : {A E : Type 0} {r : Option A} (e : E) {x : E} → ok_or r e ≡ Err x → (r ≡ None) × (x ≡ e)
was_none {r = None} e h = (refl, cc)
was_none {r = Some x} e h = let z : ◌≡◌ {A = ℕ} 0 1 = cc in absurd (omega arith)

-- ---- how many words

arena_small : (n : ℕ) → 4 * arena n ≤ 16 + 9 * n
unfolding arena
arena_small n = omega arith

-- in bytes: at most 512, 128 for each operation, block or region, and 40 for each value or use
pub total_small : (l : Layout) → 4 * total l ≤ 512 + 128 * (l.ops + l.blocks + l.regions) + 40 * (l.values + l.uses)
total_small l = omega (arith, arena_small l.ops, arena_small l.blocks, arena_small l.regions, arena_small l.values, arena_small l.uses)
