-- A node comes to stand beside a mark: the laws of the thin functions. Assumes nothing.
use mathlib.Core.Path.{◌≡◌, ap, ◌∙◌, subst}
use mathlib.Core.List.{List, []}
use mathlib.Core.Option.{some}
use Prim.Native.Nat.{ℕ, suc, ◌+◌, ◌-◌}
use native.Mathlib.Decide.{ℕ_discrete}
use native.Mathlib.Omega.{arith}
use lib.ListN.{length, get_or, take, drop}
use Rattle.seqs.specs.Split.{splice}
use Rattle.seqs.specs.Seqs.{seq_insert_at, index_of}
use Rattle.linked_list.specs.Links.{lists, row, container, Rowed, insert_after, insert_before, list_of as row_of}
use Rattle.linked_list.proofs.View.{Seat, index_at}
use Rattle.places.specs.Store.{Fam, Con, enter}
use Rattle.places.specs.Parts.{node_in}
use Rattle.context.specs.declared.Layout.{Layout}
use Rattle.context.specs.declared.Span.{Span}
use Rattle.context.specs.Layout.{nc_of, nn_of, fam_part, SpanOf}
use Rattle.context.specs.Memory.{part, state_of, Well, Stands}
use Rattle.context.specs.Reading.{EnteredBy}
use Rattle.context.proofs.Pieces.{well_family}
use Rattle.context.proofs.Families.{state_entered}
use Rattle.context.proofs.Thin.{seen, swapped, rest_kept}
use Rattle.context.proofs.Neighbours.{seated, index_is}

module _ {l : Layout} {m : List ℕ} {f : Fam} {r : Span} (W : Well l m) (T : SpanOf l f r) where
  abbrev given : List ℕ
  given = take (r.end - r.at) (drop r.at m)

  abbrev ls : List (List ℕ)
  ls = lists (nc_of l f) (nn_of l f) (part l m (fam_part f))

  module _ (s : List ℕ) (kept : length s ≡ length given) (mark n : ℕ) (Z : Stands (state_of l m) (node_in f, mark) f) where
    abbrev m' : List ℕ
    m' = splice r.at (r.end - r.at) s m

    -- the row that changed, whatever the mark's list is called
    module _ (d : ℕ)
        (R : (c : Con) (o : (state_of l m).own (node_in f, mark) f ≡ some c) → Rowed (nc_of l f) (nn_of l f) (part l m (fam_part f)) s (seated W f mark c o).0 (seq_insert_at ((seated W f mark c o).3.index + d) n (get_or ls (seated W f mark c o).0 [])) n ((seated W f mark c o).0 + 1)) where
      beside : EnteredBy l f mark n d m m'
      beside =
          record {
            well = well_family f W (swapped W T s kept) (R Z.list Z.there).linked;
            rest = rest_kept W T s kept;
            state = λ c o a b w.
                state_entered f (seated W f mark c o).0 n (swapped W T s kept) ((seated W f mark c o).3.index + d) (R c o)
                ∙ ap (λ (b : Con). enter b ((seated W f mark c o).3.index + d) (node_in f, n) (state_of l m)) (seated W f mark c o).1
                ∙ ap (λ (i : ℕ). enter c (i + d) (node_in f, n) (state_of l m)) (index_is W f mark c o a b w);
          }

    -- the list crate says the index by the mark: at d after it
    entered_by : (d : ℕ) (g : List ℕ → ℕ) → ((t : List ℕ) → g t ≡ index_of ℕ_discrete mark t + d)
        → Rowed r.lists.nc r.lists.nn given s (container r.lists.nc r.lists.nn given mark) (seq_insert_at (g (row r.lists.nc r.lists.nn given (container r.lists.nc r.lists.nn given mark))) n (row r.lists.nc r.lists.nn given (container r.lists.nc r.lists.nn given mark))) n (container r.lists.nc r.lists.nn given mark + 1)
        → EnteredBy l f mark n d m m'
    entered_by d g is H =
        beside d
        (λ c o.
        let Z : Seat (nc_of l f) (nn_of l f) (part l m (fam_part f)) ls (seated W f mark c o).0 mark = (seated W f mark c o).3 in
        let t : List ℕ = get_or ls (seated W f mark c o).0 [] in
        let e : container (nc_of l f) (nn_of l f) (part l m (fam_part f)) mark ≡ (seated W f mark c o).0 = omega (arith, (seated W f mark c o).2) in
        let R : Rowed (nc_of l f) (nn_of l f) (part l m (fam_part f)) s (seated W f mark c o).0 (seq_insert_at (g t) n t) n ((seated W f mark c o).0 + 1) = rw e at (rw (seen W T, T.containers, T.nodes) at H) in
        subst (λ (i : ℕ). Rowed (nc_of l f) (nn_of l f) (part l m (fam_part f)) s (seated W f mark c o).0 (seq_insert_at i n t) n ((seated W f mark c o).0 + 1)) (is t ∙ ap (λ (i : ℕ). i + d) (index_at mark t Z.index Z.there Z.only)) R)

    pub entered_after : Rowed r.lists.nc r.lists.nn given s (container r.lists.nc r.lists.nn given mark) (insert_after mark n (row_of r.lists.nc r.lists.nn given mark)) n (container r.lists.nc r.lists.nn given mark + 1) → EnteredBy l f mark n 1 m m'
    entered_after = entered_by 1 (λ t. suc (index_of ℕ_discrete mark t)) (λ t. omega arith)

    pub entered_before : Rowed r.lists.nc r.lists.nn given s (container r.lists.nc r.lists.nn given mark) (insert_before mark n (row_of r.lists.nc r.lists.nn given mark)) n (container r.lists.nc r.lists.nn given mark + 1) → EnteredBy l f mark n 0 m m'
    entered_before = entered_by 0 (index_of ℕ_discrete mark) (λ t. omega arith)
