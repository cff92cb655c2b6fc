-- What stands before and after an operation or block, read off the link cells, is what the rules see there. Assumes nothing.
use mathlib.Core.Path.{◌≡◌, refl, sym, ap, ◌∙◌}
use mathlib.Core.List.{List, [], map, map-map}
use mathlib.Core.Option.{Option, none, some}
use Prim.Native.Nat.{ℕ, zero, suc, ◌<◌}
use lib.ListN.{get_or}
use Rattle.seqs.specs.Split.{split}
use Rattle.linked_list.specs.Links.{at, home}
use Rattle.linked_list.specs.Links.{lists as rows}
use Rattle.linked_list.proofs.View.{seat}
use Rattle.edit.specs.Record.{Member, operation, block}
use Rattle.rules.specs.Table.{next_of, previous_of}
use Rattle.rules.specs.History.{History, container}
use Rattle.rules.specs.Orders.{lists, or_empty, list_at}
use Rattle.places.specs.Store.{Kind, blk, reg, node_of, ops, blocks, Fam, Con, State, alive, Live, Link, Sound, outer, up}
use Rattle.places.specs.View.{num, rec_of, view}
use Rattle.places.specs.Parts.{node_in, con_of, rows_of, store}
use Rattle.places.specs.Hist.{hist, orders_of}
use Rattle.places.specs.Roles.{Unnamed}
use Rattle.places.proofs.Sees.{num_inj}
use Rattle.places.proofs.RuleClimb.{num_opt}
use Rattle.places.proofs.RuleNames.{find_live, container_is}
use Rattle.context.specs.declared.Layout.{Layout}
use Rattle.context.specs.Layout.{nc_of, nn_of, sizes, fam_part}
use Rattle.context.specs.Memory.{decode, part, parts_of, con, state_of, Well}
use Rattle.context.proofs.Families.{own_is}
use Rattle.context.proofs.Families.{list_at as row_at}
use Rattle.script.specs.See.{member_fam, place_of, linked, next_cell, previous_cell, beside}
use Rattle.script.proofs.Spots.{Spot, here, nowhere, spot}
use Rattle.script.proofs.Seen.{container_gone}
use Rattle.script.proofs.Beside.{named, Beside, alone, among}

linked_named : (P : State) (k : Kind) (o : Option ℕ) → linked P k o ≡ named (λ q. num P (k, q)) o
unfolding linked
linked_named P k none = refl
linked_named P k (some q) = refl

module _ {l : Layout} {m : List ℕ} (W : Well l m) (S : Sound (state_of l m)) (f : Fam) (p : ℕ) (lp : Live (state_of l m) (node_in f, p)) where
  abbrev P : State
  P = state_of l m

  abbrev s : List ℕ
  s = part l m (fam_part f)

  abbrev nm : ℕ → ℕ
  nm q = num P (node_in f, q)

  abbrev cell : ℕ
  cell = get_or s (home (nc_of l f) (nn_of l f) p) 0

  abbrev row : ℕ → List ℕ
  row c = get_or (rows (nc_of l f) (nn_of l f) s) c []

  in_range : p < nn_of l f
  unfolding alive store parts_of
  in_range = (S.linked.tabs (node_in f)).fits p lp

  -- in no list
  pub outside : cell ≡ 0 → (P.own (node_in f, p) f ≡ none) × Beside nm (nc_of l f) (nn_of l f) s p []
  outside e = (own_is l m f p ∙ ap (λ (n : ℕ). con_of (con l f) (decode n)) e, alone nm (W.families f) p in_range e)

  module _ (c : ℕ) (e : cell ≡ suc c) where
    pub stands_in : P.own (node_in f, p) f ≡ some (con l f c)
    stands_in = own_is l m f p ∙ ap (λ (n : ℕ). con_of (con l f) (decode n)) e

    link : Link P (node_in f, p) f (con l f c)
    link = S.linked.link (node_in f, p) f (con l f c) stands_in

    pub home_live : Live P (con l f c).1
    home_live = link.home

    -- the row, by numbers
    pub row_named : map nm (row c) ≡ map (num P) (P.list (con l f c).1 (con l f c).0)
    unfolding parts_of
    row_named =
        ap (λ (k : Kind). map (λ q. num P (k, q)) (row c)) link.node
        ∙ sym (map-map (num P) (λ q. (node_of (con l f c).0, q)) (row c))
        ∙ ap (map (num P)) (sym (row_at l.values l.ops (parts_of l (split (sizes l) m)) f c 0))

    same_node : (j q : ℕ) → at (row c) j ≡ suc q → nm q ≡ nm p → q ≡ p
    same_node j q a z =
        let home-q : get_or s (home (nc_of l f) (nn_of l f) q) 0 ≡ suc c = (((W.families f).row c (seat (W.families f) c p in_range e).c<).own j q a).1 in
        let own-q : P.own (node_in f, q) f ≡ some (con l f c) = own_is l m f q ∙ ap (λ (n : ℕ). con_of (con l f) (decode n)) home-q in
        ap (λ (x : Kind × ℕ). x.1) (num_inj P S.linked.tabs (node_in f, q) (node_in f, p) refl (S.linked.link (node_in f, q) f (con l f c) own-q).live lp z)

    pub inside : Beside nm (nc_of l f) (nn_of l f) s p (row c)
    inside = among nm (W.families f) p in_range c e same_node

-- ---- by number

-- what stands beside the thing x of the sort w, in the list of its container
pub record Sides (l : Layout) (m : List ℕ) (w : Member) (x : ℕ) (members : List ℕ) : Type 0 where
  pub next : beside l m (member_fam w) (next_cell l (member_fam w)) (place_of (state_of l m) (node_in (member_fam w)) x) ≡ next_of x members
  pub previous : beside l m (member_fam w) (previous_cell l (member_fam w)) (place_of (state_of l m) (node_in (member_fam w)) x) ≡ previous_of x members

module _ {l : Layout} {m : List ℕ} (W : Well l m) (S : Sound (state_of l m)) (e : ℕ) (w : Member) where
  abbrev Q : State
  Q = state_of l m

  abbrev hh : History
  hh = hist e (view Q)

  abbrev F : Fam
  F = member_fam w

  abbrev nums : ℕ → ℕ
  nums q = num Q (node_in F, q)

  -- the list of a container by number; of none, none
  abbrev pub listed : Option ℕ → List ℕ
  listed none = []
  listed (some c) = list_at (lists w (orders_of (view Q))) c

  own_container : (p n : ℕ) → Live Q (node_in F, p) → nums p ≡ n → container w hh n ≡ num_opt Q (outer (Q.own (node_in F, p) F))
  own_container p n lp z = go w lp z
    where
      go : (v : Member) → Live Q (node_in (member_fam v), p) → num Q (node_in (member_fam v), p) ≡ n → container v hh n ≡ num_opt Q (outer (Q.own (node_in (member_fam v), p) (member_fam v)))
      go operation lp z = container_is S e operation p n lp z ∙ unfold up in refl
      go block lp z = container_is S e block p n lp z ∙ unfold up in refl

  gone_container : (n : ℕ) → Unnamed Q (node_in F) n → container w hh n ≡ none
  gone_container n d = go w d
    where
      go : (v : Member) → Unnamed Q (node_in (member_fam v)) n → container v hh n ≡ none
      go operation d = container_gone S e operation n d
      go block d = container_gone S e block n d

  container_list : (c : ℕ) → Live Q (con l F c).1 → list_at (lists w (orders_of (view Q))) (num Q (con l F c).1) ≡ map (num Q) (Q.list (con l F c).1 (con l F c).0)
  unfolding rows_of lists orders_of list_at or_empty rec_of
  container_list c lc = go w lc
    where
      go : (v : Member) → Live Q (con l (member_fam v) c).1 → list_at (lists v (orders_of (view Q))) (num Q (con l (member_fam v) c).1) ≡ map (num Q) (Q.list (con l (member_fam v) c).1 (con l (member_fam v) c).0)
      go operation lc = ap or_empty (find_live S.linked blk (λ q. q.lists ops) c (num Q (blk, c)) lc refl)
      go block lc = ap or_empty (find_live S.linked reg (λ q. q.lists blocks) c (num Q (reg, c)) lc refl)

  module _ (x : ℕ) where
    sides : (p : ℕ) (X members : List ℕ) → place_of Q (node_in F) x ≡ some p → nums p ≡ x → Beside nums (nc_of l F) (nn_of l F) (part l m (fam_part F)) p X → members ≡ map nums X → Sides l m w x members
    unfolding beside
    sides p X members z n B g =
        record {
          next = ap (beside l m F (next_cell l F)) z ∙ linked_named Q (node_in F) (decode (get_or (part l m (fam_part F)) (next_cell l F p) 0)) ∙ B.next ∙ ap (λ (j : ℕ). next_of j (map nums X)) n ∙ ap (next_of x) (sym g);
          previous = ap (beside l m F (previous_cell l F)) z ∙ linked_named Q (node_in F) (decode (get_or (part l m (fam_part F)) (previous_cell l F p) 0)) ∙ B.previous ∙ ap (λ (j : ℕ). previous_of j (map nums X)) n ∙ ap (previous_of x) (sym g);
        }

    no_sides : place_of Q (node_in F) x ≡ none → (members : List ℕ) → members ≡ [] → Sides l m w x members
    unfolding beside next_of previous_of
    no_sides z members g = record { next = ap (beside l m F (next_cell l F)) z ∙ ap (next_of x) (sym g); previous = ap (beside l m F (previous_cell l F)) z ∙ ap (previous_of x) (sym g) }

    live_sides : (p : ℕ) → place_of Q (node_in F) x ≡ some p → Live Q (node_in F, p) → nums p ≡ x → (n : ℕ) → get_or (part l m (fam_part F)) (home (nc_of l F) (nn_of l F) p) 0 ≡ n → Sides l m w x (listed (container w hh x))
    live_sides p z lp n zero h =
        let o = outside W S F p lp h in
        sides p [] (listed (container w hh x)) z n o.1 (ap listed (own_container p x lp n ∙ ap (λ (b : Option Con). num_opt Q (outer b)) o.0))
    live_sides p z lp n (suc c) h =
        sides p (get_or (rows (nc_of l F) (nn_of l F) (part l m (fam_part F))) c []) (listed (container w hh x)) z n (inside W S F p lp c h)
        (ap listed (own_container p x lp n ∙ ap (λ (b : Option Con). num_opt Q (outer b)) (stands_in W S F p lp c h))
        ∙ container_list c (home_live W S F p lp c h)
        ∙ sym (row_named W S F p lp c h))

    pub sides_of : Sides l m w x (listed (container w hh x))
    sides_of = go (spot Q (node_in F) x)
      where
        go : Spot Q (node_in F) x → Sides l m w x (listed (container w hh x))
        go (here p z lp n) = live_sides p z lp n (get_or (part l m (fam_part F)) (home (nc_of l F) (nn_of l F) p) 0) refl
        go (nowhere z d) = no_sides z (listed (container w hh x)) (ap listed (gone_container x d))
