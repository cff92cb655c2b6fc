-- The edit of a record by its kind: what was carried out on the record's fields is the record's edit. Assumes nothing.
use Rattle.std.proofs.Common.{◌≡◌, refl, sym, ap, ◌∙◌, subst, ℕ, List, get_or}
use Rattle.edit.specs.Record.{Edit, Thing, drop_uses, the_operation, the_block, the_region}
use Rattle.edit.specs.Answer.{Answer}
use Rattle.edit.specs.Kinds.{member_of}
use Rattle.edit.specs.Taken.{edit_by}
use Rattle.edit.specs.declared.Kind.{Kind}
use Rattle.edit.specs.declared.Kind.TheVariants.{DropUses, Erase}
use Rattle.edit.specs.declared.Member.{Member}
use Rattle.edit.specs.declared.Member.TheVariants as members
use Rattle.edit.specs.declared.Nested.{Nested}
use Rattle.edit.specs.declared.Nested.TheVariants as nested
use Rattle.edit.proofs.ByKind.{by_drop_uses, by_erase_operation, by_erase_block}
use Rattle.context.specs.declared.Layout.{Layout}
use Rattle.context.specs.Performed.{Performed}
use Rattle.walk.specs.Erase.{erase_by}
use Rattle.edits.specs.Scratch.{PerformedWith}

-- the edit that was carried out, by another name
pub same_edit : {l : Layout} {m m' : List ℕ} {r : Answer} {d e : Edit} → d ≡ e → Performed l e m m' r → Performed l d m m' r
same_edit {l} {m} {m'} {r} q P = subst (λ (x : Edit). Performed l x m m' r) (sym q) P

-- an edit that leaves the scratch alone
pub carried : {l : Layout} {m m' s : List ℕ} {r : Answer} {d e : Edit} → d ≡ e → Performed l e m m' r → PerformedWith l d m m' s s r
carried q P = record { performed = same_edit q P; scratch = refl }

pub by_erase : (fs : List ℕ) (w : Member) → edit_by (Erase w) fs ≡ erase_by (member_of w) (get_or fs 0 0)
by_erase fs members.Operation = by_erase_operation fs
by_erase fs members.Block = by_erase_block fs

-- dropped uses, whatever stands for the thing, where for each kind it is the one of that kind
pub drop_carried : {l : Layout} {m m' s : List ℕ} {r : Answer} {x : Thing} {k : Kind} (fs : List ℕ) (n : Nested) → k ≡ DropUses n → Performed l (drop_uses x) m m' r → (n ≡ nested.Operation → x ≡ the_operation (get_or fs 0 0)) → (n ≡ nested.Block → x ≡ the_block (get_or fs 0 0)) → (n ≡ nested.Region → x ≡ the_region (get_or fs 0 0)) → PerformedWith l (edit_by k fs) m m' s s r
drop_carried fs nested.Operation e P o b r = rw e (carried (by_drop_uses fs nested.Operation ∙ ap drop_uses (sym (o refl))) P)
drop_carried fs nested.Block e P o b r = rw e (carried (by_drop_uses fs nested.Block ∙ ap drop_uses (sym (b refl))) P)
drop_carried fs nested.Region e P o b r = rw e (carried (by_drop_uses fs nested.Region ∙ ap drop_uses (sym (r refl))) P)
