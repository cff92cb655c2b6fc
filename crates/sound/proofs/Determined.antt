-- The contract of an edit leaves nothing of the memory free but the order in which a use set is chained: of two memories that it allows, each use set has
-- the same uses, and where the use sets are the same lists, the memories are the same, word for word. Assumes nothing.
use mathlib.Core.Path.{◌≡◌, refl, sym, ap₂, ◌∙◌}
use mathlib.Core.List.{List, ◌++◌}
use Prim.Native.Nat.{ℕ}
use lib.ListN.{take, drop, take-append-drop}
use Rattle.seqs.specs.Seqs.{count}
use Rattle.seqs.specs.Split.{split}
use Rattle.seqs.proofs.Parts.{rest_is}
use Rattle.edit.specs.Record.{Edit}
use Rattle.edit.specs.Answer.{Answer, numbers_of}
use Rattle.places.specs.Store.{Kind, Role, value_uses, block_uses, Thing, Thing-dec, Fit}
use Rattle.places.specs.Hist.{meaning}
use Rattle.places.specs.Parts.{store}
use Rattle.places.proofs.Determined.{Blank, same_tables}
use Rattle.places.proofs.SameStore.{Spare, same_store, same_uses}
use Rattle.context.specs.declared.Layout.{Layout}
use Rattle.context.specs.Layout.{sizes, total}
use Rattle.context.specs.Memory.{parts_of, state_of, Well, SoundStore}
use Rattle.context.specs.Performed.{abs, Performed}
use Rattle.sound.proofs.Canon.{Small, lookup_none, store_canonical}

whole : (n : ℕ) (m m' : List ℕ) → take n m ≡ take n m' → drop n m ≡ drop n m' → m ≡ m'
whole n m m' a b = sym (take-append-drop n m) ∙ ap₂ {C = List ℕ} (λ s t. s ++ t) a b ∙ take-append-drop n m'

pub blank : (l : Layout) (m : List ℕ) (k : Kind) → Blank ((state_of l m).tab k)
unfolding store parts_of
blank l m k = lookup_none ((parts_of l (split (sizes l) m)).books k).live

spare : {l : Layout} {m : List ℕ} → Well l m → Spare (state_of l m)
unfolding store parts_of
spare W = record { dead = W.spare; on_block = λ p. refl; on_region = λ p. refl; on_use = λ p. refl }

module _ {l : Layout} {m m' m'' : List ℕ} {e : Edit} {r r'' : Answer} (S : SoundStore l m) (A : Performed l e m m' r) (B : Performed l e m m'' r'') where
  same_meaning : meaning (state_of l m') ≡ meaning (state_of l m'')
  unfolding abs
  same_meaning = A.state ∙ sym B.state

  pub reply_determined : numbers_of r ≡ numbers_of r''
  reply_determined = A.reply ∙ sym B.reply

  -- every thing has the same place
  pub tables_determined : (k : Kind) → (state_of l m').tab k ≡ (state_of l m'').tab k
  tables_determined = same_tables S.sound (blank l m) A.places B.places same_meaning

  -- every use set has the same uses
  pub uses_determined : {s q : Role} → Fit s q → (a x : Thing) → count Thing-dec x ((state_of l m').list a q) ≡ count Thing-dec x ((state_of l m'').list a q)
  uses_determined = same_uses A.sound.sound B.sound.sound tables_determined same_meaning

  -- in one order, the words are the same
  module _ (u : Small m') (u' : Small m'') (values : (a : Thing) → (state_of l m').list a value_uses ≡ (state_of l m'').list a value_uses) (targets : (a : Thing) → (state_of l m').list a block_uses ≡ (state_of l m'').list a block_uses) where
    same_state : state_of l m' ≡ state_of l m''
    same_state = same_store A.sound.sound.linked B.sound.sound.linked tables_determined same_meaning (spare A.sound.well) (spare B.sound.well) values targets

    pub words_determined : m' ≡ m''
    words_determined = whole (total l) m' m'' (store_canonical A.sound B.sound u u' same_state) (sym (rest_is (sizes l) m') ∙ A.rest ∙ sym B.rest ∙ rest_is (sizes l) m'')
