-- What each test finds, over slices of any contents. Assumes nothing: these are definitions.
use Rattle.std.specs.Prelude.{◌≡◌, Bool, true, false, List, ℕ, suc, ◌+◌, ◌-◌, ◌*◌, ◌/◌, ◌%◌, ◌<◌, ◌≤◌, length, get_or}
use Rattle.table.specs.Table.{stamp, count}
use Rattle.linked_list.specs.declared.Lists.{Lists}
use Rattle.linked_list.specs.Links.{home, at, row}
use Rattle.sound_parts.specs.declared.parts.Births.{Births}
use Rattle.sound_parts.specs.declared.parts.Rows.{Rows}
use Rattle.sound_parts.specs.declared.parts.Nest.{Nest}
use Rattle.sound_parts.specs.Cross.{step_up, climb_by}

-- the family f has nc lists and nn nodes
pub record Sized (f : Lists) (nc nn : ℕ) : Type 0 where
  pub lists : f.nc ≡ nc
  pub nodes : f.nn ≡ nn

-- each node in a list lives, and what has the list passes, where B k b says that the container k passes or not; and that some do not
abbrev pub HomesPass : ℕ → ℕ → List ℕ → List ℕ → (ℕ → Bool → Type 0) → Bool → Type 0
HomesPass nc nn s tn B true = (q k : ℕ) → q < nn → get_or s (home nc nn q) 0 ≡ suc k → (0 < stamp nn tn q) × B k true
HomesPass nc nn s tn B false = ((q k : ℕ) → q < nn → get_or s (home nc nn q) 0 ≡ suc k → (0 < stamp nn tn q) × (B k false → ⊥)) → ⊥

pub record HomesFound (nc nn : ℕ) (s tn : List ℕ) (B : ℕ → Bool → Type 0) (r : Bool) : Type 0 where
  pub found : HomesPass nc nn s tn B r

abbrev pub DirectAt : ℕ → ℕ → List ℕ → List ℕ → List ℕ → ℕ → Type 0
DirectAt nc nn s tn th q = (k : ℕ) → get_or s (home nc nn q) 0 ≡ suc k → (0 < stamp nn tn q) × (0 < stamp nc th k)

abbrev pub Direct : ℕ → ℕ → List ℕ → List ℕ → List ℕ → Type 0
Direct nc nn s tn th = (q : ℕ) → q < nn → DirectAt nc nn s tn th q

-- the thing k lives, where the first na are those of one table, and the others those of another
abbrev pub LivesIn : ℕ → ℕ → List ℕ → List ℕ → ℕ → Type 0
LivesIn na nb ta tb k = (k < na → 0 < stamp na ta k) × (na ≤ k → 0 < stamp nb tb (k - na))

abbrev pub ForkAt : ℕ → ℕ → ℕ → List ℕ → List ℕ → List ℕ → List ℕ → ℕ → Type 0
ForkAt na nb nn s tn ta tb q = (k : ℕ) → get_or s (home (na + nb) nn q) 0 ≡ suc k → (0 < stamp nn tn q) × LivesIn na nb ta tb k

abbrev pub Fork : ℕ → ℕ → ℕ → List ℕ → List ℕ → List ℕ → List ℕ → Type 0
Fork na nb nn s tn ta tb = (q : ℕ) → q < nn → ForkAt na nb nn s tn ta tb q

abbrev pub MustAt : ℕ → ℕ → List ℕ → List ℕ → ℕ → Type 0
MustAt nc nn s t q = 0 < stamp nn t q → 0 < get_or s (home nc nn q) 0

abbrev pub Must : ℕ → ℕ → List ℕ → List ℕ → Type 0
Must nc nn s t = (q : ℕ) → q < nn → MustAt nc nn s t q

abbrev pub Short : ℕ → ℕ → List ℕ → Type 0
Short nc nn s = (c : ℕ) → c < nc → length (row nc nn s c) ≤ 64

abbrev pub FlagAt : ℕ → List ℕ → List ℕ → ℕ → Type 0
FlagAt n t fl p = 0 < stamp n t p → get_or fl p 0 ≤ 3

abbrev pub Flags : ℕ → List ℕ → List ℕ → Type 0
Flags n t fl = (p : ℕ) → p < n → FlagAt n t fl p

-- the use x in the list c of slots lives, and so does its operation, and it is held by one of d definitions: by one of the first v, the
-- values, for an operand, and by another, a block, for a successor
pub record UseAt (o v d u : ℕ) (to tu su : List ℕ) (c x : ℕ) : Type 0 where
  pub alive : 0 < stamp u tu x
  pub holder : 0 < stamp o to (c / 2)
  pub held : 0 < get_or su (home d u x) 0
  pub value : c % 2 ≡ 0 → get_or su (home d u x) 0 ≤ v
  pub block : c % 2 ≡ 1 → v < get_or su (home d u x) 0

-- the list c of slots is short, and each use in it is as it must be
pub record SlotsAt (o v d u : ℕ) (to tu ss su : List ℕ) (c : ℕ) : Type 0 where
  pub short : length (row (2 * o) u ss c) ≤ 64
  pub uses : (i x : ℕ) → at (row (2 * o) u ss c) i ≡ suc x → UseAt o v d u to tu su c x

abbrev pub Slots : ℕ → ℕ → ℕ → ℕ → List ℕ → List ℕ → List ℕ → List ℕ → Type 0
Slots o v d u to tu ss su = (c : ℕ) → c < 2 * o → SlotsAt o v d u to tu ss su c

-- climbing over the three families of the nest: asked of the operations with a region, since only those have something inside
abbrev pub climb : ℕ → ℕ → ℕ → List ℕ → List ℕ → List ℕ → ℕ → ℕ → Bool
climb o b r so sb sr n p = climb_by (λ q. get_or so (home b o q) 0) (λ q. get_or sb (home r b q) 0) (λ q. get_or sr (home o r q) 0) n p

-- a is the code of the operation around the operation p, 0 for none: of its block's region's
abbrev pub Around : ℕ → ℕ → ℕ → List ℕ → List ℕ → List ℕ → ℕ → ℕ → Type 0
Around o b r so sb sr p a = (f : ℕ → Bool) → step_up a f ≡ step_up (get_or so (home b o p) 0) (λ x. step_up (get_or sb (home r b x) 0) (λ y. step_up (get_or sr (home o r y) 0) f))

abbrev pub Outside : ℕ → ℕ → ℕ → List ℕ → List ℕ → List ℕ → ℕ → ℕ → Type 0
Outside o b r so sb sr n p = 0 < length (row o r sr p) → climb o b r so sb sr n p ≡ true

abbrev pub ClimbAt : ℕ → ℕ → ℕ → List ℕ → List ℕ → List ℕ → List ℕ → ℕ → ℕ → Type 0
ClimbAt o b r to so sb sr n p = 0 < stamp o to p → Outside o b r so sb sr n p

abbrev pub Climbs : ℕ → ℕ → ℕ → List ℕ → List ℕ → List ℕ → List ℕ → ℕ → Type 0
Climbs o b r to so sb sr n = (p : ℕ) → p < o → ClimbAt o b r to so sb sr n p

-- ---- the tests of uses, of values, and of the nest

pub record UsesOk (o b v u : ℕ) (to tb tv tu ss su : List ℕ) : Type 0 where
  pub slots : Slots o v (v + b) u to tu ss su
  pub must : Must (2 * o) u ss tu
  pub sets : Fork v b u su tu tv tb

pub record ValsOk (o b v : ℕ) (to tb tv sv : List ℕ) : Type 0 where
  pub node : Fork o b v sv tv to tb
  pub must : Must (o + b) v sv tv
  pub short : Short (o + b) v sv

pub record RegionsOk (o r : ℕ) (to tr sr : List ℕ) : Type 0 where
  pub node : Direct o r sr tr to
  pub must : Must o r sr tr
  pub short : Short o r sr

pub record NestOk (o b r : ℕ) (to tb tr so sb sr fl : List ℕ) : Type 0 where
  pub regions : RegionsOk o r to tr sr
  pub ops : Direct b o so to tb
  pub blocks : Direct r b sb tb tr
  pub flags : Flags o to fl
  pub climbs : Climbs o b r to so sb sr (count to)

-- ---- the same of the structs that the tests are handed

abbrev pub IsLive : Births → ℕ → Type 0
IsLive t p = 0 < stamp t.places t.words.now p

abbrev pub LivesInOne : Births → Births → ℕ → Type 0
LivesInOne a b k = LivesIn a.places b.places a.words.now b.words.now k

abbrev pub HomesFoundIn : Rows → (ℕ → Bool → Type 0) → Bool → Type 0
HomesFoundIn s B r = HomesFound s.lists.nc s.nodes.places s.words.now s.nodes.words.now B r

abbrev pub MustIn : Rows → Type 0
MustIn s = Must s.lists.nc s.nodes.places s.words.now s.nodes.words.now

abbrev pub ShortIn : Rows → Type 0
ShortIn s = Short s.lists.nc s.lists.nn s.words.now

abbrev pub FlagsOf : Births → List ℕ → Type 0
FlagsOf t fl = Flags t.places t.words.now fl

abbrev pub UseIn : Births → ℕ → Rows → ℕ → ℕ → Type 0
UseIn t v su c x = UseAt t.places v su.lists.nc su.nodes.places t.words.now su.nodes.words.now su.words.now c x

abbrev pub SlotsIn : Births → ℕ → Rows → Rows → Type 0
SlotsIn t v ss su = Slots t.places v su.lists.nc su.nodes.places t.words.now su.nodes.words.now ss.words.now su.words.now

abbrev pub UsesFit : Births → Births → Births → Rows → Rows → Type 0
UsesFit to tb tv ss su = UsesOk to.places tb.places tv.places su.nodes.places to.words.now tb.words.now tv.words.now su.nodes.words.now ss.words.now su.words.now

abbrev pub ValuesFit : Births → Births → Rows → Type 0
ValuesFit to tb sv = ValsOk to.places tb.places sv.nodes.places to.words.now tb.words.now sv.nodes.words.now sv.words.now

abbrev pub climb_in : Nest → ℕ → ℕ → Bool
climb_in e n p = climb e.ops.nodes.places e.blocks.nodes.places e.regions.nodes.places e.ops.words.now e.blocks.words.now e.regions.words.now n p

abbrev pub AroundIn : Nest → ℕ → ℕ → Type 0
AroundIn e p a = Around e.ops.nodes.places e.blocks.nodes.places e.regions.nodes.places e.ops.words.now e.blocks.words.now e.regions.words.now p a

abbrev pub OutsideIn : Nest → ℕ → ℕ → Type 0
OutsideIn e n p = Outside e.ops.nodes.places e.blocks.nodes.places e.regions.nodes.places e.ops.words.now e.blocks.words.now e.regions.words.now n p

abbrev pub ClimbsIn : Nest → ℕ → Type 0
ClimbsIn e n = Climbs e.ops.nodes.places e.blocks.nodes.places e.regions.nodes.places e.ops.nodes.words.now e.ops.words.now e.blocks.words.now e.regions.words.now n

abbrev pub RegionsFit : Nest → Type 0
RegionsFit e = RegionsOk e.ops.nodes.places e.regions.nodes.places e.ops.nodes.words.now e.regions.nodes.words.now e.regions.words.now

abbrev pub PlacedIn : Nest → Type 0
PlacedIn e = Direct e.blocks.nodes.places e.ops.nodes.places e.ops.words.now e.ops.nodes.words.now e.blocks.nodes.words.now × Direct e.regions.nodes.places e.blocks.nodes.places e.blocks.words.now e.blocks.nodes.words.now e.regions.nodes.words.now

abbrev pub NestFits : Nest → List ℕ → Type 0
NestFits e fl = NestOk e.ops.nodes.places e.blocks.nodes.places e.regions.nodes.places e.ops.nodes.words.now e.blocks.nodes.words.now e.regions.nodes.words.now e.ops.words.now e.blocks.words.now e.regions.words.now fl
