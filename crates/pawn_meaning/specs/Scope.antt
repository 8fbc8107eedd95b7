-- Where an expression stands, and how far an array reaches there.
use Rattle.std.specs.Prelude.{◌≡◌, ◌⊎◌, ◌<◌, ◌≤◌, ℕ, List, [], ◌∷◌, ◌++◌, Bool, true, false, Option}
use Rattle.std.specs.Prelude.{None, Some, Any, slice_get}
use Rattle.pawn_meaning.specs.Program.{Array, Object, SlotArray, ParamArray, Row, From, Slot}
use Rattle.pawn_meaning.specs.Program.{ScalarSlot, ReferenceSlot, ArraySlot, OpenSlot, StaticObject}
use Rattle.pawn_meaning.specs.Program.{Program}

-- the program, the slots of the body, how many of them are parameters, and the numbers of those
-- that were made before and are in force
pub record Scope : Type 0 where
  pub program : Program
  pub slots : List Slot
  pub params : ℕ
  pub made : List ℕ

-- a local slot that was made before
abbrev pub IsMade : Scope → ℕ → Type 0
IsMade scope s = Any (λ made. made ≡ s) scope.made

-- a parameter, or a local slot that was made before
abbrev pub IsInSight : Scope → ℕ → Type 0
IsInSight scope s = (s < scope.params) ⊎ IsMade scope s

-- the scope behind statements that make slots
abbrev pub with_made : List ℕ → Scope → Scope
with_made slots scope = record scope { made = scope.made ++ slots }

-- ---- arrays

-- the first size of an array where it is known, and the sizes after it
pub record Extent : Type 0 where
  pub first : Option ℕ
  pub inner : List ℕ

-- of sizes that are all known
abbrev pub known_extent : List ℕ → Option Extent
known_extent [] = None
known_extent (size ∷ inner) = Some (record { first = Some size; inner = inner })

-- of any first size
abbrev pub open_extent : List ℕ → Extent
open_extent inner = record { first = None; inner = inner }

-- of an object
abbrev pub object_extent : Option StaticObject → Option Extent
object_extent None = None
object_extent (Some object) = known_extent object.sizes

-- of an array that a slot makes
abbrev pub slot_extent : Option Slot → Option Extent
slot_extent None = None
slot_extent (Some ScalarSlot) = None
slot_extent (Some ReferenceSlot) = None
slot_extent (Some (ArraySlot sizes)) = known_extent sizes
slot_extent (Some (OpenSlot inner)) = None

-- of the array that a parameter refers to; the node says whether its size is known
abbrev pub param_extent : Option Slot → Bool → Option Extent
param_extent None known = None
param_extent (Some ScalarSlot) known = None
param_extent (Some ReferenceSlot) known = None
param_extent (Some (ArraySlot sizes)) true = known_extent sizes
param_extent (Some (ArraySlot sizes)) false = None
param_extent (Some (OpenSlot inner)) true = None
param_extent (Some (OpenSlot inner)) false = Some (open_extent inner)

-- of what a first index leads to
abbrev pub row_extent : Option Extent → Option Extent
row_extent None = None
row_extent (Some whole) = known_extent whole.inner

-- of the rest from an element on, whose size isn't known
abbrev pub rest_extent : Option Extent → Option Extent
rest_extent None = None
rest_extent (Some whole) = Some (open_extent whole.inner)

-- how far an array reaches, where there is such an array
abbrev pub extent : Scope → Array → Option Extent
extent scope (Object o) = object_extent (slice_get scope.program.objects o)
extent scope (SlotArray s) = slot_extent (slice_get scope.slots s)
extent scope (ParamArray s known) = param_extent (slice_get scope.slots s) known
extent scope (Row a e) = row_extent (extent scope a)
extent scope (From a e) = rest_extent (extent scope a)

-- one dimension
abbrev pub IsLine : Option Extent → Type 0
IsLine None = ⊥
IsLine (Some whole) = whole.inner ≡ []

-- more than one dimension
abbrev pub HasRows : Option Extent → Type 0
HasRows None = ⊥
HasRows (Some whole) = ¬ (whole.inner ≡ [])

-- these sizes after the first
abbrev pub HasInner : List ℕ → Option Extent → Type 0
HasInner inner None = ⊥
HasInner inner (Some whole) = whole.inner ≡ inner

-- one dimension of a known size, which is at least so many
abbrev pub HasCells : ℕ → Option Extent → Type 0
HasCells cells whole = (size : ℕ) × (whole ≡ known_extent (size ∷ [])) × (cells ≤ size)
