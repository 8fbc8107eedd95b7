-- What the locals of a body are said to be: where each slot in force lies, and how many cells they
-- take.
use Rattle.std.specs.Prelude.{◌≡◌, ◌+◌, ◌*◌, ◌<◌, ◌⊎◌, ℕ, ℤ, pos, neg_ℤ, List, Option, None, Some}
use Rattle.std.specs.Prelude.{Any, map, nat_lt, slice_get, if◌then◌else◌}
use Rattle.pawn_meaning.specs.Program.{Slot}
use Rattle.pawn_meaning.specs.Scope.{Scope}
use Rattle.pawn_meaning.specs.View.{program_view, slot_view}
use Rattle.gen_sim.specs.PlaceItems.{object_address, cells_to}
use Rattle.gen_sim.specs.Fits.{AreOnce}
use Rattle.gen_sim.specs.FlowCode.{made_cells}
use Rattle.gen_stmt.specs.declared.locals.Locals.{Locals}
use Rattle.gen_stmt.specs.declared.place.Place.{Place}

-- the scope of what stands there, behind these slots
abbrev pub scope_in : Place → List ℕ → Scope
scope_in place made =
    record {
      program = program_view place.program.now;
      slots = map slot_view place.slots.now;
      params = place.params;
      made = made;
    }

-- the table is of the objects' addresses
abbrev pub AreObjects : Place → Type 0
AreObjects place =
    (o : ℕ) (x : ℤ) → slice_get place.objects.now o ≡ Some x
    → x ≡ object_address (program_view place.program.now) o

-- from FRM to a slot's own cells
abbrev pub offset_in : List Slot → ℕ → List ℕ → ℕ → ℤ
offset_in slots params made s =
    if nat_lt s params then pos (12 + 4 * s) else neg_ℤ (pos (4 * cells_to slots made s))

-- before any slot is made
abbrev pub HasFirst : ℕ → ℕ → Option ℤ → Type 0
HasFirst params s None = Unit {0}
HasFirst params s (Some x) = (s < params) × (x ≡ pos (12 + 4 * s))

-- the table is of the offsets of slots in force: a slot that it has without one isn't in force
pub record AreOffsets (slots : List Slot) (params : ℕ) (made : List ℕ)
    (offsets : List (Option ℤ)) : Type 0 where
  pub once : AreOnce made
  pub known : (s : ℕ) → Any (λ m. m ≡ s) made → ¬ (slice_get offsets s ≡ Some None)
  pub tell : (s : ℕ) (x : ℤ) → slice_get offsets s ≡ Some (Some x)
      → ((s < params) ⊎ Any (λ m. m ≡ s) made) × (x ≡ offset_in slots params made s)

-- a table that has no offset of a slot, and is the same for others
pub record Without (s : ℕ) (offsets less : List (Option ℤ)) : Type 0 where
  pub others : (t : ℕ) → ¬ (s ≡ t) → slice_get less t ≡ slice_get offsets t
  pub none : (x : ℤ) → ¬ (slice_get less s ≡ Some (Some x))

-- the table and the count of cells are the locals'
pub record Keeps (slots : List Slot) (params : ℕ) (locals : Locals) : Type 0 where
  pub offsets : AreOffsets slots params locals.made.items locals.offsets.items
  pub cells : locals.cells ≡ made_cells slots locals.made.items
