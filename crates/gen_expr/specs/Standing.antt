-- Where code finds what an expression names: the scope that a frame lends, and that its tables are
-- that scope's.
use Rattle.std.specs.Prelude.{◌≡◌, ℕ, ℤ, map, Option, None, Some, slice_get}
use Rattle.pawn_arrays.specs.Sizes.{sizes, inner_sizes}
use Rattle.pawn_meaning.specs.Scope.{Scope, Extent, known_extent, open_extent}
use Rattle.pawn_meaning.specs.View.{program_view, slot_view}
use Rattle.gen_sim.specs.PlaceItems.{object_address, slot_offset}
use Rattle.gen_expr.specs.declared.frame.Frame.{Frame}
use Rattle.gen_expr.specs.declared.reach.Reach.{Reach}
use Rattle.gen_expr.specs.declared.reach.Reach.TheVariants as reach

-- as the meaning of expressions has it
abbrev pub scope_of : Frame → Scope
scope_of frame =
    record {
      program = program_view frame.program.now;
      slots = map slot_view frame.slots.now;
      params = frame.params;
      made = frame.made.now;
    }

-- the tables are of the objects' addresses, and of the offsets of slots in force
abbrev pub Serves : Frame → Type 0
Serves frame =
    ((o : ℕ) (x : ℤ) → slice_get frame.objects.now o ≡ Some x
    → x ≡ object_address (scope_of frame).program o)
    × ((s : ℕ) (x : ℤ) → slice_get frame.offsets.now s ≡ Some (Some x)
    → x ≡ slot_offset (scope_of frame) s)

-- how far an array is said to reach
abbrev pub extent_of : Reach → Option Extent
extent_of reach.Nothing = None
extent_of (reach.Known shape) = known_extent (sizes shape)
extent_of (reach.Open second third) = Some (open_extent (inner_sizes second third))
