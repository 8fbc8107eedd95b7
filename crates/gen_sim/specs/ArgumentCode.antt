-- One argument of a call: its cell is on the stack, with a cell of its own on the heap where it is
-- a temporary one.
use Rattle.std.specs.Prelude.{◌+◌, ℕ, ℤ, List, [], ◌∷◌, Option, None, Some}
use Rattle.pawn_meaning.specs.Program.{Slot, ScalarSlot, ReferenceSlot, ArraySlot, OpenSlot}
use Rattle.pawn_meaning.specs.Program.{Program, Arg, Value, Ref, Whole, Temp, Args, no_args}
use Rattle.pawn_meaning.specs.Program.{then_arg}
use Rattle.pawn_meaning.specs.Scope.{Scope, Extent, extent}
use Rattle.pawn_meaning.specs.World.{World}
use Rattle.pawn_meaning.specs.Natives.{Held}
use Rattle.pawn_meaning.specs.Meaning.{argument}
use Rattle.pawn_meaning.specs.Need.{arg_load}
use Rattle.amx_ops.specs.Moves.{Config}
use Rattle.gen_sim.specs.View.{View}
use Rattle.gen_sim.specs.Next.{HoldsArgument}
use Rattle.gen_sim.specs.Stands.{Stands}
use Rattle.gen_sim.specs.Site.{scene_at}
use Rattle.gen_sim.specs.Items.{Item}
use Rattle.gen_sim.specs.Results.{Suits, is_temporary, with_temporaries}
use Rattle.gen_sim.specs.Code.{Code}

-- what holds behind it
pub record ArgumentAt (program : Program) (room : ℕ) (v : View) (kind : Slot) (count : ℕ)
    (pending : List ℤ) (p : ℕ) (held : Held) (w : World) (c : Config) : Type 0 where
  pub cell : ℤ
  pub stands : Stands program room (with_temporaries count v) (cell ∷ pending) p w c
  pub holds : HoldsArgument program room (with_temporaries count v) held cell
  pub suits : Suits kind held

-- its code: the cells that it makes count beside its load
pub record ArgumentCode (scope : Scope) (kind : Slot) (a : Arg) (begin : ℕ)
    (items : List Item) : Type 0 where
  pub does : Code scope (λ x fewer. argument (scene_at x) fewer a) (2 + arg_load a) items begin
      (λ x v pending q. ArgumentAt x.program x.room v kind (is_temporary a) pending q)

-- the kind that an argument is of by itself
abbrev pub kind_with : Option ℕ → List ℕ → Slot
kind_with None inner = OpenSlot inner
kind_with (Some size) inner = ArraySlot (size ∷ inner)

-- an array's, by how far it reaches; what is no array is a reference
abbrev pub kind_by : Option Extent → Slot
kind_by None = ReferenceSlot
kind_by (Some reach) = kind_with reach.first reach.inner

-- a value is a cell of its own, and all else refers to something
abbrev pub kind_of : Scope → Arg → Slot
kind_of scope (Value e) = ScalarSlot
kind_of scope (Ref p) = ReferenceSlot
kind_of scope (Whole a) = kind_by (extent scope a)
kind_of scope (Temp e) = ReferenceSlot

-- of all arguments
abbrev pub kinds_of : Scope → Args → List Slot
kinds_of scope no_args = []
kinds_of scope (then_arg a args) = kind_of scope a ∷ kinds_of scope args
