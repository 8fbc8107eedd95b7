-- Programs within the limits: those that a generator is asked for.
use Rattle.std.specs.Prelude.{◌+◌, ◌≤◌, ◌≤ℤ◌, ℕ, pos, List, All, length, sum_by}
use Rattle.pawn_arrays.specs.Sizes.{cells_of, cell_limit}
use Rattle.pawn_meaning.specs.Program.{Slot, ScalarSlot, ReferenceSlot, ArraySlot, OpenSlot}
use Rattle.pawn_meaning.specs.Program.{StaticObject, Body, Function, Program}
use Rattle.pawn_meaning.specs.declared.program_limits.TheConstants.{DATA_LIMIT, LOCALS_LIMIT}
use Rattle.pawn_meaning.specs.declared.program_limits.TheConstants.{WEIGHT_LIMIT}
use Rattle.pawn_meaning.specs.declared.program_limits.TheConstants.{DYNAMIC_LIMIT}
use Rattle.pawn_meaning.specs.Need.{locals}
use Rattle.pawn_meaning.specs.Weight.{weight}

-- each size is at least 1, and there are at most so many cells
pub record IsWithinArray (sizes : List ℕ) : Type 0 where
  pub least : All (λ size. 1 ≤ size) sizes
  pub most : cells_of sizes ≤ cell_limit

-- of an open array the sizes after the first
abbrev pub IsWithinSlot : Slot → Type 0
IsWithinSlot ScalarSlot = Unit {0}
IsWithinSlot ReferenceSlot = Unit {0}
IsWithinSlot (ArraySlot sizes) = IsWithinArray sizes
IsWithinSlot (OpenSlot inner) = All (λ size. 1 ≤ size) inner

-- the slots of a body, and its locals
pub record IsWithinBody (body : Body) : Type 0 where
  pub slots : All IsWithinSlot body.slots
  pub locals : locals body.slots body.stmt ≤ LOCALS_LIMIT

-- the parameters and bodies of a function
pub record IsWithinFunction (function : Function) : Type 0 where
  pub params : All IsWithinSlot function.params
  pub bodies : All IsWithinBody function.bodies

-- the cells of all objects, and one for each automaton
abbrev pub data_cells : Program → ℕ
data_cells program =
    sum_by (λ (it : StaticObject). cells_of it.sizes) program.objects + length program.automata

-- all objects, functions, the data, the weight and the room
pub record IsWithinLimits (program : Program) : Type 0 where
  pub objects : All (λ (it : StaticObject). IsWithinArray it.sizes) program.objects
  pub functions : All IsWithinFunction program.functions
  pub cells : data_cells program ≤ DATA_LIMIT
  pub weight : weight program ≤ WEIGHT_LIMIT
  pub dynamic : (pos 0 ≤ℤ program.dynamic) × (program.dynamic ≤ℤ DYNAMIC_LIMIT)
