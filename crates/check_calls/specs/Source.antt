-- What is copied to an array, as a verdict of its own.
use Rattle.std.specs.Prelude.{ℕ, Bool, true, false, Option}
use Rattle.pawn_tree.specs.declared.name.At.{At}
use Rattle.pawn_meaning.specs.Program as code
use Rattle.pawn_meaning.specs.View.{array_view}
use Rattle.types_rules.specs.Around.{Around}
use Rattle.names_rules.specs.Verdict.{Verdict, Stands, after}
use Rattle.types_rules.specs.declared.fault.TheConstants.{ARRAY_NOT_INDEXED, NOT_ASSIGNABLE}
use Rattle.types_rules.specs.Rule.{broken}
use Rattle.types_rules.specs.Typed.{Typed, Form, Value, Place, Whole, Literal, Held}
use Rattle.types_rules.specs.Assignments.{unless_constant, known_line, copied_cells, literal_cells}
use Rattle.types_rules.specs.Assignments.{copied}
use Rattle.check_calls.specs.declared.assignments.Source as held

-- the array that is copied, and how many of its cells
pub record Source : Type 0 where
  pub array : code.Array
  pub cells : ℕ

-- as code holds it
abbrev pub source_view : held.Source → Source
source_view it = record { array = array_view it.array; cells = it.cells }

-- an array, where its count of cells stands
abbrev pub with_cells : code.Array → Verdict ℕ → Verdict Source
with_cells array cells = after cells (λ n. Stands (record { array = array; cells = n }))

-- to one dimension of so many cells
abbrev pub source_in : At → Option ℕ → Form → Verdict Source
source_in at to (Value e) = broken ARRAY_NOT_INDEXED at
source_in at to (Place p constant) = broken ARRAY_NOT_INDEXED at
source_in at to (Whole from reach constant) =
    with_cells from (copied_cells at to (known_line reach))
source_in at to (Literal object size) =
    with_cells (code.Object object) (literal_cells at to size)

-- the array that is written
abbrev pub array_target : At → Form → Verdict Held
array_target at (Value e) = broken NOT_ASSIGNABLE at
array_target at (Place p constant) = broken NOT_ASSIGNABLE at
array_target at (Whole a extent constant) =
    unless_constant at constant (record { array = a; extent = extent; constant = constant })
array_target at (Literal object cells) = broken NOT_ASSIGNABLE at

-- `=` to an array
abbrev pub copy_rule : Around → At → Typed → Typed → Verdict Typed
copy_rule cx at x y =
    after (array_target at x.form) (λ to. after (source_in at (known_line to.extent) y.form)
    (λ it. Stands (copied cx at x y to.array it.array it.cells)))

-- an array or a literal
abbrev pub is_array_form : Form → Bool
is_array_form (Value e) = false
is_array_form (Place p constant) = false
is_array_form (Whole a extent constant) = true
is_array_form (Literal object cells) = true
