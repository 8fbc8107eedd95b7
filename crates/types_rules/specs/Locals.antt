-- The declarations of a block (Language Guide, "Declarations").
use Rattle.std.specs.Prelude.{ℕ, List, [], ◌∷◌, Bool, false, Option, None, Some}
use Rattle.pawn_tree.specs.declared.name.At.{At}
use Rattle.pawn_tree.specs.declared.variable.Storage.{Storage}
use Rattle.pawn_tree.specs.declared.variable.Storage.TheVariants as storage
use Rattle.pawn_tree.specs.Variables.{Dim, Var}
use Rattle.pawn_tree.specs.Statements.{ConstantOf}
use Rattle.pawn_meaning.specs.Program.{Local, LocalArray, ScalarSlot, ArraySlot}
use Rattle.types_rules.specs.declared.fault.TheConstants.{REDEFINED}
use Rattle.names_rules.specs.Verdict.{Verdict, Stands, after, both}
use Rattle.types_rules.specs.Rule.{broken, also, unless_faults}
use Rattle.types_rules.specs.Around.{Around}
use Rattle.types_rules.specs.Scope.{Scope, Meaning, found_in_block}
use Rattle.types_rules.specs.Constants as constants
use Rattle.types_rules.specs.FirstValues as values
use Rattle.types_rules.specs.Arrays.{ArrayValue, array_value}
use Rattle.types_rules.specs.VariableParts.{Judged, judged, with_part, var_part}
use Rattle.types_rules.specs.Cells.{LocalValue, local_value, static_value}
use Rattle.types_rules.specs.Points.{Point, tag_of, behind_var}
use Rattle.types_rules.specs.Stood.{Stood, stood, nothing_stood, stood_behind}

-- a name that its block doesn't have yet
pub data Fresh : Type 0 where
  fresh : Fresh

-- what code that only looks at a name tells of it
abbrev pub fresh_view : Unit {0} → Fresh
fresh_view nothing = fresh

-- a block declares a name once
abbrev pub unless_found : At → Option Meaning → Verdict Fresh
unless_found at None = Stands fresh
unless_found at (Some it) = broken REDEFINED at

-- a name that the innermost block doesn't declare yet
abbrev pub fresh_name : Scope → At → List ℕ → Verdict Fresh
fresh_name scope at name = unless_found at (found_in_block scope name)

-- ---- variables

-- a cell of the body, with its value
abbrev pub new_cell : Point → LocalValue → Stood
new_cell point it = record {
  stmts = Local point.slots it.code ∷ [];
  slots = ScalarSlot ∷ [];
  objects = it.literals;
  returns = [];
  warned = it.warned;
}

-- the first cells of an array of the body are an object that isn't constant
abbrev pub new_array : Point → ArrayValue → Stood
new_array point it = record {
  stmts = LocalArray point.slots point.objects ∷ [];
  slots = ArraySlot it.sizes ∷ [];
  objects = record { sizes = it.sizes; constant = false; first = it.cells } ∷ [];
  returns = [];
  warned = it.warned;
}

-- a `static` is an object and no statement
abbrev pub static_cell : Bool → values.First → Stood
static_cell constant it =
    stood [] (record { sizes = 1 ∷ []; constant = constant; first = it.cells } ∷ []) it.warned

-- a `static` array, an object with its first cells
abbrev pub static_array : Bool → ArrayValue → Stood
static_array constant it =
    stood [] (record { sizes = it.sizes; constant = constant; first = it.cells } ∷ []) it.warned

module _ (cx : Around) where
  -- a variable of one cell, by its storage
  abbrev pub local_cell : Point → At → Storage → Bool → Var → Verdict Stood
  local_cell point at storage.New constant x =
      after (local_value cx point.scope point.objects at (tag_of cx x.tag) x.init)
      (λ it. Stands (new_cell point it))
  local_cell point at storage.Stock constant x =
      after (local_value cx point.scope point.objects at (tag_of cx x.tag) x.init)
      (λ it. Stands (new_cell point it))
  local_cell point at storage.Static constant x =
      after (static_value cx point.scope at (tag_of cx x.tag) x.init)
      (λ it. Stands (static_cell constant it))

  -- an array by its storage: on the stack, or an object
  abbrev pub array_by : Point → Storage → Bool → ArrayValue → Stood
  array_by point storage.New constant it = new_array point it
  array_by point storage.Stock constant it = new_array point it
  array_by point storage.Static constant it = static_array constant it

  -- a variable by its dimensions: a cell has none
  abbrev pub local_by : Point → At → Storage → Bool → Var → List Dim → Verdict Stood
  local_by point at kind constant x [] = local_cell point at kind constant x
  local_by point at kind constant x (dim ∷ dims) =
      after (array_value cx point.scope at (tag_of cx x.tag) dim dims x.init)
      (λ it. Stands (array_by point kind constant it))

  -- a variable of a block
  abbrev pub local : Point → At → Storage → Bool → Var → Verdict Stood
  local point at kind constant x =
      also (fresh_name point.scope at x.name.bytes) (local_by point at kind constant x x.dims)

  -- variables that are declared together: each is known behind its own value
  unfoldable pub locals : Point → At → Storage → Bool → List Var → Verdict Stood
  locals point at kind constant [] = Stands nothing_stood
  locals point at kind constant (x ∷ xs) =
      both (local point at kind constant x)
      (locals (behind_var cx point at kind constant x) at kind constant xs)
      (λ y more. Stands (stood_behind y more))

  -- the expressions in variables
  unfoldable pub vars_parts : Point → At → Storage → Bool → List Var → Verdict Judged
  vars_parts point at kind constant [] = Stands judged
  vars_parts point at kind constant (x ∷ xs) =
      with_part (var_part cx point.scope x)
      (vars_parts (behind_var cx point at kind constant x) at kind constant xs)

  -- variables, judged where the expressions in them have no fault
  abbrev pub local_vars : Point → At → Storage → Bool → List Var → Verdict Stood
  local_vars point at kind constant vars =
      unless_faults (vars_parts point at kind constant vars) (locals point at kind constant vars)

  -- a constant, which leaves no statement
  abbrev pub local_constant : Point → At → ConstantOf → Verdict Stood
  local_constant point at it =
      also (fresh_name point.scope at it.name.bytes)
      (after (constants.constant cx point.scope at it.value) (λ x.
      Stands (stood [] [] (constants.constant_warned cx (tag_of cx it.tag) x))))
