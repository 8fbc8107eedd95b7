-- Where a statement stands: the declarations that ended before it, and how many objects of the
-- source and slots of the body stand before it. What a declaration adds to them.
use Rattle.std.specs.Prelude.{ℕ, ◌+◌, List, [], ◌∷◌, Bool, false, Option, None, Some}
use Rattle.pawn_tree.specs.declared.name.At.{At}
use Rattle.pawn_tree.specs.declared.name.Name as n
use Rattle.pawn_tree.specs.declared.variable.Storage.{Storage}
use Rattle.pawn_tree.specs.declared.variable.Storage.TheVariants as storage
use Rattle.pawn_tree.specs.Variables.{Dim, Var}
use Rattle.pawn_tree.specs.Statements.{ConstantOf, First, Nothing, New, Value, Stmt, Local}
use Rattle.pawn_tree.specs.Statements.{Constant}
use Rattle.pawn_tags.specs.Tags.{untagged}
use Rattle.pawn_meaning.specs.Program.{Scalar, Global, Own, Array, Object, SlotArray}
use Rattle.pawn_meaning.specs.Scope.{Extent}
use Rattle.names_rules.specs.Verdict.{Verdict, Stands, Breaks}
use Rattle.types_rules.specs.Around.{Around, tag_number}
use Rattle.types_rules.specs.Scope.{Meaning, Variable, Unknown, Entry, Scope, with_entries}
use Rattle.types_rules.specs.Scope as means
use Rattle.types_rules.specs.Constants as constants
use Rattle.types_rules.specs.Arrays.{Shaped, shaped}
use Rattle.types_rules.specs.Counts.{slots_of_storage, objects_of_var, slots_in, objects_in}
use Rattle.types_rules.specs.Counts.{literals_of}

-- the names known at a statement, and the numbers of the next object and the next slot
pub record Point : Type 0 where
  pub scope : Scope
  pub objects : ℕ
  pub slots : ℕ

-- behind so many objects and slots
abbrev pub beyond : Point → ℕ → ℕ → Point
beyond point objects slots =
    record { scope = point.scope; objects = point.objects + objects; slots = point.slots + slots }

-- with more declarations in the innermost block
abbrev pub declared : Point → List Entry → Point
declared point entries = record point { scope = with_entries point.scope entries }

-- in a block of its own
abbrev pub inside : Point → Point
inside point = record point { scope = [] ∷ point.scope }

-- the number of an optional tag
abbrev pub tag_of : Around → Option n.Name → ℕ
tag_of cx None = untagged
tag_of cx (Some tag) = tag_number cx tag.bytes

-- ---- what names come to mean

-- how far an array of these sizes reaches
abbrev pub extent_of : List ℕ → Extent
extent_of [] = record { first = None; inner = [] }
extent_of (size ∷ inner) = record { first = Some size; inner = inner }

-- an array whose sizes are broken means nothing
abbrev pub array_means : Array → ℕ → Bool → Verdict Shaped → Meaning
array_means a tag constant (Stands it) = means.Array a (extent_of it.sizes) tag constant
array_means a tag constant (Breaks found) = Unknown

-- and so does a constant whose value is
abbrev pub constant_means : ℕ → Verdict constants.Constant → Meaning
constant_means tag (Stands it) = means.Constant it.value tag
constant_means tag (Breaks found) = Unknown

-- where a variable's cell or array is
abbrev pub cell_place : Storage → Point → Scalar
cell_place storage.New point = Own point.slots
cell_place storage.Static point = Global point.objects
cell_place storage.Stock point = Own point.slots

-- the array that a declaration makes at a point: in a slot, or an object
abbrev pub array_place : Storage → Point → Array
array_place storage.New point = SlotArray point.slots
array_place storage.Static point = Object point.objects
array_place storage.Stock point = SlotArray point.slots

module _ (cx : Around) where
  -- what a variable's name means, by its dimensions
  abbrev pub var_by : Point → At → Storage → Bool → Var → List Dim → Meaning
  var_by point at kind constant x [] = Variable (cell_place kind point) (tag_of cx x.tag) constant
  var_by point at kind constant x (dim ∷ dims) =
      array_means (array_place kind point) (tag_of cx x.tag) constant
      (shaped cx point.scope at dim dims x.init)

  -- what a variable of a block means
  abbrev pub var_means : Point → At → Storage → Bool → Var → Meaning
  var_means point at kind constant x = var_by point at kind constant x x.dims

  -- behind a variable
  abbrev pub behind_var : Point → At → Storage → Bool → Var → Point
  behind_var point at kind constant x =
      declared (beyond point (objects_of_var kind x) (slots_of_storage kind))
      (record { name = x.name.bytes; means = var_means point at kind constant x } ∷ [])

  -- each variable is known to those behind it, and counted with those before it
  unfoldable pub behind_vars : Point → At → Storage → Bool → List Var → Point
  behind_vars point at kind constant [] = point
  behind_vars point at kind constant (x ∷ xs) =
      behind_vars (behind_var point at kind constant x) at kind constant xs

  -- behind a constant
  abbrev pub behind_constant : Point → At → ConstantOf → Point
  behind_constant point at it =
      declared point (record {
        name = it.name.bytes;
        means = constant_means (tag_of cx it.tag) (constants.constant cx point.scope at it.value);
      } ∷ [])

  -- behind what a `for` does first
  abbrev pub behind_first : Point → At → First → Point
  behind_first point at Nothing = point
  behind_first point at (New vars) = behind_vars point at storage.New false vars
  behind_first point at (Value e) = beyond point (literals_of (Some e)) 0

  -- behind a statement of a list: what an inner block declares ends with it
  abbrev pub behind : Point → Stmt → Point
  behind point (Local at it) = behind_vars point at it.storage it.constant it.vars
  behind point (Constant at it) = behind_constant point at it
  behind point s = beyond point (objects_in s) (slots_in s)
