-- The first values of arrays (Language Guide, "Arrays", "Initialization"): a text, or a list of
-- values that may go on by `...`; with more dimensions a list of rows. Each value is tested by
-- itself.
use Rattle.std.specs.Prelude.{ℕ, ℤ, zero, suc, pos, ◌-◌, ◌*◌, List, [], ◌∷◌, ◌++◌, length}
use Rattle.std.specs.Prelude.{replicate, Bool, true, false, nat_le, if◌then◌else◌, Option, None}
use Rattle.std.specs.Prelude.{Some}
use Rattle.pawn_cells.specs.Cells as cells
use Rattle.pawn_arrays.specs.Sizes.{elements_in}
use Rattle.pawn_tree.specs.declared.name.At.{At}
use Rattle.pawn_tree.specs.Expressions.{Expr}
use Rattle.pawn_tree.specs.Variables.{Init, Value, Braces, Inits, no_inits, then_init}
use Rattle.pawn_meaning.specs.Program.{StaticObject}
use Rattle.types_rules.specs.declared.fault.TheConstants.{NOT_AN_ARRAY, SIZES_DIFFER}
use Rattle.names_rules.specs.Verdict.{Verdict, Stands, after, both}
use Rattle.types_rules.specs.Rule.{broken}
use Rattle.types_rules.specs.Typed.{Typed, Form}
use Rattle.types_rules.specs.Typed as typed
use Rattle.types_rules.specs.Around.{Around}
use Rattle.types_rules.specs.Scope.{Scope}
use Rattle.types_rules.specs.Tests.{tested}
use Rattle.types_rules.specs.Expressions.{expr}
use Rattle.types_rules.specs.Constants.{constant, constant_warned}

-- cells, and what their values warn of
pub record First : Type 0 where
  pub cells : List ℤ
  pub warned : List At

-- before any value
abbrev pub no_cells : First
no_cells = record { cells = []; warned = [] }

-- values before others
abbrev pub first_behind : First → First → First
first_behind x more = record { cells = x.cells ++ more.cells; warned = x.warned ++ more.warned }

-- ---- how a list goes on

-- the last value, and the difference of the last two: of one value there is none
abbrev pub last_of : ℤ → List ℤ → ℤ
last_of v [] = v
last_of v (next ∷ more) = last_of next more

-- what `...` adds each time: how far the last two values lie apart, 0 where one stands alone
abbrev pub step_of : ℤ → List ℤ → ℤ
step_of v [] = pos 0
step_of v (next ∷ []) = cells.sub next v
step_of v (next ∷ second ∷ more) = step_of next (second ∷ more)

-- so many further values, each by the same step from the one before
unfoldable pub further : ℕ → ℤ → ℤ → List ℤ
further zero last step = []
further (suc count) last step = cells.add last step ∷ further count (cells.add last step) step

-- so many cells behind values: zeros, or where `...` stands behind them the values that go on
abbrev pub missing : Bool → List ℤ → ℕ → List ℤ
missing false values count = replicate count (pos 0)
missing true [] count = replicate count (pos 0)
missing true (v ∷ more) count = further count (last_of v more) (step_of v more)

-- as many cells as a size says
abbrev pub filled_to : ℕ → Bool → List ℤ → List ℤ
filled_to size goes_on values = values ++ missing goes_on values (size - length values)

-- no more values than there are cells
abbrev pub filled : At → ℕ → Bool → First → Verdict First
filled at size goes_on it =
    if nat_le (length it.cells) size then Stands
    (record { cells = filled_to size goes_on it.cells; warned = it.warned })
    else broken SIZES_DIFFER at

-- ---- a text

-- the cells of the text that an expression is
abbrev pub object_cells : List StaticObject → List ℤ
object_cells [] = []
object_cells (object ∷ more) = object.first

-- the cells of a literal
abbrev pub literal_in : Typed → Form → Option (List ℤ)
literal_in x (typed.Value e) = None
literal_in x (typed.Place p fixed) = None
literal_in x (typed.Whole a extent fixed) = None
literal_in x (typed.Literal object size) = Some (object_cells x.literals)

module _ (cx : Around) (scope : Scope) (at : At) (tag : ℕ) where
  -- a text that gives the cells of an array, with zeros behind it
  abbrev pub text_by : ℕ → Typed → Option (List ℤ) → Verdict First
  text_by size x None = broken SIZES_DIFFER at
  text_by size x (Some values) =
      filled at size false
      (record { cells = values; warned = tested cx (tag ∷ []) x.tag x.at ++ x.warned })

  -- a text for one dimension
  abbrev pub text : ℕ → Expr → Verdict First
  text size e = after (expr cx scope 0 e) (λ x. text_by size x (literal_in x x.form))

  -- one value for an array, which only a text is for one dimension
  abbrev pub whole_value : List ℕ → Expr → Verdict First
  whole_value [] e = broken SIZES_DIFFER at
  whole_value (size ∷ []) e = text size e
  whole_value (size ∷ next ∷ inner) e = broken SIZES_DIFFER at

  -- ---- lists

  -- a constant, with what it warns of
  abbrev pub value_cell : Expr → Verdict First
  value_cell e =
      after (constant cx scope at e) (λ it.
      Stands (record { cells = it.value ∷ []; warned = constant_warned cx tag it }))

  -- a list of cells has no list in it
  abbrev pub cell_of_list : Init → Verdict First
  cell_of_list (Value e) = value_cell e
  cell_of_list (Braces braces xs goes_on) = broken SIZES_DIFFER at

  -- constants in braces, each for a cell
  abbrev pub cells_of_list : Inits → Verdict First
  cells_of_list no_inits = Stands no_cells
  cells_of_list (then_init x xs) =
      both (cell_of_list x) (cells_of_list xs) (λ v more. Stands (first_behind v more))

  -- a list of rows doesn't go on by itself
  abbrev pub unless_goes_on : Bool → Verdict First → Verdict First
  unless_goes_on true rows = broken SIZES_DIFFER at
  unless_goes_on false rows = rows

  -- a list, whose rows are these, for an array of these sizes
  abbrev pub listed : List ℕ → Inits → Bool → Verdict First → Verdict First
  listed [] xs goes_on rows = broken NOT_AN_ARRAY at
  listed (size ∷ []) xs goes_on rows = after (cells_of_list xs) (filled at size goes_on)
  listed (size ∷ next ∷ inner) xs goes_on rows =
      unless_goes_on goes_on (after rows (filled at (size * elements_in (next ∷ inner)) false))

  -- the sizes of the parts of an array
  abbrev pub parts : List ℕ → List ℕ
  parts [] = []
  parts (size ∷ inner) = inner

  -- the first cells of an array of these sizes, or of a part of one
  abbrev mutual
    -- the first cells of an array of these sizes
    pub first_cells : List ℕ → Init → Verdict First
    first_cells sizes (Value e) = whole_value sizes e
    first_cells sizes (Braces braces xs goes_on) = listed sizes xs goes_on (rows (parts sizes) xs)

    -- rows of these sizes, one behind another
    pub rows : List ℕ → Inits → Verdict First
    rows sizes no_inits = Stands no_cells
    rows sizes (then_init x xs) =
        both (first_cells sizes x) (rows sizes xs) (λ v more. Stands (first_behind v more))

  -- an array without values is zero
  abbrev pub cells_or_zeros : List ℕ → Option Init → Verdict First
  cells_or_zeros sizes None =
      Stands (record { cells = replicate (elements_in sizes) (pos 0); warned = [] })
  cells_or_zeros sizes (Some init) = first_cells sizes init
