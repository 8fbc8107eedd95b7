-- Assignments, copies of arrays, `++` and `--` (Language Guide, "Assignment", "Arrays",
-- "User-defined operators").
use Rattle.std.specs.Prelude.{ℕ, ℤ, pos, negsuc, List, [], ◌∷◌, Bool, true, false, nat_eq, nat_le}
use Rattle.std.specs.Prelude.{if◌then◌else◌, Option, None, Some}
use Rattle.pawn_token.specs.declared.sign.Sign.{Sign}
use Rattle.pawn_token.specs.declared.sign.Sign.TheVariants as sign
use Rattle.pawn_cells.specs.declared.operator.Operator.{Operator}
use Rattle.pawn_tree.specs.declared.name.At.{At}
use Rattle.pawn_tags.specs.declared.op.Op.{Op}
use Rattle.pawn_tags.specs.declared.op.Op.TheVariants as op
use Rattle.pawn_tags.specs.declared.operators.Choice.{Choice}
use Rattle.pawn_meaning.specs.Program.{Scalar, Array, Expr, Assign, Update, UpdateBy, Step, StepBy}
use Rattle.pawn_meaning.specs.Program.{Copy}
use Rattle.pawn_meaning.specs.Program as code
use Rattle.pawn_meaning.specs.Scope.{Extent}
use Rattle.types_rules.specs.declared.fault.TheConstants.{UNDEFINED, NOT_ASSIGNABLE}
use Rattle.types_rules.specs.declared.fault.TheConstants.{ARRAY_NOT_INDEXED, SIZES_DIFFER}
use Rattle.types_rules.specs.declared.fault.TheConstants.{CONSTANT_DIVIDE_BY_ZERO}
use Rattle.names_rules.specs.Verdict.{Verdict, Stands, after, both}
use Rattle.types_rules.specs.Rule.{broken}
use Rattle.types_rules.specs.Typed.{Typed, Form, Value, Place, Whole, Literal, value_of_one}
use Rattle.types_rules.specs.Typed.{value_of_two, cell}
use Rattle.types_rules.specs.Around.{Around, function_tag}
use Rattle.types_rules.specs.Tests.{Sent, sent, tested, tested_either, converter}
use Rattle.names_rules.specs.Signs.{Between, Operates, Decides, Takes, Nothing}
use Rattle.types_rules.specs.Signs.{updater_of}
use Rattle.types_rules.specs.Operators.{divides_by_zero, chosen, chosen_for_one}

-- ---- targets

-- a place that isn't constant
abbrev pub unless_constant : {A : Type 0} → At → Bool → A → Verdict A
unless_constant at true x = broken NOT_ASSIGNABLE at
unless_constant at false x = Stands x

-- the one cell that is written: no value and no literal as a whole
abbrev pub target_in : At → Form → Verdict Scalar
target_in at (Value e) = broken NOT_ASSIGNABLE at
target_in at (Place p constant) = unless_constant at constant p
target_in at (Whole a extent constant) = broken ARRAY_NOT_INDEXED at
target_in at (Literal object cells) = broken NOT_ASSIGNABLE at

-- the cell that an operand stands for, where one is assigned to
abbrev pub target : At → Typed → Verdict Scalar
target at x = target_in at x.form

-- ---- `=`

-- a value to a place: converted where a user operator does that, else tested
abbrev pub assigned : Around → At → Typed → Typed → Scalar → Expr → Typed
assigned cx at x y p e =
    let it : Sent = sent cx (x.tag ∷ []) y.tag y.at e in
    value_of_two at (Assign p it.code) x.tag None x it.warned y

-- a cell takes the value of the right operand
abbrev pub assign_cell : Around → At → Typed → Typed → Verdict Typed
assign_cell cx at x y = both (target at x) (cell at y) (λ p e. Stands (assigned cx at x y p e))

-- a copy is tested and never converted; its value is a cell
abbrev pub copied : Around → At → Typed → Typed → Array → Array → ℕ → Typed
copied cx at x y to from cells =
    value_of_two at (Copy to from cells) x.tag None x (tested cx (x.tag ∷ []) y.tag y.at) y

-- the cells of one dimension of a known size
abbrev pub known_by : Option ℕ → List ℕ → Option ℕ
known_by None inner = None
known_by (Some size) [] = Some size
known_by (Some size) (next ∷ inner) = None

-- how many cells an array of one dimension has, where that is known
abbrev pub known_line : Extent → Option ℕ
known_line extent = known_by extent.first extent.inner

-- so many cells are copied, where the sizes agree
abbrev pub cells_or_broken : At → Bool → ℕ → Verdict ℕ
cells_or_broken at true cells = Stands cells
cells_or_broken at false cells = broken SIZES_DIFFER at

-- the cells that are copied of an array: as many as the target has
abbrev pub copied_cells : At → Option ℕ → Option ℕ → Verdict ℕ
copied_cells at None from = broken SIZES_DIFFER at
copied_cells at (Some to) None = broken SIZES_DIFFER at
copied_cells at (Some to) (Some from) = cells_or_broken at (nat_eq to from) from

-- and of a literal: all its cells, which are no more than the target has
abbrev pub literal_cells : At → Option ℕ → ℕ → Verdict ℕ
literal_cells at None from = broken SIZES_DIFFER at
literal_cells at (Some to) from = cells_or_broken at (nat_le from to) from

-- what an array is assigned from
abbrev pub copy_from : Around → At → Typed → Typed → Array → Extent → Form → Verdict Typed
copy_from cx at x y to extent (Value e) = broken ARRAY_NOT_INDEXED at
copy_from cx at x y to extent (Place p constant) = broken ARRAY_NOT_INDEXED at
copy_from cx at x y to extent (Whole from reach constant) =
    after (copied_cells at (known_line extent) (known_line reach))
    (λ cells. Stands (copied cx at x y to from cells))
copy_from cx at x y to extent (Literal object size) =
    after (literal_cells at (known_line extent) size)
    (λ cells. Stands (copied cx at x y to (code.Object object) cells))

-- by what the left operand is: a cell, or an array, which is copied to as a whole
abbrev pub assign_to : Around → At → Typed → Typed → Form → Verdict Typed
assign_to cx at x y (Value e) = assign_cell cx at x y
assign_to cx at x y (Place p constant) = assign_cell cx at x y
assign_to cx at x y (Literal object cells) = broken NOT_ASSIGNABLE at
assign_to cx at x y (Whole a extent constant) =
    after (unless_constant at constant a) (λ to. copy_from cx at x y to extent y.form)

-- `=`, to a cell or to a whole array
unfoldable pub set_rule : Around → At → Typed → Typed → Verdict Typed
set_rule cx at x y = assign_to cx at x y x.form

-- ---- `op=`

-- what a user operator gives goes to the target: it is converted, or a test names the right operand
abbrev pub given_back : Around → ℕ → ℕ → At → Option ℕ → List At
given_back cx target result at None = tested cx (target ∷ []) result at
given_back cx target result at (Some f) = []

-- the target's old value and the operand, by the user operator for their tags or the built-in one
abbrev pub updated : Around → At → Operator → Typed → Typed → Scalar → Expr → Option Choice
    → Verdict Typed
updated cx at it x y p e (Some by) =
    let result : ℕ = function_tag cx by.function in
    let convert : Option ℕ = converter cx result x.tag in
    Stands (value_of_two at (UpdateBy p by.function by.swapped e convert) x.tag None
    x (given_back cx x.tag result y.at convert) y)
updated cx at it x y p e None =
    if divides_by_zero it y.value then broken CONSTANT_DIVIDE_BY_ZERO at
    else Stands (value_of_two at (Update p it e) x.tag None x (tested_either cx x.tag y.tag y.at) y)

-- an operator with `=` behind it, such as `+=`
unfoldable pub update_rule : Around → At → Operator → Option Op → Typed → Typed → Verdict Typed
update_rule cx at it user x y =
    both (target at x) (cell at y) (λ p e. updated cx at it x y p e (chosen cx user x.tag y.tag))

-- no tree that spells tokens has another sign there
abbrev pub update_by : Around → At → Between → Typed → Typed → Verdict Typed
update_by cx at (Operates it user) x y = update_rule cx at it user x y
update_by cx at (Decides it) x y = broken UNDEFINED at
update_by cx at Takes x y = broken UNDEFINED at
update_by cx at Nothing x y = broken UNDEFINED at

-- `=`, or an operator with `=` behind it
abbrev pub assign_rule : Around → At → Sign → Typed → Typed → Verdict Typed
assign_rule cx at sign.Assign x y = set_rule cx at x y
assign_rule cx at it x y = update_by cx at (updater_of it) x y

-- ---- `++` and `--`

-- up or down
abbrev pub step_op : Bool → Op
step_op true = op.Inc
step_op false = op.Dec

-- 1 for `++`, -1 for `--`
abbrev pub step_delta : Bool → ℤ
step_delta true = pos 1
step_delta false = negsuc 0

-- what a user operator gives is stored as it is
abbrev pub step_code : Bool → Bool → Scalar → Option Choice → Expr
step_code up prefix p None = Step p (step_delta up) prefix
step_code up prefix p (Some by) = StepBy p by.function prefix

-- `++` and `--`, before their operand or behind it, by the user operator for its tag if any
unfoldable pub step_rule : Around → At → Bool → Bool → Typed → Verdict Typed
step_rule cx at up prefix x =
    after (target at x) (λ p.
    Stands (value_of_one at (step_code up prefix p (chosen_for_one cx (step_op up) x.tag)) x.tag
    None x))
