-- Operators on one and two operands (Language Guide, "Operators and expressions", "User-defined
-- operators"). A user operator for the operands' tags goes before the built-in one. Where none is
-- chosen the two operands of an operator are tested against each other.
use Rattle.std.specs.Prelude.{ℕ, ℤ, List, [], Bool, false, if◌then◌else◌, Option, None, Some}
use Rattle.std.specs.Prelude.{option_map}
use Rattle.pawn_token.specs.declared.sign.Sign.{Sign}
use Rattle.pawn_cells.specs.Cells.{is_zero}
use Rattle.pawn_cells.specs.Operators as cells
use Rattle.pawn_cells.specs.declared.operator.Operator.{Operator}
use Rattle.pawn_cells.specs.declared.operator.Operator.TheVariants as between
use Rattle.pawn_cells.specs.declared.operator.Prefix.{Prefix}
use Rattle.pawn_cells.specs.declared.operator.Prefix.TheVariants as before
use Rattle.pawn_cells.specs.declared.operator.Logical.{Logical}
use Rattle.pawn_cells.specs.declared.operator.Logical.TheVariants as logic
use Rattle.pawn_tree.specs.declared.name.At.{At}
use Rattle.pawn_tags.specs.Tags.{untagged}
use Rattle.pawn_tags.specs.Overloads.{choice}
use Rattle.pawn_tags.specs.declared.op.Op.{Op}
use Rattle.pawn_tags.specs.declared.op.Op.TheVariants as op
use Rattle.pawn_tags.specs.declared.operators.Choice.{Choice}
use Rattle.pawn_meaning.specs.Program.{Expr, Unary, Binary, And, Or, Operate, OperateOne, Seq}
use Rattle.types_rules.specs.declared.fault.TheConstants.{CONSTANT_DIVIDE_BY_ZERO, UNDEFINED}
use Rattle.names_rules.specs.Verdict.{Verdict, Stands, after, both}
use Rattle.types_rules.specs.Rule.{broken}
use Rattle.types_rules.specs.Typed.{Typed, value_of_one, value_of_two, cell}
use Rattle.types_rules.specs.Around.{Around, function_tag, tag_number}
use Rattle.types_rules.specs.Tests.{tested_either}
use Rattle.names_rules.specs.Signs.{Between, Operates, Decides, Takes, Nothing, between_of}

-- the tag of a truth value
abbrev pub bool_tag : ℕ
bool_tag = 1

-- ---- constants

-- what an operator makes of two constants
abbrev pub value_of_both : (ℤ → ℤ → Option ℤ) → Option ℤ → Option ℤ → Option ℤ
value_of_both make None y = None
value_of_both make (Some x) None = None
value_of_both make (Some x) (Some y) = make x y

-- a constant expression whose value is 0
abbrev pub is_constant_zero : Option ℤ → Bool
is_constant_zero None = false
is_constant_zero (Some v) = is_zero v

-- a built-in operator divides by a constant that is 0
abbrev pub divides_by_zero : Operator → Option ℤ → Bool
divides_by_zero between.Divide divisor = is_constant_zero divisor
divides_by_zero between.Remainder divisor = is_constant_zero divisor
divides_by_zero _ divisor = false

-- ---- two operands

-- a comparison gives a truth value, each other operator has the left operand's tag
abbrev pub operator_tag : Operator → ℕ → ℕ
operator_tag between.Equal left = bool_tag
operator_tag between.NotEqual left = bool_tag
operator_tag _ left = left

-- the user operator for two operands
abbrev pub chosen : Around → Option Op → ℕ → ℕ → Option Choice
chosen cx None left right = None
chosen cx (Some it) left right = choice cx.operators it left right

-- the built-in operator, whose operands' tags are tested against each other
abbrev pub built_in : Around → At → Operator → Typed → Typed → Expr → Expr → Verdict Typed
built_in cx at it x y l r =
    if divides_by_zero it y.value then broken CONSTANT_DIVIDE_BY_ZERO at
    else Stands (value_of_two at (Binary it l r) (operator_tag it x.tag)
    (value_of_both (cells.binary it) x.value y.value) x (tested_either cx x.tag y.tag y.at) y)

-- by the user operator that is chosen, else by the built-in one
abbrev pub operate : Around → At → Operator → Typed → Typed → Expr → Expr → Option Choice
    → Verdict Typed
operate cx at it x y l r None = built_in cx at it x y l r
operate cx at it x y l r (Some by) =
    Stands (value_of_two at (Operate by.function l r by.swapped) (function_tag cx by.function) None
    x [] y)

-- an operator that needs both operands
unfoldable pub operator_rule : Around → At → Operator → Option Op → Typed → Typed → Verdict Typed
operator_rule cx at it user x y =
    both (cell at x) (cell at y) (λ l r. operate cx at it x y l r (chosen cx user x.tag y.tag))

-- `&&` and `||`
abbrev pub logical_code : Logical → Expr → Expr → Expr
logical_code logic.And l r = And l r
logical_code logic.Or l r = Or l r

-- `&&` and `||`, which give truth values and which no user defines
unfoldable pub logical_rule : At → Logical → Typed → Typed → Verdict Typed
logical_rule at it x y =
    both (cell at x) (cell at y) (λ l r. Stands (value_of_two at (logical_code it l r) bool_tag
    (value_of_both (λ a b. Some (cells.logical it a b)) x.value y.value) x [] y))

-- `,`, whose value and tag are those of the right operand
unfoldable pub comma_rule : At → Typed → Typed → Verdict Typed
comma_rule at x y =
    both (cell at x) (cell at y) (λ l r.
    Stands (value_of_two at (Seq l r) y.tag (value_of_both (λ a b. Some b) x.value y.value) x [] y))

-- by the operator that a sign is; no tree that spells tokens has a sign there that is none
abbrev pub between_rule : Around → At → Between → Typed → Typed → Verdict Typed
between_rule cx at (Operates it user) x y = operator_rule cx at it user x y
between_rule cx at (Decides it) x y = logical_rule at it x y
between_rule cx at Takes x y = comma_rule at x y
between_rule cx at Nothing x y = broken UNDEFINED at

-- any sign between two operands that groups to the left
abbrev pub binary_rule : Around → At → Sign → Typed → Typed → Verdict Typed
binary_rule cx at sign x y = between_rule cx at (between_of sign) x y

-- ---- one operand

-- the user operator for one operand
abbrev pub chosen_for_one : Around → Op → ℕ → Option Choice
chosen_for_one cx it tag = choice cx.operators it tag untagged

-- one operand by the user operator that is chosen, else the value built in
abbrev pub operate_one : Around → At → Typed → Expr → Typed → Option Choice → Typed
operate_one cx at x e built None = built
operate_one cx at x e built (Some by) =
    value_of_one at (OperateOne by.function e) (function_tag cx by.function) None x

-- the built-in operator gives a value of this tag
abbrev pub unary_value : At → Prefix → ℕ → Typed → Expr → Typed
unary_value at it tag x e =
    value_of_one at (Unary it e) tag (option_map (cells.prefix it) x.value) x

-- `!`, which gives a truth value
unfoldable pub not_rule : Around → At → Typed → Verdict Typed
not_rule cx at x =
    after (cell at x) (λ e.
    Stands (operate_one cx at x e (unary_value at before.Not bool_tag x e)
    (chosen_for_one cx op.Not x.tag)))

-- `-`
unfoldable pub negate_rule : Around → At → Typed → Verdict Typed
negate_rule cx at x =
    after (cell at x) (λ e.
    Stands (operate_one cx at x e (unary_value at before.Negate x.tag x e)
    (chosen_for_one cx op.Neg x.tag)))

-- `~`, which no user defines
unfoldable pub invert_rule : At → Typed → Verdict Typed
invert_rule at x = after (cell at x) (λ e. Stands (unary_value at before.Invert x.tag x e))

-- parentheses are transparent
abbrev pub paren_rule : At → Typed → Typed
paren_rule at x = record x { at = at }

-- and so is a tag before an operand, but for the tag
abbrev pub tagged_rule : Around → At → List ℕ → Typed → Typed
tagged_rule cx at name x = record x { at = at; tag = tag_number cx name }
