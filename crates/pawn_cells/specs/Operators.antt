-- The operators on cells: how tightly each binds, and what it gives (Language Guide, "Operators and
-- expressions", "Operator precedence"). The lower a level, the tighter; 2 is that of the operators
-- before an operand, 13 that of `? :` and 14 that of assignments.
use Rattle.std.specs.Prelude.{ℕ, ℤ, Bool, true, not, ◌&&◌, ◌||◌, Option, Some, None, List, [], ◌∷◌}
use Rattle.std.specs.Prelude.{if◌then◌else◌}
use Rattle.pawn_cells.specs.declared.cell.Cell.{Cell}
use Rattle.pawn_cells.specs.declared.operator.Prefix.{Prefix}
use Rattle.pawn_cells.specs.declared.operator.Prefix.TheVariants as before
use Rattle.pawn_cells.specs.declared.operator.Operator.{Operator}
use Rattle.pawn_cells.specs.declared.operator.Operator.TheVariants as between
use Rattle.pawn_cells.specs.declared.operator.Comparison.{Comparison}
use Rattle.pawn_cells.specs.declared.operator.Comparison.TheVariants as comparison
use Rattle.pawn_cells.specs.declared.operator.Logical.{Logical}
use Rattle.pawn_cells.specs.declared.operator.Logical.TheVariants as logic
use Rattle.pawn_cells.specs.Cells as cells

-- the cell isn't 0
abbrev pub is_true : ℤ → Bool
is_true a = not (cells.is_zero a)

-- an optional cell as an optional number
abbrev pub cell_in : Option Cell → Option ℤ
cell_in None = None
cell_in (Some cell) = Some cell.0

-- what an operator before its operand gives
abbrev pub prefix : Prefix → ℤ → ℤ
prefix before.Not a = cells.not a
prefix before.Invert a = cells.invert a
prefix before.Negate a = cells.neg a

-- how tightly an operator between two operands binds
abbrev pub level : Operator → ℕ
level between.Multiply = 3
level between.Divide = 3
level between.Remainder = 3
level between.Add = 4
level between.Subtract = 4
level between.ShiftLeft = 5
level between.ShiftRight = 5
level between.ShiftUnsigned = 5
level between.And = 6
level between.Xor = 7
level between.Or = 8
level between.Equal = 10
level between.NotEqual = 10

-- nothing where a divisor is zero
abbrev pub unless_zero : ℤ → ℤ → Option ℤ
unless_zero divisor value = if cells.is_zero divisor then None else Some value

-- what an operator between two operands gives: nothing exactly where it divides by zero
unfoldable pub binary : Operator → ℤ → ℤ → Option ℤ
binary between.Multiply a b = Some (cells.mul a b)
binary between.Divide a b = unless_zero b (cells.floor_div a b)
binary between.Remainder a b = unless_zero b (cells.floor_rem a b)
binary between.Add a b = Some (cells.add a b)
binary between.Subtract a b = Some (cells.sub a b)
binary between.ShiftLeft a b = Some (cells.shl a b)
binary between.ShiftRight a b = Some (cells.shr a b)
binary between.ShiftUnsigned a b = Some (cells.ushr a b)
binary between.And a b = Some (cells.and a b)
binary between.Xor a b = Some (cells.xor a b)
binary between.Or a b = Some (cells.or a b)
binary between.Equal a b = Some (cells.truth (cells.equal a b))
binary between.NotEqual a b = Some (cells.truth (not (cells.equal a b)))

-- whether a comparison holds
abbrev pub compare : Comparison → ℤ → ℤ → Bool
compare comparison.Less a b = cells.less a b
compare comparison.LessEqual a b = cells.less_eq a b
compare comparison.Greater a b = cells.less b a
compare comparison.GreaterEqual a b = cells.less_eq b a

-- a chain of comparisons from its first operand on: each link compares the operand before it with
-- its own, and all have to hold
unfoldable pub chain_holds : ℤ → List (Comparison × ℤ) → Bool
chain_holds first [] = true
chain_holds first (link ∷ links) = compare link.0 first link.1 && chain_holds link.1 links

-- its value
abbrev pub chain : ℤ → List (Comparison × ℤ) → ℤ
chain first links = cells.truth (chain_holds first links)

-- how tightly a logical operator binds
abbrev pub logical_level : Logical → ℕ
logical_level logic.And = 11
logical_level logic.Or = 12

-- what it gives for the values of both operands
abbrev pub logical : Logical → ℤ → ℤ → ℤ
logical logic.And a b = cells.truth (is_true a && is_true b)
logical logic.Or a b = cells.truth (is_true a || is_true b)
