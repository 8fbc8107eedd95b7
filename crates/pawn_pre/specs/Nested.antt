-- Conditions as they are evaluated: a chain is nested to the left like all operators, and what a
-- comparison comes to is kept with what its next link takes up. No promise rests on this.
use Rattle.std.specs.Prelude.{◌≤◌, ℕ, ◌-◌, ℤ, Bool, true, false, ◌&&◌, Option, Some, None, List, []}
use Rattle.std.specs.Prelude.{◌∷◌, ◌++◌}
use Rattle.pawn_cells.specs.declared.operator.Comparison.{Comparison}
use Rattle.pawn_cells.specs.declared.operator.Operator.TheVariants as between
use Rattle.pawn_cells.specs.declared.operator.Prefix.{Prefix}
use Rattle.pawn_cells.specs.declared.operator.Prefix.TheVariants as before
use Rattle.pawn_cells.specs.Cells.{truth}
use Rattle.pawn_cells.specs.Operators.{compare, prefix, binary, logical, logical_level}
use Rattle.pawn_cells.specs.Operators as operators
use Rattle.pawn_pre.specs.declared.part.Infix.{Infix}
use Rattle.pawn_pre.specs.declared.part.Infix.TheVariants.{Cells, Compare, Logic}
use Rattle.pawn_pre.specs.declared.part.Part.{Part}
use Rattle.pawn_pre.specs.declared.part.Part.TheVariants as part
use Rattle.pawn_pre.specs.declared.reading.Reading.{Reading}
use Rattle.pawn_pre.specs.Expression.{on_one, on_two, chosen}

-- a condition as a tree of operators on one and on two operands
pub data Nested : Type 0 where
  Number : ℤ → Nested
  Group : Nested → Nested
  Before : Prefix → Nested → Nested
  Two : Infix → Nested → Nested → Nested
  Choice : Nested → Nested → Nested → Nested

-- how tightly an operator binds
abbrev pub level : Infix → ℕ
level (Cells op) = operators.level op
level (Compare c) = 9
level (Logic op) = logical_level op

-- the part that an operator before an operand is
abbrev pub prefix_part : Prefix → Part
prefix_part before.Not = part.Not
prefix_part before.Invert = part.Invert
prefix_part before.Negate = part.Two (Cells between.Subtract)

-- the parts of a tree
unfoldable pub parts : Nested → List Part
parts (Number v) = part.Value v ∷ []
parts (Group e) = part.Open ∷ (parts e ++ part.Close ∷ [])
parts (Before op a) = prefix_part op ∷ parts a
parts (Two op a b) = parts a ++ (part.Two op ∷ parts b)
parts (Choice c a b) = parts c ++ (part.Question ∷ (parts a ++ (part.Colon ∷ parts b)))

-- a tree up to a level
unfoldable pub Nests : ℕ → Nested → Type 0
Nests k (Number v) = Unit {0}
Nests k (Group e) = Nests 13 e
Nests k (Before op a) = (2 ≤ k) × Nests 2 a
Nests k (Two op a b) = (level op ≤ k) × Nests (level op) a × Nests (level op - 1) b
Nests k (Choice c a b) = (13 ≤ k) × Nests 12 c × Nests 13 a × Nests 13 b

-- ---- readings

-- a value that no comparison is open for
abbrev pub plain : Option ℤ → Reading
plain value = record { value = value; last = value; holds = true }

-- an operand in parentheses: no comparison is open behind them
abbrev pub grouped : Reading → Reading
grouped r = plain r.value

-- an operator before an operand, on its value
abbrev pub before_value : Prefix → Reading → Reading
before_value op r = plain (on_one (prefix op) r.value)

-- the second operand or the third, by the first
abbrev pub choice : Reading → Reading → Reading → Reading
choice c a b = plain (chosen c.value a.value b.value)

-- whether a comparison of what there is holds
abbrev pub holds_of : Comparison → Option ℤ → Option ℤ → Bool
holds_of c None b = false
holds_of c (Some x) None = false
holds_of c (Some x) (Some y) = compare c x y

-- a comparison behind others holds where they hold too
abbrev pub all_hold : Comparison → Reading → Reading → Bool
all_hold c a b = a.holds && holds_of c a.last b.value

-- a comparison: 1 where it and those before it hold, else 0; the next link takes up its right side
abbrev pub compared : Comparison → Reading → Reading → Reading
compared c a b = record {
  value = on_two (λ x y. Some (truth (all_hold c a b))) a.value b.value;
  last = b.value;
  holds = all_hold c a b;
}

-- an operator between two operands, on their values
unfoldable pub applied : Infix → Reading → Reading → Reading
applied (Cells op) a b = plain (on_two (binary op) a.value b.value)
applied (Compare c) a b = compared c a b
applied (Logic op) a b = plain (on_two (λ x y. Some (logical op x y)) a.value b.value)

-- what a tree comes to
unfoldable pub reading : Nested → Reading
reading (Number v) = plain (Some v)
reading (Group e) = grouped (reading e)
reading (Before op a) = before_value op (reading a)
reading (Two op a b) = applied op (reading a) (reading b)
reading (Choice c a b) = choice (reading c) (reading a) (reading b)
