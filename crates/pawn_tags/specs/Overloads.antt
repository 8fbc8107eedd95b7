-- User operators (Language Guide, "User-defined operators"): which function stands for an
-- operator between operands of two tags.
use Rattle.std.specs.Prelude.{ℕ, List, [], ◌∷◌, ◌++◌, Bool, true, false, if◌then◌else◌, Option}
use Rattle.std.specs.Prelude.{None, is_some, option_map, nat_eq, ◌&&◌}
use Rattle.std.specs.Option.{option_or}
use Rattle.std.specs.Map.{lookup}
use Rattle.pawn_tags.specs.contracts.op.OpPartialEq.TheImpl as equality
use Rattle.pawn_tags.specs.declared.op.Op.{Op}
use Rattle.pawn_tags.specs.declared.op.Op.TheVariants as op
use Rattle.pawn_tags.specs.declared.op.Signature.{Signature}
use Rattle.pawn_tags.specs.declared.operators.Choice.{Choice}

-- the operators that are defined, each with the number of its function
abbrev pub Overloads : Type 0
Overloads = List (Signature × ℕ)

-- whether an operator is the one for these operands
abbrev pub is_for : Op → ℕ → ℕ → Signature → Bool
is_for op left right signature =
    equality.ghosts.eq op signature.op
    && (nat_eq left signature.left && nat_eq right signature.right)

-- the function of the first operator that is defined for exactly these operands
abbrev pub function_of : Overloads → Op → ℕ → ℕ → Option ℕ
function_of defined op left right = lookup (is_for op left right) defined

-- an operator is defined once, and goes last
abbrev pub with_overload : Overloads → Op → ℕ → ℕ → ℕ → Overloads
with_overload defined op left right function =
    if is_some (function_of defined op left right) then defined
    else defined ++ (record { op = op; left = left; right = right }, function) ∷ []

-- the operators that give the same with their operands exchanged
abbrev pub commutes : Op → Bool
commutes op.Add = true
commutes op.Sub = false
commutes op.Mul = true
commutes op.Div = false
commutes op.Rem = false
commutes op.Inc = false
commutes op.Dec = false
commutes op.Eq = true
commutes op.Neq = true
commutes op.Less = false
commutes op.Greater = false
commutes op.LessEq = false
commutes op.GreaterEq = false
commutes op.Not = false
commutes op.Neg = false
commutes op.Assign = false

-- the one that is defined for exactly these tags
abbrev pub exact : Overloads → Op → ℕ → ℕ → Option Choice
exact defined op left right =
    option_map (λ function. record { function = function; swapped = false })
    (function_of defined op left right)

-- the one that is defined for these tags exchanged
abbrev pub exchanged : Overloads → Op → ℕ → ℕ → Option Choice
exchanged defined op left right =
    option_map (λ function. record { function = function; swapped = true })
    (function_of defined op right left)

-- the exact one goes first, the exchanged one of a commuting operator next; with neither it is the
-- built-in operator
abbrev pub choice : Overloads → Op → ℕ → ℕ → Option Choice
choice defined op left right =
    option_or (exact defined op left right)
    (if commutes op then exchanged defined op left right else None)
