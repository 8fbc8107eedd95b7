-- An expression that stands is valid where it stands: its value, its place or its array.
use Rattle.std.specs.Prelude.{◌≡◌, ℕ}
use Rattle.pawn_tree.specs.Expressions.{Expr}
use Rattle.pawn_meaning.specs.Program.{Object}
use Rattle.pawn_meaning.specs.Scope as program
use Rattle.pawn_meaning.specs.ValidExprs.{IsValidScalar, IsValidExpr}
use Rattle.names_rules.specs.Verdict.{Stands}
use Rattle.types_rules.specs.Typed.{Typed, Form, Value, Place, Whole, Literal, line}
use Rattle.types_rules.specs.Around.{Around}
use Rattle.types_rules.specs.Scope.{Scope}
use Rattle.types_rules.specs.Expressions.{expr}
use Rattle.types_laws.specs.Meant.{IsReached, KnowsPath}
use Rattle.types_laws.specs.Known.{KnowsAround}
use Rattle.types_laws.specs.Placed.{IsPlaced}

-- by what an expression is to its surroundings
abbrev pub IsValidForm : program.Scope → Form → Type 0
IsValidForm scope (Value e) = IsValidExpr scope e
IsValidForm scope (Place p constant) = IsValidScalar scope p
IsValidForm scope (Whole a reach constant) = IsReached scope a reach
IsValidForm scope (Literal object cells) = IsReached scope (Object object) (line cells)

-- each expression that fits a program
abbrev pub ExpressionsAreValid : Type 0
ExpressionsAreValid =
    (scope : program.Scope) (cx : Around) (path : Scope) (before : ℕ) (e : Expr) (x : Typed)
    → KnowsAround scope.program cx → KnowsPath scope path
    → IsPlaced scope.program cx path before e
    → expr cx path before e ≡ Stands x → IsValidForm scope x.form
