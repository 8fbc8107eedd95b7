-- Constant expressions where a declaration or a case wants one (Language Guide, "Constants").
use Rattle.std.specs.Prelude.{ℕ, ℤ, List, [], ◌∷◌, ◌++◌, Option, None, Some}
use Rattle.pawn_tree.specs.declared.name.At.{At}
use Rattle.pawn_tree.specs.Expressions.{Expr}
use Rattle.types_rules.specs.declared.fault.TheConstants.{CONSTANT_NEEDED}
use Rattle.names_rules.specs.Verdict.{Verdict, Stands, after}
use Rattle.types_rules.specs.Rule.{broken}
use Rattle.types_rules.specs.Typed.{Typed}
use Rattle.types_rules.specs.Around.{Around}
use Rattle.types_rules.specs.Scope.{Scope}
use Rattle.types_rules.specs.Tests.{tested}
use Rattle.types_rules.specs.Expressions.{expr}

-- a constant: its first token, value and tag, and what it warns of
pub record Constant : Type 0 where
  pub at : At
  pub value : ℤ
  pub tag : ℕ
  pub warned : List At

-- a constant expression has a value
abbrev pub constant_by : At → Typed → Option ℤ → Verdict Constant
constant_by at x None = broken CONSTANT_NEEDED at
constant_by at x (Some v) = Stands (record { at = x.at; value = v; tag = x.tag; warned = x.warned })

-- an expression with a value that is known; the node that wants it begins at a token
unfoldable pub constant_rule : At → Typed → Verdict Constant
constant_rule at x = constant_by at x x.value

-- no literal stands in a constant expression, so none is counted before it
abbrev pub constant : Around → Scope → At → Expr → Verdict Constant
constant cx scope at e = after (expr cx scope 0 e) (constant_rule at)

-- what a constant warns of where it goes to a target with a tag, to which no user operator
-- converts it
abbrev pub constant_warned : Around → ℕ → Constant → List At
constant_warned cx tag it = tested cx (tag ∷ []) it.tag it.at ++ it.warned
