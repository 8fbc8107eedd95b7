-- The first value of a variable of one cell (Language Guide, "Declarations").
use Rattle.std.specs.Prelude.{ℕ, pos, List, [], ◌∷◌, ◌++◌, Option, None, Some}
use Rattle.pawn_tree.specs.declared.name.At.{At}
use Rattle.pawn_tree.specs.Variables.{Init, Value, Braces}
use Rattle.pawn_meaning.specs.Program.{Expr, Const, StaticObject}
use Rattle.types_rules.specs.declared.fault.TheConstants.{NOT_AN_ARRAY}
use Rattle.names_rules.specs.Verdict.{Verdict, Stands, after}
use Rattle.types_rules.specs.Rule.{broken}
use Rattle.types_rules.specs.Typed.{Typed, cell}
use Rattle.types_rules.specs.Around.{Around}
use Rattle.types_rules.specs.Scope.{Scope}
use Rattle.types_rules.specs.Tests.{Sent, sent}
use Rattle.types_rules.specs.Expressions.{expr}
use Rattle.types_rules.specs.Constants.{constant_rule, constant_warned}
use Rattle.types_rules.specs.FirstValues.{First}

-- what a global or a static begins with: one cell, and a constant, which no user operator converts
abbrev pub static_rule : Around → At → ℕ → Typed → Verdict First
static_rule cx at tag x =
    after (cell at x) (λ e.
    after (constant_rule at x) (λ it.
    Stands (record { cells = it.value ∷ []; warned = constant_warned cx tag it })))

-- that of a variable that keeps its value between calls: a constant, 0 where none is given
abbrev pub static_value : Around → Scope → At → ℕ → Option Init → Verdict First
static_value cx scope at tag None = Stands (record { cells = pos 0 ∷ []; warned = [] })
static_value cx scope at tag (Some (Value e)) = after (expr cx scope 0 e) (static_rule cx at tag)
static_value cx scope at tag (Some (Braces braces xs goes_on)) = broken NOT_AN_ARRAY at

-- what a local variable begins with: any value, which goes to it as to any target
pub record LocalValue : Type 0 where
  pub code : Expr
  pub literals : List StaticObject
  pub warned : List At

-- a first value on its way to its variable
abbrev pub sent_value : Typed → Sent → LocalValue
sent_value x it = record { code = it.code; literals = x.literals; warned = it.warned ++ x.warned }

-- one cell, sent to a variable of this tag
abbrev pub local_rule : Around → At → ℕ → Typed → Verdict LocalValue
local_rule cx at tag x =
    after (cell at x) (λ e. Stands (sent_value x (sent cx (tag ∷ []) x.tag x.at e)))

-- behind so many objects
abbrev pub local_value : Around → Scope → ℕ → At → ℕ → Option Init → Verdict LocalValue
local_value cx scope before at tag None =
    Stands (record { code = Const (pos 0); literals = []; warned = [] })
local_value cx scope before at tag (Some (Value e)) =
    after (expr cx scope before e) (local_rule cx at tag)
local_value cx scope before at tag (Some (Braces braces xs goes_on)) = broken NOT_AN_ARRAY at
