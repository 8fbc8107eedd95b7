-- Defaults of parameters (Language Guide, "Functions", on default values): a constant, or `sizeof`
-- or `tagof` of a parameter before it, which is computed from that one's argument.
use Rattle.std.specs.Prelude.{ℕ, zero, suc, List, [], ◌++◌, Bool, true, false, Option, None, Some}
use Rattle.std.specs.Prelude.{option_map}
use Rattle.std.specs.Option.{option_and_then}
use Rattle.pawn_tree.specs.declared.name.At.{At}
use Rattle.pawn_tree.specs.declared.expression.SizeofOperand.{SizeofOperand}
use Rattle.pawn_tree.specs.declared.expression.SizeofOperand.TheVariants as sized
use Rattle.pawn_tree.specs.declared.expression.TagofOperand.{TagofOperand}
use Rattle.pawn_tree.specs.declared.expression.TagofOperand.TheVariants as tagged
use Rattle.pawn_tree.specs.Expressions.{Expr, Paren, Sizeof, Tagof}
use Rattle.pawn_meaning.specs.Program.{Scalar, Global, Own, Through, Element, Char, Array, Object}
use Rattle.pawn_meaning.specs.Program.{SlotArray, ParamArray, Row, From}
use Rattle.names_rules.specs.Verdict.{Verdict, Stands, after}
use Rattle.types_rules.specs.Typed.{Typed}
use Rattle.types_rules.specs.Around.{Around, Default, NoDefault, Always, SizeOf, TagOf}
use Rattle.types_rules.specs.Scope.{Scope, Meaning, Constant, Variable, Function, Native, Entering}
use Rattle.types_rules.specs.Scope.{Taken, Unknown, found}
use Rattle.types_rules.specs.Scope as means
use Rattle.types_rules.specs.Tests.{tested, converter_to}
use Rattle.types_rules.specs.Expressions.{expr}
use Rattle.types_rules.specs.Constants as constants

-- ---- which parameter a name means: in a head each slot is a parameter's

-- the parameter whose cell it is, or whose reference it goes through
abbrev pub param_of_place : Scalar → Option ℕ
param_of_place (Global o) = None
param_of_place (Own i) = Some i
param_of_place (Through i) = Some i
param_of_place (Element a e) = None
param_of_place (Char a e) = None

-- an array that a parameter refers to, and no part of one
abbrev pub param_of_array : Array → Option ℕ
param_of_array (Object o) = None
param_of_array (SlotArray s) = None
param_of_array (ParamArray i known) = Some i
param_of_array (Row a e) = None
param_of_array (From a e) = None

-- a cell or an array that is a parameter, by its number
abbrev pub param_meant : Meaning → Option ℕ
param_meant (Constant v tag) = None
param_meant (Variable p tag constant) = param_of_place p
param_meant (means.Array a extent tag constant) = param_of_array a
param_meant (Function f tag) = None
param_meant (Native n tag) = None
param_meant (Entering tag) = None
param_meant Taken = None
param_meant Unknown = None

-- ---- the default

-- `sizeof` of a parameter, without brackets
abbrev pub size_default : Scope → SizeofOperand → Option Default
size_default scope (sized.Name name zero) =
    option_map (λ i. SizeOf i) (option_and_then param_meant (found scope name.bytes))
size_default scope (sized.Name name (suc brackets)) = None
size_default scope (sized.Text text brackets) = None

-- `tagof` of a parameter; that of a tag is a constant
abbrev pub tag_default : Scope → TagofOperand → Option Default
tag_default scope (tagged.Name name) =
    option_map (λ i. TagOf i) (option_and_then param_meant (found scope name.bytes))
tag_default scope (tagged.Tag name) = None

-- `sizeof p` or `tagof p` and no more, but for parentheses
abbrev pub computed : Scope → Expr → Option Default
computed scope (Paren at e) = computed scope e
computed scope (Sizeof at operand) = size_default scope operand
computed scope (Tagof at operand) = tag_default scope operand
computed scope _ = None

-- a constant as a default
abbrev pub always : constants.Constant → Default
always it = Always it.value it.tag

-- the size or tag of another argument, else a constant
abbrev pub default_by : At → Typed → Option Default → Verdict Default
default_by at x None = after (constants.constant_rule at x) (λ it. Stands (always it))
default_by at x (Some it) = Stands it

-- a default, and what it warns of
pub record Defaulted : Type 0 where
  pub default : Default
  pub warned : List At

-- a default that a user operator converts isn't tested
abbrev pub unless_converted : Around → List ℕ → Typed → Option ℕ → List At
unless_converted cx tags x None = tested cx tags x.tag x.at
unless_converted cx tags x (Some f) = []

-- it is tested once, with the head. To a plain parameter a user operator may convert it, at each
-- call
abbrev pub default_tested : Around → Bool → List ℕ → Typed → List At
default_tested cx true tags x = tested cx tags x.tag x.at
default_tested cx false tags x = unless_converted cx tags x (converter_to cx tags x.tag)

-- what stands for a missing argument, tested against the parameter's tags
abbrev pub defaulted : Around → Bool → List ℕ → Typed → Default → Defaulted
defaulted cx reference tags x it =
    record { default = it; warned = default_tested cx reference tags x ++ x.warned }

-- the default of a parameter with these tags, which may have none
abbrev pub default_rule : Around → Scope → At → Bool → List ℕ → Option Expr → Verdict Defaulted
default_rule cx scope at reference tags None = Stands (record { default = NoDefault; warned = [] })
default_rule cx scope at reference tags (Some e) =
    after (expr cx scope 0 e) (λ x.
    after (default_by at x (computed scope e)) (λ it. Stands (defaulted cx reference tags x it)))
