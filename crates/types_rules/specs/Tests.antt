-- Where tags are tested, and where a user operator converts a value instead (Language Guide, "Tag
-- names", "User-defined operators"). A test that fails is a warning at the tested value.
use Rattle.std.specs.Prelude.{ℕ, List, [], ◌∷◌, Bool, true, false, ◌||◌, if◌then◌else◌, Option}
use Rattle.std.specs.Prelude.{None, Some, nat_eq}
use Rattle.std.specs.List.{list_any}
use Rattle.pawn_tree.specs.declared.name.At.{At}
use Rattle.pawn_tags.specs.Matching.{matches}
use Rattle.pawn_tags.specs.Overloads.{function_of}
use Rattle.pawn_tags.specs.declared.op.Op.TheVariants as op
use Rattle.pawn_meaning.specs.Program.{Expr, OperateOne}
use Rattle.types_rules.specs.Around.{Around, first_tag}

-- a warning where a test fails
abbrev pub unless_passed : Bool → At → List At
unless_passed true at = []
unless_passed false at = at ∷ []

-- a value of an actual tag, for one of the formal tags
abbrev pub tested : Around → List ℕ → ℕ → At → List At
tested cx formal actual at = unless_passed (matches cx.tags formal actual) at

-- two operands, or two choices: a match in either direction is enough
abbrev pub tested_either : Around → ℕ → ℕ → At → List At
tested_either cx left right at =
    unless_passed (matches cx.tags (left ∷ []) right || matches cx.tags (right ∷ []) left) at

-- the user operator that converts a value of one tag to another tag
abbrev pub converter : Around → ℕ → ℕ → Option ℕ
converter cx from to = if nat_eq from to then None else function_of cx.operators op.Assign from to

-- that for one of the formal tags: none where it has one of these, else that to the first of them
abbrev pub converter_to : Around → List ℕ → ℕ → Option ℕ
converter_to cx formal actual =
    if list_any (nat_eq actual) formal then None else converter cx actual (first_tag formal)

-- a value on its way to a target
pub record Sent : Type 0 where
  pub code : Expr
  pub warned : List At

-- a value by its conversion, else tested
abbrev pub sent_by : Around → List ℕ → ℕ → At → Expr → Option ℕ → Sent
sent_by cx formal actual at e None = record { code = e; warned = tested cx formal actual at }
sent_by cx formal actual at e (Some f) = record { code = OperateOne f e; warned = [] }

-- a value of an actual tag goes to a target of formal tags: it is converted, and then not tested
unfoldable pub sent : Around → List ℕ → ℕ → At → Expr → Sent
sent cx formal actual at e = sent_by cx formal actual at e (converter_to cx formal actual)
