-- `? :` (Language Guide, "Miscellaneous operators"): its two choices are tested against each
-- other, and it has the tag of the first one.
use Rattle.std.specs.Prelude.{ℤ, ◌++◌, if◌then◌else◌, Option, None, Some}
use Rattle.pawn_cells.specs.Operators.{is_true}
use Rattle.pawn_tree.specs.declared.name.At.{At}
use Rattle.pawn_meaning.specs.Program.{Cond}
use Rattle.names_rules.specs.Verdict.{Verdict, Stands, both}
use Rattle.types_rules.specs.Rule.{pair}
use Rattle.types_rules.specs.Typed.{Typed, Value, cell}
use Rattle.types_rules.specs.Around.{Around}
use Rattle.types_rules.specs.Tests.{tested_either}

-- it is constant where its three parts are, needed or not
abbrev pub value_of_choice : Option ℤ → Option ℤ → Option ℤ → Option ℤ
value_of_choice None a b = None
value_of_choice (Some c) None b = None
value_of_choice (Some c) (Some a) None = None
value_of_choice (Some c) (Some a) (Some b) = Some (if is_true c then a else b)

-- a condition and two choices, one cell each
unfoldable pub choice_rule : Around → At → Typed → Typed → Typed → Verdict Typed
choice_rule cx at x y z =
    both (cell at x) (pair (cell at y) (cell at z)) (λ c parts. Stands (record {
      at = at;
      form = Value (Cond c parts.0 parts.1);
      tag = y.tag;
      value = value_of_choice x.value y.value z.value;
      literals = x.literals ++ (y.literals ++ z.literals);
      warned = x.warned ++ (y.warned ++ (tested_either cx y.tag z.tag z.at ++ z.warned));
    }))
