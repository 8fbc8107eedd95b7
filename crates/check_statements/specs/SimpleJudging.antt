-- What the rules of statements say of values, and of what a `for` does first, by what code holds.
use Rattle.std.specs.Prelude.{Option}
use Rattle.pawn_tree.specs.declared.name.At.{At}
use Rattle.pawn_tree.specs.Expressions.{Expr}
use Rattle.pawn_tree.specs.Statements.{First}
use Rattle.names_rules.specs.Verdict.{Verdict}
use Rattle.types_rules.specs.Typed.{Typed}
use Rattle.types_rules.specs.Points.{Point}
use Rattle.types_rules.specs.Points as points
use Rattle.types_rules.specs.Stood.{Stood}
use Rattle.types_rules.specs.Statements as rules
use Rattle.types_rules.specs.Statements.{Used, Maybe}
use Rattle.types_rules.specs.VariableParts.{Judged}
use Rattle.check_nodes.specs.ContextView.{around_view}
use Rattle.check_source.specs.AutomataView.{automata_view}
use Rattle.check_statements.specs.declared.setting.Setting.{Setting}

module _ (it : Setting) where
  -- a part of a statement
  abbrev pub part_in : Point → Expr → Verdict Typed
  part_in = rules.part (around_view it.cx.now) (automata_view it.automata.now) it.result

  -- a part that may be absent
  abbrev pub maybe_part_in : Point → Option Expr → Verdict (Option Typed)
  maybe_part_in = rules.maybe_part (around_view it.cx.now) (automata_view it.automata.now) it.result

  -- a part that gives one cell
  abbrev pub value_in : Point → At → Expr → Verdict Used
  value_in = rules.value (around_view it.cx.now) (automata_view it.automata.now) it.result

  -- 0 where none stands
  abbrev pub value_or_zero_in : Point → At → Option Expr → Verdict Used
  value_or_zero_in =
      rules.value_or_zero (around_view it.cx.now) (automata_view it.automata.now) it.result

  -- a value that may be absent
  abbrev pub perhaps_in : Point → At → Option Expr → Verdict Maybe
  perhaps_in = rules.perhaps (around_view it.cx.now) (automata_view it.automata.now) it.result

  -- a value that is returned
  abbrev pub returned_in : Point → At → Option Expr → Verdict Stood
  returned_in = rules.returned (around_view it.cx.now) (automata_view it.automata.now) it.result

  -- the expressions in what a `for` does first
  abbrev pub first_part_in : Point → At → First → Verdict Judged
  first_part_in = rules.first_part (around_view it.cx.now) (automata_view it.automata.now) it.result

  -- what a `for` does first
  abbrev pub first_done_in : Point → At → First → Verdict Stood
  first_done_in = rules.first_done (around_view it.cx.now) (automata_view it.automata.now) it.result

  -- behind what a `for` does first
  abbrev pub behind_first_in : Point → At → First → Point
  behind_first_in = points.behind_first (around_view it.cx.now)
