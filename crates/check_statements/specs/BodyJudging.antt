-- What the rules of statements say where a body is judged, by what code holds of that.
use Rattle.std.specs.Prelude.{ℕ, Bool, Option, List, length}
use Rattle.pawn_tree.specs.declared.name.At.{At}
use Rattle.pawn_tree.specs.Statements as tree
use Rattle.names_rules.specs.Verdict.{Verdict}
use Rattle.types_rules.specs.Typed.{Typed}
use Rattle.types_rules.specs.Points.{Point}
use Rattle.types_rules.specs.Points as points
use Rattle.types_rules.specs.Stood.{Stood}
use Rattle.types_rules.specs.Statements as rules
use Rattle.types_rules.specs.Statements.{Used, Maybe, Other, CasePart}
use Rattle.check_nodes.specs.ContextView.{around_view}
use Rattle.check_source.specs.AutomataView.{automata_view}
use Rattle.check_statements.specs.declared.setting.Setting.{Setting}

module _ (it : Setting) where
  -- one cell that a node wants
  abbrev pub use_in : At → Typed → Verdict Used
  use_in = rules.use_at (around_view it.cx.now) (automata_view it.automata.now) it.result

  -- one cell, where there is a part
  abbrev pub maybe_use_in : At → Option Typed → Verdict Maybe
  maybe_use_in = rules.maybe_use (around_view it.cx.now) (automata_view it.automata.now) it.result

  -- a `for` by its parts
  abbrev pub for_by_in : At → Stood → Option Typed → Option Typed → Stood → Verdict Stood
  for_by_in = rules.for_by (around_view it.cx.now) (automata_view it.automata.now) it.result

  -- a statement
  abbrev pub stmt_in : Point → Bool → tree.Stmt → Verdict Stood
  stmt_in = rules.stmt (around_view it.cx.now) (automata_view it.automata.now) it.result

  -- the statements of a block
  abbrev pub block_in : Point → Bool → tree.Stmts → Verdict Stood
  block_in = rules.block (around_view it.cx.now) (automata_view it.automata.now) it.result

  -- what stands behind `else` and `default`
  abbrev pub otherwise_in : Point → Bool → tree.MaybeStmt → Verdict Other
  otherwise_in = rules.otherwise (around_view it.cx.now) (automata_view it.automata.now) it.result

  -- the cases of a `switch`
  abbrev pub cases_in : Point → Bool → tree.Cases → Verdict (List CasePart)
  cases_in = rules.cases (around_view it.cx.now) (automata_view it.automata.now) it.result

  -- a case
  abbrev pub one_case_in : Point → Bool → tree.Case → Verdict CasePart
  one_case_in = rules.one_case (around_view it.cx.now) (automata_view it.automata.now) it.result

  -- behind a statement of a list
  abbrev pub behind_in : Point → tree.Stmt → Point
  behind_in = points.behind (around_view it.cx.now)

-- behind the statements of a block
abbrev pub behind_all : (Point → tree.Stmt → Point) → Point → tree.Stmts → Point
behind_all behind point tree.no_stmts = point
behind_all behind point (tree.then_stmt s more) = behind_all behind (behind point s) more

-- how many names a statement declares in its block
abbrev pub declares : tree.Stmt → ℕ
declares (tree.Local at it) = length it.vars
declares (tree.Constant at it) = 1
declares _ = 0

-- how many names a `for` declares first
abbrev pub declares_first : tree.First → ℕ
declares_first tree.Nothing = 0
declares_first (tree.New vars) = length vars
declares_first (tree.Value e) = 0
