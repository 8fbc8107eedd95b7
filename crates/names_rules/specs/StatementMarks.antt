-- The marks of a statement. A block in braces is a block, and so is a `for` with what it declares
-- (Language Guide, "Statements").
use Rattle.std.specs.Prelude.{Bool, false, List, ◌∷◌}
use Rattle.pawn_cells.specs.declared.place.Place.{Place}
use Rattle.pawn_tree.specs.declared.name.At.{At}
use Rattle.pawn_tree.specs.Statements.{ConstantOf, First, Nothing, New, Value, Range, Stmt, Stmts}
use Rattle.pawn_tree.specs.Statements.{MaybeStmt, Case, Cases, Empty, Do, Block, If, While, DoWhile}
use Rattle.pawn_tree.specs.Statements.{For, Switch, Return, Exit, Sleep, Assert, Break, Continue}
use Rattle.pawn_tree.specs.Statements.{State, Local, Constant, Values, no_stmts, then_stmt, no_stmt}
use Rattle.pawn_tree.specs.Statements.{one_stmt, no_cases, then_case}
use Rattle.names_rules.specs.Mark as mark
use Rattle.names_rules.specs.Mark.{Mark, Opens, Closes, Declares}
use Rattle.names_rules.specs.Lists.{all_marks, maybe_marks}
use Rattle.names_rules.specs.ExpressionMarks.{expr_marks}
use Rattle.names_rules.specs.VariableMarks.{tag_marks, var_marks}

-- a constant of a node at a place
abbrev pub constant_marks : Place → Bool → ConstantOf → List Mark → List Mark
constant_marks place outside x before =
    Declares (record {
      name = x.name;
      place = place;
      tag = x.tag;
      outside = outside;
      sort = mark.Constant x.value;
    })
    ∷ expr_marks x.value (maybe_marks tag_marks x.tag before)

-- of an expression, or of variables known in the `for` alone
abbrev pub first_marks : At → First → List Mark → List Mark
first_marks at Nothing before = before
first_marks at (New vars) before = all_marks (var_marks at.place false) vars before
first_marks at (Value x) before = expr_marks x before

-- of a value or range of a case
abbrev pub range_marks : Range → List Mark → List Mark
range_marks x before = maybe_marks expr_marks x.last (expr_marks x.first before)

abbrev mutual
  -- of all parts in order, between the ends of a block where it is one
  pub stmt_marks : Stmt → List Mark → List Mark
  stmt_marks (Empty at) before = before
  stmt_marks (Do at x) before = expr_marks x before
  stmt_marks (Block at xs) before = Closes ∷ stmts_marks xs (Opens ∷ before)
  stmt_marks (If at x s other) before = other_marks other (stmt_marks s (expr_marks x before))
  stmt_marks (While at x s) before = stmt_marks s (expr_marks x before)
  stmt_marks (DoWhile at s x) before = expr_marks x (stmt_marks s before)
  stmt_marks (For at first test step s) before =
      Closes ∷ stmt_marks s (maybe_marks expr_marks step (maybe_marks expr_marks test
      (first_marks at first (Opens ∷ before))))
  stmt_marks (Switch at x cases other) before =
      other_marks other (cases_marks cases (expr_marks x before))
  stmt_marks (Return at x) before = maybe_marks expr_marks x before
  stmt_marks (Exit at x) before = maybe_marks expr_marks x before
  stmt_marks (Sleep at x) before = maybe_marks expr_marks x before
  stmt_marks (Assert at x) before = expr_marks x before
  stmt_marks (Break at) before = before
  stmt_marks (Continue at) before = before
  stmt_marks (State at x name) before = maybe_marks expr_marks x before
  stmt_marks (Local at x) before = all_marks (var_marks at.place false) x.vars before
  stmt_marks (Constant at x) before = constant_marks at.place false x before

  -- one behind another
  pub stmts_marks : Stmts → List Mark → List Mark
  stmts_marks no_stmts before = before
  stmts_marks (then_stmt s ss) before = stmts_marks ss (stmt_marks s before)

  -- of a case: its values, then its statement
  pub case_marks : Case → List Mark → List Mark
  case_marks (Values at ranges s) before = stmt_marks s (all_marks range_marks ranges before)

  -- one behind another
  pub cases_marks : Cases → List Mark → List Mark
  cases_marks no_cases before = before
  cases_marks (then_case x xs) before = cases_marks xs (case_marks x before)

  -- of what stands behind `else` or `default`
  pub other_marks : MaybeStmt → List Mark → List Mark
  other_marks no_stmt before = before
  other_marks (one_stmt s) before = stmt_marks s before
