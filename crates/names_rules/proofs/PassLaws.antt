-- A pass over parts, one by one; and the lists of each kind of node as such parts.
use Rattle.std.proofs.Common.{◌≡◌, ◌+◌, ◌<◌, ◌≤◌, ℕ, List, [], ◌∷◌, Option, Some, None, map, length}
use Rattle.std.proofs.Common.{drop, get_or, refl, ap, ◌∙◌, sym}
use Rattle.std.proofs.lemmas.List.{drop_all, drop_more}
use Rattle.pawn_tree.specs.Expressions.{Arg, Link, args, links}
use Rattle.pawn_tree.specs.Variables.{Init, inits}
use Rattle.pawn_tree.specs.Statements.{Stmt, Case, stmts, maybe_stmt, cases}
use Rattle.names_rules.specs.Mark.{Mark}
use Rattle.names_rules.specs.Lists.{all_marks, maybe_marks}
use Rattle.names_rules.specs.ExpressionMarks.{arg_marks, args_marks, link_marks, links_marks}
use Rattle.names_rules.specs.VariableMarks.{init_marks, inits_marks}
use Rattle.names_rules.specs.StatementMarks.{stmt_marks, stmts_marks, case_marks, cases_marks}
use Rattle.names_rules.specs.StatementMarks.{other_marks}
use Rattle.names_rules.specs.Passed.{Passed}

-- ---- one by one

module _ {H A : Type 0} {marks : A → List Mark → List Mark} {view : H → A} {parts : List H}
    {begin : List Mark} where
  pub pass_begins : Passed marks view parts begin 0 begin
  pass_begins = record { same = refl }

  pub pass_goes_on : {i : ℕ} {now : List Mark} (x : H) → Passed marks view parts begin i now
      → i < length parts
      → x ≡ get_or parts i x → Passed marks view parts begin (i + 1) (marks (view x) now)
  pass_goes_on {i} {now} x passed lt e = record {
    same = passed.same ∙ ap (λ rest. all_marks marks (map view rest) now) (drop_more parts i x lt)
        ∙ ap (λ y. all_marks marks (map view (drop (i + 1) parts)) (marks (view y) now)) (sym e);
  }

  pub pass_ends : {i : ℕ} {now : List Mark} → Passed marks view parts begin i now → length parts ≤ i
      → all_marks marks (map view parts) begin ≡ now
  pass_ends {i} {now} passed le =
      passed.same ∙ ap (λ rest. all_marks marks (map view rest) now) (drop_all i parts le)

-- ---- the lists of nodes

pub args_pass : (xs : List Arg) (before : List Mark)
    → args_marks (args xs) before ≡ all_marks arg_marks xs before
args_pass [] before = refl
args_pass (x ∷ xs) before = args_pass xs (arg_marks x before)

pub links_pass : (xs : List Link) (before : List Mark)
    → links_marks (links xs) before ≡ all_marks link_marks xs before
links_pass [] before = refl
links_pass (x ∷ xs) before = links_pass xs (link_marks x before)

pub inits_pass : (xs : List Init) (before : List Mark)
    → inits_marks (inits xs) before ≡ all_marks init_marks xs before
inits_pass [] before = refl
inits_pass (x ∷ xs) before = inits_pass xs (init_marks x before)

pub stmts_pass : (xs : List Stmt) (before : List Mark)
    → stmts_marks (stmts xs) before ≡ all_marks stmt_marks xs before
stmts_pass [] before = refl
stmts_pass (x ∷ xs) before = stmts_pass xs (stmt_marks x before)

pub cases_pass : (xs : List Case) (before : List Mark)
    → cases_marks (cases xs) before ≡ all_marks case_marks xs before
cases_pass [] before = refl
cases_pass (x ∷ xs) before = cases_pass xs (case_marks x before)

pub other_pass : (x : Option Stmt) (before : List Mark)
    → other_marks (maybe_stmt x) before ≡ maybe_marks stmt_marks x before
other_pass None before = refl
other_pass (Some s) before = refl
