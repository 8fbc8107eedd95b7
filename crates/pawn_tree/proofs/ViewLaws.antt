-- The view of a node that holds a list is made of the list's views.
use mathlib.Core.Former.{Count}
use Rattle.std.proofs.Common.{◌≡◌, ℕ, Bool, List, map, Option, Some, None, option_map, refl, ap}
use Rattle.std.proofs.Common.{rules}
use Rattle.std.specs.declared.boxed.Box.{Box}
use Rattle.std.specs.declared.alloc.Global.{Global}
use Rattle.pawn_tree.specs.declared.name.At.{At}
use Rattle.pawn_tree.specs.Expressions.{args, links}
use Rattle.pawn_tree.specs.Expressions as plain
use Rattle.pawn_tree.specs.Variables.{inits}
use Rattle.pawn_tree.specs.Variables as var
use Rattle.pawn_tree.specs.Statements.{stmts, maybe_stmt, cases}
use Rattle.pawn_tree.specs.Statements as stmt
use Rattle.pawn_tree.specs.View.{expr_view, arg_view, args_row_view, link_view, links_row_view}
use Rattle.pawn_tree.specs.View.{init_view, inits_row_view, stmt_view, stmts_row_view, case_view}
use Rattle.pawn_tree.specs.View.{cases_row_view}
use Rattle.pawn_tree.specs.declared.expression.Expr as held
use Rattle.pawn_tree.specs.declared.expression.Arg.{Arg}
use Rattle.pawn_tree.specs.declared.expression.Link as held_link
use Rattle.pawn_tree.specs.declared.variable.Init as held_init
use Rattle.pawn_tree.specs.declared.statement.Stmt as held_stmt
use Rattle.pawn_tree.specs.declared.statement.Case as held_case

arg-items : (n : Count) (row : held.Row_of-Arg n)
    → args_row_view row ≡ args (map arg_view (held.items-the_row-Arg n row))
arg-items n held.end_of-Arg = refl
arg-items n (held.more_of-Arg x row) = ap (λ xs. plain.then_arg (arg_view x) xs) (arg-items _ row)

pub call_view : (at : At) (name : List ℕ) (xs : List Arg) (bare : Bool)
    → expr_view (held.Call at name xs bare) ≡ plain.Call at name (args (map arg_view xs)) bare
call_view at name xs bare = search (rules, arg-items, held.the_lemmas)

link-items : (n : Count) (row : held.Row_of-Link n)
    → links_row_view row ≡ links (map link_view (held.items-the_row-Link n row))
link-items n held.end_of-Link = refl
link-items n (held.more_of-Link x row) =
    ap (λ xs. plain.then_link (link_view x) xs) (link-items _ row)

pub chain_view : (at : At) (x : Box held.Expr Global) (xs : List held_link.Link)
    → expr_view (held.Chain at x xs) ≡ plain.Chain at (expr_view x.value) (links (map link_view xs))
chain_view at x xs = search (rules, link-items, held.the_lemmas)

init-items : (n : Count) (row : held_init.Row_of-Init n)
    → inits_row_view row ≡ inits (map init_view (held_init.items-the_row-Init n row))
init-items n held_init.end_of-Init = refl
init-items n (held_init.more_of-Init x row) =
    ap (λ xs. var.then_init (init_view x) xs) (init-items _ row)

pub braces_view : (at : At) (xs : List held_init.Init) (rest : Bool)
    → init_view (held_init.Braces at xs rest) ≡ var.Braces at (inits (map init_view xs)) rest
braces_view at xs rest = search (rules, init-items, held_init.the_lemmas)

stmt-items : (n : Count) (row : held_stmt.Row_of-Stmt n)
    → stmts_row_view row ≡ stmts (map stmt_view (held_stmt.items-the_row-Stmt n row))
stmt-items n held_stmt.end_of-Stmt = refl
stmt-items n (held_stmt.more_of-Stmt s row) =
    ap (λ ss. stmt.then_stmt (stmt_view s) ss) (stmt-items _ row)

pub block_view : (at : At) (ss : List held_stmt.Stmt)
    → stmt_view (held_stmt.Block at ss) ≡ stmt.Block at (stmts (map stmt_view ss))
block_view at ss = search (rules, stmt-items, held_stmt.the_lemmas)

pub if_view : (at : At) (x : held.Expr) (s : Box held_stmt.Stmt Global)
    (other : Option (Box held_stmt.Stmt Global))
    → stmt_view (held_stmt.If at x s other)
    ≡ stmt.If at (expr_view x) (stmt_view s.value)
    (maybe_stmt (option_map (λ b. stmt_view b.value) other))
if_view at x s None = search (rules, held_stmt.the_lemmas)
if_view at x s (Some b) = search (rules, held_stmt.the_lemmas)

case-items : (n : Count) (row : held_stmt.Row_of-Case n)
    → cases_row_view row ≡ cases (map case_view (held_stmt.items-the_row-Case n row))
case-items n held_stmt.end_of-Case = refl
case-items n (held_stmt.more_of-Case x row) =
    ap (λ xs. stmt.then_case (case_view x) xs) (case-items _ row)

pub switch_view : (at : At) (x : held.Expr) (xs : List held_case.Case)
    (other : Option (Box held_stmt.Stmt Global))
    → stmt_view (held_stmt.Switch at x xs other)
    ≡ stmt.Switch at (expr_view x) (cases (map case_view xs))
    (maybe_stmt (option_map (λ b. stmt_view b.value) other))
switch_view at x xs None = search (rules, case-items, held_stmt.the_lemmas)
switch_view at x xs (Some b) = search (rules, case-items, held_stmt.the_lemmas)
