-- The view of a node that holds a list, or a statement that may be absent, is made of the views of
-- what it holds.
use mathlib.Core.Former.{Count}
use Rattle.std.proofs.Common.{◌≡◌, ℕ, List, Option, Some, None, refl, ap, rules}
use Rattle.std.specs.declared.alloc.Global.{Global}
use Rattle.std.specs.declared.boxed.Box.{Box}
use Rattle.pawn_meaning.specs.Program as plain
use Rattle.pawn_meaning.specs.View.{expr_view, arg_view, args_row_view, args_view, links_row_view}
use Rattle.pawn_meaning.specs.View.{links_view, perhaps_view, else_view, stmt_view, stmts_row_view}
use Rattle.pawn_meaning.specs.View.{stmts_view, cases_row_view, cases_view}
use Rattle.pawn_meaning.specs.declared.node.Arg.{Arg}
use Rattle.pawn_meaning.specs.declared.node.Link.{Link}
use Rattle.pawn_meaning.specs.declared.node.Case.{Case}
use Rattle.pawn_meaning.specs.declared.node.Expr as held
use Rattle.pawn_meaning.specs.declared.node.Stmt as held_stmt

args-items : (n : Count) (row : held.Row_of-Arg n)
    → args_row_view row ≡ args_view (held.items-the_row-Arg n row)
args-items n held.end_of-Arg = refl
args-items n (held.more_of-Arg a row) =
    ap (λ args. plain.then_arg (arg_view a) args) (args-items _ row)

links-items : (n : Count) (row : held.Row_of-Link n)
    → links_row_view row ≡ links_view (held.items-the_row-Link n row)
links-items n held.end_of-Link = refl
links-items n (held.more_of-Link op e f swapped row) =
    ap (λ links. plain.then_link op (expr_view e) f swapped links) (links-items _ row)

pub expr_view-Native : (native : ℕ) (args : List Arg)
    → expr_view (held.Native native args) ≡ plain.Native native (args_view args)
expr_view-Native native args = search (rules, args-items, held.the_lemmas)

pub expr_view-Call : (f : ℕ) (args : List Arg)
    → expr_view (held.Call f args) ≡ plain.Call f (args_view args)
expr_view-Call f args = search (rules, args-items, held.the_lemmas)

pub expr_view-Chain : (e : Box held.Expr Global) (links : List Link)
    → expr_view (held.Chain e links) ≡ plain.Chain (expr_view e.value) (links_view links)
expr_view-Chain e links = search (rules, links-items, held.the_lemmas)

-- an expression that is a chain
pub seen_chain : (expr : held.Expr) (e : Box held.Expr Global) (links : List Link)
    → expr ≡ held.Chain e links → expr_view expr ≡ plain.Chain (expr_view e.value) (links_view links)
seen_chain expr e links is = rw is (expr_view-Chain e links)

stmts-items : (n : Count) (row : held_stmt.Row_of-Stmt n)
    → stmts_row_view row ≡ stmts_view (held_stmt.items-the_row-Stmt n row)
stmts-items n held_stmt.end_of-Stmt = refl
stmts-items n (held_stmt.more_of-Stmt s row) =
    ap (λ stmts. plain.then_stmt (stmt_view s) stmts) (stmts-items _ row)

cases-items : (n : Count) (row : held_stmt.Row_of-Case n)
    → cases_row_view row ≡ cases_view (held_stmt.items-the_row-Case n row)
cases-items n held_stmt.end_of-Case = refl
cases-items n (held_stmt.more_of-Case ranges s row) =
    ap (λ cases. plain.then_case ranges (stmt_view s) cases) (cases-items _ row)

pub stmt_view-Block : (stmts : List held_stmt.Stmt)
    → stmt_view (held_stmt.Block stmts) ≡ plain.Block (stmts_view stmts)
stmt_view-Block stmts = search (rules, stmts-items, held_stmt.the_lemmas)

pub stmt_view-If : (c : held.Expr) (a : Box held_stmt.Stmt Global)
    (b : Option (Box held_stmt.Stmt Global))
    → stmt_view (held_stmt.If c a b) ≡ plain.If (expr_view c) (stmt_view a.value) (else_view b)
stmt_view-If c a None = search (rules, held_stmt.the_lemmas)
stmt_view-If c a (Some b) = search (rules, held_stmt.the_lemmas)

pub stmt_view-For : (first : List held_stmt.Stmt) (c step : Option held.Expr)
    (s : Box held_stmt.Stmt Global)
    → stmt_view (held_stmt.For first c step s)
    ≡ plain.For (stmts_view first) (perhaps_view c) (perhaps_view step) (stmt_view s.value)
stmt_view-For first c step s = search (rules, stmts-items, held_stmt.the_lemmas)

pub stmt_view-Switch : (e : held.Expr) (cases : List Case) (d : Option (Box held_stmt.Stmt Global))
    → stmt_view (held_stmt.Switch e cases d)
    ≡ plain.Switch (expr_view e) (cases_view cases) (else_view d)
stmt_view-Switch e cases None = search (rules, cases-items, held_stmt.the_lemmas)
stmt_view-Switch e cases (Some d) = search (rules, cases-items, held_stmt.the_lemmas)
