-- The weights of statements, by the lists that they hold, and those of tables.
use Rattle.std.proofs.Common.{◌≡◌, ℕ, ◌+◌, Bool, List, [], ◌∷◌, map, Option, Some, None, refl, ap}
use Rattle.std.proofs.Common.{◌∙◌, arith}
use Rattle.std.specs.List.{sum_by}
use Rattle.std.proofs.lemmas.List.Sums.{sum_by-cons}
use Rattle.std.specs.declared.boxed.Box.{Box}
use Rattle.std.specs.declared.alloc.Global.{Global}
use Rattle.pawn_meaning.specs.Program.{Body, Function}
use Rattle.pawn_meaning.specs.declared.node.Case.{Case}
use Rattle.pawn_meaning.specs.declared.node.Expr as held_expr
use Rattle.pawn_meaning.specs.declared.node.Stmt as held
use Rattle.pawn_meaning.specs.declared.program.Body as held_body
use Rattle.pawn_meaning.specs.declared.program.Function as held_function
use Rattle.pawn_meaning.specs.View.{expr_view, perhaps_view, stmt_view, stmts_view, cases_view}
use Rattle.pawn_meaning.specs.View.{else_view, body_view, function_view}
use Rattle.pawn_meaning.proofs.ViewLaws.{stmt_view-Block, stmt_view-If, stmt_view-For}
use Rattle.pawn_meaning.proofs.ViewLaws.{stmt_view-Switch}
use Rattle.pawn_meaning.specs.Weight.{expr_weight, perhaps_weight, stmt_weight, stmts_weight}
use Rattle.pawn_meaning.specs.Weight.{cases_weight, else_weight, ranges_weight, function_weight}
use Rattle.pawn_meaning.specs.Weight.{alone_in}

stmts_sum : (lean : Bool) (xs : List held.Stmt)
    → stmts_weight (alone_in lean) (stmts_view xs)
    ≡ sum_by (λ stmt. stmt_weight (alone_in lean) (stmt_view stmt)) xs
stmts_sum lean [] = refl
stmts_sum lean (x ∷ xs) =
    omega (
      arith,
      stmts_sum lean xs,
      sum_by-cons (λ (stmt : held.Stmt). stmt_weight (alone_in lean) (stmt_view stmt)) x xs,
    )

cases_sum : (lean : Bool) (xs : List Case)
    → cases_weight (alone_in lean) (cases_view xs)
    ≡ sum_by (λ case. ranges_weight case.ranges
    + stmt_weight (alone_in lean) (stmt_view case.stmt)) xs
cases_sum lean [] = refl
cases_sum lean (x ∷ xs) =
    omega (
      arith,
      cases_sum lean xs,
      sum_by-cons (λ (case : Case). ranges_weight case.ranges
          + stmt_weight (alone_in lean) (stmt_view case.stmt)) x xs,
    )

pub block_weight : (lean : Bool) (xs : List held.Stmt)
    → stmt_weight (alone_in lean) (stmt_view (held.Block xs))
    ≡ 40 + sum_by (λ stmt. stmt_weight (alone_in lean) (stmt_view stmt)) xs
block_weight lean xs =
    ap (stmt_weight (alone_in lean)) (stmt_view-Block xs) ∙ omega (arith, stmts_sum lean xs)

pub if_weight : (lean : Bool) (c : held_expr.Expr) (a : Box held.Stmt Global)
    (b : Option (Box held.Stmt Global))
    → stmt_weight (alone_in lean) (stmt_view (held.If c a b))
    ≡ 40 + (expr_weight (alone_in lean) (expr_view c)
    + (stmt_weight (alone_in lean) (stmt_view a.value)
    + else_weight (alone_in lean) (else_view b)))
if_weight lean c a b = ap (stmt_weight (alone_in lean)) (stmt_view-If c a b)

pub for_weight : (lean : Bool) (first : List held.Stmt) (c step : Option held_expr.Expr)
    (s : Box held.Stmt Global)
    → stmt_weight (alone_in lean) (stmt_view (held.For first c step s))
    ≡ 40 + (sum_by (λ stmt. stmt_weight (alone_in lean) (stmt_view stmt)) first
    + (perhaps_weight (alone_in lean) (perhaps_view c)
    + (perhaps_weight (alone_in lean) (perhaps_view step)
    + stmt_weight (alone_in lean) (stmt_view s.value))))
for_weight lean first c step s =
    ap (stmt_weight (alone_in lean)) (stmt_view-For first c step s)
    ∙ omega (arith, stmts_sum lean first)

pub switch_weight : (lean : Bool) (e : held_expr.Expr) (cases : List Case)
    (d : Option (Box held.Stmt Global))
    → stmt_weight (alone_in lean) (stmt_view (held.Switch e cases d))
    ≡ 40 + (expr_weight (alone_in lean) (expr_view e)
    + (sum_by (λ case. ranges_weight case.ranges
    + stmt_weight (alone_in lean) (stmt_view case.stmt)) cases
    + else_weight (alone_in lean) (else_view d)))
switch_weight lean e cases d =
    ap (stmt_weight (alone_in lean)) (stmt_view-Switch e cases d)
    ∙ omega (arith, cases_sum lean cases)

pub bodies_sum : (lean : Bool) (xs : List held_body.Body)
    → sum_by (λ (body : Body). stmt_weight (alone_in lean) body.stmt) (map body_view xs)
    ≡ sum_by (λ body. stmt_weight (alone_in lean) (stmt_view body.stmt)) xs
bodies_sum lean [] = refl
bodies_sum lean (x ∷ xs) = omega (
  arith,
  bodies_sum lean xs,
  sum_by-cons (λ (body : held_body.Body). stmt_weight (alone_in lean) (stmt_view body.stmt)) x xs,
  sum_by-cons (λ (body : Body). stmt_weight (alone_in lean) body.stmt) (body_view x)
      (map body_view xs),
)

pub functions_sum : (lean : Bool) (xs : List held_function.Function)
    → sum_by (function_weight (alone_in lean)) (map function_view xs)
    ≡ sum_by (λ it. function_weight (alone_in lean) (function_view it)) xs
functions_sum lean [] = refl
functions_sum lean (x ∷ xs) = omega (
  arith,
  functions_sum lean xs,
  sum_by-cons (λ (it : held_function.Function). function_weight (alone_in lean) (function_view it))
      x xs,
  sum_by-cons (function_weight (alone_in lean)) (function_view x) (map function_view xs),
)
