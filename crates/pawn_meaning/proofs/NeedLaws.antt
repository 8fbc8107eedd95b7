-- The loads and locals of statements and bodies, by the lists that they hold.
use Rattle.std.proofs.Common.{◌≡◌, ℕ, zero, suc, ◌+◌, ◌<◌, max, List, [], ◌∷◌, map, Option, Some}
use Rattle.std.proofs.Common.{None, length, get_or, slice_get, refl, sym, ap, ◌∙◌, arith}
use Rattle.std.specs.List.{sum_by}
use Rattle.std.proofs.lemmas.List.Sums.{sum_by-cons}
use Rattle.std.specs.declared.boxed.Box.{Box}
use Rattle.std.specs.declared.alloc.Global.{Global}
use Rattle.pawn_meaning.specs.Program.{Slot}
use Rattle.pawn_meaning.specs.declared.node.Case.{Case}
use Rattle.pawn_meaning.specs.declared.node.Expr as held_expr
use Rattle.pawn_meaning.specs.declared.node.Stmt as held
use Rattle.pawn_meaning.specs.declared.program.Body.{Body}
use Rattle.pawn_meaning.specs.declared.program.Function.{Function}
use Rattle.pawn_meaning.specs.View.{expr_view, perhaps_view, stmt_view, stmts_view, cases_view}
use Rattle.pawn_meaning.specs.View.{else_view, slot_view, body_view, function_view}
use Rattle.pawn_meaning.proofs.ViewLaws.{stmt_view-Block, stmt_view-If, stmt_view-For}
use Rattle.pawn_meaning.proofs.ViewLaws.{stmt_view-Switch}
use Rattle.pawn_meaning.specs.Capped.{capped}
use Rattle.pawn_meaning.specs.Need.{greatest, load, perhaps_load, stmt_load, stmts_load, cases_load}
use Rattle.pawn_meaning.specs.Need.{else_load, locals, made_by, own_locals, inner_locals}
use Rattle.pawn_meaning.specs.Need.{cases_locals, else_locals, greatest_locals, greatest_load, need}

-- ---- loads

stmts_greatest : (xs : List held.Stmt)
    → stmts_load (stmts_view xs) ≡ greatest (map (λ stmt. stmt_load (stmt_view stmt)) xs)
stmts_greatest [] = refl
stmts_greatest (x ∷ xs) = ap (λ n. max (stmt_load (stmt_view x)) n) (stmts_greatest xs)

cases_greatest : (xs : List Case)
    → cases_load (cases_view xs) ≡ greatest (map (λ case. stmt_load (stmt_view case.stmt)) xs)
cases_greatest [] = refl
cases_greatest (x ∷ xs) = ap (λ n. max (stmt_load (stmt_view x.stmt)) n) (cases_greatest xs)

pub block_load : (xs : List held.Stmt)
    → stmt_load (stmt_view (held.Block xs)) ≡ greatest (map (λ stmt. stmt_load (stmt_view stmt)) xs)
block_load xs = ap stmt_load (stmt_view-Block xs) ∙ stmts_greatest xs

pub if_load : (c : held_expr.Expr) (a : Box held.Stmt Global) (b : Option (Box held.Stmt Global))
    → stmt_load (stmt_view (held.If c a b))
    ≡ max (load (expr_view c)) (max (stmt_load (stmt_view a.value)) (else_load (else_view b)))
if_load c a b = ap stmt_load (stmt_view-If c a b)

pub for_load : (first : List held.Stmt) (c step : Option held_expr.Expr) (s : Box held.Stmt Global)
    → stmt_load (stmt_view (held.For first c step s))
    ≡ max (greatest (map (λ stmt. stmt_load (stmt_view stmt)) first))
    (max (perhaps_load (perhaps_view c))
    (max (perhaps_load (perhaps_view step)) (stmt_load (stmt_view s.value))))
for_load first c step s = ap stmt_load (stmt_view-For first c step s)
    ∙ ap (λ n. max n (max (perhaps_load (perhaps_view c))
    (max (perhaps_load (perhaps_view step)) (stmt_load (stmt_view s.value)))))
    (stmts_greatest first)

pub switch_load : (e : held_expr.Expr) (cases : List Case) (d : Option (Box held.Stmt Global))
    → stmt_load (stmt_view (held.Switch e cases d))
    ≡ max (load (expr_view e)) (max (greatest (map (λ case. stmt_load (stmt_view case.stmt)) cases))
    (else_load (else_view d)))
switch_load e cases d = ap stmt_load (stmt_view-Switch e cases d)
    ∙ ap (λ n. max (load (expr_view e)) (max n (else_load (else_view d)))) (cases_greatest cases)

-- ---- locals

own_sum : (slots : List Slot) (xs : List held.Stmt)
    → own_locals slots (stmts_view xs) ≡ sum_by (λ stmt. made_by slots (stmt_view stmt)) xs
own_sum slots [] = refl
own_sum slots (x ∷ xs) =
    omega (
      arith,
      own_sum slots xs,
      sum_by-cons (λ (stmt : held.Stmt). made_by slots (stmt_view stmt)) x xs,
    )

inner_greatest : (slots : List Slot) (xs : List held.Stmt)
    → inner_locals slots (stmts_view xs) ≡ greatest (map (λ stmt. locals slots (stmt_view stmt)) xs)
inner_greatest slots [] = refl
inner_greatest slots (x ∷ xs) =
    ap (λ n. max (locals slots (stmt_view x)) n) (inner_greatest slots xs)

of_cases : (slots : List Slot) (xs : List Case)
    → cases_locals slots (cases_view xs)
    ≡ greatest (map (λ case. locals slots (stmt_view case.stmt)) xs)
of_cases slots [] = refl
of_cases slots (x ∷ xs) = ap (λ n. max (locals slots (stmt_view x.stmt)) n) (of_cases slots xs)

pub block_locals : (slots : List Slot) (xs : List held.Stmt)
    → locals slots (stmt_view (held.Block xs))
    ≡ sum_by (λ stmt. made_by slots (stmt_view stmt)) xs
    + greatest (map (λ stmt. locals slots (stmt_view stmt)) xs)
block_locals slots xs =
    ap (locals slots) (stmt_view-Block xs)
    ∙ omega (arith, own_sum slots xs, inner_greatest slots xs)

pub if_locals : (slots : List Slot) (c : held_expr.Expr) (a : Box held.Stmt Global)
    (b : Option (Box held.Stmt Global))
    → locals slots (stmt_view (held.If c a b))
    ≡ max (locals slots (stmt_view a.value)) (else_locals slots (else_view b))
if_locals slots c a b = ap (locals slots) (stmt_view-If c a b)

pub for_locals : (slots : List Slot) (first : List held.Stmt) (c step : Option held_expr.Expr)
    (s : Box held.Stmt Global)
    → locals slots (stmt_view (held.For first c step s))
    ≡ sum_by (λ stmt. made_by slots (stmt_view stmt)) first
    + max (greatest (map (λ stmt. locals slots (stmt_view stmt)) first))
    (locals slots (stmt_view s.value))
for_locals slots first c step s =
    ap (locals slots) (stmt_view-For first c step s)
    ∙ omega (arith, own_sum slots first, inner_greatest slots first)

pub switch_locals : (slots : List Slot) (e : held_expr.Expr) (cases : List Case)
    (d : Option (Box held.Stmt Global))
    → locals slots (stmt_view (held.Switch e cases d))
    ≡ max (greatest (map (λ case. locals slots (stmt_view case.stmt)) cases))
    (else_locals slots (else_view d))
switch_locals slots e cases d = ap (locals slots) (stmt_view-Switch e cases d)
    ∙ ap (λ n. max n (else_locals slots (else_view d))) (of_cases slots cases)

pub block_makes : (slots : List Slot) (xs : List held.Stmt)
    → made_by slots (stmt_view (held.Block xs)) ≡ 0
block_makes slots xs = ap (made_by slots) (stmt_view-Block xs)

pub if_makes : (slots : List Slot) (c : held_expr.Expr) (a : Box held.Stmt Global)
    (b : Option (Box held.Stmt Global)) → made_by slots (stmt_view (held.If c a b)) ≡ 0
if_makes slots c a b = ap (made_by slots) (stmt_view-If c a b)

pub for_makes : (slots : List Slot) (first : List held.Stmt) (c step : Option held_expr.Expr)
    (s : Box held.Stmt Global) → made_by slots (stmt_view (held.For first c step s)) ≡ 0
for_makes slots first c step s = ap (made_by slots) (stmt_view-For first c step s)

pub switch_makes : (slots : List Slot) (e : held_expr.Expr) (cases : List Case)
    (d : Option (Box held.Stmt Global)) → made_by slots (stmt_view (held.Switch e cases d)) ≡ 0
switch_makes slots e cases d = ap (made_by slots) (stmt_view-Switch e cases d)

-- ---- bodies

pub bodies_locals : (xs : List Body)
    → greatest_locals (map body_view xs)
    ≡ greatest (map (λ body. locals (map slot_view body.slots) (stmt_view body.stmt)) xs)
bodies_locals [] = refl
bodies_locals (x ∷ xs) =
    ap (λ n. max (locals (map slot_view x.slots) (stmt_view x.stmt)) n) (bodies_locals xs)

pub bodies_load : (xs : List Body)
    → greatest_load (map body_view xs) ≡ greatest (map (λ body. stmt_load (stmt_view body.stmt)) xs)
bodies_load [] = refl
bodies_load (x ∷ xs) = ap (λ n. max (stmt_load (stmt_view x.stmt)) n) (bodies_load xs)

-- the function of a number
pub need_of : (fs : List Function) (i : ℕ) (x d : Function) (n : ℕ) → i < length fs
    → x ≡ get_or fs i d → n ≡ capped (need (function_view x))
    → slice_get (map (λ it. capped (need it)) (map function_view fs)) i ≡ Some n
need_of [] i x d n l e c = absurd (omega arith)
need_of (f ∷ fs) zero x d n l e c = ap (λ m. Some m) (rw (← e) (sym c))
need_of (f ∷ fs) (suc i) x d n l e c = need_of fs i x d n (omega arith) e c
