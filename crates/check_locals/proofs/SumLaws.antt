-- Sums over lists, one element behind another.
use Rattle.std.proofs.Common.{◌≡◌, ◌+◌, ◌<◌, ◌≤◌, ℕ, List, [], ◌∷◌, length, drop, get_or}
use Rattle.std.proofs.Common.{map, Option, refl, sym, ap, ◌∙◌, arith}
use Rattle.std.specs.List.{sum_by}
use Rattle.std.proofs.lemmas.List.{drop_all}
use Rattle.std.proofs.lemmas.List.Sums.{sum_by-cons}
use Rattle.std.specs.declared.boxed.Box.{Box}
use Rattle.std.specs.declared.alloc.Global.{Global}
use Rattle.pawn_tree.specs.declared.name.At.{At}
use Rattle.pawn_tree.specs.declared.expression.Expr as held_expr
use Rattle.pawn_tree.specs.declared.statement.Stmt as held
use Rattle.pawn_tree.specs.declared.statement.Case as held_case
use Rattle.pawn_tree.specs.Statements.{Stmt, Case, stmts, cases, maybe_stmt}
use Rattle.pawn_tree.specs.View.{expr_view, stmt_view, case_view}
use Rattle.pawn_tree.proofs.ViewLaws.{block_view, if_view, switch_view}
use Rattle.std.specs.Option.{option_map}
use Rattle.types_rules.specs.Literals.{literals}
use Rattle.types_rules.specs.Counts.{objects_in, objects_in_all, objects_in_case, objects_in_cases}
use Rattle.types_rules.specs.Counts.{objects_in_other}
use Rattle.check_nodes.proofs.ThreadLaws.{next}

module _ {H T : Type 0} (view : H → T) (of : T → ℕ) (list : List H) where
  -- the sum so far, and that of the rest
  pub record Summed (i count : ℕ) : Type 0 where
    pub same : count + sum_by of (map view (drop i list)) ≡ sum_by of (map view list)

  pub none_summed : Summed 0 0
  none_summed = record { same = omega arith }

  pub one_summed : (i count now : ℕ) (x : H) → Summed i count → i < length list
      → x ≡ get_or list i x → now ≡ count + of (view x) → Summed (i + 1) now
  one_summed i count now x so_far lt e is =
      let rest : ℕ = sum_by of (map view (drop (i + 1) list)) in
      let split : sum_by of (map view (drop i list)) ≡ of (view x) + rest =
      ap (λ (xs : List H). sum_by of (map view xs)) (next list i x lt e)
      ∙ sum_by-cons of (view x) (map view (drop (i + 1) list)) in
      let before = so_far.same in
      record { same = omega (arith, split, before, is) }

  pub all_summed : (i count : ℕ) → Summed i count → length list ≤ i
      → count ≡ sum_by of (map view list)
  all_summed i count so_far le =
      let none : sum_by of (map view (drop i list)) ≡ 0 =
      ap (λ (xs : List H). sum_by of (map view xs)) (drop_all i list le) in
      let all = so_far.same in
      omega (arith, none, all)

-- ---- lists of the tree

all_of : (xs : List Stmt) → objects_in_all (stmts xs) ≡ sum_by objects_in xs
all_of [] = refl
all_of (s ∷ xs) =
    ap (λ (n : ℕ). objects_in s + n) (all_of xs) ∙ sym (sum_by-cons objects_in s xs)

cases_of : (xs : List Case) → objects_in_cases (cases xs) ≡ sum_by objects_in_case xs
cases_of [] = refl
cases_of (x ∷ xs) =
    ap (λ (n : ℕ). objects_in_case x + n) (cases_of xs) ∙ sym (sum_by-cons objects_in_case x xs)

pub block_objects : (at : At) (ss : List held.Stmt)
    → objects_in (stmt_view (held.Block at ss)) ≡ sum_by objects_in (map stmt_view ss)
block_objects at ss = ap objects_in (block_view at ss) ∙ all_of (map stmt_view ss)

pub if_objects : (at : At) (c : held_expr.Expr) (s : Box held.Stmt Global)
    (other : Option (Box held.Stmt Global))
    → objects_in (stmt_view (held.If at c s other))
    ≡ literals (expr_view c) + (objects_in (stmt_view s.value)
    + objects_in_other (maybe_stmt
    (option_map (λ (b : Box held.Stmt Global). stmt_view b.value) other)))
if_objects at c s other = ap objects_in (if_view at c s other)

pub switch_objects : (at : At) (e : held_expr.Expr) (xs : List held_case.Case)
    (other : Option (Box held.Stmt Global))
    → objects_in (stmt_view (held.Switch at e xs other))
    ≡ literals (expr_view e) + (sum_by objects_in_case (map case_view xs)
    + objects_in_other (maybe_stmt
    (option_map (λ (b : Box held.Stmt Global). stmt_view b.value) other)))
switch_objects at e xs other =
    ap objects_in (switch_view at e xs other)
    ∙ ap (λ (n : ℕ). literals (expr_view e) + (n + objects_in_other (maybe_stmt
    (option_map (λ (b : Box held.Stmt Global). stmt_view b.value) other))))
    (cases_of (map case_view xs))
