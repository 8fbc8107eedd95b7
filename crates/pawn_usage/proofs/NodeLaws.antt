-- The functions called in nodes that hold lists, by these lists.
use Rattle.std.proofs.Common.{◌≡◌, ℕ, List, [], ◌∷◌, ◌++◌, map, Option, refl, ap}
use Rattle.std.specs.Prelude.{flat_map}
use Rattle.std.specs.declared.boxed.Box.{Box}
use Rattle.std.specs.declared.alloc.Global.{Global}
use Rattle.pawn_meaning.specs.Program.{Program}
use Rattle.pawn_meaning.specs.declared.node.Arg.{Arg}
use Rattle.pawn_meaning.specs.declared.node.Link.{Link}
use Rattle.pawn_meaning.specs.declared.node.Case.{Case}
use Rattle.pawn_meaning.specs.declared.node.Expr as held
use Rattle.pawn_meaning.specs.declared.node.Stmt as held_stmt
use Rattle.pawn_meaning.specs.declared.program.Body.{Body}
use Rattle.pawn_meaning.specs.View.{expr_view, arg_view, args_view, links_view, perhaps_view}
use Rattle.pawn_meaning.specs.View.{stmt_view, stmts_view, cases_view, else_view, body_view}
use Rattle.pawn_meaning.proofs.ViewLaws.{expr_view-Call, expr_view-Native, expr_view-Chain}
use Rattle.pawn_meaning.proofs.ViewLaws.{stmt_view-Block, stmt_view-For, stmt_view-Switch}
use Rattle.pawn_usage.specs.Called.{at_most_one, called, called_in_args, called_in_arg}
use Rattle.pawn_usage.specs.Called.{called_in_links, called_perhaps, called_by, called_by_all}
use Rattle.pawn_usage.specs.Called.{called_by_cases, called_by_else, called_by_bodies}

-- ---- expressions

pub of_args : (xs : List Arg)
    → flat_map (λ x. called_in_arg (arg_view x)) xs ≡ called_in_args (args_view xs)
of_args [] = refl
of_args (x ∷ xs) = ap (λ ys. called_in_arg (arg_view x) ++ ys) (of_args xs)

abbrev pub in_link : Link → List ℕ
in_link link = called (expr_view link.operand) ++ at_most_one link.function

pub of_links : (xs : List Link) → flat_map in_link xs ≡ called_in_links (links_view xs)
of_links [] = refl
of_links (x ∷ xs) = ap (λ ys. in_link x ++ ys) (of_links xs)

pub of_call : (f : ℕ) (xs : List Arg)
    → called (expr_view (held.Call f xs)) ≡ called_in_args (args_view xs) ++ f ∷ []
of_call f xs = ap called (expr_view-Call f xs)

pub of_native : (n : ℕ) (xs : List Arg)
    → called (expr_view (held.Native n xs)) ≡ called_in_args (args_view xs)
of_native n xs = ap called (expr_view-Native n xs)

pub of_chain : (x : Box held.Expr Global) (xs : List Link)
    → called (expr_view (held.Chain x xs))
    ≡ called (expr_view x.value) ++ called_in_links (links_view xs)
of_chain x xs = ap called (expr_view-Chain x xs)

-- ---- statements

module _ (program : Program) where
  pub of_stmts : (xs : List held_stmt.Stmt)
      → flat_map (λ x. called_by program (stmt_view x)) xs ≡ called_by_all program (stmts_view xs)
  of_stmts [] = refl
  of_stmts (x ∷ xs) = ap (λ ys. called_by program (stmt_view x) ++ ys) (of_stmts xs)

  pub of_cases : (xs : List Case)
      → flat_map (λ x. called_by program (stmt_view x.stmt)) xs
      ≡ called_by_cases program (cases_view xs)
  of_cases [] = refl
  of_cases (x ∷ xs) = ap (λ ys. called_by program (stmt_view x.stmt) ++ ys) (of_cases xs)

  pub of_bodies : (xs : List Body)
      → flat_map (λ x. called_by program (stmt_view x.stmt)) xs
      ≡ called_by_bodies program (map body_view xs)
  of_bodies [] = refl
  of_bodies (x ∷ xs) = ap (λ ys. called_by program (stmt_view x.stmt) ++ ys) (of_bodies xs)

  pub of_block : (xs : List held_stmt.Stmt)
      → called_by program (stmt_view (held_stmt.Block xs)) ≡ called_by_all program (stmts_view xs)
  of_block xs = ap (called_by program) (stmt_view-Block xs)

  pub of_for : (first : List held_stmt.Stmt) (c step : Option held.Expr)
      (s : Box held_stmt.Stmt Global)
      → called_by program (stmt_view (held_stmt.For first c step s))
      ≡ called_by_all program (stmts_view first)
      ++ (called_perhaps (perhaps_view c) ++ (called_perhaps (perhaps_view step)
      ++ called_by program (stmt_view s.value)))
  of_for first c step s = ap (called_by program) (stmt_view-For first c step s)

  pub of_switch : (x : held.Expr) (xs : List Case) (other : Option (Box held_stmt.Stmt Global))
      → called_by program (stmt_view (held_stmt.Switch x xs other))
      ≡ called (expr_view x)
      ++ (called_by_cases program (cases_view xs) ++ called_by_else program (else_view other))
  of_switch x xs other = ap (called_by program) (stmt_view-Switch x xs other)
