-- Names added in parts, one behind another.
use Rattle.std.proofs.Common.{◌≡◌, ◌+◌, ◌<◌, ◌≤◌, ℕ, List, [], ◌∷◌, ◌++◌, map, length, drop, get_or}
use Rattle.std.proofs.Common.{refl, sym, ap, ◌∙◌}
use Rattle.std.specs.Prelude.{flat_map, Bool, Option, option_map, Result, Ok, Err, OnOk}
use Rattle.std.specs.Borrow.{Bor}
use Rattle.std.proofs.lemmas.List.{map-append, append-nil, append_assoc, drop_all, drop_more}
use Rattle.pawn_base.specs.declared.memory.Memory.{Memory}
use Rattle.std.specs.declared.boxed.Box.{Box}
use Rattle.std.specs.declared.alloc.Global.{Global}
use Rattle.pawn_tree.specs.declared.name.At.{At}
use Rattle.pawn_tree.specs.declared.expression.Expr as held
use Rattle.pawn_tree.specs.declared.expression.Arg.{Arg}
use Rattle.pawn_tree.specs.declared.expression.Link.{Link}
use Rattle.pawn_tree.specs.declared.variable.Var.{Var}
use Rattle.pawn_tree.specs.declared.statement.Stmt as held_stmt
use Rattle.pawn_tree.specs.declared.statement.Case.{Case}
use Rattle.pawn_tree.specs.Expressions.{args, links}
use Rattle.pawn_tree.specs.Statements.{stmts, cases, maybe_stmt}
use Rattle.pawn_tree.specs.View.{expr_view, arg_view, link_view, var_view, stmt_view, case_view}
use Rattle.pawn_tree.proofs.ViewLaws.{call_view, chain_view, block_view, switch_view}
use Rattle.types_rules.specs.Called.{called, called_by_args, called_by_arg, called_by_links}
use Rattle.types_rules.specs.Called.{called_by_link}
use Rattle.types_rules.specs.CalledIn.{called_by_init, called_by_vars, called_in, called_in_all}
use Rattle.types_rules.specs.CalledIn.{called_in_case, called_in_cases, called_in_other}
use Rattle.check_source.specs.Adds.{Names, bytes_of, Adds, AddsSoFar}

pub adds_none : (old : Names) → Adds old old []
adds_none old = record { is = sym (append-nil (bytes_of old)) }

pub adds_one : (old : Names) (name : Bor (List ℕ)) → Adds old (old ++ name ∷ []) (name.now ∷ [])
adds_one old name = record { is = map-append (λ (it : Bor (List ℕ)). it.now) old (name ∷ []) }

pub adds_two : (old mid new : Names) (xs ys : List (List ℕ)) → Adds old mid xs → Adds mid new ys
    → Adds old new (xs ++ ys)
adds_two old mid new xs ys h k =
    record { is = k.is ∙ ap (λ zs. zs ++ ys) h.is ∙ append_assoc (bytes_of old) xs ys }

-- the same where the second part is the last call
pub adds_tail : (old mid new : Names) (xs ys : List (List ℕ)) (r : Result (Unit {0}) Memory)
    → Adds old mid xs → OnOk r (Adds mid new ys) → OnOk r (Adds old new (xs ++ ys))
adds_tail old mid new xs ys (Ok x) h k = adds_two old mid new xs ys h k
adds_tail old mid new xs ys (Err e) h k = k

pub ruleset adds = (adds_none, adds_two, adds_tail)

-- ---- part by part

module _ {H : Type 0} {names_in : H → List (List ℕ)} {parts : List H} {old : Names} where
  pub so_far_begins : AddsSoFar names_in parts old 0 old
  so_far_begins = record { same = refl }

  pub so_far_goes_on : {i : ℕ} {now next : Names} (x : H) → AddsSoFar names_in parts old i now
      → i < length parts → x ≡ get_or parts i x
      → Adds now next (names_in x) → AddsSoFar names_in parts old (i + 1) next
  so_far_goes_on {i} {now} {next} x passed lt e h =
      let rest : List H = drop (i + 1) parts in
      record {
        same =
            ap (λ ys. ys ++ flat_map names_in rest) h.is
            ∙ append_assoc (bytes_of now) (names_in x) (flat_map names_in rest)
            ∙ ap (λ y. bytes_of now ++ flat_map names_in (y ∷ rest)) e
            ∙ ap (λ ys. bytes_of now ++ flat_map names_in ys) (sym (drop_more parts i x lt))
            ∙ passed.same;
      }

  pub so_far_ends : {i : ℕ} {now : Names} → AddsSoFar names_in parts old i now → length parts ≤ i
      → Adds old now (flat_map names_in parts)
  so_far_ends {i} {now} passed le =
      record {
        is = sym (append-nil (bytes_of now))
            ∙ ap (λ ys. bytes_of now ++ flat_map names_in ys) (sym (drop_all i parts le))
            ∙ passed.same;
      }

-- ---- lists of nodes

pub args_names : (xs : List Arg)
    → flat_map (λ x. called_by_arg (arg_view x)) xs ≡ called_by_args (args (map arg_view xs))
args_names [] = refl
args_names (x ∷ xs) = ap (λ ys. called_by_arg (arg_view x) ++ ys) (args_names xs)

pub links_names : (xs : List Link)
    → flat_map (λ x. called_by_link (link_view x)) xs ≡ called_by_links (links (map link_view xs))
links_names [] = refl
links_names (x ∷ xs) = ap (λ ys. called_by_link (link_view x) ++ ys) (links_names xs)

pub vars_names : (xs : List Var) → flat_map (λ x. called_by_init (var_view x).init) xs
    ≡ called_by_vars (map var_view xs)
vars_names [] = refl
vars_names (x ∷ xs) = ap (λ ys. called_by_init (var_view x).init ++ ys) (vars_names xs)

pub stmts_names : (xs : List held_stmt.Stmt)
    → flat_map (λ x. called_in (stmt_view x)) xs ≡ called_in_all (stmts (map stmt_view xs))
stmts_names [] = refl
stmts_names (x ∷ xs) = ap (λ ys. called_in (stmt_view x) ++ ys) (stmts_names xs)

pub cases_names : (xs : List Case)
    → flat_map (λ x. called_in_case (case_view x)) xs ≡ called_in_cases (cases (map case_view xs))
cases_names [] = refl
cases_names (x ∷ xs) = ap (λ ys. called_in_case (case_view x) ++ ys) (cases_names xs)

-- ---- nodes that hold lists

pub call_names : (at : At) (name : List ℕ) (xs : List Arg) (bare : Bool)
    → called (expr_view (held.Call at name xs bare))
    ≡ name ∷ called_by_args (args (map arg_view xs))
call_names at name xs bare = ap called (call_view at name xs bare)

pub chain_names : (at : At) (x : Box held.Expr Global) (xs : List Link)
    → called (expr_view (held.Chain at x xs))
    ≡ called (expr_view x.value) ++ called_by_links (links (map link_view xs))
chain_names at x xs = ap called (chain_view at x xs)

pub block_names : (at : At) (xs : List held_stmt.Stmt)
    → called_in (stmt_view (held_stmt.Block at xs)) ≡ called_in_all (stmts (map stmt_view xs))
block_names at xs = ap called_in (block_view at xs)

pub switch_names : (at : At) (x : held.Expr) (xs : List Case)
    (other : Option (Box held_stmt.Stmt Global))
    → called_in (stmt_view (held_stmt.Switch at x xs other))
    ≡ called (expr_view x) ++ (called_in_cases (cases (map case_view xs))
    ++ called_in_other (maybe_stmt (option_map (λ b. stmt_view b.value) other)))
switch_names at x xs other = ap called_in (switch_view at x xs other)
