-- The highest of a list, read item by item.
use Rattle.std.proofs.Common.{◌≡◌, ℕ, Bool, zero, suc, ◌+◌, ◌≤◌, ◌<◌, max, List, [], ◌∷◌, map}
use Rattle.std.proofs.Common.{Option, Some, None, option_map, length, get_or, drop, refl, sym, ◌∙◌}
use Rattle.std.proofs.Common.{ap, arith}
use Rattle.std.proofs.lemmas.List.{drop_all}
use Rattle.std.specs.declared.boxed.Box.{Box}
use Rattle.std.specs.declared.alloc.Global.{Global}
use Rattle.pawn_tree.specs.declared.name.At.{At}
use Rattle.pawn_tree.specs.declared.expression.Expr as held
use Rattle.pawn_tree.specs.declared.expression.Arg as held_arg
use Rattle.pawn_tree.specs.declared.expression.Link as held_link
use Rattle.pawn_tree.specs.View.{expr_view, arg_view, link_view, init_view, stmt_view, case_view}
use Rattle.pawn_tree.specs.Variables.{Init, inits}
use Rattle.pawn_tree.specs.Statements.{Stmt, stmts, Case, cases, maybe_stmt}
use Rattle.pawn_tree.specs.declared.variable.Init as held_init
use Rattle.pawn_tree.specs.declared.statement.Stmt as held_stmt
use Rattle.pawn_tree.specs.declared.statement.Case as held_case
use Rattle.pawn_tree.proofs.ViewLaws.{call_view, chain_view, braces_view, block_view, if_view}
use Rattle.pawn_tree.proofs.ViewLaws.{switch_view}
use Rattle.pawn_tree.specs.Expressions.{Arg, args, Link, links}
use Rattle.pawn_tree.specs.Height.{height_of, init_height, inits_height, stmt_height, stmts_height}
use Rattle.pawn_tree.specs.Height.{case_height, cases_height, other_height, highest, expr_height}
use Rattle.pawn_tree.specs.Height.{arg_height, args_height, link_height, links_height}

pub args_highest : (xs : List Arg) → args_height (args xs) ≡ highest arg_height xs
args_highest [] = refl
args_highest (x ∷ xs) = ap (λ h. max (arg_height x) h) (args_highest xs)

pub links_highest : (xs : List Link) → links_height (links xs) ≡ highest link_height xs
links_highest [] = refl
links_highest (x ∷ xs) = ap (λ h. max (link_height x) h) (links_highest xs)

-- the highest so far, of the items before i
pub record IsHighest {A B : Type 0} (height : B → ℕ) (view : A → B) (xs : List A)
    (i h : ℕ) : Type 0 where
  pub same : max h (highest height (map view (drop i xs))) ≡ highest height (map view xs)

pub highest_begins : {A B : Type 0} {height : B → ℕ} {view : A → B} {xs : List A}
    → IsHighest height view xs 0 0
highest_begins = record { same = omega arith }

pub highest_step : {A B : Type 0} (height : B → ℕ) (view : A → B) (xs : List A) (i : ℕ) (x d : A)
    → i < length xs → x ≡ get_or xs i d
    → max (height (view x)) (highest height (map view (drop (suc i) xs)))
    ≡ highest height (map view (drop i xs))
highest_step height view [] i x d l e = absurd (omega arith)
highest_step height view (y ∷ ys) zero x d l e = rw e refl
highest_step height view (y ∷ ys) (suc i) x d l e =
    highest_step height view ys i x d (omega arith) e

pub highest_more : {A B : Type 0} {height : B → ℕ} {view : A → B} {xs : List A} {i h : ℕ} (x d : A)
    → IsHighest height view xs i h → i < length xs → x ≡ get_or xs i d
    → IsHighest height view xs (i + 1) (max h (height (view x)))
highest_more {height = height} {view = view} {xs = xs} {i = i} x d p l e =
    let s = highest_step height view xs i x d l e in
    let q = p.same in let next : i + 1 ≡ suc i = omega arith in
    rw next (record { same = omega arith })

-- no item is higher
pub highest_bounds : {A B : Type 0} {height : B → ℕ} {view : A → B} {xs : List A} {i h : ℕ}
    (x d : A) → IsHighest height view xs i h → i < length xs → x ≡ get_or xs i d
    → height (view x) ≤ highest height (map view xs)
highest_bounds {height = height} {view = view} {xs = xs} {i = i} x d p l e =
    let s = highest_step height view xs i x d l e in let q = p.same in omega arith

pub highest_ends : {A B : Type 0} (height : B → ℕ) (view : A → B) (xs : List A) (i h : ℕ)
    → IsHighest height view xs i h → length xs ≤ i → h ≡ highest height (map view xs)
highest_ends height view xs i h p l =
    let zero_more : h ≡ max h 0 = omega arith in
    zero_more ∙ sym (ap (λ ys. max h (highest height (map view ys))) (drop_all i xs l)) ∙ p.same

pub call_height : (at : At) (name : List ℕ) (xs : List held_arg.Arg) (bare : Bool)
    (node : held.Expr) → node ≡ held.Call at name xs bare
    → expr_height (expr_view node) ≡ suc (highest arg_height (map arg_view xs))
call_height at name xs bare node e =
    ap (λ y. expr_height (expr_view y)) e ∙ ap expr_height (call_view at name xs bare)
    ∙ ap (λ h. suc h) (args_highest (map arg_view xs))

pub chain_height : (at : At) (x : Box held.Expr Global) (xs : List held_link.Link)
    (node : held.Expr) → node ≡ held.Chain at x xs
    → expr_height (expr_view node)
    ≡ suc (max (expr_height (expr_view x.value)) (highest link_height (map link_view xs)))
chain_height at x xs node e =
    ap (λ y. expr_height (expr_view y)) e ∙ ap expr_height (chain_view at x xs)
    ∙ ap (λ h. suc (max (expr_height (expr_view x.value)) h)) (links_highest (map link_view xs))

inits_highest : (xs : List Init) → inits_height (inits xs) ≡ highest init_height xs
inits_highest [] = refl
inits_highest (x ∷ xs) = ap (λ h. max (init_height x) h) (inits_highest xs)

pub braces_height : (at : At) (xs : List held_init.Init) (rest : Bool) (node : held_init.Init)
    → node ≡ held_init.Braces at xs rest
    → init_height (init_view node) ≡ suc (highest init_height (map init_view xs))
braces_height at xs rest node e =
    ap (λ y. init_height (init_view y)) e ∙ ap init_height (braces_view at xs rest)
    ∙ ap (λ h. suc h) (inits_highest (map init_view xs))

stmts_highest : (xs : List Stmt) → stmts_height (stmts xs) ≡ highest stmt_height xs
stmts_highest [] = refl
stmts_highest (x ∷ xs) = ap (λ h. max (stmt_height x) h) (stmts_highest xs)

cases_highest : (xs : List Case) → cases_height (cases xs) ≡ highest case_height xs
cases_highest [] = refl
cases_highest (x ∷ xs) = ap (λ h. max (case_height x) h) (cases_highest xs)

other_highest : (x : Option (Box held_stmt.Stmt Global))
    → other_height (maybe_stmt (option_map (λ b. stmt_view b.value) x))
    ≡ height_of (λ b. stmt_height (stmt_view b.value)) x
other_highest None = refl
other_highest (Some b) = refl

pub block_height : (at : At) (ss : List held_stmt.Stmt) (node : held_stmt.Stmt)
    → node ≡ held_stmt.Block at ss
    → stmt_height (stmt_view node) ≡ suc (highest stmt_height (map stmt_view ss))
block_height at ss node e =
    ap (λ y. stmt_height (stmt_view y)) e ∙ ap stmt_height (block_view at ss)
    ∙ ap (λ h. suc h) (stmts_highest (map stmt_view ss))

pub if_height : (at : At) (x : held.Expr) (s : Box held_stmt.Stmt Global)
    (other : Option (Box held_stmt.Stmt Global)) (node : held_stmt.Stmt)
    → node ≡ held_stmt.If at x s other
    → stmt_height (stmt_view node)
    ≡ suc (max (expr_height (expr_view x))
    (max (stmt_height (stmt_view s.value))
    (height_of (λ b. stmt_height (stmt_view b.value)) other)))
if_height at x s other node e =
    ap (λ y. stmt_height (stmt_view y)) e ∙ ap stmt_height (if_view at x s other)
    ∙ ap (λ h. suc (max (expr_height (expr_view x)) (max (stmt_height (stmt_view s.value)) h)))
    (other_highest other)

pub switch_height : (at : At) (x : held.Expr) (xs : List held_case.Case)
    (other : Option (Box held_stmt.Stmt Global)) (node : held_stmt.Stmt)
    → node ≡ held_stmt.Switch at x xs other
    → stmt_height (stmt_view node)
    ≡ suc (max (expr_height (expr_view x))
    (max (highest case_height (map case_view xs))
    (height_of (λ b. stmt_height (stmt_view b.value)) other)))
switch_height at x xs other node e =
    ap (λ y. stmt_height (stmt_view y)) e ∙ ap stmt_height (switch_view at x xs other)
    ∙ ap (λ h. suc (max (expr_height (expr_view x))
    (max (cases_height (cases (map case_view xs))) h))) (other_highest other)
    ∙ ap (λ h. suc (max (expr_height (expr_view x))
    (max h (height_of (λ b. stmt_height (stmt_view b.value)) other))))
    (cases_highest (map case_view xs))
