-- How many literals stand in lists, and how many objects a variable makes.
use Rattle.std.proofs.Common.{◌≡◌, ◌<◌, ◌+◌, ℕ, Bool, List, [], ◌∷◌, map, take, length, get_or}
use Rattle.std.proofs.Common.{refl, sym, ap, ◌∙◌}
use Rattle.std.specs.Prelude.{Result, Ok, Err, IfOk}
use Rattle.std.specs.List.{sum_by}
use Rattle.std.proofs.lemmas.List.Sums.{sum_by-cons, sum_by_more}
use Rattle.std.specs.declared.boxed.Box.{Box}
use Rattle.std.specs.declared.alloc.Global.{Global}
use Rattle.pawn_tree.specs.declared.name.At.{At}
use Rattle.pawn_tree.specs.declared.expression.Expr as held
use Rattle.pawn_tree.specs.declared.expression.Arg as held_arg
use Rattle.pawn_tree.specs.declared.expression.Link as held_link
use Rattle.pawn_tree.specs.View.{expr_view, arg_view, link_view}
use Rattle.pawn_tree.specs.Expressions.{Arg, args, Link, links}
use Rattle.pawn_tree.proofs.ViewLaws.{call_view, chain_view}
use Rattle.types_rules.specs.Literals.{literals, arg_literals, link_literals, literals_of_arg}
use Rattle.types_rules.specs.Literals.{literals_of_link}

args_counted : (xs : List Arg) → arg_literals (args xs) ≡ sum_by literals_of_arg xs
args_counted [] = refl
args_counted (x ∷ xs) =
    ap (λ n. literals_of_arg x + n) (args_counted xs) ∙ sym (sum_by-cons literals_of_arg x xs)

links_counted : (xs : List Link) → link_literals (links xs) ≡ sum_by literals_of_link xs
links_counted [] = refl
links_counted (x ∷ xs) =
    ap (λ n. literals_of_link x + n) (links_counted xs) ∙ sym (sum_by-cons literals_of_link x xs)

pub call_counted : (at : At) (name : List ℕ) (xs : List held_arg.Arg) (bare : Bool)
    → literals (expr_view (held.Call at name xs bare)) ≡ sum_by literals_of_arg (map arg_view xs)
call_counted at name xs bare =
    ap literals (call_view at name xs bare) ∙ args_counted (map arg_view xs)

pub chain_counted : (at : At) (x : Box held.Expr Global) (xs : List held_link.Link)
    → literals (expr_view (held.Chain at x xs))
    ≡ literals (expr_view x.value) + sum_by literals_of_link (map link_view xs)
chain_counted at x xs =
    ap literals (chain_view at x xs)
    ∙ ap (λ n. literals (expr_view x.value) + n) (links_counted (map link_view xs))

-- one more of a list whose elements are seen
pub one_more : {A B : Type 0} (f : B → ℕ) (view : A → B) (xs : List A) (i : ℕ) (x : A)
    → i < length xs → x ≡ get_or xs i x
    → sum_by f (map view (take (i + 1) xs)) ≡ sum_by f (map view (take i xs)) + f (view x)
one_more f view xs i x l e =
    counted ∙ ap (λ (it : _). sum_by f (map view (take i xs)) + f (view it)) (sym e)
  where
    through : (ys : List _) → sum_by f (map view ys) ≡ sum_by (λ y. f (view y)) ys
    through [] = refl
    through (y ∷ ys) =
        sum_by-cons f (view y) (map view ys) ∙ ap (λ n. f (view y) + n) (through ys)
        ∙ sym (sum_by-cons (λ y. f (view y)) y ys)

    counted : sum_by f (map view (take (i + 1) xs))
        ≡ sum_by f (map view (take i xs)) + f (view (get_or xs i x))
    counted = through (take (i + 1) xs) ∙ sum_by_more (λ y. f (view y)) xs i x l
        ∙ ap (λ n. n + f (view (get_or xs i x))) (sym (through (take i xs)))

-- what holds of a number that is answered holds of an equal one
pub answered : {E : Type 0} (r : Result ℕ E) (a b : ℕ) → IfOk r (λ n. n ≡ a) → a ≡ b
    → IfOk r (λ n. n ≡ b)
answered (Ok n) a b h e = h ∙ e
answered (Err e) a b h k = tt
