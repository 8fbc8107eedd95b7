-- The loads of what holds lists, by these lists.
use Rattle.std.proofs.Common.{◌≡◌, ℕ, ◌+◌, ◌*◌, max, List, [], ◌∷◌, map, length, refl, ap, ◌∙◌}
use Rattle.std.proofs.Common.{arith}
use Rattle.std.specs.declared.boxed.Box.{Box}
use Rattle.std.specs.declared.alloc.Global.{Global}
use Rattle.pawn_meaning.specs.declared.node.Arg.{Arg}
use Rattle.pawn_meaning.specs.declared.node.Link.{Link}
use Rattle.pawn_meaning.specs.declared.node.Expr as held
use Rattle.pawn_meaning.specs.View.{expr_view, arg_view, args_view, links_view}
use Rattle.pawn_meaning.proofs.ViewLaws.{expr_view-Call, expr_view-Native, expr_view-Chain}
use Rattle.pawn_meaning.specs.Need.{greatest, count_of, load, arg_load, args_load, links_load}

args_greatest : (xs : List Arg)
    → args_load (args_view xs) ≡ greatest (map (λ arg. arg_load (arg_view arg)) xs)
args_greatest [] = refl
args_greatest (x ∷ xs) = ap (λ n. max (arg_load (arg_view x)) n) (args_greatest xs)

args_count : (xs : List Arg) → count_of (args_view xs) ≡ length xs
args_count [] = refl
args_count (x ∷ xs) = omega (arith, args_count xs)

links_greatest : (xs : List Link)
    → links_load (links_view xs) ≡ greatest (map (λ link. load (expr_view link.operand)) xs)
links_greatest [] = refl
links_greatest (x ∷ xs) = ap (λ n. max (load (expr_view x.operand)) n) (links_greatest xs)

pub call_load : (f : ℕ) (xs : List Arg)
    → load (expr_view (held.Call f xs))
    ≡ 2 * length xs + 1 + greatest (map (λ arg. arg_load (arg_view arg)) xs)
call_load f xs = ap load (expr_view-Call f xs) ∙ omega (arith, args_greatest xs, args_count xs)

pub native_load : (n : ℕ) (xs : List Arg)
    → load (expr_view (held.Native n xs))
    ≡ 2 * length xs + 1 + greatest (map (λ arg. arg_load (arg_view arg)) xs)
native_load n xs = ap load (expr_view-Native n xs) ∙ omega (arith, args_greatest xs, args_count xs)

pub chain_load : (x : Box held.Expr Global) (xs : List Link)
    → load (expr_view (held.Chain x xs))
    ≡ 2 + max (load (expr_view x.value))
    (greatest (map (λ link. load (expr_view link.operand)) xs))
chain_load x xs =
    ap load (expr_view-Chain x xs)
    ∙ ap (λ n. 2 + max (load (expr_view x.value)) n) (links_greatest xs)
