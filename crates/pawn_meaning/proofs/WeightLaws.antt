-- The weights of expressions, from what a walk finds of their parts.
use Rattle.std.proofs.Common.{◌≡◌, ℕ, ℤ, ◌+◌, ◌*◌, Bool, true, false, ◌&&◌, is_some, if◌then◌else◌}
use Rattle.std.proofs.Common.{List, [], ◌∷◌, map, Option, Some, None, refl, sym, ap, ◌∙◌, arith}
use Rattle.std.specs.Prelude.{option_map, IsTrue, ◌↔◌}
use Rattle.std.specs.List.{sum_by}
use Rattle.std.proofs.lemmas.List.Sums.{sum_by-cons}
use Rattle.pawn_cells.specs.declared.cell.Cell.{Cell}
use Rattle.pawn_cells.specs.Cells.{truth}
use Rattle.pawn_cells.specs.Operators.{cell_in}
use Rattle.pawn_meaning.specs.Program.{Expr}
use Rattle.pawn_meaning.specs.declared.node.Arg.{Arg}
use Rattle.pawn_meaning.specs.declared.node.Link.{Link}
use Rattle.pawn_meaning.specs.declared.node.Expr as held
use Rattle.pawn_meaning.specs.View.{expr_view, arg_view, args_view, links_view}
use Rattle.pawn_meaning.proofs.ViewLaws.{expr_view-Call, expr_view-Native}
use Rattle.pawn_meaning.specs.Capped.{capped}
use Rattle.pawn_meaning.specs.Fold.{is_constant, constant_value, links_value, chain_value}
use Rattle.pawn_meaning.specs.Weight.{part, expr_weight, arg_weight, args_weight, alone_in}

-- a constant counts alone where it has a value
alone_value : (k : Bool) (value : Option Cell) (parts n : ℕ) → parts ≡ capped n
    → (if k && is_some value then 40 else capped (40 + parts))
    ≡ capped (part (is_some (if k then cell_in value else None)) (40 + n))
alone_value false value parts n p = omega arith
alone_value true None parts n p = omega arith
alone_value true (Some v) parts n p = refl

-- an expression of built-in operators, by its parts
pub built_weight : (lean : Bool) (e : Expr) (k : Bool) (value : Option Cell) (parts n w : ℕ)
    → k ≡ is_constant e → cell_in value ≡ constant_value e → parts ≡ capped n
    → w ≡ (if lean && (k && is_some value) then 40 else capped (40 + parts))
    → w ≡ capped (part (alone_in lean e) (40 + n))
built_weight false e k value parts n w ck cv p cw = cw ∙ omega arith
built_weight true e k value parts n w ck cv p cw =
    cw ∙ rw (← ck, ← cv) (alone_value k value parts n p)

args_sum : (lean : Bool) (xs : List Arg)
    → args_weight (alone_in lean) (args_view xs)
    ≡ sum_by (λ arg. arg_weight (alone_in lean) (arg_view arg)) xs
args_sum lean [] = refl
args_sum lean (x ∷ xs) =
    omega (
      arith,
      args_sum lean xs,
      sum_by-cons (λ (arg : Arg). arg_weight (alone_in lean) (arg_view arg)) x xs,
    )

pub call_weight : (lean : Bool) (f : ℕ) (xs : List Arg)
    → expr_weight (alone_in lean) (expr_view (held.Call f xs))
    ≡ 40 + sum_by (λ arg. arg_weight (alone_in lean) (arg_view arg)) xs
call_weight lean f xs =
    ap (expr_weight (alone_in lean)) (expr_view-Call f xs) ∙ ap (λ n. 40 + n) (args_sum lean xs)

pub native_weight : (lean : Bool) (n : ℕ) (xs : List Arg)
    → expr_weight (alone_in lean) (expr_view (held.Native n xs))
    ≡ 40 + sum_by (λ arg. arg_weight (alone_in lean) (arg_view arg)) xs
native_weight lean n xs =
    ap (expr_weight (alone_in lean)) (expr_view-Native n xs) ∙ ap (λ n. 40 + n) (args_sum lean xs)

-- a chain, by whether it has links
pub chain_law : (x : Option ℤ) (xs : List Link) (alone : Bool) → IsTrue alone ↔ (xs ≡ [])
    → (if alone then x else option_map truth (chain_value x (links_view xs)))
    ≡ links_value x (links_view xs)
chain_law x [] true h = refl
chain_law x [] false h = absurd (grind (arith, h))
chain_law x (link ∷ links) true h = absurd (grind (arith, h))
chain_law None (link ∷ links) false h = refl
chain_law (Some x) (link ∷ links) false h = refl
