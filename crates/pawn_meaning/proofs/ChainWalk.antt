-- A walk over the links of a chain, from its first operand on.
use Rattle.std.proofs.Common.{◌≡◌, ℕ, ℤ, zero, suc, ◌+◌, ◌≤◌, ◌<◌, Bool, true, false, ◌&&◌, is_none}
use Rattle.std.proofs.Common.{List, [], ◌∷◌, Option, Some, None, length, get_or, drop, refl, sym}
use Rattle.std.proofs.Common.{◌∙◌, ap, arith}
use Rattle.std.specs.Prelude.{option_and_then, option_map}
use Rattle.std.specs.List.{sum_by}
use Rattle.std.proofs.lemmas.List.{drop_all}
use Rattle.std.proofs.lemmas.List.Sums.{sum_by-cons}
use Rattle.pawn_cells.specs.declared.cell.Cell.{Cell}
use Rattle.pawn_cells.specs.declared.operator.Comparison.{Comparison}
use Rattle.pawn_cells.specs.Cells.{truth}
use Rattle.pawn_cells.specs.Operators.{cell_in}
use Rattle.pawn_meaning.specs.declared.node.Link.{Link}
use Rattle.pawn_meaning.specs.Program.{Expr, Links, no_links, then_link}
use Rattle.pawn_meaning.specs.View.{expr_view, links_view}
use Rattle.pawn_meaning.specs.Capped.{capped}
use Rattle.pawn_meaning.specs.Fold.{is_constant, are_constant, constant_value, links_value}
use Rattle.pawn_meaning.specs.Fold.{chain_value, link_value, after_link}
use Rattle.pawn_meaning.specs.Weight.{expr_weight, links_weight, alone_in}
use Rattle.pawn_meaning.proofs.Walks.{IsSum, sum_begins, sum_more, sum_ends}

-- what was found of the links before i, and the value of the operand before link i
pub record IsChained (lean : Bool) (xs : List Link) (first : Option Cell) (i : ℕ) (constant : Bool)
    (holds : Option Bool) (left : Option Cell) (weight : ℕ) : Type 0 where
  pub constants : (constant && are_constant (links_view (drop i xs))) ≡ are_constant (links_view xs)
  pub holding : after_link holds (chain_value (cell_in left) (links_view (drop i xs)))
      ≡ chain_value (cell_in first) (links_view xs)
  pub weighed : IsSum (λ link. expr_weight (alone_in lean) (expr_view link.operand)) xs i weight

pub chained_begins : (lean : Bool) (xs : List Link) (first : Option Cell)
    → IsChained lean xs first 0 true (Some true) first 0
chained_begins lean xs first = record { constants = refl; holding = refl; weighed = sum_begins }

at_drop : (xs : List Link) (i : ℕ) (x d : Link) → i < length xs → x ≡ get_or xs i d
    → drop i xs ≡ x ∷ drop (suc i) xs
at_drop [] i x d l e = absurd (omega arith)
at_drop (y ∷ ys) zero x d l e = rw e refl
at_drop (y ∷ ys) (suc i) x d l e = at_drop ys i x d (omega arith) e

after_assoc : (a b c : Option Bool) → after_link (after_link a b) c ≡ after_link a (after_link b c)
after_assoc None b c = refl
after_assoc (Some false) b c = refl
after_assoc (Some true) b c = refl

constant_more : (k : Bool) (op : Comparison) (e : Expr) (f : Option ℕ) (s : Bool) (links : Links)
    → (((k && is_none f) && is_constant e) && are_constant links)
    ≡ (k && are_constant (then_link op e f s links))
constant_more false op e f s links = refl
constant_more true op e None s links = refl
constant_more true op e (Some f) s links = refl

holding_more : (holds : Option Bool) (op : Comparison) (left right : Option ℤ) (links : Links)
    (e : Expr) (f : Option ℕ) (s : Bool) → constant_value e ≡ right
    → after_link (after_link holds (option_and_then (λ v. link_value op v right) left))
    (chain_value right links)
    ≡ after_link holds (chain_value left (then_link op e f s links))
holding_more holds op None right links e f s c = after_assoc holds None (chain_value right links)
holding_more holds op (Some x) right links e f s c =
    rw c (after_assoc holds (link_value op x right) (chain_value right links))

pub chained_more : (lean : Bool) (xs : List Link) (first : Option Cell) (i : ℕ) (constant : Bool)
    (holds : Option Bool) (left : Option Cell) (weight : ℕ)
    (x d : Link) (right : Option Cell) (k : Bool) (m : ℕ) (link : Option Bool)
    → IsChained lean xs first i constant holds left weight → i < length xs → x ≡ get_or xs i d
    → k ≡ is_constant (expr_view x.operand) → cell_in right ≡ constant_value (expr_view x.operand)
    → m ≡ capped (expr_weight (alone_in lean) (expr_view x.operand))
    → link ≡ option_and_then (λ v. link_value x.op v (cell_in right)) (cell_in left)
    → IsChained lean xs first (i + 1) ((constant && is_none x.function) && k)
    (after_link holds link) right (capped (weight + m))
chained_more lean xs first i constant holds left weight x d right k m link p l e ck cv cm cl =
    let next : i + 1 ≡ suc i = omega arith in
    let more = sum_more x d m p.weighed l e cm in
    let rest = at_drop xs i x d l e in
    record {
      constants =
          rw (next, ck) (constant_more constant x.op (expr_view x.operand) x.function x.swapped
          (links_view (drop (suc i) xs))
          ∙ sym (ap (λ ys. constant && are_constant (links_view ys)) rest) ∙ p.constants);
      holding =
          rw (next, cl) (holding_more holds x.op (cell_in left) (cell_in right)
          (links_view (drop (suc i) xs)) (expr_view x.operand) x.function x.swapped (sym cv)
          ∙ sym (ap (λ ys. after_link holds (chain_value (cell_in left) (links_view ys))) rest)
          ∙ p.holding);
      weighed = more;
    }

and_true : (k : Bool) → (k && true) ≡ k
and_true true = refl
and_true false = refl

links_sum : (lean : Bool) (xs : List Link)
    → links_weight (alone_in lean) (links_view xs)
    ≡ sum_by (λ link. expr_weight (alone_in lean) (expr_view link.operand)) xs
links_sum lean [] = refl
links_sum lean (x ∷ xs) =
    omega (
      arith,
      links_sum lean xs,
      sum_by-cons (λ (link : Link). expr_weight (alone_in lean) (expr_view link.operand)) x xs,
    )

-- what was found of all links
pub record AreChained (lean : Bool) (xs : List Link) (first : Option Cell) (constant : Bool)
    (holds : Option Bool) (weight : ℕ) : Type 0 where
  pub constants : constant ≡ are_constant (links_view xs)
  pub holding : holds ≡ chain_value (cell_in first) (links_view xs)
  pub weighed : weight ≡ capped (links_weight (alone_in lean) (links_view xs))

pub chained_ends : (lean : Bool) (xs : List Link) (first : Option Cell) (i : ℕ) (constant : Bool)
    (holds : Option Bool) (left : Option Cell) (weight : ℕ)
    → IsChained lean xs first i constant holds left weight → length xs ≤ i
    → AreChained lean xs first constant
    (after_link holds (chain_value (cell_in left) no_links)) weight
chained_ends lean xs first i constant holds left weight p l =
    let none = drop_all i xs l in
    record {
      constants =
          sym (and_true constant) ∙ sym (ap (λ ys. constant && are_constant (links_view ys)) none)
          ∙ p.constants;
      holding =
          sym (ap (λ ys. after_link holds (chain_value (cell_in left) (links_view ys))) none)
          ∙ p.holding;
      weighed = sum_ends _ xs i weight p.weighed l ∙ ap capped (sym (links_sum lean xs));
    }
