-- An operator has no more than two parameters, and none with dimensions.
use Rattle.std.proofs.Common.{◌≡◌, ◌≤◌, ℕ, Bool, true, false, List, [], ◌∷◌, map, length, Option}
use Rattle.std.proofs.Common.{Some, None, refl, arith}
use Rattle.pawn_tree.specs.declared.name.Name.{Name}
use Rattle.pawn_tree.specs.declared.expression.Expr.{Expr}
use Rattle.pawn_tree.specs.declared.variable.Dim.{Dim}
use Rattle.pawn_tree.specs.declared.declaration.Param.{Param}
use Rattle.pawn_tree.specs.declared.declaration.Param.TheVariants as held
use Rattle.pawn_tree.specs.View.{param_view}
use Rattle.pawn_tags.specs.Overloads.{Overloads}
use Rattle.pawn_tags.specs.declared.op.Op.{Op}
use Rattle.names_rules.specs.Overloads.{plain_tag, plain_tags, with_tag}
use Rattle.names_sight.specs.Operators.{operator_by}

three_tags : (sign : Op) (right : ℕ) (defined : Overloads) (a b c : Option ℕ)
    (more : Option (List ℕ))
    → operator_by sign right defined (with_tag a (with_tag b (with_tag c more))) ≡ defined
three_tags sign right defined None b c more = refl
three_tags sign right defined (Some x) None c more = refl
three_tags sign right defined (Some x) (Some y) None more = refl
three_tags sign right defined (Some x) (Some y) (Some z) None = refl
three_tags sign right defined (Some x) (Some y) (Some z) (Some more) = refl

pub many_tags : (sign : Op) (right : ℕ) (defined : Overloads) (names : List (List ℕ))
    (params : List Param) → 3 ≤ length params
    → operator_by sign right defined (plain_tags names (map param_view params)) ≡ defined
many_tags sign right defined names [] h = absurd (omega (arith, h))
many_tags sign right defined names (x ∷ []) h = absurd (omega (arith, h))
many_tags sign right defined names (x ∷ y ∷ []) h = absurd (omega (arith, h))
many_tags sign right defined names (x ∷ y ∷ z ∷ more) h =
    three_tags sign right defined (plain_tag names (param_view x)) (plain_tag names (param_view y))
    (plain_tag names (param_view z)) (plain_tags names (map param_view more))

pub has_dims : (names : List (List ℕ)) (constant reference : Bool) (tags : List Name) (name : Name)
    (dims : List Dim) (value : Option Expr) → (dims ≡ [] → ⊥)
    → plain_tag names (param_view (held.Plain constant reference tags name dims value)) ≡ None
has_dims names constant true tags name dims value h = refl
has_dims names constant false tags name [] value h = absurd (h refl)
has_dims names constant false tags name (x ∷ dims) value h = refl
