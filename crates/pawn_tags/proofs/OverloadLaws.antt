-- An operator stands for these operands exactly where it is defined for them.
use denote.Enum.Bare.{same_true, true_same}
use Rattle.std.proofs.Common.{rules, ◌≡◌, ℕ, true, refl}
use Rattle.std.proofs.lemmas.Bool.{eqb-true, eq-eqb}
use Rattle.std.specs.Cmp.{first_so, second_so}
use Rattle.std.specs.Cmp.Derive.{both_true}
use Rattle.pawn_tags.specs.contracts.op.Op.{the_type}
use Rattle.pawn_tags.specs.declared.op.Op.{Op}
use Rattle.pawn_tags.specs.declared.op.Signature.{Signature}
use Rattle.pawn_tags.specs.Overloads.{is_for}

pub only_for : (op : Op) (left right : ℕ) (signature : Signature)
    → is_for op left right signature ≡ true
    → record { op = op; left = left; right = right } ≡ signature
only_for op left right signature is =
    let tags = second_so _ _ is in
    let ops = same_true the_type (search rules) op signature.op (first_so _ _ is) in
    let lefts = eqb-true left signature.left (first_so _ _ tags) in
    let rights = eqb-true right signature.right (second_so _ _ tags) in
    λ j. record { op = ops j; left = lefts j; right = rights j }

pub itself_for : (op : Op) (left right : ℕ)
    → is_for op left right (record { op = op; left = left; right = right }) ≡ true
itself_for op left right =
    both_true (true_same the_type op op refl)
    (both_true (eq-eqb left left refl) (eq-eqb right right refl))
