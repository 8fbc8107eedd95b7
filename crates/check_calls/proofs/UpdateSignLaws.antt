-- Signs other than `=` are those of operators with `=`, or nothing.
use Rattle.std.proofs.Common.{◌≡◌, Result, refl, subst}
use Rattle.pawn_token.specs.declared.sign.Sign.{Sign}
use Rattle.pawn_token.specs.declared.sign.Sign.TheVariants as sign
use Rattle.pawn_tree.specs.declared.name.At.{At}
use Rattle.names_rules.specs.Signs.{Between}
use Rattle.types_rules.specs.Around.{Around}
use Rattle.types_rules.specs.Typed.{Typed}
use Rattle.types_rules.specs.Signs.{updater_of}
use Rattle.types_rules.specs.Assignments.{assign_rule, update_by}
use Rattle.pawn_verdict.specs.declared.fault.CheckFault.{CheckFault}
use Rattle.pawn_verdict.specs.Answers.{Answers}
use Rattle.check_nodes.specs.declared.typed.Typed as held
use Rattle.check_nodes.specs.TypedView.{typed_view}

updates : (cx : Around) (at : At) (it : Sign) (x y : Typed)
    (result : Result held.Typed CheckFault) → (it ≡ sign.Assign → ⊥)
    → Answers typed_view (update_by cx at (updater_of it) x y) result
    → Answers typed_view (assign_rule cx at it x y) result
updates cx at sign.Assign x y result a h = absurd (a refl)
updates cx at _ x y result a h = h

-- the same by what the sign stands for
pub updates_by : (cx : Around) (at : At) (it : Sign) (x y : Typed) (by : Between)
    (result : Result held.Typed CheckFault) → (it ≡ sign.Assign → ⊥) → by ≡ updater_of it
    → Answers typed_view (update_by cx at by x y) result
    → Answers typed_view (assign_rule cx at it x y) result
updates_by cx at it x y by result a e h =
    let P : Between → Type 0 = λ b. Answers typed_view (update_by cx at b x y) result in
    updates cx at it x y result a (subst P e h)
