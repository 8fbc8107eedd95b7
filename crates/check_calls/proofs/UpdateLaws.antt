-- An operator with `=`, by its parts.
use Rattle.std.proofs.Common.{◌≡◌, ℕ, Option, Result, sym, ap, subst, ◌∙◌}
use Rattle.pawn_cells.specs.declared.operator.Operator.{Operator}
use Rattle.pawn_tree.specs.declared.name.At.{At}
use Rattle.pawn_tags.specs.declared.op.Op.{Op}
use Rattle.pawn_tags.specs.declared.operators.Choice.{Choice}
use Rattle.pawn_meaning.specs.Program.{Scalar, Expr}
use Rattle.names_rules.specs.Verdict.{Verdict, Stands}
use Rattle.types_rules.specs.Around.{Around}
use Rattle.types_rules.specs.Operators.{chosen}
use Rattle.types_rules.specs.Typed.{Typed, cell}
use Rattle.types_rules.specs.Assignments.{target, updated, update_rule}
use Rattle.pawn_verdict.specs.declared.fault.CheckFault.{CheckFault}
use Rattle.pawn_verdict.specs.Answers.{Answers}
use Rattle.pawn_verdict.proofs.VerdictLaws.{both_is}
use Rattle.check_nodes.specs.declared.typed.Typed as held
use Rattle.check_nodes.specs.TypedView.{typed_view}

-- its cell and its operand are taken, and its operator is chosen
pub update_answers : (cx : Around) (at : At) (it : Operator) (user : Option Op) (x y : Typed)
    (p : Scalar) (e : Expr) (by : Option Choice) (result : Result held.Typed CheckFault)
    → target at x ≡ Stands p → cell at y ≡ Stands e → by ≡ chosen cx user x.tag y.tag
    → Answers typed_view (updated cx at it x y p e by) result
    → Answers typed_view (update_rule cx at it user x y) result
unfolding update_rule
update_answers cx at it user x y p e by result h k b answered =
    let P : Verdict Typed → Type 0 = λ w. Answers typed_view w result in
    subst P (sym (
    both_is (target at x) (cell at y)
    (λ q f. updated cx at it x y q f (chosen cx user x.tag y.tag)) p e h k
    ∙ ap (λ (c : Option Choice). updated cx at it x y p e c) (sym b))) answered
