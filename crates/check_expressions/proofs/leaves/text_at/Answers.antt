use Rattle.std.proofs.Common.{ℕ, List, subst}
use Rattle.types_rules.specs.NamesAndNumbers.{text_rule}
use Rattle.pawn_verdict.specs.Answers.{Answers}
use Rattle.check_nodes.specs.TypedView.{typed_view}
use Rattle.check_expressions.proofs.leaves.text_at.Goals as goal

pub returns : goal.returns
returns c =
    let P : List ℕ → Type 0 =
    λ bytes. Answers typed_view (text_rule c.args.object c.args.at bytes c.args.packed)
    c.text.result in
    subst P c.as_slice-bytes.ensures c.text.ensures
