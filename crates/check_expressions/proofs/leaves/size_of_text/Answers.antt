use Rattle.std.proofs.Common.{ℕ, List, length, pos, subst}
use Rattle.pawn_tags.specs.Tags.{untagged}
use Rattle.names_rules.specs.Verdict.{Stands, after}
use Rattle.types_rules.specs.NamesAndNumbers.{size_of_text as plain_size, constant_value}
use Rattle.types_rules.specs.Texts.{text_cells}
use Rattle.pawn_verdict.specs.Answers.{Answers}
use Rattle.check_nodes.specs.TypedView.{typed_view}
use Rattle.check_expressions.proofs.leaves.size_of_text.Goals as goal

pub returns : goal.returns
returns c =
    let P : List ℕ → Type 0 =
    λ bytes. Answers typed_view (after
    (plain_size c.args.at c.args.dimension (length (text_cells c.args.packed bytes)))
    (λ size. Stands (constant_value c.args.at (pos size) untagged))) c.sizeof_text.result in
    subst P c.as_slice-bytes.ensures c.sizeof_text.ensures
