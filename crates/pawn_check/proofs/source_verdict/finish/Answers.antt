use Rattle.std.proofs.Common.{◌≡◌, ℤ, w32, map, ap, ◌∙◌}
use Rattle.std.proofs.lemmas.Int.{to_z-of_z}
use Rattle.pawn_tree.specs.View.{tree_view}
use Rattle.pawn_tree.specs.declared.name.At.{At}
use Rattle.pawn_meaning.specs.Program.{Program}
use Rattle.pawn_meaning.specs.View.{program_view}
use Rattle.types_rules.specs.TypedTrees.{Checked}
use Rattle.check_source.specs.SourceView.{source_view}
use Rattle.check_declarations.specs.DoneView.{done_view}
use Rattle.pawn_check.specs.TreeParts.{checked_by}
use Rattle.pawn_check.proofs.TogetherLaws.{whole_within}
use Rattle.pawn_check.proofs.source_verdict.finish.Goals as goal

pub returns : goal.returns
returns c =
    let made : ℤ → Checked = λ d.
    checked_by (source_view c.args.reading.now.source) (tree_view c.args.tree.now) d
    (done_view c.args.done) in
    whole_within (made c.args.dynamic)
    (program_view c.in_ok-program.program) c.in_ok-warnings.warnings c.within.result
    (c.in_ok-program.ensures ∙ ap (λ (d : ℤ). (made d).program)
    (to_z-of_z w32 c.args.dynamic c.ranges.dynamic))
    (c.in_ok-warnings.ensures ∙ ap (map (λ (at : At). at.place)) c.as_slice.ensures)
    c.within.ensures
