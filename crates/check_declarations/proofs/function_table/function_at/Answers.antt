use Rattle.std.proofs.Common.{map, sym, ap, ◌∙◌, position}
use Rattle.types_rules.specs.Groups.{Group}
use Rattle.types_rules.specs.Functions.{clauses}
use Rattle.types_rules.specs.Headings.{belongs}
use Rattle.types_rules.specs.Programs.{dispatch_by}
use Rattle.pawn_meaning.specs.View.{body_view, slot_view}
use Rattle.check_source.specs.AutomataView.{automata_view}
use Rattle.check_source.specs.GroupsView.{groups_view, group_view}
use Rattle.check_source.specs.HeadingView.{heading_view}
use Rattle.check_source.specs.SourceView.{source_view}
use Rattle.check_functions.proofs.AtLaws.{seen_within, one_at}
use Rattle.check_functions.proofs.OwnLaws.{has_number}
use Rattle.check_declarations.proofs.ProgramLaws.{bare_is}
use Rattle.check_declarations.proofs.function_table.function_at.Goals as goal

pub returns : goal.returns
returns c = λ group here.
    let at =
    seen_within group_view c.as_slice.ensures c.index-as_slice-place.is c.requires.within in
    let same = one_at (group_view c.index-as_slice-place.result) group (sym at ∙ here) in
    let first =
    c.first-first.ensures (has_number (groups_view c.args.source.now.groups) c.args.place
    (group_view c.index-as_slice-place.result) at) in
    bare_is (source_view c.args.source.now) (map heading_view c.args.source.now.headings) group
    c.first-first.result c.tag_at-tag.result _ _ _
    (first ∙ ap (λ (g : Group). position
    (belongs c.args.source.now.tags c.args.source.now.fallback.now g.key)
    (map heading_view c.args.source.now.headings)) same)
    c.tag_at-tag.ensures
    (c.in_ok-dispatch.ensures ∙ ap
    (λ (g : Group). dispatch_by (automata_view c.args.source.now.automata) (clauses g)) same)
    (ap (map slot_view) c.new.ensures) (ap (map body_view) c.new-2.ensures)
