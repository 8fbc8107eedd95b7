use Rattle.std.proofs.Common.{◌≡◌, ◌++◌, map, sym, ap, subst, ◌∙◌, arith}
use Rattle.std.specs.Prelude.{slice_get, option_map, ◌&&◌, not, nat_eq, Some}
use Rattle.pawn_tags.specs.Tags.{untagged}
use Rattle.pawn_meaning.specs.View.{tag_view}
use Rattle.types_rules.specs.Programs.{mentions}
use Rattle.names_sight.specs.MarkView.{marks_view}
use Rattle.check_declarations.specs.Mentioned.{tag_by}
use Rattle.check_declarations.proofs.TagLaws.{listed_more, listed_all, name_there}
use Rattle.check_declarations.proofs.tags.program_tags.Goals as goal

pub unreachable-requires : goal.unreachable-requires
unreachable-requires c =
    name_there c.args.tags.now c.in_ok-number.number (omega arith)
    (sym c.name.ensures ∙ ap (option_map (λ name. name.now)) c.in_default.is)

pub loop-place-preserved : goal.loop-place-preserved
loop-place-preserved c =
    let same = c.in_ok-number.ensures in
    let name = c.in-Some.name.now in
    let spelled = c.is_spelled-spelled.result in
    listed_more name spelled c.loop-place.invariant
    (subst (λ n. slice_get c.args.tags.now n ≡ Some name) same (sym c.in-Some.ensures))
    (subst (λ n. spelled ≡ (not (nat_eq n untagged) && mentions (marks_view c.args.marks.now) name))
    same
    (c.is_spelled-spelled.ensures ∙ ap (λ b. not (nat_eq c.in_ok-number.number untagged) && b)
    (c.in_ok-names.ensures name)))
    (subst (λ n. map tag_view c.add_tag.new.list
    ≡ map tag_view c.loop-place.list ++ tag_by spelled n name) same c.in_ok-add_tag.ensures)

pub returns : goal.returns
returns c = listed_all c.loop-place.invariant (omega arith)
