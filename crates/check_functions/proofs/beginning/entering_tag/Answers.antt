use Rattle.std.proofs.Common.{◌≡◌, ◌∙◌, Bool, List, [], map, Option, Some, None, option_map, sym}
use Rattle.std.proofs.Common.{ap}
use Rattle.std.specs.Prelude.{find}
use Rattle.types_rules.specs.Groups.{Group}
use Rattle.types_rules.specs.Headings.{is_enters}
use Rattle.types_rules.specs.Sources as spec
use Rattle.check_source.specs.KeyView.{key_view}
use Rattle.check_source.specs.declared.groups.Group.{Group as HeldGroup}
use Rattle.check_source.specs.GroupsView.{groups_view, group_view}
use Rattle.check_source.specs.HeadingView.{heading_view}
use Rattle.check_source.specs.SourceView.{source_view}
use Rattle.check_functions.proofs.FirstEntryLaws.{found_viewed, found_has}
use Rattle.check_functions.proofs.StatedLaws.{group_tag_is}
use Rattle.check_functions.proofs.beginning.entering_tag.Goals as goal

abbrev enters : Group → Bool
enters group = is_enters group.key

abbrev held_enters : HeldGroup → Bool
held_enters group = is_enters (key_view group.key)

-- what is found among the functions that code holds
seen : (list items : List HeldGroup) (found : Option HeldGroup) → found ≡ find held_enters list
    → list ≡ items
    → find enters (groups_view items) ≡ option_map group_view found
seen list items found e same =
    sym (found_viewed group_view enters items)
    ∙ ap (option_map group_view) (sym (e ∙ ap (find held_enters) same))

pub returns-in-None : goal.returns-in-None
returns-in-None c =
    ap (option_map (spec.group_tag (source_view c.args.source.now)
    (spec.stated (source_view c.args.source.now) (map heading_view c.args.source.now.headings) [])))
    (sym (seen c.as_slice.result.now c.args.source.now.groups None c.in-None.ensures
    c.as_slice.ensures))

pub returns-in-Some : goal.returns-in-Some
returns-in-Some c =
    let there : find enters (groups_view c.args.source.now.groups)
    ≡ Some (group_view c.in-Some.group.now) =
    seen c.as_slice.result.now c.args.source.now.groups
    (Some c.in-Some.group.now) c.in-Some.ensures c.as_slice.ensures in
    let first = c.first-first.ensures
    (found_has enters (groups_view c.args.source.now.groups) (group_view c.in-Some.group.now) there)
    in
    ap Some (c.tag_at.ensures
    ∙ sym (group_tag_is (source_view c.args.source.now)
    (map heading_view c.args.source.now.headings) []
    (group_view c.in-Some.group.now) c.first-first.result first))
    ∙ ap (option_map (spec.group_tag (source_view c.args.source.now)
    (spec.stated (source_view c.args.source.now) (map heading_view c.args.source.now.headings) [])))
    (sym there)
