use Rattle.std.proofs.Common.{map, ◌∙◌}
use Rattle.pawn_tree.specs.View.{tree_view}
use Rattle.check_source.specs.GroupsView.{groups_view}
use Rattle.check_source.specs.WrittenView.{written_view}
use Rattle.check_source.specs.SourceView.{source_view}
use Rattle.check_functions.proofs.DistinctLaws.{distinct_of}
use Rattle.check_declarations.proofs.ReadLaws.{source_by}
use Rattle.check_declarations.proofs.source_reading.read_source.Goals as goal

pub returns-clause-source : goal.returns-clause-source
returns-clause-source c =
    source_by (tree_view c.args.tree.now) (map written_view c.in_ok-bodies.bodies)
    (source_view c.in_ok-source.source) c.in_ok-source.ensures.parts
    (c.in_ok-source.ensures.tags ∙ c.in_ok-tags.ensures) c.in_ok-bodies.ensures

pub returns-clause-distinct : goal.returns-clause-distinct
returns-clause-distinct c =
    distinct_of (groups_view c.in_ok-source.source.groups) c.in_ok-source.source.tags
    c.in_ok-source.source.fallback.now (map written_view c.in_ok-bodies.bodies)
    c.in_ok-source.ensures.parts.groups
