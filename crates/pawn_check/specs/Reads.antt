-- A source as code has read it.
use Rattle.std.specs.Prelude.{◌≡◌, map}
use Rattle.pawn_tree.specs.Declarations.{Tree}
use Rattle.types_rules.specs.Sources.{source_of}
use Rattle.check_source.specs.GroupsView.{groups_view}
use Rattle.check_source.specs.HeadingView.{heading_view}
use Rattle.check_source.specs.SourceView.{source_view}
use Rattle.check_functions.specs.Distinct.{IsDistinct}
use Rattle.check_functions.specs.Own.{AreFirsts}
use Rattle.pawn_check.specs.declared.tree_reading.Reading.{Reading}

-- what is known of a tree: its source with the first headings of its functions, no two of which
-- have one key
pub record IsRead (tree : Tree) (it : Reading) : Type 0 where
  pub source : source_view it.source ≡ source_of tree
  pub firsts : AreFirsts it.source.tags it.source.fallback.now (groups_view it.source.groups)
      (map heading_view it.source.headings) it.firsts.own.items it.firsts.entry
  pub distinct : IsDistinct (groups_view it.source.groups)
