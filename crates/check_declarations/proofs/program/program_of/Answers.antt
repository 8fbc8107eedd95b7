use Rattle.std.proofs.Common.{[], map, w32}
use Rattle.std.proofs.lemmas.Int.{to_z-of_z}
use Rattle.pawn_tree.specs.View.{tree_view}
use Rattle.names_rules.specs.TreeMarks.{tree_marks}
use Rattle.pawn_meaning.specs.View.{object_view}
use Rattle.types_rules.specs.Paths.{heads}
use Rattle.types_rules.specs.Sources.{without_heads, beginning}
use Rattle.check_source.specs.SourceView.{source_view}
use Rattle.check_declarations.specs.DoneView.{bodied_view}
use Rattle.check_declarations.proofs.ProgramLaws.{program_is}
use Rattle.check_declarations.proofs.program.program_of.Goals as goal

pub returns : goal.returns
returns c =
    let source = source_view c.args.source.now in
    program_is source (heads (without_heads source) (beginning source) (tree_view c.args.tree.now))
    (tree_marks (tree_view c.args.tree.now)) c.args.dynamic _
    (record {
      objects = map object_view c.args.objects;
      bodies = map bodied_view c.args.bodies.items;
      warned = [];
    })
    _ _ _ _ _ _
    c.in_ok-functions.ensures c.in_ok-natives.ensures c.in_ok-automata.ensures c.in_ok-tags.ensures
    c.requires.publics c.entry_of-entry.ensures
    (to_z-of_z w32 c.args.dynamic c.ranges.dynamic)
