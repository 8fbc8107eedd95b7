use Rattle.std.proofs.Common.{List, map, subst}
use Rattle.pawn_tree.specs.View.{tree_view}
use Rattle.check_source.specs.declared.written.Written.{Written}
use Rattle.check_source.specs.WrittenView.{written_view}
use Rattle.check_source.specs.SourceView.{source_view}
use Rattle.check_declarations.specs.SourceParts.{AreParts}
use Rattle.check_declarations.proofs.source_reading.parts.Goals as goal

pub returns-clause-parts : goal.returns-clause-parts
returns-clause-parts c =
    subst (λ (bs : List Written). AreParts (tree_view c.args.tree.now) (map written_view bs)
    (source_view (record {
      tags = c.args.tags;
      fallback = c.entry_fallback-fallback.result;
      groups = c.in_ok-groups.groups;
      headings = c.in_ok-headings.headings;
      automata = c.in_ok-automata.automata;
      called = c.in_ok-called.called;
    }))) c.as_slice-bodies.ensures
    (record {
      fallback = c.entry_fallback-fallback.ensures;
      groups = c.in_ok-groups.ensures;
      headings = c.in_ok-headings.ensures;
      automata = c.in_ok-automata.ensures;
      called = c.in_ok-called.ensures;
    })
