-- What the definitions see of a source that code holds.
use Rattle.std.specs.Prelude.{map}
use Rattle.types_rules.specs.Sources as plain
use Rattle.check_source.specs.AutomataView.{automata_view}
use Rattle.check_source.specs.GroupsView.{groups_view}
use Rattle.check_source.specs.declared.source.Source.{Source}
use Rattle.check_source.specs.HeadingView.{heading_view}

-- a source
abbrev pub source_view : Source → plain.Source
source_view it = record {
  tags = it.tags;
  fallback = it.fallback.now;
  groups = groups_view it.groups;
  headings = map heading_view it.headings;
  automata = automata_view it.automata;
  called = it.called;
}
