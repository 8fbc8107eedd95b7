-- What is known of a source, as far as the rules of declarations look at it.
use Rattle.std.specs.Prelude.{[], false}
use Rattle.pawn_tree.specs.declared.name.At.{At}
use Rattle.pawn_tree.specs.Declarations.{FunctionOf}
use Rattle.names_rules.specs.Verdict.{Verdict}
use Rattle.types_rules.specs.Points.{Point, tag_of}
use Rattle.types_rules.specs.Statements.{stmt}
use Rattle.types_rules.specs.Stood.{Stood}
use Rattle.types_rules.specs.Declarations.{body_point}
use Rattle.check_nodes.specs.ContextView.{around_view}
use Rattle.types_rules.specs.Sources.{Source}
use Rattle.check_source.specs.AutomataView.{automata_view}
use Rattle.check_source.specs.GroupsView.{groups_view}
use Rattle.check_declarations.specs.declared.known.Known.{Known}

-- without the headings and the names that are called
abbrev pub source_view : Known → Source
source_view it = record {
  tags = it.cx.now.tags;
  fallback = it.fallback.now;
  groups = groups_view it.groups.now;
  headings = [];
  automata = automata_view it.automata.now;
  called = [];
}

-- the body of a function, behind its head
abbrev pub body_verdict : Known → Point → At → FunctionOf → Verdict Stood
body_verdict it point at function =
    stmt (around_view it.cx.now) (automata_view it.automata.now)
    (tag_of (around_view it.cx.now) function.head.tag)
    (body_point (source_view it) (around_view it.cx.now) point at function) false function.body
