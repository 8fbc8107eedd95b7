-- The parts of a source, by its bodies and the names of its tags.
use Rattle.std.specs.Prelude.{◌≡◌, List, []}
use Rattle.pawn_tree.specs.Declarations.{Tree}
use Rattle.types_rules.specs.Groups.{Written, grouped, entry_automata, only_one}
use Rattle.types_rules.specs.Automata.{automata}
use Rattle.types_rules.specs.Headings.{headings}
use Rattle.types_rules.specs.Sources.{Source}
use Rattle.check_source.specs.CalledView.{called_by}

-- all but the names of its tags
pub record AreParts (tree : Tree) (bodies : List Written) (source : Source) : Type 0 where
  pub fallback : source.fallback ≡ only_one (entry_automata [] bodies)
  pub groups : source.groups ≡ grouped source.tags source.fallback [] bodies
  pub headings : source.headings ≡ headings tree
  pub automata : source.automata ≡ automata source.tags source.fallback source.groups bodies
  pub called : source.called ≡ called_by bodies
