-- What is known of a source, part by part.
use Rattle.std.proofs.Common.{◌≡◌, ℕ, List, [], sym, ap, ap₂, ◌∙◌}
use Rattle.pawn_tree.specs.Declarations.{Tree}
use Rattle.pawn_meaning.specs.Program.{Automaton}
use Rattle.names_rules.specs.TreeMarks.{tree_marks}
use Rattle.names_rules.specs.Around.{tags_of}
use Rattle.types_rules.specs.Groups.{Written, Group, written, grouped, groups, entry_fallback}
use Rattle.types_rules.specs.Groups.{entry_automata, only_one}
use Rattle.types_rules.specs.Automata.{automata}
use Rattle.types_rules.specs.Headings.{Heading, headings}
use Rattle.types_rules.specs.Sources.{Source, source_of}
use Rattle.check_source.specs.CalledView.{called_by}
use Rattle.check_declarations.specs.SourceParts.{AreParts}

pub source_is : (tree : Tree) (names : List (List ℕ)) (fallback : List ℕ) (bodies : List Written)
    (all : List Group) (heads : List Heading)
    (states : List Automaton) (called : List (List ℕ))
    → names ≡ tags_of (tree_marks tree) → bodies ≡ written tree
    → fallback ≡ only_one (entry_automata [] bodies)
    → all ≡ grouped names fallback [] bodies → heads ≡ headings tree
    → states ≡ automata names fallback all bodies → called ≡ called_by bodies
    → record {
      tags = names;
      fallback = fallback;
      groups = all;
      headings = heads;
      automata = states;
      called = called;
    } ≡ source_of tree
source_is tree names fallback bodies all heads states called t w f g h a c =
    let f' : fallback ≡ entry_fallback tree =
    f ∙ ap (λ (bs : List Written). only_one (entry_automata [] bs)) w in
    let g' : all ≡ groups (tags_of (tree_marks tree)) tree =
    g ∙ ap (λ (ns : List (List ℕ)). grouped ns fallback [] bodies) t
    ∙ ap₂ (λ (fb : List ℕ) (bs : List Written). grouped (tags_of (tree_marks tree)) fb [] bs) f' w
    in
    let a' : states ≡ automata (tags_of (tree_marks tree)) (entry_fallback tree)
    (groups (tags_of (tree_marks tree)) tree) (written tree) =
    a ∙ ap₂ (λ (ns : List (List ℕ)) (fb : List ℕ). automata ns fb all bodies) t f'
    ∙ ap₂ (λ (gs : List Group) (bs : List Written). automata (tags_of (tree_marks tree))
    (entry_fallback tree) gs bs) g' w in
    let c' : called ≡ called_by (written tree) = c ∙ ap called_by w in
    λ j. record {
      tags = t j;
      fallback = f' j;
      groups = g' j;
      headings = h j;
      automata = a' j;
      called = c' j;
    }

pub source_by : (tree : Tree) (bodies : List Written) (source : Source)
    → AreParts tree bodies source → source.tags ≡ tags_of (tree_marks tree) → bodies ≡ written tree
    → source ≡ source_of tree
source_by tree bodies source parts t w =
    source_is tree source.tags source.fallback bodies source.groups source.headings source.automata
    source.called t w parts.fallback parts.groups parts.headings
    parts.automata parts.called
