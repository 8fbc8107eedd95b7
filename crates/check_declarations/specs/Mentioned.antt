-- Which names marks mention, one mark after another, and the tags of names.
use Rattle.std.specs.Prelude.{◌≡◌, ℕ, List, [], ◌∷◌, ◌++◌, map, drop, Bool, true, false, ◌||◌}
use Rattle.std.specs.Str.{bytes_eq}
use Rattle.pawn_meaning.specs.Program.{Tag}
use Rattle.pawn_meaning.specs.View.{tag_view}
use Rattle.pawn_meaning.specs.declared.program.Tag as held
use Rattle.names_rules.specs.Mark.{Mark, Opens, Closes, Mentions, Uses, Declares}
use Rattle.types_rules.specs.Programs.{tags_from}

-- whether a name is mentioned, by one mark more than those that say so
abbrev pub mentions_by : Mark → List ℕ → Bool → Bool
mentions_by Opens name before = before
mentions_by Closes name before = before
mentions_by (Mentions tag) name before = bytes_eq tag name || before
mentions_by (Uses it) name before = before
mentions_by (Declares it) name before = before

-- the tag of a name, where it is spelled
abbrev pub tag_by : Bool → ℕ → List ℕ → List Tag
tag_by false number name = []
tag_by true number name = record { number = number; name = name } ∷ []

-- the tags of so many names are listed
pub record Listed (marks : List Mark) (names : List (List ℕ)) (i : ℕ) (list : List held.Tag)
    : Type 0 where
  pub same : map tag_view list ++ tags_from marks i (drop i names) ≡ tags_from marks 0 names
