-- The program of a source whose declarations stand.
use Rattle.std.specs.Prelude.{ℕ, ℤ, ◌+◌, List, [], ◌∷◌, map, filter, Bool, false, ◌||◌, nat_eq}
use Rattle.std.specs.Prelude.{if◌then◌else◌, Option, None, Some}
use Rattle.std.specs.Str.{bytes_eq}
use Rattle.pawn_states.specs.declared.clause.Clause.{Clause}
use Rattle.pawn_meaning.specs.Program.{Slot, Route, Function, Automaton, Tag, Program}
use Rattle.pawn_tags.specs.Tags.{untagged}
use Rattle.names_rules.specs.Mark.{Mark, Opens, Closes, Mentions, Uses, Declares}
use Rattle.types_rules.specs.Keys.{Named}
use Rattle.types_rules.specs.Groups.{Group, number_of}
use Rattle.types_rules.specs.Routes.{route}
use Rattle.types_rules.specs.Functions.{clauses, main_name}
use Rattle.types_rules.specs.Declarations.{Bodied, Done}
use Rattle.types_rules.specs.Publics.{publics}
use Rattle.types_rules.specs.Sources.{Source, Stated, group_tag, natives_in, is_called, name_of}

-- ---- functions

-- the bodies of the function with a number, in token order
abbrev pub bodies_of : List Bodied → ℕ → List Bodied
bodies_of all number = filter (λ (it : Bodied). nat_eq it.number number) all

-- the parameters of a function are those of its first body
abbrev pub params_of : List Bodied → List Slot
params_of [] = []
params_of (it ∷ more) = it.params

-- a function without a classifier has no dispatch
abbrev pub dispatch_by : List Automaton → List Clause → Option Route
dispatch_by automata [] = None
dispatch_by automata (it ∷ more) = Some (route automata (it ∷ more))

-- a function by its bodies, one for each classifier
abbrev pub function_of : List Automaton → ℕ → Group → List Bodied → Function
function_of automata tag group bodies = record {
  params = params_of bodies;
  tag = tag;
  dispatch = dispatch_by automata (clauses group);
  bodies = map (λ (it : Bodied). it.body) bodies;
}

-- ---- tags

-- a tag's name is mentioned in a source, as its marks tell
abbrev pub mentions : List Mark → List ℕ → Bool
mentions [] name = false
mentions (Opens ∷ before) name = mentions before name
mentions (Closes ∷ before) name = mentions before name
mentions (Mentions tag ∷ before) name = bytes_eq tag name || mentions before name
mentions (Uses it ∷ before) name = mentions before name
mentions (Declares it ∷ before) name = mentions before name

-- the names that are mentioned, from a number on; `_` is no tag
unfoldable pub tags_from : List Mark → ℕ → List (List ℕ) → List Tag
tags_from marks number [] = []
tags_from marks number (name ∷ more) =
    if nat_eq number untagged then tags_from marks (number + 1) more
    else if mentions marks name then record { number = number; name = name }
    ∷ tags_from marks (number + 1) more
    else tags_from marks (number + 1) more

module _ (source : Source) (all : List Stated) where
  -- functions from a number on, one for each group of bodies
  unfoldable pub program_functions : ℕ → List Group → List Bodied → List Function
  program_functions number [] bodies = []
  program_functions number (group ∷ more) bodies =
      function_of source.automata (group_tag source all group) group (bodies_of bodies number)
      ∷ program_functions (number + 1) more bodies

  -- the natives that are called, in order of declaration
  abbrev pub natives : List (List ℕ)
  natives =
      map (λ (it : Stated). name_of it.heading.head.name)
      (filter (λ (it : Stated). is_called source it.heading) (natives_in source all))

  -- the program that declarations which stand make, with `main` as its entry
  abbrev pub program_of : List Mark → ℤ → Done → Program
  program_of marks dynamic done = record {
    objects = done.objects;
    functions = program_functions 0 source.groups done.bodies;
    natives = natives;
    automata = source.automata;
    tags = tags_from marks 0 source.tags;
    publics = publics source;
    entry = number_of source.groups (Named main_name);
    dynamic = dynamic;
  }
