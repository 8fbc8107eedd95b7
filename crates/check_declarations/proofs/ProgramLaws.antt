-- A program by its parts: typed heads don't matter.
use Rattle.std.proofs.Common.{◌≡◌, ◌+◌, ℕ, ℤ, List, [], ◌∷◌, refl, sym, ap, ap₂, ◌∙◌, position}
use Rattle.std.specs.Prelude.{Option}
use Rattle.types_rules.specs.Around.{Head}
use Rattle.pawn_meaning.specs.Program.{Slot, Body, Route, Function, Automaton, Tag, Public}
use Rattle.names_rules.specs.Mark.{Mark}
use Rattle.types_rules.specs.Keys.{Named}
use Rattle.types_rules.specs.Groups.{Group, number_of}
use Rattle.types_rules.specs.Headings.{Heading, belongs}
use Rattle.types_rules.specs.Declarations.{Bodied, Done}
use Rattle.types_rules.specs.Functions.{clauses, main_name}
use Rattle.types_rules.specs.Publics.{publics}
use Rattle.types_rules.specs.Sources.{Source, stated, group_tag}
use Rattle.types_rules.specs.Programs.{bodies_of, dispatch_by, function_of, program_functions}
use Rattle.types_rules.specs.Programs.{natives, tags_from, program_of}
use Rattle.check_functions.specs.Stated.{heading_at, heading_tag}
use Rattle.check_functions.proofs.StatedLaws.{group_tag_is}
use Rattle.check_declarations.proofs.NativeLaws.{natives_same}

module _ (source : Source) where
  tag_same : (headings : List Heading) (heads : List (Option Head)) (group : Group)
      → group_tag source (stated source headings []) group
      ≡ group_tag source (stated source headings heads) group
  tag_same headings heads group =
      let first : Option ℕ = position (belongs source.tags source.fallback group.key) headings in
      group_tag_is source headings [] group first refl
      ∙ sym (group_tag_is source headings heads group first refl)

  -- a function without its bodies, by its first heading
  pub bare_is : (headings : List Heading) (group : Group) (first : Option ℕ) (tag : ℕ)
      (dispatch : Option Route) (params : List Slot) (bodies : List Body)
      → first ≡ position (belongs source.tags source.fallback group.key) headings
      → tag ≡ heading_tag source (heading_at headings first)
      → dispatch ≡ dispatch_by source.automata (clauses group) → params ≡ [] → bodies ≡ []
      → record { params = params; tag = tag; dispatch = dispatch; bodies = bodies }
      ≡ function_of source.automata (group_tag source (stated source headings []) group)
      group []
  bare_is headings group first tag dispatch params bodies f t d p b =
      let tags = t ∙ sym (group_tag_is source headings [] group first f) in
      λ i. record { params = p i; tag = tags i; dispatch = d i; bodies = b i }

  functions_same : (headings : List Heading) (heads : List (Option Head)) (number : ℕ)
      (groups : List Group) (bodies : List Bodied)
      → program_functions source (stated source headings []) number groups bodies
      ≡ program_functions source (stated source headings heads) number groups bodies
  unfolding program_functions
  functions_same headings heads number [] bodies = refl
  functions_same headings heads number (group ∷ more) bodies =
      ap₂ (λ (f : Function) (fs : List Function). f ∷ fs)
      (ap (λ (tag : ℕ). function_of source.automata tag group (bodies_of bodies number))
      (tag_same headings heads group))
      (functions_same headings heads (number + 1) more bodies)

  pub program_is : (heads : List (Option Head)) (marks : List Mark) (dynamic given : ℤ)
      (done : Done) (functions : List Function) (names : List (List ℕ)) (automata : List Automaton)
      (tags : List Tag) (public : List Public) (entry : Option ℕ)
      → functions ≡ program_functions source (stated source source.headings []) 0 source.groups
      done.bodies
      → names ≡ natives source (stated source source.headings []) → automata ≡ source.automata
      → tags ≡ tags_from marks 0 source.tags → public ≡ publics source
      → entry ≡ number_of source.groups (Named main_name) → given ≡ dynamic
      → record {
        objects = done.objects;
        functions = functions;
        natives = names;
        automata = automata;
        tags = tags;
        publics = public;
        entry = entry;
        dynamic = given;
      } ≡ program_of source (stated source source.headings heads) marks dynamic done
  program_is heads marks dynamic given done functions names automata tags public entry f n a t p e d
      =
      let fs = f ∙ functions_same source.headings heads 0 source.groups done.bodies in
      let ns = n ∙ natives_same source source.headings heads in
      λ i. record {
        objects = done.objects;
        functions = fs i;
        natives = ns i;
        automata = a i;
        tags = t i;
        publics = p i;
        entry = e i;
        dynamic = d i;
      }
