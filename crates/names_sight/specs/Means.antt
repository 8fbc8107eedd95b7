-- What names mean by what code holds.
use Rattle.std.specs.Prelude.{ℕ, List, [], Option, Some, None, option_map, slice_get}
use Rattle.std.specs.Option.{option_or}
use Rattle.pawn_cells.specs.Constants.{predefined}
use Rattle.names_rules.specs.Known.{Known}
use Rattle.names_rules.specs.Around.{Around, constant}
use Rattle.names_sight.specs.declared.known.Known.{Known as Held}
use Rattle.names_sight.specs.declared.context.Context.{Context}
use Rattle.names_sight.specs.Scopes.{number_of}
use Rattle.names_sight.specs.FileTable.{function_in}
use Rattle.names_sight.specs.Views.{known_view, head_view}

-- what is known everywhere, but for functions
abbrev pub around_view : Context → Around
around_view cx = record { tags = cx.tags; overloads = cx.operators; names = [] }

-- what a name means outside all blocks: a function, or a predefined constant
abbrev pub elsewhere_view : Context → List ℕ → Option Known
elsewhere_view cx name =
    option_or (option_map head_view (function_in cx.names name))
    (option_map constant (predefined name))

-- what a number is known to be, and what there is without one
abbrev pub by_number : List Held → Option Known → Option ℕ → Option Known
by_number known elsewhere None = elsewhere
by_number known elsewhere (Some number) = option_map known_view (slice_get known number)

-- what a name means at a place: its declaration in sight, else that outside
abbrev pub means_view : Context → List ℕ → Option Known
means_view cx name = by_number cx.known (elsewhere_view cx name) (number_of cx.scopes name)
