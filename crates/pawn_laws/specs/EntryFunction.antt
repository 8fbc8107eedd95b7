-- The function of a source where a run begins, by the entry's name: main for its own name, else the
-- first public that is named so.
use Rattle.std.specs.Prelude.{ℕ, List, Option, bytes_eq, find, option_map, if◌then◌else◌}
use Rattle.pawn_meaning.specs.Program.{Program, Public}
use Rattle.host_run.specs.declared.entry.TheConstants.{MAIN}

-- none where there is no main, or no such public
abbrev pub function_named : Program → List ℕ → Option ℕ
function_named program name =
    if bytes_eq name MAIN then program.entry
    else option_map (λ (it : Public). it.function)
    (find (λ (it : Public). bytes_eq it.name name) program.publics)
