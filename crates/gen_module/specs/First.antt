-- Where the statement of a body stands, with its parameters alone in force.
use Rattle.std.specs.Prelude.{[]}
use Rattle.gen_sim.specs.Here.{Here}
use Rattle.gen_laws.specs.BodyCode.{no_exits}
use Rattle.gen_stmt.specs.Keeps.{scope_in}
use Rattle.gen_stmt.specs.declared.place.Place.{Place}

-- no slot has been made, and no loop is around
abbrev pub first_here : Place → Here
first_here place = record { scope = scope_in place []; since = []; exits = no_exits }
