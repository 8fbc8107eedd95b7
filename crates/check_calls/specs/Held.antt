-- An array with what is known of it, as the rules of typing see it.
use Rattle.pawn_meaning.specs.View.{array_view}
use Rattle.types_rules.specs.Typed as plain
use Rattle.check_nodes.specs.ExtentView.{extent_view}
use Rattle.check_calls.specs.declared.wanted_array.Held.{Held}

-- the array, how far it reaches, and whether it is constant
abbrev pub held_view : Held → plain.Held
held_view it =
    record { array = array_view it.array; extent = extent_view it.extent; constant = it.constant }
