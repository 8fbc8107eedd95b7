-- How far an array reaches, as the rules of typing see it.
use Rattle.pawn_arrays.specs.Sizes.{inner_sizes}
use Rattle.pawn_meaning.specs.Scope as plain
use Rattle.check_nodes.specs.declared.extent.Extent.{Extent}

-- the sizes of its dimensions, of which the first one may be unknown
abbrev pub extent_view : Extent → plain.Extent
extent_view it = record { first = it.first; inner = inner_sizes it.second it.third }
