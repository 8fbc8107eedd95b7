-- A place in a body, as code holds it.
use Rattle.types_rules.specs.Points as plain
use Rattle.check_nodes.specs.Scopes.{scope_view}
use Rattle.check_locals.specs.declared.point.Point.{Point}

-- the declarations in sight, and what stands before
abbrev pub point_view : Point → plain.Point
point_view it =
    record { scope = scope_view it.scopes; objects = it.objects; slots = it.slots }
