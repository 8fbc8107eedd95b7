-- What signs stand for in a constant, as code and as the definitions have it.
use Rattle.names_rules.specs.Signs as plain
use Rattle.names_sight.specs.declared.signs.Before.{Before}
use Rattle.names_sight.specs.declared.signs.Before.TheVariants as before

-- a sign before an operand
abbrev pub before_view : Before → plain.Before
before_view (before.Applies prefix op) = plain.Applies prefix op
before_view before.Steps = plain.Steps
