-- What the definitions see of a body that code holds.
use Rattle.pawn_tree.specs.View.{function_view}
use Rattle.types_rules.specs.Groups as plain
use Rattle.check_source.specs.declared.written.Written.{Written}

-- a body
abbrev pub written_view : Written → plain.Written
written_view it = record { at = it.at; function = function_view it.function.now }
