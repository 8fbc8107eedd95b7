-- What a parameter has before any argument.
use Rattle.std.specs.Prelude.{Option, None}
use Rattle.check_nodes.specs.declared.context.Param.{Param}
use Rattle.check_calls.specs.declared.filling.Filled.{Filled}

-- no argument, and no default yet
abbrev pub nothing_for : Param → Option Filled
nothing_for param = None
