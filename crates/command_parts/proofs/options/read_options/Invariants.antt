use Rattle.std.proofs.Common.{◌≡◌, length, map}
use Rattle.std.specs.String.{string_bytes}
use Rattle.command_parts.specs.Options.{no_options, options_from}
use Rattle.command_parts.proofs.options.read_options.Given as goal

abbrev pub invariant-loop-flag : goal.invariant-loop-flag
invariant-loop-flag l =
    options_from no_options (map string_bytes l.fn.words)
    ≡ options_from l.options (map string_bytes l.rest)

abbrev pub decreases-loop-flag : goal.decreases-loop-flag
decreases-loop-flag l = length l.rest
