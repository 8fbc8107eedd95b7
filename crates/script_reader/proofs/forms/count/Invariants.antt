use Rattle.std.proofs.Common.{◌≡◌, drop}
use Rattle.script_reader.specs.Forms.{count_of}
use Rattle.script_reader.proofs.forms.count.Given as goal

abbrev pub invariant-loop-digit : goal.invariant-loop-digit
invariant-loop-digit l = count_of 0 l.digits ≡ count_of l.value (drop l.digit-index l.digits)
