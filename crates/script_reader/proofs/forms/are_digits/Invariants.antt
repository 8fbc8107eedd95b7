use Rattle.std.proofs.Common.{◌≡◌, drop}
use Rattle.script_reader.specs.Forms.{all_digits}
use Rattle.script_reader.proofs.forms.are_digits.Given as goal

abbrev pub invariant-loop-digit : goal.invariant-loop-digit
invariant-loop-digit l = all_digits l.digits ≡ all_digits (drop l.digit-index l.digits)
