use Rattle.std.proofs.Common.{◌≡◌, ◌-◌}
use Rattle.amx_text.specs.Readers.{address_on}
use Rattle.amx_text.proofs.reader.address_at.Given as goal

abbrev pub invariant-loop-place : goal.invariant-loop-place
invariant-loop-place l = address_on (8 - l._place) l.address l.rest ≡ address_on 8 0 l.text
