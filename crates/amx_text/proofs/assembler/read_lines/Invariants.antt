use Rattle.std.proofs.Common.{length}
use Rattle.amx_text.proofs.DraftLaws.{Onward}
use Rattle.amx_text.proofs.assembler.read_lines.Given as goal

abbrev pub invariant-loop-draft : goal.invariant-loop-draft
invariant-loop-draft l = Onward l.text l.draft l.rest

abbrev pub decreases-loop-draft : goal.decreases-loop-draft
decreases-loop-draft l = length l.rest
