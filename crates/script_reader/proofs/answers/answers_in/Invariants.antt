use Rattle.std.proofs.Common.{[]}
use Rattle.script_reader.specs.Replies.{answer_step}
use Rattle.script_reader.proofs.ItemLaws.{Followed}
use Rattle.script_reader.proofs.answers.answers_in.Given as goal

abbrev pub invariant-loop-item : goal.invariant-loop-item
invariant-loop-item l = Followed answer_step [] l.items l.item-index l.done
