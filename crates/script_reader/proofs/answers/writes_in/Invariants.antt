use Rattle.std.proofs.Common.{[]}
use Rattle.script_reader.specs.Replies.{write_step}
use Rattle.script_reader.proofs.ItemLaws.{Followed}
use Rattle.script_reader.proofs.answers.writes_in.Given as goal

abbrev pub invariant-loop-item : goal.invariant-loop-item
invariant-loop-item l = Followed write_step [] l.items l.item-index l.done
