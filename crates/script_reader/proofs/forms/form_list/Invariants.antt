use Rattle.std.proofs.Common.{[]}
use Rattle.script_reader.specs.Forms.{form_step}
use Rattle.script_reader.proofs.ItemLaws.{Followed}
use Rattle.script_reader.proofs.forms.form_list.Given as goal

abbrev pub invariant-loop-item : goal.invariant-loop-item
invariant-loop-item l = Followed form_step [] l.item-items l.item-index l.done
