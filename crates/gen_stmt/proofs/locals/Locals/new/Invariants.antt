use Rattle.std.proofs.Common.{◌≡◌, length}
use Rattle.gen_stmt.proofs.MakeLaws.{AreFirst}
use Rattle.gen_stmt.proofs.locals.Locals.new.Given as goal

abbrev pub invariant-loop-s : goal.invariant-loop-s
invariant-loop-s l = (length l.offsets.items ≡ l.s) × AreFirst l.place.params l.offsets.items
