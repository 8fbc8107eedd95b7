use Rattle.gen_stmt.proofs.LeaveLaws.{popped_offsets}
use Rattle.gen_stmt.proofs.locals.Locals.unmake.Goals as goal

pub returns-in-Some-clause-offsets : goal.returns-in-Some-clause-offsets
returns-in-Some-clause-offsets c = λ slots params o.
    popped_offsets slots params c.args.self.now.made.items c.pop.new.self.items c.in-Some.s
    c.args.self.now.offsets.items c.hide.new.offsets.items
    c.in-Some.ensures.items c.hide.ensures o
