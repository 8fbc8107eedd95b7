use Rattle.gen_stmt.proofs.nodes.leave_unless.Goals as goal

pub returns : goal.returns
returns c = rw c.frame-frame.ensures.scope at c.«open».ensures
