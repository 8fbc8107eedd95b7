use Rattle.gen_stmt.proofs.nodes.perhaps_jump.Goals as goal

pub returns : goal.returns
returns c = rw (c.frame-frame.ensures.scope, c.new.ensures) at c.perhaps_jump.ensures
