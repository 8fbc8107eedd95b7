use Rattle.gen_stmt.proofs.nodes.jump_if.Goals as goal

pub returns : goal.returns
returns c = rw (c.frame-frame.ensures.scope, c.new.ensures) at c.jump_where.ensures
