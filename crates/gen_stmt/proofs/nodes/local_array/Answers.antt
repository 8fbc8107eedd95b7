use Rattle.gen_stmt.proofs.GrownLaws.{code_grown}
use Rattle.gen_stmt.specs.Keeps.{scope_in}
use Rattle.gen_laws.specs.MadeCode.{local_array_code}
use Rattle.gen_stmt.proofs.nodes.local_array.Goals as goal

pub returns-clause-code : goal.returns-clause-code
returns-clause-code c =
    code_grown c.args.b c.in_ok-code.code
    (local_array_code (scope_in c.args.at.now.place c.args.locals.now.made.items) c.args.s
    c.args.o)
    c.in_ok-code.ensures
