use Rattle.command_parts.proofs.WordLaws.{by_verify, by_list, by_run, by_resume, by_go, by_compile}
use Rattle.command_parts.proofs.WordLaws.{by_assemble, by_many, by_measure}
use Rattle.command_parts.proofs.command_words.read_command.Goals as goal

pub returns-then-eq : goal.returns-then-eq
returns-then-eq c =
    by_verify c.args.word.now _ c.read_verify.result c.if-eq.ensures c.read_verify.ensures

pub returns-then-eq-2 : goal.returns-then-eq-2
returns-then-eq-2 c =
    by_list c.args.word.now _ c.read_list.result c.if-eq.ensures c.if-eq-2.ensures
    c.read_list.ensures

pub returns-then-eq-3 : goal.returns-then-eq-3
returns-then-eq-3 c =
    by_run c.args.word.now _ c.read_run.result c.if-eq.ensures c.if-eq-2.ensures c.if-eq-3.ensures
    c.read_run.ensures

pub returns-then-eq-4 : goal.returns-then-eq-4
returns-then-eq-4 c =
    by_resume c.args.word.now _ c.read_resume.result c.if-eq.ensures c.if-eq-2.ensures
    c.if-eq-3.ensures c.if-eq-4.ensures c.read_resume.ensures

pub returns-then-eq-5 : goal.returns-then-eq-5
returns-then-eq-5 c =
    by_go c.args.word.now _ c.read_go.result c.if-eq.ensures c.if-eq-2.ensures c.if-eq-3.ensures
    c.if-eq-4.ensures c.if-eq-5.ensures c.read_go.ensures

pub returns-then-eq-6 : goal.returns-then-eq-6
returns-then-eq-6 c =
    by_compile c.args.word.now _ c.read_compile.result c.if-eq.ensures c.if-eq-2.ensures
    c.if-eq-3.ensures c.if-eq-4.ensures c.if-eq-5.ensures
    c.if-eq-6.ensures c.read_compile.ensures

pub returns-then-eq-7 : goal.returns-then-eq-7
returns-then-eq-7 c =
    by_assemble c.args.word.now _ c.read_assemble.result c.if-eq.ensures c.if-eq-2.ensures
    c.if-eq-3.ensures c.if-eq-4.ensures c.if-eq-5.ensures
    c.if-eq-6.ensures c.if-eq-7.ensures c.read_assemble.ensures

pub returns-then-eq-8 : goal.returns-then-eq-8
returns-then-eq-8 c =
    by_many c.args.word.now _ c.read_many.result c.if-eq.ensures c.if-eq-2.ensures
    c.if-eq-3.ensures c.if-eq-4.ensures c.if-eq-5.ensures
    c.if-eq-6.ensures c.if-eq-7.ensures c.if-eq-8.ensures c.read_many.ensures

pub returns-else-eq-8 : goal.returns-else-eq-8
returns-else-eq-8 c =
    by_measure c.args.word.now _ c.read_measure.result c.if-eq.ensures c.if-eq-2.ensures
    c.if-eq-3.ensures c.if-eq-4.ensures c.if-eq-5.ensures c.if-eq-6.ensures c.if-eq-7.ensures
    c.if-eq-8.ensures c.read_measure.ensures
