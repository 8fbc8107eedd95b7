use Rattle.std.proofs.Common.{refl}
use Rattle.std.proofs.lemmas.Result.{err_from_is_err_and}
use Rattle.pawn_front.proofs.CompileLaws.{not_compiled, read_before, read_fault, sources}
use Rattle.pawn_front.proofs.source.program.Goals as goal

pub returns-in_err-lines-clause-answer : goal.returns-in_err-lines-clause-answer
returns-in_err-lines-clause-answer g c =
    let p = err_from_is_err_and c.from_residual.result c.from_residual.ensures.1 in
    rw p.1
    (not_compiled (g.F.Files.held c.args.files.now) c.args.name.now c.in_err-lines.field-0.0 p.0
    c.in_err-lines.ensures.answers p.2)

pub returns-in_err-lines-clause-files : goal.returns-in_err-lines-clause-files
returns-in_err-lines-clause-files g c =
    let p = err_from_is_err_and c.from_residual.result c.from_residual.ensures.1 in
    read_fault c.in_err-lines.field-0.0 p.0 p.2 refl p.1 c.in_err-lines.ensures.files

pub returns-clause-answer : goal.returns-clause-answer
returns-clause-answer g c =
    sources (g.F.Files.held c.args.files.now) c.args.name.now c.in_ok-lines.lines
    c.program_of.result c.in_ok-lines.ensures.answers c.program_of.ensures

pub returns-clause-files : goal.returns-clause-files
returns-clause-files g c =
    read_before c.in_ok-lines.lines c.program_of.result c.program_of.ensures refl
    c.in_ok-lines.ensures.files
