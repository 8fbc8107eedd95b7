use Rattle.std.proofs.Common.{◌≡◌, Err, ap}
use Rattle.pawn_meaning.specs.View.{program_view}
use Rattle.pawn_outside.proofs.OnlyReadLaws.{read_as}
use Rattle.pawn_front.specs.declared.fault.CompileFault.TheVariants.{Files}
use Rattle.pawn_front.proofs.CompileLaws.{compiles, makes_no_fault}
use Rattle.pawn_front.proofs.source.compile.Goals as goal

pub returns-in-Ok-clause-answer : goal.returns-in-Ok-clause-answer
returns-in-Ok-clause-answer g c =
    compiles (g.F.Files.held c.args.files.now) c.args.name.now c.args.encoding c.in-Ok.sourced
    c.compile_program.result c.in-Ok.ensures.answer c.compile_program.ensures

pub returns-in-Ok-clause-files : goal.returns-in-Ok-clause-files
returns-in-Ok-clause-files g c =
    read_as (λ e. absurd (makes_no_fault (program_view c.in-Ok.sourced.program)
    c.in-Ok.sourced.warnings c.args.encoding c.compile_program.result c.compile_program.ensures e))
    (λ e. absurd (cc e)) c.in-Ok.ensures.files

pub compile_program-requires : goal.compile_program-requires
compile_program-requires g c = c.in-Ok.ensures.answer.whole.good

pub returns-in-Err-clause-files : goal.returns-in-Err-clause-files
returns-in-Err-clause-files g c =
    read_as (λ e. let same : c.in-Err.fault ≡ Files = cc e in ap Err same)
    (λ e. let same : c.in-Err.fault ≡ Files = cc e in ap Err same) c.in-Err.ensures.files
