use Rattle.std.proofs.Common.{refl}
use Rattle.command_parts.proofs.FaultCountLaws.{calls_nothing}
use Rattle.pawn_cli.proofs.AnswerLaws.{text_no_fault, text_steadily}
use Rattle.pawn_cli.proofs.command.serve.Goals as goal

pub returns-in-Verify-clause-answer : goal.returns-in-Verify-clause-answer
returns-in-Verify-clause-answer g c =
    rw c.in-Verify.is (rw c.as_str.ensures at c.verify.ensures.answer)

pub returns-in-List-clause-answer : goal.returns-in-List-clause-answer
returns-in-List-clause-answer g c =
    rw c.in-List.is (rw c.as_str-in-List.ensures at c.list.ensures.answer)

pub returns-in-Sizes-clause-answer : goal.returns-in-Sizes-clause-answer
returns-in-Sizes-clause-answer g c =
    rw c.in-Sizes.is (rw c.as_str-in-Sizes.ensures at c.sizes.ensures.answer)

pub returns-in-Explain-clause-answer : goal.returns-in-Explain-clause-answer
returns-in-Explain-clause-answer g c =
    rw c.in-Explain.is (refl, text_steadily refl c.tell_explained.ensures)

pub returns-in-Explain-clause-calls : goal.returns-in-Explain-clause-calls
returns-in-Explain-clause-calls g c =
    calls_nothing c.args.files.now (text_no_fault c.tell_explained.ensures)

pub returns-in-Help-clause-answer : goal.returns-in-Help-clause-answer
returns-in-Help-clause-answer g c =
    rw c.in-Help.is (refl, text_steadily refl c.tell_help.ensures)

pub returns-in-Help-clause-calls : goal.returns-in-Help-clause-calls
returns-in-Help-clause-calls g c =
    calls_nothing c.args.files.now (text_no_fault c.tell_help.ensures)

pub returns-in-Version-clause-answer : goal.returns-in-Version-clause-answer
returns-in-Version-clause-answer g c =
    rw c.in-Version.is (refl, text_steadily refl c.tell_version.ensures)

pub returns-in-Version-clause-calls : goal.returns-in-Version-clause-calls
returns-in-Version-clause-calls g c =
    calls_nothing c.args.files.now (text_no_fault c.tell_version.ensures)

pub returns-in-Run-clause-answer : goal.returns-in-Run-clause-answer
returns-in-Run-clause-answer g c = rw c.in-Run.is c.run.ensures.answer

pub returns-in-Resume-clause-answer : goal.returns-in-Resume-clause-answer
returns-in-Resume-clause-answer g c = rw c.in-Resume.is c.resume.ensures.answer

pub returns-in-Go-clause-answer : goal.returns-in-Go-clause-answer
returns-in-Go-clause-answer g c = rw c.in-Go.is c.go.ensures.answer

pub returns-in-Compile-clause-answer : goal.returns-in-Compile-clause-answer
returns-in-Compile-clause-answer g c = rw c.in-Compile.is c.compile.ensures.answer

pub returns-in-Assemble-clause-answer : goal.returns-in-Assemble-clause-answer
returns-in-Assemble-clause-answer g c = rw c.in-Assemble.is c.assemble.ensures.answer

pub returns-in-Sample-clause-answer : goal.returns-in-Sample-clause-answer
returns-in-Sample-clause-answer g c = rw c.in-Sample.is c.sample.ensures.answer

pub returns-in-Usage-clause-answer : goal.returns-in-Usage-clause-answer
returns-in-Usage-clause-answer g c =
    rw c.in-Usage.is (rw c.as_str-in-Usage.ensures at c.usage.ensures.answer)

pub returns-in-Many-clause-answer : goal.returns-in-Many-clause-answer
returns-in-Many-clause-answer g c =
    rw c.in-Many.is (rw c.as_str-in-Many.ensures at c.many.ensures.answer)
