use Rattle.std.proofs.Common.{rules, arith}
use Rattle.std.proofs.lemmas.Grind.{common_steps}
use Rattle.pawn_pre.specs.File.{blanked, file_of}
use Rattle.pawn_pre.proofs.RowLaws.{count_rows}
use Rattle.pawn_pre.proofs.file.read_rows.Goals as goal

pub returns-clause-rows : goal.returns-clause-rows
unfolding blanked file_of
returns-clause-rows c = first_of (search rules, grind (arith, common_steps))

pub returns-clause-few : goal.returns-clause-few
returns-clause-few c = rw (returns-clause-rows c) (count_rows c.args.bytes.now)
