use Rattle.std.proofs.Common.{◌≡◌, drop, find, is_some}
use Rattle.command_texts.specs.Rows.{rows_in}
use Rattle.command_texts.specs.Explained.{has_number}
use Rattle.command_texts.proofs.explanation.have_row.Given as goal

abbrev pub invariant-loop-table : goal.invariant-loop-table
invariant-loop-table l =
    is_some (find (has_number l.number) (rows_in (drop l.table-index l.tables)))
    ≡ is_some (find (has_number l.number) (rows_in l.tables))
