use Rattle.std.proofs.Common.{◌≡◌, drop, find, is_some}
use Rattle.command_texts.specs.Rows.{rows_by}
use Rattle.command_texts.specs.Explained.{has_number}
use Rattle.command_texts.proofs.explanation.has_row.Given as goal

abbrev pub invariant-loop-row : goal.invariant-loop-row
invariant-loop-row l =
    is_some (find (has_number l.number) (rows_by (drop l.row-index l.rows)))
    ≡ is_some (find (has_number l.number) (rows_by l.rows))
