use Rattle.std.proofs.Common.{rules}
use Rattle.std.proofs.lemmas.Int.{wraps}
use Rattle.pawn_cells.proofs.cell.Cell.sub.Goals as goal

pub returns : goal.returns
returns c = search (rules, wraps)
