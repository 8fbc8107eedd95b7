use Rattle.names_sight.proofs.constants.kind_size.Goals as goal

pub returns-in-Worth : goal.returns-in-Worth
returns-in-Worth c = λ around. rw c.in-Worth.is (c.one_cell.ensures around)

pub returns-in-Cells : goal.returns-in-Cells
returns-in-Cells c = λ around. rw c.in-Cells.is (c.cells_size.ensures around)
