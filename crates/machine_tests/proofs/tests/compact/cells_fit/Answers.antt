use Rattle.machine_tests.proofs.tests.compact.cells_fit.Goals as goal

pub fits-requires : goal.fits-requires
fits-requires c = (
  c.in_ok-read_cells.field-0,
  c.in_ok-read_cells.ensures.answer.0,
  c.in_ok-read_cells.ensures.answer.1,
)
