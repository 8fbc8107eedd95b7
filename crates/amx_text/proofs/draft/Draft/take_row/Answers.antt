use Rattle.std.proofs.Common.{length, length-append, arith, refl, ap, Some}
use Rattle.std.proofs.lemmas.Result.{err_from_is_err_and}
use Rattle.amx_text.proofs.CodeReads.{no_row_start}
use Rattle.amx_text.proofs.TakeLaws.{no_row}
use Rattle.amx_text.proofs.PutLaws.{one_of, no_row_line, no_row_width, row_put}
use Rattle.amx_text.proofs.draft.Draft.take_row.Goals as goal

pub returns-in_default : goal.returns-in_default
returns-in_default c = record {
  none = no_row c.args.text.now (no_row_start c.args.text.now c.in_default.ensures);
  lines = refl;
  last = refl;
}

pub returns-in_err-rest : goal.returns-in_err-rest
returns-in_err-rest c =
    let p = err_from_is_err_and c.from_residual.result c.from_residual.ensures.1 in rw p.1 tt

pub returns-in_default-2 : goal.returns-in_default-2
returns-in_default-2 c =
    let cells = rw c.in_default-2.is at c.in_ok-rest.ensures in
    record {
      none =
          no_row_line c.args.text.now c.in-Some.address c.args.self.now.amx.store
          c.read_cells.new.cells (record {
            behind = c.in-Some.rest.now;
            address = c.in-Some.ensures;
            cells = cells;
          });
      lines = refl;
      last = refl;
    }

pub overflow_sub-count : goal.overflow_sub-count
overflow_sub-count c =
    let cells = rw c.in-Some-2.is at c.in_ok-rest.ensures in
    omega (
      arith,
      c.len-before.ensures,
      c.len.ensures,
      ap length cells.put,
      length-append c.args.self.now.amx.store cells.cells,
    )

pub returns-then-count-eq0 : goal.returns-then-count-eq0
returns-then-count-eq0 c =
    let cells = rw c.in-Some-2.is at c.in_ok-rest.ensures in
    record {
      none =
          no_row_width c.args.text.now c.in-Some.address c.len-before.result c.len.result
          c.args.self.now.amx.store c.read_cells.new.cells (Some c.in-Some-2.rest) (record {
            behind = c.in-Some.rest.now;
            address = c.in-Some.ensures;
            cells = cells;
          }) c.len-before.ensures c.len.ensures (one_of c.then-count-eq0.either);
      lines = refl;
      last = refl;
    }

pub returns : goal.returns
returns c =
    let cells = rw c.in-Some-2.is at c.in_ok-rest.ensures in
    row_put c.args.text.now c.in-Some-2.rest c.in-Some.address c.len-before.result c.len.result
    c.read_cells.new.cells c.row_last.result c.args.self.now c.place.new.self _
    (record { behind = c.in-Some.rest.now; address = c.in-Some.ensures; cells = cells })
    c.len-before.ensures c.len.ensures (omega (arith, c.if-count-eq0.false))
    c.if-count-gt-WIDTH.false c.place.ensures c.row_last.ensures c.end_line.ensures
