use Rattle.std.proofs.Common.{◌∙◌, rules, w32, FitsSigned, pos, get_or, ap}
use Rattle.std.proofs.lemmas.Int.{to_z-of_z}
use Rattle.std.proofs.lemmas.List.{take_all}
use Rattle.host_run.specs.Writes.{written}
use Rattle.host_run.proofs.WriteLaws.{address_of, next_fits, next_written}
use Rattle.host_run.proofs.writes.write_each.Goals as goal

pub loop-index-preserved : goal.loop-index-preserved
loop-index-preserved c =
    let m = c.args.machine.now in
    let writes = c.args.writes.now in
    let l = c.loop-index in
    let d = c.index-writes-index.result in
    let address = get_or c.args.addresses.now l.index (pos 0) in
    let fits : FitsSigned w32 address = search rules in
    let is =
    address_of m.state writes l.index d c.args.addresses.now c.loop-index-test.true c.requires.read in
    let put = rw (c.as_slice.ensures.cells, to_z-of_z w32 address fits, is) at c.put.ensures in
    next_written m l.machine writes l.index d c.loop-index-test.true l.invariant c.put.new.machine put

pub put-requires : goal.put-requires
put-requires c =
    let m = c.args.machine.now in
    let writes = c.args.writes.now in
    let l = c.loop-index in
    let d = c.index-writes-index.result in
    let address = get_or c.args.addresses.now l.index (pos 0) in
    let fits : FitsSigned w32 address = search rules in
    let is =
    address_of m.state writes l.index d c.args.addresses.now c.loop-index-test.true c.requires.read in
    rw (c.as_slice.ensures.cells, to_z-of_z w32 address fits, is)
    (next_fits m l.machine writes l.index d c.loop-index-test.true l.invariant c.requires.room)

pub returns : goal.returns
returns c =
    c.loop-index.invariant ∙ ap (λ writes. written writes c.args.machine.now)
    (take_all c.loop-index.index c.args.writes.now c.loop-index-test.false)
