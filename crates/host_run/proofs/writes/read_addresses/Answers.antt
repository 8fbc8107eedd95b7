use Rattle.std.proofs.Common.{◌∙◌, rules, w32, FitsSigned, length-set, arith}
use Rattle.std.proofs.lemmas.Int.{to_z-of_z}
use Rattle.host_run.proofs.WriteLaws.{addresses_next}
use Rattle.host_run.proofs.writes.read_addresses.Goals as goal

pub loop-index-preserved : goal.loop-index-preserved
loop-index-preserved c =
    let l = c.loop-index in
    let address = c.native_arg.result in
    let fits : FitsSigned w32 address = search rules in
    rw (to_z-of_z w32 address fits) (record {
      read =
          addresses_next c.args.machine.now.state c.args.writes.now l.index
          c.index-writes-index.result l.reserved address c.loop-index-test.true
          (omega (arith, c.requires.reserved, l.invariant.reserved, c.loop-index-test.true))
          l.invariant.read c.native_arg.ensures;
      reserved = length-set l.reserved l.index address ∙ l.invariant.reserved;
    })
