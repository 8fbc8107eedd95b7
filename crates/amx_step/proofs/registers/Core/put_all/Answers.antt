use Rattle.std.proofs.Common.{rules, w32, FitsSigned, ◌-◌, ◌∙◌, pos, arith, length, get_or}
use Rattle.std.proofs.lemmas.Int.{to_z-of_z}
use Rattle.amx_step.proofs.StartLaws.{pushed_next}
use Rattle.amx_step.proofs.registers.Core.put_all.Goals as goal

pub loop-done-preserved : goal.loop-done-preserved
loop-done-preserved c =
    let v = c.loop-done.invariant in
    let p = c.put.ensures in
    let values = c.args.values.now in
    let value = get_or values (length values - 1 - c.loop-done.done) (pos 0) in
    let fits : FitsSigned w32 value = search rules in
    let pushed = rw (to_z-of_z w32 value fits) at p.pushed in
    record {
      pushed =
          pushed_next values c.loop-done.done c.args.self.now.state c.loop-done.self.state
          c.put.new.self.state c.loop-done-test.true v.pushed pushed;
      stk = omega (arith, p.stk, v.stk);
      hea = p.hea ∙ v.hea;
      file = p.file ∙ v.file;
    }
