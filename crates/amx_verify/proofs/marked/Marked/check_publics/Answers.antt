use Rattle.std.proofs.Common.{Err, map, sym, ap, subst, ◌∙◌}
use Rattle.std.proofs.lemmas.Result.{err_from_is_err_and}
use Rattle.amx_ops.specs.declared.amx.Record.{Record}
use Rattle.amx_ops.specs.Valid.{publics_fault}
use Rattle.amx_verify.specs.Verdict.{Judges}
use Rattle.amx_verify.proofs.LinkLaws.{public_more, public_here}
use Rattle.amx_verify.proofs.marked.Marked.check_publics.Goals as goal

pub returns-in_err-check_public : goal.returns-in_err-check_public
returns-in_err-check_public c =
    let is = err_from_is_err_and c.from_residual.result c.from_residual.ensures.1 in
    subst (λ r. Judges r (publics_fault c.args.self.now.code 0
    (map (λ (it : Record). it.address) c.args.publics.now))) (sym (is.1 ∙ ap Err is.2))
    (public_here c.args.self.now.code c.args.publics.now c.loop-number.number
    c.index-publics-number.result c.loop-number-test.true c.index-publics-number.is
    c.loop-number.invariant c.in_err-check_public.field-0.0 c.in_err-check_public.ensures)

pub loop-number-preserved : goal.loop-number-preserved
loop-number-preserved c =
    public_more c.args.self.now.code c.args.publics.now c.loop-number.number
    c.index-publics-number.result c.loop-number-test.true c.index-publics-number.is
    c.loop-number.invariant c.in_ok-check_public.ensures
