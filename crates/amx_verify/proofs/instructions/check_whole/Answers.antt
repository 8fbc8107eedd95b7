use Rattle.std.proofs.Common.{Err, arith, refl, sym, ap, subst, ◌∙◌}
use Rattle.std.proofs.lemmas.Result.{err_from_is_err_and}
use Rattle.amx_verify.specs.Verdict.{Judges}
use Rattle.amx_verify.specs.Fronts.{whole_fault}
use Rattle.amx_verify.proofs.FrontLaws.{one_more, fault_here, none_left}
use Rattle.amx_verify.proofs.instructions.check_whole.Goals as goal

pub loop-place-preserved : goal.loop-place-preserved
loop-place-preserved c =
    let back = c.split_at.ensures.back in
    let size = c.in_ok-place.ensures.size in
    record {
      within = omega (arith, c.loop-place-test.true, size, c.split_at.ensures.back_len);
      so_far =
          one_more c.args.natives c.loop-place.place c.args.code.now c.split_at.result.1.now back
          c.loop-place.invariant.so_far _ _ refl c.in_ok-place.ensures.front size;
    }

pub returns-in_err-place : goal.returns-in_err-place
returns-in_err-place c =
    let is = err_from_is_err_and c.from_residual.result c.from_residual.ensures.1 in
    subst (λ r. Judges r (whole_fault c.args.natives 0 c.args.code.now)) (sym (is.1 ∙ ap Err is.2))
    (fault_here c.args.natives c.loop-place.place c.args.code.now c.split_at.result.1.now
    c.split_at.ensures.back c.loop-place.invariant.so_far c.in_err-place.field-0.0
    c.in_err-place.ensures.front)

pub returns : goal.returns
returns c =
    none_left c.args.natives c.loop-place.place c.args.code.now c.loop-place-test.false
    c.loop-place.invariant.so_far
