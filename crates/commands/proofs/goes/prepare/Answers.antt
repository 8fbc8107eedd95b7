use Rattle.std.proofs.Common.{refl}
use Rattle.std.proofs.lemmas.Result.{err_from_is_err_and}
use Rattle.command_parts.proofs.ReadCallLaws.{only_handed, only_other, only_then}
use Rattle.commands.proofs.GoFileLaws.{source_missing, natives_missing, both_good}
use Rattle.commands.proofs.goes.prepare.Goals as goal

pub returns-in_err-compiled-clause-calls : goal.returns-in_err-compiled-clause-calls
returns-in_err-compiled-clause-calls g c =
    only_handed c.from_residual.result c.from_residual.ensures.1 refl
    c.in_err-compiled.ensures.calls

pub returns-in_err-compiled-clause-answer : goal.returns-in_err-compiled-clause-answer
returns-in_err-compiled-clause-answer g c =
    let p = err_from_is_err_and c.from_residual.result c.from_residual.ensures.1 in
    rw (p.1, p.2) (source_missing _ c.args.words.now _ _ c.as_str.ensures
    c.in_err-compiled.ensures.answer)

pub returns-in_err-script-clause-calls : goal.returns-in_err-script-clause-calls
returns-in_err-script-clause-calls g c =
    only_then c.in_ok-compiled.ensures.calls
    (only_handed c.from_residual-in_err-script.result c.from_residual-in_err-script.ensures.1 refl
    c.in_err-script.ensures.calls)

pub returns-in_err-script-clause-answer : goal.returns-in_err-script-clause-answer
returns-in_err-script-clause-answer g c =
    let p =
    err_from_is_err_and c.from_residual-in_err-script.result
    c.from_residual-in_err-script.ensures.1 in
    rw (p.1, p.2)
    (natives_missing _ c.args.words.now _ _ c.in_ok-compiled.compiled _ c.as_str.ensures
    c.in_ok-compiled.ensures.answer
    c.in_ok-compiled.ensures.calls.same c.in_err-script.ensures.answer)

pub returns-clause-calls : goal.returns-clause-calls
returns-clause-calls g c =
    only_then c.in_ok-compiled.ensures.calls
    (only_other (λ e. absurd (cc e)) c.in_ok-script.ensures.calls)

pub returns-clause-answer : goal.returns-clause-answer
returns-clause-answer g c =
    both_good _ c.args.words.now _ _ (record
    { compiled = c.in_ok-compiled.compiled; script = c.in_ok-script.script }) c.as_str.ensures
    c.in_ok-compiled.ensures.answer c.in_ok-compiled.ensures.calls.same
    c.in_ok-script.ensures.answer
