use Rattle.std.proofs.Common.{Err, sym, ap, subst, ◌∙◌}
use Rattle.std.proofs.lemmas.Result.{err_from_is_err_and}
use Rattle.amx_verify.specs.Verdict.{Judges, fault_in}
use Rattle.amx_verify.proofs.LinkLaws.{links_tell, entries_tell, none_told}
use Rattle.amx_verify.proofs.verified.verify.Goals as goal

pub returns-in_err-check_links-clause-verdict : goal.returns-in_err-check_links-clause-verdict
returns-in_err-check_links-clause-verdict c =
    let is =
    err_from_is_err_and c.from_residual-in_err-check_links.result
    c.from_residual-in_err-check_links.ensures.1 in
    subst (λ r. Judges r (fault_in c.args.amx)) (sym (is.1 ∙ ap Err is.2))
    (links_tell c.args.amx c.in_ok-marked.marked c.as_slice.result.now c.len.result
    c.as_slice.ensures.cells c.len.ensures c.in_ok-marked.ensures c.in_ok-check_whole.ensures
    c.in_err-check_links.field-0.0 c.in_err-check_links.ensures)

pub returns-in_err-check_entries-clause-verdict : goal.returns-in_err-check_entries-clause-verdict
returns-in_err-check_entries-clause-verdict c =
    let is =
    err_from_is_err_and c.from_residual-in_err-check_entries.result
    c.from_residual-in_err-check_entries.ensures.1 in
    subst (λ r. Judges r (fault_in c.args.amx)) (sym (is.1 ∙ ap Err is.2))
    (entries_tell c.args.amx c.in_ok-marked.marked c.as_slice.result.now c.len.result
    c.as_slice.ensures.cells c.len.ensures c.in_ok-marked.ensures c.in_ok-check_whole.ensures
    c.in_ok-check_links.ensures c.in_err-check_entries.field-0.0 c.in_err-check_entries.ensures)

pub returns-clause-verdict : goal.returns-clause-verdict
returns-clause-verdict c =
    none_told c.args.amx c.in_ok-marked.marked c.as_slice.result.now c.len.result
    c.as_slice.ensures.cells c.len.ensures c.in_ok-marked.ensures c.in_ok-check_whole.ensures
    c.in_ok-check_links.ensures c.in_ok-check_entries.ensures
