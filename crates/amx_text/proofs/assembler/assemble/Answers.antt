use Rattle.std.proofs.Common.{◌∙◌, Err, sym, ap, subst}
use Rattle.std.proofs.lemmas.Result.{err_from_is_err_and}
use Rattle.amx_text.specs.Assembles.{Assembles}
use Rattle.amx_text.proofs.AssembleLaws.{answer, failed}
use Rattle.amx_text.proofs.SmallLaws.{all_small}
use Rattle.amx_text.proofs.WritableLaws.{all_writable}
use Rattle.amx_text.proofs.assembler.assemble.Goals as goal

pub returns-in_err-names-clause-answer : goal.returns-in_err-names-clause-answer
returns-in_err-names-clause-answer c =
    let p = err_from_is_err_and c.from_residual.result c.from_residual.ensures.1 in
    rw (p.1, p.2) tt

pub returns-in_err-names-clause-writable : goal.returns-in_err-names-clause-writable
returns-in_err-names-clause-writable c =
    let p = err_from_is_err_and c.from_residual.result c.from_residual.ensures.1 in rw p.1 tt

pub returns-in_err-draft-clause-answer : goal.returns-in_err-draft-clause-answer
returns-in_err-draft-clause-answer c =
    let p =
    err_from_is_err_and c.from_residual-in_err-draft.result
    c.from_residual-in_err-draft.ensures.1 in
    subst (Assembles c.args.text.now) (sym (p.1 ∙ ap Err p.2))
    (failed c.args.text.now c.in_err-draft.field-0.0 c.in_err-draft.ensures)

pub returns-in_err-draft-clause-writable : goal.returns-in_err-draft-clause-writable
returns-in_err-draft-clause-writable c =
    let p =
    err_from_is_err_and c.from_residual-in_err-draft.result
    c.from_residual-in_err-draft.ensures.1 in
    rw p.1 tt

pub finish-requires : goal.finish-requires
finish-requires c =
    all_small c.args.text.now c.in_ok-draft.draft c.in_ok-draft.ensures c.requires

pub returns-clause-answer : goal.returns-clause-answer
returns-clause-answer c =
    answer c.args.text.now c.in_ok-draft.draft c.in_ok-draft.ensures c.finish.result
    c.finish.ensures

pub returns-clause-writable : goal.returns-clause-writable
returns-clause-writable c =
    all_writable c.args.text.now c.finish.result
    (answer c.args.text.now c.in_ok-draft.draft c.in_ok-draft.ensures c.finish.result
    c.finish.ensures)
