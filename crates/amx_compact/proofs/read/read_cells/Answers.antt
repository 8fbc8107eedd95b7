use Rattle.std.proofs.Common.{rules, ◌≡◌, ◌+◌, ◌<◌, ◌++◌, [], ◌∷◌, Err, Ok, arith, length, subst}
use Rattle.std.proofs.Common.{sym, ap, ◌∙◌, FitsSigned, w32, to_z-of_z}
use Rattle.std.proofs.lemmas.Grind.{common_steps}
use Rattle.std.proofs.lemmas.Result.{err_from_is_err_and}
use Rattle.amx_compact.specs.Causes.{Answers}
use Rattle.amx_compact.specs.declared.fault.CompactFault.TheVariants.{TooMany}
use Rattle.amx_compact.proofs.ReadLemmas.{SoFar, answers_fault, answers_many, answers_ok}
use Rattle.amx_compact.proofs.ReadLemmas.{one_answer, reads_back, so_far-next}
use Rattle.amx_compact.proofs.read.read_cells.Goals as goal

pub returns-in_err-cell-clause-answer : goal.returns-in_err-cell-clause-answer
returns-in_err-cell-clause-answer c =
    let p = err_from_is_err_and c.from_residual.result c.from_residual.ensures.1 in
    subst (Answers c.args.bytes.now c.args.count) (sym (p.1 ∙ ap (λ fault. Err fault) p.2))
    (answers_fault c.args.bytes.now c.loop.cells c.loop.rest.now c.loop.counter c.args.count
    c.in_err-cell.field-0.0 c.loop.invariant c.loop-test.true c.in_err-cell.ensures.fault)

pub returns-in_err-cell-clause-only : goal.returns-in_err-cell-clause-only
returns-in_err-cell-clause-only c other is other_kind result_kind =
    one_answer c.args.bytes.now c.args.count c.from_residual.result other
    (returns-in_err-cell-clause-answer c) is result_kind other_kind

pub returns-in_err-cell-clause-written : goal.returns-in_err-cell-clause-written
returns-in_err-cell-clause-written c =
    reads_back c.args.bytes.now c.args.count c.from_residual.result
    (returns-in_err-cell-clause-answer c)

pub loop-preserved : goal.loop-preserved
loop-preserved c =
    let fits : FitsSigned w32 c.in_ok-cell.cell = search rules in
    let next = so_far-next _ _ _ _ _ _ c.loop.invariant c.in_ok-cell.ensures.found in
    let pushed = c.in_ok-push.ensures.ok ∙ ap (λ z. c.loop.cells ++ z ∷ []) (to_z-of_z fits) in
    subst (λ cells. SoFar c.args.bytes.now cells c.in_ok-cell.after.now (c.loop.counter + 1))
    (sym pushed) next

pub returns-then-not-is_empty-clause-answer : goal.returns-then-not-is_empty-clause-answer
returns-then-not-is_empty-clause-answer c =
    let ended : c.loop.counter ≡ c.args.count = omega arith in
    let more : 0 < length c.loop.rest.now = grind (arith, common_steps, c.is_empty.ensures) in
    answers_many c.args.bytes.now c.loop.cells c.loop.rest.now c.loop.counter c.args.count
    c.loop.invariant ended more

pub returns-then-not-is_empty-clause-only : goal.returns-then-not-is_empty-clause-only
returns-then-not-is_empty-clause-only c other is other_kind result_kind =
    one_answer c.args.bytes.now c.args.count (Err TooMany) other
    (returns-then-not-is_empty-clause-answer c) is result_kind other_kind

pub returns-then-not-is_empty-clause-written : goal.returns-then-not-is_empty-clause-written
returns-then-not-is_empty-clause-written c =
    reads_back c.args.bytes.now c.args.count (Err TooMany)
    (returns-then-not-is_empty-clause-answer c)

pub returns-clause-answer : goal.returns-clause-answer
returns-clause-answer c =
    let ended : c.loop.counter ≡ c.args.count = omega arith in
    let none : length c.loop.rest.now ≡ 0 = grind (arith, common_steps, c.is_empty.ensures) in
    answers_ok c.args.bytes.now c.loop.cells c.loop.rest.now c.loop.counter c.args.count
    c.loop.invariant ended none

pub returns-clause-only : goal.returns-clause-only
returns-clause-only c other is other_kind result_kind =
    one_answer c.args.bytes.now c.args.count (Ok c.loop.cells) other
    (returns-clause-answer c) is result_kind other_kind

pub returns-clause-written : goal.returns-clause-written
returns-clause-written c =
    reads_back c.args.bytes.now c.args.count (Ok c.loop.cells) (returns-clause-answer c)
