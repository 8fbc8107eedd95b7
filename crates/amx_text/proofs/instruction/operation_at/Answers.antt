use Rattle.std.proofs.Common.{◌≡◌, ◌∙◌, ◌==◌, ◌||◌, sym, ap, arith, drop, Some}
use Rattle.amx_text.specs.Readers.{operation_named}
use Rattle.amx_text.proofs.OperationSteps.{position_within, no_blank, no_word_end, no_operation}
use Rattle.amx_text.proofs.OperationSteps.{an_operation}
use Rattle.amx_text.proofs.ReaderSteps.{gives_none}
use Rattle.amx_text.proofs.instruction.operation_at.Goals as goal

pub split_at-requires : goal.split_at-requires
split_at-requires c =
    let within =
    position_within (λ byte. byte == 32 || byte == 10) c.in_ok-text.text.now c.in_ok-end.end
    (sym c.in_ok-end.ensures) in
    omega (arith, within)

pub returns-in_err-text : goal.returns-in_err-text
returns-in_err-text c =
    gives_none c.from_residual.ensures (no_blank c.args.text.now c.in_err-text.ensures)

pub returns-in_err-end : goal.returns-in_err-end
returns-in_err-end c =
    gives_none c.from_residual-in_err-end.ensures
    (no_word_end c.args.text.now c.in_ok-text.text.now c.in_ok-text.ensures
    (sym c.in_err-end.ensures))

pub returns-in_err-operation : goal.returns-in_err-operation
returns-in_err-operation c =
    gives_none c.from_residual-in_err-operation.ensures
    (no_operation c.args.text.now c.in_ok-text.text.now c.in_ok-text.ensures c.in_ok-end.end
    (sym c.in_ok-end.ensures)
    (ap operation_named (sym c.split_at.ensures.front) ∙ sym c.in_err-operation.ensures))

pub returns : goal.returns
returns c =
    let it = c.in_ok-operation.operation in
    let rest : c.split_at.result.1.now ≡ drop c.in_ok-end.end c.in_ok-text.text.now =
    c.split_at.ensures.back in
    an_operation c.args.text.now c.in_ok-text.text.now c.in_ok-text.ensures c.in_ok-end.end
    (sym c.in_ok-end.ensures) it
    (ap operation_named (sym c.split_at.ensures.front) ∙ sym c.in_ok-operation.ensures)
    ∙ ap (λ r. Some (it, r)) (sym rest)
