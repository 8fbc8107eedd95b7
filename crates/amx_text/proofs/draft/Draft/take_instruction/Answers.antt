use Rattle.std.proofs.Common.{◌∙◌, ◌+◌, ◌∷◌, [], drop, length, length-append, arith}
use Rattle.std.proofs.Common.{refl, sym, ap, subst}
use Rattle.std.proofs.Common.{FitsSigned, w32, to_z, of_z, rules, Some}
use Rattle.std.proofs.lemmas.Result.{err_from_is_err_and}
use Rattle.amx_text.specs.Readers.{has_operands}
use Rattle.amx_text.proofs.CodeReads.{no_start, no_operation}
use Rattle.amx_text.proofs.TakeLaws.{no_instruction}
use Rattle.amx_text.proofs.PutLaws.{code_read, no_line_put, no_operands_put}
use Rattle.amx_text.proofs.PutLaws.{instruction_put}
use Rattle.amx_text.proofs.draft.Draft.take_instruction.Goals as goal

pub returns-in_default : goal.returns-in_default
returns-in_default c = record {
  none = no_instruction c.args.text.now (no_start c.args.text.now c.in_default.ensures);
  lines = refl;
  last = refl;
}

pub returns-in_default-operation_at : goal.returns-in_default-operation_at
returns-in_default-operation_at c = record {
  none =
      no_instruction c.args.text.now
      (no_operation c.args.text.now c.in-Some.address c.in-Some.rest.now c.in-Some.ensures
      c.in_default-operation_at.ensures);
  lines = refl;
  last = refl;
}

pub returns-in_err-push : goal.returns-in_err-push
returns-in_err-push c =
    let p = err_from_is_err_and c.from_residual.result c.from_residual.ensures.1 in rw p.1 tt

pub returns-in_err-rest : goal.returns-in_err-rest
returns-in_err-rest c =
    let p =
    err_from_is_err_and c.from_residual-in_err-rest.result
    c.from_residual-in_err-rest.ensures.1 in
    rw p.1 tt

pub returns-in_err-push-2 : goal.returns-in_err-push-2
returns-in_err-push-2 c =
    let p =
    err_from_is_err_and c.from_residual-in_err-push-2.result
    c.from_residual-in_err-push-2.ensures.1 in
    rw p.1 tt

pub returns-in_default-2 : goal.returns-in_default-2
returns-in_default-2 c =
    let cells = rw c.in_default-2.is at c.in_ok-rest.ensures in
    let fits : FitsSigned w32 c.from.result = search rules in
    record {
      none =
          no_line_put c.args.text.now c.in-Some.address c.args.self.now.amx.code
          c.read_cells.new.cells c.in-Some-operation_at.number c.in-Some-operation_at.operand
          (code_read c.in-Some.ensures c.in-Some-operation_at.ensures
          c.in_ok-push.ensures.ok c.from.ensures fits cells);
      lines = refl;
      last = refl;
    }

pub cells_behind-requires : goal.cells_behind-requires
cells_behind-requires c =
    let cells = rw c.in-Some-2.is at c.in_ok-rest.ensures in
    omega (
      arith,
      c.len-before.ensures,
      ap length c.as_slice.ensures.cells,
      ap length cells.put,
      length-append c.push.new.self cells.cells,
      ap length c.in_ok-push.ensures.ok,
      length-append c.args.self.now.amx.code (to_z w32 (of_z w32 c.from.result) ∷ []),
    )

pub returns-then-not-has_operands : goal.returns-then-not-has_operands
returns-then-not-has_operands c =
    let cells = rw c.in-Some-2.is at c.in_ok-rest.ensures in
    let fits : FitsSigned w32 c.from.result = search rules in
    let kind = c.in-Some-operation_at.operand in
    record {
      none =
          no_operands_put c.args.text.now c.in-Some.address c.len-before.result
          c.args.self.now.amx.code c.read_cells.new.cells c.in-Some-operation_at.number kind
          (Some c.in-Some-2.rest) (code_read c.in-Some.ensures c.in-Some-operation_at.ensures
          c.in_ok-push.ensures.ok c.from.ensures fits cells) c.len-before.ensures
          (ap (λ cs. has_operands kind (drop (c.len-before.result + 1) cs))
          (sym c.as_slice.ensures.cells)
          ∙ ap (has_operands kind) (sym c.cells_behind.ensures)
          ∙ sym c.has_operands.ensures ∙ c.if-not-has_operands.true);
      lines = refl;
      last = refl;
    }

pub returns : goal.returns
returns c =
    let cells = rw c.in-Some-2.is at c.in_ok-rest.ensures in
    let fits : FitsSigned w32 c.from.result = search rules in
    let kind = c.in-Some-operation_at.operand in
    instruction_put c.args.text.now c.in-Some-2.rest c.in-Some.address c.len-before.result
    c.read_cells.new.cells c.push-2.new.self c.in-Some-operation_at.number kind c.args.self.now
    c.place.new.self _ (code_read c.in-Some.ensures c.in-Some-operation_at.ensures
    c.in_ok-push.ensures.ok c.from.ensures fits cells) c.len-before.ensures
    (subst (FitsSigned w32) c.from.ensures fits)
    (ap (λ cs. has_operands kind (drop (c.len-before.result + 1) cs))
    (sym c.as_slice.ensures.cells)
    ∙ ap (has_operands kind) (sym c.cells_behind.ensures)
    ∙ sym c.has_operands.ensures ∙ c.if-not-has_operands.false)
    c.in_ok-push-2.ensures.ok c.place.ensures c.end_line.ensures
