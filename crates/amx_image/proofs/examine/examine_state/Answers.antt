use Rattle.std.proofs.Common.{rules, ◌∙◌}
use Rattle.amx_image.specs.Image.{registers_at}
use Rattle.amx_image.proofs.FaultLaws.{state_told}
use Rattle.amx_image.proofs.examine.examine_state.Goals as goal

pub returns-then-not-has_cells : goal.returns-then-not-has_cells
returns-then-not-has_cells c =
    state_told c.args.verified.now c.args.count c.args.version (registers_at c.args.bytes.now)
    c.args.bytes.now c.cast_unsigned-hea.result c.cast_unsigned-stk.result c.cast_unsigned.result _
    (search rules) (search rules) (search rules) c.if-not-is_heap.ensures
    c.if-not-is_stack.ensures.is c.if-not-starts_at.ensures.is c.if-not-has_cells.ensures
    ∙ search rules

pub returns : goal.returns
returns c =
    state_told c.args.verified.now c.args.count c.args.version (registers_at c.args.bytes.now)
    c.args.bytes.now c.cast_unsigned-hea.result c.cast_unsigned-stk.result c.cast_unsigned.result _
    (search rules) (search rules) (search rules) c.if-not-is_heap.ensures
    c.if-not-is_stack.ensures.is c.if-not-starts_at.ensures.is c.if-not-has_cells.ensures
