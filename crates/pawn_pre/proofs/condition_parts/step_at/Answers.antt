use Rattle.std.proofs.Common.{Some, length, sym, ap, ◌∙◌}
use Rattle.pawn_pre.specs.ConditionParts.{step_with}
use Rattle.pawn_pre.proofs.TextLaws.{token_step, fault_step}
use Rattle.pawn_pre.proofs.condition_parts.step_at.Goals as goal

pub returns-in-Err-Source : goal.returns-in-Err-Source
returns-in-Err-Source c =
    let here = rw c.in-Err-Source.field-0-is at c.in-Err-Source.ensures.answer in
    sym (fault_step c.args.control c.args.bytes.now c.in-Err-Source.field-0-0 c.requires here)

pub returns-in-Some : goal.returns-in-Some
returns-in-Some c =
    sym (token_step c.args.control c.args.bytes.now _ _ c.requires c.in-Ok.ensures.answer
    ∙ ap (step_with (length c.args.bytes.now) _) (sym c.in-Some.ensures)
    ∙ ap (λ n. Some (record { part = c.in-Some.part; size = n }))
    (sym c.saturating_sub-size.ensures))

pub returns : goal.returns
returns c =
    sym (token_step c.args.control c.args.bytes.now _ _ c.requires c.in-Ok.ensures.answer
    ∙ ap (step_with (length c.args.bytes.now) _) (sym c.in-None.ensures))
