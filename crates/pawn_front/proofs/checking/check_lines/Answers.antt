use Rattle.std.proofs.Common.{rules, w32, FitsSigned}
use Rattle.std.proofs.lemmas.Int.{to_z-of_z}
use Rattle.std.proofs.lemmas.Result.{err_from_is_err_and}
use Rattle.pawn_front.proofs.CheckLaws.{checks_behind, no_tokens_checked}
use Rattle.pawn_front.proofs.checking.check_lines.Goals as goal

pub returns-in_err-tokens : goal.returns-in_err-tokens
returns-in_err-tokens c =
    let p = err_from_is_err_and c.from_residual.result c.from_residual.ensures.1 in
    rw (p.1, p.2)
    (no_tokens_checked c.args.lines.now c.in_err-tokens.field-0.0 c.in_err-tokens.ensures.answer)

pub returns : goal.returns
returns c =
    let fits : FitsSigned w32 c.args.lines.now.dynamic = search rules in
    checks_behind c.args.lines.now c.in_ok-tokens.tokens.list c.check_tokens.result
    c.in_ok-tokens.ensures.answer
    (rw (to_z-of_z w32 c.args.lines.now.dynamic fits) at c.check_tokens.ensures)
