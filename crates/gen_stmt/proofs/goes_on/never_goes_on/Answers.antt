use Rattle.std.proofs.Common.{◌∙◌, ap, sym}
use Rattle.pawn_meaning.specs.View.{stmt_view, stmts_view}
use Rattle.pawn_meaning.proofs.ViewLaws.{stmt_view-Block}
use Rattle.gen_laws.specs.GoesOn.{list_leaves, never_goes_on}
use Rattle.gen_stmt.proofs.goes_on.never_goes_on.Goals as goal

pub returns-in-Block : goal.returns-in-Block
returns-in-Block c =
    c.list_leaves.ensures ∙ ap (λ l. list_leaves (stmts_view l)) c.as_slice.ensures
    ∙ sym (ap never_goes_on (ap stmt_view c.in-Block.is ∙ stmt_view-Block c.in-Block.list))
