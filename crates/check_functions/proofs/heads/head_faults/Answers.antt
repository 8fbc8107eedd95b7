use Rattle.std.proofs.lemmas.Result.{err_from_is_err_and}
use Rattle.check_source.specs.SourceView.{source_view}
use Rattle.check_functions.specs.HeadsView.{heads_view}
use Rattle.check_functions.proofs.TellLaws.{whole_own, whole_by}
use Rattle.check_functions.proofs.heads.head_faults.Goals as goal

pub returns-in_err-own_heads : goal.returns-in_err-own_heads
returns-in_err-own_heads c =
    let p = err_from_is_err_and c.from_residual.result c.from_residual.ensures.1 in
    rw (p.1, p.2)
    (whole_own (source_view c.args.source.now)
    (heads_view c.args.heads.now) c.in_err-own_heads.field-0.0 c.in_err-own_heads.ensures)

pub returns : goal.returns
returns c =
    whole_by (source_view c.args.source.now) (heads_view c.args.heads.now) c.in_ok-own_heads.field-0
    c.entry_heads.result c.in_ok-own_heads.ensures c.entry_heads.ensures
