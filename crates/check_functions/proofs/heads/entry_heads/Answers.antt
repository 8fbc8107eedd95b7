use Rattle.std.proofs.Common.{length, map, refl}
use Rattle.std.proofs.lemmas.Result.{err_from_is_err_and}
use Rattle.check_source.specs.HeadingView.{heading_view}
use Rattle.check_source.specs.SourceView.{source_view}
use Rattle.check_functions.specs.HeadsView.{heads_view}
use Rattle.check_functions.proofs.EntryForwardLaws.{entry_first, entry_both}
use Rattle.check_functions.proofs.heads.entry_heads.Goals as goal

pub returns-in_err-check_at : goal.returns-in_err-check_at
returns-in_err-check_at c =
    let p = err_from_is_err_and c.from_residual.result c.from_residual.ensures.1 in
    rw (p.1, p.2)
    (entry_first (source_view c.args.source.now) (heads_view c.args.heads.now)
    (length (map heading_view c.args.source.now.headings)) _ _
    c.find_forwards-forwards.ensures c.in_err-check_at.field-0.0 c.in_err-check_at.ensures)

pub returns : goal.returns
returns c =
    entry_both (source_view c.args.source.now) (heads_view c.args.heads.now)
    (length (map heading_view c.args.source.now.headings)) _ _
    c.find_forwards-forwards.ensures c.in_ok-check_at.field-0 c.check_at-2.result refl
    c.in_ok-check_at.ensures c.check_at-2.ensures
