use Rattle.std.proofs.Common.{◌≡◌, ◌<◌, ◌≤◌, map, length, ap, arith, below_more}
use Rattle.std.proofs.lemmas.Result.{err_from_is_err_and}
use Rattle.check_source.specs.HeadingView.{heading_view}
use Rattle.check_source.specs.SourceView.{source_view}
use Rattle.check_functions.specs.HeadsView.{heads_view}
use Rattle.check_functions.proofs.AtLaws.{seen_at, within, past}
use Rattle.check_functions.proofs.TellLaws.{own_none, own_told}
use Rattle.check_functions.proofs.heads.own_heads.Goals as goal

pub loop-i-preserved : goal.loop-i-preserved
loop-i-preserved c =
    let here = seen_at heading_view c.as_slice-headings.ensures c.index-headings-i.is (omega arith) in
    below_more _ _ c.loop-i.invariant
    (own_none (source_view c.args.source.now) (heads_view c.args.heads.now) c.loop-i.i
    (heading_view c.index-headings-i.result) _ here c.in_ok-check_own.ensures)

pub returns-in_err-check_own : goal.returns-in_err-check_own
returns-in_err-check_own c =
    let p = err_from_is_err_and c.from_residual.result c.from_residual.ensures.1 in
    let long : length c.as_slice-headings.result.now ≡ length c.args.source.now.headings =
    ap length c.as_slice-headings.ensures in
    let less : c.loop-i.i < length c.args.source.now.headings = omega arith in
    let here = seen_at heading_view c.as_slice-headings.ensures c.index-headings-i.is (omega arith) in
    rw (p.1, p.2)
    (own_told (source_view c.args.source.now) (heads_view c.args.heads.now) c.loop-i.i
    (heading_view c.index-headings-i.result) _
    (within heading_view c.args.source.now.headings c.loop-i.i less) here
    c.in_err-check_own.ensures)

pub returns : goal.returns
returns c =
    let long : length c.as_slice-headings.result.now ≤ c.loop-i.i = omega arith in
    let end : length (map heading_view c.args.source.now.headings) ≤ c.loop-i.i =
    past heading_view c.args.source.now.headings c.as_slice-headings.result.now c.loop-i.i
    c.as_slice-headings.ensures long in
    record {
      told = λ i lt. let less : i < c.loop-i.i = omega (arith, lt, end) in c.loop-i.invariant
          i less;
    }
