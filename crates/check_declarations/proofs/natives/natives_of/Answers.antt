use Rattle.std.proofs.Common.{◌≤◌, ◌∙◌, length, ap₂, arith, ◌++◌}
use Rattle.std.specs.Prelude.{Bool, ℕ, List}
use Rattle.check_source.specs.HeadingView.{heading_view}
use Rattle.check_source.specs.SourceView.{source_view}
use Rattle.check_functions.proofs.AtLaws.{seen_at, past}
use Rattle.check_declarations.specs.Listed.{listed_by}
use Rattle.check_declarations.proofs.NativeLaws.{natives_more, natives_all}
use Rattle.check_declarations.proofs.natives.natives_of.Goals as goal

pub loop-i-preserved : goal.loop-i-preserved
loop-i-preserved c =
    let at = seen_at heading_view c.as_slice-headings.ensures c.index-headings-i.is (omega arith) in
    natives_more (source_view c.args.source.now) _ c.loop-i.i
    (heading_view c.index-headings-i.result) c.loop-i.list _ _ c.loop-i.invariant at
    (c.in_ok-add_name.ensures
    ∙ ap₂ (λ (b : Bool) (name : List ℕ). c.loop-i.list ++ listed_by b name) c.is_listed.ensures
    c.heading_name.ensures)

pub returns : goal.returns
returns c =
    let le : length c.as_slice-headings.result.now ≤ c.loop-i.i = omega arith in
    natives_all (source_view c.args.source.now) _ c.loop-i.i c.loop-i.list _
    (past heading_view c.args.source.now.headings c.as_slice-headings.result.now c.loop-i.i
    c.as_slice-headings.ensures le) c.loop-i.invariant
