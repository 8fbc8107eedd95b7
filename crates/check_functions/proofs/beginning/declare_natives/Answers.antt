use Rattle.std.proofs.Common.{◌≤◌, ◌∙◌, [], map, length, sym, arith}
use Rattle.check_nodes.specs.Scopes.{block_view}
use Rattle.check_source.specs.HeadingView.{heading_view}
use Rattle.check_source.specs.SourceView.{source_view}
use Rattle.check_functions.proofs.AtLaws.{seen_at, past}
use Rattle.check_functions.proofs.BeginningLaws.{entry_other, entry_native}
use Rattle.check_functions.proofs.DeclaresLaws.{so_far_ends}
use Rattle.check_functions.proofs.EndLaws.{entries_of_none}
use Rattle.check_functions.proofs.beginning.declare_natives.Goals as goal

pub loop-i-preserved-then-not-is_native : goal.loop-i-preserved-then-not-is_native
loop-i-preserved-then-not-is_native c =
    let at = seen_at heading_view c.as_slice-headings.ensures c.index-headings-i.is (omega arith) in
    record {
      here =
          entry_other (source_view c.args.source.now)
          (map heading_view c.args.source.now.headings) [] c.loop-i.i
          (heading_view c.index-headings-i.result) at
          c.loop-i.number (block_view c.loop-i.scopes.here) _ c.loop-i.invariant.here
          (sym c.if-not-is_native.ensures);
      outer = c.loop-i.invariant.outer;
    }

pub loop-i-preserved : goal.loop-i-preserved
loop-i-preserved c =
    let at = seen_at heading_view c.as_slice-headings.ensures c.index-headings-i.is (omega arith) in
    record {
      here =
          entry_native (source_view c.args.source.now)
          (map heading_view c.args.source.now.headings) [] c.loop-i.i
          (heading_view c.index-headings-i.result) at
          c.loop-i.number c.in-Some.next (block_view c.loop-i.scopes.here)
          (block_view c.declare_native.new.scopes.here) _ c.loop-i.invariant.here
          (sym c.if-not-is_native.ensures) c.in_ok-declare_native.ensures.here c.in-Some.ensures.1;
      outer = c.in_ok-declare_native.ensures.outer ∙ c.loop-i.invariant.outer;
    }

pub returns : goal.returns
returns c =
    let le : length c.as_slice-headings.result.now ≤ c.loop-i.i = omega arith in
    so_far_ends c.args.scopes.now c.loop-i.scopes _ _ c.loop-i.invariant
    (entries_of_none (source_view c.args.source.now)
    (map heading_view c.args.source.now.headings) [] c.loop-i.i c.loop-i.number
    (past heading_view c.args.source.now.headings c.as_slice-headings.result.now c.loop-i.i
    c.as_slice-headings.ensures le))
