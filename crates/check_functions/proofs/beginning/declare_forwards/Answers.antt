use Rattle.std.proofs.Common.{◌≤◌, ◌∙◌, ◌++◌, List, map, length, ap, arith}
use Rattle.types_rules.specs.Scope.{Entry}
use Rattle.check_nodes.specs.Scopes.{block_view}
use Rattle.check_source.specs.HeadingView.{heading_view, role_view}
use Rattle.check_source.specs.SourceView.{source_view}
use Rattle.check_functions.proofs.AtLaws.{seen_at, got_is, past}
use Rattle.check_functions.proofs.BeginningLaws.{forwards_more}
use Rattle.check_functions.proofs.DeclaresLaws.{forward_is, so_far_ends}
use Rattle.check_functions.proofs.EndLaws.{forwards_past}
use Rattle.check_functions.proofs.beginning.declare_forwards.Goals as goal

pub loop-i-preserved : goal.loop-i-preserved
loop-i-preserved c =
    let at =
    got_is (map heading_view c.args.source.now.headings) c.loop-i.i
    (heading_view c.index-headings-i.result)
    (seen_at heading_view c.as_slice-headings.ensures c.index-headings-i.is (omega arith)) in
    record {
      here =
          forwards_more (source_view c.args.source.now)
          (map heading_view c.args.source.now.headings) c.loop-i.i
          (heading_view c.index-headings-i.result)
          (block_view c.loop-i.scopes.here)
          (block_view c.declare_forward.new.scopes.here) _ c.loop-i.invariant.here at.0 at.1
          (c.in_ok-declare_forward.ensures.here
          ∙ ap (λ (es : List Entry). block_view c.loop-i.scopes.here ++ es)
          (forward_is (source_view c.args.source.now) (heading_view c.index-headings-i.result)
          (role_view c.index-headings-i.result.role)));
      outer = c.in_ok-declare_forward.ensures.outer ∙ c.loop-i.invariant.outer;
    }

pub returns : goal.returns
returns c =
    let le : length c.as_slice-headings.result.now ≤ c.loop-i.i = omega arith in
    so_far_ends c.args.scopes.now c.loop-i.scopes _ _ c.loop-i.invariant
    (forwards_past (source_view c.args.source.now)
    (map heading_view c.args.source.now.headings) c.loop-i.i
    (past heading_view c.args.source.now.headings c.as_slice-headings.result.now c.loop-i.i
    c.as_slice-headings.ensures le))
