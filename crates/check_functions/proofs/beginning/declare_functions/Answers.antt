use Rattle.std.proofs.Common.{◌≤◌, ◌∙◌, ◌++◌, ℕ, List, [], map, length, sym, ap, ap₂, arith}
use Rattle.types_rules.specs.Scope.{Entry}
use Rattle.types_rules.specs.Sources as spec
use Rattle.check_source.specs.KeyView.{key_view}
use Rattle.check_source.specs.GroupsView.{groups_view, group_view}
use Rattle.check_nodes.specs.Scopes.{block_view}
use Rattle.check_source.specs.HeadingView.{heading_view}
use Rattle.check_source.specs.SourceView.{source_view}
use Rattle.check_functions.specs.Declares.{function_by}
use Rattle.check_functions.proofs.AtLaws.{seen_at, got_is, past}
use Rattle.check_functions.proofs.OwnLaws.{has_number}
use Rattle.check_functions.proofs.StatedLaws.{group_tag_is}
use Rattle.check_functions.proofs.BeginningLaws.{entries_more}
use Rattle.check_functions.proofs.DeclaresLaws.{function_is, so_far_ends}
use Rattle.check_functions.proofs.EndLaws.{entries_past}
use Rattle.check_functions.proofs.beginning.declare_functions.Goals as goal

pub loop-i-preserved : goal.loop-i-preserved
loop-i-preserved c =
    let here = seen_at group_view c.as_slice-groups.ensures c.index-groups-i.is (omega arith) in
    let at =
    got_is (groups_view c.args.source.now.groups) c.loop-i.i
    (group_view c.index-groups-i.result) here in
    let first =
    c.first-first.ensures (has_number (groups_view c.args.source.now.groups) c.loop-i.i
    (group_view c.index-groups-i.result) here) in
    let tag = c.tag_at-tag.ensures
    ∙ sym (group_tag_is (source_view c.args.source.now)
    (map heading_view c.args.source.now.headings) []
    (group_view c.index-groups-i.result) c.first-first.result first) in
    record {
      here =
          entries_more (source_view c.args.source.now)
          (spec.stated (source_view c.args.source.now)
          (map heading_view c.args.source.now.headings) [])
          (groups_view c.args.source.now.groups) c.loop-i.i (group_view c.index-groups-i.result)
          (block_view c.loop-i.scopes.here)
          (block_view c.declare_function.new.scopes.here) _ c.loop-i.invariant.here at.0 at.1
          (c.in_ok-declare_function.ensures.here
          ∙ ap (λ (es : List Entry). block_view c.loop-i.scopes.here ++ es)
          (ap₂ (λ (n t : ℕ). function_by n t (key_view c.index-groups-i.result.key))
          c.in_ok-number.ensures tag
          ∙ function_is (source_view c.args.source.now) c.loop-i.i
          (spec.group_tag (source_view c.args.source.now)
          (spec.stated (source_view c.args.source.now)
          (map heading_view c.args.source.now.headings) [])
          (group_view c.index-groups-i.result))
          (key_view c.index-groups-i.result.key)));
      outer = c.in_ok-declare_function.ensures.outer ∙ c.loop-i.invariant.outer;
    }

pub returns : goal.returns
returns c =
    let le : length c.as_slice-groups.result.now ≤ c.loop-i.i = omega arith in
    so_far_ends c.args.scopes.now c.loop-i.scopes _ _ c.loop-i.invariant
    (entries_past (source_view c.args.source.now)
    (spec.stated (source_view c.args.source.now)
    (map heading_view c.args.source.now.headings) [])
    (groups_view c.args.source.now.groups) c.loop-i.i
    (past group_view c.args.source.now.groups c.as_slice-groups.result.now c.loop-i.i
    c.as_slice-groups.ensures le))
