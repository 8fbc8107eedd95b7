use Rattle.std.proofs.Common.{◌≤◌, ◌∙◌, ℕ, length, ap, refl, arith}
use Rattle.check_source.specs.KeyView.{key_view}
use Rattle.check_source.specs.GroupsView.{groups_view, group_view}
use Rattle.check_source.specs.SourceView.{source_view}
use Rattle.check_functions.specs.Distinct.{defined_by}
use Rattle.check_functions.proofs.AtLaws.{seen_at, past}
use Rattle.check_functions.proofs.DistinctLaws.{define_step, operators_more}
use Rattle.check_functions.proofs.EndLaws.{operators_past}
use Rattle.check_functions.proofs.operators.user_operators.Goals as goal

pub loop-i-preserved : goal.loop-i-preserved
loop-i-preserved c =
    let at = seen_at group_view c.as_slice-groups.ensures c.index-groups-i.is (omega arith) in
    let step =
    define_step (source_view c.args.source.now)
    (groups_view c.args.source.now.groups) c.loop-i.i
    (group_view c.index-groups-i.result) c.loop-i.operators
    c.define.new.operators (key_view c.index-groups-i.result.key) at c.requires refl
    c.loop-i.invariant.1
    (c.in_ok-define.ensures ∙ ap (λ (n : ℕ). defined_by c.loop-i.operators n
    (key_view c.index-groups-i.result.key)) c.in_ok-number.ensures) in (
      operators_more (source_view c.args.source.now)
          (groups_view c.args.source.now.groups) c.loop-i.i
          (group_view c.index-groups-i.result) c.loop-i.operators
          c.define.new.operators _ c.loop-i.invariant.0 at step.0,
      step.1,
    )

pub returns : goal.returns
returns c =
    let le : length c.as_slice-groups.result.now ≤ c.loop-i.i = omega arith in
    operators_past (source_view c.args.source.now)
    (groups_view c.args.source.now.groups) c.loop-i.i c.loop-i.operators _
    (past group_view c.args.source.now.groups c.as_slice-groups.result.now c.loop-i.i
    c.as_slice-groups.ensures le) c.loop-i.invariant.0
