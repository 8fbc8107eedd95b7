use Rattle.std.proofs.Common.{Bool, List, [], false, map, ap₂, subst, ◌∙◌}
use Rattle.names_rules.specs.Verdict.{Fault}
use Rattle.check_source.specs.GroupsView.{group_view}
use Rattle.check_source.specs.WrittenView.{written_view}
use Rattle.check_source.specs.declared.written.Written.{Written}
use Rattle.check_functions.specs.Bare.{bodies_by}
use Rattle.check_functions.specs.Finds.{Finds}
use Rattle.check_functions.proofs.ClauseLaws.{bodies_are}
use Rattle.check_functions.proofs.group.judge_bodies.Goals as goal

pub returns : goal.returns
returns c =
    subst (λ (fs : List Fault). Finds fs c.all_bodies.result)
    (ap₂ (λ (b : Bool) (bs : List Written). bodies_by b false (map written_view bs))
    c.is_classified.ensures c.as_slice.ensures
    ∙ bodies_are (group_view c.args.group.now) [] (map written_view c.args.group.now.bodies))
    c.all_bodies.ensures
