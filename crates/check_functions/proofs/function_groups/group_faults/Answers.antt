use Rattle.std.proofs.Common.{List, Option, Err, map, subst, refl}
use Rattle.std.specs.Prelude.{flat_map}
use Rattle.std.proofs.lemmas.Result.{err_from_is_err_and}
use Rattle.names_rules.specs.Verdict.{Fault}
use Rattle.types_rules.specs.Groups.{Group}
use Rattle.types_rules.specs.Functions as functions
use Rattle.types_rules.specs.Sources.{Stated, stated}
use Rattle.check_nodes.specs.declared.context.Head.{Head}
use Rattle.check_source.specs.GroupsView.{groups_view}
use Rattle.check_source.specs.declared.source.Source.{Source}
use Rattle.check_source.specs.declared.groups.Group as held
use Rattle.check_source.specs.HeadingView.{heading_view}
use Rattle.check_source.specs.SourceView.{source_view}
use Rattle.check_functions.specs.Finds.{Finds}
use Rattle.check_functions.specs.Group.{bodies_and_params}
use Rattle.check_functions.specs.HeadsView.{heads_view}
use Rattle.check_functions.proofs.JoinLaws.{joined_first, joined_second}
use Rattle.check_functions.proofs.function_groups.group_faults.Goals as goal

module _ (source : Source) (heads : List (Option Head)) where
  abbrev all_stated : List Stated
  all_stated =
      stated (source_view source) (map heading_view source.headings) (heads_view heads)

  -- the faults of the heads of one function, and all of its faults
  abbrev of_heads : Group → List Fault
  of_heads g =
      functions.head_faults (source_view source)
      (functions.heads_of_group (source_view source) all_stated g)

  abbrev of_group : Group → List Fault
  of_group g = functions.group_faults (source_view source) all_stated g

pub returns-in_err-all_groups : goal.returns-in_err-all_groups
returns-in_err-all_groups c =
    let p = err_from_is_err_and c.from_residual.result c.from_residual.ensures.1 in
    rw (p.1, p.2)
    (joined_first functions.classifier_faults functions.param_faults
    (of_heads c.args.source.now c.args.heads.now) (of_group c.args.source.now c.args.heads.now)
    (λ g. refl) (groups_view c.args.source.now.groups) c.in_err-all_groups.field-0.0
    (subst (λ (gs : List held.Group). Finds (flat_map bodies_and_params (groups_view gs))
    (Err c.in_err-all_groups.field-0.0)) c.as_slice.ensures c.in_err-all_groups.ensures))

pub returns : goal.returns
returns c =
    joined_second functions.classifier_faults functions.param_faults
    (of_heads c.args.source.now c.args.heads.now) (of_group c.args.source.now c.args.heads.now)
    (λ g. refl) (groups_view c.args.source.now.groups) _ c.head_faults.result
    (subst (λ (gs : List held.Group). Finds (flat_map bodies_and_params (groups_view gs)) _)
    c.as_slice.ensures c.in_ok-all_groups.ensures)
    c.head_faults.ensures
