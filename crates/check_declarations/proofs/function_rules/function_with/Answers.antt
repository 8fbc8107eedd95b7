use Rattle.std.proofs.Common.{ℕ, sym, ap, subst, ◌∙◌}
use Rattle.std.specs.Prelude.{unwrap_or}
use Rattle.pawn_tree.specs.declared.name.At.{At}
use Rattle.pawn_tree.specs.View.{function_view}
use Rattle.names_rules.specs.Verdict.{Verdict, faults_of}
use Rattle.pawn_verdict.specs.Answers.{Fails}
use Rattle.types_rules.specs.Points.{Point}
use Rattle.types_rules.specs.Stood.{Stood}
use Rattle.types_rules.specs.Params.{Headed, head_parts, head_rule}
use Rattle.types_rules.specs.Groups.{number_of}
use Rattle.types_rules.specs.Declarations.{Done, bodied, body_of, within_locals}
use Rattle.check_nodes.specs.ContextView.{around_view}
use Rattle.check_source.specs.KeyView.{key_view}
use Rattle.check_locals.specs.PointView.{point_view}
use Rattle.check_declarations.specs.KnownView.{body_verdict, source_view}
use Rattle.check_declarations.proofs.HeadAndBodyLaws.{parts_fail, head_fails, joined_tells}
use Rattle.check_declarations.proofs.ToldLaws.{exit_ok, ok_holds}
use Rattle.check_declarations.proofs.function_rules.function_with.Goals as goal

-- what a head and a body that stand are together
abbrev rule : At → ℕ → Headed → Stood → Verdict Done
rule at n head x = within_locals at (body_of head x) (bodied n at head x)

pub returns-in_err-parts : goal.returns-in_err-parts
returns-in_err-parts c =
    let known = c.args.known.now in
    let at = c.args.at in
    let old : Point = point_view c.args.point.now in
    let it = function_view c.args.it.now in
    record {
      tells = parts_fail (head_parts (around_view known.cx.now) at old.scope it.head)
          (body_verdict known old at it) (head_rule (around_view known.cx.now) at old.scope it.head)
          (rule at) (unwrap_or (number_of (source_view known).groups (key_view c.args.key)) 0)
          c.from_residual.result c.in_err-parts.field-0.0 c.from_residual.ensures.1
          c.in_err-parts.ensures.fault;
      behind = exit_ok _ c.from_residual.result _ c.from_residual.ensures.1;
    }

pub returns-in_err-head : goal.returns-in_err-head
returns-in_err-head c =
    let known = c.args.known.now in
    let at = c.args.at in
    let old : Point = point_view c.args.point.now in
    let it = function_view c.args.it.now in
    let P : Point → Type 0 =
    λ p. Fails (faults_of (head_rule (around_view known.cx.now) at p.scope it.head))
    c.in_err-head.field-0.0 in
    let head = subst P c.in_ok-parts.ensures.behind c.in_err-head.ensures.tells in
    record {
      tells = head_fails (head_parts (around_view known.cx.now) at old.scope it.head)
          (body_verdict known old at it) (head_rule (around_view known.cx.now) at old.scope it.head)
          (rule at) (unwrap_or (number_of (source_view known).groups (key_view c.args.key)) 0)
          c.in_ok-parts.parts.head c.in_ok-parts.parts.body
          c.in_ok-parts.ensures.head c.in_ok-parts.ensures.body
          c.from_residual-in_err-head.result c.in_err-head.field-0.0
          c.from_residual-in_err-head.ensures.1 head;
      behind = exit_ok _ c.from_residual-in_err-head.result _ c.from_residual-in_err-head.ensures.1;
    }

pub returns-clause-tells : goal.returns-clause-tells
returns-clause-tells c =
    let known = c.args.known.now in
    let at = c.args.at in
    let old : Point = point_view c.args.point.now in
    let it = function_view c.args.it.now in
    let head =
    ap (λ (p : Point). head_rule (around_view known.cx.now) at p.scope it.head)
    (sym c.in_ok-parts.ensures.behind) ∙ c.in_ok-head.ensures.tells in
    joined_tells (head_parts (around_view known.cx.now) at old.scope it.head)
    (body_verdict known old at it) (head_rule (around_view known.cx.now) at old.scope it.head)
    (rule at) (unwrap_or (number_of (source_view known).groups (key_view c.args.key)) 0)
    c.in_ok-parts.parts.head c.in_ok-parts.parts.body
    c.in_ok-parts.ensures.head c.in_ok-parts.ensures.body
    c.in_ok-head.head c.number_in-number.result c.function_joined.result head
    c.number_in-number.ensures c.function_joined.ensures

pub returns-clause-behind : goal.returns-clause-behind
returns-clause-behind c =
    ok_holds _ c.function_joined.result (c.in_ok-head.ensures.behind ∙ c.in_ok-parts.ensures.behind)
