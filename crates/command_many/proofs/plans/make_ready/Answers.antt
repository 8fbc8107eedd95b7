use Rattle.std.proofs.Common.{List, ℕ, refl}
use Rattle.std.proofs.lemmas.Result.{err_from_is_err_and}
use Rattle.command_parts.proofs.ReadCallLaws.{handed, only_handed, only_other, only_then}
use Rattle.command_parts.proofs.ReadLaws.{read_is}
use Rattle.host_plan.specs.Plans.{Spells}
use Rattle.command_many.specs.Many.{IsReady, no_plan, unread}
use Rattle.command_many.proofs.ManyLaws.{machine_stops, plan_no_fault, plan_ready, plan_stops}
use Rattle.command_many.proofs.plans.make_ready.Goals as goal

pub returns-in_err-bytes-clause-calls : goal.returns-in_err-bytes-clause-calls
returns-in_err-bytes-clause-calls g c =
    only_handed c.from_residual.result c.from_residual.ensures.1 refl c.in_err-bytes.ensures.calls

pub returns-in_err-bytes-clause-answer : goal.returns-in_err-bytes-clause-answer
returns-in_err-bytes-clause-answer g c =
    handed (IsReady (g.F.Files.held c.args.files.now) c.args.plan.now) c.from_residual.result
    c.from_residual.ensures.1 (no_plan (unread _ c.in_err-bytes.ensures.answer))

pub returns-in_err-plan-clause-calls : goal.returns-in_err-plan-clause-calls
returns-in_err-plan-clause-calls g c =
    let p =
    err_from_is_err_and c.from_residual-in_err-plan.result
    c.from_residual-in_err-plan.ensures.1 in
    only_other (λ e. plan_no_fault c.in_err-plan.ensures (cc (p.1, p.2, e)))
    c.in_ok-bytes.ensures.calls

pub returns-in_err-plan-clause-answer : goal.returns-in_err-plan-clause-answer
returns-in_err-plan-clause-answer g c =
    let p =
    err_from_is_err_and c.from_residual-in_err-plan.result
    c.from_residual-in_err-plan.ensures.1 in
    rw (p.1, p.2)
    (no_plan (plan_stops c.in_ok-bytes.ensures.answer c.as_slice.ensures c.in_err-plan.ensures))

pub returns-in_err-host-clause-calls : goal.returns-in_err-host-clause-calls
returns-in_err-host-clause-calls g c =
    only_then c.in_ok-bytes.ensures.calls
    (only_handed c.from_residual-in_err-host.result c.from_residual-in_err-host.ensures.1 refl
    c.in_err-host.ensures.calls)

pub returns-in_err-host-clause-answer : goal.returns-in_err-host-clause-answer
returns-in_err-host-clause-answer g c =
    let plan = c.in_ok-plan.plan in
    handed (IsReady (g.F.Files.held c.args.files.now) c.args.plan.now)
    c.from_residual-in_err-host.result c.from_residual-in_err-host.ensures.1
    (machine_stops plan c.in_ok-bytes.ensures.calls.same
    (read_is c.in_ok-bytes.ensures.answer c.as_slice.ensures (λ (b : List ℕ). Spells b plan)
    c.in_ok-plan.ensures) c.as_slice-2.ensures c.in_err-host.ensures.answer)

pub returns-clause-calls : goal.returns-clause-calls
returns-clause-calls g c =
    only_then c.in_ok-bytes.ensures.calls
    (only_other (λ e. absurd (cc e)) c.in_ok-host.ensures.calls)

pub returns-clause-answer : goal.returns-clause-answer
returns-clause-answer g c =
    let plan = c.in_ok-plan.plan in
    plan_ready plan c.in_ok-bytes.ensures.calls.same
    (read_is c.in_ok-bytes.ensures.answer c.as_slice.ensures (λ (b : List ℕ). Spells b plan)
    c.in_ok-plan.ensures) _ c.as_slice-2.ensures c.in_ok-host.ensures.answer refl
