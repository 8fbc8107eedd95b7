-- A session does at most the steps of its bound.
use Rattle.std.proofs.Common.{◌≡◌, ◌≢◌, ◌≤◌, ◌+◌, ℕ, zero, suc, List, [], ◌∷◌, Option, ap, subst}
use Rattle.std.proofs.Common.{refl, arith}
use Rattle.host_script.specs.declared.script.Script.{Script}
use Rattle.host_script.specs.declared.event.End.{End}
use Rattle.amx_ops.specs.Cuts.{Enough}
use Rattle.amx_ops.specs.Moves.{Config, move}
use Rattle.amx_ops.specs.Runs.{Segmented, Stop, Steps, segment}
use Rattle.amx_ops.proofs.RunLaws.{segment-zero}
use Rattle.amx_ops.proofs.ShownLaws.{trace_is_one_iteration_lem}
use Rattle.host_run.specs.Segments.{Place, begun, segment_of}
use Rattle.host_run.specs.Session.{Sessions, Concludes}
use Rattle.host_run.specs.StepCount.{IsStepCount, SessionsAreBounded}
use Rattle.host_run.specs.declared.end.SessionEnd.{SessionEnd}
use Rattle.host_run.specs.declared.end.SessionEnd.TheVariants as session
use Rattle.host_run.proofs.BehindLaws.{some_steps}

module _ (script : Script) (old : Place) where
  abbrev made : ℕ → Segmented Config End
  made bound = segment_of script old bound

  below : (bound : ℕ) → (made bound).steps ≤ bound
  below bound =
      let it =
      (trace_is_one_iteration_lem.cut old.machine.amx script bound [] (begun old)).within in
      omega (arith, it)

  full : (bound : ℕ) → (made bound).stop ≡ Steps → bound ≤ (made bound).steps
  full bound is =
      let P : Stop End → Type 0 = λ s. Enough s bound (made bound).steps in
      subst P is
      (trace_is_one_iteration_lem.cut old.machine.amx script bound [] (begun old)).enough

  some : (bound : ℕ) → (made bound).stop ≢ Steps → 1 ≤ (made bound).steps
  some zero other =
      absurd (other (ap (λ (s : Segmented Config End). s.stop)
      (segment-zero (move old.machine.amx script) 0 (begun old))))
  some (suc n) other = some_steps (move old.machine.amx script) (suc n) (begun old) (omega arith)

  -- one that was done and ended otherwise
  ended : {bound count : ℕ} {given : SessionEnd} {new : Place}
      → Concludes made bound old count given new → given ≢ session.Steps
      → (made bound).stop ≢ Steps → IsStepCount bound count given
  ended {bound} it not_steps other =
      let counted = it.stands.steps in
      let most = below bound in
      let least = some bound other in
      record {
        within = omega (arith, counted, most);
        all = λ e. absurd (not_steps e);
        some = λ e. omega (arith, counted, least);
      }

pub sessions_bounded : SessionsAreBounded
sessions_bounded script taken after bound count old new (session.Done value) it =
    ended script old it (λ e. absurd (cc e)) (λ e. absurd (cc (it.answer, e)))
sessions_bounded script taken after bound count old new (session.Exit value tag) it =
    ended script old it (λ e. absurd (cc e)) (λ e. absurd (cc (it.answer, e)))
sessions_bounded script taken after bound count old new (session.Error code) it =
    ended script old it (λ e. absurd (cc e)) (λ e. absurd (cc (it.answer, e)))
sessions_bounded script taken after bound count old new (session.Asleep value tag) it =
    ended script old it (λ e. absurd (cc e)) (λ e. absurd (cc (it.answer.0, e)))
sessions_bounded script taken after bound count old new session.Steps it =
    let counted = it.stands.steps in
    let most = below script old bound in
    let least = full script old bound it.answer in
    record {
      within = omega (arith, counted, most);
      all = λ e. omega (arith, counted, most, least);
      some = λ other. absurd (other refl);
    }
sessions_bounded script taken after bound count old new session.SinkFault it =
    let last = it.cut.last in
    record {
      within = it.within;
      all = λ e. absurd (cc e);
      some = λ e. omega (arith, last);
    }
