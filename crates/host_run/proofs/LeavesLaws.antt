-- Where a run over sleeps leaves its machine: the last of its segments goes on from where the one
-- before fell asleep.
use Rattle.std.proofs.Common.{◌≡◌, ◌≢◌, ◌≤◌, ◌+◌, ◌∙◌, ℕ, zero, suc, List, [], Option, Some, replicate}
use Rattle.std.proofs.Common.{sym, ap, subst, append-nil, arith}
use Rattle.host_script.specs.declared.script.Script.{Script}
use Rattle.host_script.specs.declared.event.End.{End}
use Rattle.amx_ops.specs.declared.amx.Amx.{Amx}
use Rattle.amx_ops.specs.Cuts.{showing}
use Rattle.amx_ops.specs.Moves.{Config, move}
use Rattle.amx_ops.specs.Runs.{Moved, Segmented, Traced, Stop, segment, traced, behind, joined}
use Rattle.amx_ops.specs.Trace.{begun}
use Rattle.amx_ops.proofs.ShownLaws.{trace_is_one_iteration_lem}
use Rattle.amx_machine.specs.Machine.{Machine}
use Rattle.host_run.specs.Going.{Going}
use Rattle.host_run.specs.Leaves.{Leaves, StandsBehind, cut_trace}
use Rattle.host_run.specs.Reached.{placed}
use Rattle.host_run.specs.Segments.{Place, segment_of}
use Rattle.host_run.specs.Session.{Sessions}
use Rattle.host_run.specs.Stands.{IsLeft, Stands}
use Rattle.host_run.specs.Trace.{trace_on}
use Rattle.host_run.specs.declared.end.SessionEnd.{SessionEnd}
use Rattle.host_run.specs.declared.end.SessionEnd.TheVariants as session
use Rattle.host_run.specs.Last.{unless_asleep}
use Rattle.host_run.proofs.BehindLaws.{some_steps, whole_behind}
use Rattle.host_run.proofs.GoingLaws.{not_asleep, same_end, stops_as}
use Rattle.host_run.proofs.JoinedLaws.{joined_ends}

some_last : (done count : ℕ) → (1 ≤ done → 1 ≤ count) → 1 ≤ done + count → 1 ≤ count
some_last zero count some h = omega (arith, h)
some_last (suc done) count some h = some (omega arith)

module _ {script : Script} {old : Machine} {steps sleeps left done : ℕ} {now : Place}
    {say : List ℕ → Type 0} (so : Going script old steps sleeps left done now say)
    (count : ℕ) (new : Place) where
  abbrev go : Config → Moved Config End
  go = move old.amx script

  abbrev here : Config
  here = placed now.machine.state now.position so.shown

  abbrev bare : ℕ → Segmented Config End
  bare bound = segment go bound 0 (placed now.machine.state now.position [])

  bare_is : (bound : ℕ) → segment_of script now bound ≡ bare bound
  bare_is bound =
      ap (λ (amx : Amx). segment (move amx script) bound 0
      (placed now.machine.state now.position [])) so.file

  from_here : (bound : ℕ) → segment go bound 0 here
      ≡ (let s = bare bound in record
      { stop = s.stop; config = showing so.shown s.config; steps = s.steps })
  from_here bound =
      ap (λ es. segment go bound 0 (placed now.machine.state now.position es))
      (sym (append-nil so.shown))
      ∙ trace_is_one_iteration_lem.resumed old.amx script bound so.shown
      (placed now.machine.state now.position [])

  same : (bound : ℕ) → segment go bound 0 here
      ≡ (let s = segment_of script now bound in record
      { stop = s.stop; config = showing so.shown s.config; steps = s.steps })
  same bound =
      from_here bound
      ∙ ap (λ (s : Segmented Config End). record
      { stop = s.stop; config = showing so.shown s.config; steps = s.steps })
      (sym (bare_is bound))

  -- with a last segment of some bound, behind the steps that were done
  module _ (bound : ℕ) (stands : Stands now (segment_of script now bound) count new)
      (t : Traced Config End)
      (is : t ≡ behind done (traced bound (segment go bound 0 here)))
      (some : 1 ≤ done → 1 ≤ count) where
    stop_is : (segment_of script now bound).stop ≡ t.stop
    stop_is =
        sym (ap (λ (t : Traced Config End). t.stop) is
        ∙ ap (λ (s : Segmented Config End). s.stop) (same bound))

    left_by : 1 ≤ count → IsLeft t.stop new.machine.mode
    left_by h =
        let P : Stop End → Type 0 = λ s. IsLeft s new.machine.mode in
        subst P stop_is (stands.mode h)

    stands_behind : StandsBehind old t (done + count) new
    stands_behind = record {
      file = stands.file ∙ so.file;
      state =
          stands.state
          ∙ sym (ap (λ (t : Traced Config End). t.config.state) is
          ∙ ap (λ (s : Segmented Config End). s.config.state) (same bound));
      position =
          stands.position
          ∙ sym (ap (λ (t : Traced Config End). t.config.position) is
          ∙ ap (λ (s : Segmented Config End). s.config.position) (same bound));
      steps =
          ap (λ n. done + n) stands.steps
          ∙ sym (ap (λ (t : Traced Config End). t.steps) is
          ∙ ap (λ (s : Segmented Config End). done + s.steps) (same bound));
      still = λ none. stands.still (omega (arith, none)) ∙ so.still (omega (arith, none));
      mode = λ h. left_by (some_last done count some h);
    }

  -- ---- the whole trace

  abbrev IsLast : Type 0
  IsLast = joined go steps (replicate left steps) here ≡ traced steps (segment go steps 0 here)

  whole : Stands now (segment_of script now steps) count new → IsLast
      → StandsBehind old (trace_on script old steps sleeps) (done + count) new
  whole stands last =
      stands_behind steps stands (trace_on script old steps sleeps)
      (whole_behind go so.slept left sleeps steps (begun old.state) so.slept_is
      ∙ so.leads steps (replicate left steps) ∙ ap (behind done) last)
      (λ h. subst (λ n. 1 ≤ n) (sym stands.steps)
      (some_steps (move now.machine.amx script) steps
      (placed now.machine.state now.position []) (so.some h)))

  -- ---- by the end

  module _ (taken after : Option (List ℕ)) where
    leaves : (given : SessionEnd) → (given ≢ session.SinkFault → IsLast)
        → Sessions (segment_of script now) taken after steps now count given new
        → Leaves script old steps sleeps (done + count) given new
    leaves (session.Done value) last it = whole it.stands (last (λ e. absurd (cc e)))
    leaves (session.Exit value tag) last it = whole it.stands (last (λ e. absurd (cc e)))
    leaves (session.Error code) last it = whole it.stands (last (λ e. absurd (cc e)))
    leaves (session.Asleep value tag) last it = whole it.stands (last (λ e. absurd (cc e)))
    leaves session.Steps last it = whole it.stands (last (λ e. absurd (cc e)))
    leaves session.SinkFault last it =
        let one = it.cut.last in
        record {
          slept = so.slept;
          within = omega (arith, so.slept_is);
          last = count;
          some = omega (arith, one);
          below = it.within;
          stands =
              stands_behind count it.stands (cut_trace script old steps so.slept count)
              (so.leads count []) (λ h. omega (arith, one));
        }

    -- behind the last sleep
    pub leaves_last : left ≡ 0 → (given : SessionEnd)
        → Sessions (segment_of script now) taken after steps now count given new
        → Leaves script old steps sleeps (done + count) given new
    leaves_last none given it =
        leaves given (λ whole. ap (λ n. joined go steps (replicate n steps) here) none) it

    -- before it
    pub leaves_early : (given last : SessionEnd) → unless_asleep given ≡ Some last
        → Sessions (segment_of script now) taken after steps now count given new
        → Leaves script old steps sleeps (done + count) last new
    leaves_early given last is it =
        let P : SessionEnd → Type 0 = λ e. Leaves script old steps sleeps (done + count) e new in
        subst P (same_end given last is)
        (leaves given (λ unbroken. joined_ends go steps here (replicate left steps)
        (λ e. not_asleep (segment_of script now steps).stop given
        (stops_as (segment_of script now) taken after steps now count given new it)
        (λ none. absurd (cc (is, none))) unbroken
        (sym (ap (λ (s : Segmented Config End). s.stop) (same steps)) ∙ e))) it)

-- by another number of steps of the last segment
pub leaves_as : {a b : ℕ} (script : Script) (m : Machine) (steps sleeps done : ℕ)
    (given : SessionEnd) (new : Place) → a ≡ b → Leaves script m steps sleeps (done + a) given new
    → Leaves script m steps sleeps (done + b) given new
leaves_as script m steps sleeps done given new e it =
    let P : ℕ → Type 0 = λ n. Leaves script m steps sleeps (done + n) given new in
    subst P e it
