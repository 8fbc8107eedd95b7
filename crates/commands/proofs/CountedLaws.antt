-- A run, and its text with what stands behind it.
use Rattle.std.proofs.Common.{◌≡◌, ◌≢◌, ◌∙◌, ◌++◌, ℕ, ℤ, pos, negsuc, List, [], Option, None, Some}
use Rattle.std.proofs.Common.{Ok, Err, codes, replicate, refl, sym, ap, subst, append-nil}
use Rattle.std.proofs.Common.{append_assoc}
use Rattle.pawn_outside.specs.Said.{Said}
use Rattle.pawn_outside.proofs.SaidLaws.{said_as, said_cut, said_then}
use Rattle.host_script.specs.declared.script.Script.{Script}
use Rattle.host_script.specs.declared.event.End.{End}
use Rattle.host_script.specs.declared.event.End.TheVariants as end
use Rattle.host_script.specs.Text.{end_text}
use Rattle.amx_ops.specs.declared.amx.Amx.{Amx}
use Rattle.amx_ops.specs.Moves.{Config}
use Rattle.amx_ops.specs.Runs.{Segmented, Traced, Stop, Steps, Asleep, Over_by, traced}
use Rattle.amx_ops.specs.State.{State}
use Rattle.amx_ops.specs.Trace.{Main, address_of, loaded, trace_by}
use Rattle.amx_machine.specs.Machine.{Machine, first}
use Rattle.amx_machine.specs.Starts.{StartsSo, error_of, started}
use Rattle.amx_machine.specs.declared.start.StartFault.{StartFault}
use Rattle.host_run.specs.Leaves.{Leaves}
use Rattle.host_run.specs.Segments.{Place, lines_of, text_of}
use Rattle.host_run.specs.Segments as host
use Rattle.host_run.specs.Session.{Sessions, told}
use Rattle.host_run.specs.Stands.{Stands}
use Rattle.host_run.specs.Trace.{StopsAs, told_text, trace_on}
use Rattle.host_run.specs.declared.end.SessionEnd.{SessionEnd}
use Rattle.host_run.specs.declared.end.SessionEnd.TheVariants as session
use Rattle.command_parts.specs.declared.status.Status.{Status}
use Rattle.command_parts.specs.declared.status.Status.TheVariants as status
use Rattle.command_parts.specs.Told.{Told, status_told}
use Rattle.commands.specs.Counted.{HasCount, IsErrorTold, RunsTrace, before}
use Rattle.commands.specs.Counted.{rest_of, status_by}
use Rattle.commands.specs.Finishes.{status_of_stop, stop_line}
use Rattle.commands.specs.Played.{TellsTrace, trace_of}
use Rattle.commands.proofs.PlayLaws.{fails, goes_on, no_room}

-- ---- what a session leaves out of the text

left_by : (s : Stop End) (e : SessionEnd) → StopsAs s e → e ≢ session.SinkFault
    → host.stop_text s ++ rest_of e ≡ stop_line s
left_by s (session.Done value) is h = rw is (append-nil (end_text (end.Done value)))
left_by s (session.Exit value tag) is h = rw is (append-nil (end_text (end.Exit value tag)))
left_by s (session.Error code) is h = rw is (append-nil (end_text (end.Error code)))
left_by s (session.Asleep value tag) is h = rw is refl
left_by s session.Steps is h = rw is refl
left_by s session.SinkFault is h = absurd (h refl)

-- whatever a trace stopped by
left_out : (s : Stop End) → (more : List ℕ) × (host.stop_text s ++ more ≡ stop_line s)
left_out Steps = (codes "steps\n", refl)
left_out Asleep = ([], refl)
left_out (Over_by e) = ([], append-nil (end_text e))

regrouped : (lines a b c : List ℕ) → (lines ++ a) ++ (b ++ c) ≡ (lines ++ (a ++ b)) ++ c
regrouped lines a b c = simp append_assoc

status_is : (s : Stop End) (e : SessionEnd) (given : Status) → StopsAs s e
    → Some given ≡ status_by e → given ≡ status_of_stop s
status_is s (session.Done value) given is e = rw is (cc e)
status_is s (session.Exit value tag) given is e = rw is (cc e)
status_is s (session.Error code) given is e = rw is (cc e)
status_is s (session.Asleep value tag) given is e = rw is (cc e)
status_is s session.Steps given is e = rw is (cc e)
status_is s session.SinkFault given is e = absurd (cc e)

no_cut : (e : SessionEnd) (given : Status) → Some given ≡ status_by e → e ≢ session.SinkFault
no_cut e given is f = absurd (cc (is, ap status_by f))

count_is : (e : SessionEnd) (steps count : ℕ) → e ≢ session.SinkFault → HasCount steps count e
    → count ≡ steps
count_is (session.Done value) steps count h is = is
count_is (session.Exit value tag) steps count h is = is
count_is (session.Error code) steps count h is = is
count_is (session.Asleep value tag) steps count h is = is
count_is session.Steps steps count h is = is
count_is session.SinkFault steps count h is = absurd (h refl)

told_whole : (e : SessionEnd) → e ≢ session.SinkFault → told e ≡ Ok tt
told_whole (session.Done value) h = refl
told_whole (session.Exit value tag) h = refl
told_whole (session.Error code) h = refl
told_whole (session.Asleep value tag) h = refl
told_whole session.Steps h = refl
told_whole session.SinkFault h = absurd (h refl)

-- ---- its text with what stands behind it

module _ {S : Type 0} {taken : S → Option (List ℕ)} {faults : S → ℕ} {has_room : S → ℕ → Type 0}
    (t : Traced Config End) (begun out : S) (back : ℕ → List ℕ) (steps : ℕ) (e : SessionEnd)
    (runs : RunsTrace (Said taken faults has_room) t begun out steps e) where
  -- all was told, and the rest of it behind
  pub counted : (new : S) (given : Status) (line : Told) (answer : Status)
      → Some given ≡ status_by e
      → Said taken faults has_room out new (rest_of e ++ back steps) line
      → answer ≡ status_told given line
      → TellsTrace t (before (back t.steps) (Said taken faults has_room)) begun new answer
  counted new given line answer is written same =
      let whole = no_cut e given is in
      let lines = lines_of t.config.events in
      let text =
      regrouped lines (host.stop_text t.stop) (rest_of e) (back steps)
      ∙ ap (λ l. (lines ++ l) ++ back steps) (left_by t.stop e runs.stop whole)
      ∙ ap (λ n. (lines ++ stop_line t.stop) ++ back n)
      (count_is e t.steps steps whole runs.steps) in
      let P : Told → Type 0 =
      λ r. Said taken faults has_room begun out (told_text t) r in
      record {
        told = line;
        written =
            said_as text (said_then (subst P (told_whole e whole) runs.written) written);
        is = same ∙ ap (λ s. status_told s line) (status_is t.stop e given runs.stop is);
      }

  -- the sink failed
  pub cut_counted : None ≡ status_by e
      → TellsTrace t (before (back t.steps) (Said taken faults has_room)) begun out
      status.SinkFault
  cut_counted is = by e is runs where
    by : (e : SessionEnd) → None ≡ status_by e
        → RunsTrace (Said taken faults has_room) t begun out steps e
        → TellsTrace t (before (back t.steps) (Said taken faults has_room)) begun out
        status.SinkFault
    by (session.Done value) is it = absurd (cc is)
    by (session.Exit value tag) is it = absurd (cc is)
    by (session.Error code) is it = absurd (cc is)
    by (session.Asleep value tag) is it = absurd (cc is)
    by session.Steps is it = absurd (cc is)
    by session.SinkFault is it =
        let lines = lines_of t.config.events in
        let more = left_out t.stop in
        let text =
        regrouped lines (host.stop_text t.stop) more.0 (back t.steps)
        ∙ ap (λ l. (lines ++ l) ++ back t.steps) more.1 in
        record {
          told = Err (record {});
          written =
              said_as text (said_cut (more.0 ++ back t.steps) (Err (record {})) refl it.written);
          is = refl;
        }

-- the status of a run is never that of the files
pub by_no_fault : (e : SessionEnd) (given : Status) → Some given ≡ status_by e
    → given ≢ status.FileFault
by_no_fault (session.Done value) given is = λ f. absurd (cc (is, f))
by_no_fault (session.Exit value tag) given is = λ f. absurd (cc (is, f))
by_no_fault (session.Error code) given is = λ f. absurd (cc (is, f))
by_no_fault (session.Asleep value tag) given is = λ f. absurd (cc (is, f))
by_no_fault session.Steps given is = λ f. absurd (cc (is, f))
by_no_fault session.SinkFault given is = absurd (cc is)

pub by_no_sink : (e : SessionEnd) (given : Status) → Some given ≡ status_by e
    → e ≢ session.SinkFault
by_no_sink e given is = no_cut e given is

-- ---- a session is a run

stops_as : (segments : ℕ → Segmented Config End) (taken after : Option (List ℕ)) (bound : ℕ)
    (old : Place) (count : ℕ) (given : SessionEnd) (new : Place)
    → Sessions segments taken after bound old count given new
    → StopsAs (segments bound).stop given
stops_as segments taken after bound old count (session.Done value) new it = it.answer
stops_as segments taken after bound old count (session.Exit value tag) new it = it.answer
stops_as segments taken after bound old count (session.Error code) new it = it.answer
stops_as segments taken after bound old count (session.Asleep value tag) new it = it.answer.0
stops_as segments taken after bound old count session.Steps new it = it.answer
stops_as segments taken after bound old count session.SinkFault new it = tt

counts_as : (segments : ℕ → Segmented Config End) (taken after : Option (List ℕ)) (bound : ℕ)
    (old : Place) (count : ℕ) (given : SessionEnd) (new : Place)
    → Sessions segments taken after bound old count given new
    → HasCount (segments bound).steps count given
counts_as segments taken after bound old count (session.Done value) new it = it.stands.steps
counts_as segments taken after bound old count (session.Exit value tag) new it = it.stands.steps
counts_as segments taken after bound old count (session.Error code) new it = it.stands.steps
counts_as segments taken after bound old count (session.Asleep value tag) new it = it.stands.steps
counts_as segments taken after bound old count session.Steps new it = it.stands.steps
counts_as segments taken after bound old count session.SinkFault new it = tt

-- where it stands unless the sink failed
pub stands : (segments : ℕ → Segmented Config End) (taken after : Option (List ℕ)) (bound : ℕ)
    (old : Place) (count : ℕ) (given : SessionEnd) (new : Place) → given ≢ session.SinkFault
    → Sessions segments taken after bound old count given new
    → Stands old (segments bound) count new
stands segments taken after bound old count (session.Done value) new whole it = it.stands
stands segments taken after bound old count (session.Exit value tag) new whole it = it.stands
stands segments taken after bound old count (session.Error code) new whole it = it.stands
stands segments taken after bound old count (session.Asleep value tag) new whole it = it.stands
stands segments taken after bound old count session.Steps new whole it = it.stands
stands segments taken after bound old count session.SinkFault new whole it = absurd (whole refl)

pub session_runs : {S : Type 0} {taken : S → Option (List ℕ)} {faults : S → ℕ}
    {has_room : S → ℕ → Type 0} {out last : S} (segments : ℕ → Segmented Config End) (bound : ℕ)
    (old : Place) (count : ℕ) (given : SessionEnd) (new : Place)
    → Sessions segments (taken out) (taken last) bound old count given new
    → Said taken faults has_room out last (text_of (segments bound)) (told given)
    → RunsTrace (Said taken faults has_room) (traced bound (segments bound)) out last count given
session_runs {taken = taken} {out = out} {last = last} segments bound old count given new it said =
    record {
      written = said;
      stop = stops_as segments (taken out) (taken last) bound old count given new it;
      steps = counts_as segments (taken out) (taken last) bound old count given new it;
    }

-- ---- a run over sleeps

counts_leaving : (script : Script) (m : Machine) (steps sleeps count : ℕ) (given : SessionEnd)
    (new : Place) → Leaves script m steps sleeps count given new
    → HasCount (trace_on script m steps sleeps).steps count given
counts_leaving script m steps sleeps count (session.Done value) new it = it.steps
counts_leaving script m steps sleeps count (session.Exit value tag) new it = it.steps
counts_leaving script m steps sleeps count (session.Error code) new it = it.steps
counts_leaving script m steps sleeps count (session.Asleep value tag) new it = it.steps
counts_leaving script m steps sleeps count session.Steps new it = it.steps
counts_leaving script m steps sleeps count session.SinkFault new it = tt

-- without a start it is error 3
module _ {S : Type 0} {taken : S → Option (List ℕ)} {faults : S → ℕ} {has_room : S → ℕ → Type 0}
    {out last : S} (amx : Amx) (script : Script) (idle : State) (bound : ℕ) (bounds : List ℕ)
  where
    pub error_runs : (given : SessionEnd) (code : ℤ) → code ≡ pos 3 → IsErrorTold code given
        → Said taken faults has_room out last (end_text (end.Error code)) (told given)
        → RunsTrace (Said taken faults has_room) (trace_by amx script idle None bound bounds) out
        last 0 given
    error_runs (session.Done value) code e h said = absurd h
    error_runs (session.Exit value tag) code e h said = absurd h
    error_runs (session.Error other) code e h said = record {
      written = said_as (ap (λ z. end_text (end.Error z)) e) said;
      stop = ap (λ z. Over_by (end.Error z)) (sym (h ∙ e));
      steps = refl;
    }
    error_runs (session.Asleep value tag) code e h said = absurd h
    error_runs session.Steps code e h said = absurd h
    error_runs session.SinkFault code e h said = record {
      written = said_as (ap (λ z. end_text (end.Error z)) e) said;
      stop = tt;
      steps = tt;
    }

-- the trace of a machine that was started is the file's
module _ (old : Machine) (is_first : old ≡ first old.amx)
    (main : address_of old.amx Main ≡ Some old.amx.entry) (script : Script) (steps sleeps : ℕ)
  where
    pub runs_on : {S : Type 0} {taken : S → Option (List ℕ)} {faults : S → ℕ}
        {has_room : S → ℕ → Type 0} {out last : S} (new : Machine) (count : ℕ) (given : SessionEnd)
        (left : Place) → started old (negsuc 0) [] ≡ Some new.state → new.amx ≡ old.amx
        → Said taken faults has_room out last (told_text (trace_on script new steps sleeps))
        (told given)
        → StopsAs (trace_on script new steps sleeps).stop given
        → Leaves script new steps sleeps count given left
        → RunsTrace (Said taken faults has_room) (trace_of old.amx script steps sleeps) out last
        count given
    runs_on {taken = taken} {faults = faults} {has_room = has_room} {out = out} {last = last} new count given left e same said stop
        leaves =
        let P : Traced Config End → Type 0 =
        λ t. RunsTrace (Said taken faults has_room) t out last count given in
        subst P (sym (goes_on old is_first main script steps sleeps new e same)) (record {
          written = said;
          stop = stop;
          steps = counts_leaving script new steps sleeps count given left leaves;
        })

    pub fails_at_once : {S : Type 0} {taken : S → Option (List ℕ)} {faults : S → ℕ}
        {has_room : S → ℕ → Type 0} {out last : S} (fault : StartFault) (new : Machine) (code : ℤ)
        (given : SessionEnd) → StartsSo {T = Unit {0}} old (negsuc 0) [] (Err fault) new
        → code ≡ error_of fault → IsErrorTold code given
        → Said taken faults has_room out last (end_text (end.Error code)) (told given)
        → RunsTrace (Said taken faults has_room) (trace_of old.amx script steps sleeps) out last 0
        given
    fails_at_once {taken = taken} {faults = faults} {has_room = has_room} {out = out} {last = last} fault new code given failed is
        told_so said =
        let none = no_room old is_first main script steps sleeps fault new failed in
        let P : Traced Config End → Type 0 =
        λ t. RunsTrace (Said taken faults has_room) t out last 0 given in
        subst P (sym (fails old is_first main script steps sleeps none.0))
        (error_runs old.amx script (loaded old.amx old.amx.room) steps (replicate sleeps steps) given
        code (is ∙ none.1) told_so said)
