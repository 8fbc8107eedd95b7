-- A start, and the trace from there.
use Rattle.std.proofs.Common.{◌≡◌, ◌≢◌, ◌∙◌, ℕ, ℤ, pos, List, [], Bool, Option, None, Some, Ok, Err}
use Rattle.std.proofs.Common.{option_and_then, refl, sym, ap, subst}
use Rattle.pawn_outside.specs.Held.{Held}
use Rattle.pawn_outside.specs.Said.{Said}
use Rattle.host_script.specs.declared.event.End.{End}
use Rattle.host_script.specs.declared.event.End.TheVariants as end
use Rattle.host_script.specs.Text.{end_text}
use Rattle.amx_ops.specs.State.{State}
use Rattle.amx_ops.specs.Moves.{Config, move}
use Rattle.amx_ops.specs.Runs.{Segmented, Traced, segment, traced}
use Rattle.amx_ops.specs.Trace.{start_at, loaded, begun, trace_by}
use Rattle.amx_machine.specs.Machine.{Machine}
use Rattle.amx_machine.specs.Starts.{StartsSo, address_by, started, error_of}
use Rattle.amx_machine.specs.declared.start.StartFault.{StartFault}
use Rattle.amx_machine.specs.declared.start.StartFault.TheVariants as fault
use Rattle.command_parts.specs.declared.status.Status.{Status}
use Rattle.command_parts.specs.declared.status.Status.TheVariants as status
use Rattle.command_parts.specs.declared.program.Program.{Program}
use Rattle.host_script.specs.Ranges.{IsScript}
use Rattle.host_run.specs.Segments.{segment_of}
use Rattle.host_run.specs.Session.{told}
use Rattle.host_run.specs.declared.end.SessionEnd.{SessionEnd}
use Rattle.commands.specs.declared.ready_segment.ReadySegment.{ReadySegment}
use Rattle.command_parts.specs.declared.command.RunWords.{RunWords}
use Rattle.host_run.specs.Entry.{IsEntryOf}
use Rattle.commands.specs.Counted.{IsErrorTold, RunsTrace}
use Rattle.commands.specs.Finishes.{Finishes}
use Rattle.commands.specs.Played.{TellsTrace}
use Rattle.commands.specs.Prepared.{CanRun, IsPrepared}
use Rattle.commands.specs.ReadySegment.{IsReadySegment}
use Rattle.commands.specs.Runs.{RunsEntry, program_trace}
use Rattle.commands.specs.Used.{with_used}
use Rattle.command_parts.specs.Told.{Writes}
use Rattle.commands.proofs.CountedLaws.{error_runs}
use Rattle.commands.proofs.EntryLaws.{started_is}
use Rattle.commands.proofs.SegmentFinishLaws.{ended_awake, ends}
use Rattle.commands.proofs.SegmentReadyLaws.{is_ready}

module _ (m : Machine) (number : ℤ) (address : ℤ)
    (at : address_by m.amx number ≡ Some address) where
  at_address : started m number [] ≡ start_at m.amx address [] m.state
  at_address = ap (option_and_then (λ a. start_at m.amx a [] m.state)) at

  pub starts_there : (T : Type 0) (t : T) (new : Machine) → StartsSo m number [] (Ok t) new
      → start_at m.amx address [] m.state ≡ Some new.state
  starts_there T t new it = sym at_address ∙ it.0

  -- an entry that is there finds no room
  pub no_room : (T : Type 0) (f : StartFault) (new : Machine)
      → StartsSo {T = T} m number [] (Err f) new
      → (start_at m.amx address [] m.state ≡ None) × (error_of f ≡ pos 3)
  no_room T fault.Index new it = absurd (cc (at, it.0))
  no_room T fault.Stack new it = (sym at_address ∙ it.1, refl)

module _ {S : Type 0} (writes : Writes S) (held : Option Held) (image : List ℕ) (program : Program)
    (address : ℤ) (count : Bool) (bound : ℕ) (old new : S) where
  abbrev idle : State
  idle = loaded program.file program.file.room

  abbrev traced_by : Option State → Traced Config End
  traced_by o = trace_by program.file program.script idle o bound []

  abbrev IsFinish : Option Held → Traced Config End → Status → Type 0
  IsFinish after t answer =
      Finishes (with_used count t.steps writes.says) writes held after image program.digest t.stop
      t.config old new answer

  -- it ends in error 3, where nothing was shown
  pub ends_at_once : (answer : Status) → start_at program.file address [] idle ≡ None
      → TellsTrace (traced_by None) (with_used count 0 writes.says) old new answer
      → IsFinish held (program_trace program address bound) answer
  ends_at_once answer e tells =
      let other : answer ≢ status.Asleep = λ f. ended_awake tells.told (sym tells.is ∙ f) in
      subst (λ o. IsFinish held (traced_by o) answer) (sym e)
      (ends (with_used count 0 writes.says) writes held held image program.digest (traced_by None)
      answer tells other refl)

  -- or as its segment does
  abbrev made : State → Segmented Config End
  made s = segment (move program.file program.script) bound 0 (begun s)

  pub ends_so : (after : Option Held) (answer : Status) (s : State)
      → start_at program.file address [] idle ≡ Some s
      → IsFinish after (traced bound (made s)) answer
      → IsFinish after (program_trace program address bound) answer
  ends_so after answer s e it = subst (λ o. IsFinish after (traced_by o) answer) (sym e) it

-- ---- a machine of a program

module _ (program : Program) (ready : ReadySegment) (name : List ℕ) (number : ℤ)
    (prepared : IsPrepared program ready)
    (there : IsEntryOf program.file name (Some number)) where
  at_there : address_by ready.machine.amx number ≡ Some there.0
  at_there = ap (λ (m : Machine). address_by m.amx number) prepared.machine ∙ there.2

  idle_there : (o : Option State) → start_at ready.machine.amx there.0 [] ready.machine.state ≡ o
      → start_at program.file there.0 [] (loaded program.file program.file.room) ≡ o
  idle_there o e =
      sym (ap (λ (m : Machine). start_at m.amx there.0 [] m.state) prepared.machine) ∙ e

  module _ (m : Machine) (begins : StartsSo {T = Unit {0}} ready.machine number [] (Ok tt) m) where
    from_there : start_at ready.machine.amx there.0 [] ready.machine.state ≡ Some m.state
    from_there = starts_there ready.machine number there.0 at_there (Unit {0}) tt m begins

    pub ready_at : CanRun program.file → IsScript program.script
        → IsReadySegment (record ready { machine = m })
    ready_at can script =
        let state =
        started_is program.file (loaded program.file program.file.room) m.state there.0
        can.runnable can.first (idle_there (Some m.state) from_there) number there.2 in
        is_ready program ready prepared can script m begins.1 begins.2 there.0 from_there state

    -- its segment is the program's
    pub segment_is : (bound : ℕ) → segment_of program.script
        (record { machine = m; position = ready.at }) bound
        ≡ segment (move program.file program.script) bound 0 (begun m.state)
    segment_is bound =
        let file : m.amx ≡ program.file =
        begins.1 ∙ ap (λ (it : Machine). it.amx) prepared.machine in
        let from : ℕ → Config = λ p. record { state = m.state; position = p; events = [] } in
        ap (λ amx. segment (move amx program.script) bound 0 (from ready.at)) file
        ∙ ap (λ p. segment (move program.file program.script) bound 0 (from p)) prepared.position_is

    pub start_is : start_at program.file there.0 [] (loaded program.file program.file.room)
        ≡ Some m.state
    start_is = idle_there (Some m.state) from_there

pub ready_there : (program : Program) (ready : ReadySegment) (name : List ℕ) (number : ℤ)
    → IsPrepared program ready → CanRun program.file
    → IsScript program.script → IsEntryOf program.file name (Some number) → (m : Machine)
    → StartsSo {T = Unit {0}} ready.machine number [] (Ok tt) m
    → IsReadySegment (record ready { machine = m })
ready_there program ready name number prepared can script there m begins =
    ready_at program ready name number prepared there m begins can script

pub finishes_there : {S : Type 0} (writes : Writes S) (program : Program) (ready : ReadySegment)
    (words : RunWords) (number : ℤ)
    (can : CanRun program.file) (prepared : IsPrepared program ready)
    (there : IsEntryOf program.file words.entry (Some number)) (m : Machine)
    → StartsSo {T = Unit {0}} ready.machine number [] (Ok tt) m → (image : List ℕ)
    → image ≡ words.image → (held after : Option Held) (old new : S) (answer : Status)
    →
    (let made = segment_of program.script (record { machine = m; position = ready.at })
    words.steps in
    Finishes (with_used words.count made.steps writes.says) writes held after image program.digest
    made.stop made.config old new answer)
    → RunsEntry writes program words held after old new answer
finishes_there writes program ready words number can prepared there m begins image named held after
    old new answer it =
    let P : Segmented Config End → Type 0 =
    λ made. Finishes (with_used words.count made.steps writes.says) writes held after words.image
    program.digest made.stop made.config old new answer in
    let Q : List ℕ → Type 0 = λ i.
    (let made = segment_of program.script (record { machine = m; position = ready.at })
    words.steps in
    Finishes (with_used words.count made.steps writes.says) writes held after i program.digest
    made.stop made.config old new answer) in
    let same =
    segment_is program ready words.entry number prepared there m begins words.steps in
    record {
      runnable = can.runnable;
      address = there.0;
      entry = there.1;
      served = prepared.served;
      finishes =
          ends_so writes held words.image program there.0 words.count words.steps old new after
          answer m.state
          (start_is program ready words.entry number prepared there m begins)
          (subst P same (subst Q named it));
    }

-- without room it is error 3
module _ (program : Program) (ready : ReadySegment) (words : RunWords) (number : ℤ)
    (can : CanRun program.file) (prepared : IsPrepared program ready)
    (there : IsEntryOf program.file words.entry (Some number)) (f : StartFault) (m : Machine)
    (failed : StartsSo {T = Unit {0}} ready.machine number [] (Err f) m) where
  abbrev none : Traced Config End
  none =
      trace_by program.file program.script (loaded program.file program.file.room) None words.steps
      []

  fails : (start_at ready.machine.amx there.0 [] ready.machine.state ≡ None)
      × (error_of f ≡ pos 3)
  fails =
      no_room ready.machine number there.0
      (at_there program ready words.entry number prepared there) (Unit {0}) f m failed

  pub runs_nowhere : {S : Type 0} {taken : S → Option (List ℕ)} {faults : S → ℕ}
      {has_room : S → ℕ → Type 0} {out last : S} (code : ℤ) (given : SessionEnd)
      → code ≡ error_of f → IsErrorTold code given
      → Said taken faults has_room out last (end_text (end.Error code)) (told given)
      → RunsTrace (Said taken faults has_room) none out last 0 given
  runs_nowhere code given e is said =
      error_runs program.file program.script (loaded program.file program.file.room) words.steps []
      given code (e ∙ fails.1) is said

  pub finishes_at_once : {S : Type 0} (writes : Writes S) (held : Option Held) (old new : S)
      (answer : Status) → TellsTrace none (with_used words.count 0 writes.says) old new answer
      → RunsEntry writes program words held held old new answer
  finishes_at_once writes held old new answer tells = record {
    runnable = can.runnable;
    address = there.0;
    entry = there.1;
    served = prepared.served;
    finishes =
        ends_at_once writes held words.image program there.0 words.count words.steps old new
        answer (idle_there program ready words.entry number prepared there None fails.0) tells;
  }
