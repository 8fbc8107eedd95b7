-- One segment more: the trace ends with it, goes on behind its sleep, or the sink failed in it.
use Rattle.std.proofs.Common.{◌≡◌, ◌≢◌, ◌+◌, ◌≤◌, ◌∙◌, ◌++◌, ℕ, zero, suc, List, [], ◌∷◌, Option}
use Rattle.std.proofs.Common.{None, Some, Ok, Err, replicate, refl, sym, ap, ap₂, subst, append-nil}
use Rattle.std.proofs.Common.{append_assoc, arith}
use Rattle.std.proofs.lemmas.Grind.{flat_map-append}
use Rattle.pawn_outside.specs.Said.{Said}
use Rattle.pawn_outside.specs.declared.fault.SinkFault.{SinkFault}
use Rattle.pawn_outside.proofs.SaidLaws.{said_as, said_then, said_cut, said_nothing}
use Rattle.host_script.specs.declared.script.Script.{Script}
use Rattle.host_script.specs.declared.event.Event.{Event}
use Rattle.host_script.specs.declared.event.End.{End}
use Rattle.host_script.specs.Text.{event_text}
use Rattle.amx_ops.specs.declared.amx.Amx.{Amx}
use Rattle.amx_ops.specs.Cuts.{showing}
use Rattle.amx_ops.specs.Moves.{Config, move}
use Rattle.amx_ops.specs.Runs.{Moved, Segmented, Traced, Stop, Steps, Asleep, Over_by, segment}
use Rattle.amx_ops.specs.Runs.{traced, behind, joined}
use Rattle.amx_ops.specs.State.{State}
use Rattle.amx_ops.specs.Trace.{begun as begun_at}
use Rattle.amx_ops.proofs.ShownLaws.{trace_is_one_iteration_lem}
use Rattle.amx_machine.specs.Machine.{Machine}
use Rattle.amx_machine.specs.declared.mode.Mode.{Mode}
use Rattle.host_run.specs.Reached.{placed}
use Rattle.host_run.specs.Segments.{Place, segment_of, lines_of, stop_text, text_of}
use Rattle.host_run.specs.Session.{Sessions, told}
use Rattle.host_run.specs.Stands.{IsAwake, IsLeft, Stands}
use Rattle.host_run.specs.declared.end.SessionEnd.{SessionEnd}
use Rattle.host_run.specs.declared.end.SessionEnd.TheVariants as session
use Rattle.host_run.specs.Going.{Going, rest_of, joined_behind}
use Rattle.host_run.specs.Last.{unless_asleep}
use Rattle.host_run.specs.Trace.{trace_on, told_text, StopsAs}
use Rattle.host_run.proofs.BehindLaws.{behind_more, behind_none, replicate_more, some_bound}
use Rattle.host_run.proofs.BehindLaws.{some_within}
use Rattle.host_run.proofs.JoinedLaws.{joined_asleep, joined_ends, joined_grows}

-- ---- at first

pub at_first : {S : Type 0} (taken : S → Option (List ℕ)) (faults : S → ℕ)
    (has_room : S → ℕ → Type 0) (out : S) (script : Script) (old : Machine)
    (steps sleeps : ℕ) → IsAwake old.mode
    → Going script old steps sleeps sleeps 0 (record { machine = old; position = 0 })
    (λ text. Said taken faults has_room out out text (Ok tt))
at_first taken faults has_room out script old steps sleeps awake =
    record {
      file = refl;
      awake = awake;
      shown = [];
      said = said_nothing out;
      stop = refl;
      config = refl;
      still = λ e. refl;
      some = λ h. absurd (omega (arith, h));
      slept = 0;
      slept_is = omega arith;
      leads = λ bound bounds. behind_none (joined (move old.amx script) bound bounds _);
    }

-- the same by another number of sleeps that are left
pub left_as : {script : Script} {old : Machine} {steps sleeps a b done : ℕ} {now : Place}
    {say : List ℕ → Type 0} → a ≡ b
    → Going script old steps sleeps a done now say → Going script old steps sleeps b done now say
left_as {script} {old} {steps} {sleeps} {done = done} {now = now} {say = say} e it =
    let P : ℕ → Type 0 = λ n. Going script old steps sleeps n done now say in
    subst P e it

-- and by another number of steps that were done
pub done_as : {script : Script} {old : Machine} {steps sleeps left a b : ℕ} {now : Place}
    {say : List ℕ → Type 0} (done : ℕ) → a ≡ b
    → Going script old steps sleeps left (done + a) now say
    → Going script old steps sleeps left (done + b) now say
done_as {script} {old} {steps} {sleeps} {left} {now = now} {say = say} done e it =
    let P : ℕ → Type 0 = λ n. Going script old steps sleeps left (done + n) now say in
    subst P e it

-- ---- what a session answers

-- the stop of its segment
pub stops_as : (segments : ℕ → Segmented Config End) (taken after : Option (List ℕ)) (bound : ℕ)
    (old : Place) (count : ℕ) (given : SessionEnd)
    (new : Place) → Sessions segments taken after bound old count given new
    → StopsAs (segments bound).stop given
stops_as segments taken after bound old count (session.Done value) new it = it.answer
stops_as segments taken after bound old count (session.Exit value tag) new it = it.answer
stops_as segments taken after bound old count (session.Error code) new it = it.answer
stops_as segments taken after bound old count (session.Asleep value tag) new it = it.answer.0
stops_as segments taken after bound old count session.Steps new it = it.answer
stops_as segments taken after bound old count session.SinkFault new it = tt

-- an end that isn't a sleep, nor the sink's
pub not_asleep : (stop : Stop End) (given : SessionEnd) → StopsAs stop given
    → (unless_asleep given ≡ None → ⊥) → given ≢ session.SinkFault → stop ≢ Asleep
not_asleep stop (session.Done value) is last whole = λ e. absurd (cc (is, e))
not_asleep stop (session.Exit value tag) is last whole = λ e. absurd (cc (is, e))
not_asleep stop (session.Error code) is last whole = λ e. absurd (cc (is, e))
not_asleep stop (session.Asleep value tag) is last whole = λ e. last refl
not_asleep stop session.Steps is last whole = λ e. absurd (cc (is, e))
not_asleep stop session.SinkFault is last whole = λ e. whole refl

pub same_end : (given last : SessionEnd) → unless_asleep given ≡ Some last → given ≡ last
same_end (session.Done value) last e = cc e
same_end (session.Exit value tag) last e = cc e
same_end (session.Error code) last e = cc e
same_end (session.Asleep value tag) last e = absurd (cc e)
same_end session.Steps last e = cc e
same_end session.SinkFault last e = cc e

awake_by : (stop : Stop End) (count : ℕ) (old new : Mode) → stop ≡ Asleep → (count ≡ 0 → new ≡ old)
    → (1 ≤ count → IsLeft stop new) → IsAwake old → IsAwake new
awake_by stop zero old new is still left awake = subst IsAwake (sym (still refl)) awake
awake_by stop (suc n) old new is still left awake =
    let P : Stop End → Type 0 = λ s. IsLeft s new in
    subst IsAwake (sym (subst P is (left (omega arith)))) tt

-- ---- one segment more

module _ {S : Type 0} (taken : S → Option (List ℕ)) (faults : S → ℕ) (has_room : S → ℕ → Type 0)
    (begun mid out : S) (script : Script) (old : Machine)
    (steps sleeps left done : ℕ) (now new : Place) (count : ℕ)
    (so : Going script old steps sleeps left done now
    (λ text. Said taken faults has_room begun mid text (Ok tt))) where
  abbrev go : Config → Moved Config End
  go = move old.amx script

  abbrev whole : Traced Config End
  whole = trace_on script old steps sleeps

  -- from there, with what was shown before and without it
  abbrev here : Config
  here = placed now.machine.state now.position so.shown

  abbrev bare : Segmented Config End
  bare = segment go steps 0 (placed now.machine.state now.position [])

  abbrev shown : List Event
  shown = so.shown ++ bare.config.events

  bare_is : segment_of script now steps ≡ bare
  bare_is =
      ap (λ (amx : Amx). segment (move amx script) steps 0
      (placed now.machine.state now.position [])) so.file

  from_here : segment go steps 0 here
      ≡ record { stop = bare.stop; config = showing so.shown bare.config; steps = bare.steps }
  from_here =
      ap (λ es. segment go steps 0 (placed now.machine.state now.position es))
      (sym (append-nil so.shown))
      ∙ trace_is_one_iteration_lem.resumed old.amx script steps so.shown
      (placed now.machine.state now.position [])

  stop_here : (segment go steps 0 here).stop ≡ bare.stop
  stop_here = ap (λ (s : Segmented Config End). s.stop) from_here

  config_here : (segment go steps 0 here).config ≡ showing so.shown bare.config
  config_here = ap (λ (s : Segmented Config End). s.config) from_here

  text_is : lines_of so.shown ++ text_of bare ≡ lines_of shown ++ stop_text bare.stop
  text_is =
      sym (append_assoc (lines_of so.shown) (lines_of bare.config.events) (stop_text bare.stop))
      ∙ ap (λ l. l ++ stop_text bare.stop)
      (sym (flat_map-append event_text so.shown bare.config.events))

  module _ (given : SessionEnd) (text : Said taken faults has_room mid out
      (text_of (segment_of script now steps)) (told given)) where
    said_so : Said taken faults has_room begun out (lines_of shown ++ stop_text bare.stop)
        (told given)
    said_so = said_as text_is (said_then so.said (said_as (ap text_of bare_is) text))

    -- the trace ends with it
    module _ (last : rest_of script old steps left now so.shown
        ≡ traced steps (segment go steps 0 here)) where
      stop_last : whole.stop ≡ bare.stop
      stop_last = so.stop ∙ ap (λ (t : Traced Config End). t.stop) last ∙ stop_here

      config_last : whole.config ≡ showing so.shown bare.config
      config_last = so.config ∙ ap (λ (t : Traced Config End). t.config) last ∙ config_here

      text_last : Said taken faults has_room begun out (told_text whole) (told given)
      text_last =
          let events : shown ≡ whole.config.events =
          sym (ap (λ (c : Config). c.events) config_last) in
          said_as (ap₂ (λ es stop. lines_of es ++ stop_text stop) events (sym stop_last)) said_so

      answer_last : Sessions (segment_of script now) (taken mid)
          (taken out) steps now count given new → StopsAs whole.stop given
      answer_last it =
          let P : Stop End → Type 0 = λ s. StopsAs s given in
          let same : (segment_of script now steps).stop ≡ whole.stop =
          ap (λ (s : Segmented Config End). s.stop) bare_is ∙ sym stop_last in
          subst P same (stops_as (segment_of script now) (taken mid)
          (taken out) steps now count given new it)

  -- ---- behind the last sleep

  module _ (none : left ≡ 0) where
    last_there : rest_of script old steps left now so.shown ≡ traced steps (segment go steps 0 here)
    last_there = ap (λ n. joined go steps (replicate n steps) here) none

    pub text_ends : (given : SessionEnd)
        → Said taken faults has_room mid out (text_of (segment_of script now steps)) (told given)
        → Said taken faults has_room begun out (told_text whole) (told given)
    text_ends given text = text_last given text last_there

    pub answer_ends : (given : SessionEnd)
        → Said taken faults has_room mid out (text_of (segment_of script now steps)) (told given)
        → Sessions (segment_of script now) (taken mid) (taken out) steps now count given new
        → StopsAs whole.stop given
    answer_ends given text it = answer_last given text last_there it

  -- ---- at a sleep

  module _ (fewer : ℕ) (more : left ≡ suc fewer) (is : bare.stop ≡ Asleep) where
    abbrev rest : Config → Traced Config End
    rest c = joined go steps (replicate fewer steps) c

    next_there : rest_of script old steps left now so.shown
        ≡ joined go steps (steps ∷ replicate fewer steps) here
    next_there = ap (λ n. joined go steps (replicate n steps) here) more

    goes_there : joined go steps (steps ∷ replicate fewer steps) here
        ≡ (let s = segment go steps 0 here in
        record {
          stop = (rest s.config).stop;
          config = (rest s.config).config;
          bound = (rest s.config).bound;
          steps = s.steps + (rest s.config).steps;
        })
    goes_there = joined_asleep go steps here steps (replicate fewer steps) (stop_here ∙ is)

    stop_then : whole.stop ≡ (rest (showing so.shown bare.config)).stop
    stop_then =
        so.stop ∙ ap (λ (t : Traced Config End). t.stop) (next_there ∙ goes_there)
        ∙ ap (λ c. (rest c).stop) config_here

    config_then : whole.config ≡ (rest (showing so.shown bare.config)).config
    config_then =
        so.config ∙ ap (λ (t : Traced Config End). t.config) (next_there ∙ goes_there)
        ∙ ap (λ c. (rest c).config) config_here

    -- it goes on
    going_on : (state : State) (position : ℕ) → state ≡ bare.config.state
        → position ≡ bare.config.position
        → showing so.shown bare.config ≡ placed state position shown
    going_on state position s p = ap₂ (λ s p. placed s p shown) (sym s) (sym p)

    -- over whatever bounds follow
    leads_on : (d : Config) (bound : ℕ) (bounds : List ℕ) → bare.steps ≡ count
        → showing so.shown bare.config ≡ d
        → joined_behind go (replicate (suc so.slept) steps) bound bounds (begun_at old.state)
        ≡ behind (done + count) (joined go bound bounds d)
    leads_on d bound bounds counted there =
        let at : Config = begun_at old.state in
        ap (λ front. joined_behind go front bound bounds at) (sym (replicate_more so.slept steps))
        ∙ behind_more go (replicate so.slept steps) steps bound bounds at here done so.leads
        (stop_here ∙ is)
        ∙ ap₂ (λ n c. behind (done + n) (joined go bound bounds c))
        (ap (λ (s : Segmented Config End). s.steps) from_here ∙ counted) (config_here ∙ there)

    -- steps were done only where there was a bound
    count_within : (n m : ℕ) → m ≡ (segment_of script now n).steps → 1 ≤ m → 1 ≤ n
    count_within n m e h =
        some_within (move now.machine.amx script) n (placed now.machine.state now.position [])
        (subst (λ k. 1 ≤ k) e h)

    goes_by : Stands now (segment_of script now steps) count new
        → Said taken faults has_room begun out (lines_of shown ++ stop_text bare.stop) (Ok tt)
        → Going script old steps sleeps fewer (done + count) new
        (λ text. Said taken faults has_room begun out text (Ok tt))
    goes_by stands said =
        let state : new.machine.state ≡ bare.config.state =
        stands.state ∙ ap (λ (s : Segmented Config End). s.config.state) bare_is in
        let position : new.position ≡ bare.config.position =
        stands.position ∙ ap (λ (s : Segmented Config End). s.config.position) bare_is in
        let there = going_on new.machine.state new.position state position in
        record {
          file = stands.file ∙ so.file;
          awake =
              awake_by (segment_of script now steps).stop count now.machine.mode new.machine.mode
              (ap (λ (s : Segmented Config End). s.stop) bare_is ∙ is) stands.still stands.mode
              so.awake;
          shown = shown;
          said =
              said_as (ap (λ s. lines_of shown ++ stop_text s) is ∙ append-nil (lines_of shown))
              said;
          stop = stop_then ∙ ap (λ c. (rest c).stop) there;
          config = config_then ∙ ap (λ c. (rest c).config) there;
          still = λ none. stands.still (omega (arith, none)) ∙ so.still (omega (arith, none));
          some = λ h. some_bound done count so.some (count_within steps count stands.steps) h;
          slept = suc so.slept;
          slept_is = omega (arith, so.slept_is, more);
          leads = λ bound bounds. leads_on (placed new.machine.state new.position shown) bound bounds
              (sym (stands.steps ∙ ap (λ (s : Segmented Config End). s.steps) bare_is)) there;
        }

    -- the sink failed
    cut_there : (fault : SinkFault)
        → Said taken faults has_room begun out (lines_of shown ++ stop_text bare.stop) (Err fault)
        → Said taken faults has_room begun out (told_text whole) (Err fault)
    cut_there fault said =
        let grown =
        joined_grows old.amx script steps (replicate fewer steps)
        (showing so.shown bare.config) in
        let lines : lines_of whole.config.events ≡ lines_of shown ++ lines_of grown.0 =
        ap lines_of (ap (λ (c : Config). c.events) config_then ∙ grown.1)
        ∙ flat_map-append event_text shown grown.0 in
        let none : lines_of shown ++ stop_text bare.stop ≡ lines_of shown =
        ap (λ s. lines_of shown ++ stop_text s) is ∙ append-nil (lines_of shown) in
        let all : lines_of shown ++ (lines_of grown.0 ++ stop_text whole.stop) ≡ told_text whole =
        sym (append_assoc (lines_of shown) (lines_of grown.0) (stop_text whole.stop))
        ∙ ap (λ l. l ++ stop_text whole.stop) (sym lines) in
        said_as all (said_cut (lines_of grown.0 ++ stop_text whole.stop) (Err fault) refl
        (said_as none said))

  -- ---- before the last sleep

  module _ (fewer : ℕ) (more : left ≡ suc fewer) where
    bare_stops : (given : SessionEnd)
        → Sessions (segment_of script now) (taken mid) (taken out) steps now count given new
        → StopsAs bare.stop given
    bare_stops given it =
        let P : Stop End → Type 0 = λ s. StopsAs s given in
        subst P (ap (λ (s : Segmented Config End). s.stop) bare_is)
        (stops_as (segment_of script now) (taken mid) (taken out) steps now count given new it)

    pub goes_on : (given : SessionEnd) → unless_asleep given ≡ None
        → Said taken faults has_room mid out (text_of (segment_of script now steps)) (told given)
        → Sessions (segment_of script now) (taken mid) (taken out) steps now count given new
        → Going script old steps sleeps fewer (done + count) new
        (λ text. Said taken faults has_room begun out text (Ok tt))
    goes_on (session.Done value) none text it = absurd (cc none)
    goes_on (session.Exit value tag) none text it = absurd (cc none)
    goes_on (session.Error code) none text it = absurd (cc none)
    goes_on (session.Asleep value tag) none text it =
        goes_by fewer more (bare_stops (session.Asleep value tag) it) it.stands
        (said_so (session.Asleep value tag) text)
    goes_on session.Steps none text it = absurd (cc none)
    goes_on session.SinkFault none text it = absurd (cc none)

    -- it ends before
    last_early : bare.stop ≢ Asleep
        → rest_of script old steps left now so.shown ≡ traced steps (segment go steps 0 here)
    last_early ne = joined_ends go steps here (replicate left steps) (λ e. ne (sym stop_here ∙ e))

    text_cut : (stop : Stop End) → bare.stop ≡ stop
        → (text : Said taken faults has_room mid out (text_of (segment_of script now steps))
        (told session.SinkFault))
        → Said taken faults has_room begun out (told_text whole) (told session.SinkFault)
    text_cut Steps is text =
        text_last session.SinkFault text (last_early (λ e. absurd (cc (is, e))))
    text_cut Asleep is text = cut_there fewer more is (record {}) (said_so session.SinkFault text)
    text_cut (Over_by x) is text =
        text_last session.SinkFault text (last_early (λ e. absurd (cc (is, e))))

    abbrev Answered : SessionEnd → Type 0
    Answered last =
        Said taken faults has_room begun out (told_text whole) (told last) × StopsAs whole.stop last

    ends_by : (given : SessionEnd) → (unless_asleep given ≡ None → ⊥) → given ≢ session.SinkFault
        → Said taken faults has_room mid out (text_of (segment_of script now steps)) (told given)
        → Sessions (segment_of script now) (taken mid) (taken out) steps now count given new
        → Answered given
    ends_by given last unbroken text it =
        let end = last_early (not_asleep bare.stop given (bare_stops given it) last unbroken) in
        (text_last given text end, answer_last given text end it)

    answered : (given : SessionEnd) → (unless_asleep given ≡ None → ⊥)
        → Said taken faults has_room mid out (text_of (segment_of script now steps)) (told given)
        → Sessions (segment_of script now) (taken mid) (taken out) steps now count given new
        → Answered given
    answered (session.Done value) last text it =
        ends_by (session.Done value) last (λ e. absurd (cc e)) text it
    answered (session.Exit value tag) last text it =
        ends_by (session.Exit value tag) last (λ e. absurd (cc e)) text it
    answered (session.Error code) last text it =
        ends_by (session.Error code) last (λ e. absurd (cc e)) text it
    answered (session.Asleep value tag) last text it = absurd (last refl)
    answered session.Steps last text it = ends_by session.Steps last (λ e. absurd (cc e)) text it
    answered session.SinkFault last text it = (text_cut bare.stop refl text, tt)

    pub ends_early : (given last : SessionEnd) → unless_asleep given ≡ Some last
        → Said taken faults has_room mid out (text_of (segment_of script now steps)) (told given)
        → Sessions (segment_of script now) (taken mid) (taken out) steps now count given new
        → Answered last
    ends_early given last is text it =
        subst Answered (same_end given last is) (answered given (λ e. absurd (cc (is, e))) text it)
