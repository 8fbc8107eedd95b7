-- A session from event to event: it goes on, or the event was the last one.
use Rattle.std.proofs.Common.{◌≡◌, ◌+◌, ◌-◌, ◌<◌, ◌≤◌, ℕ, suc, List, [], ◌++◌}
use Rattle.std.proofs.Common.{Option, None, Some, Ok, Err, refl, sym, ap, subst, ◌∙◌, append-nil}
use Rattle.std.proofs.Common.{append_assoc, arith}
use Rattle.std.proofs.lemmas.Grind.{flat_map-append}
use Rattle.pawn_outside.specs.Said.{Said}
use Rattle.pawn_outside.specs.Taken.{with_more, WroteFront}
use Rattle.pawn_outside.proofs.SaidLaws.{said_as, said_then, said_cut, said_nothing}
use Rattle.host_script.specs.declared.script.Script.{Script}
use Rattle.host_script.specs.declared.event.Event.{Event as Shown}
use Rattle.host_script.specs.declared.event.End.{End}
use Rattle.host_script.specs.Text.{event_text}
use Rattle.amx_ops.specs.Moves.{Config, move, moved}
use Rattle.amx_ops.specs.Runs.{Moved, Segmented, Stop, Steps, Asleep, Over_by, segment}
use Rattle.amx_ops.specs.Runs as run
use Rattle.amx_ops.proofs.RunLaws.{segment-zero, segment-goes, segment-sleeps, segment-ends}
use Rattle.amx_machine.specs.Machine.{Machine}
use Rattle.amx_machine.specs.declared.event.Event.{Event}
use Rattle.amx_machine.specs.declared.event.Event.TheVariants as event
use Rattle.amx_machine.specs.declared.mode.Mode.TheVariants as mode
use Rattle.host_run.specs.declared.end.SessionEnd.{SessionEnd}
use Rattle.host_run.specs.declared.end.SessionEnd.TheVariants as answer
use Rattle.host_run.specs.Segments.{Place, begun, segment_of, lines_behind, stop_behind}
use Rattle.host_run.specs.Segments.{text_behind}
use Rattle.host_run.specs.Stands.{IsAwake, Stands, IsLeft}
use Rattle.host_run.specs.Session.{IsAnswer, IsCutOff, Concludes, SessionsBehind, told}
use Rattle.host_run.specs.Advance.{made_by, IsGiven, Advanced, turned_by, move_by, told_of}
use Rattle.host_run.specs.Reached.{placed, Reached}
use Rattle.host_run.specs.SoFar.{SoFar}
use Rattle.host_run.proofs.EventLaws.{IsStep, move_is, counted}
use Rattle.host_run.proofs.GrowLaws.{Grows, config_of, move_grows, segment_grows}

-- ---- one move of a segment

-- it stops there, or goes on
abbrev behind : (Config → Moved Config End) → Stop End → ℕ → ℕ → Config → Segmented Config End
behind go Steps k so_far c = segment go k so_far c
behind go Asleep k so_far c = record { stop = Asleep; config = c; steps = so_far }
behind go (Over_by e) k so_far c = record { stop = Over_by e; config = c; steps = so_far }

one_move : (go : Config → Moved Config End) (stop : Stop End) (k so_far : ℕ) (c d : Config)
    → go c ≡ made_by stop d
    → segment go (suc k) so_far c ≡ behind go stop k (so_far + 1) d
one_move go Steps k so_far c d e = segment-goes go k so_far c d e
one_move go Asleep k so_far c d e = segment-sleeps go k so_far c d e
one_move go (Over_by x) k so_far c d e = segment-ends go k so_far c d x e

at_once : (go : Config → Moved Config End) (stop : Stop End) (so_far : ℕ) (c : Config)
    → behind go stop 0 so_far c ≡ record { stop = stop; config = c; steps = so_far }
at_once go Steps so_far c = segment-zero go so_far c
at_once go Asleep so_far c = refl
at_once go (Over_by e) so_far c = refl

-- what was shown comes first
text_grows : (front : List ℕ) (go : Config → Moved Config End)
    (grows : (c : Config) → Grows c.events (config_of (go c)).events) (stop : Stop End)
    (k so_far : ℕ) (c : Config)
    → (more : List ℕ) × (text_behind front (behind go stop k so_far c)
    ≡ (lines_behind front c.events ++ stop_behind front stop) ++ more)
text_grows front go grows Steps k so_far c =
    let rest = segment_grows go grows k so_far c in (
      lines_behind front rest.0 ++ stop_behind front (segment go k so_far c).stop,
      ap (λ events. lines_behind front events ++ stop_behind front (segment go k so_far c).stop) rest.1
          ∙ ap (λ text. text ++ stop_behind front (segment go k so_far c).stop)
          (flat_map-append (λ event. front ++ event_text event) c.events rest.0)
          ∙ append_assoc (lines_behind front c.events) (lines_behind front rest.0)
          (stop_behind front (segment go k so_far c).stop)
          ∙ ap (λ text. text ++ (lines_behind front rest.0 ++ stop_behind front (segment go k so_far c).stop))
          (sym (append-nil (lines_behind front c.events))),
    )
text_grows front go grows Asleep k so_far c = ([], sym (append-nil (lines_behind front c.events ++ [])))
text_grows front go grows (Over_by e) k so_far c =
    ([], sym (append-nil (lines_behind front c.events ++ stop_behind front (Over_by e))))

abbrev place_behind : Machine → Place → Place
place_behind m now = record { machine = m; position = now.position }

-- ---- the segment, up to the event and behind it

module _ (front : List ℕ) {S : Type 0} (taken : S → Option (List ℕ)) (faults : S → ℕ) (has_room : S → ℕ → Type 0)
    (begun mid out : S)
    (script : Script) (old now new : Place) (bound done count : ℕ) (e : Event) (m : Machine)
    (so : SoFar front script old bound done now
    (λ text. Said taken faults has_room begun mid text (Ok tt)))
    (r : Reached (bound - done) now.machine count e m) (within_bound : done < bound) where
  abbrev go : Config → Moved Config End
  go = move old.machine.amx script

  abbrev before : ℕ
  before = done + r.passed

  up_to : (k : ℕ) → segment_of script old (before + k)
      ≡ segment go k before (placed r.mid now.position so.shown)
  up_to k =
      let n : (done + r.passed) + k ≡ done + (r.passed + k) = omega arith in
      ap (segment_of script old) n ∙ so.leads (r.passed + k)
      ∙ subst (λ amx. segment (move amx script) (r.passed + k) done
      (placed now.machine.state now.position so.shown)
      ≡ segment (move amx script) k before (placed r.mid now.position so.shown))
      so.file (r.leads script k done now.position so.shown)

  module _ (given : Option SessionEnd) (file : new.machine.amx ≡ m.amx)
      (ad : Advanced front (move_by m.amx script e (place_behind m now)) new given
      (λ text. Said taken faults has_room mid out text (told_of given))) where
    abbrev at_end : Config
    at_end = placed new.machine.state new.position (so.shown ++ ad.shown)

    module _ (steps : IsStep e) where
      last_move : go (placed r.mid now.position so.shown) ≡ made_by ad.stop at_end
      last_move =
          subst (λ amx. move amx script (placed r.mid now.position so.shown)
          ≡ made_by ad.stop at_end) (r.file ∙ so.file)
          (subst (λ amx. move amx script (placed r.mid now.position so.shown)
          ≡ moved m.amx script (placed m.state now.position so.shown) (turned_by e m.state))
          (sym r.file)
          (move_is now.machine.amx script e (bound - done) r.mid r.passed count m.state now.position
          so.shown steps r.last
          ∙ ap (λ amx. moved amx script (placed m.state now.position so.shown)
          (turned_by e m.state)) (sym r.file))
          ∙ ad.moved so.shown)

      from_there : (k : ℕ) → segment_of script old (before + suc k)
          ≡ behind go ad.stop k (before + 1) at_end
      from_there k =
          up_to (suc k) ∙ one_move go ad.stop k before
          (placed r.mid now.position so.shown) at_end last_move

      count_is : count ≡ r.passed + 1
      count_is =
          (counted e now.machine.amx (bound - done) r.mid r.passed count m.state steps r.last).0

      passed_is : r.passed < bound - done
      passed_is =
          (counted e now.machine.amx (bound - done) r.mid r.passed count m.state steps r.last).1

      is_within : done + count ≤ bound
      is_within = omega (arith, count_is, passed_is)

      total : before + 1 ≡ done + count
      total = omega (arith, count_is)

      -- the segment of so many steps
      so_many : segment_of script old (done + count)
          ≡ record { stop = ad.stop; config = at_end; steps = done + count }
      so_many =
          let n : done + count ≡ before + suc 0 = omega (arith, count_is) in
          ap (segment_of script old) n ∙ from_there 0 ∙ at_once go ad.stop (before + 1) at_end
          ∙ ap (λ i. record { stop = ad.stop; config = at_end; steps = i }) total

      all_of : bound ≡ before + suc (bound - (before + 1))
      all_of = omega (arith, passed_is)

      -- that of the bound
      whole : segment_of script old bound
          ≡ behind go ad.stop (bound - (before + 1)) (done + count) at_end
      whole =
          ap (segment_of script old) all_of ∙ from_there (bound - (before + 1))
          ∙ ap (λ i. behind go ad.stop (bound - (before + 1)) i at_end) total

      stands_by : (n : ℕ) → segment_of script old n
          ≡ record { stop = ad.stop; config = at_end; steps = done + count }
          → Stands old (segment_of script old n) (done + count) new
      stands_by n is = record {
        file = file ∙ r.file ∙ so.file;
        state = sym (ap (λ it. it.config.state) is);
        position = sym (ap (λ it. it.config.position) is);
        steps = sym (ap (λ it. it.steps) is);
        still = λ none. absurd (omega (arith, none, count_is));
        mode =
            λ some. subst (λ stop. IsLeft stop new.machine.mode)
            (sym (ap (λ it. it.stop) is)) ad.mode;
      }

      text_then : lines_behind front (so.shown ++ ad.shown) ++ stop_behind front ad.stop
          ≡ lines_behind front so.shown ++ (lines_behind front ad.shown ++ stop_behind front ad.stop)
      text_then =
          ap (λ text. text ++ stop_behind front ad.stop) (flat_map-append (λ event. front ++ event_text event) so.shown ad.shown)
          ∙ append_assoc (lines_behind front so.shown) (lines_behind front ad.shown) (stop_behind front ad.stop)

      text_before : text_behind front (segment_of script old before) ≡ lines_behind front so.shown
      text_before =
          let n : before ≡ before + 0 = omega arith in
          ap (λ k. text_behind front (segment_of script old k)) n
          ∙ ap (text_behind front) (up_to 0 ∙ segment-zero go before (placed r.mid now.position so.shown))
          ∙ append-nil (lines_behind front so.shown)

      text_after : text_behind front (segment_of script old (done + count))
          ≡ text_behind front (segment_of script old before) ++ (lines_behind front ad.shown ++ stop_behind front ad.stop)
      text_after =
          ap (text_behind front) so_many ∙ text_then
          ∙ ap (λ text. text ++ (lines_behind front ad.shown ++ stop_behind front ad.stop)) (sym text_before)

      -- more may follow it
      text_whole : (more : List ℕ) ×
          (text_behind front (segment_of script old bound)
          ≡ (lines_behind front so.shown ++ (lines_behind front ad.shown ++ stop_behind front ad.stop)) ++ more)
      text_whole =
          let rest =
          text_grows front go (move_grows old.machine.amx script) ad.stop (bound - (before + 1))
          (done + count) at_end in
          (rest.0, ap (text_behind front) whole ∙ rest.1 ∙ ap (λ text. text ++ rest.0) text_then)

      -- it stops there
      stopped : (ad.stop ≡ Steps → ⊥)
          → segment_of script old bound ≡ record
          { stop = ad.stop; config = at_end; steps = done + count }
      stopped goes = whole ∙ by ad.stop goes where
        by : (stop : Stop End) → (stop ≡ Steps → ⊥)
            → behind go stop (bound - (before + 1)) (done + count) at_end
            ≡ record { stop = stop; config = at_end; steps = done + count }
        by Steps h = absurd (h refl)
        by Asleep h = refl
        by (Over_by x) h = refl

    -- ---- it goes on

    module _ (on : given ≡ None) where
      stop_is : ad.stop ≡ Steps
      stop_is = subst (IsGiven ad.stop new.machine.state) on ad.gives

      lines : Said taken faults has_room begun out (lines_behind front (so.shown ++ ad.shown)) (Ok tt)
      lines =
          let none : lines_behind front ad.shown ++ stop_behind front ad.stop ≡ lines_behind front ad.shown =
          ap (λ stop. lines_behind front ad.shown ++ stop_behind front stop) stop_is
          ∙ append-nil (lines_behind front ad.shown) in
          let more : Said taken faults has_room mid out (lines_behind front ad.shown ++ stop_behind front ad.stop)
          (Ok tt) =
          subst (λ it. Said taken faults has_room mid out (lines_behind front ad.shown ++ stop_behind front ad.stop)
          (told_of it)) on ad.said in
          said_as (sym (flat_map-append (λ event. front ++ event_text event) so.shown ad.shown))
          (said_then so.said (said_as none more))

      runs_on : new.machine.mode ≡ mode.Running
      runs_on = subst (λ stop. IsLeft stop new.machine.mode) stop_is ad.mode

      by_leads : done + count ≤ bound → 1 ≤ count
          → ((k : ℕ) → segment_of script old ((done + count) + k)
          ≡ segment go k (done + count) at_end)
          → SoFar front script old bound (done + count) new
          (λ text. Said taken faults has_room begun out text (Ok tt))
      by_leads within some leads = record {
        within = within;
        file = file ∙ r.file ∙ so.file;
        awake = subst IsAwake (sym runs_on) tt;
        still = λ none. absurd (omega (arith, none, some));
        running = λ h. runs_on;
        shown = so.shown ++ ad.shown;
        said = lines;
        leads = leads;
      }

      by_step : IsStep e → SoFar front script old bound (done + count) new
          (λ text. Said taken faults has_room begun out text (Ok tt))
      by_step steps =
          by_leads (is_within steps) (omega (arith, count_is steps))
          (λ k.
          let n : (done + count) + k ≡ before + suc k = omega (arith, count_is steps) in
          ap (segment_of script old) n ∙ from_there steps k
          ∙ ap (λ stop. behind go stop k (before + 1) at_end) stop_is
          ∙ ap (λ i. segment go k i at_end) (total steps))

      -- all of the bound was done without an event
      by_going : (count ≡ r.passed) × (r.passed ≡ bound - done) × (m.state ≡ r.mid)
          → ((events : List Shown) → run.Goes (placed m.state now.position events)
          ≡ made_by ad.stop (placed new.machine.state new.position (events ++ ad.shown)))
          → SoFar front script old bound (done + count) new
          (λ text. Said taken faults has_room begun out text (Ok tt))
      by_going last moves =
          by_leads (omega (arith, last.0, last.1, within_bound))
          (omega (arith, last.0, last.1, within_bound))
          (λ k.
          let n : (done + count) + k ≡ before + k = omega (arith, last.0) in
          let t : before ≡ done + count = omega (arith, last.0) in
          let c = moves so.shown ∙ ap (λ stop. made_by stop at_end) stop_is in
          ap (segment_of script old) n ∙ up_to k
          ∙ ap (λ s. segment go k before (placed s now.position so.shown)) (sym last.2)
          ∙ ap (segment go k before) (ap config_of c)
          ∙ ap (λ i. segment go k i at_end) t)

    -- ---- it ends

    module _ (g : SessionEnd) (on : given ≡ Some g) (steps : IsStep e) where
      gives : IsGiven ad.stop new.machine.state (Some g)
      gives = subst (IsGiven ad.stop new.machine.state) on ad.gives

      told_so : Said taken faults has_room mid out (lines_behind front ad.shown ++ stop_behind front ad.stop) (told g)
      told_so =
          subst (λ it. Said taken faults has_room mid out (lines_behind front ad.shown ++ stop_behind front ad.stop)
          (told_of it)) on ad.said

      concludes : (ad.stop ≡ Steps → ⊥)
          → IsAnswer (record { stop = ad.stop; config = at_end; steps = done + count }) g
          → Concludes (segment_of script old) bound old (done + count) g new
      concludes goes is = record {
        answer = subst (λ made. IsAnswer made g) (sym (stopped steps goes)) is;
        stands = stands_by steps bound (stopped steps goes);
      }

      all_said : (ad.stop ≡ Steps → ⊥)
          → Said taken faults has_room begun out (text_behind front (segment_of script old bound)) (told g)
      all_said goes =
          said_as (sym (ap (text_behind front) (stopped steps goes) ∙ text_then steps))
          (said_then so.said told_so)

    not_steps : (stop : Stop End) (x : End) → stop ≡ Over_by x → stop ≡ Steps → ⊥
    not_steps stop x e f = absurd (cc (e, f))

    not_awake : (stop : Stop End) → stop ≡ Asleep → stop ≡ Steps → ⊥
    not_awake stop e f = absurd (cc (e, f))

    -- the sink failed at the last line
    cut_off : given ≡ Some answer.SinkFault → IsStep e
        → IsCutOff front (segment_of script old) (taken begun) (taken out) (done + count)
    cut_off on steps = record {
      before = before;
      last = omega (arith, count_is steps);
      line = lines_behind front ad.shown ++ stop_behind front ad.stop;
      shows = text_after steps;
      some = ad.some on;
      front = subst (λ it. WroteFront it (taken out) (lines_behind front ad.shown ++ stop_behind front ad.stop))
          (so.said.whole ∙ ap (with_more (taken begun)) (sym (text_before steps))) ad.said.front;
    }

    pub session_ends : (g : SessionEnd) → given ≡ Some g → IsStep e
        → SessionsBehind front (segment_of script old) (taken begun) (taken out) bound old (done + count) g new
    session_ends (answer.Done value) on steps =
        let is = gives (answer.Done value) on steps in
        concludes (answer.Done value) on steps (not_steps ad.stop _ is) is
    session_ends (answer.Exit value tag) on steps =
        let is = gives (answer.Exit value tag) on steps in
        concludes (answer.Exit value tag) on steps (not_steps ad.stop _ is) is
    session_ends (answer.Error code) on steps =
        let is = gives (answer.Error code) on steps in
        concludes (answer.Error code) on steps (not_steps ad.stop _ is) is
    session_ends (answer.Asleep value tag) on steps =
        let is = gives (answer.Asleep value tag) on steps in
        concludes (answer.Asleep value tag) on steps (not_awake ad.stop is.0) is
    session_ends answer.Steps on steps = absurd (gives answer.Steps on steps)
    session_ends answer.SinkFault on steps = record {
      within = is_within steps;
      stands = stands_by steps (done + count) (so_many steps);
      cut = cut_off on steps;
    }

    pub text_ends : (g : SessionEnd) → given ≡ Some g → IsStep e
        → Said taken faults has_room begun out (text_behind front (segment_of script old bound)) (told g)
    text_ends (answer.Done value) on steps =
        all_said (answer.Done value) on steps
        (not_steps ad.stop _ (gives (answer.Done value) on steps))
    text_ends (answer.Exit value tag) on steps =
        all_said (answer.Exit value tag) on steps
        (not_steps ad.stop _ (gives (answer.Exit value tag) on steps))
    text_ends (answer.Error code) on steps =
        all_said (answer.Error code) on steps
        (not_steps ad.stop _ (gives (answer.Error code) on steps))
    text_ends (answer.Asleep value tag) on steps =
        all_said (answer.Asleep value tag) on steps
        (not_awake ad.stop (gives (answer.Asleep value tag) on steps).0)
    text_ends answer.Steps on steps = absurd (gives answer.Steps on steps)
    text_ends answer.SinkFault on steps =
        let more = text_whole steps in
        said_as (sym more.1) (said_cut more.0 (Err (record {})) refl
        (said_then so.said (told_so answer.SinkFault on steps)))

-- ---- all steps are done

module _ (front : List ℕ) {S : Type 0} (taken : S → Option (List ℕ)) (faults : S → ℕ) (has_room : S → ℕ → Type 0)
    (begun out : S)
    (script : Script) (old now : Place) (bound done : ℕ)
    (so : SoFar front script old bound done now
    (λ text. Said taken faults has_room begun out text (Ok tt))) (all : bound ≤ done) where
  all_done : segment_of script old bound
      ≡ record {
        stop = Steps;
        config = placed now.machine.state now.position so.shown;
        steps = done;
      }
  all_done =
      let n : bound ≡ done + 0 = omega (arith, so.within, all) in
      ap (segment_of script old) n ∙ so.leads 0
      ∙ segment-zero (move old.machine.amx script) done
      (placed now.machine.state now.position so.shown)

  pub session_done : SessionsBehind front (segment_of script old) (taken begun)
      (taken out) bound old done answer.Steps now
  session_done = record {
    answer = ap (λ it. it.stop) all_done;
    stands = record {
      file = so.file;
      state = sym (ap (λ it. it.config.state) all_done);
      position = sym (ap (λ it. it.config.position) all_done);
      steps = sym (ap (λ it. it.steps) all_done);
      still = so.still;
      mode =
          λ some. subst (λ stop. IsLeft stop now.machine.mode) (sym (ap (λ it. it.stop) all_done))
          (so.running some);
    };
  }

  pub text_done : Said taken faults has_room begun out (text_behind front (segment_of script old bound))
      (told answer.Steps)
  text_done = said_as (sym (ap (text_behind front) all_done ∙ append-nil (lines_behind front so.shown))) so.said

-- ---- nothing is done

pub at_start : (front : List ℕ) {S : Type 0} (taken : S → Option (List ℕ)) (faults : S → ℕ)
    (has_room : S → ℕ → Type 0) (out : S) (script : Script) (old : Place) (bound : ℕ)
    → IsAwake old.machine.mode → SoFar front script old bound 0 old
    (λ text. Said taken faults has_room out out text (Ok tt))
at_start front taken faults has_room out script old bound awake = record {
  within = omega arith;
  file = refl;
  awake = awake;
  still = λ h. refl;
  running = λ h. absurd (omega (arith, h));
  shown = [];
  said = said_nothing out;
  leads = λ k. let n : 0 + k ≡ k = omega arith in ap (segment_of script old) n;
}

-- ---- from event to event

-- behind an event that didn't end it
pub session_goes : (front : List ℕ) {S : Type 0} (taken : S → Option (List ℕ)) (faults : S → ℕ)
    (has_room : S → ℕ → Type 0) (begun mid out : S)
    (script : Script) (old now new : Place) (bound done count : ℕ) (e : Event) (m : Machine)
    (so : SoFar front script old bound done now
    (λ text. Said taken faults has_room begun mid text (Ok tt)))
    (r : Reached (bound - done) now.machine count e m) (within_bound : done < bound)
    (given : Option SessionEnd) (file : new.machine.amx ≡ m.amx)
    (ad : Advanced front (move_by m.amx script e (place_behind m now)) new given
    (λ text. Said taken faults has_room mid out text (told_of given)))
    → given ≡ None → SoFar front script old bound (done + count) new
    (λ text. Said taken faults has_room begun out text (Ok tt))
session_goes front taken faults has_room begun mid out script old now new bound done count event.Going m
    so r within_bound given file ad on =
    by_going front taken faults has_room begun mid out script old now new bound done count event.Going m
    so r within_bound given file ad on r.last ad.moved
session_goes front taken faults has_room begun mid out script old now new bound done count
    (event.Native number) m so r within_bound given file ad on =
    by_step front taken faults has_room begun mid out script old now new bound done count
    (event.Native number) m so r within_bound given file ad on tt
session_goes front taken faults has_room begun mid out script old now new bound done count
    (event.Halt code pri alt) m so r within_bound given file ad on =
    by_step front taken faults has_room begun mid out script old now new bound done count
    (event.Halt code pri alt) m so r within_bound given file ad on tt
session_goes front taken faults has_room begun mid out script old now new bound done count
    (event.Error code) m so r within_bound given file ad on =
    by_step front taken faults has_room begun mid out script old now new bound done count
    (event.Error code) m so r within_bound given file ad on tt
