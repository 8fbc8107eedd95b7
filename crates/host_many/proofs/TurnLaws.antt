-- One event of one machine: a line alone, or a segment of a session.
use Rattle.std.proofs.Common.{◌≡◌, ◌≢◌, ◌+◌, ◌≤◌, ◌++◌, ◌∙◌, ◌⊎◌, inl, inr, ℕ, zero, suc, ℤ, pos, negsuc}
use Rattle.std.proofs.Common.{List, [], ◌∷◌, Option, Result, Ok, Err, length, map, refl, sym, ap, ap₂}
use Rattle.std.proofs.Common.{subst, append-nil, append_assoc, length-append, arith}
use Rattle.std.proofs.lemmas.Grind.{flat_map-append}
use Rattle.std.specs.List.{flat_map}
use Rattle.pawn_outside.specs.Said.{Said}
use Rattle.pawn_outside.specs.Taken.{with_more, WroteFront}
use Rattle.pawn_outside.specs.declared.fault.SinkFault.{SinkFault}
use Rattle.pawn_outside.proofs.SaidLaws.{said_as}
use Rattle.pawn_outside.proofs.TakenLaws.{with_more-nil}
use Rattle.host_script.specs.Text.{event_text, end_text}
use Rattle.host_script.specs.declared.script.Script.{Script}
use Rattle.host_script.specs.declared.event.Event.{Event}
use Rattle.host_script.specs.declared.event.End.{End}
use Rattle.host_script.specs.declared.event.End.TheVariants as end
use Rattle.amx_ops.specs.declared.amx.Amx.{Amx}
use Rattle.amx_ops.specs.State.{State}
use Rattle.amx_ops.specs.Moves.{Config, move}
use Rattle.amx_ops.specs.Runs.{Segmented, Stop, Steps, Asleep, Over_by, segment}
use Rattle.amx_machine.specs.declared.mode.Mode.{Mode}
use Rattle.amx_machine.specs.declared.mode.Mode.TheVariants as mode
use Rattle.host_run.specs.Segments.{Place, begun, segment_of, lines_behind, stop_behind, text_behind}
use Rattle.host_run.specs.Stands.{IsLeft, IsEnded, Stands}
use Rattle.host_run.specs.Session.{Concludes, SessionsBehind, told}
use Rattle.host_run.specs.declared.end.SessionEnd.{SessionEnd}
use Rattle.host_run.specs.declared.end.SessionEnd.TheVariants as session
use Rattle.host_run.proofs.BehindLaws.{some_steps}
use Rattle.host_many.specs.declared.standing.Standing.{Standing}
use Rattle.host_many.specs.declared.standing.Standing.TheVariants.{Idle, Runs, Over}
use Rattle.host_many.specs.declared.turn.Turn.{Turn}
use Rattle.host_many.specs.declared.turn.Turn.TheVariants.{Start, Go}
use Rattle.host_many.specs.Guests.{standing_at, standing_of, guest_of}
use Rattle.host_many.specs.Own.{Guest, Told, tells, silent, gone, gone_by, own, turned, started}
use Rattle.host_many.specs.Own.{segment_from, stop_lines, standing_by}
use Rattle.host_many.specs.Serves.{IsCut}
use Rattle.host_many.specs.Serves as cut
use Rattle.host_many.specs.TurnsSo.{IsCutTurn, TurnsSo, rows_text}

-- ---- a line alone

pub row_text : (front line : List ℕ) (told : Told) (g : Guest) → told ≡ tells line g
    → front ++ line ≡ rows_text front told.lines
row_text front line told g e =
    sym (ap (λ (t : Told). rows_text front t.lines) e ∙ append-nil (front ++ line))

module _ {S : Type 0} {taken : S → Option (List ℕ)} {faults : S → ℕ} {has_room : S → ℕ → Type 0}
    (front line : List ℕ) (turn : Turn) (old : Guest) (out new : S) where
  -- the event is done whether or not its line is taken
  pub line_turn : (result : Result (Unit {0}) SinkFault) → turned turn old ≡ tells line old
      → IsCut turn [] turn → 1 ≤ length line
      → Said taken faults has_room out new (front ++ line) result
      → TurnsSo front turn old (taken out) (taken new) result old
  line_turn (Ok done) e is some said = sym (ap (λ (t : Told). t.guest) e)
  line_turn (Err fault) e is some said = record {
    earlier = [];
    done = turn;
    cut = is;
    guest_is = sym (ap (λ (t : Told). t.guest) e);
    line = front ++ line;
    shows = sym (row_text front line (turned turn old) old e);
    some = omega (arith, some, length-append front line);
    partly =
        subst (λ t. WroteFront t (taken new) (front ++ line)) (sym (with_more-nil (taken out)))
        said.front;
  }

  pub line_said : (result : Result (Unit {0}) SinkFault) (told : Told) → told ≡ tells line old
      → Said taken faults has_room out new (front ++ line) result
      → Said taken faults has_room out new (rows_text front told.lines) result
  line_said result told e said = said_as (row_text front line told old e) said

-- ---- standings

over_at : (code : ℤ) → code ≢ pos 0 → standing_at code ≡ Over
over_at (pos zero) ne = absurd (ne refl)
over_at (pos (suc n)) ne = refl
over_at (negsuc n) ne = refl

ended_error : (code : ℤ) (m : Mode) → IsEnded (end.Error code) m → standing_of m ≡ Over
ended_error code m (inl (is, ne)) = ap standing_of is ∙ over_at code ne
ended_error code m (inr is) = ap standing_of is

standing_left : (stop : Stop End) (m : Mode) → IsLeft stop m → standing_of m ≡ standing_by stop
standing_left Steps m is = ap standing_of is
standing_left Asleep m is = ap standing_of is
standing_left (Over_by (end.Done value)) m is = ap standing_of is
standing_left (Over_by (end.Exit value tag)) m is = ap standing_of is
standing_left (Over_by (end.Error code)) m is = ended_error code m is
standing_left (Over_by end.Stray) m is = absurd is

-- ---- a segment's lines

events_text : (front : List ℕ) (events : List Event)
    → rows_text front (map event_text events) ≡ lines_behind front events
events_text front [] = refl
events_text front (event ∷ events) =
    ap (λ text. (front ++ event_text event) ++ text) (events_text front events)

stop_rows : (front : List ℕ) (stop : Stop End)
    → rows_text front (stop_lines stop) ≡ stop_behind front stop
stop_rows front Steps = refl
stop_rows front Asleep = refl
stop_rows front (Over_by e) = append-nil (front ++ end_text e)

pub gone_text : (front : List ℕ) (g : Guest) (made : Segmented Config End)
    → rows_text front (gone_by g made).lines ≡ text_behind front made
gone_text front g made =
    flat_map-append (λ line. front ++ line) (map event_text made.config.events)
    (stop_lines made.stop)
    ∙ ap₂ (λ a b. a ++ b) (events_text front made.config.events) (stop_rows front made.stop)

-- ---- a session

module _ (front : List ℕ) (script : Script) (old : Place)
    (runs : standing_of old.machine.mode ≡ Runs) where
  abbrev guest : Guest
  guest = guest_of old.machine script old.position

  abbrev made : ℕ → Segmented Config End
  made bound = segment_of script old bound

  gone_is : (steps : ℕ) → gone steps guest.standing guest ≡ gone_by guest (made steps)
  gone_is steps = ap (λ standing. gone steps standing guest) runs

  at_once : made 0 ≡ record { stop = Steps; config = begun old; steps = 0 }
  unfolding segment
  at_once = refl

  -- with no step it stands as it stood
  standing_behind_none : (steps count : ℕ) (new : Place) → Stands old (made steps) count new
      → count ≡ 0 → standing_of new.machine.mode ≡ standing_by (made steps).stop
  standing_behind_none zero count new stands none =
      ap standing_of (stands.still none) ∙ runs
      ∙ sym (ap (λ (s : Segmented Config End). standing_by s.stop) at_once)
  standing_behind_none (suc n) count new stands none =
      let least = some_steps (move old.machine.amx script) (suc n) (begun old) (omega arith) in
      absurd (omega (arith, least, stands.steps, none))

  standing_behind : (steps count : ℕ) (new : Place) → Stands old (made steps) count new
      → standing_of new.machine.mode ≡ standing_by (made steps).stop
  standing_behind steps zero new stands = standing_behind_none steps zero new stands refl
  standing_behind steps (suc n) new stands =
      standing_left (made steps).stop new.machine.mode (stands.mode (omega arith))

  by_parts : (steps : ℕ) (amx : Amx) (state : State) (position : ℕ) (standing : Standing)
      → amx ≡ old.machine.amx → state ≡ (made steps).config.state
      → position ≡ (made steps).config.position → standing ≡ standing_by (made steps).stop
      → record {
        amx = amx;
        script = script;
        state = state;
        position = position;
        standing = standing;
      } ≡ (gone_by guest (made steps)).guest
  by_parts steps amx state position standing a s p t = rw (a, s, p, t) refl

  guest_behind : (steps count : ℕ) (new : Place) → Stands old (made steps) count new
      → guest_of new.machine script new.position ≡ (gone steps guest.standing guest).guest
  guest_behind steps count new stands =
      by_parts steps new.machine.amx new.machine.state new.position (standing_of new.machine.mode)
      stands.file stands.state stands.position (standing_behind steps count new stands)
      ∙ sym (ap (λ (t : Told). t.guest) (gone_is steps))

  pub text_is : (steps : ℕ)
      → text_behind front (made steps) ≡ rows_text front (gone steps guest.standing guest).lines
  text_is steps =
      sym (ap (λ (t : Told). rows_text front t.lines) (gone_is steps)
      ∙ gone_text front guest (made steps))

  abbrev SoGone : ℕ → ℕ → Option (List ℕ) → Option (List ℕ) → SessionEnd → Place → Type 0
  SoGone number steps taken after given new =
      TurnsSo front (Go number steps) guest taken after (told given)
      (guest_of new.machine script new.position)

  -- the event is done as the session says
  pub session_turns : (number steps count : ℕ) (taken after : Option (List ℕ)) (given : SessionEnd)
      (new : Place) → SessionsBehind front made taken after steps old count given new
      → SoGone number steps taken after given new
  session_turns number steps count taken after (session.Done value) new it =
      guest_behind steps count new it.stands
  session_turns number steps count taken after (session.Exit value tag) new it =
      guest_behind steps count new it.stands
  session_turns number steps count taken after (session.Error code) new it =
      guest_behind steps count new it.stands
  session_turns number steps count taken after (session.Asleep value tag) new it =
      guest_behind steps count new it.stands
  session_turns number steps count taken after session.Steps new it =
      guest_behind steps count new it.stands
  session_turns number steps count taken after session.SinkFault new it =
      let before = it.cut.before in
      let last = it.cut.last in
      let earlier_is : text_behind front (made before)
      ≡ rows_text front (own guest (Go number before ∷ [])).lines =
      text_is before
      ∙ ap (rows_text front) (sym (append-nil (gone before guest.standing guest).lines)) in
      let P : ℕ → Type 0 = λ n. Stands old (made n) n new in
      record {
        earlier = Go number before ∷ [];
        done = Go number (suc before);
        cut = cut.go number steps before (omega (arith, it.within, last));
        guest_is = guest_behind (suc before) (suc before) new (subst P last it.stands);
        line = it.cut.line;
        shows =
            sym (text_is (suc before))
            ∙ ap (λ n. text_behind front (made n)) (sym last)
            ∙ it.cut.shows
            ∙ ap (λ text. text ++ it.cut.line) earlier_is;
        some = it.cut.some;
        partly =
            subst (λ text. WroteFront (with_more taken text) after it.cut.line) earlier_is
            it.cut.front;
      }
