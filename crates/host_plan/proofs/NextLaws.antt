-- The line behind those that were read of a plan: what some plan has there may stand there.
use Rattle.std.proofs.Common.{◌≡◌, ◌≢◌, ◌∙◌, ◌<◌, ◌≤◌, ◌^◌, ◌+◌, ◌++◌, ℕ, List, [], ◌∷◌, All, codes}
use Rattle.std.proofs.Common.{length, map, refl, sym, ap, subst, arith, append_assoc, append-nil}
use Rattle.std.proofs.Common.{length-append, Bool, true, false, Result, Ok, Err}
use Rattle.pawn_base.specs.declared.memory.Memory.{Memory}
use Rattle.std.proofs.lemmas.List.{map-append}
use Rattle.std.proofs.lemmas.List.Elements.{All-nil, All-head, All-tail, All-push}
use Rattle.host_many.specs.Serves.{machine_of}
use Rattle.host_many.specs.declared.turn.Turn.{Turn}
use Rattle.host_many.specs.declared.turn.Turn.TheVariants.{Start, Go}
use Rattle.host_plan.specs.declared.line.Line.{Line}
use Rattle.host_plan.specs.declared.line.Line.TheVariants.{Machine, Event}
use Rattle.host_plan.specs.declared.plan.MachineFiles.{MachineFiles}
use Rattle.host_plan.specs.declared.plan.Plan.{Plan}
use Rattle.host_plan.specs.Lines.{Follows, IsDraft, IsNext, LineFits, TurnFits, line_text, with_line}
use Rattle.host_plan.specs.Lines.{Takes, TakesText}
use Rattle.host_plan.specs.Plans.{AreFiles, IsEventFor, IsPlan, machine_line, turn_line, plan_lines}
use Rattle.host_plan.proofs.LineLaws.{heads, same_line}

-- a machine's line is no event's
pub no_both : (turn : Turn) (it : MachineFiles) → turn_line turn ≡ machine_line it → ⊥
no_both (Start machine name) it e = let first = heads e in omega (arith, first)
no_both (Go machine steps) it e = let first = heads e in omega (arith, first)

module _ (count : ℕ) (line : List ℕ) (rest : List (List ℕ)) where
  -- an event of a plan with so many machines
  record IsTurn : Type 0 where
    turn : Turn
    fits : IsEventFor count turn
    is : line ≡ turn_line turn

  events_next : (all known : List Turn) → All (IsEventFor count) all
      → map turn_line all ≡ map turn_line known ++ line ∷ rest → IsTurn
  events_next [] [] h e = absurd (let no : [] ≡ line ∷ rest = e in cc no)
  events_next [] (turn ∷ known) h e =
      absurd (let no : [] ≡ turn_line turn ∷ (map turn_line known ++ line ∷ rest) = e in cc no)
  events_next (turn ∷ all) [] h e =
      record { turn = turn; fits = All-head (IsEventFor count) turn all h; is = cc }
  events_next (turn ∷ all) (other ∷ known) h e =
      events_next all known (All-tail (IsEventFor count) turn all h) cc

  -- what a plan has behind known machines and events
  data Comes (all known : List MachineFiles) (events : List Turn) : Type 0 where
    by_machine : (it : MachineFiles) → AreFiles it → events ≡ [] → length known < length all
        → line ≡ machine_line it → Comes all known events
    by_event : IsTurn → length all ≡ length known → Comes all known events

  comes_more : (x y : MachineFiles) (all known : List MachineFiles) (events : List Turn)
      → Comes all known events → Comes (x ∷ all) (y ∷ known) events
  comes_more x y all known events (by_machine it fits none more is) =
      by_machine it fits none (omega (arith, more)) is
  comes_more x y all known events (by_event it same) = by_event it (omega (arith, same))

  machines_next : (all known : List MachineFiles) (turns events : List Turn) → All AreFiles all
      → All (IsEventFor count) turns
      → map machine_line all ++ map turn_line turns
      ≡ map machine_line known ++ (map turn_line events ++ line ∷ rest) → Comes all known events
  machines_next [] [] turns events h k e = by_event (events_next turns events k e) refl
  machines_next [] (y ∷ known) [] events h k e =
      absurd (let no : [] ≡ machine_line y
      ∷ (map machine_line known ++ (map turn_line events ++ line ∷ rest)) = e in cc no)
  machines_next [] (y ∷ known) (turn ∷ turns) events h k e =
      absurd (no_both turn y (let first : turn_line turn ≡ machine_line y = cc in first))
  machines_next (x ∷ all) [] turns [] h k e =
      by_machine x (All-head AreFiles x all h) refl (omega arith) cc
  machines_next (x ∷ all) [] turns (turn ∷ events) h k e =
      absurd (no_both turn x (let first : turn_line turn ≡ machine_line x = cc in first))
  machines_next (x ∷ all) (y ∷ known) turns events h k e =
      comes_more x y all known events
      (machines_next all known turns events (All-tail AreFiles x all h) k cc)

-- ---- behind a draft

pub fits_field : (count : ℕ) (turn : Turn) → count < 2 ^ 32 → IsEventFor count turn → TurnFits turn
fits_field count (Start machine name) small h = (omega (arith, h.0, small), h.1)
fits_field count (Go machine steps) small h = (omega (arith, h.0, small), h.1)

pub has_machine : (count : ℕ) (turn : Turn) → IsEventFor count turn → machine_of turn < count
has_machine count (Start machine name) h = h.0
has_machine count (Go machine steps) h = h.0

event_for : (count : ℕ) (turn : Turn) → TurnFits turn → machine_of turn < count
    → IsEventFor count turn
event_for count (Start machine name) fits low = (low, fits.1)
event_for count (Go machine steps) fits low = (low, fits.1)

-- a line of some plan that may stand there
pub record HasNext (line : List ℕ) (plan : Plan) : Type 0 where
  pub it : Line
  pub next : IsNext line plan it

next_by : (plan other : Plan) (line : List ℕ) (rest : List (List ℕ)) → IsPlan other
    → Comes (length other.machines) line rest other.machines plan.machines plan.events
    → HasNext line plan
next_by plan other line rest is (by_machine it fits none more text) = record {
  it = Machine it;
  next = record { fits = fits; is = text; follows = (none, omega (arith, more, is.few)) };
}
next_by plan other line rest is (by_event it same) = record {
  it = Event it.turn;
  next = record {
    fits =
        fits_field (length other.machines) it.turn (omega (arith, is.few)) it.fits;
    is = it.is;
    follows =
        (let low = has_machine (length other.machines) it.turn it.fits in omega (arith, low, same));
  };
}

pub next_is : (plan other : Plan) (line : List ℕ) (rest : List (List ℕ)) → IsPlan other
    → plan_lines other ≡ plan_lines plan ++ line ∷ rest → HasNext line plan
next_is plan other line rest is e =
    next_by plan other line rest is
    (machines_next (length other.machines) line rest other.machines plan.machines other.events
    plan.events is.files is.events
    (e ∙ append_assoc (map machine_line plan.machines) (map turn_line plan.events) (line ∷ rest)))

-- ---- one line more

pub lines_more : (plan : Plan) (it : Line) → Follows plan it
    → plan_lines (with_line plan it) ≡ plan_lines plan ++ line_text it ∷ []
lines_more plan (Machine it) follows =
    let events : List Turn = plan.events in
    let none : events ≡ [] = follows.0 in
    let P : List Turn → Type 0 =
    λ turns. map machine_line (plan.machines ++ it ∷ []) ++ map turn_line turns
    ≡ (map machine_line plan.machines ++ map turn_line turns) ++ machine_line it ∷ [] in
    subst P (sym none)
    (append-nil (map machine_line (plan.machines ++ it ∷ []))
    ∙ map-append machine_line plan.machines (it ∷ [])
    ∙ ap (λ lines. lines ++ machine_line it ∷ []) (sym (append-nil (map machine_line plan.machines))))
lines_more plan (Event turn) follows =
    ap (λ lines. map machine_line plan.machines ++ lines)
    (map-append turn_line plan.events (turn ∷ []))
    ∙ sym (append_assoc (map machine_line plan.machines) (map turn_line plan.events)
    (turn_line turn ∷ []))

pub draft_more : (plan : Plan) (it : Line) → IsDraft plan → LineFits it → Follows plan it
    → IsDraft (with_line plan it)
draft_more plan (Machine it) draft fits follows =
    let count : ℕ = length (plan.machines ++ it ∷ []) in
    let long = length-append plan.machines (it ∷ []) in
    let P : List Turn → Type 0 = λ turns. All (IsEventFor count) turns in record {
      few = omega (arith, long, follows.1);
      files = All-push AreFiles plan.machines it draft.files fits;
      events = subst P (sym follows.0) (All-nil (IsEventFor count));
    }
draft_more plan (Event turn) draft fits follows = record {
  few = draft.few;
  files = draft.files;
  events =
      All-push (IsEventFor (length plan.machines)) plan.events turn draft.events
      (event_for (length plan.machines) turn fits follows);
}

-- ---- a text that was read as a line

pub taken : (text : List ℕ) (line : Line) (old new : Plan) (result : Result Bool Memory)
    → LineFits line × (text ≡ line_text line) → Takes line old new result
    → TakesText text old new result
taken text line old new (Err fault) it takes = tt
taken text line old new (Ok true) it takes =
    (line, record { fits = it.0; is = it.1; follows = takes.0 }, takes.1)
taken text line old new (Ok false) it takes = (
  λ other next.
      (let same : other ≡ line = same_line other line next.fits it.0 (sym next.is ∙ it.1) in
      takes.0 (subst (λ given. Follows old given) same next.follows)),
  takes.1,
)
