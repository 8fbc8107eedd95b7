-- What a session answers, and where it leaves its machine and the script's position: `segments`
-- gives the segment with each bound from where it began, and `front` stands before each line.
use Rattle.std.specs.Prelude.{◌≡◌, ◌≤◌, ◌++◌, ℕ, suc, List, [], Option, Result, Ok, Err, length}
use Rattle.pawn_outside.specs.declared.fault.SinkFault.{SinkFault}
use Rattle.pawn_outside.specs.Taken.{with_more, WroteFront}
use Rattle.host_script.specs.declared.event.End.{End}
use Rattle.host_script.specs.declared.event.End.TheVariants as end
use Rattle.amx_ops.specs.Moves.{Config}
use Rattle.amx_ops.specs.Runs as run
use Rattle.amx_ops.specs.Runs.{Segmented, Over_by}
use Rattle.host_run.specs.declared.end.SessionEnd.{SessionEnd}
use Rattle.host_run.specs.declared.end.SessionEnd.TheVariants as answer
use Rattle.host_run.specs.Segments.{Place, text_behind}
use Rattle.host_run.specs.Stands.{Stands}

-- the answer of a segment; a failing sink isn't one
abbrev pub IsAnswer : Segmented Config End → SessionEnd → Type 0
IsAnswer made (answer.Done value) = made.stop ≡ Over_by (end.Done value)
IsAnswer made (answer.Exit value tag) = made.stop ≡ Over_by (end.Exit value tag)
IsAnswer made (answer.Error code) = made.stop ≡ Over_by (end.Error code)
IsAnswer made (answer.Asleep value tag) =
    (made.stop ≡ run.Asleep) × (value ≡ made.config.state.pri) × (tag ≡ made.config.state.alt)
IsAnswer made answer.Steps = made.stop ≡ run.Steps
IsAnswer made answer.SinkFault = ⊥

-- so many steps were done, and the sink failed at a line of the last one: it has taken all lines
-- before, and a front of that line
pub record IsCutOff (lead : List ℕ) (segments : ℕ → Segmented Config End)
    (taken after : Option (List ℕ)) (count : ℕ) : Type 0 where
  pub before : ℕ
  pub last : count ≡ suc before
  pub line : List ℕ
  pub shows : text_behind lead (segments count) ≡ text_behind lead (segments before) ++ line
  pub some : 1 ≤ length line
  pub front : WroteFront (with_more taken (text_behind lead (segments before))) after line

-- with this answer the segment is done, and all is as it says
pub record Concludes (segments : ℕ → Segmented Config End) (bound : ℕ) (old : Place) (count : ℕ)
    (given : SessionEnd) (new : Place) : Type 0 where
  pub answer : IsAnswer (segments bound) given
  pub stands : Stands old (segments bound) count new

-- or it was cut short, and all is as the segment of so many steps says
pub record StopsShort (front : List ℕ) (segments : ℕ → Segmented Config End)
    (taken after : Option (List ℕ)) (bound : ℕ) (old : Place) (count : ℕ)
    (new : Place) : Type 0 where
  pub within : count ≤ bound
  pub stands : Stands old (segments count) count new
  pub cut : IsCutOff front segments taken after count

-- it was cut short only where the sink failed
abbrev pub SessionsBehind : List ℕ → (ℕ → Segmented Config End) → Option (List ℕ)
    → Option (List ℕ) → ℕ → Place → ℕ → SessionEnd → Place → Type 0
SessionsBehind front segments taken after bound old count (answer.Done value) new =
    Concludes segments bound old count (answer.Done value) new
SessionsBehind front segments taken after bound old count (answer.Exit value tag) new =
    Concludes segments bound old count (answer.Exit value tag) new
SessionsBehind front segments taken after bound old count (answer.Error code) new =
    Concludes segments bound old count (answer.Error code) new
SessionsBehind front segments taken after bound old count (answer.Asleep value tag) new =
    Concludes segments bound old count (answer.Asleep value tag) new
SessionsBehind front segments taken after bound old count answer.Steps new =
    Concludes segments bound old count answer.Steps new
SessionsBehind front segments taken after bound old count answer.SinkFault new =
    StopsShort front segments taken after bound old count new

-- with nothing in front of a line
abbrev pub Sessions : (ℕ → Segmented Config End) → Option (List ℕ) → Option (List ℕ) → ℕ → Place → ℕ
    → SessionEnd → Place → Type 0
Sessions segments taken after bound old count given new =
    SessionsBehind [] segments taken after bound old count given new

-- whether the sink failed
abbrev pub told : SessionEnd → Result (Unit {0}) SinkFault
told (answer.Done value) = Ok tt
told (answer.Exit value tag) = Ok tt
told (answer.Error code) = Ok tt
told (answer.Asleep value tag) = Ok tt
told answer.Steps = Ok tt
told answer.SinkFault = Err (record {})
