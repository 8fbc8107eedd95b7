-- What the walk over open files answers, for the proof alone.
use Rattle.std.specs.Prelude.{◌≡◌, Bool, true, false, Result, Ok, Err}
use Rattle.pawn_cells.specs.declared.place.Place.{Place}
use Rattle.pawn_outside.specs.Held.{Held}
use Rattle.pawn_pre.specs.declared.fault.PreFault.{PreFault}
use Rattle.pawn_pre.specs.declared.fault.PreFault.TheVariants as fault
use Rattle.pawn_pre.specs.declared.line.Lines.{Lines}
use Rattle.pawn_pre.specs.declared.refusal.Refusal.{Refusal}
use Rattle.pawn_pre.specs.declared.refusal.Refusal.TheVariants as refusal
use Rattle.pawn_pre.specs.Outcome.{Outcome, Whole, Fault, Long, name_of}
use Rattle.pawn_pre.specs.Evaluation.{Value}
use Rattle.pawn_pre.specs.Walk.{Stack, Turned, On, Stopped, stack_lines, WalkEnds}

-- of one step: whether it goes on, or the fault
abbrev pub Says : Turned → Result Bool PreFault → Stack → Type 0
Says turned (Ok true) new = turned ≡ On new
Says turned (Ok false) new = turned ≡ Stopped (Whole (stack_lines new))
Says turned (Err (fault.Source kind place file)) new = turned ≡ Stopped (Fault kind place file)
Says turned (Err fault.NoSource) new = ⊥
Says turned (Err (fault.TooLarge file)) new = turned ≡ Stopped (Long file)
Says turned (Err fault.Files) new = Unit {0}
Says turned (Err fault.Memory) new = Unit {0}

-- a fault of the source, or want of memory
abbrev pub IsFault : Outcome → PreFault → Type 0
IsFault o (fault.Source kind place file) = o ≡ Fault kind place file
IsFault o fault.NoSource = ⊥
IsFault o (fault.TooLarge file) = ⊥
IsFault o fault.Files = ⊥
IsFault o fault.Memory = Unit {0}

-- no answer but that fault
abbrev pub IfFault : Outcome → Result Bool PreFault → Type 0
IfFault o (Ok goes_on) = ⊥
IfFault o (Err refused) = IsFault o refused

-- a file that isn't there is fault 3, or nothing
abbrev pub IsMissing : Bool → Stack → Place → Result Bool PreFault → Type 0
IsMissing true p place result = result ≡ Ok true
IsMissing false p place result =
    IfFault (Fault 3 place (name_of p.names place.file)) result

-- the outcome of a line's work
abbrev pub IsTold : Stack → Place → Result (Unit {0}) Refusal → Result Bool PreFault → Type 0
IsTold p place (Ok done) result = result ≡ Ok true
IsTold p place (Err (refusal.Fault kind)) result =
    IfFault (Fault kind place (name_of p.names place.file)) result
IsTold p place (Err refusal.Memory) result = result ≡ Err fault.Memory

-- what the steps from a page come to
abbrev pub EndsIn : Value → Held → Stack → Result Lines PreFault → Type 0
EndsIn value map p (Ok lines) = WalkEnds value map p (Whole lines)
EndsIn value map p (Err (fault.Source kind place file)) =
    WalkEnds value map p (Fault kind place file)
EndsIn value map p (Err fault.NoSource) = ⊥
EndsIn value map p (Err (fault.TooLarge file)) = WalkEnds value map p (Long file)
EndsIn value map p (Err fault.Files) = Unit {0}
EndsIn value map p (Err fault.Memory) = Unit {0}
