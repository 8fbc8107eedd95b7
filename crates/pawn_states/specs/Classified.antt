-- What classifying clauses comes to: their dispatch where none breaks a rule, else the first fault.
use Rattle.std.specs.Prelude.{◌≡◌, List, [], Option, None, Some, Result, Ok, Err}
use Rattle.pawn_states.specs.Classifier.{first_fault}
use Rattle.pawn_states.specs.Dispatch.{dispatch_of}
use Rattle.pawn_states.specs.declared.clause.Clause.{Clause}
use Rattle.pawn_states.specs.declared.dispatch.Dispatch.{Dispatch}
use Rattle.pawn_states.specs.declared.fault.StateFault.{StateFault}
use Rattle.pawn_states.specs.declared.fault.StateFault.TheVariants.{Twice, FallbackTwice, Mixed}
use Rattle.pawn_states.specs.declared.fault.StateFault.TheVariants.{Memory}

-- a value where there is no fault
abbrev pub unless_fault : {A : Type 0} → Option StateFault → A → Result A StateFault
unless_fault None value = Ok value
unless_fault (Some fault) value = Err fault

-- the dispatch of a function's clauses
abbrev pub classified : List Clause → Result Dispatch StateFault
classified clauses = unless_fault (first_fault [] clauses) (dispatch_of clauses)

-- an answer is this one. Want of memory is free
abbrev pub Gives : {A : Type 0} → Result A StateFault → Result A StateFault → Type 0
Gives wanted (Ok value) = wanted ≡ Ok value
Gives wanted (Err (Twice clause)) = wanted ≡ Err (Twice clause)
Gives wanted (Err (FallbackTwice clause)) = wanted ≡ Err (FallbackTwice clause)
Gives wanted (Err (Mixed clause)) = wanted ≡ Err (Mixed clause)
Gives wanted (Err Memory) = Unit {0}
