-- Which fault is told where one of two parts doesn't stand.
use Rattle.std.specs.Prelude.{Result, Ok, Err}
use Rattle.check_nodes.specs.declared.fault.PartFault.{PartFault}
use Rattle.check_nodes.specs.declared.fault.PartFault.TheVariants.{Source, Fallen, Memory}

-- that of the first, unless it only falls
abbrev pub told : PartFault → PartFault → PartFault
told (Source kind place) second = Source kind place
told Fallen second = second
told Memory second = Memory

-- both parts, or the fault
abbrev pub both_of : {A B : Type 0} → Result A PartFault → Result B PartFault
    → Result (A × B) PartFault
both_of (Ok x) (Ok y) = Ok (x, y)
both_of (Ok x) (Err fault) = Err fault
both_of (Err first) (Ok y) = Err first
both_of (Err first) (Err second) = Err (told first second)
