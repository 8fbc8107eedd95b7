-- Faults of names as code tells them.
use Rattle.std.proofs.Common.{ℕ, List, Ok, Err}
use Rattle.names_rules.specs.FileNames.{FileName, twice_faults}
use Rattle.names_sight.specs.FileTable.{Table}
use Rattle.names_sight.specs.Steps.{IsWhole}
use Rattle.pawn_verdict.specs.Answers.{Fails}
use Rattle.pawn_verdict.specs.declared.fault.CheckFault.{CheckFault}
use Rattle.pawn_verdict.specs.declared.fault.CheckFault.TheVariants.{Source, Memory}
use Rattle.check_functions.specs.Finds.{Finds}

pub none_twice : (tags : List (List ℕ)) (names : List FileName) (table : Table) (x : Unit {0})
    → IsWhole tags names table
    → Finds (twice_faults names) (Ok x)
none_twice tags names table x h = record { told = h.once }

pub some_twice : (names : List FileName) (fault : CheckFault) → Fails (twice_faults names) fault
    → Finds (twice_faults names) (Err fault)
some_twice names (Source kind place) h = record { told = record { cause = h.cause } }
some_twice names Memory h = record { told = record { cause = tt } }

pub ruleset name_faults = (none_twice, some_twice)
