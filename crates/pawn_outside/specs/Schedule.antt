-- The calls of a fake: those whose numbers, counted from 1, a list names are to fail.
use Rattle.std.specs.Prelude.{Contains}
use Rattle.pawn_outside.specs.declared.schedule.Schedule.{Schedule}
use Rattle.pawn_outside.specs.Rose.{risen}

-- the next call is to fail
abbrev pub FailsNext : Schedule → Type 0
FailsNext schedule = Contains schedule.fails (risen schedule.calls)

-- one more call
abbrev pub called : Schedule → Schedule
called schedule = record schedule { calls = risen schedule.calls }

-- one more fault
abbrev pub faulted : Schedule → Schedule
faulted schedule = record schedule { faults = risen schedule.faults }
