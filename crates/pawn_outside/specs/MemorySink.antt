-- The fake sink: the bytes taken, the room and a schedule, and what each write leaves of them.
use Rattle.std.specs.Prelude.{◌≡◌, ◌<◌, ◌≤◌, ◌+◌, ◌++◌, ◌⊎◌, ℕ, List, [], length}
use Rattle.pawn_outside.specs.declared.schedule.Schedule.{Schedule}
use Rattle.pawn_outside.specs.declared.sink.WriteAnswer.{WriteAnswer}
use Rattle.pawn_outside.specs.declared.sink.WriteAnswer.TheVariants.{Taken, Failed}
use Rattle.pawn_outside.specs.Schedule.{FailsNext, called, faulted}

-- the bytes taken, the room, and which writes fail
pub record FakeSink : Type 0 where
  pub taken : List ℕ
  pub room : ℕ
  pub schedule : Schedule

-- no write fails before so many more bytes are taken
abbrev pub HasRoom : FakeSink → ℕ → Type 0
HasRoom sink count = (sink.schedule.fails ≡ []) × (length sink.taken + count ≤ sink.room)

-- a write that is listed or doesn't fit is a fault, and takes nothing
abbrev pub IsAfterWrite : FakeSink → List ℕ → WriteAnswer → FakeSink → Type 0
IsAfterWrite old bytes Taken new =
    (¬ FailsNext old.schedule) × (length old.taken + length bytes ≤ old.room)
    × (new ≡ record old { taken = old.taken ++ bytes; schedule = called old.schedule })
IsAfterWrite old bytes Failed new =
    (FailsNext old.schedule ⊎ (old.room < length old.taken + length bytes))
    × (new ≡ record old { schedule = faulted (called old.schedule) })
