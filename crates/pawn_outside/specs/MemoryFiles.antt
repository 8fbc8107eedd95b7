-- The fake files: a map that is held and a schedule, and what each call leaves of them.
use Rattle.std.specs.Prelude.{◌≡◌, ℕ, List, refl}
use Rattle.std.specs.Coded.{Coded, code_by, coded×, coded_list, coded_ℕ}
use Rattle.std.specs.FinMap.{code, insert}
use Rattle.pawn_outside.specs.declared.schedule.Schedule.{Schedule}
use Rattle.pawn_outside.specs.declared.files.ReadAnswer.{ReadAnswer}
use Rattle.pawn_outside.specs.declared.files.ReadAnswer.TheVariants as read
use Rattle.pawn_outside.specs.declared.files.PutAnswer.{PutAnswer}
use Rattle.pawn_outside.specs.declared.files.PutAnswer.TheVariants as put
use Rattle.pawn_outside.specs.Held.{Held}
use Rattle.pawn_outside.specs.Schedule.{FailsNext, called, faulted}

-- what is held, and which calls fail
pub record FakeFiles : Type 0 where
  pub held : Held
  pub schedule : Schedule

-- by its code a proof tells two such values apart
abbrev pub fake_files_code : Coded FakeFiles
fake_files_code =
    let names = coded_list coded_ℕ in
    let schedules = coded× names (coded× coded_ℕ coded_ℕ) in
    code_by (Held × (List ℕ × (ℕ × ℕ))) (coded× (code names names) schedules)
    (λ f. (f.held, (f.schedule.fails, (f.schedule.calls, f.schedule.faults))))
    (λ p. record {
      held = p.0;
      schedule = record { fails = p.1.0; calls = p.1.1.0; faults = p.1.1.1 };
    })
    (λ _. refl)

-- the name holds these bytes
abbrev pub with_held : FakeFiles → List ℕ → List ℕ → FakeFiles
with_held files name bytes = record files { held = insert files.held name bytes }

-- a call that isn't listed, and changed nothing but the count of calls
abbrev pub IsAfterCall : FakeFiles → FakeFiles → Type 0
IsAfterCall old new =
    (¬ FailsNext old.schedule) × (new ≡ record old { schedule = called old.schedule })

-- a listed call, which changed nothing but the counts
abbrev pub IsAfterFault : FakeFiles → FakeFiles → Type 0
IsAfterFault old new =
    FailsNext old.schedule × (new ≡ record old { schedule = faulted (called old.schedule) })

-- what a read leaves, by its answer
abbrev pub IsAfterRead : FakeFiles → ReadAnswer → FakeFiles → Type 0
IsAfterRead old (read.Got bytes) new = IsAfterCall old new
IsAfterRead old read.Missing new = IsAfterCall old new
IsAfterRead old read.TooLarge new = IsAfterCall old new
IsAfterRead old read.Failed new = IsAfterFault old new
IsAfterRead old read.Memory new = IsAfterCall old new

-- what a put leaves, by its answer
abbrev pub IsAfterPut : FakeFiles → List ℕ → List ℕ → PutAnswer → FakeFiles → Type 0
IsAfterPut old name bytes put.Kept new = IsAfterCall (with_held old name bytes) new
IsAfterPut old name bytes put.Failed new = IsAfterFault old new
IsAfterPut old name bytes put.Memory new = IsAfterCall old new
