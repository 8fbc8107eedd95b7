-- What is said to a sink is told by a command, beside a count of faults that stays as it is; and a
-- stop is told of the call that it comes from.
use Rattle.std.proofs.Common.{◌≡◌, ◌≢◌, ◌∙◌, ℕ, Result, Ok, Err, refl, ap}
use Rattle.command_parts.specs.declared.status.Status.{Status}
use Rattle.command_parts.specs.declared.stop.Stop.{Stop}
use Rattle.command_parts.specs.declared.stop.Stop.TheVariants.{FileFault}
use Rattle.command_parts.specs.Calls.{Calls}
use Rattle.command_parts.specs.Told.{Says, TellsLine, TellsStop, steadily, with_faults}
use Rattle.command_parts.proofs.FaultCountLaws.{no_fault}

module _ {S : Type 0} {says : Says S} {old new : S} {stop : Stop} {answer : Status} where
  -- a line beside a count
  pub line_steadily : {m n : ℕ} → n ≡ m → TellsLine stop says old new answer
      → TellsLine stop (steadily says) (old, m) (new, n) answer
  line_steadily same it = record { told = it.told; written = (it.written, same); is = it.is }

  -- a stop that is no fault of the files
  pub told_other_stop : {m n : ℕ} → stop ≢ FileFault → n ≡ m → TellsLine stop says old new answer
      → TellsStop stop (with_faults says) (old, m) (new, n) answer
  told_other_stop {m} ne same it = record {
    mid = (old, m);
    cause = λ e. absurd (ne e);
    steady = λ other. refl;
    line = line_steadily same it;
  }

  -- the stop that a call of the files answers
  pub told_stop : {F T : Type 0} {faults : F → ℕ} {never_fails : F → Type 0} {before behind : F}
      {result : Result T Stop}
      → Calls faults never_fails before behind (result ≡ Err FileFault) → result ≡ Err stop
      → TellsLine stop says old new answer
      → TellsStop stop (with_faults says) (old, faults before) (new, faults behind) answer
  told_stop {faults = faults} {behind = behind} it is tells = record {
    mid = (old, faults behind);
    cause = λ e. ap (λ n. (old, n)) (it.cause (is ∙ ap Err e));
    steady = λ ne. ap (λ n. (old, n)) (it.steady (λ e. ne (cc (is, e))));
    line = line_steadily refl tells;
  }

-- behind a call that was good a command is where it was
pub unchanged : {F S T E : Type 0} {faults : F → ℕ} {never_fails : F → Type 0} {before behind : F}
    {t : T} {fault : E} (out : S) → Calls faults never_fails before behind (Ok t ≡ Err fault)
    → ◌≡◌ {A = S × ℕ} (out, faults behind) (out, faults before)
unchanged out it = ap (λ n. (out, n)) (no_fault it)
