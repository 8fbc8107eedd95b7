-- The count of faults over a call that goes on by what another answered.
use Rattle.std.proofs.Common.{◌≡◌, ◌≢◌, ◌∙◌, ◌⊎◌, inl, inr, ℕ, Option, Result, Ok, Err, refl, sym}
use Rattle.std.proofs.Common.{ap}
use Rattle.pawn_outside.specs.Held.{Held}
use Rattle.pawn_outside.specs.Rose.{risen}
use Rattle.pawn_outside.specs.OnlyRead.{OnlyRead}
use Rattle.command_parts.specs.declared.status.Status.{Status}
use Rattle.command_parts.specs.declared.status.Status.TheVariants as status
use Rattle.command_parts.specs.declared.stop.Stop.{Stop}
use Rattle.command_parts.specs.declared.stop.Stop.TheVariants.{Refused, BadWords, NoFile, TooLarge}
use Rattle.command_parts.specs.declared.stop.Stop.TheVariants.{FileFault, Invalid}
use Rattle.command_parts.specs.declared.stop.Stop.TheVariants.{InvalidAt, NoScript}
use Rattle.command_parts.specs.declared.stop.Stop.TheVariants.{BadScript, NoEntry, Unregistered}
use Rattle.command_parts.specs.declared.stop.Stop.TheVariants.{NoMemory, BadPlan}
use Rattle.command_parts.specs.Stop.{status_of}
use Rattle.command_parts.specs.Calls.{Calls, CommandCalls}
use Rattle.command_parts.specs.Told.{Told, Says, status_told, TellsLine}

-- the status of a fault of files comes from no other stop
fault_of : (stop : Stop) → status_of stop ≡ status.FileFault → stop ≡ FileFault
fault_of (Refused kind file line) e = absurd (cc e)
fault_of BadWords e = absurd (cc e)
fault_of (NoFile name) e = absurd (cc e)
fault_of (TooLarge name) e = absurd (cc e)
fault_of FileFault e = refl
fault_of (Invalid kind) e = absurd (cc e)
fault_of (InvalidAt kind at) e = absurd (cc e)
fault_of NoScript e = absurd (cc e)
fault_of (BadScript kind field) e = absurd (cc e)
fault_of (NoEntry name) e = absurd (cc e)
fault_of (Unregistered name) e = absurd (cc e)
fault_of NoMemory e = absurd (cc e)
fault_of (BadPlan line) e = absurd (cc e)

fault_only : (stop : Stop) (told : Told) → status_told (status_of stop) told ≡ status.FileFault
    → stop ≡ FileFault
fault_only stop (Ok done) e = fault_of stop e
fault_only stop (Err fault) e = absurd (cc e)

pub told_other : (s : Status) (told : Told) → s ≢ status.FileFault
    → status_told s told ≢ status.FileFault
told_other s (Ok done) ne = ne
told_other s (Err fault) ne = λ e. absurd (cc e)

-- a stop is a fault of files or not
stop_is : (stop : Stop) → (stop ≡ FileFault) ⊎ (stop ≢ FileFault)
stop_is (Refused kind file line) = inr (λ e. absurd (cc e))
stop_is BadWords = inr (λ e. absurd (cc e))
stop_is (NoFile name) = inr (λ e. absurd (cc e))
stop_is (TooLarge name) = inr (λ e. absurd (cc e))
stop_is FileFault = inl refl
stop_is (Invalid kind) = inr (λ e. absurd (cc e))
stop_is (InvalidAt kind at) = inr (λ e. absurd (cc e))
stop_is NoScript = inr (λ e. absurd (cc e))
stop_is (BadScript kind field) = inr (λ e. absurd (cc e))
stop_is (NoEntry name) = inr (λ e. absurd (cc e))
stop_is (Unregistered name) = inr (λ e. absurd (cc e))
stop_is NoMemory = inr (λ e. absurd (cc e))
stop_is (BadPlan line) = inr (λ e. absurd (cc e))

-- where the files failed, the status says it, or the sink failed too
told_either : (told : Told) (answer : Status) → answer ≡ status_told status.FileFault told
    → answer ≢ status.FileFault → answer ≢ status.SinkFault → ⊥
told_either (Ok done) answer is a b = a is
told_either (Err fault) answer is a b = b is

-- one fault at most, from where none was counted
once_from : {a b c : ℕ} → b ≡ a → (c ≡ b) ⊎ (c ≡ risen b) → (c ≡ a) ⊎ (c ≡ risen a)
once_from e (inl f) = inl (f ∙ e)
once_from e (inr f) = inr (f ∙ ap risen e)

module _ {F : Type 0} {held : F → Option Held} {faults : F → ℕ} {never_fails : F → Type 0}
    {old new : F} where
  pub only_calls : {Fails : Type 0} → OnlyRead held faults never_fails old new Fails
      → Calls faults never_fails old new Fails
  only_calls it = record { steady = it.steady; cause = it.cause; unfailing = it.unfailing }

module _ {F : Type 0} {faults : F → ℕ} {never_fails : F → Type 0} {old new : F} where
  -- a call that was good counts none
  pub no_fault : {T E : Type 0} {t : T} {fault : E}
      → Calls faults never_fails old new (Ok t ≡ Err fault) → faults new ≡ faults old
  no_fault it = it.steady (λ e. absurd (cc e))

  -- a command behind a call that was good
  pub calls_then : {last : F} {T E : Type 0} {t : T} {fault : E} {answer : Status}
      → Calls faults never_fails old new (Ok t ≡ Err fault)
      → CommandCalls faults never_fails new last answer
      → CommandCalls faults never_fails old last answer
  calls_then first second = record {
    steady = λ a b. second.steady a b ∙ no_fault first;
    once = once_from (no_fault first) second.once;
    cause = λ fails. second.cause fails ∙ ap risen (no_fault first);
    unfailing = λ never. second.unfailing (first.unfailing never).0;
  }

  -- the answer behind a call that was good, which is no fault of the files
  pub calls_other : {T E : Type 0} {t : T} {fault : E} {answer : Status}
      → (answer ≡ status.FileFault → ⊥)
      → Calls faults never_fails old new (Ok t ≡ Err fault)
      → CommandCalls faults never_fails old new answer
  calls_other never it = record {
    steady = λ a b. no_fault it;
    once = inl (no_fault it);
    cause = λ fails. absurd (never fails);
    unfailing = λ whole. ((it.unfailing whole).0, never);
  }

  module _ {T S : Type 0} {result : Result T Stop} {says : Says S} {before behind : S}
      (stop : Stop) (answer : Status)
      (it : Calls faults never_fails old new (result ≡ Err FileFault)) (is : result ≡ Err stop)
      (tells : TellsLine stop says before behind answer) where
    told_fault : answer ≡ status.FileFault → stop ≡ FileFault
    told_fault e = fault_only stop tells.told (sym tells.is ∙ e)

    unfailing_told : never_fails old → never_fails new × (answer ≢ status.FileFault)
    unfailing_told never =
        ((it.unfailing never).0, λ e. (it.unfailing never).1 (is ∙ ap Err (told_fault e)))

    by_stop : (stop ≡ FileFault) ⊎ (stop ≢ FileFault)
        → CommandCalls faults never_fails old new answer
    by_stop (inl e) =
        let rose : faults new ≡ risen (faults old) = it.cause (is ∙ ap Err e) in record {
          steady =
              λ a b. absurd (told_either tells.told answer
              (tells.is ∙ ap (λ s. status_told (status_of s) tells.told) e) a b);
          once = inr rose;
          cause = λ fails. rose;
          unfailing = unfailing_told;
        }
    by_stop (inr ne) =
        let same : faults new ≡ faults old = it.steady (λ e. ne (cc (is, e))) in record {
          steady = λ a b. same;
          once = inl same;
          cause = λ e. absurd (ne (told_fault e));
          unfailing = unfailing_told;
        }

    -- a stop was told
    pub calls_stopped : CommandCalls faults never_fails old new answer
    calls_stopped = by_stop (stop_is stop)

  -- or something else
  pub calls_done : {T E : Type 0} {t : T} {fault : E} (s answer : Status) (told : Told)
      → s ≢ status.FileFault → answer ≡ status_told s told
      → Calls faults never_fails old new (Ok t ≡ Err fault)
      → CommandCalls faults never_fails old new answer
  calls_done s answer told ne is it = calls_other (λ e. told_other s told ne (sym is ∙ e)) it

-- the files weren't called
pub calls_nothing : {F : Type 0} {faults : F → ℕ} {never_fails : F → Type 0} {answer : Status}
    (files : F) → (answer ≡ status.FileFault → ⊥)
    → CommandCalls faults never_fails files files answer
calls_nothing files never = record {
  steady = λ a b. refl;
  once = inl refl;
  cause = λ fails. absurd (never fails);
  unfailing = λ whole. (whole, never);
}

-- nor does a stop that is no fault of theirs tell one
pub stop_no_fault : {S : Type 0} {says : Says S} {old new : S} (stop : Stop) (answer : Status)
    → stop ≢ FileFault → TellsLine stop says old new answer
    → answer ≢ status.FileFault
stop_no_fault stop answer ne tells = λ e. ne (fault_only stop tells.told (sym tells.is ∙ e))

-- one call, by another answer, which is a fault where this one is and nowhere else
pub calls_by : {F : Type 0} {faults : F → ℕ} {never_fails : F → Type 0} {old new : F}
    {First Fails : Type 0}
    → ((First → ⊥) → faults new ≡ faults old) → (First → faults new ≡ risen (faults old))
    → (never_fails old → never_fails new × (First → ⊥))
    → (Fails → First) → (First → Fails) → Calls faults never_fails old new Fails
calls_by steady cause unfailing f back = record {
  steady = λ none. steady (λ first. none (back first));
  cause = λ fails. cause (f fails);
  unfailing = λ never. ((unfailing never).0, λ fails. (unfailing never).1 (f fails));
}
