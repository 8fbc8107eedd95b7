-- A command that answers that it fell asleep has put its image; and one that no fault stopped has
-- written its whole text.
use Rattle.std.proofs.Common.{◌≡◌, ◌≢◌, ℕ, List, Option, Ok, Err, refl, sym, ap, subst}
use Rattle.pawn_outside.specs.Held.{Held, with_put}
use Rattle.host_script.specs.declared.event.End.{End}
use Rattle.host_script.specs.declared.event.End.TheVariants as end
use Rattle.amx_ops.specs.Moves.{Config}
use Rattle.amx_ops.specs.Runs.{Stop, Steps, Asleep, Over_by}
use Rattle.amx_image.specs.declared.version.Version.TheVariants.{Live}
use Rattle.amx_image.specs.Image.{IsImage}
use Rattle.command_parts.specs.declared.status.Status.{Status}
use Rattle.command_parts.specs.declared.status.Status.TheVariants as status
use Rattle.command_parts.specs.declared.stop.Stop.{Stop as Cause}
use Rattle.command_parts.specs.declared.stop.Stop.TheVariants as cause
use Rattle.command_parts.specs.Put.{NotPut}
use Rattle.command_parts.specs.Put as puts
use Rattle.command_parts.specs.Stop.{status_of}
use Rattle.command_parts.specs.Told.{Told, Says, Writes, TellsStop, status_told}
use Rattle.commands.specs.Finishes.{Finishes, cut_off, ended, asleep, Keeps, kept, unkept, run_text}
use Rattle.commands.specs.Finishes.{status_of_end, status_of_stop}
use Rattle.commands.specs.Good as good
use Rattle.commands.specs.Good.{IsFree}
use Rattle.commands.specs.Runs.{IsStopped}
use Rattle.commands.specs.Unfailing.{IsUnfailing}

-- ---- the statuses of stops

-- whether a stop has the status
abbrev has_stop : Status → Type 0
has_stop status.Ok = ⊥
has_stop status.Refused = Unit {0}
has_stop status.BadWords = Unit {0}
has_stop status.NoFile = Unit {0}
has_stop status.TooLarge = Unit {0}
has_stop status.FileFault = Unit {0}
has_stop status.SinkFault = Unit {0}
has_stop status.Invalid = Unit {0}
has_stop status.BadScript = Unit {0}
has_stop status.BadImage = ⊥
has_stop status.NoEntry = Unit {0}
has_stop status.Unregistered = Unit {0}
has_stop status.Ended = ⊥
has_stop status.Steps = ⊥
has_stop status.Asleep = ⊥
has_stop status.NoMemory = Unit {0}
has_stop status.BadPlan = Unit {0}

stop_has : (stop : Cause) → has_stop (status_of stop)
stop_has (cause.Refused kind file line) = tt
stop_has cause.BadWords = tt
stop_has (cause.NoFile name) = tt
stop_has (cause.TooLarge name) = tt
stop_has cause.FileFault = tt
stop_has (cause.Invalid kind) = tt
stop_has (cause.InvalidAt kind at) = tt
stop_has cause.NoScript = tt
stop_has (cause.BadScript kind field) = tt
stop_has (cause.NoEntry name) = tt
stop_has (cause.Unregistered name) = tt
stop_has cause.NoMemory = tt
stop_has (cause.BadPlan line) = tt

told_has : (stop : Cause) (told : Told) → has_stop (status_told (status_of stop) told)
told_has stop (Ok done) = stop_has stop
told_has stop (Err fault) = tt

-- a stop is told by none of the others
not_told : {S : Type 0} {writes : Writes S} {old new : S} {answer : Status} (stop : Cause)
    → TellsStop stop writes old new answer → has_stop answer
not_told stop tells = subst has_stop (sym tells.line.is) (told_has stop tells.line.told)

pub stop_not_ok : {S : Type 0} {writes : Writes S} {old new : S} (stop : Cause)
    → TellsStop stop writes old new status.Ok → ⊥
stop_not_ok stop tells = not_told stop tells

pub stop_not_asleep : {S : Type 0} {writes : Writes S} {old new : S} (stop : Cause)
    → TellsStop stop writes old new status.Asleep → ⊥
stop_not_asleep stop tells = not_told stop tells

-- ---- no fault

free_by : (stop : Cause) (told : Told) → IsFree stop
    → IsUnfailing (status_told (status_of stop) told) → ⊥
free_by stop (Ok done) good.file_fault none = none.files refl
free_by stop (Err fault) good.file_fault none = none.sink refl
free_by stop (Ok done) good.no_memory none = none.memory refl
free_by stop (Err fault) good.no_memory none = none.sink refl

pub not_free : {S : Type 0} {writes : Writes S} {held after : Option Held} {old new : S}
    {answer : Status} → IsStopped writes IsFree held after old new answer → IsUnfailing answer → ⊥
not_free it none =
    free_by it.stop it.tells.line.told it.comes (subst IsUnfailing it.tells.line.is none)

not_put_free : {held after : Option Held} {name : List ℕ} {stop : Cause}
    → NotPut held after name stop → IsFree stop
not_put_free (puts.failed same) = good.file_fault
not_put_free (puts.no_memory same) = good.no_memory

-- ---- how a command ends

pub end_awake : (e : End) → status_of_end e ≢ status.Asleep
end_awake (end.Done value) = λ e. absurd (cc e)
end_awake (end.Exit value tag) = λ e. absurd (cc e)
end_awake (end.Error code) = λ e. absurd (cc e)
end_awake end.Stray = λ e. absurd (cc e)

awake : (stop : Stop End) → stop ≢ Asleep → status_of_stop stop ≡ status.Asleep → ⊥
awake Steps other e = absurd (cc e)
awake Asleep other e = other refl
awake (Over_by x) other e = end_awake x e

-- it fell asleep, and its image is put
pub record Fell (held after : Option Held) (image digest : List ℕ) (stop : Stop End)
    (c : Config) : Type 0 where
  pub is_asleep : stop ≡ Asleep
  pub bytes : List ℕ
  pub saved : IsImage Live c.state c.position digest bytes
  pub put : after ≡ with_put held image bytes

by_kept : {S : Type 0} {writes : Writes S} {held after : Option Held} {image digest : List ℕ}
    {stop : Stop End} {c : Config} {mid new : S} {bytes : List ℕ} {answer : Status}
    → stop ≡ Asleep → IsImage Live c.state c.position digest bytes → answer ≡ status.Asleep
    → Keeps writes held after image bytes mid new answer
    → Fell held after image digest stop c
by_kept {S} {writes} {held} {after} {image} {digest} {stop} {c} {mid} {new} {bytes} is saved e
    (kept put same) =
    record { is_asleep = is; bytes = bytes; saved = saved; put = put }
by_kept is saved e (unkept cause answer none tells) =
    absurd (subst has_stop e (not_told cause tells))

fell_by : {S : Type 0} {tells : Says S} {writes : Writes S} {held after : Option Held}
    {image digest : List ℕ} {stop : Stop End} {c : Config} {old new : S} {answer : Status}
    → answer ≡ status.Asleep
    → Finishes tells writes held after image digest stop c old new answer
    → Fell held after image digest stop c
fell_by e (cut_off fault wrote same) = absurd (cc e)
fell_by {S} {tells} {writes} {held} {after} {image} {digest} {stop} e (ended other wrote same) =
    absurd (awake stop other e)
fell_by e (asleep mid bytes answer is wrote saved keeps) = by_kept is saved e keeps

pub fell : {S : Type 0} {tells : Says S} {writes : Writes S} {held after : Option Held}
    {image digest : List ℕ} {stop : Stop End} {c : Config} {old new : S}
    → Finishes tells writes held after image digest stop c old new status.Asleep
    → Fell held after image digest stop c
fell it = fell_by refl it

-- a text is written whole, and the status is that of the stop
pub record WroteAll {S : Type 0} (says : Says S) (stop : Stop End) (c : Config) (old new : S)
    (answer : Status) : Type 0 where
  pub text : says old new (run_text c stop) (Ok tt)
  pub answer_is : answer ≡ status_of_stop stop

whole_kept : {S : Type 0} {tells : Says S} {writes : Writes S} {held after : Option Held}
    {image : List ℕ} {stop : Stop End} {c : Config} {old mid new : S} {bytes : List ℕ}
    {answer : Status}
    → stop ≡ Asleep → tells old mid (run_text c stop) (Ok tt)
    → Keeps writes held after image bytes mid new answer → IsUnfailing answer
    → WroteAll tells stop c old new answer
whole_kept {S} {tells} {writes} {held} {after} {image} {stop} {c} {old} is wrote (kept put same)
    none =
    let P : S → Type 0 = λ s. tells old s (run_text c stop) (Ok tt) in
    record { text = subst P (sym same) wrote; answer_is = sym (ap status_of_stop is) }
whole_kept is wrote (unkept cause answer other tells) none =
    absurd (free_by cause tells.line.told (not_put_free other)
    (subst IsUnfailing tells.line.is none))

pub wrote_all : {S : Type 0} {tells : Says S} {writes : Writes S} {held after : Option Held}
    {image digest : List ℕ} {stop : Stop End} {c : Config} {old new : S} {answer : Status}
    → Finishes tells writes held after image digest stop c old new answer → IsUnfailing answer
    → WroteAll tells stop c old new answer
wrote_all (cut_off fault wrote same) none = absurd (none.sink refl)
wrote_all (ended other wrote same) none = record { text = wrote; answer_is = refl }
wrote_all (asleep mid bytes answer is wrote saved keeps) none = whole_kept is wrote keeps none
