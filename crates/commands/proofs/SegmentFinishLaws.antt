-- A trace that is told ends the command: at a sleep with its image behind it, or else at once.
use Rattle.std.proofs.Common.{◌≡◌, ◌≢◌, ◌∙◌, ℕ, List, Option, Ok, Err, refl, sym, ap, subst}
use Rattle.pawn_outside.specs.Held.{Held}
use Rattle.host_script.specs.declared.event.End.{End}
use Rattle.amx_ops.specs.Moves.{Config}
use Rattle.amx_ops.specs.Runs.{Stop, Steps, Asleep, Over_by, Traced}
use Rattle.amx_image.specs.declared.version.Version.TheVariants.{Live}
use Rattle.amx_image.specs.Image.{IsImage}
use Rattle.command_parts.specs.declared.status.Status.{Status}
use Rattle.command_parts.specs.declared.status.Status.TheVariants as status
use Rattle.command_parts.specs.Told.{Told, Says, Writes, status_told}
use Rattle.commands.specs.Finishes.{Finishes, cut_off, ended, asleep, Keeps, run_text}
use Rattle.commands.specs.Finishes.{status_of_stop}
use Rattle.commands.specs.Played.{TellsTrace}
use Rattle.commands.proofs.FallLaws.{end_awake}

-- only a sleep that was told has its status
asleep_by : (told : Told) (stop : Stop End) → status.Asleep ≡ status_told (status_of_stop stop) told
    → stop ≡ Asleep
asleep_by (Ok done) Steps e = absurd (cc e)
asleep_by (Ok done) Asleep e = refl
asleep_by (Ok done) (Over_by x) e = absurd (end_awake x (sym e))
asleep_by (Err fault) stop e = absurd (cc e)

pub ended_awake : (told : Told) → status_told status.Ended told ≢ status.Asleep
ended_awake (Ok done) = λ e. absurd (cc e)
ended_awake (Err fault) = λ e. absurd (cc e)

module _ {S : Type 0} (tells : Says S) (t : Traced Config End) where
  -- it stopped asleep
  pub stops_asleep : {old new : S} → TellsTrace t tells old new status.Asleep → t.stop ≡ Asleep
  stops_asleep it = asleep_by it.told t.stop it.is

  module _ {old new : S} where
    whole_by : (told : Told) → status.Asleep ≡ status_told (status_of_stop t.stop) told
        → tells old new (run_text t.config t.stop) told
        → tells old new (run_text t.config t.stop) (Ok tt)
    whole_by (Ok done) e written = written
    whole_by (Err fault) e written = absurd (cc e)

    -- and its text was written whole
    pub wrote_asleep : TellsTrace t tells old new status.Asleep
        → tells old new (run_text t.config t.stop) (Ok tt)
    wrote_asleep it = whole_by it.told it.is it.written

module _ {S : Type 0} (tells : Says S) (writes : Writes S) (held after : Option Held)
    (image digest : List ℕ) (t : Traced Config End) where
  abbrev IsFinish : S → S → Status → Type 0
  IsFinish old new answer =
      Finishes tells writes held after image digest t.stop t.config old new answer

  ends_by : {old new : S} (told : Told) (answer : Status)
      → tells old new (run_text t.config t.stop) told
      → answer ≡ status_told (status_of_stop t.stop) told → answer ≢ status.Asleep
      → after ≡ held → IsFinish old new answer
  ends_by {old} {new} (Ok done) answer written is other kept =
      subst (IsFinish old new) (sym is)
      (ended (λ e. other (is ∙ ap status_of_stop e)) written kept)
  ends_by {old} {new} (Err fault) answer written is other kept =
      subst (IsFinish old new) (sym is) (cut_off fault written kept)

  -- any status but that of a sleep
  pub ends : {old new : S} (answer : Status) → TellsTrace t tells old new answer
      → answer ≢ status.Asleep → after ≡ held → IsFinish old new answer
  ends answer it other kept = ends_by it.told answer it.written it.is other kept

  -- or a sleep, behind which the image is kept or not
  pub sleeps : {old mid new : S} (bytes : List ℕ) (answer : Status)
      → TellsTrace t tells old mid status.Asleep
      → IsImage Live t.config.state t.config.position digest bytes
      → Keeps writes held after image bytes mid new answer → IsFinish old new answer
  sleeps {old} {mid} bytes answer it saved keeps =
      asleep mid bytes answer (stops_asleep tells t it) (wrote_asleep tells t it) saved keeps
