-- What is told to a sink is told beside a count of faults that stays as it is.
use Rattle.std.proofs.Common.{◌≡◌, ℕ, Bool, true, false, length}
use Rattle.host_script.specs.declared.script.Script.{Script}
use Rattle.host_script.specs.declared.event.End.{End}
use Rattle.amx_ops.specs.declared.amx.Amx.{Amx}
use Rattle.amx_ops.specs.Moves.{Config}
use Rattle.amx_ops.specs.Runs.{Traced}
use Rattle.amx_image.specs.declared.fault.ImageFault.{ImageFault}
use Rattle.command_parts.specs.declared.command.GoWords.{GoWords}
use Rattle.command_parts.specs.declared.options.TheConstants.{DEFAULT_STEPS}
use Rattle.command_parts.specs.declared.status.Status.{Status}
use Rattle.command_parts.specs.Told.{Says, steadily}
use Rattle.command_parts.proofs.ToldLaws.{line_steadily}
use Rattle.commands.specs.Counted.{before, counts_text, sample_trace}
use Rattle.commands.specs.ImageLine.{TellsImage}
use Rattle.commands.specs.Played.{TellsTrace, trace_of}
use Rattle.commands.specs.RunsFile as file
use Rattle.commands.specs.RunsFile.{RunsFile}
use Rattle.commands.specs.Samples as sample
use Rattle.commands.specs.Samples.{RunsSample}
use Rattle.commands.specs.Used.{used_line, with_used}

module _ {S : Type 0} (says : Says S) {old new : S} {m n : ℕ} (same : n ≡ m) where
  -- the line of bytes that are no image
  pub image_steadily : {f : ImageFault} {answer : Status} → TellsImage f says old new answer
      → TellsImage f (steadily says) (old, m) (new, n) answer
  image_steadily it = record { told = it.told; written = (it.written, same); is = it.is }

  -- the text of a trace
  pub trace_steadily : {t : Traced Config End} {answer : Status} → TellsTrace t says old new answer
      → TellsTrace t (steadily says) (old, m) (new, n) answer
  trace_steadily it = record { told = it.told; written = (it.written, same); is = it.is }

module _ {S : Type 0} (says : Says S) {old new : S} {m n : ℕ} (same : n ≡ m) where
  -- with the line of its steps behind it, or without
  pub used_steadily : {t : Traced Config End} {answer : Status} (count : Bool) (steps : ℕ)
      → TellsTrace t (with_used count steps says) old new answer
      → TellsTrace t (with_used count steps (steadily says)) (old, m) (new, n) answer
  used_steadily false steps it = trace_steadily says same it
  used_steadily true steps it = trace_steadily (before (used_line steps) says) same it

module _ {S : Type 0} (says : Says S) {old new : S} {m n : ℕ} (same : n ≡ m) {answer : Status} where
  -- a file that is run
  pub file_steadily : {amx : Amx} {script : Script} {words : GoWords}
      → RunsFile says amx script words old new answer
      → RunsFile (steadily says) amx script words (old, m) (new, n) answer
  file_steadily (file.stopped stop none tells) =
      file.stopped stop none (line_steadily same tells)
  file_steadily {amx} {script} {words} (file.ran main served tells) =
      file.ran main served
      (used_steadily says same words.count (trace_of amx script words.steps words.sleeps).steps
      tells)

  -- and the file of a sample
  pub sample_steadily : {amx : Amx} → RunsSample says amx old new answer
      → RunsSample (steadily says) amx (old, m) (new, n) answer
  sample_steadily (sample.stopped stop none tells) =
      sample.stopped stop none (line_steadily same tells)
  sample_steadily {amx} (sample.ran main tells) =
      let counts = counts_text (length amx.code) (sample_trace amx DEFAULT_STEPS).steps in
      sample.ran main (trace_steadily (before counts says) same tells)
