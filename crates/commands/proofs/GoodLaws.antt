-- What is good isn't refused, and is no other program.
use Rattle.std.proofs.Common.{◌≡◌, ◌≢◌, ◌<◌, ◌∙◌, ℕ, ℤ, List, Some, Err, length}
use Rattle.std.proofs.Common.{refl, sym, ap, subst, inl, inr, arith}
use Rattle.std.specs.Prelude.{IsSomeAnd}
use Rattle.pawn_outside.specs.Held.{Held}
use Rattle.host_script.specs.declared.script.Script.{Script}
use Rattle.amx_ops.specs.declared.amx.Amx.{Amx}
use Rattle.amx_format.proofs.Determines.{file_determines}
use Rattle.serde_json.specs.Data.{Data}
use Rattle.script_reader.specs.declared.fault.ScriptFault.{ScriptFault}
use Rattle.script_reader.specs.declared.fault.ScriptFault.TheVariants.{Json, Shape, Range, Memory}
use Rattle.script_reader.specs.Reading.{IsJson, ReadsScript, script_rule}
use Rattle.script_reader.specs.Verdict.{Verdict, Stands, Causes}
use Rattle.command_parts.specs.declared.stop.Stop.{Stop}
use Rattle.command_parts.specs.declared.read.TheConstants.{FILE_LIMIT}
use Rattle.command_parts.specs.Unread.{IsRead, Unread, missing, too_large, failed, no_memory}
use Rattle.command_parts.specs.ValidFile.{IsValidFile, Broken, NoFile}
use Rattle.command_parts.specs.declared.program.Program.{Program}
use Rattle.commands.specs.Good as good
use Rattle.commands.specs.Good.{IsFree, GoodFilesAreRead, GoodProgramsStart}
use Rattle.command_parts.specs.Program.{IsProgram, IsDigested, NoProgram}
use Rattle.command_parts.specs.Program as program
use Rattle.command_parts.specs.ScriptFile.{IsScriptOf, IsNoScript}
use Rattle.host_run.specs.Entry.{address_named}
use Rattle.commands.specs.Prepared.{IsServed, NoStart, no_entry, no_native, wants_memory}
use Rattle.commands.specs.Served.{unregistered}
use Rattle.commands.specs.Served as natives
use Rattle.commands.proofs.MadeLaws.{not_broken}

-- ---- bytes that are a script have no fault

module _ (bytes : List ℕ) (script : Script) (ok : IsScriptOf bytes script) where
  same_data : (d : Data) → IsJson bytes d → script_rule d ≡ Stands script
  same_data d it =
      let same : d ≡ ok.0 = cc (it.reads, ok.1.0.reads) in
      ap script_rule same ∙ ok.1.1

  no_cause : (d : Data) (fault : ScriptFault) → IsJson bytes d → Causes (script_rule d) fault
      → Causes (Stands script) fault
  no_cause d fault it cause = subst (λ (v : Verdict Script). Causes v fault) (same_data d it) cause

  pub faultless : (fault : ScriptFault) → ReadsScript bytes (Err fault) → fault ≢ Memory → ⊥
  faultless Json none refused = none ok.0 ok.1.0
  faultless (Shape field) none refused =
      let it = no_cause none.0 (Shape field) none.1.0 none.1.1.cause in absurd (omega (arith, it.1))
  faultless (Range field) none refused =
      let it = no_cause none.0 (Range field) none.1.0 none.1.1.cause in absurd (omega (arith, it.1))
  faultless Memory none refused = absurd (refused refl)

-- and are no other script
pub same_script : (bytes : List ℕ) (script other : Script) → IsScriptOf bytes script
    → IsScriptOf bytes other → other ≡ script
same_script bytes script other is that =
    let stands = same_data bytes script is that.0 that.1.0 in cc (stands, that.1.1)

-- ---- files that tell what they hold

module _ (map : Held) where
  pub same_bytes : {limit : ℕ} {P Q : List ℕ → Type 0} (name : List ℕ)
      (a : IsRead (Some map) name limit P) (b : IsRead (Some map) name limit Q) → b.bytes ≡ a.bytes
  same_bytes name a b = cc (a.tells, b.tells)

  pub read_free : {P : List ℕ → Type 0} (name : List ℕ) (limit : ℕ) (stop : Stop)
      → IsRead (Some map) name limit P → Unread (Some map) name limit stop → IsFree stop
  read_free name limit stop it (missing tells) = absurd (cc (it.tells, tells))
  read_free name limit stop it (too_large holds) =
      let Q : List ℕ → Type 0 = λ bytes. limit < length bytes in
      let more : limit < length it.bytes = subst (λ o. IsSomeAnd o Q) it.tells holds in
      absurd (omega (arith, more, it.within))
  read_free name limit stop it failed = good.file_fault
  read_free name limit stop it no_memory = good.no_memory

  one_file : (name : List ℕ) (amx : Amx) (stop : Stop)
      → IsRead (Some map) name FILE_LIMIT (λ bytes. IsValidFile bytes amx)
      → NoFile (Some map) name stop → IsFree stop
  one_file name amx stop is (inl unread) = read_free name _ stop is unread
  one_file name amx stop is (inr broken) =
      let P : List ℕ → Type 0 = λ b. Broken b stop in
      absurd (not_broken amx is.is (subst P (same_bytes name is broken) broken.is))

  pub files : (amx script : List ℕ) (it : Program) (stop : Stop)
      → IsProgram (Some map) amx script it → NoProgram (Some map) amx script stop → IsFree stop
  files amx script it stop is (program.no_file (inl unread)) = read_free amx _ stop is.file unread
  files amx script it stop is (program.no_file (inr broken)) =
      let P : List ℕ → Type 0 = λ b. Broken b stop in
      absurd (not_broken it.file is.file.is.valid
      (subst P (same_bytes amx is.file broken) broken.is))
  files amx script it stop is (program.no_script file digest fine (inl unread)) =
      read_free script _ stop is.natives unread
  files amx script it stop is (program.no_script file digest fine (inr none)) =
      let P : List ℕ → Type 0 = λ b. IsNoScript b stop in
      let at = subst P (same_bytes script is.natives none) none.is in
      absurd (faultless is.natives.bytes it.script is.natives.is at.fault at.has at.refused)

  pub same : (amx script : List ℕ) (it other : Program) → IsProgram (Some map) amx script it
      → IsProgram (Some map) amx script other → other ≡ it
  same amx script it other is that =
      let P : List ℕ → Type 0 = λ b. IsDigested b other.file other.digest in
      let Q : List ℕ → Type 0 = λ b. IsScriptOf b other.script in
      let digested = subst P (same_bytes amx is.file that.file) that.file.is in
      let script_is = subst Q (same_bytes script is.natives that.natives) that.natives.is in
      let file : other.file ≡ it.file =
      file_determines is.file.bytes other.file it.file digested.valid.file
      is.file.is.valid.file in
      let digest : other.digest ≡ it.digest = digested.digest_is ∙ sym is.file.is.digest_is in
      let natives : other.script ≡ it.script =
      let stands = same_data is.natives.bytes it.script is.natives.is script_is.0 script_is.1.0 in
      cc (stands, script_is.1.1) in
      ap (λ f. record { file = f; digest = other.digest; script = other.script }) file
      ∙ ap (λ d. record { file = it.file; digest = d; script = other.script }) digest
      ∙ ap (λ s. record { file = it.file; digest = it.digest; script = s }) natives

pub good_files : GoodFilesAreRead
good_files = record { file = one_file; read = files; same = same }

-- ---- before a start

pub starts : (it : Program) (entry : List ℕ) (address : ℤ) (stop : Stop)
    → address_named it.file entry ≡ Some address → IsServed it
    → NoStart it entry stop → IsFree stop
starts it entry address stop at served (no_entry none) = absurd (cc (at, none))
starts it entry address stop at served (no_native other cause there (unregistered number first)) =
    absurd (cc (served, first))
starts it entry address stop at served (no_native other cause there natives.no_memory) =
    good.no_memory
starts it entry address stop at served wants_memory = good.no_memory

pub good_programs : GoodProgramsStart
good_programs = starts
