-- What `program` and `compile` answer, by what the preprocessor does, and what the layers behind it
-- do.
use Rattle.std.proofs.Common.{◌≡◌, ◌∙◌, ℕ, List, Option, Some, Result, Ok, Err, refl, sym, ap}
use Rattle.std.proofs.Common.{subst}
use Rattle.pawn_cells.specs.declared.place.Place.{Place}
use Rattle.pawn_outside.specs.Held.{Held}
use Rattle.pawn_outside.specs.OnlyRead.{OnlyRead}
use Rattle.pawn_pre.specs.declared.fault.PreFault.{PreFault}
use Rattle.pawn_pre.specs.declared.fault.PreFault.TheVariants as pre
use Rattle.pawn_pre.specs.declared.line.Lines.{Lines}
use Rattle.pawn_pre.specs.Answers.{Answers}
use Rattle.pawn_pre.specs.Outcome.{Whole}
use Rattle.amx_format.specs.declared.encoding.Encoding.{Encoding}
use Rattle.pawn_meaning.specs.Program.{Program}
use Rattle.pawn_meaning.specs.View.{program_view}
use Rattle.pawn_front.specs.declared.compiled.Compiled.{Compiled}
use Rattle.pawn_front.specs.declared.compiled.Warning.{Warning}
use Rattle.pawn_front.specs.declared.sourced.Sourced.{Sourced}
use Rattle.pawn_front.specs.declared.fault.CompileFault.{CompileFault}
use Rattle.pawn_front.specs.declared.fault.CompileFault.TheVariants as compile
use Rattle.pawn_front.specs.Checks.{fault_of, Refuses, RefusesLines}
use Rattle.pawn_front.specs.Compiled.{Compiles, MakesFile}
use Rattle.pawn_front.specs.Faults.{Breaks, by_lines, behind_lines, NotCompiled}
use Rattle.pawn_front.specs.Means.{ComesTo, Means}
use Rattle.pawn_front.specs.Sourced.{IsSourced, Sources, SourcesLines}

-- ---- of lines

pub refuses_lines : (lines : Lines) (kind : ℕ) (place : Place) (fault : CompileFault)
    → Breaks lines kind place → Refuses lines.files kind place fault
    → RefusesLines lines fault
refuses_lines lines kind place (compile.Refused number file line) breaks it =
    let P : ℕ → Type 0 = λ n. Breaks lines n place in
    record { place = place; breaks = subst P (sym it.0) breaks; file_is = it.1; line_is = it.2 }
refuses_lines lines kind place compile.NoSource breaks it = it
refuses_lines lines kind place (compile.TooLarge file) breaks it = it
refuses_lines lines kind place compile.Files breaks it = it
refuses_lines lines kind place compile.Memory breaks it = tt

-- ---- of a source

pub sources : (held : Option Held) (name : List ℕ) (lines : Lines)
    (result : Result Sourced CompileFault)
    → ComesTo held name (Whole lines) → SourcesLines lines result → Sources held name result
sources held name lines (Ok it) comes is = record {
  means = record { lines = lines; comes = comes; has = is.has };
  names_are = is.names_are;
  whole = is.whole;
}
sources held name lines (Err (compile.Refused kind file line)) comes is =
    behind_lines lines is.place comes is.breaks is.file_is is.line_is
sources held name lines (Err compile.NoSource) comes is = absurd is
sources held name lines (Err (compile.TooLarge file)) comes is = absurd is
sources held name lines (Err compile.Files) comes is = tt
sources held name lines (Err compile.Memory) comes is = tt

pub compiles : (held : Option Held) (name : List ℕ) (encoding : Encoding) (it : Sourced)
    (result : Result Compiled CompileFault) → IsSourced held name it
    → MakesFile (program_view it.program) it.warnings encoding result
    → Compiles held name encoding result
compiles held name encoding it (Ok made) is has = record {
  program = program_view it.program;
  means =
      subst (Means held name (program_view it.program)) (sym has.warnings_are) is.means;
  has = has.has;
}
compiles held name encoding it (Err fault) is e = subst (NotCompiled held name) (sym e) tt

not_by_lines : (held : Option Held) (name : List ℕ) (fault : PreFault)
    → ((files : Held) → held ≡ Some files → Answers files name (Err fault))
    → NotCompiled held name (fault_of fault)
not_by_lines held name (pre.Source kind place file) comes = by_lines place comes refl
not_by_lines held name pre.NoSource comes = comes
not_by_lines held name (pre.TooLarge file) comes = comes
not_by_lines held name pre.Files comes = tt
not_by_lines held name pre.Memory comes = tt

pub not_compiled : (held : Option Held) (name : List ℕ) (fault : PreFault) (given : CompileFault)
    → ((files : Held) → held ≡ Some files → Answers files name (Err fault)) → given ≡ fault_of fault
    → NotCompiled held name given
not_compiled held name fault given comes e =
    let P : CompileFault → Type 0 = NotCompiled held name in
    subst P (sym e) (not_by_lines held name fault comes)

-- ---- of the files

no_files : (lines : Lines) (result : Result Sourced CompileFault) → SourcesLines lines result
    → result ≡ Err compile.Files → ⊥
no_files lines result is e = subst (SourcesLines lines) e is

-- making the file of a program reads none
pub makes_no_fault : (program : Program) (warnings : List Warning) (encoding : Encoding)
    (result : Result Compiled CompileFault) → MakesFile program warnings encoding result
    → result ≡ Err compile.Files → ⊥
makes_no_fault program warnings encoding result is e =
    let none : compile.Files ≡ compile.Memory = subst (MakesFile program warnings encoding) e is in
    absurd (cc none)

files_only : (fault : PreFault) → fault_of fault ≡ compile.Files → fault ≡ pre.Files
files_only (pre.Source kind place file) e = absurd (cc e)
files_only pre.NoSource e = absurd (cc e)
files_only (pre.TooLarge file) e = absurd (cc e)
files_only pre.Files e = refl
files_only pre.Memory e = absurd (cc e)

module _ {F : Type 0} {held : F → Option Held} {faults : F → ℕ} {never_fails : F → Type 0}
    {old new : F} where
  -- they were read before
  pub read_before : (lines : Lines) (result : Result Sourced CompileFault)
      → SourcesLines lines result
      → {made : Result Lines PreFault} → made ≡ Ok lines
      → OnlyRead held faults never_fails old new (made ≡ Err pre.Files)
      → OnlyRead held faults never_fails old new (result ≡ Err compile.Files)
  read_before lines result is good it = record {
    same = it.same;
    steady = λ none. it.steady (λ e. absurd (cc (good, e)));
    cause = λ fails. absurd (no_files lines result is fails);
    unfailing = λ never. ((it.unfailing never).0, no_files lines result is);
  }

  -- their fault is told as one
  pub read_fault : (fault : PreFault) (given : CompileFault) {made : Result Lines PreFault}
      {result : Result Sourced CompileFault}
      → given ≡ fault_of fault → made ≡ Err fault → result ≡ Err given
      → OnlyRead held faults never_fails old new (made ≡ Err pre.Files)
      → OnlyRead held faults never_fails old new (result ≡ Err compile.Files)
  read_fault fault given {made} {result} is failed told it =
      let before : result ≡ Err compile.Files → made ≡ Err pre.Files =
      λ e. let file : given ≡ compile.Files = cc (told, e) in failed
      ∙ ap Err (files_only fault (sym is ∙ file)) in
      let behind : made ≡ Err pre.Files → result ≡ Err compile.Files =
      λ e. let file : fault ≡ pre.Files = cc (failed, e) in told
      ∙ ap Err (is ∙ ap fault_of file) in record {
        same = it.same;
        steady = λ none. it.steady (λ e. none (behind e));
        cause = λ e. it.cause (before e);
        unfailing = λ never. ((it.unfailing never).0, λ e. (it.unfailing never).1 (before e));
      }
