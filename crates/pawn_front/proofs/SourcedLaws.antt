-- The program of lines, with its warnings by the names of the files.
use Rattle.std.proofs.Common.{◌≡◌, List, map}
use Rattle.pawn_pre.specs.declared.line.Lines.{Lines}
use Rattle.pawn_meaning.specs.View.{program_view}
use Rattle.types_laws.specs.GoodSources.{IsGoodProgram}
use Rattle.pawn_front.specs.declared.checking.Named.{Named}
use Rattle.pawn_front.specs.declared.compiled.Warning.{Warning}
use Rattle.pawn_front.specs.Checks.{IsNamedOf}
use Rattle.pawn_front.specs.Places.{warning_at}
use Rattle.pawn_front.specs.Sourced.{IsSourcedBy}
use Rattle.pawn_front.proofs.StartLaws.{typed_can_begin}

pub sourced_by : (lines : Lines) (named : Named) (warnings : List Warning)
    → IsNamedOf lines named → IsGoodProgram (program_view named.checked.program)
    → warnings ≡ map (warning_at lines.files) named.checked.warnings
    → IsSourcedBy lines (record {
      program = named.checked.program;
      warnings = warnings;
      names = named.names;
    })
sourced_by lines named warnings it good e = record {
  has = record { places = named.checked.warnings; is = it.is; warnings_are = e };
  names_are = it.names_are;
  whole =
      record {
        good = good;
        begins =
            typed_can_begin it.is.typed.tree lines.dynamic (program_view named.checked.program)
            named.checked.warnings it.is.typed.is_typed;
        named = it.named;
      };
}
