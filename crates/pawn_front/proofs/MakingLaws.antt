-- What was written of a good program is its file.
use Rattle.std.proofs.Common.{ℕ, List, ◌≤◌, ◌+◌, length}
use Rattle.pawn_meaning.specs.Program.{Program}
use Rattle.pawn_meaning.specs.Weight.{lean}
use Rattle.amx_ops.specs.declared.amx.Amx.{Amx}
use Rattle.amx_format.specs.declared.encoding.Encoding.{Encoding}
use Rattle.amx_format.specs.Written.{IsWritten}
use Rattle.amx_format.proofs.SortLaws.{written_sorted}
use Rattle.gen_agrees.specs.Agrees.{Agrees}
use Rattle.pawn_front.specs.Compiled.{HasFile}
use Rattle.types_laws.specs.GoodSources.{IsGoodProgram}
use Rattle.pawn_front.proofs.SizeLaws.{file_small}

pub file_is : (program : Program) (encoding : Encoding) (bytes : List ℕ) (amx : Amx)
    → IsGoodProgram program → Agrees program amx → length amx.code ≤ lean program + 2
    → IsWritten encoding amx bytes → HasFile program encoding bytes
file_is program encoding bytes amx good agrees few it =
    let written = written_sorted encoding amx bytes agrees.shape.writable it in
    record {
      amx = amx;
      agrees = agrees;
      light = few;
      file = written.1;
      layout = written.0;
      small = file_small program amx encoding bytes good agrees written.0;
    }
