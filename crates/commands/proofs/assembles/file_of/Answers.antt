use Rattle.std.proofs.Common.{◌==◌, arith, inl, refl}
use Rattle.std.proofs.lemmas.List.Sums.{count_by-le-length}
use Rattle.commands.proofs.AssembleLaws.{text_stops}
use Rattle.commands.proofs.assembles.file_of.Goals as goal

pub assemble-requires : goal.assemble-requires
assemble-requires c =
    omega (arith, count_by-le-length (λ byte. byte == 10) c.args.text.now, c.requires)

pub returns-in-Err : goal.returns-in-Err
returns-in-Err c =
    text_stops c.args.name.now c.args.text.now c.in-Err.fault c.stop_at.result
    c.in-Err.ensures.answer c.stop_at.ensures

pub returns-in-Ok-write : goal.returns-in-Ok-write
returns-in-Ok-write c =
    record {
      amx = c.in-Ok.amx;
      assembled = c.in-Ok.ensures.answer;
      written = c.in-Ok-write.ensures;
    }

pub returns : goal.returns
returns c = inl refl
