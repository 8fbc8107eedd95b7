use Rattle.std.proofs.lemmas.Result.{IfOk-weaker}
use Rattle.pawn_meaning.specs.View.{program_view}
use Rattle.amx_format.proofs.SortLaws.{writable_sorted}
use Rattle.pawn_front.proofs.MakingLaws.{file_is}
use Rattle.pawn_front.proofs.making.file_bytes.Goals as goal

pub write-requires : goal.write-requires
write-requires c =
    writable_sorted c.in_ok-amx.amx (c.in_ok-amx.ensures.agrees c.requires.valid c.requires.limits
    c.requires.names).shape.writable

pub returns : goal.returns
returns c =
    IfOk-weaker c.write.result _ _
    (λ bytes it. file_is (program_view c.args.program.now) c.args.encoding bytes c.in_ok-amx.amx
    c.requires (c.in_ok-amx.ensures.agrees c.requires.valid c.requires.limits c.requires.names)
    c.in_ok-amx.ensures.lean it)
    c.write.ensures
