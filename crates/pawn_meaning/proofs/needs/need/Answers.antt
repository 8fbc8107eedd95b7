use Rattle.pawn_meaning.proofs.NeedLaws.{need_of}
use Rattle.pawn_meaning.proofs.needs.need.Goals as goal

pub returns : goal.returns
returns c =
    need_of c.args.program.now.functions c.args.function c.index-as_slice-function.result
    c.index-as_slice-function.result
    c.function_need.result c.requires (rw c.as_slice.ensures at c.index-as_slice-function.is)
    c.function_need.ensures
