use Rattle.pawn_parse.proofs.TreeLaws.{parsed, refused_at}
use Rattle.pawn_parse.proofs.source_tree.tree_of.Goals as goal

pub returns-in-Ok : goal.returns-in-Ok
returns-in-Ok c =
    parsed c.unit_is_spelled.ensures _ c.new.ensures c.in-Ok.ensures c.requires.shallow

pub returns-in-Err-Syntax : goal.returns-in-Err-Syntax
returns-in-Err-Syntax c =
    let p = rw c.in-Err-Syntax.field-0-is at c.in-Err-Syntax.ensures in
    refused_at c.unit_is_complete.ensures _ c.new.ensures p c.requires.shallow
