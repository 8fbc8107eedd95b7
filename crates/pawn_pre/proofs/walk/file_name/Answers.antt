use Rattle.std.proofs.Common.{ap, ◌∙◌, []}
use Rattle.std.proofs.lemmas.Option.{unwrap_or-slice_get}
use Rattle.std.specs.Prelude.{unwrap_or}
use Rattle.pawn_pre.proofs.walk.file_name.Goals as goal

pub returns-in-Some : goal.returns-in-Some
returns-in-Some c =
    ap (λ name. unwrap_or name []) c.in-Some.ensures
    ∙ unwrap_or-slice_get c.args.names.now c.args.file []

pub returns-in-None : goal.returns-in-None
returns-in-None c =
    ap (λ name. unwrap_or name []) c.in-None.ensures
    ∙ unwrap_or-slice_get c.args.names.now c.args.file []
