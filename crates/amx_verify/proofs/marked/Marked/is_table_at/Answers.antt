use Rattle.std.proofs.Common.{◌∙◌, ap}
use Rattle.amx_verify.specs.Kinds.{table_by}
use Rattle.amx_verify.proofs.KindLaws.{table_there}
use Rattle.amx_verify.proofs.marked.Marked.is_table_at.Goals as goal

pub returns : goal.returns
returns c =
    c.is_cases.ensures ∙ ap table_by c.fetch.ensures ∙ table_there c.args.self.now.code c.args.at
