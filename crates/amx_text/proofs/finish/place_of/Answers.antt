use Rattle.std.proofs.Common.{◌==◌, ◌∙◌, length, ap, unwrap_or}
use Rattle.amx_text.proofs.FoundLaws.{or_length}
use Rattle.amx_text.proofs.finish.place_of.Goals as goal

pub returns : goal.returns
returns c =
    c.unwrap_or.ensures ∙ ap (λ o. unwrap_or o (length c.args.starts.now)) c.start_at.ensures
    ∙ or_length (λ start. start == c.args.at) c.args.starts.now
