use Rattle.std.proofs.Common.{refl}
use Rattle.amx_text.specs.declared.last.Last.TheVariants as last
use Rattle.amx_text.specs.Drafts.{follows}
use Rattle.amx_text.proofs.TakeLaws.{no_end}
use Rattle.amx_text.proofs.PutLaws.{end_put}
use Rattle.amx_text.proofs.draft.Draft.take_end.Goals as goal

pub returns-in_err-rest : goal.returns-in_err-rest
returns-in_err-rest c =
    rw c.from_residual.ensures (record {
      none = no_end c.args.text.now c.in_err-rest.ensures;
      lines = refl;
      last = refl;
    })

pub returns : goal.returns
returns c =
    end_put (follows last.ShortRow) c.args.text.now c.in_ok-rest.rest.now _ _ refl
    c.in_ok-rest.ensures c.end_line.ensures
