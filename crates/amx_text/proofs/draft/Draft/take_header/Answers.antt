use Rattle.std.proofs.Common.{refl}
use Rattle.amx_text.proofs.TakeLaws.{no_header}
use Rattle.amx_text.proofs.PutLaws.{header_put}
use Rattle.amx_text.proofs.draft.Draft.take_header.Goals as goal

pub returns-in_err-header : goal.returns-in_err-header
returns-in_err-header c =
    rw c.from_residual.ensures (record {
      none = no_header c.args.text.now c.in_err-header.ensures;
      lines = refl;
      last = refl;
    })

pub returns : goal.returns
returns c =
    header_put c.args.text.now c.in_ok-header.rest.now c.in_ok-header.header c.args.self.now _
    c.in_ok-header.ensures c.end_line.ensures
