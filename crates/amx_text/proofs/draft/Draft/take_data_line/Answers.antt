use Rattle.std.proofs.Common.{refl}
use Rattle.amx_text.specs.declared.last.Last.TheVariants as last
use Rattle.amx_text.specs.Drafts.{follows}
use Rattle.amx_text.proofs.PutLaws.{end_put, data_on}
use Rattle.amx_text.proofs.draft.Draft.take_data_line.Goals as goal

pub returns-in-Some : goal.returns-in-Some
returns-in-Some c =
    end_put (follows last.Data) c.args.text.now c.in-Some.rest.now c.args.self.now _ refl
    c.in-Some.ensures c.end_line.ensures

pub returns : goal.returns
returns c =
    data_on c.args.text.now c.args.self.now c.take_row.new.self c.take_row.result
    c.in_default.ensures c.take_row.ensures
