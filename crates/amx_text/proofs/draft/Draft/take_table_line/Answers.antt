use Rattle.amx_text.proofs.PutLaws.{code_put, tables_on}
use Rattle.amx_text.proofs.draft.Draft.take_table_line.Goals as goal

pub returns-in-Some : goal.returns-in-Some
returns-in-Some c =
    code_put c.args.from c.args.text.now c.in-Some.rest.now c.args.self.now _ c.in-Some.ensures
    c.end_line.ensures

pub returns : goal.returns
returns c =
    tables_on c.args.from c.args.text.now c.args.self.now c.take_record.new.self
    c.take_record.result c.in_default.ensures c.take_record.ensures
