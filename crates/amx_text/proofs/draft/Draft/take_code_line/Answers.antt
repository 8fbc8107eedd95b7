use Rattle.amx_text.proofs.PutLaws.{data_put, code_on}
use Rattle.amx_text.proofs.draft.Draft.take_code_line.Goals as goal

pub returns-in-Some : goal.returns-in-Some
returns-in-Some c =
    data_put c.args.text.now c.in-Some.rest.now c.args.self.now _ c.in-Some.ensures
    c.end_line.ensures

pub returns : goal.returns
returns c =
    code_on c.args.text.now c.args.self.now c.take_instruction.new.self c.take_instruction.result
    c.in_default.ensures c.take_instruction.ensures
