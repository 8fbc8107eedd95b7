use Rattle.std.proofs.Common.{Ok}
use Rattle.amx_text.specs.declared.last.Last.TheVariants as last
use Rattle.amx_text.proofs.PutLaws.{as_last, end_stays}
use Rattle.amx_text.proofs.draft.Draft.take.Goals as goal

pub returns-in-Nothing-clause-line : goal.returns-in-Nothing-clause-line
returns-in-Nothing-clause-line c =
    as_last c.args.self.now.last last.Nothing c.args.text.now c.args.self.now
    c.take_header.new.self (Ok c.take_header.result) c.in-Nothing.is c.take_header.ensures

pub returns-in-Tables-clause-line : goal.returns-in-Tables-clause-line
returns-in-Tables-clause-line c =
    as_last c.args.self.now.last (last.Tables c.in-Tables.from) c.args.text.now c.args.self.now
    c.take_table_line.new.self c.take_table_line.result c.in-Tables.is c.take_table_line.ensures

pub returns-in-Code-clause-line : goal.returns-in-Code-clause-line
returns-in-Code-clause-line c =
    as_last c.args.self.now.last last.Code c.args.text.now c.args.self.now
    c.take_code_line.new.self c.take_code_line.result c.in-Code.is c.take_code_line.ensures

pub returns-in-Data-clause-line : goal.returns-in-Data-clause-line
returns-in-Data-clause-line c =
    as_last c.args.self.now.last last.Data c.args.text.now c.args.self.now
    c.take_data_line.new.self c.take_data_line.result c.in-Data.is c.take_data_line.ensures

pub returns-in-ShortRow-clause-line : goal.returns-in-ShortRow-clause-line
returns-in-ShortRow-clause-line c =
    as_last c.args.self.now.last last.ShortRow c.args.text.now c.args.self.now
    c.take_end.new.self (Ok c.take_end.result) c.in-ShortRow.is c.take_end.ensures

pub returns-in-End-clause-line : goal.returns-in-End-clause-line
returns-in-End-clause-line c = end_stays c.args.self.now.last c.args.text.now _ c.in-End.is
