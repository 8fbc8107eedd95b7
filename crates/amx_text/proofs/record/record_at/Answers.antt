use Rattle.amx_text.proofs.LineReads.{no_address, no_quote}
use Rattle.amx_text.proofs.RecordSteps.{name_missing, line_missing, record_there}
use Rattle.amx_text.proofs.record.record_at.Goals as goal

pub returns-in_default : goal.returns-in_default
returns-in_default c = no_address c.args.text.now c.in_default.ensures

pub returns-in_default-after_word : goal.returns-in_default-after_word
returns-in_default-after_word c =
    no_quote c.args.text.now c.in-Some.address c.in-Some.rest.now c.in-Some.ensures
    c.in_default-after_word.ensures

pub returns-in_default-2 : goal.returns-in_default-2
returns-in_default-2 c =
    name_missing c.args.text.now c.in-Some.address c.in-Some.rest.now c.in-Some.ensures
    c.in-Some-after_word.rest.now c.in-Some-after_word.ensures c.in_ok-name.field-0
    c.in_ok-name.ensures c.in_default-2.is

pub returns-in_ok-record_of-in-Some-after_word-2 : goal.returns-in_ok-record_of-in-Some-after_word-2
returns-in_ok-record_of-in-Some-after_word-2 c =
    rw c.in_ok-record_of-in-Some-after_word-2.ensures
    (record_there c.args.text.now c.in-Some.address c.in-Some.rest.now c.in-Some.ensures
    c.in-Some-after_word.rest.now c.in-Some-after_word.ensures c.in_ok-name.field-0
    c.in_ok-name.ensures c.in-Some-2.name c.in-Some-2.rest c.in-Some-2.is
    c.in-Some-after_word-2.rest.now c.in-Some-after_word-2.ensures)

pub returns-in-None : goal.returns-in-None
returns-in-None c =
    line_missing c.args.text.now c.in-Some.address c.in-Some.rest.now c.in-Some.ensures
    c.in-Some-after_word.rest.now c.in-Some-after_word.ensures c.in_ok-name.field-0
    c.in_ok-name.ensures c.in-Some-2.name c.in-Some-2.rest c.in-Some-2.is c.in-None.ensures
