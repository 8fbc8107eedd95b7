use Rattle.amx_text.proofs.HeaderSteps.{no_flags, no_version, no_code, no_store, no_room, no_word}
use Rattle.amx_text.proofs.HeaderSteps.{no_entry, no_end}
use Rattle.amx_text.proofs.ReaderSteps.{gives_none}
use Rattle.amx_text.proofs.header_line.header_at.Goals as goal

pub returns-in_err-flags : goal.returns-in_err-flags
returns-in_err-flags c =
    gives_none c.from_residual.ensures
    (no_flags c.args.text.now c.in_err-flags.ensures)

pub returns-in_err-version : goal.returns-in_err-version
returns-in_err-version c =
    gives_none c.from_residual-in_err-version.ensures
    (no_version c.args.text.now c.in_ok-flags.ensures c.in_err-version.ensures)

pub returns-in_err-code : goal.returns-in_err-code
returns-in_err-code c =
    gives_none c.from_residual-in_err-code.ensures
    (no_code c.args.text.now c.in_ok-flags.ensures c.in_ok-version.ensures c.in_err-code.ensures)

pub returns-in_err-store : goal.returns-in_err-store
returns-in_err-store c =
    gives_none c.from_residual-in_err-store.ensures
    (no_store c.args.text.now c.in_ok-flags.ensures c.in_ok-version.ensures c.in_ok-code.ensures
    c.in_err-store.ensures)

pub returns-in_err-room : goal.returns-in_err-room
returns-in_err-room c =
    gives_none c.from_residual-in_err-room.ensures
    (no_room c.args.text.now c.in_ok-flags.ensures c.in_ok-version.ensures c.in_ok-code.ensures
    c.in_ok-store.ensures c.in_err-room.ensures)

pub returns-in_err-after_word : goal.returns-in_err-after_word
returns-in_err-after_word c =
    gives_none c.from_residual-in_err-after_word.ensures
    (no_word c.args.text.now c.in_ok-flags.ensures c.in_ok-version.ensures c.in_ok-code.ensures
    c.in_ok-store.ensures c.in_ok-room.ensures c.in_err-after_word.ensures)

pub returns-in_err-entry : goal.returns-in_err-entry
returns-in_err-entry c =
    gives_none c.from_residual-in_err-entry.ensures
    (no_entry c.args.text.now c.in_ok-flags.ensures c.in_ok-version.ensures c.in_ok-code.ensures
    c.in_ok-store.ensures c.in_ok-room.ensures c.in_ok-after_word.ensures c.in_err-entry.ensures)

pub returns-in_err-rest : goal.returns-in_err-rest
returns-in_err-rest c =
    gives_none c.from_residual-in_err-rest.ensures
    (no_end c.args.text.now c.in_ok-flags.ensures c.in_ok-version.ensures c.in_ok-code.ensures
    c.in_ok-store.ensures c.in_ok-room.ensures c.in_ok-after_word.ensures c.in_ok-entry.ensures
    c.in_err-rest.ensures)
