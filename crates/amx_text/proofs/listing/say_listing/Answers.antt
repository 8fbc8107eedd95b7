use Rattle.std.proofs.Common.{ap}
use Rattle.std.proofs.lemmas.Result.{err_from_is_err_and}
use Rattle.pawn_outside.proofs.SaidLaws.{said_as, said_then, said_cut}
use Rattle.amx_text.specs.Listing.{code_lines, data_from}
use Rattle.amx_text.proofs.listing.say_listing.Goals as goal

pub returns-in_err-say_header : goal.returns-in_err-say_header
returns-in_err-say_header g c =
    let is = err_from_is_err_and c.from_residual.result c.from_residual.ensures.1 in
    said_cut _ c.from_residual.result is.1 c.in_err-say_header.ensures

pub returns-in_err-say_tables : goal.returns-in_err-say_tables
returns-in_err-say_tables g c =
    let is =
    err_from_is_err_and c.from_residual-in_err-say_tables.result
    c.from_residual-in_err-say_tables.ensures.1 in
    said_then c.in_ok-say_header.ensures
    (said_cut _ c.from_residual-in_err-say_tables.result is.1 c.in_err-say_tables.ensures)

pub returns-in_err-say : goal.returns-in_err-say
returns-in_err-say g c =
    let is =
    err_from_is_err_and c.from_residual-in_err-say.result
    c.from_residual-in_err-say.ensures.1 in
    said_then c.in_ok-say_header.ensures
    (said_then c.in_ok-say_tables.ensures
    (said_cut _ c.from_residual-in_err-say.result is.1 c.in_err-say.ensures))

pub returns-in_err-say_code : goal.returns-in_err-say_code
returns-in_err-say_code g c =
    let is =
    err_from_is_err_and c.from_residual-in_err-say_code.result
    c.from_residual-in_err-say_code.ensures.1 in
    said_then c.in_ok-say_header.ensures
    (said_then c.in_ok-say_tables.ensures (said_then c.in_ok-say.ensures
    (said_cut _ c.from_residual-in_err-say_code.result is.1
    (said_as (ap code_lines c.as_slice.ensures.cells) c.in_err-say_code.ensures))))

pub returns-in_err-say_store : goal.returns-in_err-say_store
returns-in_err-say_store g c =
    let is =
    err_from_is_err_and c.from_residual-in_err-say_store.result
    c.from_residual-in_err-say_store.ensures.1 in
    said_then c.in_ok-say_header.ensures
    (said_then c.in_ok-say_tables.ensures (said_then c.in_ok-say.ensures
    (said_then (said_as (ap code_lines c.as_slice.ensures.cells) c.in_ok-say_code.ensures)
    (said_then c.in_ok-say-2.ensures
    (said_cut _ c.from_residual-in_err-say_store.result is.1
    (said_as (ap (data_from 0 0) c.as_slice-2.ensures.cells)
    c.in_err-say_store.ensures))))))

pub returns : goal.returns
returns g c =
    said_then c.in_ok-say_header.ensures
    (said_then c.in_ok-say_tables.ensures (said_then c.in_ok-say.ensures
    (said_then (said_as (ap code_lines c.as_slice.ensures.cells) c.in_ok-say_code.ensures)
    (said_then c.in_ok-say-2.ensures
    (said_then (said_as (ap (data_from 0 0) c.as_slice-2.ensures.cells)
    c.in_ok-say_store.ensures) c.say-3.ensures)))))

pub returns-in_err-say-2 : goal.returns-in_err-say-2
returns-in_err-say-2 g c =
    let is =
    err_from_is_err_and c.from_residual-in_err-say-2.result
    c.from_residual-in_err-say-2.ensures.1 in
    said_then c.in_ok-say_header.ensures
    (said_then c.in_ok-say_tables.ensures (said_then c.in_ok-say.ensures
    (said_then (said_as (ap code_lines c.as_slice.ensures.cells) c.in_ok-say_code.ensures)
    (said_cut _ c.from_residual-in_err-say-2.result is.1 c.in_err-say-2.ensures))))
