use Rattle.std.proofs.Common.{codes, ap}
use Rattle.std.proofs.lemmas.Result.{err_from_is_err_and}
use Rattle.pawn_outside.proofs.SaidLaws.{said_as, said_cut}
use Rattle.amx_text.specs.Listing.{record_lines}
use Rattle.amx_text.proofs.RecordLaws.{after_records}
use Rattle.amx_text.proofs.listing.say_tables.Goals as goal

pub returns-in_err-say_records : goal.returns-in_err-say_records
returns-in_err-say_records g c =
    let is = err_from_is_err_and c.from_residual.result c.from_residual.ensures.1 in
    said_cut _ c.from_residual.result is.1
    (said_as (ap (record_lines (codes "public")) c.as_slice.ensures)
    c.in_err-say_records.ensures)

pub returns-in_err-say_records-2 : goal.returns-in_err-say_records-2
returns-in_err-say_records-2 g c =
    let is =
    err_from_is_err_and c.from_residual-in_err-say_records-2.result
    c.from_residual-in_err-say_records-2.ensures.1 in
    after_records (codes "public") c.as_slice.ensures c.in_ok-say_records.ensures
    (said_cut _ c.from_residual-in_err-say_records-2.result is.1
    (said_as (ap (record_lines (codes "native")) c.as_slice-2.ensures)
    c.in_err-say_records-2.ensures))

pub returns-in_err-say_records-3 : goal.returns-in_err-say_records-3
returns-in_err-say_records-3 g c =
    let is =
    err_from_is_err_and c.from_residual-in_err-say_records-3.result
    c.from_residual-in_err-say_records-3.ensures.1 in
    after_records (codes "public") c.as_slice.ensures c.in_ok-say_records.ensures
    (after_records (codes "native") c.as_slice-2.ensures c.in_ok-say_records-2.ensures
    (said_cut _ c.from_residual-in_err-say_records-3.result is.1
    (said_as (ap (record_lines (codes "library")) c.as_slice-3.ensures)
    c.in_err-say_records-3.ensures)))

pub returns-in_err-say_records-4 : goal.returns-in_err-say_records-4
returns-in_err-say_records-4 g c =
    let is =
    err_from_is_err_and c.from_residual-in_err-say_records-4.result
    c.from_residual-in_err-say_records-4.ensures.1 in
    after_records (codes "public") c.as_slice.ensures c.in_ok-say_records.ensures
    (after_records (codes "native") c.as_slice-2.ensures c.in_ok-say_records-2.ensures
    (after_records (codes "library") c.as_slice-3.ensures c.in_ok-say_records-3.ensures
    (said_cut _ c.from_residual-in_err-say_records-4.result is.1
    (said_as (ap (record_lines (codes "variable")) c.as_slice-4.ensures)
    c.in_err-say_records-4.ensures))))

pub returns : goal.returns
returns g c =
    after_records (codes "public") c.as_slice.ensures c.in_ok-say_records.ensures
    (after_records (codes "native") c.as_slice-2.ensures c.in_ok-say_records-2.ensures
    (after_records (codes "library") c.as_slice-3.ensures c.in_ok-say_records-3.ensures
    (after_records (codes "variable") c.as_slice-4.ensures c.in_ok-say_records-4.ensures
    (said_as (ap (record_lines (codes "tag")) c.as_slice-5.ensures) c.say_records-5.ensures))))
