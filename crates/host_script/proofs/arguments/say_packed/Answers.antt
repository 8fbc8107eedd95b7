use Rattle.std.proofs.Common.{◌≡◌, ◌++◌, ◌∙◌, sym, ap, pos, true, false, get_or, take, arith}
use Rattle.std.proofs.Common.{rules}
use Rattle.std.specs.List.{flat_map}
use Rattle.std.proofs.lemmas.Result.{err_from_is_err_and}
use Rattle.pawn_outside.proofs.SaidLaws.{said_as, said_then, said_cut, said_nothing}
use Rattle.host_script.specs.Script.{bytes_of}
use Rattle.host_script.specs.Characters.{front, has_zero, characters_text}
use Rattle.host_script.proofs.CharacterLaws.{passed_none, passed_more, text_more, text_last}
use Rattle.host_script.proofs.CharacterLaws.{packed_bytes, text_cut, text_all}
use Rattle.host_script.proofs.arguments.say_packed.Goals as goal

pub loop-cell-init : goal.loop-cell-init
loop-cell-init g c = (said_nothing c.args.out.now, passed_none bytes_of c.args.cells.now)

pub loop-cell-preserved : goal.loop-cell-preserved
loop-cell-preserved g c =
    let cells = c.args.cells.now in
    let i = c.loop-cell.cell-index in
    let x = get_or cells i (pos 0) in
    let bytes =
    packed_bytes x c.to_be_bytes-bytes.result (search rules) c.to_be_bytes-bytes.ensures in
    let none : has_zero (bytes_of x) ≡ false =
    ap has_zero (sym bytes) ∙ sym c.if-has_zero_byte.ensures in (
      said_as (ap (λ cs. characters_text (flat_map bytes_of (take i cells))
          ++ characters_text (front cs)) bytes
          ∙ text_more bytes_of cells i (pos 0) c.loop-cell-test.true c.loop-cell.invariant.1 none)
          (said_then c.loop-cell.invariant.0 c.in_ok-say_bytes.ensures),
      passed_more bytes_of cells i (pos 0) c.loop-cell-test.true c.loop-cell.invariant.1 none,
    )

pub returns-then-has_zero_byte : goal.returns-then-has_zero_byte
returns-then-has_zero_byte g c =
    let cells = c.args.cells.now in
    let i = c.loop-cell.cell-index in
    let x = get_or cells i (pos 0) in
    let bytes =
    packed_bytes x c.to_be_bytes-bytes.result (search rules) c.to_be_bytes-bytes.ensures in
    let zero : has_zero (bytes_of x) ≡ true =
    ap has_zero (sym bytes) ∙ sym c.if-has_zero_byte.ensures in
    said_as (ap (λ cs. characters_text (flat_map bytes_of (take i cells))
    ++ characters_text (front cs)) bytes
    ∙ text_last bytes_of cells i (pos 0) c.loop-cell-test.true c.loop-cell.invariant.1 zero)
    (said_then c.loop-cell.invariant.0 c.in_ok-say_bytes.ensures)

pub returns-in_err-say_bytes : goal.returns-in_err-say_bytes
returns-in_err-say_bytes g c =
    let cells = c.args.cells.now in
    let i = c.loop-cell.cell-index in
    let x = get_or cells i (pos 0) in
    let bytes =
    packed_bytes x c.to_be_bytes-bytes.result (search rules) c.to_be_bytes-bytes.ensures in
    let is = err_from_is_err_and c.from_residual.result c.from_residual.ensures.1 in
    said_as (text_cut bytes_of cells i (pos 0) c.loop-cell-test.true c.loop-cell.invariant.1)
    (said_cut _ c.from_residual.result is.1
    (said_then c.loop-cell.invariant.0
    (said_as (ap (λ cs. characters_text (front cs)) bytes) c.in_err-say_bytes.ensures)))

pub returns : goal.returns
returns g c =
    said_as (text_all bytes_of c.args.cells.now c.loop-cell.cell-index
    (omega (arith, c.loop-cell-test.false)) c.loop-cell.invariant.1)
    c.loop-cell.invariant.0
