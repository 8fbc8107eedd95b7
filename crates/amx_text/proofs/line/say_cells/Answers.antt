use Rattle.std.proofs.Common.{◌++◌, ◌∷◌, [], Err, pos, get_or, arith, FitsSigned, w32, rules, refl}
use Rattle.std.proofs.Common.{ap}
use Rattle.std.proofs.lemmas.Int.{to_z-of_z}
use Rattle.std.proofs.lemmas.Result.{err_from_is_err_and}
use Rattle.pawn_outside.proofs.SaidLaws.{said_as, said_then, said_cut}
use Rattle.host_script.specs.declared.event.Seen.TheVariants.{Cell}
use Rattle.host_script.specs.Text.{argument_text}
use Rattle.amx_text.proofs.LineLaws.{cells_are}
use Rattle.pawn_outside.proofs.SoFarLaws.{so_far_none, so_far_more, so_far_cut, so_far_done}
use Rattle.amx_text.proofs.ListText.{from_place, from_end}
use Rattle.amx_text.proofs.line.say_cells.Goals as goal

pub loop-cell-init : goal.loop-cell-init
loop-cell-init g c = so_far_none c.args.out.now _

pub loop-cell-preserved : goal.loop-cell-preserved
loop-cell-preserved g c =
    let cells = c.args.cells.now in
    let i = c.loop-cell.cell-index in
    let fits : FitsSigned w32 (get_or cells i (pos 0)) = search rules in
    let first =
    from_place (λ cell. argument_text (Cell cell)) cells i (pos 0) c.loop-cell-test.true in
    so_far_more c.loop-cell.invariant first
    (said_as (ap (λ cell. argument_text (Cell cell)) (to_z-of_z w32 (get_or cells i (pos 0)) fits))
    c.in_ok-say_cell.ensures)

pub returns-in_err-say_cell : goal.returns-in_err-say_cell
returns-in_err-say_cell g c =
    let cells = c.args.cells.now in
    let i = c.loop-cell.cell-index in
    let fits : FitsSigned w32 (get_or cells i (pos 0)) = search rules in
    let first =
    from_place (λ cell. argument_text (Cell cell)) cells i (pos 0) c.loop-cell-test.true in
    let is = err_from_is_err_and c.from_residual.result c.from_residual.ensures.1 in
    said_as (ap (λ text. text ++ (10 ∷ [])) (cells_are cells))
    (said_cut (10 ∷ []) c.from_residual.result is.1
    (so_far_cut c.loop-cell.invariant _ first (Err _) refl
    (said_as (ap (λ cell. argument_text (Cell cell)) (to_z-of_z w32 (get_or cells i (pos 0)) fits))
    c.in_err-say_cell.ensures)))

pub returns : goal.returns
returns g c =
    let cells = c.args.cells.now in
    let all = so_far_done c.loop-cell.invariant
    (from_end (λ cell. argument_text (Cell cell)) cells c.loop-cell.cell-index
    (omega (arith, c.loop-cell-test.false))) in
    said_then (said_as (cells_are cells) all) c.say.ensures
