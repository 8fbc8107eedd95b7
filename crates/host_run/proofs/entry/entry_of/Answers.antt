use Rattle.std.proofs.Common.{◌∙◌, rules, w32, FitsSigned, refl, sym}
use Rattle.std.specs.Prelude.{negsuc}
use Rattle.std.proofs.lemmas.Int.{to_z-of_z}
use Rattle.pawn_cells.specs.Cells.{equal}
use Rattle.host_run.specs.Entry.{public_named}
use Rattle.host_run.proofs.EntryLaws.{main_by, public_by}
use Rattle.host_run.proofs.entry.entry_of.Goals as goal

pub returns-then-main : goal.returns-then-main
returns-then-main c =
    let amx = c.args.amx.now in
    let fits : FitsSigned w32 amx.entry = search rules in
    main_by amx c.args.name.now (equal amx.entry (negsuc 0)) c.main_at.result refl
    (sym c.is_main-main.ensures ∙ c.if-main.true)
    (rw (to_z-of_z w32 amx.entry fits) at c.main_at.ensures)

pub returns-else-main : goal.returns-else-main
returns-else-main c =
    let amx = c.args.amx.now in
    public_by amx c.args.name.now (public_named amx.publics c.args.name.now)
    c.public_number.result refl
    (rw c.as_slice.ensures at c.public_number.ensures.within)
    (sym c.is_main-main.ensures ∙ c.if-main.false)
    (rw c.as_slice.ensures at c.public_number.ensures.number)
