use Rattle.std.proofs.Common.{◌∙◌, ap, arith, w32, FitsSigned, rules}
use Rattle.std.proofs.lemmas.Int.{to_z-of_z}
use Rattle.pawn_cells.specs.Cells.{char_at}
use Rattle.amx_block.proofs.CopyLaws.{other_bytes}
use Rattle.amx_block.proofs.block.Block.write_byte.Goals as goal

pub returns-clause-others : goal.returns-clause-others
returns-clause-others c k ne =
    let value = c.with_char-changed.result.0 in
    let fits : FitsSigned w32 c.with_char-changed.result.0 = search rules in
    let was : FitsSigned w32 c.cell.result = search rules in
    other_bytes c.args.self.now.memory c.set_cell.new.self.memory c.args.at k value
    (ap (λ b. b.memory) (rw (to_z-of_z w32 value fits) at c.set_cell.ensures))
    (omega (arith, c.requires.within))
    (λ j l n. c.with_char-changed.ensures.others j l n
    ∙ ap (λ cell. char_at cell j) (to_z-of_z w32 c.cell.result was ∙ c.cell.ensures)) ne
