use Rattle.std.proofs.Common.{rules, ◌<◌, ap, ◌∙◌, w32, FitsSigned}
use Rattle.pawn_cells.specs.Cells.{char_at}
use Rattle.pawn_cells.proofs.CharacterLemmas.{is_with_char, char_at-with_char_same}
use Rattle.pawn_cells.proofs.CharacterLemmas.{char_at-with_char_other}
use Rattle.pawn_cells.proofs.cell.Cell.with_char.Goals as goal

pub returns-clause-value : goal.returns-clause-value
returns-clause-value c =
    let fits : FitsSigned w32 c.args.self.0 = search rules in
    let written : FitsSigned w32 c.from_be_bytes.result = search rules in
    let byte : c.args.byte < 256 = search rules in
    is_with_char c.args.self.0 c.from_be_bytes.result c.args.index c.args.byte
    c.to_be_bytes-characters.result
    fits written c.requires byte c.to_be_bytes-characters.ensures c.from_be_bytes.ensures

pub returns-clause-read : goal.returns-clause-read
returns-clause-read c =
    let fits : FitsSigned w32 c.args.self.0 = search rules in
    let byte : c.args.byte < 256 = search rules in
    ap (λ cell. char_at cell c.args.index) (returns-clause-value c)
    ∙ char_at-with_char_same c.args.self.0 c.args.index c.args.byte fits c.requires byte

pub returns-clause-others : goal.returns-clause-others
returns-clause-others c j below other =
    let fits : FitsSigned w32 c.args.self.0 = search rules in
    let byte : c.args.byte < 256 = search rules in
    ap (λ cell. char_at cell j) (returns-clause-value c)
    ∙ char_at-with_char_other c.args.self.0 c.args.index c.args.byte j fits c.requires byte
    below other
