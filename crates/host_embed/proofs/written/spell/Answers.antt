use Rattle.std.proofs.Common.{arith, rules, w32, FitsSigned, length-set, length, ◌∙◌, ◌≡◌, ◌<◌, ◌≤◌}
use Rattle.host_embed.specs.Written.{text_cells}
use Rattle.std.proofs.lemmas.Int.{to_z-of_z}
use Rattle.host_embed.proofs.WrittenLaws.{spell_next, rest_next, spelled}
use Rattle.host_embed.proofs.written.spell.Goals as goal

pub loop-index-preserved : goal.loop-index-preserved
loop-index-preserved c =
    let l = c.loop-index in
    let text = c.args.text.now in
    let packed = c.args.packed in
    let cell = c.cell_at.result in
    let fits : FitsSigned w32 cell = search rules in
    let within : l.index < length l.part = omega (arith, c.requires, l.invariant.size, c.loop-index-test.true, c.text_cells-index-end.ensures) in
    rw (to_z-of_z w32 cell fits) (record {
      size = length-set l.part l.index cell ∙ l.invariant.size;
      rest = rest_next packed text l.part c.args.part.now l.index cell l.invariant.rest;
      bytes = spell_next packed text l.part l.index cell within l.invariant.bytes c.cell_at.ensures;
    })

pub returns : goal.returns
returns c =
    let l = c.loop-index in
    let all : l.index ≡ text_cells c.args.packed (length c.args.text.now) = omega (arith, l.auto, c.loop-index-test.false, c.text_cells-index-end.ensures) in
    spelled c.args.packed c.args.text.now l.part c.args.part.now l.index all
    (let room : l.index ≤ length c.args.part.now = omega (arith, all, c.requires) in room) l.invariant.size l.invariant.rest l.invariant.bytes
