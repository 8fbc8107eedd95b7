use Rattle.std.proofs.Common.{arith, w32, rules, FitsSigned, ap, ◌∙◌, ◌++◌, set, take, drop}
use Rattle.std.proofs.lemmas.Int.{to_z-of_z}
use Rattle.host_embed.specs.Texts.{spread}
use Rattle.host_embed.proofs.TextLaws.{copy_more}
use Rattle.host_embed.proofs.text.copy_characters.Goals as goal

pub loop-index-preserved : goal.loop-index-preserved
loop-index-preserved c =
    let l = c.loop-index in
    let xs = spread c.args.packed c.args.cells.now in
    let old = c.args.out.now in
    let character = c.character_at.result in
    let fits : FitsSigned w32 character = search rules in
    let e = c.character_at.ensures in
    rw (to_z-of_z w32 character fits)
    (ap (λ row. set row l.index character) l.invariant
    ∙ ap (λ x. set (take l.index xs ++ drop l.index old) l.index x) e
    ∙ copy_more xs old l.index
    (omega (arith, c.requires, c.loop-index-test.true, c.min-index-end.ensures))
    (omega (arith, c.loop-index-test.true, c.min-index-end.ensures)))
