use Rattle.std.proofs.Common.{rules, arith}
use Rattle.std.proofs.lemmas.Grind.{common_steps}
use Rattle.pawn_tree.specs.declared.variable.Init as held
use Rattle.pawn_tree.proofs.HeightLaws.{braces_height}
use Rattle.pawn_tree.proofs.variable_height.+init.Goals as goal

pub init_height-inits_height-requires : goal.init_height-inits_height-requires
init_height-inits_height-requires t c =
    let e = braces_height c.in-Braces.field-0 c.in-Braces.list c.in-Braces.field-2
    c.args.x.now c.in-Braces.is in
    (search (rules, held.the_lemmas), omega (arith, e, c.requires))

pub init_height-overflow_add-result : goal.init_height-overflow_add-result
init_height-overflow_add-result t c =
    let e = braces_height c.in-Braces.field-0 c.in-Braces.list c.in-Braces.field-2
    c.args.x.now c.in-Braces.is in
    grind (arith, common_steps)

pub init_height-returns-in-Braces : goal.init_height-returns-in-Braces
init_height-returns-in-Braces t c =
    let e = braces_height c.in-Braces.field-0 c.in-Braces.list c.in-Braces.field-2
    c.args.x.now c.in-Braces.is in
    grind (arith, common_steps)
