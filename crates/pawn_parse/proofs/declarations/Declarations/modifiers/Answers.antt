use Rattle.std.proofs.Common.{rules, arith, ◌≡◌, ◌+◌, ◌-◌, ◌∙◌, suc}
use Rattle.std.proofs.lemmas.Grind.{common_steps}
use Rattle.tree_rules.specs.ReadDeclarations.{modifiers}
use Rattle.parse_statements.proofs.Turns.{one_more, no_more}
use Rattle.pawn_parse.proofs.WordsLaws.{words_fail, words_end, words_more}
use Rattle.pawn_parse.proofs.declarations.Declarations.modifiers.Goals as goal

pub returns-in_err-next : goal.returns-in_err-next
returns-in_err-next c =
    let e = c.loop-turn.invariant ∙
    one_more (λ n. modifiers c.args.self.now.reader.parser.tokens.now n c.loop-turn.all
    c.loop-turn.stop) 4 c.loop-turn._turn c.loop-turn-test.true in
    let w = words_fail _ _ _ (4 - (c.loop-turn._turn + 1)) _ e c.in_err-next.ensures in
    first_of (search rules, grind (arith, common_steps))

pub returns-in_default : goal.returns-in_default
returns-in_default c =
    let e = c.loop-turn.invariant ∙
    one_more (λ n. modifiers c.args.self.now.reader.parser.tokens.now n c.loop-turn.all
    c.loop-turn.stop) 4 c.loop-turn._turn c.loop-turn-test.true in
    let p = rw c.in_default.is at c.in_ok-next.ensures in
    words_end _ _ _ (4 - (c.loop-turn._turn + 1)) e p

pub loop-turn-preserved : goal.loop-turn-preserved
loop-turn-preserved c =
    let e = c.loop-turn.invariant ∙
    one_more (λ n. modifiers c.args.self.now.reader.parser.tokens.now n c.loop-turn.all
    c.loop-turn.stop) 4 c.loop-turn._turn c.loop-turn-test.true in
    let p = rw c.in-Some.is at c.in_ok-next.ensures in
    let next : c.loop-turn.stop + 1 ≡ suc c.loop-turn.stop = omega arith in
    rw next (words_more _ _ _ (4 - (c.loop-turn._turn + 1)) _ e p)

pub returns : goal.returns
unfolding modifiers
returns c =
    let e = c.loop-turn.invariant ∙
    no_more (λ n. modifiers c.args.self.now.reader.parser.tokens.now n c.loop-turn.all
    c.loop-turn.stop) 4 c.loop-turn._turn c.loop-turn-test.false in
    first_of (search rules, grind (arith, common_steps))
