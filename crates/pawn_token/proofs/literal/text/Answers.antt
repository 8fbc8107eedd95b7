use Rattle.std.proofs.Common.{ap, sym, subst, ◌∙◌, Ok}
use Rattle.pawn_token.specs.Literal.{Spells}
use Rattle.pawn_token.specs.Reading.{unit_seen}
use Rattle.pawn_token.proofs.LiteralLaws.{next_shorter, spells_more}
use Rattle.pawn_token.proofs.literal.text.Goals as goal

pub loop-byte-smaller : goal.loop-byte-smaller
loop-byte-smaller c =
    next_shorter c.args.control 34 c.loop-byte.at.now c.in-Ok-Some.byte c.in-Ok-Some.rest.now
    (sym c.in-Ok-Some.ensures ∙ ap (λ f. unit_seen (Ok f)) c.in-Ok-Some.field-0-is)

pub loop-byte-preserved : goal.loop-byte-preserved
loop-byte-preserved c =
    subst (λ found. Spells c.args.control 34 c.args.bytes.now found c.in-Ok-Some.rest.now)
    (sym c.in_ok-push-in-Ok-Some.ensures.ok)
    (spells_more c.args.control 34 c.args.bytes.now c.loop-byte.found c.loop-byte.at.now
    c.in-Ok-Some.byte c.in-Ok-Some.rest.now c.loop-byte.invariant
    (sym c.in-Ok-Some.ensures ∙ ap (λ f. unit_seen (Ok f)) c.in-Ok-Some.field-0-is))
