use Rattle.pawn_lex.proofs.LineLaws.{are_determined, only_tokens, only_fault}
use Rattle.pawn_lex.proofs.WithinLaws.{answer_within}
use Rattle.pawn_lex.proofs.lexer.tokens.Goals as goal

pub returns-clause-only_tokens : goal.returns-clause-only_tokens
returns-clause-only_tokens c list here =
    only_tokens c.args.lines.now.lines c.read.result list c.read.ensures here

pub returns-clause-only_fault : goal.returns-clause-only_fault
returns-clause-only_fault c fault place here =
    only_fault c.args.lines.now.lines c.read.result fault place c.read.ensures here

pub returns-clause-determined : goal.returns-clause-determined
returns-clause-determined c = are_determined c.args.lines.now.lines

pub returns-clause-within : goal.returns-clause-within
returns-clause-within c = answer_within c.args.lines.now.lines c.read.result c.read.ensures
