use Rattle.types_laws.proofs.TokenLaws as tokens
use Rattle.types_laws.proofs.source_laws.tokens_are_small.Goals as goal

pub returns : goal.returns
returns c = tokens.tokens_small
