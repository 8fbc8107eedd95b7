use Rattle.types_laws.proofs.SizeLaws as sizes
use Rattle.types_laws.proofs.source_laws.tokens_are_within_bytes.Goals as goal

pub returns : goal.returns
returns c = sizes.tokens_within
