use Rattle.types_laws.proofs.SourceLaws as sources
use Rattle.types_laws.proofs.source_laws.sources_are_good.Goals as goal

pub returns : goal.returns
returns c =
    sources.sources_good c.tokens_are_small.ensures c.tokens_are_within_bytes.ensures
    c.trees_are_written.ensures c.tags_are_few.ensures c.programs_are_valid.ensures
    c.typed_programs_are_within_limits.ensures c.programs_have_names.ensures
