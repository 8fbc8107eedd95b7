-- The program of a source is as the generator asks.
use Rattle.std.proofs.Common.{◌<◌, ◌^◌, arith}
use Rattle.pawn_pre.specs.Bounds.{bytes_of}
use Rattle.pawn_lex.proofs.WithinLaws.{tokens_within}
use Rattle.types_laws.specs.KnownAround.{TypedProgramsAreWithinLimits}
use Rattle.types_laws.specs.NamedPrograms.{AreNamedTokens, ProgramsHaveNames, TagsAreFew}
use Rattle.types_laws.specs.SmallTokens.{TokensAreSmall}
use Rattle.types_laws.specs.TokenSizes.{TokensAreWithinBytes}
use Rattle.types_laws.specs.WrittenTrees.{TreesAreWritten}
use Rattle.types_laws.specs.ValidPrograms.{ProgramsAreValid}
use Rattle.types_laws.specs.GoodSources.{SourcesAreGood}

pub sources_good : TokensAreSmall → TokensAreWithinBytes → TreesAreWritten → TagsAreFew
    → ProgramsAreValid → TypedProgramsAreWithinLimits → ProgramsHaveNames → SourcesAreGood
sources_good small within trees few valid limits names lines ts tree dynamic program warnings
    bytes short are parse typed =
    let below : bytes_of lines < 2 ^ 30 = omega (arith, short) in
    let written = trees ts tree (small lines ts bytes below are) parse in
    let named : AreNamedTokens ts = record {
      named = (tokens_within lines ts are).named;
      bytes = omega (arith, within lines ts are, short);
    } in
    let tags = few ts tree named parse in
    record {
      valid = valid tree dynamic program warnings typed written tags;
      limits = (limits tree dynamic program warnings typed written tags).limits;
      names = names ts tree dynamic program warnings named parse typed;
    }
