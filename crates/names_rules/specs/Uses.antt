-- The declarations that occurrences mean, as pairs of tokens in the order of the source.
use Rattle.std.specs.Prelude.{ℕ, List, [], ◌∷◌, ◌++◌, Option, Some, None}
use Rattle.names_rules.specs.Mark.{Mark, Opens, Closes, Mentions, Uses, Declares, Use}
use Rattle.names_rules.specs.Known.{Known}
use Rattle.names_rules.specs.Around.{Around}
use Rattle.names_rules.specs.Found.{meaning}

-- an occurrence and its declaration, which a predefined constant hasn't
abbrev pub declared_at : ℕ → Option ℕ → List (ℕ × ℕ)
declared_at token None = []
declared_at token (Some declared) = (token, declared) ∷ []

-- an occurrence with the token of its declaration, if one declares it
abbrev pub pair_of : Use → Option Known → List (ℕ × ℕ)
pair_of it None = []
pair_of it (Some known) = declared_at it.token known.token

-- the pairs of all occurrences among these marks
abbrev pub uses : Around → List Mark → List (ℕ × ℕ)
uses around [] = []
uses around (Opens ∷ before) = uses around before
uses around (Closes ∷ before) = uses around before
uses around (Mentions tag ∷ before) = uses around before
uses around (Uses it ∷ before) = uses around before ++ pair_of it (meaning around before it.name)
uses around (Declares it ∷ before) = uses around before
