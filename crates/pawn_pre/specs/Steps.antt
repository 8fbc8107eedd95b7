-- What a byte is to a parameter, as the code tells it.
use Rattle.std.specs.Prelude.{◌≡◌, ℕ, List}
use Rattle.pawn_pre.specs.declared.quote.Quote.{Quote}
use Rattle.pawn_pre.specs.declared.group.Step.{Step}
use Rattle.pawn_pre.specs.declared.group.Step.TheVariants as step
use Rattle.pawn_pre.specs.GroupScan.{Look, Here, Fails, On}

-- the same, with what is open behind the byte
abbrev pub Steps : Look → Step → List ℕ → Quote → Type 0
Steps look step.Here awaited quote = look ≡ Here
Steps look step.Fails awaited quote = look ≡ Fails
Steps look step.On awaited quote = look ≡ On awaited quote
