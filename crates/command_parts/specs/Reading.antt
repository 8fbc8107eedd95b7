-- What reading words answers: what they are, or that they are no command. Want of memory tells
-- nothing.
use Rattle.std.specs.Prelude.{◌≡◌, Option, None, Some, Result, Ok, Err}
use Rattle.command_parts.specs.declared.command_words.WordsFault.{WordsFault}
use Rattle.command_parts.specs.declared.command_words.WordsFault.TheVariants.{Bad, Memory}

-- words are bad where this is so
abbrev pub IsBad : WordsFault → Type 0 → Type 0
IsBad Bad cause = cause
IsBad Memory cause = Unit {0}

-- an answer agrees with what the words say: that command, or words that are none
abbrev pub Reads : {A : Type 0} → Option A → Result A WordsFault → Type 0
Reads said (Ok it) = said ≡ Some it
Reads said (Err fault) = IsBad fault (said ≡ None)
