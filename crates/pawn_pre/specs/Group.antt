-- How far a parameter of a pattern reaches: to the first place of the byte that follows it, over
-- whole literals and whole groups (Language Guide, "Preprocessor", on text substitution).
use Rattle.std.specs.Prelude.{ℕ, ◌-◌, ◌==◌, zero, suc, Option, Some, None, List, [], ◌∷◌, length}
use Rattle.std.specs.Prelude.{Bool, if◌then◌else◌, ◌||◌}
use Rattle.std.specs.Option.{option_map, option_and_then}
use Rattle.pawn_pre.specs.declared.quote.Quote.{Quote}
use Rattle.pawn_pre.specs.declared.quote.Quote.TheVariants.{Within}
use Rattle.pawn_pre.specs.Quote.{is_outside, quote_after, is_quote_mark}

-- the bracket that closes a group
abbrev pub closer_of : ℕ → Option ℕ
closer_of b =
    if b == 40 then Some 41
    else (if b == 91 then Some 93 else (if b == 123 then Some 125 else None))

-- `)`, `]` or `}`
abbrev pub is_closer : ℕ → Bool
is_closer b = (b == 41) || (b == 93) || (b == 125)

-- what stands behind the literal that is open
unfoldable pub past_literal : ℕ → Quote → List ℕ → Option (List ℕ)
past_literal control quote [] = None
past_literal control quote (b ∷ rest) =
    if is_outside (quote_after control quote b) then Some rest
    else past_literal control (quote_after control quote b) rest

-- a group goes up to its closer; any other bracket or byte is what it is
abbrev pub past_group : Option ℕ → (ℕ → Option (List ℕ)) → Option (List ℕ) → Option (List ℕ)
past_group None up_to other = other
past_group (Some closer) up_to other = up_to closer

-- what stands behind the literal, the group or the byte that begins with this byte; a bracket that
-- closes nothing begins none of them
abbrev pub past_part : ℕ → ℕ → List ℕ → (ℕ → Option (List ℕ)) → Option (List ℕ)
past_part control b rest up_to =
    if is_quote_mark b then past_literal control (Within b) rest
    else past_group (closer_of b) up_to (if is_closer b then None else Some rest)

-- what stands behind the first place of a byte, over whole literals and whole groups, where so many
-- bytes may be looked at; a group ends at the first place of its closer
unfoldable pub past : ℕ → ℕ → ℕ → List ℕ → Option (List ℕ)
past control zero stop bytes = None
past control (suc more) stop [] = None
past control (suc more) stop (b ∷ rest) =
    if b == stop then Some rest
    else option_and_then (λ behind. past control more stop behind)
    (past_part control b rest (λ closer. past control more closer rest))

-- how many bytes a parameter takes that `stop` follows
unfoldable pub reach : ℕ → ℕ → List ℕ → Option ℕ
reach control stop bytes =
    option_map (λ behind. length bytes - suc (length behind))
    (past control (length bytes) stop bytes)

-- the same, where a byte follows it
abbrev pub reach_to : ℕ → Option ℕ → List ℕ → Option ℕ
reach_to control None bytes = None
reach_to control (Some stop) bytes = reach control stop bytes
