-- A parameter of a pattern, byte by byte, with the brackets that are awaited. No promise rests on
-- this; it is proved to be the definition of how far a parameter reaches.
use Rattle.std.specs.Prelude.{ℕ, ◌==◌, suc, Option, Some, None, List, [], ◌∷◌, Bool, true, false}
use Rattle.std.specs.Prelude.{if◌then◌else◌, ◌&&◌}
use Rattle.std.specs.Option.{option_map}
use Rattle.pawn_pre.specs.declared.quote.Quote.{Quote}
use Rattle.pawn_pre.specs.declared.quote.Quote.TheVariants.{Outside, Within, Escaped}
use Rattle.pawn_pre.specs.Quote.{quote_after, is_quote_mark}
use Rattle.pawn_pre.specs.Group.{closer_of, is_closer}

-- what a byte is to a parameter: its end, a bracket that closes nothing here, or a part of it
-- behind which these brackets are awaited, the innermost first
pub data Look : Type 0 where
  Here : Look
  Fails : Look
  On : List ℕ → Quote → Look

-- a byte that opens a group awaits its closer
abbrev pub open_group : List ℕ → Option ℕ → Look → Look
open_group awaited (Some closer) other = On (closer ∷ awaited) Outside
open_group awaited None other = other

-- a closing bracket has to be the one awaited
abbrev pub close_group : List ℕ → ℕ → Look
close_group [] b = Fails
close_group (closer ∷ awaited) b = if b == closer then On awaited Outside else Fails

-- no group is open
abbrev pub is_none_awaited : List ℕ → Bool
is_none_awaited [] = true
is_none_awaited (closer ∷ awaited) = false

-- tested in this order: the byte that follows the parameter, a literal, a group, its end
unfoldable pub look : ℕ → ℕ → List ℕ → Quote → ℕ → Look
look control end awaited Outside b =
    if is_none_awaited awaited && (b == end) then Here
    else (if is_quote_mark b then On awaited (Within b)
    else open_group awaited (closer_of b)
    (if is_closer b then close_group awaited b else On awaited Outside))
look control end awaited (Within q) b = On awaited (quote_after control (Within q) b)
look control end awaited (Escaped q) b = On awaited (quote_after control (Escaped q) b)

-- the bytes up to the end, by what the first one is
abbrev pub bytewise_by : Look → (List ℕ → Quote → Option ℕ) → Option ℕ
bytewise_by Here go_on = Some 0
bytewise_by Fails go_on = None
bytewise_by (On awaited quote) go_on = option_map suc (go_on awaited quote)

-- how many bytes a parameter takes
unfoldable pub reach_bytewise : ℕ → ℕ → List ℕ → Quote → List ℕ → Option ℕ
reach_bytewise control end awaited quote [] = None
reach_bytewise control end awaited quote (b ∷ rest) =
    bytewise_by (look control end awaited quote b)
    (λ awaited' quote'. reach_bytewise control end awaited' quote' rest)
