-- How a statement ends: with a semicolon where the next token is one. Else with nothing; then the
-- token before isn't strict, and the next one is first on its line, is `}` or is absent.
use Rattle.std.specs.Prelude.{ℕ, suc, ◌-◌, Bool, true, not, ◌&&◌, if◌then◌else◌, List, Option, Some}
use Rattle.std.specs.Prelude.{None}
use Rattle.pawn_token.specs.declared.sign.Sign.TheVariants as sign
use Rattle.pawn_lex.specs.declared.token.Token.{Token}
use Rattle.tree_rules.specs.declared.word.Word.{Word}
use Rattle.tree_rules.specs.declared.word.Word.TheVariants as w
use Rattle.tree_rules.specs.Tokens.{word, is_first, is_strict, sees}

-- whether a statement may end before a word without a semicolon
abbrev pub stops : Bool → Word → Bool
stops first w.Absent = true
stops first (w.Sign sign.CloseBrace) = true
stops first _ = first

-- the token behind the end of a statement whose last part ends before token i
unfoldable pub ending : List Token → ℕ → Option ℕ
ending ts i =
    if sees ts sign.Semicolon i then Some (suc i)
    else (if not (is_strict ts (i - 1)) && stops (is_first ts i) (word ts i) then Some i else None)
