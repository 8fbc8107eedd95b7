-- Literals in a line: from `"` or `'` to the next such byte, or the line's end (Language Guide,
-- "Constants"). The control character and the byte behind it end none.
use Rattle.std.specs.Prelude.{ℕ, ◌==◌, Bool, true, false, if◌then◌else◌, ◌||◌}
use Rattle.pawn_pre.specs.declared.quote.Quote.{Quote}
use Rattle.pawn_pre.specs.declared.quote.Quote.TheVariants.{Outside, Within, Escaped}

-- `"` or `'`
abbrev pub is_quote_mark : ℕ → Bool
is_quote_mark b = (b == 34) || (b == 39)

-- in no literal
abbrev pub is_outside : Quote → Bool
is_outside Outside = true
is_outside (Within q) = false
is_outside (Escaped q) = false

-- where the byte behind this one stands
unfoldable pub quote_after : ℕ → Quote → ℕ → Quote
quote_after control Outside b = if is_quote_mark b then Within b else Outside
quote_after control (Within q) b =
    if b == control then Escaped q else (if b == q then Outside else Within q)
quote_after control (Escaped q) b = Within q
