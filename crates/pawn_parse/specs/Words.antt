-- The words before a function, as code reads them.
use Rattle.std.specs.Prelude.{◌≡◌, ℕ, suc, ◌<◌, ◌≤◌, List, length, Option, Some, None, Result, Ok}
use Rattle.std.specs.Prelude.{Err}
use Rattle.pawn_lex.specs.declared.token.Token.{Token}
use Rattle.tree_rules.specs.declared.modifiers.Modifiers.{Modifiers}
use Rattle.tree_rules.specs.ReadDeclarations.{Words, modifiers}
use Rattle.parse_statements.specs.declared.read_fault.ReadFault.{ReadFault}
use Rattle.parse_statements.specs.declared.read_fault.ReadFault.TheVariants.{Syntax, Memory}
use Rattle.pawn_parse.specs.declared.functions.Words as held

-- those words, as the definitions have them
abbrev pub words_view : held.Words → Words
words_view x = record { all = x.all; stop = x.stop }

-- with another word at token i, or none there
abbrev pub AddsWord : List Token → Modifiers → ℕ → Result (Option Modifiers) ReadFault → Type 0
AddsWord ts m i (Ok None) = (n : ℕ) → modifiers ts (suc n) m i ≡ Some (record { all = m; stop = i })
AddsWord ts m i (Ok (Some next)) =
    (i < length ts) × ((n : ℕ) → modifiers ts (suc n) m i ≡ modifiers ts n next (suc i))
AddsWord ts m i (Err (Syntax at)) = (at ≤ length ts) × ((n : ℕ) → modifiers ts (suc n) m i ≡ None)
AddsWord ts m i (Err Memory) = Unit
