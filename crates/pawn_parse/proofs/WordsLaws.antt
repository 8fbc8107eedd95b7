-- One turn of the words before a function.
use Rattle.std.proofs.Common.{◌≡◌, ℕ, suc, List, Option, Some, None, Result, Ok, Err, ◌∙◌}
use Rattle.pawn_lex.specs.declared.token.Token.{Token}
use Rattle.tree_rules.specs.declared.modifiers.Modifiers.{Modifiers}
use Rattle.tree_rules.specs.ReadDeclarations.{Words, modifiers}
use Rattle.parse_statements.specs.declared.read_fault.ReadFault.{ReadFault}
use Rattle.parse_statements.specs.declared.read_fault.ReadFault.TheVariants.{Syntax, Memory}
use Rattle.parse_statements.specs.Answers.{Answers}
use Rattle.pawn_parse.specs.Words.{AddsWord, words_view}

pub words_fail : (ts : List Token) (m : Modifiers) (i : ℕ) {out : Option Words} (n : ℕ)
    (fault : ReadFault) → out ≡ modifiers ts (suc n) m i → AddsWord ts m i (Err fault)
    → Answers ts words_view out (Err fault)
words_fail ts m i n (Syntax at) e p = (e ∙ p.1 n, p.0)
words_fail ts m i n Memory e p = tt

pub words_end : (ts : List Token) (m : Modifiers) (i : ℕ) {out : Option Words} (n : ℕ)
    → out ≡ modifiers ts (suc n) m i → AddsWord ts m i (Ok None)
    → out ≡ Some (record { all = m; stop = i })
words_end ts m i n e p = e ∙ p n

pub words_more : (ts : List Token) (m : Modifiers) (i : ℕ) {out : Option Words} (n : ℕ)
    (next : Modifiers) → out ≡ modifiers ts (suc n) m i → AddsWord ts m i (Ok (Some next))
    → out ≡ modifiers ts n next (suc i)
words_more ts m i n next e p = e ∙ p.1 n
