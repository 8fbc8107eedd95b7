-- A byte of a condition more, while `defined` is replaced.
use Rattle.std.proofs.Common.{◌≡◌, ℕ, ◌-◌, ◌++◌, List, [], ◌∷◌, Bool, Some, None, if◌then◌else◌}
use Rattle.std.proofs.Common.{◌+◌, ◌<◌, length, drop, get_or, arith, ◌∙◌, append_assoc}
use Rattle.std.proofs.lemmas.Grind.{common_steps}
use Rattle.pawn_pre.specs.declared.quote.Quote.{Quote}
use Rattle.pawn_token.specs.declared.class.Class.TheVariants as class
use Rattle.pawn_token.specs.Class.{is_in}
use Rattle.pawn_pre.specs.Quote.{quote_after}
use Rattle.pawn_pre.specs.Table.{Rules}
use Rattle.pawn_pre.specs.Substitution.{begins_whole_name}
use Rattle.pawn_pre.specs.Defined.{Asked, digit, answered, defined_at}

-- the byte at a place, and those behind it
pub next_bytes : (bytes : List ℕ) (i : ℕ) → i < length bytes
    → drop i bytes ≡ get_or bytes i 0 ∷ drop (i + 1) bytes
next_bytes bytes i within = grind (arith, common_steps)

module _ (out whole : List ℕ) (rules : Rules) (control : ℕ) (quote : Quote) (joined : Bool) (b : ℕ)
    (rest : List ℕ) where
  pub kept_byte : (if begins_whole_name quote joined b then defined_at (b ∷ rest) else None)
      ≡ None →
      out ++ answered rules control quote joined 0 (b ∷ rest) ≡ whole →
      (out ++ b ∷ []) ++ answered rules control (quote_after control quote b)
      (is_in class.NameByte b) 0 rest ≡ whole
  unfolding answered
  kept_byte h e = append_assoc out (b ∷ []) _ ∙ rw h at e

  pub answered_name : (a : Asked)
      → (if begins_whole_name quote joined b then defined_at (b ∷ rest) else None) ≡ Some a →
      out ++ answered rules control quote joined 0 (b ∷ rest) ≡ whole →
      (out ++ digit rules a.name ∷ []) ++ answered rules control (quote_after control quote b)
      (is_in class.NameByte b) (length rest - length a.rest) rest ≡ whole
  unfolding answered
  answered_name a h e = append_assoc out (digit rules a.name ∷ []) _ ∙ rw h at e
