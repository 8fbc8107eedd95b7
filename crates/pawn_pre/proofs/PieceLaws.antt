-- A piece more in front.
use Rattle.std.proofs.Common.{◌≡◌, ℕ, List, [], ◌∷◌, Bool, true, false, Option, Some, None, drop}
use Rattle.std.proofs.Common.{cond, refl, ap}
use Rattle.pawn_pre.specs.declared.quote.Quote.{Quote}
use Rattle.pawn_pre.specs.declared.piece.Piece.TheVariants.{Byte, Param}
use Rattle.pawn_pre.specs.Piece.{pieces, is_parameter, param_at, next_quote}

some_when : (t : Bool) (d e : ℕ) → cond t (Some d) None ≡ Some e → (t ≡ true) × (d ≡ e)
some_when true d e h = (refl, cc)
some_when false d e h = absurd (never h)
  where
    never : (let none : Option ℕ = None in none) ≡ Some e → ⊥
    never k = cc

none_when : (t : Bool) (d : ℕ) → cond t (Some d) None ≡ None → t ≡ false
none_when true d h = absurd (never h)
  where
    never : Some d ≡ None → ⊥
    never k = cc
none_when false d h = refl

pub pieces_param : (control : Option ℕ) (quote : Quote) (b e : ℕ) (behind : List ℕ)
    → param_at quote b behind ≡ Some e →
    pieces control quote (b ∷ behind) ≡ Param e ∷ pieces control quote (drop 1 behind)
unfolding pieces
pieces_param control quote b e [] h = absurd (never h)
  where
    never : (let none : Option ℕ = None in none) ≡ Some e → ⊥
    never k = cc
pieces_param control quote b e (d ∷ rest) h =
    let found = some_when (is_parameter quote b d) d e h in
    rw found.0 (ap (λ n. Param n ∷ pieces control quote rest) found.1)

pub pieces_byte : (control : Option ℕ) (quote : Quote) (b : ℕ) (behind : List ℕ)
    → param_at quote b behind ≡ None →
    pieces control quote (b ∷ behind) ≡ Byte b ∷ pieces control (next_quote control quote b) behind
unfolding pieces
pieces_byte control quote b [] h = refl
pieces_byte control quote b (d ∷ rest) h = rw (none_when (is_parameter quote b d) d h) refl
