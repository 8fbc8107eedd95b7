-- The names of heads are names.
use Rattle.std.proofs.Common.{◌≡◌, ◌≢◌, ℕ, List, [], ◌∷◌, ◌++◌, Bool, true, ◌&&◌, refl, arith}
use Rattle.std.specs.Prelude.{length, nat_lt, nat_le, codes}
use Rattle.std.specs.List.{list_all}
use Rattle.std.proofs.lemmas.Bool.{and_parts, ltb-true, leb-true}
use Rattle.std.proofs.lemmas.List.{length-append}
use Rattle.pawn_token.specs.declared.sign.Sign.{Sign}
use Rattle.pawn_token.specs.declared.sign.Sign.TheVariants as sign
use Rattle.pawn_token.specs.Signs.{sign_spelling}
use Rattle.pawn_meaning.specs.ProgramNames.{IsName}
use Rattle.types_laws.specs.Objects.{Each}
use Rattle.types_laws.proofs.Facts.{each_all, each_append}

-- some bytes, up to four, none of them 0
abbrev is_plain : List ℕ → Bool
is_plain bytes =
    (nat_lt 0 (length bytes) && nat_le (length bytes) 4) && list_all (λ b. nat_lt 0 b) bytes

sign_plain : (c : Sign) → is_plain (sign_spelling c) ≡ true
unfolding sign_spelling
sign_plain sign.ShiftUnsignedAssign = refl
sign_plain sign.ShiftUnsigned = refl
sign_plain sign.ShiftRightAssign = refl
sign_plain sign.ShiftLeftAssign = refl
sign_plain sign.Ellipsis = refl
sign_plain sign.ShiftRight = refl
sign_plain sign.ShiftLeft = refl
sign_plain sign.GreaterEqual = refl
sign_plain sign.LessEqual = refl
sign_plain sign.Equal = refl
sign_plain sign.NotEqual = refl
sign_plain sign.LogicalAnd = refl
sign_plain sign.LogicalOr = refl
sign_plain sign.AddAssign = refl
sign_plain sign.SubtractAssign = refl
sign_plain sign.MultiplyAssign = refl
sign_plain sign.DivideAssign = refl
sign_plain sign.RemainderAssign = refl
sign_plain sign.AndAssign = refl
sign_plain sign.OrAssign = refl
sign_plain sign.XorAssign = refl
sign_plain sign.Increment = refl
sign_plain sign.Decrement = refl
sign_plain sign.DotDot = refl
sign_plain sign.OpenParenthesis = refl
sign_plain sign.CloseParenthesis = refl
sign_plain sign.OpenBracket = refl
sign_plain sign.CloseBracket = refl
sign_plain sign.OpenBrace = refl
sign_plain sign.CloseBrace = refl
sign_plain sign.Semicolon = refl
sign_plain sign.Comma = refl
sign_plain sign.Dot = refl
sign_plain sign.Colon = refl
sign_plain sign.Question = refl
sign_plain sign.Assign = refl
sign_plain sign.Less = refl
sign_plain sign.Greater = refl
sign_plain sign.Plus = refl
sign_plain sign.Minus = refl
sign_plain sign.Star = refl
sign_plain sign.Slash = refl
sign_plain sign.Percent = refl
sign_plain sign.Ampersand = refl
sign_plain sign.Bar = refl
sign_plain sign.Caret = refl
sign_plain sign.Exclamation = refl
sign_plain sign.Tilde = refl

no_zeros : (bytes : List ℕ) → list_all (λ b. nat_lt 0 b) bytes ≡ true → Each (λ b. b ≢ 0) bytes
no_zeros [] e = tt
no_zeros (b ∷ more) e =
    let parts = and_parts (nat_lt 0 b) (list_all (λ x. nat_lt 0 x) more) e in
    let lt = ltb-true 0 b parts.0 in (λ same. omega (arith, lt, same), no_zeros more parts.1)

pub operator_name : (c : Sign) → IsName (codes "operator" ++ sign_spelling c)
operator_name c =
    let parts = and_parts _ (list_all (λ b. nat_lt 0 b) (sign_spelling c)) (sign_plain c) in
    let range =
    and_parts (nat_lt 0 (length (sign_spelling c))) (nat_le (length (sign_spelling c)) 4)
    parts.0 in
    let low = ltb-true 0 (length (sign_spelling c)) range.0 in
    let high = leb-true (length (sign_spelling c)) 4 range.1 in
    let count = length-append (codes "operator") (sign_spelling c) in
    let word : length (codes "operator") ≡ 8 = refl in
    record {
      no_zero = each_all (λ b. b ≢ 0) (codes "operator" ++ sign_spelling c)
          (each_append (λ b. b ≢ 0) (codes "operator") (sign_spelling c)
          (no_zeros (codes "operator") refl) (no_zeros (sign_spelling c) parts.1));
      least = omega (arith, low, count);
      most = omega (arith, high, count, word);
    }
