-- Signs: no two are spelled alike, and the first of the table that stands at a place is the
-- longest.
use Rattle.std.proofs.Common.{◌≡◌, ◌<◌, ◌≤◌, ◌⊎◌, inl, inr, ℕ, List, [], ◌∷◌, ◌++◌, Bool, true}
use Rattle.std.proofs.Common.{false, ◌&&◌, Some, None, cond, length, drop, refl, sym, ap, subst}
use Rattle.std.proofs.Common.{◌∙◌, arith, nat_eq, nat_le}
use Rattle.std.specs.List.{find, list_all, starts_with}
use Rattle.std.proofs.lemmas.Bool.Decides.{Decides-eqb, nat_tests}
use Rattle.std.proofs.lemmas.Slice.Eq.{starts_is}
use Rattle.pawn_token.specs.declared.sign.Sign.{Sign}
use Rattle.pawn_token.specs.declared.sign.Sign.TheVariants as sign
use Rattle.pawn_token.specs.declared.sign.TheConstants.{SIGNS}
use Rattle.pawn_token.specs.Reading.{sign_at}
use Rattle.pawn_token.specs.Signs.{sign_spelling}
use Rattle.pawn_token.proofs.ClassLaws.{bool_cases, both}

-- each sign is found by its spelling
pub sign_found : (sign : Sign) → sign_at (sign_spelling sign) ≡ Some sign
unfolding sign_at sign_spelling
sign_found sign.ShiftUnsignedAssign = refl
sign_found sign.ShiftUnsigned = refl
sign_found sign.ShiftRightAssign = refl
sign_found sign.ShiftLeftAssign = refl
sign_found sign.Ellipsis = refl
sign_found sign.ShiftRight = refl
sign_found sign.ShiftLeft = refl
sign_found sign.GreaterEqual = refl
sign_found sign.LessEqual = refl
sign_found sign.Equal = refl
sign_found sign.NotEqual = refl
sign_found sign.LogicalAnd = refl
sign_found sign.LogicalOr = refl
sign_found sign.AddAssign = refl
sign_found sign.SubtractAssign = refl
sign_found sign.MultiplyAssign = refl
sign_found sign.DivideAssign = refl
sign_found sign.RemainderAssign = refl
sign_found sign.AndAssign = refl
sign_found sign.OrAssign = refl
sign_found sign.XorAssign = refl
sign_found sign.Increment = refl
sign_found sign.Decrement = refl
sign_found sign.DotDot = refl
sign_found sign.OpenParenthesis = refl
sign_found sign.CloseParenthesis = refl
sign_found sign.OpenBracket = refl
sign_found sign.CloseBracket = refl
sign_found sign.OpenBrace = refl
sign_found sign.CloseBrace = refl
sign_found sign.Semicolon = refl
sign_found sign.Comma = refl
sign_found sign.Dot = refl
sign_found sign.Colon = refl
sign_found sign.Question = refl
sign_found sign.Assign = refl
sign_found sign.Less = refl
sign_found sign.Greater = refl
sign_found sign.Plus = refl
sign_found sign.Minus = refl
sign_found sign.Star = refl
sign_found sign.Slash = refl
sign_found sign.Percent = refl
sign_found sign.Ampersand = refl
sign_found sign.Bar = refl
sign_found sign.Caret = refl
sign_found sign.Exclamation = refl
sign_found sign.Tilde = refl

-- a sign has a byte at least
some_if_found : (sign : Sign) (spelling : List ℕ) → sign_at spelling ≡ Some sign
    → 0 < length spelling
unfolding sign_at sign_spelling
some_if_found sign [] e = absurd (cc)
some_if_found sign (byte ∷ spelling) e = omega arith

pub sign_some : (sign : Sign) → 0 < length (sign_spelling sign)
sign_some sign = some_if_found sign (sign_spelling sign) (sign_found sign)

pub sign_one : (a b : Sign) → sign_spelling a ≡ sign_spelling b → a ≡ b
sign_one a b e =
    let same : Some a ≡ Some b = sym (sign_found a) ∙ ap sign_at e ∙ sign_found b in
    cc

-- whether a sign stands at the front
abbrev pub stands : List ℕ → Sign → Bool
stands bytes sign = starts_with nat_eq bytes (sign_spelling sign)

pub stands_parts : (bytes : List ℕ) (sign : Sign) → stands bytes sign ≡ true
    → bytes ≡ sign_spelling sign ++ drop (length (sign_spelling sign)) bytes
stands_parts bytes sign h =
    (starts_is Decides-eqb bytes (sign_spelling sign) (stands bytes sign) refl).0 h

parts_stand : (bytes : List ℕ) (sign : Sign) (rest : List ℕ) → bytes ≡ sign_spelling sign ++ rest
    → stands bytes sign ≡ true
parts_stand bytes sign rest e =
    (starts_is Decides-eqb bytes (sign_spelling sign) (stands bytes sign) refl).1 rest e

-- no sign of a list is spelled longer than so
is_bounded : ℕ → List Sign → Bool
is_bounded n signs = list_all (λ sign. nat_le (length (sign_spelling sign)) n) signs

-- no sign of a list is spelled longer than one before it
falls : List Sign → Bool
falls [] = true
falls (sign ∷ signs) = is_bounded (length (sign_spelling sign)) signs && falls signs

signs_fall : falls SIGNS ≡ true
unfolding falls is_bounded sign_spelling
signs_fall = refl

-- what is found is the first element or stands behind it
find_step : (p : Sign → Bool) (first : Sign) (signs : List Sign) (found : Sign)
    → find p (first ∷ signs) ≡ Some found
    → ((p first ≡ true) × (found ≡ first)) ⊎ ((p first ≡ false) × (find p signs ≡ Some found))
find_step p first signs found e =
    elim (bool_cases (p first)) [
      | inl passes ↦
          let here : Some first ≡ Some found =
          sym (ap (λ b. cond b (Some first) (find p signs)) passes) ∙ e in
          inl (passes, cc)
      | inr fails ↦ inr (fails, sym (ap (λ b. cond b (Some first) (find p signs)) fails) ∙ e)
    ]

find_passes : (p : Sign → Bool) (signs : List Sign) (found : Sign) → find p signs ≡ Some found
    → p found ≡ true
find_passes p [] found e = absurd (cc)
find_passes p (first ∷ signs) found e =
    elim (find_step p first signs found e) [
      | inl (passes, is) ↦ ap p is ∙ passes
      | inr (fails, later) ↦ find_passes p signs found later
    ]

found_bounded : (p : Sign → Bool) (n : ℕ) (signs : List Sign) (found : Sign)
    → is_bounded n signs ≡ true → find p signs ≡ Some found
    → length (sign_spelling found) ≤ n
unfolding is_bounded
found_bounded p n [] found bounded e = absurd (cc)
found_bounded p n (first ∷ signs) found bounded e =
    let parts = both (nat_le (length (sign_spelling first)) n) (is_bounded n signs) bounded in
    elim (find_step p first signs found e) [
      | inl (passes, is) ↦
          let small : length (sign_spelling first) ≤ n = grind (arith, nat_tests, parts) in
          subst (λ sign. length (sign_spelling sign) ≤ n) (sym is) small
      | inr (fails, later) ↦ found_bounded p n signs found parts.1 later
    ]

-- the first that passes one test is as long as each that passes it
found_longest : (p q : Sign → Bool) (signs : List Sign) (found other : Sign) → falls signs ≡ true
    → find q signs ≡ Some found
    → find p signs ≡ Some other → q other ≡ true
    → length (sign_spelling other) ≤ length (sign_spelling found)
unfolding falls
found_longest p q [] found other fall e f passes = absurd (cc)
found_longest p q (first ∷ signs) found other fall e f passes =
    let parts = both (is_bounded (length (sign_spelling first)) signs) (falls signs) fall in
    elim (find_step q first signs found e) [
      | inl (here, is) ↦
          subst (λ sign. length (sign_spelling other) ≤ length (sign_spelling sign)) (sym is)
          (elim (find_step p first signs other f) [
            | inl (also, same) ↦ subst (λ sign. length (sign_spelling sign)
                ≤ length (sign_spelling first)) (sym same) (omega arith)
            | inr (fails, later) ↦ found_bounded p
                (length (sign_spelling first)) signs other parts.0 later
          ])
      | inr (not_here, later) ↦
          elim (find_step p first signs other f) [
            | inl (also, same) ↦
                let wrong : q first ≡ true = ap q (sym same) ∙ passes in
                absurd (cc)
            | inr (fails, further) ↦ found_longest p q signs found other parts.1 later
                further passes
          ]
    ]

none_passes : (p q : Sign → Bool) (signs : List Sign) (other : Sign) → find q signs ≡ None
    → find p signs ≡ Some other → q other ≡ true → ⊥
none_passes p q [] other e f passes = absurd (cc)
none_passes p q (first ∷ signs) other e f passes =
    elim (bool_cases (q first)) [
      | inl here ↦
          let wrong : Some first ≡ None =
          sym (ap (λ b. cond b (Some first) (find q signs)) here) ∙ e in
          absurd (cc)
      | inr not_here ↦
          let later : find q signs ≡ None =
          sym (ap (λ b. cond b (Some first) (find q signs)) not_here) ∙ e in
          elim (find_step p first signs other f) [
            | inl (also, same) ↦
                let wrong : q first ≡ true = ap q (sym same) ∙ passes in
                absurd (cc)
            | inr (fails, further) ↦ none_passes p q signs other later further passes
          ]
    ]

-- the sign that is read stands at the front, and no longer one does
pub sign_stands : (at : List ℕ) (sign : Sign) → sign_at at ≡ Some sign
    → at ≡ sign_spelling sign ++ drop (length (sign_spelling sign)) at
unfolding sign_at
sign_stands at sign e = stands_parts at sign (find_passes (stands at) SIGNS sign e)

pub sign_longest : (at : List ℕ) (sign other : Sign) (rest : List ℕ) → sign_at at ≡ Some sign
    → at ≡ sign_spelling other ++ rest
    → length (sign_spelling other) ≤ length (sign_spelling sign)
unfolding sign_at
sign_longest at sign other rest e parts =
    found_longest (stands (sign_spelling other)) (stands at) SIGNS sign other signs_fall e
    (sign_found other) (parts_stand at other rest parts)

pub sign_none : (at : List ℕ) (other : Sign) (rest : List ℕ) → sign_at at ≡ None
    → at ≡ sign_spelling other ++ rest → ⊥
unfolding sign_at
sign_none at other rest e parts =
    none_passes (stands (sign_spelling other)) (stands at) SIGNS other e (sign_found other)
    (parts_stand at other rest parts)
