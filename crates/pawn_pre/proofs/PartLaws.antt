-- Parts are tokens with their constants resolved.
use Rattle.std.proofs.Common.{◌≡◌, ℕ, Option, Some, None, List, [], ◌∷◌, map, drop, length, refl}
use Rattle.std.proofs.Common.{sym, ap, ◌∙◌, arith}
use Rattle.pawn_cells.specs.declared.constant.Constant.{Constant}
use Rattle.pawn_cells.specs.declared.operator.Comparison.TheVariants as comparison
use Rattle.pawn_cells.specs.declared.operator.Logical.TheVariants as logic
use Rattle.pawn_cells.specs.declared.operator.Operator.TheVariants as between
use Rattle.pawn_cells.specs.Constants.{predefined}
use Rattle.pawn_token.specs.declared.kind.TokenKind.{TokenKind}
use Rattle.pawn_token.specs.declared.kind.TokenKind.TheVariants as kind
use Rattle.pawn_token.specs.declared.sign.Sign.{Sign}
use Rattle.pawn_token.specs.declared.sign.Sign.TheVariants as sign
use Rattle.pawn_pre.specs.declared.part.Infix.TheVariants.{Cells, Compare, Logic}
use Rattle.pawn_pre.specs.declared.part.Part.{Part}
use Rattle.pawn_pre.specs.declared.part.Part.TheVariants as part
use Rattle.pawn_pre.specs.Condition.{resolved, constant_or_name}
use Rattle.pawn_pre.specs.ConditionParts.{operator_of, other_of, constant_part, sign_part, part_of}
use Rattle.pawn_pre.specs.ConditionParts.{with_parts, part_then, parts_of}
use Rattle.pawn_pre.proofs.NestedLaws.{word}

pub same_part : (p q : Part) → (let some : Option Part = Some p in some) ≡ Some q → p ≡ q
same_part p q e = cc

pub no_part : {A : Type 0} (q : Part) → (let none : Option Part = None in none) ≡ Some q → A
no_part q e = absurd (never e)
  where
    never : (let none : Option Part = None in none) ≡ Some q → ⊥
    never h = cc

sign_forth : (s : Sign) (p : Part) → sign_part s ≡ Some p → word p ≡ kind.Sign s
unfolding operator_of other_of
sign_forth sign.ShiftUnsignedAssign p e = no_part p e
sign_forth sign.ShiftUnsigned p e = ap word (sym (same_part _ p e))
sign_forth sign.ShiftRightAssign p e = no_part p e
sign_forth sign.ShiftLeftAssign p e = no_part p e
sign_forth sign.Ellipsis p e = no_part p e
sign_forth sign.ShiftRight p e = ap word (sym (same_part _ p e))
sign_forth sign.ShiftLeft p e = ap word (sym (same_part _ p e))
sign_forth sign.GreaterEqual p e = ap word (sym (same_part _ p e))
sign_forth sign.LessEqual p e = ap word (sym (same_part _ p e))
sign_forth sign.Equal p e = ap word (sym (same_part _ p e))
sign_forth sign.NotEqual p e = ap word (sym (same_part _ p e))
sign_forth sign.LogicalAnd p e = ap word (sym (same_part _ p e))
sign_forth sign.LogicalOr p e = ap word (sym (same_part _ p e))
sign_forth sign.AddAssign p e = no_part p e
sign_forth sign.SubtractAssign p e = no_part p e
sign_forth sign.MultiplyAssign p e = no_part p e
sign_forth sign.DivideAssign p e = no_part p e
sign_forth sign.RemainderAssign p e = no_part p e
sign_forth sign.AndAssign p e = no_part p e
sign_forth sign.OrAssign p e = no_part p e
sign_forth sign.XorAssign p e = no_part p e
sign_forth sign.Increment p e = no_part p e
sign_forth sign.Decrement p e = no_part p e
sign_forth sign.DotDot p e = no_part p e
sign_forth sign.OpenParenthesis p e = ap word (sym (same_part _ p e))
sign_forth sign.CloseParenthesis p e = ap word (sym (same_part _ p e))
sign_forth sign.OpenBracket p e = no_part p e
sign_forth sign.CloseBracket p e = no_part p e
sign_forth sign.OpenBrace p e = no_part p e
sign_forth sign.CloseBrace p e = no_part p e
sign_forth sign.Semicolon p e = no_part p e
sign_forth sign.Comma p e = no_part p e
sign_forth sign.Dot p e = no_part p e
sign_forth sign.Colon p e = ap word (sym (same_part _ p e))
sign_forth sign.Question p e = ap word (sym (same_part _ p e))
sign_forth sign.Assign p e = no_part p e
sign_forth sign.Less p e = ap word (sym (same_part _ p e))
sign_forth sign.Greater p e = ap word (sym (same_part _ p e))
sign_forth sign.Plus p e = ap word (sym (same_part _ p e))
sign_forth sign.Minus p e = ap word (sym (same_part _ p e))
sign_forth sign.Star p e = ap word (sym (same_part _ p e))
sign_forth sign.Slash p e = ap word (sym (same_part _ p e))
sign_forth sign.Percent p e = ap word (sym (same_part _ p e))
sign_forth sign.Ampersand p e = ap word (sym (same_part _ p e))
sign_forth sign.Bar p e = ap word (sym (same_part _ p e))
sign_forth sign.Caret p e = ap word (sym (same_part _ p e))
sign_forth sign.Exclamation p e = ap word (sym (same_part _ p e))
sign_forth sign.Tilde p e = ap word (sym (same_part _ p e))

name_forth : (name : List ℕ) (o : Option Constant) (p : Part) → constant_part o ≡ Some p
    → word p ≡ constant_or_name name o
name_forth name None p e = no_part p e
name_forth name (Some constant) p e = ap word (sym (same_part (part.Value constant.value) p e))

-- a part is spelled by its token
pub forth : (k : TokenKind) (p : Part) → part_of k ≡ Some p → word p ≡ resolved k
forth (kind.Name name) p e = name_forth name (predefined name) p e
forth (kind.Key key) p e = no_part p e
forth (kind.Number v) p e = ap word (sym (same_part (part.Value v) p e))
forth (kind.Text bytes packed) p e = no_part p e
forth (kind.Sign s) p e = sign_forth s p e

word_part : (p : Part) → part_of (word p) ≡ Some p
unfolding operator_of other_of
word_part (part.Value v) = refl
word_part (part.Two (Cells between.Multiply)) = refl
word_part (part.Two (Cells between.Divide)) = refl
word_part (part.Two (Cells between.Remainder)) = refl
word_part (part.Two (Cells between.Add)) = refl
word_part (part.Two (Cells between.Subtract)) = refl
word_part (part.Two (Cells between.ShiftLeft)) = refl
word_part (part.Two (Cells between.ShiftRight)) = refl
word_part (part.Two (Cells between.ShiftUnsigned)) = refl
word_part (part.Two (Cells between.And)) = refl
word_part (part.Two (Cells between.Xor)) = refl
word_part (part.Two (Cells between.Or)) = refl
word_part (part.Two (Cells between.Equal)) = refl
word_part (part.Two (Cells between.NotEqual)) = refl
word_part (part.Two (Compare comparison.Less)) = refl
word_part (part.Two (Compare comparison.LessEqual)) = refl
word_part (part.Two (Compare comparison.Greater)) = refl
word_part (part.Two (Compare comparison.GreaterEqual)) = refl
word_part (part.Two (Logic logic.And)) = refl
word_part (part.Two (Logic logic.Or)) = refl
word_part part.Not = refl
word_part part.Invert = refl
word_part part.Question = refl
word_part part.Colon = refl
word_part part.Open = refl
word_part part.Close = refl

name_part : (name : List ℕ) (o : Option Constant) → predefined name ≡ o
    → part_of (constant_or_name name o) ≡ constant_part o
name_part name None e = ap constant_part e
name_part name (Some constant) e = refl

resolved_part : (k : TokenKind) → part_of (resolved k) ≡ part_of k
resolved_part (kind.Name name) = name_part name (predefined name) refl
resolved_part (kind.Key key) = refl
resolved_part (kind.Number v) = refl
resolved_part (kind.Text bytes packed) = refl
resolved_part (kind.Sign s) = refl

some_parts : (a b : List Part) → (let some : Option (List Part) = Some a in some) ≡ Some b → a ≡ b
some_parts a b e = cc

no_parts : {A : Type 0} (b : List Part)
    → (let none : Option (List Part) = None in none) ≡ Some b → A
no_parts b e = absurd (never e)
  where
    never : (let none : Option (List Part) = None in none) ≡ Some b → ⊥
    never h = cc

one_spelled : (k : TokenKind) (kinds : List TokenKind) (all : List Part)
    → ((more : List Part) → parts_of kinds ≡ Some more → map word more ≡ map resolved kinds)
    → (o : Option Part) (os : Option (List Part)) → part_of k ≡ o → parts_of kinds ≡ os
    → part_then o os ≡ Some all
    → map word all ≡ map resolved (k ∷ kinds)
unfolding with_parts
one_spelled k kinds all later None os f g h = no_parts all h
one_spelled k kinds all later (Some p) None f g h = no_parts all h
one_spelled k kinds all later (Some p) (Some more) f g h =
    ap (map word) (sym (some_parts (p ∷ more) all h)) ∙ ap (λ t. t ∷ map word more) (forth k p f)
    ∙ ap (λ ts. resolved k ∷ ts) (later more g)

-- the parts of tokens spell them
pub kinds_spelled : (kinds : List TokenKind) (all : List Part) → parts_of kinds ≡ Some all
    → map word all ≡ map resolved kinds
unfolding parts_of with_parts
kinds_spelled [] all e = ap (map word) (sym (some_parts [] all e))
kinds_spelled (k ∷ kinds) all e =
    one_spelled k kinds all (λ more f. kinds_spelled kinds more f) (part_of k)
    (parts_of kinds) refl refl e

head_same : (a b : TokenKind) (us vs : List TokenKind) → a ∷ us ≡ b ∷ vs → a ≡ b
head_same a b us vs e = cc

-- tokens that parts spell have these parts
pub spelled_parts : (kinds : List TokenKind) (all : List Part) → map word all ≡ map resolved kinds
    → parts_of kinds ≡ Some all
unfolding parts_of with_parts
spelled_parts [] [] e = refl
spelled_parts [] (p ∷ all) e = absurd (never (ap length e))
  where
    never : length (word p ∷ map word all) ≡ 0 → ⊥
    never h = omega (arith, h)
spelled_parts (k ∷ kinds) [] e = absurd (never (ap length e))
  where
    never : 0 ≡ length (resolved k ∷ map resolved kinds) → ⊥
    never h = omega (arith, h)
spelled_parts (k ∷ kinds) (p ∷ all) e =
    let first : part_of k ≡ Some p =
    sym (resolved_part k) ∙ ap part_of (sym (head_same _ _ _ _ e)) ∙ word_part p in
    let later : parts_of kinds ≡ Some all = spelled_parts kinds all (ap (drop 1) e) in
    ap (λ o. part_then o (parts_of kinds)) first ∙ ap (λ os. part_then (Some p) os) later
