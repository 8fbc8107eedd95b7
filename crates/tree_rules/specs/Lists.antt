-- Lists of parts, and parts that may be left out. A part is a relation: its height, what it is, and
-- the tokens from which and up to which it stands.
use Rattle.std.specs.Prelude.{◌≡◌, ℕ, suc, max, Bool, true, false, List, [], ◌∷◌, Option, Some}
use Rattle.std.specs.Prelude.{None}
use Rattle.pawn_token.specs.declared.sign.Sign.{Sign}
use Rattle.pawn_token.specs.declared.sign.Sign.TheVariants as sign
use Rattle.pawn_lex.specs.declared.token.Token.{Token}
use Rattle.tree_rules.specs.declared.word.Word.TheVariants as w
use Rattle.tree_rules.specs.Tokens.{word, sees}

-- a relation of a height, a part, and the tokens from which and up to which it stands
abbrev pub Part : Type 0 → Type 1
Part A = ℕ → A → ℕ → ℕ → Type 0

-- parts one behind another, as many as begin where `more` says so
pub data Many {A : Type 0} (more : ℕ → Bool) (part : Part A) : ℕ → List A → ℕ → ℕ → Type 0 where
  no_more : {i : ℕ} → more i ≡ false → Many more part 0 [] i i
  one_more : {h i j g k : ℕ} {x : A} {xs : List A} → more i ≡ true → part h x i j
      → Many more part g xs j k
      → Many more part (max h g) (x ∷ xs) i k

-- a part behind a sign of one token
abbrev pub Behind : {A : Type 0} → Part A → Part A
Behind part h x i j = part h x (suc i) j

-- a first part, and others behind it
pub data Several {A : Type 0} (more : ℕ → Bool) (first others : Part A) : ℕ → List A → ℕ → ℕ
    → Type 0 where
  several : {h i j g k : ℕ} {x : A} {xs : List A} → first h x i j → Many more others g xs j k
      → Several more first others (max h g) (x ∷ xs) i k

-- one part or more, with commas between them
abbrev pub Listed : {A : Type 0} → List Token → Part A → Part (List A)
Listed ts part = Several (sees ts sign.Comma) part (Behind part)

-- parts with commas between them up to a sign, or none
pub data UpTo {A : Type 0} (ts : List Token) (c : Sign) (part : Part A) : ℕ → List A → ℕ → ℕ
    → Type 0 where
  none_up_to : {i : ℕ} → word ts i ≡ w.Sign c → UpTo ts c part 0 [] i i
  some_up_to : {h i j : ℕ} {xs : List A} → sees ts c i ≡ false → Listed ts part h xs i j
      → word ts j ≡ w.Sign c
      → UpTo ts c part h xs i j

-- a sign with a part behind it, or nothing where that sign doesn't stand
pub data Led {A : Type 0} (ts : List Token) (c : Sign) (part : Part A) : ℕ → Option A → ℕ → ℕ
    → Type 0 where
  left_out : {i : ℕ} → sees ts c i ≡ false → Led ts c part 0 None i i
  led : {h i j : ℕ} {x : A} → word ts i ≡ w.Sign c → part h x (suc i) j
      → Led ts c part h (Some x) i j
