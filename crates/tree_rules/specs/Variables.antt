-- The grammar of variables and constants (Language Guide, "Declarations").
use Rattle.std.specs.Prelude.{◌≡◌, ℕ, suc, max, Bool, true, false, not, ◌&&◌, List, [], ◌∷◌, Option}
use Rattle.std.specs.Prelude.{Some, None}
use Rattle.pawn_token.specs.declared.sign.Sign.TheVariants as sign
use Rattle.pawn_token.specs.declared.key.Key.{Key}
use Rattle.pawn_token.specs.declared.key.Key.TheVariants as key
use Rattle.pawn_lex.specs.declared.token.Token.{Token}
use Rattle.pawn_tree.specs.declared.variable.Storage.{Storage}
use Rattle.pawn_tree.specs.declared.variable.Storage.TheVariants as storage
use Rattle.pawn_tree.specs.Expressions.{Expr}
use Rattle.pawn_tree.specs.Variables.{Dim, Init, Var, Variables, inits}
use Rattle.pawn_tree.specs.Variables as v
use Rattle.pawn_tree.specs.Statements.{ConstantOf}
use Rattle.tree_rules.specs.declared.word.Word.TheVariants as w
use Rattle.tree_rules.specs.Tokens.{word, sees, sees_key, at, name_at, tag_at, behind_tag}
use Rattle.tree_rules.specs.Tokens.{behind_key}
use Rattle.tree_rules.specs.Ends.{ending}
use Rattle.tree_rules.specs.Lists.{Many, Listed, Led}
use Rattle.tree_rules.specs.Expressions.{Whole}

-- a dimension of an array
pub data IsDim (ts : List Token) : ℕ → Dim → ℕ → ℕ → Type 0 where
  open_dim : {i : ℕ} → word ts i ≡ w.Sign sign.OpenBracket
      → word ts (suc i) ≡ w.Sign sign.CloseBracket → IsDim ts 0 v.Open i (suc (suc i))
  cells_dim : {h i j : ℕ} {x : Expr} → word ts i ≡ w.Sign sign.OpenBracket
      → Whole ts true 13 h x (suc i) j → word ts j ≡ w.Sign sign.CloseBracket
      → IsDim ts h (v.Cells x) i (suc j)
  chars_dim : {h i j : ℕ} {x : Expr} → word ts i ≡ w.Sign sign.OpenBracket
      → Whole ts true 13 h x (suc i) j → word ts j ≡ w.Key key.Char
      → word ts (suc j) ≡ w.Sign sign.CloseBracket → IsDim ts h (v.Chars x) i (suc (suc j))

-- all dimensions that stand there
abbrev pub AreDims : List Token → ℕ → List Dim → ℕ → ℕ → Type 0
AreDims ts = Many (sees ts sign.OpenBracket) (IsDim ts)

-- whether a further value stands there, behind a comma
unfoldable pub further_init : List Token → ℕ → Bool
further_init ts i = sees ts sign.Comma i && not (sees ts sign.Ellipsis (suc i))

mutual
  -- a first value
  pub data IsInit (ts : List Token) : ℕ → Init → ℕ → ℕ → Type 0 where
    init_value : {h i j : ℕ} {x : Expr} → Whole ts true 14 h x i j → IsInit ts h (v.Value x) i j
    braces : {h i j : ℕ} {xs : List Init} → word ts i ≡ w.Sign sign.OpenBrace
        → AreInits ts h xs (suc i) j → word ts j ≡ w.Sign sign.CloseBrace
        → IsInit ts (suc h) (v.Braces (at ts i) (inits xs) false) i (suc j)
    braces_rest : {h i j : ℕ} {xs : List Init} → word ts i ≡ w.Sign sign.OpenBrace
        → AreInits ts h xs (suc i) j → word ts j ≡ w.Sign sign.Comma
        → word ts (suc j) ≡ w.Sign sign.Ellipsis → word ts (suc (suc j)) ≡ w.Sign sign.CloseBrace
        → IsInit ts (suc h) (v.Braces (at ts i) (inits xs) true) i (suc (suc (suc j)))

  -- one value or more
  pub data AreInits (ts : List Token) : ℕ → List Init → ℕ → ℕ → Type 0 where
    first_init : {h i j h2 k : ℕ} {x : Init} {xs : List Init} → IsInit ts h x i j
        → MoreInits ts h2 xs j k → AreInits ts (max h h2) (x ∷ xs) i k

  -- the values behind others, all that stand there
  pub data MoreInits (ts : List Token) : ℕ → List Init → ℕ → ℕ → Type 0 where
    no_inits : {i : ℕ} → further_init ts i ≡ false → MoreInits ts 0 [] i i
    one_init : {i h j h2 k : ℕ} {x : Init} {xs : List Init} → further_init ts i ≡ true
        → IsInit ts h x (suc i) j → MoreInits ts h2 xs j k
        → MoreInits ts (max h h2) (x ∷ xs) i k

-- a variable, with its tag, its dimensions and its first value
pub data IsVar (ts : List Token) : ℕ → Var → ℕ → ℕ → Type 0 where
  var : {i h j h2 k : ℕ} {dims : List Dim} {init : Option Init} → word ts (behind_tag ts i) ≡ w.Name
      → AreDims ts h dims (suc (behind_tag ts i)) j → Led ts sign.Assign (IsInit ts) h2 init j k
      → IsVar ts (max h h2) (record {
        tag = tag_at ts i;
        name = name_at ts (behind_tag ts i);
        dims = dims;
        init = init;
      }) i k

-- the word before the variables of a block, and of the file
abbrev pub local_storage : Key → Option Storage
local_storage key.New = Some storage.New
local_storage key.Static = Some storage.Static
local_storage _ = None

-- and of the file
abbrev pub file_storage : Key → Option Storage
file_storage key.New = Some storage.New
file_storage key.Static = Some storage.Static
file_storage key.Stock = Some storage.Stock
file_storage _ = None

-- what stands behind that word
pub data AreVariables (ts : List Token) (st : Storage) : ℕ → Variables → ℕ → ℕ → Type 0 where
  variables : {i h j k : ℕ} {vars : List Var}
      → Listed ts (IsVar ts) h vars (behind_key ts key.Const i) j → ending ts j ≡ Some k
      → AreVariables ts st h (record {
        storage = st;
        constant = sees_key ts key.Const i;
        vars = vars;
      }) i k

-- what stands behind `const`
pub data IsConstant (ts : List Token) : ℕ → ConstantOf → ℕ → ℕ → Type 0 where
  constant : {i h j k : ℕ} {x : Expr} → word ts (behind_tag ts i) ≡ w.Name
      → word ts (suc (behind_tag ts i)) ≡ w.Sign sign.Assign
      → Whole ts true 13 h x (suc (suc (behind_tag ts i))) j → ending ts j ≡ Some k
      → IsConstant ts h (record {
        tag = tag_at ts i;
        name = name_at ts (behind_tag ts i);
        value = x;
      }) i k
