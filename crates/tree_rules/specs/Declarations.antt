-- The grammar of what stands at the level of the file (Language Guide, "Declarations",
-- "Functions").
use Rattle.std.specs.Prelude.{◌≡◌, ℕ, suc, max, Bool, true, false, not, ◌&&◌, ◌||◌, if◌then◌else◌}
use Rattle.std.specs.Prelude.{List, [], ◌∷◌, Option, Some, None}
use Rattle.pawn_token.specs.declared.sign.Sign.{Sign}
use Rattle.pawn_token.specs.declared.sign.Sign.TheVariants as sign
use Rattle.pawn_token.specs.declared.key.Key.{Key}
use Rattle.pawn_token.specs.declared.key.Key.TheVariants as key
use Rattle.pawn_lex.specs.declared.token.Token.{Token}
use Rattle.pawn_tree.specs.declared.name.Name.{Name}
use Rattle.pawn_tree.specs.declared.name.StateName.{StateName}
use Rattle.pawn_tree.specs.declared.variable.Storage.{Storage}
use Rattle.pawn_tree.specs.declared.declaration.HeadName.{HeadName}
use Rattle.pawn_tree.specs.declared.declaration.HeadName.TheVariants as head_name
use Rattle.pawn_tree.specs.Expressions.{Expr}
use Rattle.pawn_tree.specs.Variables.{Dim, Variables}
use Rattle.pawn_tree.specs.Statements.{ConstantOf, Stmt}
use Rattle.pawn_tree.specs.Declarations.{Item, Param, Head, Decl}
use Rattle.pawn_tree.specs.Declarations as d
use Rattle.tree_rules.specs.declared.modifiers.Modifiers.{Modifiers}
use Rattle.tree_rules.specs.declared.word.Word.{Word}
use Rattle.tree_rules.specs.declared.word.Word.TheVariants as w
use Rattle.tree_rules.specs.Tokens.{word, sees, sees_key, at, name_at, is_name, is_label, is_tag}
use Rattle.tree_rules.specs.Tokens.{tag_at, behind_tag, behind_key, behind_sign}
use Rattle.tree_rules.specs.Ends.{ending}
use Rattle.tree_rules.specs.Lists.{Several, Listed, Behind, UpTo, Led}
use Rattle.tree_rules.specs.Expressions.{Whole}
use Rattle.tree_rules.specs.Variables.{AreDims, file_storage, AreVariables, IsConstant}
use Rattle.tree_rules.specs.Statements.{IsStateName, IsStmt}

-- ---- enumerations

-- a constant of an enumeration, with its value or without one
pub data IsItem (ts : List Token) : ℕ → Item → ℕ → ℕ → Type 0 where
  item_of : {h i j : ℕ} {x : Option Expr} → word ts i ≡ w.Name
      → Led ts sign.Assign (Whole ts true 13) h x (suc i) j
      → IsItem ts h (record { name = name_at ts i; value = x }) i j

-- whether a further constant stands there, behind a comma
unfoldable pub further_item : List Token → ℕ → Bool
further_item ts i = sees ts sign.Comma i && not (sees ts sign.CloseBrace (suc i))

-- the name that stands there, if one does, and the token behind it
unfoldable pub maybe_name : List Token → ℕ → Option Name
maybe_name ts i = if is_name (word ts i) then Some (name_at ts i) else None

-- the token behind that name
unfoldable pub behind_name : List Token → ℕ → ℕ
behind_name ts i = if is_name (word ts i) then suc i else i

-- what stands behind `enum`
pub data IsEnum (ts : List Token) : ℕ → Option Name → List Item → ℕ → ℕ → Type 0 where
  enum_of : {h i k : ℕ} {xs : List Item} → word ts (behind_name ts i) ≡ w.Sign sign.OpenBrace
      → Several (further_item ts) (IsItem ts) (Behind (IsItem ts)) h xs (suc (behind_name ts i)) k
      → word ts (behind_sign ts sign.Comma k) ≡ w.Sign sign.CloseBrace
      → IsEnum ts h (maybe_name ts i) xs i
      (behind_sign ts sign.Semicolon (suc (behind_sign ts sign.Comma k)))

-- ---- heads

-- a tag of a parameter
pub data IsLabel (ts : List Token) : ℕ → Name → ℕ → ℕ → Type 0 where
  label_of : {i : ℕ} → is_label (word ts i) ≡ true → IsLabel ts 0 (name_at ts i) i (suc i)

-- the tags of a parameter: none, one, or several in braces
pub data AreTags (ts : List Token) : List Name → ℕ → ℕ → Type 0 where
  no_tags : {i : ℕ} → is_tag ts i ≡ false → sees ts sign.OpenBrace i ≡ false → AreTags ts [] i i
  one_tag : {i : ℕ} → is_tag ts i ≡ true → AreTags ts (name_at ts i ∷ []) i (suc (suc i))
  tag_set : {h i j : ℕ} {tags : List Name} → word ts i ≡ w.Sign sign.OpenBrace
      → Listed ts (IsLabel ts) h tags (suc i) j → word ts j ≡ w.Sign sign.CloseBrace
      → word ts (suc j) ≡ w.Sign sign.Colon → AreTags ts tags i (suc (suc j))

-- the token behind `const` and `&`, which each may be left out
unfoldable pub behind_reference : List Token → ℕ → ℕ
behind_reference ts i = behind_sign ts sign.Ampersand (behind_key ts key.Const i)

-- A parameter, of a native or of another function. `...` is a native's last one, and has no `const`
-- and no `&` before it.
pub data IsParam (ts : List Token) : Bool → ℕ → Param → ℕ → ℕ → Type 0 where
  plain_param : {native : Bool} {h i j k h2 m : ℕ} {tags : List Name} {dims : List Dim}
      {value : Option Expr} → AreTags ts tags (behind_reference ts i) j
      → word ts j ≡ w.Name → AreDims ts h dims (suc j) k
      → Led ts sign.Assign (Whole ts true 13) h2 value k m
      → IsParam ts native (max h h2)
      (d.Plain (sees_key ts key.Const i) (sees ts sign.Ampersand (behind_key ts key.Const i)) tags
      (name_at ts j) dims value) i m
  rest_param : {i j : ℕ} {tags : List Name} → behind_reference ts i ≡ i → AreTags ts tags i j
      → word ts j ≡ w.Sign sign.Ellipsis
      → word ts (suc j) ≡ w.Sign sign.CloseParenthesis
      → IsParam ts true 0 (d.Rest (at ts j) tags) i (suc j)

-- what a function is called: a name, or `operator` with any sign
pub data IsHeadName (ts : List Token) : HeadName → ℕ → ℕ → Type 0 where
  name_of : {i : ℕ} → word ts i ≡ w.Name → IsHeadName ts (head_name.Name (name_at ts i)) i (suc i)
  operator_of : {i : ℕ} {c : Sign} → word ts i ≡ w.Key key.Operator → word ts (suc i) ≡ w.Sign c
      → IsHeadName ts (head_name.Operator (at ts i) c) i (suc (suc i))

-- a head, of a native or of another function
pub data IsHead (ts : List Token) (native : Bool) : ℕ → Head → ℕ → ℕ → Type 0 where
  head_of : {h i j k : ℕ} {name : HeadName} {params : List Param}
      → IsHeadName ts name (behind_tag ts i) j → word ts j ≡ w.Sign sign.OpenParenthesis
      → UpTo ts sign.CloseParenthesis (IsParam ts native) h params (suc j) k
      → IsHead ts native h (record { tag = tag_at ts i; name = name; params = params }) i (suc k)

-- whether a head begins there
abbrev pub begins_head : List Token → ℕ → Bool
begins_head ts i = sees_key ts key.Operator i ||
    (is_name (word ts i) && sees ts sign.OpenParenthesis (suc i))

-- ---- functions

-- the words before a function
abbrev pub is_modifier : Word → Bool
is_modifier (w.Key key.Static) = true
is_modifier (w.Key key.Stock) = true
is_modifier (w.Key key.Public) = true
is_modifier _ = false

-- whether a function goes on there, behind one of these words
unfoldable pub is_function : List Token → ℕ → Bool
is_function ts i = is_modifier (word ts i) || begins_head ts (behind_tag ts i)

-- The words from i up to j, behind those in `before`. They stand in any order, and each at most
-- once.
pub data AreModifiers (ts : List Token) : Modifiers → Modifiers → ℕ → ℕ → Type 0 where
  no_modifier : {m : Modifiers} {i : ℕ} → is_modifier (word ts i) ≡ false → AreModifiers ts m m i i
  static_word : {before all : Modifiers} {i j : ℕ} → word ts i ≡ w.Key key.Static
      → before.is_static ≡ false
      → AreModifiers ts (record {
        is_static = true;
        is_stock = before.is_stock;
        is_public = before.is_public;
      }) all (suc i) j → AreModifiers ts before all i j
  stock_word : {before all : Modifiers} {i j : ℕ} → word ts i ≡ w.Key key.Stock
      → before.is_stock ≡ false
      → AreModifiers ts (record {
        is_static = before.is_static;
        is_stock = true;
        is_public = before.is_public;
      }) all (suc i) j → AreModifiers ts before all i j
  public_word : {before all : Modifiers} {i j : ℕ} → word ts i ≡ w.Key key.Public
      → before.is_public ≡ false
      → AreModifiers ts (record {
        is_static = before.is_static;
        is_stock = before.is_stock;
        is_public = true;
      }) all (suc i) j → AreModifiers ts before all i j

-- no word before a function
abbrev pub none_yet : Modifiers
none_yet = record { is_static = false; is_stock = false; is_public = false }

-- the states that a function is for: its classifier, where it has one
pub data IsClassifier (ts : List Token) : Option (List StateName) → ℕ → ℕ → Type 0 where
  no_classifier : {i : ℕ} → sees ts sign.Less i ≡ false → IsClassifier ts None i i
  classifier : {h i j : ℕ} {names : List StateName} → word ts i ≡ w.Sign sign.Less
      → UpTo ts sign.Greater (IsStateName ts) h names (suc i) j
      → IsClassifier ts (Some names) i (suc j)

-- ---- what stands at the level of the file

-- a declaration at the level of the file
pub data IsDecl (ts : List Token) : ℕ → Decl → ℕ → ℕ → Type 0 where
  variables_decl : {h i k : ℕ} {c : Key} {st : Storage} {vars : Variables} → word ts i ≡ w.Key c
      → file_storage c ≡ Some st → is_function ts (suc i) ≡ false
      → AreVariables ts st h vars (suc i) k → IsDecl ts (suc h) (d.Variables (at ts i) vars) i k
  constant_decl : {h i k : ℕ} {x : ConstantOf} → word ts i ≡ w.Key key.Const
      → IsConstant ts h x (suc i) k → IsDecl ts (suc h) (d.Constant (at ts i) x) i k
  enum_decl : {h i k : ℕ} {name : Option Name} {items : List Item} → word ts i ≡ w.Key key.Enum
      → IsEnum ts h name items (suc i) k
      → IsDecl ts (suc h) (d.Enum (at ts i) name items) i k
  native_decl : {h i j k : ℕ} {x : Head} → word ts i ≡ w.Key key.Native
      → IsHead ts true h x (suc i) j → ending ts j ≡ Some k
      → IsDecl ts (suc h) (d.Native (at ts i) x) i k
  forward_decl : {h i j k : ℕ} {x : Head} → word ts i ≡ w.Key key.Forward
      → IsHead ts false h x (behind_key ts key.Public (suc i)) j → ending ts j ≡ Some k
      → IsDecl ts (suc h) (d.Forward (at ts i) (sees_key ts key.Public (suc i)) x) i k
  function_decl : {h i j k m h2 n : ℕ} {all : Modifiers} {x : Head}
      {states : Option (List StateName)} {body : Stmt} → AreModifiers ts none_yet all i j
      → IsHead ts false h x j k → IsClassifier ts states k m → IsStmt ts false h2 body m n
      → IsDecl ts (suc (max h h2)) (d.Function (at ts i) (record {
        is_static = all.is_static;
        is_stock = all.is_stock;
        is_public = all.is_public;
        head = x;
        states = states;
        body = body;
      })) i n
