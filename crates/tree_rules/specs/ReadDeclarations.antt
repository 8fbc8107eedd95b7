-- The parser of what stands at the level of the file, as definitions.
use Rattle.std.specs.Prelude.{ℕ, zero, suc, ◌==◌, max, Bool, true, false, not, ◌&&◌, if◌then◌else◌}
use Rattle.std.specs.Prelude.{List, [], ◌∷◌, length, Option, Some, None}
use Rattle.pawn_token.specs.declared.sign.Sign.TheVariants as sign
use Rattle.pawn_token.specs.declared.key.Key.TheVariants as key
use Rattle.pawn_lex.specs.declared.token.Token.{Token}
use Rattle.pawn_tree.specs.declared.name.Name.{Name}
use Rattle.pawn_tree.specs.declared.name.StateName.{StateName}
use Rattle.pawn_tree.specs.declared.variable.Storage.{Storage}
use Rattle.pawn_tree.specs.declared.variable.Storage.TheVariants as storage
use Rattle.pawn_tree.specs.declared.declaration.HeadName.{HeadName}
use Rattle.pawn_tree.specs.declared.declaration.HeadName.TheVariants as head_name
use Rattle.pawn_tree.specs.Declarations.{Item, Param, Head, Decl, Tree}
use Rattle.pawn_tree.specs.Declarations as decls
use Rattle.tree_rules.specs.declared.modifiers.Modifiers.{Modifiers}
use Rattle.tree_rules.specs.declared.word.Word.{Word}
use Rattle.tree_rules.specs.declared.word.Word.TheVariants as w
use Rattle.tree_rules.specs.Tokens.{word, sees, sees_key, at, name_at, is_name, is_label, is_tag}
use Rattle.tree_rules.specs.Tokens.{tag_at, behind_tag, behind_key, behind_sign}
use Rattle.tree_rules.specs.Ends.{ending}
use Rattle.tree_rules.specs.Declarations.{further_item, maybe_name, behind_name, behind_reference}
use Rattle.tree_rules.specs.Declarations.{is_function, none_yet}
use Rattle.tree_rules.specs.Spells.{are_left}
use Rattle.tree_rules.specs.Readers.{Got, got, Reader, ◌>>=◌, guard, node, many, behind, several}
use Rattle.tree_rules.specs.Readers.{listed, up_to, led}
use Rattle.tree_rules.specs.ReadExpressions.{expr}
use Rattle.tree_rules.specs.ReadVariables.{expression, dims, constant, variables}
use Rattle.tree_rules.specs.ReadStatements.{state_name, statement}

-- a tag of a parameter
unfoldable pub label : List Token → Reader Name
label ts i = guard (is_label (word ts i)) (Some (got (name_at ts i) 0 (suc i)))

-- several of them, in braces
unfoldable pub labels : List Token → Reader (List Name)
labels ts i = listed ts (label ts) i

-- the tags of a parameter
unfoldable pub tags : List Token → Reader (List Name)
tags ts i =
    if is_tag ts i then Some (got (name_at ts i ∷ []) 0 (suc (suc i)))
    else (if sees ts sign.OpenBrace i
    then (labels ts (suc i) >>= (λ x.
    guard (sees ts sign.CloseBrace x.stop)
    (guard (sees ts sign.Colon (suc x.stop)) (Some (got x.tree 0 (suc (suc x.stop)))))))
    else Some (got [] 0 i))

-- the sign behind `operator`, by what token stands there
abbrev pub operator_by : List Token → ℕ → Word → Option (Got HeadName)
operator_by ts i (w.Sign c) = Some (got (head_name.Operator (at ts i) c) 0 (suc (suc i)))
operator_by ts i _ = None

-- what a function is called
unfoldable pub named_head : List Token → Reader HeadName
named_head ts i =
    if sees_key ts key.Operator i then operator_by ts i (word ts (suc i))
    else guard (is_name (word ts i)) (Some (got (head_name.Name (name_at ts i)) 0 (suc i)))

-- the states in a classifier
unfoldable pub state_names : List Token → Reader (List StateName)
state_names ts i = up_to ts sign.Greater (state_name ts) i

-- a classifier, where one stands
unfoldable pub classifier : List Token → Reader (Option (List StateName))
classifier ts i =
    if sees ts sign.Less i then (state_names ts (suc i) >>= (λ x.
    Some (got (Some x.tree) 0 (suc x.stop)))) else Some (got None 0 i)

-- the words before a function, behind some of them, and the token behind
pub record Words : Type 0 where
  pub all : Modifiers
  pub stop : ℕ

-- the words before a function, in so many turns, behind those that were read
unfoldable pub modifiers : List Token → ℕ → Modifiers → ℕ → Option Words
modifiers ts zero m i = None
modifiers ts (suc n) m i =
    if sees_key ts key.Static i then guard (not m.is_static)
    (modifiers ts n (record {
      is_static = true;
      is_stock = m.is_stock;
      is_public = m.is_public;
    }) (suc i))
    else (if sees_key ts key.Stock i then guard (not m.is_stock)
    (modifiers ts n (record {
      is_static = m.is_static;
      is_stock = true;
      is_public = m.is_public;
    }) (suc i))
    else (if sees_key ts key.Public i then guard (not m.is_public)
    (modifiers ts n (record {
      is_static = m.is_static;
      is_stock = m.is_stock;
      is_public = true;
    }) (suc i))
    else Some (record { all = m; stop = i })))

module _ (ts : List Token) (d : ℕ) where
  -- a constant of an enumeration
  unfoldable pub item : Reader Item
  item i = guard (is_name (word ts i))
      (led ts sign.Assign (expression ts (expr ts d) true 13) (suc i) >>= (λ x.
      Some (got (record { name = name_at ts i; value = x.tree }) x.height x.stop)))

  -- all of an enumeration
  unfoldable pub items : Reader (List Item)
  items i = several ts (further_item ts) item (behind item) i

  -- an enumeration
  unfoldable pub enumeration : Reader Decl
  enumeration i = guard (sees ts sign.OpenBrace (behind_name ts (suc i)))
      (items (suc (behind_name ts (suc i))) >>= (λ xs.
      guard (sees ts sign.CloseBrace (behind_sign ts sign.Comma xs.stop))
      (node d (decls.Enum (at ts i) (maybe_name ts (suc i)) xs.tree) xs.height
      (behind_sign ts sign.Semicolon (suc (behind_sign ts sign.Comma xs.stop))))))

  -- a parameter other than `...`, behind its tags
  unfoldable pub plain : ℕ → Got (List Name) → Option (Got Param)
  plain i t = guard (is_name (word ts t.stop)) (dims ts (expr ts d) (suc t.stop) >>= (λ ds.
      led ts sign.Assign (expression ts (expr ts d) true 13) ds.stop >>= (λ x.
      Some (got
      (decls.Plain (sees_key ts key.Const i)
      (sees ts sign.Ampersand (behind_key ts key.Const i)) t.tree
      (name_at ts t.stop) ds.tree x.tree)
      (max ds.height x.height) x.stop))))

  -- a parameter, of a native or of another function
  unfoldable pub param : Bool → Reader Param
  param native i = tags ts (behind_reference ts i) >>= (λ t.
      if sees ts sign.Ellipsis t.stop
      then guard (native && (behind_reference ts i == i))
      (guard (sees ts sign.CloseParenthesis (suc t.stop))
      (Some (got (decls.Rest (at ts t.stop) t.tree) 0 (suc t.stop))))
      else plain i t)

  -- all of them, up to the closing parenthesis
  unfoldable pub params : Bool → Reader (List Param)
  params native i = up_to ts sign.CloseParenthesis (param native) i

  -- a head, of a native or of another function
  unfoldable pub head : Bool → Reader Head
  head native i = named_head ts (behind_tag ts i) >>= (λ n.
      guard (sees ts sign.OpenParenthesis n.stop) (params native (suc n.stop) >>= (λ ps.
      Some (got (record {
        tag = tag_at ts i;
        name = n.tree;
        params = ps.tree;
      }) ps.height (suc ps.stop)))))

  -- a native
  unfoldable pub native_decl : Reader Decl
  native_decl i = head true (suc i) >>= (λ x. ending ts x.stop >>= (λ k.
      node d (decls.Native (at ts i) x.tree) x.height k))

  -- a function that is declared ahead
  unfoldable pub forward_decl : Reader Decl
  forward_decl i = head false (behind_key ts key.Public (suc i)) >>= (λ x.
      ending ts x.stop >>= (λ k.
      node d (decls.Forward (at ts i) (sees_key ts key.Public (suc i)) x.tree) x.height k))

  -- what stands behind the head of a function
  unfoldable pub function_rest : ℕ → Modifiers → Got Head → Option (Got Decl)
  function_rest i all x = classifier ts x.stop >>= (λ c. statement ts d false c.stop >>= (λ body.
      node d (decls.Function (at ts i) (record {
        is_static = all.is_static;
        is_stock = all.is_stock;
        is_public = all.is_public;
        head = x.tree;
        states = c.tree;
        body = body.tree;
      }))
      (max x.height body.height) body.stop))

  -- a function
  unfoldable pub function : Reader Decl
  function i = modifiers ts 4 none_yet i >>= (λ m. head false m.stop >>= function_rest i m.all)

  -- variables
  unfoldable pub declared : Storage → Reader Decl
  declared st i = variables ts d st (suc i) >>= (λ x.
      node d (decls.Variables (at ts i) x.tree) x.height x.stop)

  -- a constant
  unfoldable pub constant_decl : Reader Decl
  constant_decl i = constant ts (expr ts d) (suc i) >>= (λ x.
      node d (decls.Constant (at ts i) x.tree) x.height x.stop)

  -- a declaration, by its first token
  unfoldable pub decl_by : ℕ → Word → Option (Got Decl)
  decl_by i (w.Key key.New) = guard (not (is_function ts (suc i))) (declared storage.New i)
  decl_by i (w.Key key.Static) = if is_function ts
      (suc i) then function i else declared storage.Static i
  decl_by i (w.Key key.Stock) = if is_function ts
      (suc i) then function i else declared storage.Stock i
  decl_by i (w.Key key.Const) = constant_decl i
  decl_by i (w.Key key.Enum) = enumeration i
  decl_by i (w.Key key.Native) = native_decl i
  decl_by i (w.Key key.Forward) = forward_decl i
  decl_by i _ = function i

  -- a declaration
  unfoldable pub decl : Reader Decl
  decl i = decl_by i (word ts i)

-- a whole source, with nodes up to d levels below a declaration
unfoldable pub unit_to : List Token → ℕ → Option (Got Tree)
unit_to ts d = many (are_left ts) (decl ts d) (suc (length ts)) [] 0 0

-- a whole source, of 1,024 levels at most
abbrev pub unit : List Token → Option (Got Tree)
unit ts = unit_to ts 1023
