-- The parser of variables and constants, as definitions.
use Rattle.std.specs.Prelude.{ℕ, zero, suc, max, Bool, true, false, if◌then◌else◌, List, [], length}
use Rattle.std.specs.Prelude.{Option, Some, None}
use Rattle.pawn_token.specs.declared.sign.Sign.TheVariants as sign
use Rattle.pawn_token.specs.declared.key.Key.TheVariants as key
use Rattle.pawn_lex.specs.declared.token.Token.{Token}
use Rattle.pawn_tree.specs.declared.variable.Storage.{Storage}
use Rattle.pawn_tree.specs.Expressions.{Expr}
use Rattle.pawn_tree.specs.Variables.{Dim, Init, Var, Variables, inits}
use Rattle.pawn_tree.specs.Variables as v
use Rattle.pawn_tree.specs.Statements.{ConstantOf}
use Rattle.tree_rules.specs.Tokens.{word, sees, sees_key, at, name_at, is_name, tag_at}
use Rattle.tree_rules.specs.Tokens.{behind_tag, behind_key}
use Rattle.tree_rules.specs.Ends.{ending}
use Rattle.tree_rules.specs.Variables.{further_init}
use Rattle.tree_rules.specs.Readers.{Got, got, Reader, ◌>>=◌, guard, node, many, behind, several}
use Rattle.tree_rules.specs.Readers.{listed, led}
use Rattle.tree_rules.specs.ReadExpressions.{Sub, expr}

module _ (ts : List Token) (sub : Sub) where
  -- an expression up to a level
  abbrev pub expression : Bool → ℕ → Reader Expr
  expression tags level i = sub tags level i >>= (λ x. Some (got x.tree x.height x.stop))

  -- an expression in parentheses, as behind `if`
  unfoldable pub condition : Reader Expr
  condition i = guard (sees ts sign.OpenParenthesis i) (expression true 15 (suc i) >>= (λ x.
      guard (sees ts sign.CloseParenthesis x.stop) (Some (got x.tree x.height (suc x.stop)))))

  -- what stands behind the size of a dimension
  unfoldable pub dim_end : Got Expr → Option (Got Dim)
  dim_end x =
      if sees_key ts key.Char x.stop then guard (sees ts sign.CloseBracket (suc x.stop))
      (Some (got (v.Chars x.tree) x.height (suc (suc x.stop))))
      else guard (sees ts sign.CloseBracket x.stop)
      (Some (got (v.Cells x.tree) x.height (suc x.stop)))

  -- a dimension
  unfoldable pub dim : Reader Dim
  dim i = if sees ts sign.CloseBracket (suc i) then Some (got v.Open 0 (suc (suc i))) else
      (expression true 13 (suc i) >>= dim_end)

  -- all dimensions that stand there
  unfoldable pub dims : Reader (List Dim)
  dims i = many (sees ts sign.OpenBracket) dim (suc (length ts)) [] 0 i

  -- what stands behind `const`
  unfoldable pub constant : Reader ConstantOf
  constant i = guard (is_name (word ts (behind_tag ts i)))
      (guard (sees ts sign.Assign (suc (behind_tag ts i)))
      (expression true 13 (suc (suc (behind_tag ts i))) >>= (λ x. ending ts x.stop >>= (λ k.
      Some (got (record {
        tag = tag_at ts i;
        name = name_at ts (behind_tag ts i);
        value = x.tree;
      }) x.height k)))))

module _ (ts : List Token) (sub : Sub) (next : Reader Init) where
  -- what stands behind the values in braces
  unfoldable pub braces_end : ℕ → ℕ → Got (List Init) → Option (Got Init)
  braces_end d i xs =
      if sees ts sign.Comma xs.stop
      then guard (sees ts sign.Ellipsis (suc xs.stop))
      (guard (sees ts sign.CloseBrace (suc (suc xs.stop)))
      (node d (v.Braces (at ts i) (inits xs.tree) true) xs.height (suc (suc (suc xs.stop)))))
      else guard (sees ts sign.CloseBrace xs.stop)
      (node d (v.Braces (at ts i) (inits xs.tree) false) xs.height (suc xs.stop))

  -- values in braces
  unfoldable pub braces : ℕ → Reader Init
  braces d i = several ts (further_init ts) next (behind next) (suc i) >>= braces_end d i

  -- a first value
  unfoldable pub init_by : ℕ → Reader Init
  init_by d i = if sees ts sign.OpenBrace i then braces d i else
      (expression ts sub true 14 i >>= (λ x. Some (got (v.Value x.tree) x.height x.stop)))

-- first values of height d at most
unfoldable pub init : List Token → ℕ → Reader Init
init ts zero = λ i. None
init ts (suc d) = init_by ts (expr ts (suc d)) (init ts d) d

module _ (ts : List Token) (d : ℕ) where
  -- a variable
  unfoldable pub var : Reader Var
  var i = guard (is_name (word ts (behind_tag ts i)))
      (dims ts (expr ts d) (suc (behind_tag ts i)) >>= (λ ds.
      led ts sign.Assign (init ts d) ds.stop >>= (λ x.
      Some (got (record {
        tag = tag_at ts i;
        name = name_at ts (behind_tag ts i);
        dims = ds.tree;
        init = x.tree;
      }) (max ds.height x.height) x.stop))))

  -- variables with commas between them
  unfoldable pub vars : Reader (List Var)
  vars i = listed ts var i

  -- what stands behind `new`, `static` or `stock`
  unfoldable pub variables : Storage → Reader Variables
  variables st i = vars (behind_key ts key.Const i) >>= (λ xs. ending ts xs.stop >>= (λ k.
      Some (got (record {
        storage = st;
        constant = sees_key ts key.Const i;
        vars = xs.tree;
      }) xs.height k)))
