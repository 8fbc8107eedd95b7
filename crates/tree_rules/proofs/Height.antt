-- The height in a derivation is the tree's own.
use Rattle.std.proofs.Common.{◌≡◌, ℕ, suc, Bool, List, Option, refl, ap}
use Rattle.pawn_lex.specs.declared.token.Token.{Token}
use Rattle.pawn_token.specs.declared.sign.Sign.{Sign}
use Rattle.pawn_tree.specs.Expressions.{Expr, Arg, Link, args, links}
use Rattle.pawn_tree.specs.Variables.{Dim, Init, Var, Variables, inits}
use Rattle.pawn_tree.specs.Statements.{First, Range, Stmt, Case, stmts, maybe_stmt, cases}
use Rattle.pawn_tree.specs.Statements.{ConstantOf}
use Rattle.pawn_tree.specs.Declarations.{Item, Param, Head, Decl, Tree}
use Rattle.pawn_tree.specs.Height.{highest, height_of, expr_height, arg_height, args_height}
use Rattle.pawn_tree.specs.Height.{link_height, links_height, dim_height, init_height, inits_height}
use Rattle.pawn_tree.specs.Height.{var_height, first_height, range_height, stmt_height}
use Rattle.pawn_tree.specs.Height.{stmts_height, case_height, cases_height, other_height}
use Rattle.pawn_tree.specs.Height.{item_height, param_height, head_height, decl_height, depth}
use Rattle.tree_rules.specs.Lists.{Part, Many, no_more, one_more, Behind, Several, several}
use Rattle.tree_rules.specs.Lists.{Listed, UpTo, none_up_to, some_up_to, Led, left_out, led}
use Rattle.tree_rules.specs.Expressions.{IsExpr, number, text, name, paren, call, index}
use Rattle.tree_rules.specs.Expressions.{character, postfix, prefix, tagged, sizeof, sizeof_in}
use Rattle.tree_rules.specs.Expressions.{tagof, tagof_in, binary, chain, choice, assign, IsLink}
use Rattle.tree_rules.specs.Expressions.{link, AreLinks, no_links, one_link, IsValue, value_arg}
use Rattle.tree_rules.specs.Expressions.{default_arg, IsNamed, named_arg, AreArgs, no_args}
use Rattle.tree_rules.specs.Expressions.{first_value, first_named, AreMore, no_more_args}
use Rattle.tree_rules.specs.Expressions.{more_value, more_named, Whole, Condition, condition}
use Rattle.tree_rules.specs.Variables.{IsDim, open_dim, cells_dim, chars_dim, AreDims, IsInit}
use Rattle.tree_rules.specs.Variables.{init_value, braces, braces_rest, AreInits, first_init}
use Rattle.tree_rules.specs.Variables.{MoreInits, no_inits, one_init, IsVar, var, AreVariables}
use Rattle.tree_rules.specs.Variables.{variables, IsConstant, constant}
use Rattle.tree_rules.specs.Statements.{IsResult, no_result, one_result, IsBefore, none_before}
use Rattle.tree_rules.specs.Statements.{one_before, IsFirst, first_nothing, first_new}
use Rattle.tree_rules.specs.Statements.{first_value, IsRange, range, IsStateName}
use Rattle.tree_rules.specs.Statements.{IsStateCondition, always, only_if, IsStmt, empty_stmt}
use Rattle.tree_rules.specs.Statements.{does_stmt, bare_stmt, block_stmt, if_stmt, while_stmt}
use Rattle.tree_rules.specs.Statements.{do_while_stmt, for_stmt, switch_stmt, return_stmt}
use Rattle.tree_rules.specs.Statements.{exit_stmt, sleep_stmt, assert_stmt, break_stmt}
use Rattle.tree_rules.specs.Statements.{continue_stmt, state_stmt, local_stmt, constant_stmt}
use Rattle.tree_rules.specs.Statements.{AreStmts, no_stmts, one_stmt, IsOther, no_else, one_else}
use Rattle.tree_rules.specs.Statements.{AreCases, no_cases, one_case, IsCase, case_of, IsDefault}
use Rattle.tree_rules.specs.Statements.{no_default, one_default}
use Rattle.tree_rules.specs.Statements as s
use Rattle.tree_rules.specs.Declarations.{IsItem, item_of, IsEnum, enum_of, IsParam, plain_param}
use Rattle.tree_rules.specs.Declarations.{rest_param, IsHead, head_of, IsDecl, variables_decl}
use Rattle.tree_rules.specs.Declarations.{constant_decl, enum_decl, native_decl, forward_decl}
use Rattle.tree_rules.specs.Declarations.{function_decl}
use Rattle.tree_rules.specs.Spells.{Spells}

-- the height of a part is what a function says of it
pub record HasHeight {A : Type 0} (part : Part A) (height : A → ℕ) : Type 0 where
  pub is : {h i j : ℕ} {x : A} → part h x i j → h ≡ height x

many_height : {A : Type 0} {more : ℕ → Bool} {part : Part A} {height : A → ℕ} {h i j : ℕ}
    {xs : List A} → HasHeight part height → Many more part h xs i j → h ≡ highest height xs
many_height p (no_more f) = refl
many_height p (one_more t x m) = rw (p.is x, many_height p m) refl

behind_height : {A : Type 0} {part : Part A} {height : A → ℕ} → HasHeight part height
    → HasHeight (Behind part) height
behind_height p = record { is = λ x. p.is x }

several_height : {A : Type 0} {more : ℕ → Bool} {part : Part A} {height : A → ℕ} {h i j : ℕ}
    {xs : List A} → HasHeight part height → Several more part (Behind part) h xs i j
    → h ≡ highest height xs
several_height p (several x m) = rw (p.is x, many_height (behind_height p) m) refl

led_height : {A : Type 0} {ts : List Token} {c : Sign} {part : Part A} {height : A → ℕ} {h i j : ℕ}
    {x : Option A} → HasHeight part height → Led ts c part h x i j → h ≡ height_of height x
led_height p (left_out f) = refl
led_height p (led c x) = p.is x

up_to_height : {A : Type 0} {ts : List Token} {c : Sign} {part : Part A} {height : A → ℕ}
    {h i j : ℕ} {xs : List A} → HasHeight part height → UpTo ts c part h xs i j
    → h ≡ highest height xs
up_to_height p (none_up_to e) = refl
up_to_height p (some_up_to f m e) = several_height p m

mutual
  expr_is : {ts : List Token} {b : Bool} {q h i j : ℕ} {x : Expr} → IsExpr ts b q h x i j
      → h ≡ expr_height x
  expr_is (number c) = refl
  expr_is (text c) = refl
  expr_is (name c) = refl
  expr_is (paren c s l c2) = ap (λ n. suc n) (expr_is s)
  expr_is (call c k a c2) = ap (λ n. suc n) (args_are a)
  expr_is (index s l c f y l2 c2) = rw (expr_is s, expr_is y) refl
  expr_is (character s l c f y l2 c2) = rw (expr_is s, expr_is y) refl
  expr_is (postfix s l c j f) = ap (λ n. suc n) (expr_is s)
  expr_is (prefix c t s l) = ap (λ n. suc n) (expr_is s)
  expr_is (tagged t s l) = ap (λ n. suc n) (expr_is s)
  expr_is (sizeof c s) = refl
  expr_is (sizeof_in c c2 s c3) = refl
  expr_is (tagof c s) = refl
  expr_is (tagof_in c c2 s c3) = refl
  expr_is (binary s l c j y l2) = rw (expr_is s, expr_is y) refl
  expr_is (chain s l f ls) = rw (expr_is s, link_is f, links_are ls) refl
  expr_is (choice s l c y l2 c2 z l3) = rw (expr_is s, expr_is y, expr_is z) refl
  expr_is (assign s l c j y l2) = rw (expr_is s, expr_is y) refl

  link_is : {ts : List Token} {b : Bool} {h i j : ℕ} {x : Link} → IsLink ts b h x i j
      → h ≡ link_height x
  link_is (link c j y l e) = expr_is y

  links_are : {ts : List Token} {b : Bool} {h i j : ℕ} {xs : List Link} → AreLinks ts b h xs i j
      → h ≡ links_height (links xs)
  links_are (no_links f) = refl
  links_are (one_link t l m) = rw (link_is l, links_are m) refl

  value_is : {ts : List Token} {h i j : ℕ} {x : Arg} → IsValue ts h x i j → h ≡ arg_height x
  value_is (value_arg s l e) = expr_is s
  value_is (default_arg c t) = refl

  named_is : {ts : List Token} {h i j : ℕ} {x : Arg} → IsNamed ts h x i j → h ≡ arg_height x
  named_is (named_arg c c2 c3 s l e) = expr_is s

  args_are : {ts : List Token} {h i j : ℕ} {xs : List Arg} → AreArgs ts h xs i j
      → h ≡ args_height (args xs)
  args_are (no_args c) = refl
  args_are (first_value v m) = rw (value_is v, more_are m) refl
  args_are (first_named v m) = rw (named_is v, more_are m) refl

  more_are : {ts : List Token} {named : Bool} {h i j : ℕ} {xs : List Arg}
      → AreMore ts named h xs i j → h ≡ args_height (args xs)
  more_are (no_more_args f) = refl
  more_are (more_value c v m) = rw (value_is v, more_are m) refl
  more_are (more_named c v m) = rw (named_is v, more_are m) refl

whole_is : {ts : List Token} {b : Bool} {level : ℕ} → HasHeight (Whole ts b level) expr_height
whole_is = record { is = λ x. expr_is x.is_expr }

condition_is : {ts : List Token} {h i j : ℕ} {x : Expr} → Condition ts h x i j → h ≡ expr_height x
condition_is (condition c x c2) = expr_is x.is_expr

dim_is : {ts : List Token} {h i j : ℕ} {x : Dim} → IsDim ts h x i j → h ≡ dim_height x
dim_is (open_dim c c2) = refl
dim_is (cells_dim c x c2) = expr_is x.is_expr
dim_is (chars_dim c x c2 c3) = expr_is x.is_expr

dims_are : {ts : List Token} {h i j : ℕ} {xs : List Dim} → AreDims ts h xs i j
    → h ≡ highest dim_height xs
dims_are m = many_height (record { is = λ x. dim_is x }) m

mutual
  init_is : {ts : List Token} {h i j : ℕ} {x : Init} → IsInit ts h x i j → h ≡ init_height x
  init_is (init_value x) = expr_is x.is_expr
  init_is (braces c xs c2) = ap (λ n. suc n) (inits_are xs)
  init_is (braces_rest c xs c2 c3 c4) = ap (λ n. suc n) (inits_are xs)

  inits_are : {ts : List Token} {h i j : ℕ} {xs : List Init} → AreInits ts h xs i j
      → h ≡ inits_height (inits xs)
  inits_are (first_init x m) = rw (init_is x, more_inits_are m) refl

  more_inits_are : {ts : List Token} {h i j : ℕ} {xs : List Init} → MoreInits ts h xs i j
      → h ≡ inits_height (inits xs)
  more_inits_are (no_inits f) = refl
  more_inits_are (one_init t x m) = rw (init_is x, more_inits_are m) refl

var_is : {ts : List Token} {h i j : ℕ} {x : Var} → IsVar ts h x i j → h ≡ var_height x
var_is (var c ds x) = rw (dims_are ds, led_height (record { is = λ y. init_is y }) x) refl

vars_are : {ts : List Token} {h i j : ℕ} {xs : List Var} → Listed ts (IsVar ts) h xs i j
    → h ≡ highest var_height xs
vars_are m = several_height (record { is = λ x. var_is x }) m

variables_are : {ts : List Token} {st : _} {h i j : ℕ} {x : Variables} → AreVariables ts st h x i j
    → h ≡ highest var_height x.vars
variables_are (variables m e) = vars_are m

constant_is : {ts : List Token} {h i j : ℕ} {x : ConstantOf} → IsConstant ts h x i j
    → h ≡ expr_height x.value
constant_is (constant c c2 x e) = expr_is x.is_expr

result_is : {ts : List Token} {h i j : ℕ} {x : Option Expr} → IsResult ts h x i j
    → h ≡ height_of expr_height x
result_is (no_result e) = refl
result_is (one_result f x e) = expr_is x.is_expr

before_is : {ts : List Token} {c : Sign} {h i j : ℕ} {x : Option Expr} → IsBefore ts c h x i j
    → h ≡ height_of expr_height x
before_is (none_before e) = refl
before_is (one_before f x e) = expr_is x.is_expr

first_is : {ts : List Token} {h i j : ℕ} {x : First} → IsFirst ts h x i j → h ≡ first_height x
first_is (first_nothing c) = refl
first_is (first_new c m) = vars_are m
first_is (s.first_value x) = expr_is x.is_expr

range_is : {ts : List Token} {h i j : ℕ} {x : Range} → IsRange ts h x i j → h ≡ range_height x
range_is (range x y) = rw (expr_is x.is_expr, led_height whole_is y) refl

state_condition_is : {ts : List Token} {h i j : ℕ} {x : Option Expr} → IsStateCondition ts h x i j
    → h ≡ height_of expr_height x
state_condition_is (always f) = refl
state_condition_is (only_if c) = condition_is c

mutual
  stmt_is : {ts : List Token} {b : Bool} {h i j : ℕ} {x : Stmt} → IsStmt ts b h x i j
      → h ≡ stmt_height x
  stmt_is (empty_stmt c) = refl
  stmt_is (does_stmt x e) = ap (λ n. suc n) (expr_is x.is_expr)
  stmt_is (bare_stmt c t v a e) = rw (value_is v, more_are a) refl
  stmt_is (block_stmt c a c2) = ap (λ n. suc n) (stmts_are a)
  stmt_is (if_stmt c x s o) = rw (condition_is x, stmt_is s, other_is o) refl
  stmt_is (while_stmt c x s) = rw (condition_is x, stmt_is s) refl
  stmt_is (do_while_stmt c s c2 x e) = rw (stmt_is s, condition_is x) refl
  stmt_is (for_stmt c c2 f c3 x y s) = rw (first_is f, before_is x, before_is y, stmt_is s) refl
  stmt_is (switch_stmt c x c2 a o c3) = rw (condition_is x, cases_are a, default_is o) refl
  stmt_is (return_stmt c r) = ap (λ n. suc n) (result_is r)
  stmt_is (exit_stmt c r) = ap (λ n. suc n) (result_is r)
  stmt_is (sleep_stmt c r) = ap (λ n. suc n) (result_is r)
  stmt_is (assert_stmt c x e) = ap (λ n. suc n) (expr_is x.is_expr)
  stmt_is (break_stmt c e) = refl
  stmt_is (continue_stmt c e) = refl
  stmt_is (state_stmt c x n e) = ap (λ n. suc n) (state_condition_is x)
  stmt_is (local_stmt c s v) = ap (λ n. suc n) (variables_are v)
  stmt_is (constant_stmt c x) = ap (λ n. suc n) (constant_is x)

  stmts_are : {ts : List Token} {h i j : ℕ} {xs : List Stmt} → AreStmts ts h xs i j
      → h ≡ stmts_height (stmts xs)
  stmts_are (no_stmts f) = refl
  stmts_are (one_stmt f s m) = rw (stmt_is s, stmts_are m) refl

  other_is : {ts : List Token} {h i j : ℕ} {x : Option Stmt} → IsOther ts h x i j
      → h ≡ other_height (maybe_stmt x)
  other_is (no_else f) = refl
  other_is (one_else c s) = stmt_is s

  cases_are : {ts : List Token} {h i j : ℕ} {xs : List Case} → AreCases ts h xs i j
      → h ≡ cases_height (cases xs)
  cases_are (no_cases f) = refl
  cases_are (one_case t x m) = rw (case_is x, cases_are m) refl

  case_is : {ts : List Token} {h i j : ℕ} {x : Case} → IsCase ts h x i j → h ≡ case_height x
  case_is (case_of c r c2 s) =
      rw (several_height (record { is = λ x. range_is x }) r, stmt_is s) refl

  default_is : {ts : List Token} {h i j : ℕ} {x : Option Stmt} → IsDefault ts h x i j
      → h ≡ other_height (maybe_stmt x)
  default_is (no_default f) = refl
  default_is (one_default c c2 s) = stmt_is s

item_is : {ts : List Token} {h i j : ℕ} {x : Item} → IsItem ts h x i j → h ≡ item_height x
item_is (item_of c x) = led_height whole_is x

enum_is : {ts : List Token} {h i j : ℕ} {name : _} {xs : List Item} → IsEnum ts h name xs i j
    → h ≡ highest item_height xs
enum_is (enum_of c m c2) = several_height (record { is = λ x. item_is x }) m

param_is : {ts : List Token} {native : Bool} {h i j : ℕ} {x : Param} → IsParam ts native h x i j
    → h ≡ param_height x
param_is (plain_param t c ds v) = rw (dims_are ds, led_height whole_is v) refl
param_is (rest_param same t c c2) = refl

head_is : {ts : List Token} {native : Bool} {h i j : ℕ} {x : Head} → IsHead ts native h x i j
    → h ≡ head_height x
head_is (head_of n c ps) = up_to_height (record { is = λ x. param_is x }) ps

decl_is : {ts : List Token} {h i j : ℕ} {x : Decl} → IsDecl ts h x i j → h ≡ decl_height x
decl_is (variables_decl c s f v) = ap (λ n. suc n) (variables_are v)
decl_is (constant_decl c x) = ap (λ n. suc n) (constant_is x)
decl_is (enum_decl c x) = ap (λ n. suc n) (enum_is x)
decl_is (native_decl c x e) = ap (λ n. suc n) (head_is x)
decl_is (forward_decl c x e) = ap (λ n. suc n) (head_is x)
decl_is (function_decl m x c s) = rw (head_is x, stmt_is s) refl

pub spells_height : {ts : List Token} {tree : Tree} (spells : Spells ts tree)
    → spells.height ≡ depth tree
spells_height spells = many_height (record { is = λ x. decl_is x }) spells.decls
