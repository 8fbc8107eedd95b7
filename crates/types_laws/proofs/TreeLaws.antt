-- Statements and declarations that tokens spell are as a source has them.
use Rattle.std.proofs.Common.{◌≡◌, ℕ, suc, List, Bool, true, false, Option, Some}
use Rattle.pawn_lex.specs.declared.token.Token.{Token}
use Rattle.pawn_tree.specs.declared.variable.Storage.{Storage}
use Rattle.pawn_tree.specs.declared.name.Name as n
use Rattle.pawn_tree.specs.Expressions.{Expr}
use Rattle.pawn_tree.specs.Variables as v
use Rattle.pawn_tree.specs.Variables.{Dim, Init, Var, Variables, inits}
use Rattle.pawn_tree.specs.Statements.{ConstantOf, First, Range, Stmt, Case, stmts, maybe_stmt}
use Rattle.pawn_tree.specs.Statements.{cases}
use Rattle.pawn_tree.specs.Declarations.{Item, Param, Head, Decl}
use Rattle.tree_rules.specs.Lists.{Many, no_more, one_more, Several, several, Listed, UpTo}
use Rattle.tree_rules.specs.Lists.{none_up_to, some_up_to, Led, left_out, led}
use Rattle.tree_rules.specs.Expressions.{Whole, Condition, condition}
use Rattle.tree_rules.specs.Variables as gv
use Rattle.tree_rules.specs.Variables.{IsDim, IsInit, AreInits, MoreInits, IsVar, AreVariables}
use Rattle.tree_rules.specs.Variables.{IsConstant}
use Rattle.tree_rules.specs.Statements as gs
use Rattle.tree_rules.specs.Statements.{IsResult, IsBefore, IsFirst, IsRange, IsStateCondition}
use Rattle.tree_rules.specs.Statements.{IsStmt, AreStmts, IsOther, AreCases, IsCase, IsDefault}
use Rattle.tree_rules.specs.Declarations as gd
use Rattle.tree_rules.specs.Declarations.{IsItem, IsEnum, IsParam, IsHead, IsDecl}
use Rattle.types_laws.specs.Objects.{Each}
use Rattle.types_laws.specs.Written.{IsAnyName, IsWritten, IsWrittenDim, IsConstantInit}
use Rattle.types_laws.specs.Written.{AreConstantInits, IsWrittenInit, IsWrittenVar}
use Rattle.types_laws.specs.WrittenStatements as ws
use Rattle.types_laws.specs.WrittenStatements.{MayBeConstant, IsWrittenRange, MayBeWritten}
use Rattle.types_laws.specs.WrittenStatements.{IsWrittenFirst, IsWrittenStmt, AreWrittenStmts}
use Rattle.types_laws.specs.WrittenStatements.{IsWrittenOther, AreWrittenCases, IsWrittenCase}
use Rattle.types_laws.specs.WrittenDeclarations.{IsWrittenItem, IsWrittenParam, IsOwnParam}
use Rattle.types_laws.specs.WrittenDeclarations.{IsWrittenHead, IsOwnHead, IsWrittenDecl}
use Rattle.types_laws.specs.WrittenTrees.{AreSmallTokens, TreesAreWritten}
use Rattle.types_laws.proofs.ExpressionTrees.{value_written, more_written, whole_written}

-- ---- lists

many_each : {A : Type 0} {more : ℕ → Bool} {part : ℕ → A → ℕ → ℕ → Type 0} {h i j : ℕ} {xs : List A}
    (P : A → Type 0)
    → ((h i j : ℕ) (x : A) → part h x i j → P x)
    → Many more part h xs i j → Each P xs
many_each P k (no_more a) = tt
many_each P k (one_more a p q) = (k _ _ _ _ p, many_each P k q)

several_each : {A : Type 0} {more : ℕ → Bool} {one others : ℕ → A → ℕ → ℕ → Type 0}
    {h i j : ℕ} {xs : List A} (P : A → Type 0) → ((h i j : ℕ) (x : A) → one h x i j → P x)
    → ((h i j : ℕ) (x : A) → others h x i j → P x)
    → Several more one others h xs i j → Each P xs
several_each P k l (several p q) = (k _ _ _ _ p, many_each P l q)

module _ (ts : List Token) (small : AreSmallTokens ts) where
  listed_each : {A : Type 0} {part : ℕ → A → ℕ → ℕ → Type 0} {h i j : ℕ} {xs : List A}
      (P : A → Type 0) → ((h i j : ℕ) (x : A) → part h x i j → P x)
      → Listed ts part h xs i j → Each P xs
  listed_each P k p = several_each P k (λ h i j x q. k h (suc i) j x q) p

  condition_written : {h i j : ℕ} {x : Expr} → Condition ts h x i j → IsWritten IsAnyName x
  condition_written (condition a p c) = whole_written ts small p

  -- ---- variables

  dim_written : {h i j : ℕ} {x : Dim} → IsDim ts h x i j → IsWrittenDim x
  dim_written (gv.open_dim a c) = tt
  dim_written (gv.cells_dim a p c) = whole_written ts small p
  dim_written (gv.chars_dim a p c e) = whole_written ts small p

  mutual
    init_constant : {h i j : ℕ} {x : Init} → IsInit ts h x i j → IsConstantInit x
    init_constant (gv.init_value p) = whole_written ts small p
    init_constant (gv.braces a p c) = inits_some p
    init_constant (gv.braces_rest a p c e f) = inits_some p

    inits_some : {h i j : ℕ} {xs : List Init} → AreInits ts h xs i j
        → ¬ (inits xs ≡ v.no_inits) × AreConstantInits (inits xs)
    inits_some (gv.first_init p q) =
        (λ same. let no : ⊥ = cc in no, (init_constant p, inits_more q))

    inits_more : {h i j : ℕ} {xs : List Init} → MoreInits ts h xs i j
        → AreConstantInits (inits xs)
    inits_more (gv.no_inits a) = tt
    inits_more (gv.one_init a p q) = (init_constant p, inits_more q)

  init_written : {h i j : ℕ} {x : Init} → IsInit ts h x i j → IsWrittenInit IsAnyName (Some x)
  init_written (gv.init_value p) = whole_written ts small p
  init_written (gv.braces a p c) = inits_some p
  init_written (gv.braces_rest a p c e f) = inits_some p

  led_init : {h i j : ℕ} {x : Option Init} {c : _} → Led ts c (IsInit ts) h x i j
      → IsWrittenInit IsAnyName x
  led_init (left_out a) = tt
  led_init (led a p) = init_written p

  var_written : {h i j : ℕ} {x : Var} → IsVar ts h x i j → IsWrittenVar IsAnyName x
  var_written (gv.var a p q) =
      record { dims = many_each IsWrittenDim (λ h i j x q. dim_written q) p; init = led_init q }

  vars_written : {st : Storage} {h i j : ℕ} {x : Variables} → AreVariables ts st h x i j
      → Each (IsWrittenVar IsAnyName) x.vars
  vars_written (gv.variables p a) =
      listed_each (IsWrittenVar IsAnyName) (λ h i j x q. var_written q) p

  constant_written : {h i j : ℕ} {x : ConstantOf} → IsConstant ts h x i j
      → ws.IsConstant x.value
  constant_written (gv.constant a c p e) = whole_written ts small p

  -- ---- statements

  result_written : {h i j : ℕ} {x : Option Expr} → IsResult ts h x i j → MayBeWritten IsAnyName x
  result_written (gs.no_result a) = tt
  result_written (gs.one_result a p c) = whole_written ts small p

  before_written : {c : _} {h i j : ℕ} {x : Option Expr} → IsBefore ts c h x i j
      → MayBeWritten IsAnyName x
  before_written (gs.none_before a) = tt
  before_written (gs.one_before a p c) = whole_written ts small p

  first_written : {h i j : ℕ} {x : First} → IsFirst ts h x i j → IsWrittenFirst IsAnyName x
  first_written (gs.first_nothing a) = tt
  first_written (gs.first_new a p) =
      listed_each (IsWrittenVar IsAnyName) (λ h i j x q. var_written q) p
  first_written (gs.first_value p) = whole_written ts small p

  last_written : {c : _} {tags : Bool} {level h i j : ℕ} {x : Option Expr}
      → Led ts c (Whole ts tags level) h x i j → MayBeConstant x
  last_written (left_out a) = tt
  last_written (led a p) = whole_written ts small p

  range_written : {h i j : ℕ} {x : Range} → IsRange ts h x i j → IsWrittenRange x
  range_written (gs.range p q) = record { first = whole_written ts small p; last = last_written q }

  state_written : {h i j : ℕ} {x : Option Expr} → IsStateCondition ts h x i j
      → MayBeWritten IsAnyName x
  state_written (gs.always a) = tt
  state_written (gs.only_if p) = condition_written p

  mutual
    stmt_written : {b : Bool} {h i j : ℕ} {x : Stmt} → IsStmt ts b h x i j
        → IsWrittenStmt IsAnyName x
    stmt_written (gs.empty_stmt a) = tt
    stmt_written (gs.does_stmt p a) = whole_written ts small p
    stmt_written (gs.bare_stmt a c p q e) =
        (tt, (value_written ts small p, more_written ts small q))
    stmt_written (gs.block_stmt a p c) = stmts_written p
    stmt_written (gs.if_stmt a p q r) = (condition_written p, stmt_written q, other_written r)
    stmt_written (gs.while_stmt a p q) = (condition_written p, stmt_written q)
    stmt_written (gs.do_while_stmt a p c q e) = (stmt_written p, condition_written q)
    stmt_written (gs.for_stmt a c p e q r f) =
        (first_written p, before_written q, before_written r, stmt_written f)
    stmt_written (gs.switch_stmt a p c q r e) =
        (condition_written p, cases_written q, default_written r)
    stmt_written (gs.return_stmt a p) = result_written p
    stmt_written (gs.exit_stmt a p) = result_written p
    stmt_written (gs.sleep_stmt a p) = result_written p
    stmt_written (gs.assert_stmt a p c) = whole_written ts small p
    stmt_written (gs.break_stmt a c) = tt
    stmt_written (gs.continue_stmt a c) = tt
    stmt_written (gs.state_stmt a p q c) = state_written p
    stmt_written (gs.local_stmt a c p) = vars_written p
    stmt_written (gs.constant_stmt a p) = constant_written p

    stmts_written : {h i j : ℕ} {ss : List Stmt} → AreStmts ts h ss i j
        → AreWrittenStmts IsAnyName (stmts ss)
    stmts_written (gs.no_stmts a) = tt
    stmts_written (gs.one_stmt a p q) = (stmt_written p, stmts_written q)

    other_written : {h i j : ℕ} {x : Option Stmt} → IsOther ts h x i j
        → IsWrittenOther IsAnyName (maybe_stmt x)
    other_written (gs.no_else a) = tt
    other_written (gs.one_else a p) = stmt_written p

    cases_written : {h i j : ℕ} {xs : List Case} → AreCases ts h xs i j
        → AreWrittenCases IsAnyName (cases xs)
    cases_written (gs.no_cases a) = tt
    cases_written (gs.one_case a p q) = (case_written p, cases_written q)

    case_written : {h i j : ℕ} {x : Case} → IsCase ts h x i j → IsWrittenCase IsAnyName x
    case_written (gs.case_of a p c q) =
        (listed_each IsWrittenRange (λ h i j x q. range_written q) p, stmt_written q)

    default_written : {h i j : ℕ} {x : Option Stmt} → IsDefault ts h x i j
        → IsWrittenOther IsAnyName (maybe_stmt x)
    default_written (gs.no_default a) = tt
    default_written (gs.one_default a c p) = stmt_written p

  -- ---- declarations

  led_constant : {c : _} {tags : Bool} {level h i j : ℕ} {x : Option Expr}
      → Led ts c (Whole ts tags level) h x i j → MayBeConstant x
  led_constant p = last_written p

  native_param : {h i j : ℕ} {x : Param} → IsParam ts true h x i j → IsWrittenParam x
  native_param (gd.plain_param a c p q) =
      (many_each IsWrittenDim (λ h i j x q. dim_written q) p, led_constant q)
  native_param (gd.rest_param a c e f) = tt

  own_param : {h i j : ℕ} {x : Param} → IsParam ts false h x i j → IsOwnParam x
  own_param (gd.plain_param a c p q) =
      (many_each IsWrittenDim (λ h i j x q. dim_written q) p, led_constant q)

  up_to_each : {A : Type 0} {c : _} {part : ℕ → A → ℕ → ℕ → Type 0} {h i j : ℕ} {xs : List A}
      (P : A → Type 0) → ((h i j : ℕ) (x : A) → part h x i j → P x)
      → UpTo ts c part h xs i j → Each P xs
  up_to_each P k (none_up_to a) = tt
  up_to_each P k (some_up_to a p c) = listed_each P k p

  native_head : {h i j : ℕ} {x : Head} → IsHead ts true h x i j → IsWrittenHead x
  native_head (gd.head_of a c p) = up_to_each IsWrittenParam (λ h i j x q. native_param q) p

  own_head : {h i j : ℕ} {x : Head} → IsHead ts false h x i j → IsOwnHead x
  own_head (gd.head_of a c p) = up_to_each IsOwnParam (λ h i j x q. own_param q) p

  item_written : {h i j : ℕ} {x : Item} → IsItem ts h x i j → IsWrittenItem x
  item_written (gd.item_of a p) = led_constant p

  enum_written : {h i j : ℕ} {name : Option n.Name} {items : List Item}
      → IsEnum ts h name items i j → Each IsWrittenItem items
  enum_written (gd.enum_of a p c) =
      several_each IsWrittenItem (λ h i j x q. item_written q) (λ h i j x q. item_written q) p

  decl_written : {h i j : ℕ} {x : Decl} → IsDecl ts h x i j → IsWrittenDecl IsAnyName x
  decl_written (gd.variables_decl a c e p) = vars_written p
  decl_written (gd.constant_decl a p) = constant_written p
  decl_written (gd.enum_decl a p) = enum_written p
  decl_written (gd.native_decl a p c) = native_head p
  decl_written (gd.forward_decl a p c) = own_head p
  decl_written (gd.function_decl a p c q) = (own_head p, stmt_written q)

pub trees_written : TreesAreWritten
trees_written ts tree small parse =
    many_each (IsWrittenDecl IsAnyName) (λ h i j x q. decl_written ts small q) parse.spells.decls
