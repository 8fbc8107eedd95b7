-- What is kept by each mark goes from the first token of each node of a tree that spells tokens up
-- to the one behind it.
use Rattle.std.proofs.Common.{◌≤◌, ℕ, zero, suc, Bool, true, false, List, Option, arith}
use Rattle.pawn_token.specs.declared.sign.Sign.{Sign}
use Rattle.pawn_token.specs.declared.sign.Sign.TheVariants as sign
use Rattle.pawn_token.specs.declared.key.Key.TheVariants as key
use Rattle.pawn_cells.specs.declared.place.Place.{Place}
use Rattle.pawn_lex.specs.declared.token.Token.{Token}
use Rattle.pawn_tree.specs.declared.name.At.{At}
use Rattle.pawn_tree.specs.declared.name.Name as n
use Rattle.pawn_tree.specs.declared.name.StateName.{StateName}
use Rattle.pawn_tree.specs.declared.expression.SizeofOperand.{SizeofOperand}
use Rattle.pawn_tree.specs.declared.expression.TagofOperand.{TagofOperand}
use Rattle.pawn_tree.specs.declared.declaration.HeadName.{HeadName}
use Rattle.pawn_tree.specs.Expressions.{Expr, Arg, Link, args, links}
use Rattle.pawn_tree.specs.Variables.{Dim, Init, Var, Variables, inits}
use Rattle.pawn_tree.specs.Statements.{First, Range, Stmt, Case, stmts, maybe_stmt, cases}
use Rattle.pawn_tree.specs.Declarations.{Param, Head, Decl}
use Rattle.tree_rules.specs.Lists.{Listed}
use Rattle.tree_rules.specs.Tokens.{at, name_at, sees, sees_key, tag_at, behind_key}
use Rattle.tree_rules.specs.Expressions.{behind_brackets, IsSizeof, sizeof_name, sizeof_text}
use Rattle.tree_rules.specs.Expressions.{IsTagof, tagof_name, tagof_tag, IsExpr, number, text}
use Rattle.tree_rules.specs.Expressions.{name, paren, call, index, character, postfix, prefix}
use Rattle.tree_rules.specs.Expressions.{tagged, sizeof, sizeof_in, tagof, tagof_in, binary}
use Rattle.tree_rules.specs.Expressions.{chain, choice, assign, IsLink, link, AreLinks, no_links}
use Rattle.tree_rules.specs.Expressions.{one_link, IsValue, value_arg, default_arg, IsNamed}
use Rattle.tree_rules.specs.Expressions.{named_arg, AreArgs, no_args, first_value, first_named}
use Rattle.tree_rules.specs.Expressions.{AreMore, no_more_args, more_value, more_named, Whole}
use Rattle.tree_rules.specs.Expressions.{Condition, condition}
use Rattle.tree_rules.specs.Variables.{IsDim, open_dim, cells_dim, chars_dim, AreDims, IsInit}
use Rattle.tree_rules.specs.Variables.{init_value, braces, braces_rest, AreInits, first_init}
use Rattle.tree_rules.specs.Variables.{MoreInits, no_inits, one_init, IsVar, var, AreVariables}
use Rattle.tree_rules.specs.Variables.{variables}
use Rattle.tree_rules.specs.Statements.{IsResult, no_result, one_result, IsBefore, none_before}
use Rattle.tree_rules.specs.Statements.{one_before, IsFirst, first_nothing, first_new, IsRange}
use Rattle.tree_rules.specs.Statements.{range, IsStateName, of_no_automaton, of_automaton}
use Rattle.tree_rules.specs.Statements.{IsStateCondition, always, only_if, IsStmt, empty_stmt}
use Rattle.tree_rules.specs.Statements.{does_stmt, bare_stmt, block_stmt, if_stmt, while_stmt}
use Rattle.tree_rules.specs.Statements.{do_while_stmt, for_stmt, switch_stmt, return_stmt}
use Rattle.tree_rules.specs.Statements.{exit_stmt, sleep_stmt, assert_stmt, break_stmt}
use Rattle.tree_rules.specs.Statements.{continue_stmt, state_stmt, local_stmt, constant_stmt}
use Rattle.tree_rules.specs.Statements.{AreStmts, no_stmts, one_stmt, IsOther, no_else, one_else}
use Rattle.tree_rules.specs.Statements.{AreCases, no_cases, one_case, IsCase, case_of, IsDefault}
use Rattle.tree_rules.specs.Statements.{no_default, one_default}
use Rattle.tree_rules.specs.Statements as s
use Rattle.tree_rules.specs.Declarations.{IsLabel, label_of, AreTags, no_tags, one_tag, tag_set}
use Rattle.tree_rules.specs.Declarations.{IsParam, plain_param, rest_param, IsHeadName, name_of}
use Rattle.tree_rules.specs.Declarations.{operator_of, IsHead, head_of, AreModifiers, no_modifier}
use Rattle.tree_rules.specs.Declarations.{static_word, stock_word, public_word, IsClassifier}
use Rattle.tree_rules.specs.Declarations.{no_classifier, classifier, IsDecl, variables_decl}
use Rattle.tree_rules.specs.Declarations.{constant_decl, enum_decl, native_decl, forward_decl}
use Rattle.tree_rules.specs.Declarations.{function_decl}
use Rattle.names_rules.specs.Mark.{Mark}
use Rattle.names_rules.specs.Lists.{all_marks, maybe_marks}
use Rattle.names_rules.specs.ExpressionMarks.{sizeof_marks, tagof_marks, expr_marks, arg_marks}
use Rattle.names_rules.specs.ExpressionMarks.{args_marks, link_marks, links_marks}
use Rattle.names_rules.specs.VariableMarks.{dim_marks, init_marks, inits_marks, var_marks}
use Rattle.names_rules.specs.StatementMarks.{first_marks, range_marks, stmt_marks, stmts_marks}
use Rattle.names_rules.specs.StatementMarks.{case_marks, cases_marks, other_marks}
use Rattle.names_rules.specs.TreeMarks.{param_marks, head_marks, decl_marks}
use Rattle.types_laws.proofs.Grows.{Grows, Spans, Orders, many_order, several_order, led_orders}
use Rattle.types_laws.proofs.Grows.{up_to_orders, Goes, up_to_goes, key_on, reference_on}
use Rattle.types_laws.proofs.Grows.{allowed_label, maybe_tag_rises, tags_rise, end_on}

-- ---- expressions

brackets_on : (k i : ℕ) → i ≤ behind_brackets k i
brackets_on zero i = omega arith
brackets_on (suc k) i = let a = brackets_on k (suc (suc i)) in omega arith

module _ (ts : List Token) {P : List Mark → ℕ → Type 0} (grows : Grows ts P) where
  on : {marks : List Mark} {m k : ℕ} → P marks m → m ≤ k → P marks k
  on = grows.on

  sizeof_rises : {i j : ℕ} {x : SizeofOperand} (node : At) → IsSizeof ts x i j
      → (before : List Mark) → P before i → P (sizeof_marks node x before) j
  sizeof_rises node (sizeof_name {n = k} c l b) before r =
      on (grows.occur _ node r) (brackets_on k _)
  sizeof_rises {i} node (sizeof_text {n = k} c l b) before r =
      let a = brackets_on k (suc i) in on r (omega arith)

  tagof_rises : {tags : Bool} {i j : ℕ} {x : TagofOperand} (node : At) → IsTagof ts tags x i j
      → (before : List Mark) → P before i → P (tagof_marks node x before) j
  tagof_rises node (tagof_name c) before r = grows.occur _ node r
  tagof_rises {tags} {i} node (tagof_tag t) before r =
      on (grows.mention (allowed_label ts tags i t) r) (omega arith)

  mutual
    pub expr_rises : {b : Bool} {q h i j : ℕ} {x : Expr} → IsExpr ts b q h x i j
        → (before : List Mark) → P before i → P (expr_marks x before) j
    expr_rises (number c) before r = on r (omega arith)
    expr_rises (text c) before r = on r (omega arith)
    expr_rises {i = i} (name c) before r = grows.occur _ (at ts i) r
    expr_rises (paren c s l c2) before r =
        on (expr_rises s before (on r (omega arith))) (omega arith)
    expr_rises {i = i} (call c k a c2) before r =
        on (args_rise a _ (on (grows.occur _ (at ts i) r) (omega arith))) (omega arith)
    expr_rises (index s l c f y l2 c2) before r =
        on (expr_rises y _ (on (expr_rises s before r) (omega arith))) (omega arith)
    expr_rises (character s l c f y l2 c2) before r =
        on (expr_rises y _ (on (expr_rises s before r) (omega arith))) (omega arith)
    expr_rises (postfix s l c j f) before r = on (expr_rises s before r) (omega arith)
    expr_rises (prefix c t s l) before r = expr_rises s before (on r (omega arith))
    expr_rises {b = b} {i = i} (tagged t s l) before r =
        expr_rises s _ (on (grows.mention (allowed_label ts b i t) r) (omega arith))
    expr_rises {i = i} (sizeof c s) before r = sizeof_rises (at ts i) s before (on r (omega arith))
    expr_rises {i = i} (sizeof_in c c2 s c3) before r =
        on (sizeof_rises (at ts i) s before (on r (omega arith))) (omega arith)
    expr_rises {i = i} (tagof c s) before r = tagof_rises (at ts i) s before (on r (omega arith))
    expr_rises {i = i} (tagof_in c c2 s c3) before r =
        on (tagof_rises (at ts i) s before (on r (omega arith))) (omega arith)
    expr_rises (binary s l c j y l2) before r =
        expr_rises y _ (on (expr_rises s before r) (omega arith))
    expr_rises (chain s l f ls) before r = links_rise ls _ (link_rises f _ (expr_rises s before r))
    expr_rises (choice s l c y l2 c2 z l3) before r =
        expr_rises z _ (on (expr_rises y _ (on (expr_rises s before r) (omega arith)))
        (omega arith))
    expr_rises (assign s l c j y l2) before r =
        expr_rises y _ (on (expr_rises s before r) (omega arith))

    link_rises : {b : Bool} {h i j : ℕ} {x : Link} → IsLink ts b h x i j → (before : List Mark)
        → P before i → P (link_marks x before) j
    link_rises (link c j y l e) before r = expr_rises y before (on r (omega arith))

    links_rise : {b : Bool} {h i j : ℕ} {xs : List Link} → AreLinks ts b h xs i j
        → (before : List Mark) → P before i → P (links_marks (links xs) before) j
    links_rise (no_links f) before r = r
    links_rise (one_link t l m) before r = links_rise m _ (link_rises l before r)

    value_rises : {h i j : ℕ} {x : Arg} → IsValue ts h x i j → (before : List Mark) → P before i
        → P (arg_marks x before) j
    value_rises (value_arg s l e) before r = expr_rises s before r
    value_rises (default_arg c t) before r = on r (omega arith)

    named_rises : {h i j : ℕ} {x : Arg} → IsNamed ts h x i j → (before : List Mark) → P before i
        → P (arg_marks x before) j
    named_rises (named_arg c c2 c3 s l e) before r = expr_rises s before (on r (omega arith))

    args_rise : {h i j : ℕ} {xs : List Arg} → AreArgs ts h xs i j → (before : List Mark)
        → P before i → P (args_marks (args xs) before) j
    args_rise (no_args c) before r = r
    args_rise (first_value v m) before r = more_rise m _ (value_rises v before r)
    args_rise (first_named v m) before r = more_rise m _ (named_rises v before r)

    more_rise : {named : Bool} {h i j : ℕ} {xs : List Arg} → AreMore ts named h xs i j
        → (before : List Mark) → P before i → P (args_marks (args xs) before) j
    more_rise (no_more_args f) before r = r
    more_rise (more_value c v m) before r =
        more_rise m _ (value_rises v before (on r (omega arith)))
    more_rise (more_named c v m) before r =
        more_rise m _ (named_rises v before (on r (omega arith)))

  pub whole_orders : {b : Bool} {level : ℕ} → Orders P (Whole ts b level) expr_marks
  whole_orders = record { orders = λ x before r. expr_rises x.is_expr before r }

  condition_rises : {h i j : ℕ} {x : Expr} → Condition ts h x i j → (before : List Mark)
      → P before i → P (expr_marks x before) j
  condition_rises (condition c x c2) before r =
      on (expr_rises x.is_expr before (on r (omega arith))) (omega arith)

  -- ---- variables

  dim_rises : {h i j : ℕ} {x : Dim} → IsDim ts h x i j → (before : List Mark) → P before i
      → P (dim_marks x before) j
  dim_rises (open_dim c c2) before r = on r (omega arith)
  dim_rises (cells_dim c x c2) before r =
      on (expr_rises x.is_expr before (on r (omega arith))) (omega arith)
  dim_rises (chars_dim c x c2 c3) before r =
      on (expr_rises x.is_expr before (on r (omega arith))) (omega arith)

  dims_rise : {h i j : ℕ} {xs : List Dim} → AreDims ts h xs i j → (before : List Mark) → P before i
      → P (all_marks dim_marks xs before) j
  dims_rise m before r = many_order grows (record { orders = dim_rises }) m before r

  mutual
    init_rises : {h i j : ℕ} {x : Init} → IsInit ts h x i j → (before : List Mark) → P before i
        → P (init_marks x before) j
    init_rises (init_value x) before r = expr_rises x.is_expr before r
    init_rises (braces c xs c2) before r =
        on (inits_rise xs before (on r (omega arith))) (omega arith)
    init_rises (braces_rest c xs c2 c3 c4) before r =
        on (inits_rise xs before (on r (omega arith))) (omega arith)

    inits_rise : {h i j : ℕ} {xs : List Init} → AreInits ts h xs i j → (before : List Mark)
        → P before i → P (inits_marks (inits xs) before) j
    inits_rise (first_init x m) before r = more_inits_rise m _ (init_rises x before r)

    more_inits_rise : {h i j : ℕ} {xs : List Init} → MoreInits ts h xs i j → (before : List Mark)
        → P before i → P (inits_marks (inits xs) before) j
    more_inits_rise (no_inits f) before r = r
    more_inits_rise (one_init t x m) before r =
        more_inits_rise m _ (init_rises x before (on r (omega arith)))

  module _ (spans : Spans ts P) where
    var_rises : (place : Place) (outside : Bool) {h i j : ℕ} {x : Var} → IsVar ts h x i j
        → (before : List Mark) → P before i → P (var_marks place outside x before) j
    var_rises place outside {i = i} (var c ds x) before r =
        spans.variable place outside _ _ (led_orders grows (record { orders = init_rises }) x _
        (dims_rise ds _ (on (maybe_tag_rises grows i r) (omega arith))))

    pub vars_rise : (place : Place) (outside : Bool) {h i j : ℕ} {xs : List Var}
        → Listed ts (IsVar ts) h xs i j → (before : List Mark) → P before i
        → P (all_marks (var_marks place outside) xs before) j
    vars_rise place outside m before r =
        several_order grows (record { orders = var_rises place outside }) m before r

    pub variables_rise : (place : Place) (outside : Bool) {st : _} {h i j : ℕ} {x : Variables}
        → AreVariables ts st h x i j → (before : List Mark) → P before i
        → P (all_marks (var_marks place outside) x.vars before) j
    variables_rise place outside {i = i} (variables m e) before r =
        end_on grows (vars_rise place outside m before (on r (key_on ts _ i))) e

    -- ---- statements

    result_rises : {h i j : ℕ} {x : Option Expr} → IsResult ts h x i j → (before : List Mark)
        → P before i → P (maybe_marks expr_marks x before) j
    result_rises (no_result e) before r = end_on grows r e
    result_rises (one_result f x e) before r = end_on grows (expr_rises x.is_expr before r) e

    before_rises : {c : Sign} {h i j : ℕ} {x : Option Expr} → IsBefore ts c h x i j
        → (before : List Mark) → P before i → P (maybe_marks expr_marks x before) j
    before_rises (none_before e) before r = r
    before_rises (one_before f x e) before r = expr_rises x.is_expr before r

    first_rises : (node : At) {h i j : ℕ} {x : First} → IsFirst ts h x i j → (before : List Mark)
        → P before i → P (first_marks node x before) j
    first_rises node (first_nothing c) before r = r
    first_rises node (first_new c m) before r =
        vars_rise node.place false m before (on r (omega arith))
    first_rises node (s.first_value x) before r = expr_rises x.is_expr before r

    range_rises : {h i j : ℕ} {x : Range} → IsRange ts h x i j → (before : List Mark) → P before i
        → P (range_marks x before) j
    range_rises (range x y) before r =
        led_orders grows whole_orders y _ (expr_rises x.is_expr before r)

    state_condition_rises : {h i j : ℕ} {x : Option Expr} → IsStateCondition ts h x i j
        → (before : List Mark) → P before i → P (maybe_marks expr_marks x before) j
    state_condition_rises (always f) before r = r
    state_condition_rises (only_if c) before r = condition_rises c before r

    state_name_goes : {h i j : ℕ} {x : StateName} → IsStateName ts h x i j → i ≤ j
    state_name_goes (of_no_automaton c f) = omega arith
    state_name_goes (of_automaton c c2 c3) = omega arith

    mutual
      pub stmt_rises : {b : Bool} {h i j : ℕ} {x : Stmt} → IsStmt ts b h x i j
          → (before : List Mark) → P before i → P (stmt_marks x before) j
      stmt_rises (empty_stmt c) before r = on r (omega arith)
      stmt_rises (does_stmt x e) before r = end_on grows (expr_rises x.is_expr before r) e
      stmt_rises {i = i} (bare_stmt c t v a e) before r =
          end_on grows (more_rise a _ (value_rises v _ (grows.occur _ (at ts i) r))) e
      stmt_rises (block_stmt c a c2) before r =
          on (spans.closes (stmts_rise a _ (spans.opens (on r (omega arith))))) (omega arith)
      stmt_rises (if_stmt c x s o) before r =
          other_rises o _ (stmt_rises s _ (condition_rises x before (on r (omega arith))))
      stmt_rises (while_stmt c x s) before r =
          stmt_rises s _ (condition_rises x before (on r (omega arith)))
      stmt_rises (do_while_stmt c s c2 x e) before r =
          end_on grows (condition_rises x _
          (on (stmt_rises s before (on r (omega arith))) (omega arith))) e
      stmt_rises {i = i} (for_stmt c c2 f c3 x y s) before r =
          spans.closes (stmt_rises s _ (on (before_rises y _ (on (before_rises x _
          (on (first_rises (at ts i) f _ (spans.opens (on r (omega arith)))) (omega arith)))
          (omega arith))) (omega arith)))
      stmt_rises (switch_stmt c x c2 a o c3) before r =
          on (default_rises o _ (cases_rise a _
          (on (condition_rises x before (on r (omega arith))) (omega arith)))) (omega arith)
      stmt_rises (return_stmt c x) before r = result_rises x before (on r (omega arith))
      stmt_rises (exit_stmt c x) before r = result_rises x before (on r (omega arith))
      stmt_rises (sleep_stmt c x) before r = result_rises x before (on r (omega arith))
      stmt_rises (assert_stmt c x e) before r =
          end_on grows (expr_rises x.is_expr before (on r (omega arith))) e
      stmt_rises (break_stmt c e) before r = on (end_on grows (on r (omega arith)) e) (omega arith)
      stmt_rises (continue_stmt c e) before r =
          on (end_on grows (on r (omega arith)) e) (omega arith)
      stmt_rises (state_stmt c x state e) before r =
          end_on grows (on (state_condition_rises x before (on r (omega arith)))
          (state_name_goes state)) e
      stmt_rises {i = i} (local_stmt c s v) before r =
          variables_rise (at ts i).place false v before (on r (omega arith))
      stmt_rises {i = i} (constant_stmt c x) before r =
          spans.constant (at ts i).place false x before (on r (omega arith))

      stmts_rise : {h i j : ℕ} {xs : List Stmt} → AreStmts ts h xs i j → (before : List Mark)
          → P before i → P (stmts_marks (stmts xs) before) j
      stmts_rise (no_stmts f) before r = r
      stmts_rise (one_stmt f s m) before r = stmts_rise m _ (stmt_rises s before r)

      other_rises : {h i j : ℕ} {x : Option Stmt} → IsOther ts h x i j → (before : List Mark)
          → P before i → P (other_marks (maybe_stmt x) before) j
      other_rises (no_else f) before r = r
      other_rises (one_else c s) before r = stmt_rises s before (on r (omega arith))

      cases_rise : {h i j : ℕ} {xs : List Case} → AreCases ts h xs i j → (before : List Mark)
          → P before i → P (cases_marks (cases xs) before) j
      cases_rise (no_cases f) before r = r
      cases_rise (one_case t x m) before r = cases_rise m _ (case_rises x before r)

      case_rises : {h i j : ℕ} {x : Case} → IsCase ts h x i j → (before : List Mark) → P before i
          → P (case_marks x before) j
      case_rises (case_of c ranges c2 s) before r =
          stmt_rises s _ (on (several_order grows (record { orders = range_rises }) ranges before
          (on r (omega arith))) (omega arith))

      default_rises : {h i j : ℕ} {x : Option Stmt} → IsDefault ts h x i j → (before : List Mark)
          → P before i → P (other_marks (maybe_stmt x) before) j
      default_rises (no_default f) before r = r
      default_rises (one_default c c2 s) before r = stmt_rises s before (on r (omega arith))

    -- ---- functions

    pub param_rises : (place : Place) {native : Bool} {h i j : ℕ} {x : Param}
        → IsParam ts native h x i j → (before : List Mark) → P before i
        → P (param_marks place x before) j
    param_rises place {i = i} (plain_param {j = j} {tags = tags} {dims = dims} {value = value} t c
        ds v) before r =
        let a = reference_on ts i in
        spans.parameter place (sees_key ts key.Const i)
        (sees ts sign.Ampersand (behind_key ts key.Const i)) tags
        (name_at ts j) dims value before
        (led_orders grows whole_orders v _
        (dims_rise ds _ (on (tags_rise grows t before (on r a)) (omega arith))))
    param_rises place (rest_param same t c c2) before r =
        on (tags_rise grows t before r) (omega arith)

    pub head_name_goes : {i j : ℕ} {x : HeadName} → IsHeadName ts x i j → i ≤ j
    head_name_goes (name_of c) = omega arith
    head_name_goes (operator_of c c2) = omega arith

    head_rises : (place : Place) {native : Bool} {h i j : ℕ} {x : Head} → IsHead ts native h x i j
        → (before : List Mark) → P before i → P (head_marks place x before) j
    head_rises place {i = i} (head_of c c2 ps) before r =
        let a = head_name_goes c in
        on (up_to_orders grows (record { orders = param_rises place }) ps _
        (spans.opens (on (maybe_tag_rises grows i r) (omega arith)))) (omega arith)

    pub modifiers_go : {m all : _} {i j : ℕ} → AreModifiers ts m all i j → i ≤ j
    modifiers_go (no_modifier f) = omega arith
    modifiers_go (static_word c f m) = let a = modifiers_go m in omega arith
    modifiers_go (stock_word c f m) = let a = modifiers_go m in omega arith
    modifiers_go (public_word c f m) = let a = modifiers_go m in omega arith

    pub classifier_goes : {x : Option (List StateName)} {i j : ℕ} → IsClassifier ts x i j → i ≤ j
    classifier_goes (no_classifier f) = omega arith
    classifier_goes (classifier c m) =
        let a = up_to_goes (record { goes = state_name_goes }) m in omega arith

    pub decl_rises : {h i j : ℕ} {x : Decl} → IsDecl ts h x i j → (before : List Mark) → P before i
        → P (decl_marks x before) j
    decl_rises {i = i} (variables_decl c s f v) before r =
        variables_rise (at ts i).place true v before (on r (omega arith))
    decl_rises {i = i} (constant_decl c x) before r =
        spans.constant (at ts i).place true x before (on r (omega arith))
    decl_rises {i = i} (enum_decl c x) before r =
        spans.enum (at ts i).place x before (on r (omega arith))
    decl_rises {i = i} (native_decl c x e) before r =
        end_on grows (spans.closes (head_rises (at ts i).place x before (on r (omega arith)))) e
    decl_rises {i = i} (forward_decl c x e) before r =
        let a : suc i ≤ behind_key ts key.Public (suc i) = key_on ts key.Public (suc i) in
        end_on grows (spans.closes (head_rises (at ts i).place x before (on r (omega arith)))) e
    decl_rises {i = i} (function_decl m x c s) before r =
        let a = modifiers_go m in let b = classifier_goes c in
        spans.closes (stmt_rises s _ (on (head_rises (at ts i).place x before (on r (omega arith)))
        (omega arith)))

    pub decl_orders : Orders P (IsDecl ts) decl_marks
    decl_orders = record { orders = decl_rises }
