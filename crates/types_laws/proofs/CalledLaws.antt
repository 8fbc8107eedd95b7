-- A tree as a source has it calls the names that are counted in its bodies.
use Rattle.std.proofs.Common.{ℕ, List, [], ◌∷◌, ◌++◌, Option, None, Some}
use Rattle.pawn_tree.specs.Expressions as e
use Rattle.pawn_tree.specs.Variables as v
use Rattle.pawn_tree.specs.Statements as s
use Rattle.types_rules.specs.Called.{called, called_by_links, called_by_link, called_by_args}
use Rattle.types_rules.specs.Called.{called_by_arg}
use Rattle.types_rules.specs.CalledIn.{called_by, called_by_init, called_by_vars, called_first}
use Rattle.types_rules.specs.CalledIn.{called_in, called_in_all, called_in_other, called_in_cases}
use Rattle.types_rules.specs.CalledIn.{called_in_case}
use Rattle.types_laws.specs.Objects.{Each}
use Rattle.types_laws.specs.Written.{IsAnyName, IsWritten, AreWrittenLinks, IsWrittenLink}
use Rattle.types_laws.specs.Written.{AreWrittenArgs, IsWrittenArg, IsWrittenInit}
use Rattle.types_laws.specs.WrittenStatements.{MayBeWritten, AreWrittenVars, IsWrittenFirst}
use Rattle.types_laws.specs.WrittenStatements.{IsWrittenStmt, AreWrittenStmts, IsWrittenOther}
use Rattle.types_laws.specs.WrittenStatements.{AreWrittenCases, IsWrittenCase}

each_left : {A : Type 0} (P : A → Type 0) (xs ys : List A) → Each P (xs ++ ys) → Each P xs
each_left P [] ys h = tt
each_left P (x ∷ xs) ys h = (h.0, each_left P xs ys h.1)

each_right : {A : Type 0} (P : A → Type 0) (xs ys : List A) → Each P (xs ++ ys) → Each P ys
each_right P [] ys h = h
each_right P (x ∷ xs) ys h = each_right P xs ys h.1

module _ (C : List ℕ → Type 0) where
  l : (xs ys : List (List ℕ)) → Each C (xs ++ ys) → Each C xs
  l xs ys h = each_left C xs ys h

  r : (xs ys : List (List ℕ)) → Each C (xs ++ ys) → Each C ys
  r xs ys h = each_right C xs ys h

  mutual
    pub expr_calls : (x : e.Expr) → IsWritten IsAnyName x → Each C (called x) → IsWritten C x
    expr_calls (e.Number at n) w h = w
    expr_calls (e.Text at bytes packed) w h = w
    expr_calls (e.Name at name) w h = tt
    expr_calls (e.Paren at x) w h = expr_calls x w h
    expr_calls (e.Sizeof at operand) w h = w
    expr_calls (e.Tagof at operand) w h = tt
    expr_calls (e.Prefix at sign x) w h = expr_calls x w h
    expr_calls (e.Tagged at tag x) w h = expr_calls x w h
    expr_calls (e.Postfix at sign x) w h = expr_calls x w h
    expr_calls (e.Index at a i) w h =
        (expr_calls a w.0 (l (called a) (called i) h), expr_calls i w.1 (r (called a) (called i) h))
    expr_calls (e.Character at a i) w h =
        (expr_calls a w.0 (l (called a) (called i) h), expr_calls i w.1 (r (called a) (called i) h))
    expr_calls (e.Binary at sign a i) w h =
        (expr_calls a w.0 (l (called a) (called i) h), expr_calls i w.1 (r (called a) (called i) h))
    expr_calls (e.Chain at x links) w h = (
      w.0,
      expr_calls x w.1 (l (called x) (called_by_links links) h),
      links_calls links w.2 (r (called x) (called_by_links links) h),
    )
    expr_calls (e.Choice at c a b) w h =
        let more = r (called c) (called a ++ called b) h in (
          expr_calls c w.0 (l (called c) (called a ++ called b) h),
          expr_calls a w.1 (l (called a) (called b) more),
          expr_calls b w.2 (r (called a) (called b) more),
        )
    expr_calls (e.Assign at sign a i) w h =
        (expr_calls a w.0 (l (called a) (called i) h), expr_calls i w.1 (r (called a) (called i) h))
    expr_calls (e.Call at name args bare) w h = (h.0, args_calls args w.1 h.1)

    links_calls : (links : e.Links) → AreWrittenLinks IsAnyName links
        → Each C (called_by_links links) → AreWrittenLinks C links
    links_calls e.no_links w h = tt
    links_calls (e.then_link link more) w h = (
      link_calls link w.0 (l (called_by_link link) (called_by_links more) h),
      links_calls more w.1 (r (called_by_link link) (called_by_links more) h),
    )

    link_calls : (link : e.Link) → IsWrittenLink IsAnyName link → Each C (called_by_link link)
        → IsWrittenLink C link
    link_calls (e.Compare sign x) w h = expr_calls x w h

    args_calls : (args : e.Args) → AreWrittenArgs IsAnyName args → Each C (called_by_args args)
        → AreWrittenArgs C args
    args_calls e.no_args w h = tt
    args_calls (e.then_arg arg more) w h = (
      arg_calls arg w.0 (l (called_by_arg arg) (called_by_args more) h),
      args_calls more w.1 (r (called_by_arg arg) (called_by_args more) h),
    )

    arg_calls : (arg : e.Arg) → IsWrittenArg IsAnyName arg → Each C (called_by_arg arg)
        → IsWrittenArg C arg
    arg_calls (e.Value x) w h = expr_calls x w h
    arg_calls (e.Default at) w h = tt
    arg_calls (e.Named name x) w h = expr_calls x w h

  maybe_calls : (x : Option e.Expr) → MayBeWritten IsAnyName x → Each C (called_by x)
      → MayBeWritten C x
  maybe_calls None w h = tt
  maybe_calls (Some x) w h = expr_calls x w h

  init_calls : (x : Option v.Init) → IsWrittenInit IsAnyName x → Each C (called_by_init x)
      → IsWrittenInit C x
  init_calls None w h = tt
  init_calls (Some (v.Value x)) w h = expr_calls x w h
  init_calls (Some (v.Braces at xs goes_on)) w h = w

  vars_calls : (vars : List v.Var) → AreWrittenVars IsAnyName vars → Each C (called_by_vars vars)
      → AreWrittenVars C vars
  vars_calls [] w h = tt
  vars_calls (x ∷ more) w h = (
    record {
      dims = w.0.dims;
      init = init_calls x.init w.0.init
          (l (called_by_init x.init) (called_by_vars more) h);
    },
    vars_calls more w.1 (r (called_by_init x.init) (called_by_vars more) h),
  )

  first_calls : (first : s.First) → IsWrittenFirst IsAnyName first → Each C (called_first first)
      → IsWrittenFirst C first
  first_calls s.Nothing w h = tt
  first_calls (s.New vars) w h = vars_calls vars w h
  first_calls (s.Value x) w h = expr_calls x w h

  mutual
    pub stmt_calls : (x : s.Stmt) → IsWrittenStmt IsAnyName x → Each C (called_in x)
        → IsWrittenStmt C x
    stmt_calls (s.Empty at) w h = tt
    stmt_calls (s.Do at x) w h = expr_calls x w h
    stmt_calls (s.Block at ss) w h = stmts_calls ss w h
    stmt_calls (s.If at c x other) w h =
        let more = r (called c) (called_in x ++ called_in_other other) h in (
          expr_calls c w.0 (l (called c) _ h),
          stmt_calls x w.1 (l (called_in x) _ more),
          other_calls other w.2 (r (called_in x) (called_in_other other) more),
        )
    stmt_calls (s.While at c x) w h = (
      expr_calls c w.0 (l (called c) (called_in x) h),
      stmt_calls x w.1 (r (called c) (called_in x) h),
    )
    stmt_calls (s.DoWhile at x c) w h = (
      stmt_calls x w.0 (l (called_in x) (called c) h),
      expr_calls c w.1 (r (called_in x) (called c) h),
    )
    stmt_calls (s.For at first c step x) w h =
        let a = r (called_first first) (called_by c ++ (called_by step ++ called_in x)) h in
        let b = r (called_by c) (called_by step ++ called_in x) a in (
          first_calls first w.0 (l (called_first first) _ h),
          maybe_calls c w.1 (l (called_by c) _ a),
          maybe_calls step w.2 (l (called_by step) _ b),
          stmt_calls x w.3 (r (called_by step) (called_in x) b),
        )
    stmt_calls (s.Switch at x cs other) w h =
        let more = r (called x) (called_in_cases cs ++ called_in_other other) h in (
          expr_calls x w.0 (l (called x) _ h),
          cases_calls cs w.1 (l (called_in_cases cs) _ more),
          other_calls other w.2 (r (called_in_cases cs) (called_in_other other) more),
        )
    stmt_calls (s.Return at x) w h = maybe_calls x w h
    stmt_calls (s.Exit at x) w h = maybe_calls x w h
    stmt_calls (s.Sleep at x) w h = maybe_calls x w h
    stmt_calls (s.Assert at x) w h = expr_calls x w h
    stmt_calls (s.Break at) w h = tt
    stmt_calls (s.Continue at) w h = tt
    stmt_calls (s.State at x name) w h = maybe_calls x w h
    stmt_calls (s.Local at it) w h = vars_calls it.vars w h
    stmt_calls (s.Constant at it) w h = w

    stmts_calls : (ss : s.Stmts) → AreWrittenStmts IsAnyName ss → Each C (called_in_all ss)
        → AreWrittenStmts C ss
    stmts_calls s.no_stmts w h = tt
    stmts_calls (s.then_stmt x ss) w h = (
      stmt_calls x w.0 (l (called_in x) (called_in_all ss) h),
      stmts_calls ss w.1 (r (called_in x) (called_in_all ss) h),
    )

    other_calls : (x : s.MaybeStmt) → IsWrittenOther IsAnyName x → Each C (called_in_other x)
        → IsWrittenOther C x
    other_calls s.no_stmt w h = tt
    other_calls (s.one_stmt x) w h = stmt_calls x w h

    cases_calls : (cs : s.Cases) → AreWrittenCases IsAnyName cs → Each C (called_in_cases cs)
        → AreWrittenCases C cs
    cases_calls s.no_cases w h = tt
    cases_calls (s.then_case x xs) w h = (
      case_calls x w.0 (l (called_in_case x) (called_in_cases xs) h),
      cases_calls xs w.1 (r (called_in_case x) (called_in_cases xs) h),
    )

    case_calls : (x : s.Case) → IsWrittenCase IsAnyName x → Each C (called_in_case x)
        → IsWrittenCase C x
    case_calls (s.Values at ranges x) w h = (w.0, stmt_calls x w.1 h)
