-- Which typed statement each statement is (Language Guide, "Statements").
use Rattle.std.specs.Prelude.{ℕ, ℤ, pos, List, [], ◌∷◌, ◌++◌, Bool, true, false, Option, None, Some}
use Rattle.pawn_tree.specs.declared.name.At.{At}
use Rattle.pawn_tree.specs.declared.variable.Storage.TheVariants as storage
use Rattle.pawn_tree.specs.Expressions.{Expr}
use Rattle.pawn_tree.specs.Statements as tree
use Rattle.pawn_tree.specs.Statements.{Stmt, Stmts, no_stmts, then_stmt, MaybeStmt, no_stmt}
use Rattle.pawn_tree.specs.Statements.{one_stmt, Case, Values, Cases, no_cases, then_case, First}
use Rattle.pawn_meaning.specs.Program as code
use Rattle.pawn_meaning.specs.Program.{Const, Perhaps, Absent, Present, Automaton}
use Rattle.pawn_tags.specs.Tags.{untagged}
use Rattle.types_rules.specs.declared.fault.TheConstants.{OUTSIDE_LOOP}
use Rattle.names_rules.specs.Verdict.{Verdict, Stands, after, both}
use Rattle.types_rules.specs.Rule.{broken, pair, each, unless_faults}
use Rattle.types_rules.specs.Typed.{Typed, cell}
use Rattle.types_rules.specs.Around.{Around}
use Rattle.types_rules.specs.Tests.{Sent, sent}
use Rattle.types_rules.specs.Expressions.{expr}
use Rattle.types_rules.specs.Literals.{literals}
use Rattle.types_rules.specs.Counts.{literals_of, slots_in, objects_in, slots_in_case}
use Rattle.types_rules.specs.Counts.{objects_in_case, slots_in_cases, objects_in_cases}
use Rattle.types_rules.specs.Points.{Point, beyond, inside, behind, behind_first}
use Rattle.types_rules.specs.Stood.{Stood, stood, nothing_stood, stood_behind, as_stmt, stmts_in}
use Rattle.types_rules.specs.Stood.{one_of}
use Rattle.types_rules.specs.VariableParts.{Judged, judged}
use Rattle.types_rules.specs.Locals.{locals, vars_parts, local_vars, local_constant}
use Rattle.types_rules.specs.Switches.{Labels, Ends, ends, labels, apart}
use Rattle.types_rules.specs.States.{Reached, reached}

-- ---- values in statements

-- a value with its tag, the literals in it, and what it warns of
pub record Used : Type 0 where
  pub expr : code.Expr
  pub tag : ℕ
  pub at : At
  pub objects : List code.StaticObject
  pub warned : List At

-- a value as it is used by this code
abbrev pub used : Typed → code.Expr → Used
used x e = record { expr = e; tag = x.tag; at = x.at; objects = x.literals; warned = x.warned }

-- 0 without a tag, where no value stands
abbrev pub zero_used : At → Used
zero_used at = record { expr = Const (pos 0); tag = untagged; at = at; objects = []; warned = [] }

-- what there is of an optional value
pub record Maybe : Type 0 where
  pub expr : Perhaps
  pub objects : List code.StaticObject
  pub warned : List At

-- no value
abbrev pub absent : Maybe
absent = record { expr = Absent; objects = []; warned = [] }

-- a value
abbrev pub present : Used → Maybe
present x = record { expr = Present x.expr; objects = x.objects; warned = x.warned }

-- ---- the parts of statements joined

-- a value before a statement
abbrev pub value_before : List code.StaticObject → List At → Stood → Stood
value_before objects warned x =
    record x { objects = objects ++ x.objects; warned = warned ++ x.warned }

-- what stands behind `else` and `default`
pub record Other : Type 0 where
  pub stood : Stood
  pub other : code.Else

-- the cases of a `switch`
pub record Cased : Type 0 where
  pub stood : Stood
  pub cases : code.Cases
  pub ranges : List (ℤ × ℤ)

-- no case
abbrev pub no_cased : Cased
no_cased = record { stood = nothing_stood; cases = code.no_cases; ranges = [] }

-- a case as it stands, before its values are looked at
pub record CasePart : Type 0 where
  pub ends : List Ends
  pub stood : Stood

-- a case with its values and statement, before others
abbrev pub case_before : Labels → Stood → Cased → Cased
case_before x s more = record {
  stood = stood_behind (value_before [] x.warned s) more.stood;
  cases = code.then_case x.ranges (one_of s) more.cases;
  ranges = x.ranges ++ more.ranges;
}

-- an expression whose value isn't used
abbrev pub do_rule : Used → Stood
do_rule x = stood (code.Do x.expr ∷ []) x.objects x.warned

-- a block of statements
abbrev pub block_rule : Stood → Stood
block_rule x = as_stmt (code.Block (stmts_in x.stmts)) x

-- an `if` with its parts
abbrev pub if_rule : Used → Stood → Other → Stood
if_rule c s other =
    as_stmt (code.If c.expr (one_of s) other.other)
    (value_before c.objects c.warned (stood_behind s other.stood))

-- a `while` with its parts
abbrev pub while_rule : Used → Stood → Stood
while_rule c s = as_stmt (code.While c.expr (one_of s)) (value_before c.objects c.warned s)

-- a `do` with its parts
abbrev pub do_while_rule : Stood → Used → Stood
do_while_rule s c =
    as_stmt (code.DoWhile (one_of s) c.expr) (stood_behind s (stood [] c.objects c.warned))

-- what is done first, the condition and the step, and the body
abbrev pub for_rule : Stood → Maybe → Maybe → Stood → Stood
for_rule first c step s =
    as_stmt (code.For (stmts_in first.stmts) c.expr step.expr (one_of s))
    (stood_behind first (value_before (c.objects ++ step.objects) (c.warned ++ step.warned) s))

-- a `switch` with its parts
abbrev pub switch_rule : Used → Cased → Other → Stood
switch_rule e cased other =
    as_stmt (code.Switch e.expr cased.cases other.other)
    (value_before e.objects e.warned (stood_behind cased.stood other.stood))

-- a `return` that gives a value or doesn't
abbrev pub return_rule : At → Bool → code.Expr → List code.StaticObject → List At → Stood
return_rule at gives e objects warned =
    record (stood (code.Return e ∷ []) objects warned)
    { returns = record { at = at; gives = gives } ∷ [] }

-- a `return` of a value that is sent to the function's result
abbrev pub return_sent : At → Used → Sent → Stood
return_sent at x it = return_rule at true it.code x.objects (it.warned ++ x.warned)

-- a `state` that reaches a state of an automaton, under a condition
abbrev pub state_rule : Reached → Maybe → Stood
state_rule it c = stood (code.State it.automaton it.state c.expr ∷ []) c.objects c.warned

-- in a loop
abbrev pub in_a_loop : At → Bool → code.Stmt → Verdict Stood
in_a_loop at false s = broken OUTSIDE_LOOP at
in_a_loop at true s = Stands (stood (s ∷ []) [] [])

-- ---- all statements

-- what is known of the source, its automata, and the tag of what the function gives
module _ (cx : Around) (automata : List Automaton) (result : ℕ) where
  -- a part of a statement
  abbrev pub part : Point → Expr → Verdict Typed
  part point e = expr cx point.scope point.objects e

  -- a part that may be absent
  abbrev pub maybe_part : Point → Option Expr → Verdict (Option Typed)
  maybe_part point None = Stands None
  maybe_part point (Some e) = after (part point e) (λ x. Stands (Some x))

  -- one cell, wanted by the node that begins at a token
  abbrev pub use_at : At → Typed → Verdict Used
  use_at at x = after (cell at x) (λ c. Stands (used x c))

  -- one cell, where there is a part
  abbrev pub maybe_use : At → Option Typed → Verdict Maybe
  maybe_use at None = Stands absent
  maybe_use at (Some x) = after (use_at at x) (λ it. Stands (present it))

  -- a part that gives one cell
  abbrev pub value : Point → At → Expr → Verdict Used
  value point at e = after (part point e) (use_at at)

  -- 0 where none stands
  abbrev pub value_or_zero : Point → At → Option Expr → Verdict Used
  value_or_zero point at None = Stands (zero_used at)
  value_or_zero point at (Some e) = value point at e

  -- a value that may be absent
  abbrev pub perhaps : Point → At → Option Expr → Verdict Maybe
  perhaps point at None = Stands absent
  perhaps point at (Some e) = after (value point at e) (λ x. Stands (present x))

  -- a value that is returned goes to the function's result
  abbrev pub returned : Point → At → Option Expr → Verdict Stood
  returned point at None = Stands (return_rule at false (Const (pos 0)) [] [])
  returned point at (Some e) =
      after (value point at e)
      (λ x. Stands (return_sent at x (sent cx (result ∷ []) x.tag x.at x.expr)))

  -- what a `for` does first
  abbrev pub first_done : Point → At → First → Verdict Stood
  first_done point at tree.Nothing = Stands nothing_stood
  first_done point at (tree.New vars) = locals cx point at storage.New false vars
  first_done point at (tree.Value e) = after (value point at e) (λ x. Stands (do_rule x))

  -- the expressions in what a `for` does first
  abbrev pub first_part : Point → At → First → Verdict Judged
  first_part point at tree.Nothing = Stands judged
  first_part point at (tree.New vars) = vars_parts cx point at storage.New false vars
  first_part point at (tree.Value e) = after (part point e) (λ x. Stands judged)

  -- a `for` by its parts, whose values are one cell each
  abbrev pub for_by : At → Stood → Option Typed → Option Typed → Stood → Verdict Stood
  for_by at first c step s =
      both (maybe_use at c) (maybe_use at step) (λ c step. Stands (for_rule first c step s))

  -- a `for`, judged where its parts have no fault
  abbrev pub for_with : Point → At → First → Verdict ((Option Typed × Option Typed) × Stood)
      → Verdict Stood
  for_with point at first parts =
      unless_faults (pair (first_part point at first) parts)
      (both (first_done point at first) parts
      (λ x it. for_by at x it.0.0 it.0.1 it.1))

  -- the cases of the `switch` that begins at a token, over a value of a tag
  unfoldable pub cased : At → ℕ → List CasePart → Verdict Cased
  cased at tag [] = Stands no_cased
  cased at tag (x ∷ more) =
      both (labels cx at tag x.ends) (cased at tag more)
      (λ values rest. Stands (case_before values x.stood rest))

  -- a `switch` by its parts, whose ranges don't touch
  abbrev pub switch_by : At → Typed → List CasePart → Other → Verdict Stood
  switch_by at x parts other =
      both (use_at at x) (cased at x.tag parts) (λ e it.
      after (apart at it.ranges) (λ ranges. Stands (switch_rule e it other)))

  -- behind an expression
  abbrev pub past : Point → Expr → Point
  past point e = beyond point (literals e) 0

  -- behind an expression that may be absent
  abbrev pub past_maybe : Point → Option Expr → Point
  past_maybe point e = beyond point (literals_of e) 0

  -- behind a statement, whose declarations are over
  abbrev pub past_stmt : Point → Stmt → Point
  past_stmt point s = beyond point (objects_in s) (slots_in s)

  abbrev mutual
    -- a statement at a point, in a loop or not
    pub stmt : Point → Bool → Stmt → Verdict Stood
    stmt point in_loop (tree.Empty at) = Stands (stood (code.Empty ∷ []) [] [])
    stmt point in_loop (tree.Do at e) = after (value point at e) (λ x. Stands (do_rule x))
    stmt point in_loop (tree.Block at ss) =
        after (block (inside point) in_loop ss) (λ x. Stands (block_rule x))
    stmt point in_loop (tree.If at c s other) =
        both (part point c)
        (pair (stmt (past point c) in_loop s)
        (otherwise (past_stmt (past point c) s) in_loop other))
        (λ x parts. after (use_at at x) (λ c. Stands (if_rule c parts.0 parts.1)))
    stmt point in_loop (tree.While at c s) =
        both (part point c) (stmt (past point c) true s)
        (λ x y. after (use_at at x) (λ c. Stands (while_rule c y)))
    stmt point in_loop (tree.DoWhile at s c) =
        both (stmt point true s) (part (past_stmt point s) c)
        (λ x y. after (use_at at y) (λ c. Stands (do_while_rule x c)))
    stmt point in_loop (tree.For at first c step s) =
        let inner : Point = behind_first cx (inside point) at first in
        for_with (inside point) at first
        (pair (pair (maybe_part inner c) (maybe_part (past_maybe inner c) step))
        (stmt (past_maybe (past_maybe inner c) step) true s))
    stmt point in_loop (tree.Switch at e cs other) =
        both (part point e)
        (pair (cases (past point e) in_loop cs)
        (otherwise (beyond (past point e) (objects_in_cases cs) (slots_in_cases cs)) in_loop other))
        (λ x parts. switch_by at x parts.0 parts.1)
    stmt point in_loop (tree.Return at e) = returned point at e
    stmt point in_loop (tree.Exit at e) =
        after (value_or_zero point at e)
        (λ x. Stands (stood (code.Exit x.expr x.tag ∷ []) x.objects x.warned))
    stmt point in_loop (tree.Sleep at e) =
        after (value_or_zero point at e)
        (λ x. Stands (stood (code.Sleep x.expr x.tag ∷ []) x.objects x.warned))
    stmt point in_loop (tree.Assert at e) =
        after (value point at e) (λ x. Stands (stood (code.Assert x.expr ∷ []) x.objects x.warned))
    stmt point in_loop (tree.Break at) = in_a_loop at in_loop code.Break
    stmt point in_loop (tree.Continue at) = in_a_loop at in_loop code.Continue
    stmt point in_loop (tree.State at c name) =
        after (perhaps point at c)
        (λ x. after (reached automata at name) (λ it. Stands (state_rule it x)))
    stmt point in_loop (tree.Local at it) =
        local_vars cx point at it.storage it.constant it.vars
    stmt point in_loop (tree.Constant at it) = local_constant cx point at it

    -- the statements of a block, each behind those before it
    pub block : Point → Bool → Stmts → Verdict Stood
    block point in_loop no_stmts = Stands nothing_stood
    block point in_loop (then_stmt s ss) =
        both (stmt point in_loop s) (block (behind cx point s) in_loop ss)
        (λ x more. Stands (stood_behind x more))

    -- what stands behind `else` and `default`, or nothing
    pub otherwise : Point → Bool → MaybeStmt → Verdict Other
    otherwise point in_loop no_stmt =
        Stands (record { stood = nothing_stood; other = code.no_else })
    otherwise point in_loop (one_stmt s) =
        after (stmt point in_loop s)
        (λ x. Stands (record { stood = x; other = code.otherwise (one_of x) }))

    -- the cases of a `switch`
    pub cases : Point → Bool → Cases → Verdict (List CasePart)
    cases point in_loop no_cases = Stands []
    cases point in_loop (then_case x xs) =
        both (one_case point in_loop x)
        (cases (beyond point (objects_in_case x) (slots_in_case x)) in_loop xs)
        (λ it more. Stands (it ∷ more))

    -- a case, with the ends of its ranges
    pub one_case : Point → Bool → Case → Verdict CasePart
    one_case point in_loop (Values case_at ranges s) =
        both (each (ends cx point.scope) ranges) (stmt point in_loop s)
        (λ x y. Stands (record { ends = x; stood = y }))
