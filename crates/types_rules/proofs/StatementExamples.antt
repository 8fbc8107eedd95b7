-- Statements by computation: which rules they break, and what they are.
use Rattle.std.specs.Prelude.{◌≡◌, ℕ, pos, List, [], ◌∷◌, map, codes, false, Option, None, Some}
use Rattle.std.specs.Prelude.{refl}
use Rattle.pawn_token.specs.declared.sign.Sign.TheVariants as sign
use Rattle.pawn_tree.specs.declared.name.At.{At}
use Rattle.pawn_tree.specs.declared.name.Name as n
use Rattle.pawn_tree.specs.declared.variable.Storage.{Storage}
use Rattle.pawn_tree.specs.declared.variable.Storage.TheVariants as storage
use Rattle.pawn_tree.specs.Expressions as e
use Rattle.pawn_tree.specs.Expressions.{Expr}
use Rattle.pawn_tree.specs.Variables as v
use Rattle.pawn_tree.specs.Variables.{Var}
use Rattle.pawn_tree.specs.Statements as s
use Rattle.pawn_tree.specs.Statements.{Stmt, Range}
use Rattle.pawn_meaning.specs.Program as code
use Rattle.names_rules.specs.Verdict.{Verdict, Fault, Stands, Breaks, faults_of}
use Rattle.types_rules.specs.Tests.{sent}
use Rattle.types_rules.specs.Scope.{found}
use Rattle.types_rules.specs.NamesAndNumbers.{text_rule}
use Rattle.types_rules.specs.Indexes.{index_rule}
use Rattle.types_rules.specs.Assignments.{set_rule, step_rule}
use Rattle.types_rules.specs.Constants.{constant_rule}
use Rattle.types_rules.specs.FirstValues.{further}
use Rattle.types_rules.specs.Points.{Point, behind_vars}
use Rattle.types_rules.specs.Stood.{Stood}
use Rattle.types_rules.specs.Locals.{locals, vars_parts}
use Rattle.types_rules.specs.Switches.{labels}
use Rattle.types_rules.specs.Statements.{stmt, cased}
use Rattle.types_rules.specs.Rule.{each}
use Rattle.types_rules.proofs.Samples.{at, name, number, var, text, index, scope, around}

-- ---- short spellings: behind four objects and two slots

abbrev point : Point
point = record { scope = [] ∷ scope; objects = 4; slots = 2 }

-- the anonymous automaton with a state, and another one
abbrev automata : List code.Automaton
automata =
    record { name = []; states = codes "s" ∷ []; enter = None }
    ∷ record { name = codes "q"; states = codes "t" ∷ []; enter = None } ∷ []

-- in a function of tag Fixed
abbrev typed : Stmt → Verdict Stood
typed it = stmt around automata 2 point false it

abbrev kind_and_token : Fault → ℕ × ℕ
kind_and_token fault = (fault.kind, fault.place.line)

abbrev faults : Stmt → List (ℕ × ℕ)
faults it = map kind_and_token (faults_of (typed it))

abbrev stmts_in : Verdict Stood → Option (List code.Stmt)
stmts_in (Stands it) = Some it.stmts
stmts_in (Breaks found) = None

abbrev stmts : Stmt → Option (List code.Stmt)
stmts it = stmts_in (typed it)

abbrev warned_in : Verdict Stood → List ℕ
warned_in (Stands it) = map (λ (here : At). here.token) it.warned
warned_in (Breaks found) = []

abbrev warned : Stmt → List ℕ
warned it = warned_in (typed it)

abbrev local : ℕ → Storage → List Var → Stmt
local token kind vars =
    s.Local (at token) (record { storage = kind; constant = false; vars = vars })

abbrev variable : List ℕ → List v.Dim → Option v.Init → Var
variable bytes dims init = record { tag = None; name = name 0 bytes; dims = dims; init = init }

abbrev cell : List ℕ → Expr → Var
cell bytes value = variable bytes [] (Some (v.Value value))

abbrev block : List Stmt → Stmt
block ss = s.Block (at 1) (s.stmts ss)

abbrev range : ℕ → ℕ → Range
range first last = record { first = number 4 first; last = Some (number 5 last) }

abbrev single : ℕ → Range
single v = record { first = number 4 v; last = None }

abbrev switch : List Range → List Range → Stmt
switch first second = s.Switch (at 1) (number 2 4)
    (s.cases (s.Values (at 3) first (s.Empty (at 6)) ∷ s.Values (at 7) second (s.Empty (at 8))
    ∷ [])) s.no_stmt

abbrev state : Option n.Name → List ℕ → Stmt
state automaton bytes = s.State (at 1) None (record { automaton = automaton; state = name 3 bytes })

-- ---- faults, each with its token

-- `break;`, `a;`, `if (a) ;`, `case 1, 1`, `case 3..5` and `case 5`, `case 5..3`, `case x`, `state
-- u;`, `state q:s;`, `state z:s;`
refused : map faults (
    s.Break (at 1) ∷ s.Do (at 1) (var 1 (codes "a"))
    ∷ s.If (at 1) (var 3 (codes "a")) (s.Empty (at 5)) s.no_stmt
    ∷ switch (single 1 ∷ single 1 ∷ []) [] ∷ switch (range 3 5 ∷ []) (single 5 ∷ [])
    ∷ switch (range 5 3 ∷ []) []
    ∷ switch (record { first = var 4 (codes "x"); last = None } ∷ []) []
    ∷ state None (codes "u") ∷ state (Some (name 2 (codes "q"))) (codes "s")
    ∷ state (Some (name 2 (codes "z"))) (codes "s") ∷ [])
    ≡ ((63, 1) ∷ []) ∷ ((54, 1) ∷ []) ∷ ((54, 1) ∷ []) ∷ ((62, 1) ∷ []) ∷ ((62, 1) ∷ [])
    ∷ ((62, 1) ∷ []) ∷ ((57, 1) ∷ [])
    ∷ ((41, 1) ∷ []) ∷ ((41, 1) ∷ []) ∷ ((40, 1) ∷ []) ∷ []
unfolding found constant_rule labels cased each
refused = refl

-- `new b, b;`, `new b[n2]; b[0];` with a size that is broken, `const n = x; n;`, `new b = "ab";`,
-- `new b = {1};`, `static b = x;`, and `{ new x; }`, which hides
locals_refused : map faults (
    block (local 2 storage.New (variable (codes "b") [] None ∷ variable (codes "b") [] None ∷ [])
    ∷ [])
    ∷ block (local 2 storage.New
    (variable (codes "b") (v.Cells (var 3 (codes "zz")) ∷ []) None ∷ [])
    ∷ s.Do (at 4) (index 4 (var 4 (codes "b")) (number 5 0)) ∷ [])
    ∷ block (s.Constant (at 2)
    (record { tag = None; name = name 3 (codes "n"); value = var 4 (codes "x") })
    ∷ s.Do (at 5) (var 5 (codes "n")) ∷ [])
    ∷ local 2 storage.New (cell (codes "b") (text 3 (codes "ab")) ∷ [])
    ∷ local 2 storage.New
    (variable (codes "b") [] (Some (v.Braces (at 3) (v.inits (v.Value (number 4 1) ∷ [])) false))
    ∷ [])
    ∷ local 2 storage.Static (cell (codes "b") (var 3 (codes "x")) ∷ [])
    ∷ block (local 2 storage.New (variable (codes "x") [] None ∷ []) ∷ []) ∷ [])
    ≡ ((51, 2) ∷ []) ∷ ((50, 3) ∷ []) ∷ ((57, 2) ∷ []) ∷ ((54, 2) ∷ []) ∷ ((53, 2) ∷ [])
    ∷ ((57, 2) ∷ []) ∷ [] ∷ []
unfolding found behind_vars locals vars_parts constant_rule text_rule index_rule sent
locals_refused = refl

-- what is broken in a part goes before what the declaration breaks: `new b = zz, b;`
parts_first : faults (local 2 storage.New (cell (codes "b") (var 3 (codes "zz"))
    ∷ variable (codes "b") [] None ∷ [])) ≡ (50, 3) ∷ []
unfolding found behind_vars locals vars_parts
parts_first = refl

-- ---- what statements are

-- `new b = 1, c = b;`: a variable is known behind its value. `new b;`, `return;`, `exit;`, `;`
made : map stmts (
    local 1 storage.New (cell (codes "b") (number 2 1) ∷ cell (codes "c") (var 3 (codes "b")) ∷ [])
    ∷ local 1 storage.New (variable (codes "b") [] None ∷ []) ∷ s.Return (at 1) None
    ∷ s.Exit (at 1) None ∷ s.Empty (at 1) ∷ [])
    ≡ Some (code.Local 2 (code.Const (pos 1)) ∷ code.Local 3 (code.Read (code.Own 2)) ∷ [])
    ∷ Some (code.Local 2 (code.Const (pos 0)) ∷ []) ∷ Some (code.Return (code.Const (pos 0)) ∷ [])
    ∷ Some (code.Exit (code.Const (pos 0)) 0 ∷ []) ∷ Some (code.Empty ∷ []) ∷ []
unfolding found locals vars_parts behind_vars sent
made = refl

-- `{ static b = 1; new c[2]; c[0] = b; }`: a static leaves no statement; it is object 4, the
-- array's cells are 5
static_and_array : stmts (block (
    local 1 storage.Static (cell (codes "b") (number 2 1) ∷ [])
    ∷ local 3 storage.New (variable (codes "c") (v.Cells (number 4 2) ∷ []) None ∷ [])
    ∷ s.Do (at 5) (e.Assign (at 5) sign.Assign (index 5 (var 5 (codes "c")) (number 6 0))
    (var 7 (codes "b"))) ∷ []))
    ≡ Some (code.Block (code.then_stmt (code.LocalArray 2 5) (code.then_stmt
    (code.Do (code.Assign (code.Element (code.SlotArray 2) (code.Const (pos 0)))
    (code.Read (code.Global 4))))
    code.no_stmts)) ∷ [])
unfolding found locals vars_parts behind_vars constant_rule further index_rule set_rule sent
static_and_array = refl

-- `for (new i = 0; i < 2; i++) ;` without its condition: the loop has its variable
loop : stmts (s.For (at 1) (s.New (cell (codes "i") (number 2 0) ∷ [])) None
    (Some (e.Postfix (at 3) sign.Increment (var 3 (codes "i")))) (s.Empty (at 4)))
    ≡ Some (code.For (code.then_stmt (code.Local 2 (code.Const (pos 0))) code.no_stmts) code.Absent
    (code.Present (code.Step (code.Own 2) (pos 1) false)) code.Empty ∷ [])
unfolding found locals vars_parts behind_vars step_rule sent
loop = refl

-- `return 1;` in a function of tag Fixed, `new b = y;`, `case Fixed:1:`
warnings : map warned (
    s.Return (at 1) (Some (number 2 1))
    ∷ local 1 storage.New (cell (codes "b") (var 3 (codes "y")) ∷ [])
    ∷ switch (record { first = e.Tagged (at 4) (codes "Fixed") (number 5 1); last = None } ∷ []) []
    ∷ [])
    ≡ (2 ∷ []) ∷ (3 ∷ []) ∷ (4 ∷ []) ∷ []
unfolding found locals vars_parts behind_vars constant_rule labels cased each sent
warnings = refl
