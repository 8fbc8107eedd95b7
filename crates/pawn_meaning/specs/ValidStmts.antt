-- Valid statements: a slot is made in the list of a block or of what a loop does first, and named
-- only behind that, up to the end of that block or loop.
use Rattle.std.specs.Prelude.{◌≡◌, ◌<◌, ◌≤◌, ◌^◌, ℕ, ℤ, List, [], ◌∷◌, ◌++◌, Bool, true, false}
use Rattle.std.specs.Prelude.{Some, All, length, slice_get}
use Rattle.pawn_cells.specs.Cells.{IsCell}
use Rattle.pawn_meaning.specs.Program.{Stmt, Block, Local, LocalArray, Do, If, While, DoWhile, For}
use Rattle.pawn_meaning.specs.Program.{Switch, Return, Break, Continue, Exit, Sleep, Assert, State}
use Rattle.pawn_meaning.specs.Program.{Empty, Else, no_else, otherwise, Cases, no_cases, then_case}
use Rattle.pawn_meaning.specs.Program.{Stmts, no_stmts, then_stmt, ScalarSlot, ArraySlot}
use Rattle.pawn_meaning.specs.Program.{StaticObject, Automaton}
use Rattle.pawn_meaning.specs.Scope.{Scope, with_made}
use Rattle.pawn_meaning.specs.ValidExprs.{IsValidExpr, IsValidPerhaps}

-- ---- which slots are made

-- the slot that a statement of a list makes for those behind it
abbrev pub slots_made : Stmt → List ℕ
slots_made (Block stmts) = []
slots_made (Local s e) = s ∷ []
slots_made (LocalArray s o) = s ∷ []
slots_made (Do e) = []
slots_made (If c a b) = []
slots_made (While c s) = []
slots_made (DoWhile s c) = []
slots_made (For first c step s) = []
slots_made (Switch e cases d) = []
slots_made (Return e) = []
slots_made Break = []
slots_made Continue = []
slots_made (Exit e tag) = []
slots_made (Sleep e tag) = []
slots_made (Assert e) = []
slots_made (State automaton state c) = []
slots_made Empty = []

-- the slots that a list makes for what stands behind it
abbrev pub slots_made_by : Stmts → List ℕ
slots_made_by no_stmts = []
slots_made_by (then_stmt s stmts) = slots_made s ++ slots_made_by stmts

-- the slots that a statement makes, those of inner blocks too
abbrev mutual
  -- the slots that a statement makes anywhere, in order
  pub all_slots_made : Stmt → List ℕ
  all_slots_made (Block stmts) = all_slots_made_by stmts
  all_slots_made (Local s e) = s ∷ []
  all_slots_made (LocalArray s o) = s ∷ []
  all_slots_made (Do e) = []
  all_slots_made (If c a b) = all_slots_made a ++ all_slots_made_else b
  all_slots_made (While c s) = all_slots_made s
  all_slots_made (DoWhile s c) = all_slots_made s
  all_slots_made (For first c step s) = all_slots_made_by first ++ all_slots_made s
  all_slots_made (Switch e cases d) = all_slots_made_in cases ++ all_slots_made_else d
  all_slots_made (Return e) = []
  all_slots_made Break = []
  all_slots_made Continue = []
  all_slots_made (Exit e tag) = []
  all_slots_made (Sleep e tag) = []
  all_slots_made (Assert e) = []
  all_slots_made (State automaton state c) = []
  all_slots_made Empty = []

  -- of what stands behind `else`
  pub all_slots_made_else : Else → List ℕ
  all_slots_made_else no_else = []
  all_slots_made_else (otherwise s) = all_slots_made s

  -- of cases
  pub all_slots_made_in : Cases → List ℕ
  all_slots_made_in no_cases = []
  all_slots_made_in (then_case ranges s cases) = all_slots_made s ++ all_slots_made_in cases

  -- of a list of statements
  pub all_slots_made_by : Stmts → List ℕ
  all_slots_made_by no_stmts = []
  all_slots_made_by (then_stmt s stmts) = all_slots_made s ++ all_slots_made_by stmts

-- ---- what is valid

-- an array slot that is no parameter has the sizes of the object whose cells it gets
pub record IsLocalArray (scope : Scope) (s o : ℕ) : Type 0 where
  pub object : StaticObject
  pub there : slice_get scope.program.objects o ≡ Some object
  pub slot : slice_get scope.slots s ≡ Some (ArraySlot object.sizes)
  pub local : scope.params ≤ s

-- an automaton of the program has so many states, this one among them
pub record IsStateOf (scope : Scope) (automaton state : ℕ) : Type 0 where
  pub it : Automaton
  pub there : slice_get scope.program.automata automaton ≡ Some it
  pub state_in : state < length it.states

-- both ends of each range are cells
abbrev pub AreRanges : List (ℤ × ℤ) → Type 0
AreRanges ranges = All (λ range. IsCell range.0 × IsCell range.1) ranges

-- a statement in a scope: whether a loop encloses it, and whether it stands in the list of a block
-- or of what a loop does first
abbrev mutual
  -- a statement, in a loop or not, and in a list that may make slots or not
  pub IsValidStmt : Scope → (in_loop in_list : Bool) → Stmt → Type 0
  IsValidStmt scope in_loop in_list (Block stmts) = AreValidStmts scope in_loop stmts
  IsValidStmt scope in_loop in_list (Local s e) =
      (in_list ≡ true) × (scope.params ≤ s) × (slice_get scope.slots s ≡ Some ScalarSlot)
      × IsValidExpr scope e
  IsValidStmt scope in_loop in_list (LocalArray s o) = (in_list ≡ true) × IsLocalArray scope s o
  IsValidStmt scope in_loop in_list (Do e) = IsValidExpr scope e
  IsValidStmt scope in_loop in_list (If c a b) =
      IsValidExpr scope c × IsValidStmt scope in_loop false a × IsValidElse scope in_loop b
  IsValidStmt scope in_loop in_list (While c s) =
      IsValidExpr scope c × IsValidStmt scope true false s
  IsValidStmt scope in_loop in_list (DoWhile s c) =
      IsValidStmt scope true false s × IsValidExpr scope c
  IsValidStmt scope in_loop in_list (For first c step s) =
      let inner = with_made (slots_made_by first) scope in
      AreValidStmts scope in_loop first × IsValidPerhaps inner c × IsValidPerhaps inner step
      × IsValidStmt inner true false s
  IsValidStmt scope in_loop in_list (Switch e cases d) =
      IsValidExpr scope e × AreValidCases scope in_loop cases × IsValidElse scope in_loop d
  IsValidStmt scope in_loop in_list (Return e) = IsValidExpr scope e
  IsValidStmt scope in_loop in_list Break = in_loop ≡ true
  IsValidStmt scope in_loop in_list Continue = in_loop ≡ true
  IsValidStmt scope in_loop in_list (Exit e tag) = IsValidExpr scope e × (tag < 2 ^ 32)
  IsValidStmt scope in_loop in_list (Sleep e tag) = IsValidExpr scope e × (tag < 2 ^ 32)
  IsValidStmt scope in_loop in_list (Assert e) = IsValidExpr scope e
  IsValidStmt scope in_loop in_list (State automaton state c) =
      IsStateOf scope automaton state × IsValidPerhaps scope c
  IsValidStmt scope in_loop in_list Empty = Unit {0}

  -- what stands behind `else` or `default`
  pub IsValidElse : Scope → Bool → Else → Type 0
  IsValidElse scope in_loop no_else = Unit {0}
  IsValidElse scope in_loop (otherwise s) = IsValidStmt scope in_loop false s

  -- each with ranges, and with a statement that makes no slot by itself
  pub AreValidCases : Scope → Bool → Cases → Type 0
  AreValidCases scope in_loop no_cases = Unit {0}
  AreValidCases scope in_loop (then_case ranges s cases) =
      AreRanges ranges × IsValidStmt scope in_loop false s × AreValidCases scope in_loop cases

  -- each statement of a list in the scope behind those before it
  pub AreValidStmts : Scope → Bool → Stmts → Type 0
  AreValidStmts scope in_loop no_stmts = Unit {0}
  AreValidStmts scope in_loop (then_stmt s stmts) =
      IsValidStmt scope in_loop true s
      × AreValidStmts (with_made (slots_made s) scope) in_loop stmts
