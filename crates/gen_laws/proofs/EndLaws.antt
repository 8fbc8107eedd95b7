-- Where the code of a statement ends doesn't depend on where its exits are, nor that of cases on
-- where the whole ends.
use Rattle.std.proofs.Common.{◌≡◌, ◌+◌, ◌*◌, ℕ, ℤ, List, [], ◌∷◌, ◌++◌, true, false, length, refl}
use Rattle.std.proofs.Common.{sym, ap, ◌∙◌, arith, length-append}
use Rattle.pawn_meaning.specs.Program.{Stmt, Block, Local, LocalArray, Do, If, While, DoWhile, For}
use Rattle.pawn_meaning.specs.Program.{Switch, Return, Break, Continue, Exit, Sleep, Assert, State}
use Rattle.pawn_meaning.specs.Program.{Empty, Else, no_else, otherwise, Cases, no_cases, then_case}
use Rattle.pawn_meaning.specs.Program.{Stmts, no_stmts, then_stmt}
use Rattle.pawn_meaning.specs.ValidStmts.{slots_made, slots_made_by}
use Rattle.amx_ops.specs.declared.op.Op.TheVariants as op
use Rattle.gen_sim.specs.Items.{Item, size, past}
use Rattle.gen_sim.proofs.ItemLaws.{past-append}
use Rattle.gen_sim.specs.JumpCode.{jump_to, other_at, end_at, choice_code}
use Rattle.gen_laws.specs.BranchItems.{jump_items}
use Rattle.gen_laws.proofs.BranchForms.{jump_ends}
use Rattle.gen_laws.specs.GoesOn.{dropped_by}
use Rattle.gen_laws.specs.ExprCode.{value_items}
use Rattle.gen_sim.specs.Here.{Exits, Here, behind}
use Rattle.gen_sim.specs.FlowCode.{leave_code, else_at}
use Rattle.gen_sim.specs.LoopCode.{body_at, loop_exits, until_exits}
use Rattle.gen_laws.specs.SwitchCode.{ranges_table, cases_values, table_item, cases_at}
use Rattle.gen_laws.specs.SwitchCode.{table_code}
use Rattle.gen_laws.proofs.TableLaws.{length_ranges}
use Rattle.gen_laws.specs.ClosedCode.{closed_if, closed_only, closed_switch}
use Rattle.gen_laws.specs.StmtCode.{stmt_items, for_items, else_items, cases_items, cases_table}
use Rattle.gen_laws.specs.StmtCode.{stmts_items}

-- with other exits
abbrev pub out : Exits → Here → Here
out exits here = record here { exits = exits }

pub choice_past : (p : ℕ) (first second : List Item)
    → past p (choice_code p first second) ≡ past (other_at p first) second
choice_past p first second =
    past-append (p + 8) first (jump_to op.Jump (end_at p first second) ∷ second)

-- a condition ends at an address wherever its jumps lead, and the part behind it where it does
module _ (q : ℕ) (condition : ℕ → List Item)
    (same : (m n : ℕ) → past q (condition m) ≡ past q (condition n)) where
  only_past : (first : ℕ → List Item) → past q (closed_only q condition first)
      ≡ past (past q (condition 0)) (first (past q (condition 0)))
  only_past first =
      let one = first (past q (condition 0)) in
      let to = past (past q (condition 0)) one in
      past-append q (condition to) one ∙ ap (λ p. past p one) (same to 0)

  if_past : (first second : ℕ → List Item) → let p = past q (condition 0) in
      let at = else_at p (first p) in past q (closed_if q condition first second) ≡ past at (second at)
  if_past first second =
      let p = past q (condition 0) in
      let one = first p in
      let at = else_at p one in
      let two = second at in
      let jump = jump_to op.Jump (past (else_at (past q (condition at)) one) two) in
      past-append q (condition at) (one ++ (jump ∷ two))
      ∙ past-append (past q (condition at)) one (jump ∷ two)
      ∙ ap (λ z. past (else_at z one) two) (same at 0)

-- the same exits of a loop, whose bodies end alike
pub loop_alike : (top : ℕ) (test one two more : List Item)
    → past (body_at top) one ≡ past (body_at top) two
    → loop_exits top test one more ≡ loop_exits top test two more
loop_alike top test one two more e =
    ap (λ q. record { looped = true; broke = past (past q more) test; continued = q }) e

pub until_alike : (top : ℕ) (one two more : List Item) → past (top + 4) one ≡ past (top + 4) two
    → until_exits top one more ≡ until_exits top two more
until_alike top one two more e =
    ap (λ q. record { looped = true; broke = past q more + 8 + 8; continued = q }) e

-- ---- case tables

pub length_table : (here : Here) (cases : Cases) (begin : ℕ)
    → length (cases_table here begin cases) ≡ 2 * cases_values cases
length_table here no_cases begin = refl
length_table here (then_case ranges s cases) begin =
    omega (
      arith,
      length-append (ranges_table ranges begin)
          (cases_table here (past begin (stmt_items here begin s) + 8) cases),
      length_ranges ranges begin,
      length_table here cases (past begin (stmt_items here begin s) + 8),
    )

table_past : (p : ℕ) (cases : Cases) (other : ℕ) (table : List ℤ) (items : List Item)
    → length table ≡ 2 * cases_values cases
    → past p (table_code p cases other table items) ≡ past (cases_at p cases) items
table_past p cases other table items h =
    let at : p + 8 + 4 * size (table_item (cases_values cases) other table) ≡ cases_at p cases =
    omega (arith, h) in
    ap (λ q. past q items) at

-- a switch ends where what stands behind its cases does
switch_past : (begin : ℕ) (cases : Cases) (value : List Item) (table : List ℤ)
    (items : ℕ → List Item) (other : ℕ → List Item)
    → length table ≡ 2 * cases_values cases
    → ((m n : ℕ) → past (cases_at (past begin value) cases) (items m)
    ≡ past (cases_at (past begin value) cases) (items n))
    → past begin (closed_switch (past begin value) cases value table items other)
    ≡ past (past (cases_at (past begin value) cases) (items 0))
    (other (past (cases_at (past begin value) cases) (items 0)))
switch_past begin cases value table items other h same =
    let p = past begin value in
    let first = cases_at p cases in
    let default = past first (items 0) in
    let end = past default (other default) in
    past-append begin value (table_code p cases default table (items end ++ other default))
    ∙ table_past p cases default table (items end ++ other default) h
    ∙ past-append first (items end) (other default)
    ∙ ap (λ q. past q (other default)) (same end 0)

mutual
  pub stmt_ends : (s : Stmt) (here : Here) (e f : Exits) (q : ℕ)
      → past q (stmt_items (out e here) q s) ≡ past q (stmt_items (out f here) q s)
  stmt_ends (Block stmts) here e f q =
      let leave = leave_code here.scope.slots (dropped_by stmts) in
      past-append q (stmts_items (out e here) q stmts) leave
      ∙ ap (λ z. past z leave) (stmts_end stmts here e f q)
      ∙ sym (past-append q (stmts_items (out f here) q stmts) leave)
  stmt_ends (Local s v) here e f q = refl
  stmt_ends (LocalArray s o) here e f q = refl
  stmt_ends (Do v) here e f q = refl
  stmt_ends (If c a no_else) here e f q =
      let condition : ℕ → List Item = λ to. jump_items here.scope false to q c in
      let same = jump_ends here.scope c false q in
      only_past q condition same (λ z. stmt_items (out e here) z a)
      ∙ stmt_ends a here e f (past q (condition 0))
      ∙ sym (only_past q condition same (λ z. stmt_items (out f here) z a))
  stmt_ends (If c a (otherwise b)) here e f q =
      let condition : ℕ → List Item = λ to. jump_items here.scope false to q c in
      let same = jump_ends here.scope c false q in
      let p = past q (condition 0) in
      if_past q condition same (λ z. stmt_items (out e here) z a) (λ z. stmt_items (out e here) z b)
      ∙ stmt_ends b here e f (else_at p (stmt_items (out e here) p a))
      ∙ ap (λ z. past (z + 8) (stmt_items (out f here) (z + 8) b)) (stmt_ends a here e f p)
      ∙ sym (if_past q condition same (λ z. stmt_items (out f here) z a)
      (λ z. stmt_items (out f here) z b))
  stmt_ends (While c s) here e f q = refl
  stmt_ends (DoWhile s c) here e f q = refl
  stmt_ends (For first c step s) here e f q =
      let leave = leave_code here.scope.slots (slots_made_by first) in
      let inner = behind (slots_made_by first) here in
      past-append q (stmts_items (out e here) q first)
      (for_items (out e inner) (past q (stmts_items (out e here) q first)) c step s ++ leave)
      ∙ ap (λ z. past z (for_items (out f inner) z c step s ++ leave)) (stmts_end first here e f q)
      ∙ sym (past-append q (stmts_items (out f here) q first)
      (for_items (out f inner) (past q (stmts_items (out f here) q first)) c step s ++ leave))
  stmt_ends (Switch v cases d) here e f q =
      let value = value_items here.scope q v in
      let first = cases_at (past q value) cases in
      switch_past q cases value (cases_table (out e here) first cases)
      (λ end. cases_items (out e here) first end cases) (λ z. else_items (out e here) z d)
      (length_table (out e here) cases first) (λ m n. cases_ends cases here e e first m n)
      ∙ else_ends d here e f (past first (cases_items (out e here) first 0 cases))
      ∙ ap (λ z. past z (else_items (out f here) z d)) (cases_ends cases here e f first 0 0)
      ∙ sym (switch_past q cases value (cases_table (out f here) first cases)
      (λ end. cases_items (out f here) first end cases) (λ z. else_items (out f here) z d)
      (length_table (out f here) cases first) (λ m n. cases_ends cases here f f first m n))
  stmt_ends (Return v) here e f q = refl
  stmt_ends Break here e f q =
      let leave = leave_code here.scope.slots here.since in
      past-append q leave (jump_to op.Jump e.broke ∷ [])
      ∙ sym (past-append q leave (jump_to op.Jump f.broke ∷ []))
  stmt_ends Continue here e f q =
      let leave = leave_code here.scope.slots here.since in
      past-append q leave (jump_to op.Jump e.continued ∷ [])
      ∙ sym (past-append q leave (jump_to op.Jump f.continued ∷ []))
  stmt_ends (Exit v tag) here e f q = refl
  stmt_ends (Sleep v tag) here e f q = refl
  stmt_ends (Assert v) here e f q = refl
  stmt_ends (State automaton state c) here e f q = refl
  stmt_ends Empty here e f q = refl

  pub else_ends : (other : Else) (here : Here) (e f : Exits) (q : ℕ)
      → past q (else_items (out e here) q other) ≡ past q (else_items (out f here) q other)
  else_ends no_else here e f q = refl
  else_ends (otherwise s) here e f q = stmt_ends s here e f q

  pub cases_ends : (cases : Cases) (here : Here) (e f : Exits) (q m n : ℕ)
      → past q (cases_items (out e here) q m cases) ≡ past q (cases_items (out f here) q n cases)
  cases_ends no_cases here e f q m n = refl
  cases_ends (then_case ranges s cases) here e f q m n =
      let one = stmt_items (out e here) q s in
      let two = stmt_items (out f here) q s in
      past-append q one (jump_to op.Jump m ∷ cases_items (out e here) (past q one + 8) m cases)
      ∙ cases_ends cases here e f (past q one + 8) m n
      ∙ ap (λ z. past (z + 8) (cases_items (out f here) (z + 8) n cases)) (stmt_ends s here e f q)
      ∙ sym (past-append q two (jump_to op.Jump n
      ∷ cases_items (out f here) (past q two + 8) n cases))

  pub stmts_end : (stmts : Stmts) (here : Here) (e f : Exits) (q : ℕ)
      → past q (stmts_items (out e here) q stmts) ≡ past q (stmts_items (out f here) q stmts)
  stmts_end no_stmts here e f q = refl
  stmts_end (then_stmt s stmts) here e f q =
      let inner = behind (slots_made s) here in
      let one = stmt_items (out e here) q s in
      let two = stmt_items (out f here) q s in
      past-append q one (stmts_items (out e inner) (past q one) stmts)
      ∙ stmts_end stmts inner e f (past q one)
      ∙ ap (λ z. past z (stmts_items (out f inner) z stmts)) (stmt_ends s here e f q)
      ∙ sym (past-append q two (stmts_items (out f inner) (past q two) stmts))
