-- The code of a condition with its jumps: it does what it means, ends at the same address wherever
-- its jumps lead, is light and well, and its calls are those of a valid expression.
use Rattle.std.proofs.Common.{◌≡◌, ◌+◌, ◌≤◌, ℕ, ℤ, List, [], ◌∷◌, ◌++◌, Bool, true, false, Option}
use Rattle.std.proofs.Common.{None, Some, length, is_some, refl, sym, ap, subst, ◌∙◌, arith}
use Rattle.std.proofs.Common.{not as no}
use Rattle.pawn_cells.specs.declared.operator.Prefix.{Prefix}
use Rattle.pawn_cells.specs.declared.operator.Prefix.TheVariants as before
use Rattle.pawn_meaning.specs.Program.{Expr, Unary, And, Or, Slot}
use Rattle.pawn_meaning.specs.Scope.{Scope}
use Rattle.pawn_meaning.specs.ValidExprs.{IsValidExpr, Takes}
use Rattle.pawn_meaning.specs.Fold.{fold}
use Rattle.pawn_meaning.specs.Meaning.{value}
use Rattle.pawn_meaning.specs.Need.{load}
use Rattle.pawn_meaning.specs.Weight.{part, expr_weight, folds}
use Rattle.pawn_meaning.specs.declared.program_limits.TheConstants.{NODE_WEIGHT}
use Rattle.gen_sim.specs.Site.{scene_at}
use Rattle.gen_sim.specs.Items.{Item, past}
use Rattle.gen_sim.specs.TestCode.{Test}
use Rattle.gen_sim.specs.Branch.{test_where, aim, BranchCode}
use Rattle.gen_sim.proofs.ItemLaws.{past-append, count-append}
use Rattle.gen_sim.proofs.TestLaws.{test_past, test_count}
use Rattle.gen_sim.proofs.BranchNodes.{Joint, told_branch, not_branch, joint_branch, and_joint}
use Rattle.gen_sim.proofs.BranchNodes.{or_joint}
use Rattle.gen_laws.specs.ConditionCode.{prefix_items, test_of, test_items}
use Rattle.gen_laws.specs.BranchItems.{jump_where, single_items, joint_items}
use Rattle.gen_laws.specs.BranchItems.{by_operands, jump_items}
use Rattle.gen_laws.specs.Called.{AreCalled}
use Rattle.gen_laws.specs.Well.{AreWell, Holds}
use Rattle.gen_laws.proofs.ConditionNodes.{test_does, test_closed, test_light, test_called}
use Rattle.gen_laws.proofs.Counts.{count}
use Rattle.gen_laws.proofs.CalledItems.{both_called}
use Rattle.gen_laws.proofs.WellLaws.{holds_first, holds_rest, holds_end, well_both, closed_well}
use Rattle.gen_laws.proofs.WellLaws.{test_jump}

module _ (scope : Scope) where
  -- ---- where it ends

  told_ends : (e : Expr) (when : Bool) (begin m n : ℕ)
      → past begin (single_items scope when m begin e)
      ≡ past begin (single_items scope when n begin e)
  told_ends e when begin m n =
      let items = test_items scope begin e in
      let t = test_of scope e in
      let by = test_where when t in
      past-append begin items (jump_where when t m ∷ []) ∙ test_past (past begin items) by m []
      ∙ sym (past-append begin items (jump_where when t n ∷ [])
      ∙ test_past (past begin items) by n [])

  prefix_ends : (k : Option ℤ) (o : Prefix) (begin : ℕ) (one two first second : List Item)
      → past begin one ≡ past begin two → past begin first ≡ past begin second
      → past begin (prefix_items k o one first) ≡ past begin (prefix_items k o two second)
  prefix_ends None before.Not begin one two first second h g = h
  prefix_ends k o begin one two first second h g = g

  joint_ends : (k : Option ℤ) (decides when : Bool) (begin m n : ℕ)
      (left right : (to begin : ℕ) → List Item) (one two : List Item)
      → ((i j : ℕ) → past begin (left i begin) ≡ past begin (left j begin))
      → ((q i j : ℕ) → past q (right i q) ≡ past q (right j q)) → past begin one ≡ past begin two
      → past begin (by_operands k (joint_items decides when m begin left right) one)
      ≡ past begin (by_operands k (joint_items decides when n begin left right) two)
  joint_ends None decides when begin m n left right one two first second whole =
      let p = past begin (left 0 begin) in
      let by = λ (to : ℕ). aim decides when to (past p (right to p)) in
      past-append begin (left (by m) begin) (right m p)
      ∙ ap (λ q. past q (right m p)) (first (by m) 0) ∙ second p m n
      ∙ sym (past-append begin (left (by n) begin) (right n p)
      ∙ ap (λ q. past q (right n p)) (first (by n) 0))
  joint_ends (Some v) decides when begin m n left right one two first second whole = whole

  pub jump_ends : (e : Expr) (when : Bool) (begin m n : ℕ)
      → past begin (jump_items scope when m begin e) ≡ past begin (jump_items scope when n begin e)
  jump_ends (Unary o e) when begin m n =
      prefix_ends (fold (Unary o e)) o begin (jump_items scope (no when) m begin e)
      (jump_items scope (no when) n begin e) (single_items scope when m begin (Unary o e))
      (single_items scope when n begin (Unary o e)) (jump_ends e (no when) begin m n)
      (told_ends (Unary o e) when begin m n)
  jump_ends (And l r) when begin m n =
      joint_ends (fold (And l r)) false when begin m n (λ t q. jump_items scope false t q l)
      (λ t q. jump_items scope when t q r) (single_items scope when m begin (And l r))
      (single_items scope when n begin (And l r)) (λ i j. jump_ends l false begin i j)
      (λ q i j. jump_ends r when q i j) (told_ends (And l r) when begin m n)
  jump_ends (Or l r) when begin m n =
      joint_ends (fold (Or l r)) true when begin m n (λ t q. jump_items scope true t q l)
      (λ t q. jump_items scope when t q r) (single_items scope when m begin (Or l r))
      (single_items scope when n begin (Or l r)) (λ i j. jump_ends l true begin i j)
      (λ q i j. jump_ends r when q i j) (told_ends (Or l r) when begin m n)
  jump_ends e when begin m n = told_ends e when begin m n

  -- ---- it does what it means

  abbrev pub Does : Bool → (to begin : ℕ) → Expr → List Item → Type 0
  Does when to begin e items =
      BranchCode scope (λ x fewer. value (scene_at x) fewer e) (load e) when to begin items

  told_does : (e : Expr) → IsValidExpr scope e → (when : Bool) (to begin : ℕ)
      → Does when to begin e (single_items scope when to begin e)
  told_does e h when to begin =
      told_branch scope (λ x fewer. value (scene_at x) fewer e) (load e) begin (test_of scope e)
      (test_items scope begin e) when to (test_does scope e h begin).does

  prefix_does : (k : Option ℤ) (o : Prefix) (e : Expr) → IsValidExpr scope (Unary o e)
      → (when : Bool) (to begin : ℕ) (items : List Item) → Does (no when) to begin e items
      → Does when to begin (Unary o e)
      (prefix_items k o items (single_items scope when to begin (Unary o e)))
  prefix_does None before.Not e h when to begin items one =
      not_branch scope e begin when to items one
  prefix_does k o e h when to begin items one = told_does (Unary o e) h when to begin

  joint_does : (k : Option ℤ) (decides : Bool) (l r e : Expr) → Joint decides l r e
      → IsValidExpr scope e → (when : Bool) (to begin : ℕ)
      → ((t q : ℕ) → Does decides t q l (jump_items scope decides t q l))
      → ((t q : ℕ) → Does when t q r (jump_items scope when t q r))
      → Does when to begin e (by_operands k
      (joint_items decides when to begin (λ t q. jump_items scope decides t q l)
      (λ t q. jump_items scope when t q r)) (single_items scope when to begin e))
  joint_does None decides l r e joint h when to begin one two =
      let p = past begin (jump_items scope decides 0 begin l) in
      let second = jump_items scope when to p r in
      let at = aim decides when to (past p second) in
      let left = jump_items scope decides at begin l in
      let same : p ≡ past begin left = jump_ends l decides begin 0 at in
      joint_branch scope decides l r e joint begin when to left second
      (subst (λ q. Does decides (aim decides when to (past q second)) begin l left) same
      (one at begin))
      (subst (λ q. Does when to q r second) same (two to p))
  joint_does (Some v) decides l r e joint h when to begin one two = told_does e h when to begin

  pub jump_does : (e : Expr) → IsValidExpr scope e → (when : Bool) (to begin : ℕ)
      → Does when to begin e (jump_items scope when to begin e)
  jump_does (Unary o e) h when to begin =
      prefix_does (fold (Unary o e)) o e h when to begin (jump_items scope (no when) to begin e)
      (jump_does e h (no when) to begin)
  jump_does (And l r) h when to begin =
      joint_does (fold (And l r)) false l r (And l r) (and_joint l r) h when to begin
      (λ t q. jump_does l h.0 false t q) (λ t q. jump_does r h.1 when t q)
  jump_does (Or l r) h when to begin =
      joint_does (fold (Or l r)) true l r (Or l r) (or_joint l r) h when to begin
      (λ t q. jump_does l h.0 true t q) (λ t q. jump_does r h.1 when t q)
  jump_does e h when to begin = told_does e h when to begin

  -- ---- it is within the expression's weight

  told_light : (e : Expr) (when : Bool) (to begin : ℕ)
      → count (single_items scope when to begin e) + 18 ≤ expr_weight folds e
  told_light e when to begin =
      omega (
        arith,
        count-append (test_items scope begin e) (jump_where when (test_of scope e) to ∷ []),
        test_count (test_where when (test_of scope e)) to [],
        test_light scope e begin,
      )

  prefix_light : (k : Option ℤ) (o : Prefix) (operand whole : List Item) (w : ℕ)
      → count operand + 18 ≤ w → count whole + 18 ≤ part (is_some k) (NODE_WEIGHT + w)
      → count (prefix_items k o operand whole) + 18 ≤ part (is_some k) (NODE_WEIGHT + w)
  prefix_light None before.Not operand whole w h g = omega (arith, h)
  prefix_light k o operand whole w h g = g

  joint_light : (k : Option ℤ) (decides when : Bool) (to begin : ℕ)
      (left right : (to begin : ℕ) → List Item) (whole : List Item) (wl wr : ℕ)
      → ((t q : ℕ) → count (left t q) + 18 ≤ wl) → ((t q : ℕ) → count (right t q) + 18 ≤ wr)
      → count whole + 18 ≤ part (is_some k) (NODE_WEIGHT + (wl + wr))
      → count (by_operands k (joint_items decides when to begin left right) whole) + 18
      ≤ part (is_some k) (NODE_WEIGHT + (wl + wr))
  joint_light None decides when to begin left right whole wl wr one two h =
      let p = past begin (left 0 begin) in
      let second = right to p in
      let at = aim decides when to (past p second) in
      omega (arith, count-append (left at begin) second, one at begin, two to p)
  joint_light (Some v) decides when to begin left right whole wl wr one two h = h

  pub jump_light : (e : Expr) (when : Bool) (to begin : ℕ)
      → count (jump_items scope when to begin e) + 18 ≤ expr_weight folds e
  jump_light (Unary o e) when to begin =
      prefix_light (fold (Unary o e)) o (jump_items scope (no when) to begin e)
      (single_items scope when to begin (Unary o e)) (expr_weight folds e)
      (jump_light e (no when) to begin) (told_light (Unary o e) when to begin)
  jump_light (And l r) when to begin =
      joint_light (fold (And l r)) false when to begin (λ t q. jump_items scope false t q l)
      (λ t q. jump_items scope when t q r) (single_items scope when to begin (And l r))
      (expr_weight folds l) (expr_weight folds r) (λ t q. jump_light l false t q)
      (λ t q. jump_light r when t q) (told_light (And l r) when to begin)
  jump_light (Or l r) when to begin =
      joint_light (fold (Or l r)) true when to begin (λ t q. jump_items scope true t q l)
      (λ t q. jump_items scope when t q r) (single_items scope when to begin (Or l r))
      (expr_weight folds l) (expr_weight folds r) (λ t q. jump_light l true t q)
      (λ t q. jump_light r when t q) (told_light (Or l r) when to begin)
  jump_light e when to begin = told_light e when to begin

-- ---- it leads to itself, to its end, or to where its jumps lead

aim_holds : (T : ℕ → Type 0) (decides when : Bool) (to end : ℕ) → T to → T end
    → T (aim decides when to end)
aim_holds T true true to end h g = h
aim_holds T true false to end h g = g
aim_holds T false true to end h g = g
aim_holds T false false to end h g = h

module _ (T U : ℕ → Type 0) (scope : Scope) where
  abbrev natives : ℕ
  natives = length scope.program.natives

  -- such items are well where something holds of their starts and of where their jumps lead
  abbrev IsLedWell : (to begin : ℕ) → List Item → Type 0
  IsLedWell to begin items = T to → Holds T U begin items → AreWell natives T U items

  told_well : (e : Expr) → IsValidExpr scope e → (when : Bool) (to begin : ℕ)
      → IsLedWell to begin (single_items scope when to begin e)
  told_well e h when to begin at g =
      let items = test_items scope begin e in
      let last = jump_where when (test_of scope e) to ∷ [] in
      well_both T U natives items last
      (closed_well T U natives begin items (test_closed scope e h begin)
      (holds_first T U begin items last g))
      (test_jump natives T U (test_where when (test_of scope e)) to at, tt)

  prefix_well : (k : Option ℤ) (o : Prefix) (to begin : ℕ) (operand whole : List Item)
      → IsLedWell to begin operand → IsLedWell to begin whole
      → IsLedWell to begin (prefix_items k o operand whole)
  prefix_well None before.Not to begin operand whole h g = h
  prefix_well k o to begin operand whole h g = g

  joint_well : (k : Option ℤ) (decides when : Bool) (to begin : ℕ)
      (left right : (to begin : ℕ) → List Item) (whole : List Item)
      → ((i j : ℕ) → past begin (left i begin) ≡ past begin (left j begin))
      → ((t : ℕ) → IsLedWell t begin (left t begin)) → ((q : ℕ) → IsLedWell to q (right to q))
      → IsLedWell to begin whole
      → IsLedWell to begin (by_operands k (joint_items decides when to begin left right) whole)
  joint_well None decides when to begin left right whole same one two h at g =
      let p = past begin (left 0 begin) in
      let second = right to p in
      let end = past p second in
      let first = left (aim decides when to end) begin in
      let behind : Holds T U p second =
      subst (λ q. Holds T U q second) (same (aim decides when to end) 0)
      (holds_rest T U begin first second g) in
      well_both T U natives first second
      (one (aim decides when to end)
      (aim_holds T decides when to end at (holds_end T U p second behind))
      (holds_first T U begin first second g)) (two p at behind)
  joint_well (Some v) decides when to begin left right whole same one two h at g = h at g

  pub branch_well : (e : Expr) → IsValidExpr scope e → (when : Bool) (to begin : ℕ)
      → IsLedWell to begin (jump_items scope when to begin e)
  branch_well (Unary o e) h when to begin =
      prefix_well (fold (Unary o e)) o to begin (jump_items scope (no when) to begin e)
      (single_items scope when to begin (Unary o e)) (branch_well e h (no when) to begin)
      (told_well (Unary o e) h when to begin)
  branch_well (And l r) h when to begin =
      joint_well (fold (And l r)) false when to begin (λ t q. jump_items scope false t q l)
      (λ t q. jump_items scope when t q r) (single_items scope when to begin (And l r))
      (λ i j. jump_ends scope l false begin i j) (λ t. branch_well l h.0 false t begin)
      (λ q. branch_well r h.1 when to q) (told_well (And l r) h when to begin)
  branch_well (Or l r) h when to begin =
      joint_well (fold (Or l r)) true when to begin (λ t q. jump_items scope true t q l)
      (λ t q. jump_items scope when t q r) (single_items scope when to begin (Or l r))
      (λ i j. jump_ends scope l true begin i j) (λ t. branch_well l h.0 true t begin)
      (λ q. branch_well r h.1 when to q) (told_well (Or l r) h when to begin)
  branch_well e h when to begin = told_well e h when to begin

-- ---- its calls

module _ (C : ℕ → Type 0) (scope : Scope)
    (known : (f : ℕ) (params : List Slot) → Takes scope.program f params → C f) where
  told_called : (e : Expr) → IsValidExpr scope e → (when : Bool) (to begin : ℕ)
      → AreCalled C (single_items scope when to begin e)
  told_called e h when to begin =
      both_called C (test_items scope begin e) (jump_where when (test_of scope e) to ∷ [])
      (test_called C scope known e h begin) tt

  prefix_called : (k : Option ℤ) (o : Prefix) (operand whole : List Item)
      → AreCalled C operand → AreCalled C whole → AreCalled C (prefix_items k o operand whole)
  prefix_called None before.Not operand whole h g = h
  prefix_called k o operand whole h g = g

  joint_called : (k : Option ℤ) (decides when : Bool) (to begin : ℕ)
      (left right : (to begin : ℕ) → List Item) (whole : List Item)
      → ((t q : ℕ) → AreCalled C (left t q)) → ((t q : ℕ) → AreCalled C (right t q))
      → AreCalled C whole
      → AreCalled C (by_operands k (joint_items decides when to begin left right) whole)
  joint_called None decides when to begin left right whole one two h =
      let p = past begin (left 0 begin) in
      let second = right to p in
      let at = aim decides when to (past p second) in
      both_called C (left at begin) second (one at begin) (two to p)
  joint_called (Some v) decides when to begin left right whole one two h = h

  pub jump_called : (e : Expr) → IsValidExpr scope e → (when : Bool) (to begin : ℕ)
      → AreCalled C (jump_items scope when to begin e)
  jump_called (Unary o e) h when to begin =
      prefix_called (fold (Unary o e)) o (jump_items scope (no when) to begin e)
      (single_items scope when to begin (Unary o e)) (jump_called e h (no when) to begin)
      (told_called (Unary o e) h when to begin)
  jump_called (And l r) h when to begin =
      joint_called (fold (And l r)) false when to begin (λ t q. jump_items scope false t q l)
      (λ t q. jump_items scope when t q r) (single_items scope when to begin (And l r))
      (λ t q. jump_called l h.0 false t q) (λ t q. jump_called r h.1 when t q)
      (told_called (And l r) h when to begin)
  jump_called (Or l r) h when to begin =
      joint_called (fold (Or l r)) true when to begin (λ t q. jump_items scope true t q l)
      (λ t q. jump_items scope when t q r) (single_items scope when to begin (Or l r))
      (λ t q. jump_called l h.0 true t q) (λ t q. jump_called r h.1 when t q)
      (told_called (Or l r) h when to begin)
  jump_called e h when to begin = told_called e h when to begin
