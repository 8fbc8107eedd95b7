-- The parts of a tree are read to the tree's value.
use Rattle.std.proofs.Common.{◌≡◌, ℕ, ◌≤◌, ◌-◌, true, false, leb, Some, List, [], ◌∷◌, ◌++◌, refl}
use Rattle.std.proofs.Common.{sym, ap, ◌∙◌, append_assoc, arith}
use Rattle.std.proofs.lemmas.Bool.{le-leb, lt-leb}
use Rattle.std.proofs.lemmas.List.{append-nil}
use Rattle.pawn_cells.specs.declared.operator.Logical.{Logical}
use Rattle.pawn_cells.specs.declared.operator.Logical.TheVariants as logic
use Rattle.pawn_cells.specs.declared.operator.Operator.{Operator}
use Rattle.pawn_cells.specs.declared.operator.Operator.TheVariants as between
use Rattle.pawn_cells.specs.declared.operator.Prefix.{Prefix}
use Rattle.pawn_cells.specs.declared.operator.Prefix.TheVariants as prefix
use Rattle.pawn_cells.specs.Operators as operators
use Rattle.pawn_pre.specs.declared.part.Infix.{Infix}
use Rattle.pawn_pre.specs.declared.part.Infix.TheVariants.{Cells, Compare, Logic}
use Rattle.pawn_pre.specs.declared.part.Part.{Part}
use Rattle.pawn_pre.specs.declared.part.Part.TheVariants as part
use Rattle.pawn_pre.specs.declared.reading.Reading.{Reading}
use Rattle.pawn_pre.specs.declared.evaluate.Wait.{Wait}
use Rattle.pawn_pre.specs.declared.evaluate.Wait.TheVariants.{Mark, Pre, Left, Chooses}
use Rattle.pawn_pre.specs.declared.evaluate.Wait.TheVariants.{Second}
use Rattle.pawn_pre.specs.Nested.{Nested, Number, Group, Before, Two, Choice, level, parts}
use Rattle.pawn_pre.specs.Nested.{Nests, reading, prefix_part, plain, grouped}
use Rattle.pawn_pre.specs.ConditionMachine.{Held, held, settle, operand, operator, whole_by}
use Rattle.pawn_pre.specs.ConditionMachine.{bracket_closed_by, chosen_by}

-- nothing that waits takes an operand that binds so tightly, or more
pub Rests : ℕ → List Wait → Type 0
Rests k ws = (j : ℕ) → j ≤ k → 3 ≤ j → j ≤ 12 → (r : Reading) → settle j ws r ≡ held ws r

-- once a tree's parts are read, what waits and is held comes to what its value comes to
pub record Came (k : ℕ) (ws : List Wait) (e : Nested) (rest : List Part) : Type 0 where
  pub waits : List Wait
  pub got : Reading
  pub runs : operand (parts e ++ rest) ws ≡ operator rest waits got
  pub comes : (j : ℕ) → k ≤ j → settle j waits got ≡ settle j ws (reading e)

operator-levels : (op : Operator) → (3 ≤ operators.level op) × (operators.level op ≤ 12)
operator-levels between.Multiply = (omega arith, omega arith)
operator-levels between.Divide = (omega arith, omega arith)
operator-levels between.Remainder = (omega arith, omega arith)
operator-levels between.Add = (omega arith, omega arith)
operator-levels between.Subtract = (omega arith, omega arith)
operator-levels between.ShiftLeft = (omega arith, omega arith)
operator-levels between.ShiftRight = (omega arith, omega arith)
operator-levels between.ShiftUnsigned = (omega arith, omega arith)
operator-levels between.And = (omega arith, omega arith)
operator-levels between.Xor = (omega arith, omega arith)
operator-levels between.Or = (omega arith, omega arith)
operator-levels between.Equal = (omega arith, omega arith)
operator-levels between.NotEqual = (omega arith, omega arith)

logical-levels : (op : Logical)
    → (3 ≤ operators.logical_level op) × (operators.logical_level op ≤ 12)
logical-levels logic.And = (omega arith, omega arith)
logical-levels logic.Or = (omega arith, omega arith)

-- operators stand between prefixes and choices
pub levels : (op : Infix) → (3 ≤ level op) × (level op ≤ 12)
levels (Cells op) = operator-levels op
levels (Compare c) = (omega arith, omega arith)
levels (Logic op) = logical-levels op

-- a prefix waits for an operand that binds as tightly as another prefix
prefix_read : (sign : Prefix) (ts : List Part) (ws : List Wait)
    → operand (prefix_part sign ∷ ts) ws ≡ operand ts (Pre sign ∷ ws)
unfolding operand
prefix_read prefix.Not ts ws = refl
prefix_read prefix.Invert ts ws = refl
prefix_read prefix.Negate ts ws = refl

rests_mark : (k : ℕ) (ws : List Wait) → Rests k (Mark ∷ ws)
unfolding Rests settle
rests_mark k ws j a b d r = refl

rests_chooses : (k : ℕ) (c : Reading) (ws : List Wait) → Rests k (Chooses c ∷ ws)
unfolding Rests settle
rests_chooses k c ws j a b d r = refl

rests_second : (k : ℕ) (c a : Reading) (ws : List Wait) → Rests k (Second c a ∷ ws)
unfolding Rests settle
rests_second k c a ws j p q d r =
    let later : leb 13 j ≡ false = lt-leb 13 j (omega (arith, d)) in rw later refl

rests_left : (sign : Infix) (a : Reading) (ws : List Wait)
    → Rests (level sign - 1) (Left sign a ∷ ws)
unfolding Rests settle
rests_left sign a ws j p q d r =
    let later : leb (level sign) j ≡ false = lt-leb (level sign) j (omega (arith, p, q)) in
    rw later refl

rests_none : (k : ℕ) → Rests k []
unfolding Rests settle
rests_none k j p q d r = refl

rests_earlier : (k m : ℕ) (ws : List Wait) → m ≤ k → Rests k ws → Rests m ws
unfolding Rests
rests_earlier k m ws h rests j p q d r = rests j (omega (arith, h, p)) q d r

rests_low : (ws : List Wait) → Rests 2 ws
unfolding Rests
rests_low ws j p q d r = absurd (omega (arith, p, q))

-- where nothing takes it
rests_at : (k j : ℕ) (ws : List Wait) (r : Reading) → Rests k ws → j ≤ k → 3 ≤ j → j ≤ 12
    → settle j ws r ≡ held ws r
unfolding Rests
rests_at k j ws r rests p q d = rests j p q d r

choice_spelled : (c a b rest : List Part) → (c ++ (part.Question ∷ (a ++ (part.Colon ∷ b)))) ++ rest
    ≡ c ++ (part.Question ∷ (a ++ (part.Colon ∷ (b ++ rest))))
choice_spelled c a b rest = simp append_assoc

-- the parts of each tree
pub came : (e : Nested) (k : ℕ) (ws : List Wait) (rest : List Part) → 2 ≤ k → Nests k e → Rests k ws
    → Came k ws e rest
unfolding Nests parts reading operand operator settle
came (Number v) k ws rest low fits rests = record {
  waits = ws;
  got = plain (Some v);
  runs = refl;
  comes = λ j h. refl;
}
came (Group e) k ws rest low fits rests =
    let inner = came e 13 (Mark ∷ ws) (part.Close ∷ rest) (omega arith) fits (rests_mark 13 ws) in
    let settled : settle 13 inner.waits inner.got ≡ held (Mark ∷ ws) (reading e) =
    inner.comes 13 (omega arith) in
    record {
      waits = ws;
      got = grouped (reading e);
      runs = ap (λ ts. operand ts (Mark ∷ ws)) (append_assoc (parts e) (part.Close ∷ []) rest)
          ∙ inner.runs
          ∙ ap (λ (h : Held).
          bracket_closed_by h.waits (λ below. operator rest below (grouped h.operand)))
          settled;
      comes = λ j h. refl;
    }
came (Before sign a) k ws rest low fits rests =
    let inner = came a 2 (Pre sign ∷ ws) rest (omega arith) fits.1 (rests_low (Pre sign ∷ ws)) in
    record {
      waits = inner.waits;
      got = inner.got;
      runs = prefix_read sign (parts a ++ rest) ws ∙ inner.runs;
      comes = λ j h. inner.comes j (omega (arith, low, h));
    }
came (Two sign a b) k ws rest low fits rests =
    let bounds = levels sign in
    let left =
    came a (level sign) ws (part.Two sign ∷ (parts b ++ rest))
    (omega (arith, bounds.0)) fits.1 (rests_earlier k (level sign) ws fits.0 rests) in
    let settled : settle (level sign) left.waits left.got ≡ held ws (reading a) =
    left.comes (level sign) (omega arith)
    ∙ rests_at k (level sign) ws (reading a) rests fits.0 bounds.0 bounds.1 in
    let right =
    came b (level sign - 1) (Left sign (reading a) ∷ ws) rest
    (omega (arith, bounds.0)) fits.2 (rests_left sign (reading a) ws) in
    record {
      waits = right.waits;
      got = right.got;
      runs = ap (λ ts. operand ts ws) (append_assoc (parts a) (part.Two sign ∷ parts b) rest)
          ∙ left.runs
          ∙ ap (λ (h : Held). operand (parts b ++ rest) (Left sign h.operand ∷ h.waits)) settled
          ∙ right.runs;
      comes = λ j h.
          let taken : leb (level sign) j ≡ true =
          le-leb (level sign) j (omega (arith, fits.0, h)) in
          right.comes j (omega (arith, fits.0, h)) ∙ rw taken refl;
    }
came (Choice c a b) k ws rest low fits rests =
    let first =
    came c 12 ws (part.Question ∷ (parts a ++ (part.Colon ∷ (parts b ++ rest))))
    (omega arith) fits.1 (rests_earlier k 12 ws (omega (arith, fits.0)) rests) in
    let asked : settle 12 first.waits first.got ≡ held ws (reading c) =
    first.comes 12 (omega arith) ∙ rests_at k 12 ws (reading c) rests (omega (arith, fits.0))
    (omega arith) (omega arith) in
    let left =
    came a 13 (Chooses (reading c) ∷ ws) (part.Colon ∷ (parts b ++ rest))
    (omega arith) fits.2 (rests_chooses 13 (reading c) ws) in
    let chosen : settle 13 left.waits left.got ≡ held (Chooses (reading c) ∷ ws) (reading a) =
    left.comes 13 (omega arith) in
    let right =
    came b 13 (Second (reading c) (reading a) ∷ ws) rest (omega arith) fits.3
    (rests_second 13 (reading c) (reading a) ws) in
    record {
      waits = right.waits;
      got = right.got;
      runs = ap (λ ts. operand ts ws) (choice_spelled (parts c) (parts a) (parts b) rest)
          ∙ first.runs
          ∙ ap (λ (h : Held). operand (parts a ++ (part.Colon ∷ (parts b ++ rest)))
          (Chooses h.operand ∷ h.waits)) asked
          ∙ left.runs
          ∙ ap (λ (h : Held). chosen_by h.waits
          (λ d below. operand (parts b ++ rest) (Second d h.operand ∷ below))) chosen
          ∙ right.runs;
      comes = λ j h.
          let taken : leb 13 j ≡ true = le-leb 13 j (omega (arith, fits.0, h)) in
          right.comes j (omega (arith, fits.0, h)) ∙ rw taken refl;
    }

-- a whole tree
pub complete : (tree : Nested) → Nests 13 tree → operand (parts tree) [] ≡ Some (reading tree)
unfolding operator settle
complete tree fits =
    let all = came tree 13 [] [] (omega arith) fits (rests_none 13) in
    ap (λ ts. operand ts []) (sym (append-nil (parts tree))) ∙ all.runs
    ∙ ap (λ (h : Held). whole_by h.waits h.operand) (all.comes 13 (omega arith))
