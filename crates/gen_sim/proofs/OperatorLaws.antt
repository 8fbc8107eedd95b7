-- What the instructions of operators do.
use Rattle.std.proofs.Common.{◌≡◌, ◌+◌, ◌*◌, ℕ, ℤ, pos, List, [], ◌∷◌, Bool, true, false, not as no}
use Rattle.std.proofs.Common.{length, refl, ap, ◌∙◌, arith}
use Rattle.std.proofs.Math.IntN.{*ℤ_comm, +ℤ_comm}
use Rattle.std.proofs.lemmas.Nat.{and_comm, or_comm, xor_comm}
use Rattle.pawn_cells.specs.declared.operator.Prefix.{Prefix}
use Rattle.pawn_cells.specs.declared.operator.Prefix.TheVariants as before
use Rattle.pawn_cells.specs.declared.operator.Operator.{Operator}
use Rattle.pawn_cells.specs.declared.operator.Operator.TheVariants as between
use Rattle.pawn_cells.specs.Cells.{IsCell, bits_of, cell_of, wrap, add, sub, mul, and, or, xor, shl}
use Rattle.pawn_cells.specs.Cells.{shr, ushr, floor_div, floor_rem, equal, is_zero, truth}
use Rattle.pawn_cells.specs.Operators.{prefix, binary}
use Rattle.host_script.specs.declared.event.End.TheVariants as end
use Rattle.pawn_meaning.specs.World.{World}
use Rattle.pawn_meaning.specs.Run.{Gives, or_stop}
use Rattle.amx_ops.specs.declared.amx.Amx.{Amx}
use Rattle.amx_ops.specs.declared.op.Op.{Op}
use Rattle.amx_ops.specs.declared.op.Op.TheVariants as op
use Rattle.amx_ops.specs.Written.{cells_of}
use Rattle.amx_ops.specs.State.{State, Goes}
use Rattle.amx_ops.specs.Step.{act}
use Rattle.amx_ops.specs.Moves.{Config}
use Rattle.pawn_cells.proofs.CellLaws.{cell_of_cell, wrap_cell, shr_cell, truth_cell, floor_rem_cell}
use Rattle.gen_sim.specs.View.{View}
use Rattle.gen_sim.specs.Stands.{Stands, With}
use Rattle.gen_sim.specs.Site.{Site, DoesAt}
use Rattle.gen_sim.specs.Items.{item_cells, past, with}
use Rattle.gen_sim.proofs.StepLaws.{given, errs}
use Rattle.gen_sim.specs.Lies.{Lies}
use Rattle.gen_sim.specs.SimpleCode.{alone, prefix_op, operator_code}
use Rattle.gen_sim.proofs.ItemSteps.{item_sets, one_item, next_lies}

-- ---- one operand

pub prefix_act : (amx : Amx) (o : Prefix) (q : ℕ) (s : State)
    → act amx (prefix_op o) (pos 0) q s ≡ Goes (record s { pri = prefix o s.pri; cip = q })
prefix_act amx before.Not q s = refl
prefix_act amx before.Invert q s = refl
prefix_act amx before.Negate q s = refl

pub prefix_cell : (o : Prefix) (y : ℤ) → IsCell (prefix o y)
prefix_cell before.Not y = truth_cell (is_zero y)
prefix_cell before.Invert y = cell_of_cell _
prefix_cell before.Negate y = wrap_cell _

-- ---- both orders

mul_same : (a b : ℤ) → mul a b ≡ mul b a
mul_same a b = ap wrap (*ℤ_comm a b)

add_same : (a b : ℤ) → add a b ≡ add b a
add_same a b = ap wrap (+ℤ_comm a b)

and_same : (a b : ℤ) → and a b ≡ and b a
and_same a b = ap cell_of (and_comm (bits_of a) (bits_of b))

or_same : (a b : ℤ) → or a b ≡ or b a
or_same a b = ap cell_of (or_comm (bits_of a) (bits_of b))

xor_same : (a b : ℤ) → xor a b ≡ xor b a
xor_same a b = ap cell_of (xor_comm (bits_of a) (bits_of b))

equal_same : (a b : ℤ) → equal a b ≡ equal b a
equal_same a b = grind arith

-- ---- two operands: the left one in ALT, the right one in PRI

module _ (x : Site) {v : View} {pending : List ℤ} {w : World} (l r : ℤ) where
  -- one instruction, which sets PRI alone
  one : (operation : Op) (f : ℤ → ℤ → ℤ) (y : ℤ)
      → ((q : ℕ) (s : State) → act x.amx operation (pos 0) q s
      ≡ Goes (record s { pri = f s.pri s.alt; cip = q }))
      → f r l ≡ y → IsCell y → (p : ℕ) (c : Config) → Stands x.program x.room v pending p w c
      → c.state.pri ≡ r → c.state.alt ≡ l → Lies x p (alone operation ∷ [])
      → DoesAt x (length (item_cells (alone operation ∷ []))) w c (Gives y w)
      (With x.program x.room v pending (past p (alone operation ∷ [])))
  one operation f y is e fit p c a k j lies =
      let q : ℕ = p + 4 * length (cells_of (with operation (pos 0))) in
      let value : f c.state.pri c.state.alt ≡ y = rw (k, j) e in
      item_sets x (with operation (pos 0)) a lies y c.state.alt
      (is q c.state ∙ ap (λ z. Goes (record c.state { pri = z; cip = q })) value)
      (λ t s m n. given x s (record { stands = s; value = m; fits = fit }))

  -- behind an exchange
  exchanged : (operation : Op) (f : ℤ → ℤ → ℤ)
      → ((q : ℕ) (s : State) → act x.amx operation (pos 0) q s
      ≡ Goes (record s { pri = f s.pri s.alt; cip = q }))
      → IsCell (f l r) → (p : ℕ) (c : Config) → Stands x.program x.room v pending p w c
      → c.state.pri ≡ r → c.state.alt ≡ l
      → Lies x p (alone op.Xchg ∷ alone operation ∷ [])
      → DoesAt x (length (item_cells (alone op.Xchg ∷ alone operation ∷ []))) w c (Gives (f l r) w)
      (With x.program x.room v pending (past p (alone op.Xchg ∷ alone operation ∷ [])))
  exchanged operation f is fit p c a k j lies =
      item_sets x (with op.Xchg (pos 0)) a lies c.state.alt c.state.pri refl
      (λ t s m n. behind t s (m ∙ j) (n ∙ k))
    where
      behind : (t : Config) → Stands x.program x.room v pending (p + 4) w t → t.state.pri ≡ l
          → t.state.alt ≡ r
          → DoesAt x (length (item_cells (alone operation ∷ []))) w t (Gives (f l r) w)
          (With x.program x.room v pending (past (p + 4) (alone operation ∷ [])))
      behind t s m n =
          let q : ℕ = p + 4 + 4 * length (cells_of (with operation (pos 0))) in
          let value : f t.state.pri t.state.alt ≡ f l r = rw (m, n) refl in
          item_sets x (with operation (pos 0)) s
          (next_lies x p (alone op.Xchg) (alone operation ∷ []) lies) (f l r) t.state.alt
          (is q t.state ∙ ap (λ z. Goes (record t.state { pri = z; cip = q })) value)
          (λ u b g h. given x b (record { stands = b; value = g; fits = fit }))

  quotient_by : (p : ℕ) (c : Config) → Stands x.program x.room v pending p w c → c.state.pri ≡ r
      → c.state.alt ≡ l → Lies x p (alone op.SdivAlt ∷ [])
      → (b : Bool) → is_zero r ≡ b
      → DoesAt x (length (item_cells (alone op.SdivAlt ∷ []))) w c
      (or_stop (binary between.Divide l r) (end.Error (pos 11)) w)
      (With x.program x.room v pending (p + 4))
  unfolding binary
  quotient_by p c a k j lies true z =
      rw z (one_item x (with op.SdivAlt (pos 0)) [] w
      (errs x a 0 (with op.SdivAlt (pos 0)) lies.lie.0 (pos 11) (rw (k, z) refl)))
  quotient_by p c a k j lies false z =
      rw z (item_sets x (with op.SdivAlt (pos 0)) a lies (floor_div l r) (floor_rem l r)
      (rw (k, j, z) refl)
      (λ t s m n. given x s (record { stands = s; value = m; fits = wrap_cell _ })))

  rest_by : (p : ℕ) (c : Config) → Stands x.program x.room v pending p w c → c.state.pri ≡ r
      → c.state.alt ≡ l → IsCell l → IsCell r
      → Lies x p (alone op.SdivAlt ∷ alone op.MovePri ∷ []) → (b : Bool) → is_zero r ≡ b
      → DoesAt x (length (item_cells (alone op.SdivAlt ∷ alone op.MovePri ∷ []))) w c
      (or_stop (binary between.Remainder l r) (end.Error (pos 11)) w)
      (With x.program x.room v pending (p + 4 + 4))
  unfolding binary
  rest_by p c a k j fl fr lies true z =
      rw z (one_item x (with op.SdivAlt (pos 0)) (alone op.MovePri ∷ []) w
      (errs x a 1 (with op.SdivAlt (pos 0)) lies.lie.0 (pos 11) (rw (k, z) refl)))
  rest_by p c a k j fl fr lies false z =
      rw z (item_sets x (with op.SdivAlt (pos 0)) a lies (floor_div l r) (floor_rem l r)
      (rw (k, j, z) refl)
      (λ t s m n. item_sets x (with op.MovePri (pos 0)) s
      (next_lies x p (alone op.SdivAlt) (alone op.MovePri ∷ []) lies) t.state.alt
      t.state.alt refl
      (λ u b g h. given x b (record {
        stands = b;
        value = g
            ∙ n;
        fits = floor_rem_cell l r fl fr z;
      }))))

  -- each operator, or error 11 where it divides by zero
  pub operator_does : (o : Operator) → IsCell l → IsCell r → (p : ℕ) (c : Config)
      → Stands x.program x.room v pending p w c → c.state.pri ≡ r → c.state.alt ≡ l
      → Lies x p (operator_code o)
      → DoesAt x (length (item_cells (operator_code o))) w c
      (or_stop (binary o l r) (end.Error (pos 11)) w)
      (With x.program x.room v pending (past p (operator_code o)))
  unfolding binary
  operator_does between.Multiply fl fr p c a k j lies =
      one op.Smul mul (mul l r) (λ q s. refl) (mul_same r l) (wrap_cell _) p c a k j lies
  operator_does between.Divide fl fr p c a k j lies = quotient_by p c a k j lies (is_zero r) refl
  operator_does between.Remainder fl fr p c a k j lies =
      rest_by p c a k j fl fr lies (is_zero r) refl
  operator_does between.Add fl fr p c a k j lies =
      one op.Add add (add l r) (λ q s. refl) (add_same r l) (wrap_cell _) p c a k j lies
  operator_does between.Subtract fl fr p c a k j lies =
      one op.SubAlt (λ y z. sub z y) (sub l r) (λ q s. refl) refl (wrap_cell _) p c a k j lies
  operator_does between.ShiftLeft fl fr p c a k j lies =
      exchanged op.Shl shl (λ q s. refl) (cell_of_cell _) p c a k j lies
  operator_does between.ShiftRight fl fr p c a k j lies =
      exchanged op.Sshr shr (λ q s. refl) (shr_cell l r fl) p c a k j lies
  operator_does between.ShiftUnsigned fl fr p c a k j lies =
      exchanged op.Shr ushr (λ q s. refl) (cell_of_cell _) p c a k j lies
  operator_does between.And fl fr p c a k j lies =
      one op.And and (and l r) (λ q s. refl) (and_same r l) (cell_of_cell _) p c a k j lies
  operator_does between.Xor fl fr p c a k j lies =
      one op.Xor xor (xor l r) (λ q s. refl) (xor_same r l) (cell_of_cell _) p c a k j lies
  operator_does between.Or fl fr p c a k j lies =
      one op.Or or (or l r) (λ q s. refl) (or_same r l) (cell_of_cell _) p c a k j lies
  operator_does between.Equal fl fr p c a k j lies =
      one op.Eq (λ y z. truth (equal y z)) (truth (equal l r)) (λ q s. refl)
      (ap truth (equal_same r l)) (truth_cell _) p c a k j lies
  operator_does between.NotEqual fl fr p c a k j lies =
      one op.Neq (λ y z. truth (no (equal y z))) (truth (no (equal l r))) (λ q s. refl)
      (ap (λ b. truth (no b)) (equal_same r l)) (truth_cell _) p c a k j lies
