-- What operators do, with the left operand in PRI and the right one in ALT, or known.
use Rattle.std.proofs.Common.{w32, ◌≡◌, ◌+◌, ◌*◌, ℕ, ℤ, pos, neg_ℤ, List, [], ◌∷◌, ◌++◌, Bool, true}
use Rattle.std.proofs.Common.{false, not as no, length, refl, sym, ap, subst, ◌∙◌}
use Rattle.std.proofs.lemmas.Int.{int_wrap-add_right}
use Rattle.pawn_cells.specs.declared.operator.Operator.{Operator}
use Rattle.pawn_cells.specs.declared.operator.Operator.TheVariants as between
use Rattle.pawn_cells.specs.Cells.{IsCell, add, sub, mul, neg, and, or, xor, shl, shr, ushr}
use Rattle.pawn_cells.specs.Cells.{floor_div}
use Rattle.pawn_cells.specs.Cells.{floor_rem, equal, is_zero, truth}
use Rattle.pawn_cells.specs.Operators.{binary}
use Rattle.pawn_cells.proofs.CellLaws.{cell_of_cell, wrap_cell, shr_cell, truth_cell}
use Rattle.pawn_cells.proofs.CellLaws.{floor_rem_cell}
use Rattle.host_script.specs.declared.event.End.TheVariants as end
use Rattle.pawn_meaning.specs.World.{World}
use Rattle.pawn_meaning.specs.Run.{Gives, or_stop}
use Rattle.amx_ops.specs.declared.op.Op.{Op}
use Rattle.amx_ops.specs.declared.op.Op.TheVariants as op
use Rattle.amx_ops.specs.Written.{cells_of}
use Rattle.amx_ops.specs.State.{State, Goes}
use Rattle.amx_ops.specs.Step.{act}
use Rattle.amx_ops.specs.Moves.{Config}
use Rattle.gen_sim.specs.View.{View}
use Rattle.gen_sim.specs.Stands.{Stands, With}
use Rattle.gen_sim.specs.Site.{Site, DoesAt}
use Rattle.gen_sim.specs.Items.{item_cells, past, with}
use Rattle.gen_sim.specs.Lies.{Lies}
use Rattle.gen_sim.specs.SimpleCode.{alone, taking, alt_code}
use Rattle.gen_sim.specs.OperandCode.{loaded_code, known_code}
use Rattle.gen_sim.proofs.StepLaws.{given, errs}
use Rattle.gen_sim.proofs.ItemSteps.{item_sets, one_item, next_lies, rest_lies}
use Rattle.gen_sim.proofs.ConstantNodes.{alt_sets}
use Rattle.gen_sim.proofs.ItemLaws.{past-append}

pub subtracted : (l r : ℤ) → add l (neg r) ≡ sub l r
subtracted l r = int_wrap-add_right w32 l (neg_ℤ r)

-- ---- the right operand in ALT

module _ (x : Site) {v : View} {pending : List ℤ} {w : World} (l r : ℤ) where
  -- one instruction, which sets PRI alone
  one : (operation : Op) (f : ℤ → ℤ → ℤ)
      → ((q : ℕ) (s : State) → act x.amx operation (pos 0) q s
      ≡ Goes (record s { pri = f s.pri s.alt; cip = q }))
      → IsCell (f l r) → (p : ℕ) (c : Config) → Stands x.program x.room v pending p w c
      → c.state.pri ≡ l → c.state.alt ≡ r → Lies x p (alone operation ∷ [])
      → DoesAt x (length (item_cells (alone operation ∷ []))) w c (Gives (f l r) w)
      (With x.program x.room v pending (past p (alone operation ∷ [])))
  one operation f is fit p c a k j lies =
      let q : ℕ = p + 4 * length (cells_of (with operation (pos 0))) in
      let value : f c.state.pri c.state.alt ≡ f l r = rw (k, j) refl in
      item_sets x (with operation (pos 0)) a lies (f l r) c.state.alt
      (is q c.state ∙ ap (λ z. Goes (record c.state { pri = z; cip = q })) value)
      (λ t s m n. given x s (record { stands = s; value = m; fits = fit }))

  quotient_by : (p : ℕ) (c : Config) → Stands x.program x.room v pending p w c → c.state.pri ≡ l
      → c.state.alt ≡ r → Lies x p (alone op.Sdiv ∷ [])
      → (b : Bool) → is_zero r ≡ b
      → DoesAt x (length (item_cells (alone op.Sdiv ∷ []))) w c
      (or_stop (binary between.Divide l r) (end.Error (pos 11)) w)
      (With x.program x.room v pending (p + 4))
  unfolding binary
  quotient_by p c a k j lies true z =
      rw z (one_item x (with op.Sdiv (pos 0)) [] w
      (errs x a 0 (with op.Sdiv (pos 0)) lies.lie.0 (pos 11) (rw (j, z) refl)))
  quotient_by p c a k j lies false z =
      rw z (item_sets x (with op.Sdiv (pos 0)) a lies (floor_div l r) (floor_rem l r)
      (rw (k, j, z) refl)
      (λ t s m n. given x s (record { stands = s; value = m; fits = wrap_cell _ })))

  rest_by : (p : ℕ) (c : Config) → Stands x.program x.room v pending p w c → c.state.pri ≡ l
      → c.state.alt ≡ r → IsCell l → IsCell r
      → Lies x p (alone op.Sdiv ∷ alone op.MovePri ∷ []) → (b : Bool) → is_zero r ≡ b
      → DoesAt x (length (item_cells (alone op.Sdiv ∷ alone op.MovePri ∷ []))) w c
      (or_stop (binary between.Remainder l r) (end.Error (pos 11)) w)
      (With x.program x.room v pending (p + 4 + 4))
  unfolding binary
  rest_by p c a k j fl fr lies true z =
      rw z (one_item x (with op.Sdiv (pos 0)) (alone op.MovePri ∷ []) w
      (errs x a 1 (with op.Sdiv (pos 0)) lies.lie.0 (pos 11) (rw (j, z) refl)))
  rest_by p c a k j fl fr lies false z =
      rw z (item_sets x (with op.Sdiv (pos 0)) a lies (floor_div l r) (floor_rem l r)
      (rw (k, j, z) refl)
      (λ t s m n. item_sets x (with op.MovePri (pos 0)) s
      (next_lies x p (alone op.Sdiv) (alone op.MovePri ∷ []) lies) t.state.alt
      t.state.alt refl
      (λ u b g h. given x b (record {
        stands = b;
        value = g
            ∙ n;
        fits = floor_rem_cell l r fl fr z;
      }))))

  -- each operator, or error 11 where it divides by zero
  pub loaded_does : (o : Operator) → IsCell l → IsCell r → (p : ℕ) (c : Config)
      → Stands x.program x.room v pending p w c → c.state.pri ≡ l → c.state.alt ≡ r
      → Lies x p (loaded_code o)
      → DoesAt x (length (item_cells (loaded_code o))) w c
      (or_stop (binary o l r) (end.Error (pos 11)) w)
      (With x.program x.room v pending (past p (loaded_code o)))
  unfolding binary
  loaded_does between.Multiply fl fr p c a k j lies =
      one op.Smul mul (λ q s. refl) (wrap_cell _) p c a k j lies
  loaded_does between.Divide fl fr p c a k j lies = quotient_by p c a k j lies (is_zero r) refl
  loaded_does between.Remainder fl fr p c a k j lies =
      rest_by p c a k j fl fr lies (is_zero r) refl
  loaded_does between.Add fl fr p c a k j lies =
      one op.Add add (λ q s. refl) (wrap_cell _) p c a k j lies
  loaded_does between.Subtract fl fr p c a k j lies =
      one op.Sub sub (λ q s. refl) (wrap_cell _) p c a k j lies
  loaded_does between.ShiftLeft fl fr p c a k j lies =
      one op.Shl shl (λ q s. refl) (cell_of_cell _) p c a k j lies
  loaded_does between.ShiftRight fl fr p c a k j lies =
      one op.Sshr shr (λ q s. refl) (shr_cell l r fl) p c a k j lies
  loaded_does between.ShiftUnsigned fl fr p c a k j lies =
      one op.Shr ushr (λ q s. refl) (cell_of_cell _) p c a k j lies
  loaded_does between.And fl fr p c a k j lies =
      one op.And and (λ q s. refl) (cell_of_cell _) p c a k j lies
  loaded_does between.Xor fl fr p c a k j lies =
      one op.Xor xor (λ q s. refl) (cell_of_cell _) p c a k j lies
  loaded_does between.Or fl fr p c a k j lies =
      one op.Or or (λ q s. refl) (cell_of_cell _) p c a k j lies
  loaded_does between.Equal fl fr p c a k j lies =
      one op.Eq (λ y z. truth (equal y z)) (λ q s. refl) (truth_cell _) p c a k j lies
  loaded_does between.NotEqual fl fr p c a k j lies =
      one op.Neq (λ y z. truth (no (equal y z))) (λ q s. refl) (truth_cell _) p c a k j lies

  -- ---- the right operand known

  -- an instruction that has it
  has : (operation : Op) (k : ℤ) (f : ℤ → ℤ) (y : ℤ)
      → ((q : ℕ) (s : State) → act x.amx operation k q s
      ≡ Goes (record s { pri = f s.pri; cip = q }))
      → f l ≡ y → IsCell y → (p : ℕ) (c : Config) → Stands x.program x.room v pending p w c
      → c.state.pri ≡ l → Lies x p (taking operation k ∷ [])
      → DoesAt x (length (item_cells (taking operation k ∷ []))) w c (Gives y w)
      (With x.program x.room v pending (past p (taking operation k ∷ [])))
  has operation k f y is e fit p c a pri lies =
      let q : ℕ = p + 4 * length (cells_of (with operation k)) in
      let value : f c.state.pri ≡ y = ap f pri ∙ e in
      item_sets x (with operation k) a lies y c.state.alt
      (is q c.state ∙ ap (λ z. Goes (record c.state { pri = z; cip = q })) value)
      (λ t s m n. given x s (record { stands = s; value = m; fits = fit }))

  -- or it goes to ALT
  goes_to_alt : (o : Operator) → IsCell l → IsCell r → (p : ℕ) (c : Config)
      → Stands x.program x.room v pending p w c → c.state.pri ≡ l
      → Lies x p (alt_code r ++ loaded_code o)
      → DoesAt x (length (item_cells (alt_code r ++ loaded_code o))) w c
      (or_stop (binary o l r) (end.Error (pos 11)) w)
      (With x.program x.room v pending (past p (alt_code r ++ loaded_code o)))
  goes_to_alt o fl fr p c a pri lies =
      subst (λ q. DoesAt x (length (item_cells (alt_code r ++ loaded_code o))) w c
      (or_stop (binary o l r) (end.Error (pos 11)) w) (With x.program x.room v pending q))
      (sym (past-append p (alt_code r) (loaded_code o)))
      (alt_sets x p r (loaded_code o) a lies
      (λ t s m n. loaded_does o fl fr (past p (alt_code r)) t s (m ∙ pri) n
      (rest_lies x p (alt_code r) (loaded_code o) lies)))

  pub known_does : (o : Operator) → IsCell l → IsCell r → (p : ℕ) (c : Config)
      → Stands x.program x.room v pending p w c → c.state.pri ≡ l → Lies x p (known_code o r)
      → DoesAt x (length (item_cells (known_code o r))) w c
      (or_stop (binary o l r) (end.Error (pos 11)) w)
      (With x.program x.room v pending (past p (known_code o r)))
  unfolding binary
  known_does between.Multiply fl fr p c a k lies =
      has op.SmulC r (λ y. mul y r) (mul l r) (λ q s. refl) refl (wrap_cell _) p c a k lies
  known_does between.Divide fl fr p c a k lies = goes_to_alt between.Divide fl fr p c a k lies
  known_does between.Remainder fl fr p c a k lies = goes_to_alt between.Remainder fl fr p c a k lies
  known_does between.Add fl fr p c a k lies =
      has op.AddC r (λ y. add y r) (add l r) (λ q s. refl) refl (wrap_cell _) p c a k lies
  known_does between.Subtract fl fr p c a k lies =
      has op.AddC (neg r) (λ y. add y (neg r)) (sub l r) (λ q s. refl) (subtracted l r) (wrap_cell
      _) p c a
      k lies
  known_does between.ShiftLeft fl fr p c a k lies =
      has op.ShlCPri r (λ y. shl y r) (shl l r) (λ q s. refl) refl (cell_of_cell _) p c a k lies
  known_does between.ShiftRight fl fr p c a k lies =
      goes_to_alt between.ShiftRight fl fr p c a k lies
  known_does between.ShiftUnsigned fl fr p c a k lies =
      has op.ShrCPri r (λ y. ushr y r) (ushr l r) (λ q s. refl) refl (cell_of_cell _) p c a k lies
  known_does between.And fl fr p c a k lies = goes_to_alt between.And fl fr p c a k lies
  known_does between.Xor fl fr p c a k lies = goes_to_alt between.Xor fl fr p c a k lies
  known_does between.Or fl fr p c a k lies = goes_to_alt between.Or fl fr p c a k lies
  known_does between.Equal fl fr p c a k lies =
      has op.EqCPri r (λ y. truth (equal y r)) (truth (equal l r)) (λ q s. refl) refl (truth_cell _)
      p c a k lies
  known_does between.NotEqual fl fr p c a k lies = goes_to_alt between.NotEqual fl fr p c a k lies
