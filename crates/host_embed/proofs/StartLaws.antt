-- Where the cells of a start stand.
use Rattle.std.proofs.Common.{◌≡◌, ◌+◌, ◌*◌, ◌-◌, ◌/◌, ◌%◌, ◌<◌, ◌≤◌, ◌^◌, ◌++◌, ℕ, suc, ℤ, pos, List, [], ◌∷◌, Option}
use Rattle.std.proofs.Common.{None, Some, Bool, true, false, length, drop, nat_le, refl, sym, ap}
use Rattle.std.proofs.Common.{◌∙◌, arith, leb-true, w32, subst}
use Rattle.std.specs.Prelude.{option_and_then, OnOk, Result, Ok, Err}
use Rattle.std.proofs.lemmas.Int.{of_z-to_z}
use Rattle.std.proofs.lemmas.List.{drop_all, drop-drop, drop-set, length-set, append-nil}
use Rattle.std.proofs.lemmas.Bool.{eq-eqb, le-leb, le-ltb}
use Rattle.pawn_cells.specs.Cells.{bits_of, cell_of}
use Rattle.amx_ops.specs.State.{State, stp}
use Rattle.amx_ops.specs.Moves.{live_from}
use Rattle.amx_ops.specs.Trace.{fresh, pushed_by, pushed_all, start_at}
use Rattle.amx_machine.specs.Machine.{Machine, IsKept}
use Rattle.amx_machine.specs.declared.start.StartFault.{StartFault}
use Rattle.amx_machine.specs.Starts.{StartsSo, address_by}
use Rattle.host_embed.specs.Starts.{StandsSo, place_of}

-- ---- cells pushed

-- the cells from the stack's low end on are these, and those of before behind them
record Stands (s t : State) (vs : List ℤ) : Type 0 where
  low : t.stk + 4 * length vs ≡ s.stk
  cells : drop (t.stk / 4) t.cells ≡ vs ++ drop (s.stk / 4) s.cells
  size : length t.cells ≡ length s.cells

abbrev StandsIn : State → List ℤ → Option State → Type 0
StandsIn s vs None = Unit {0}
StandsIn s vs (Some t) = Stands s t vs

one : (s t : State) (v : ℤ) (vs : List ℤ) (fits : Bool) → nat_le (t.hea + 4) t.stk ≡ fits
    → s.stk % 4 ≡ 0 → s.stk ≤ stp s → Stands s t vs → StandsIn s (v ∷ vs) (pushed_by v (Some t))
one s t v vs false e a h so = rw e tt
one s t v vs true e a h so =
    let room = leb-true (t.hea + 4) t.stk e in
    let k = (t.stk - 4) / 4 in
    let next : k + 1 ≡ t.stk / 4 = omega (arith, room, a, so.low) in
    let within : k < length t.cells = omega (arith, room, a, h, so.low, so.size) in
    rw e (record {
      low = omega (arith, room, so.low);
      cells =
          drop-set t.cells k v within ∙ ap (λ n. v ∷ drop n t.cells) next
          ∙ ap (λ xs. v ∷ xs) so.cells;
      size = length-set t.cells k v ∙ so.size;
    })

next : (s : State) (v : ℤ) (vs : List ℤ) (o : Option State) → s.stk % 4 ≡ 0 → s.stk ≤ stp s
    → StandsIn s vs o → StandsIn s (v ∷ vs) (pushed_by v o)
next s v vs None a h so = tt
next s v vs (Some t) a h so = one s t v vs (nat_le (t.hea + 4) t.stk) refl a h so

pushed_stand : (s : State) (vs : List ℤ) → s.stk % 4 ≡ 0 → s.stk ≤ stp s
    → StandsIn s vs (pushed_all vs s)
pushed_stand s [] a h = record { low = omega arith; cells = refl; size = refl }
pushed_stand s (v ∷ vs) a h = next s v vs (pushed_all vs s) a h (pushed_stand s vs a h)

-- ---- cells of a start

module _ (s t : State) (cells : List ℤ) (count : ℕ) (a b : ℤ)
    (so : Stands (record s { stk = stp s }) t (a ∷ b ∷ cells)) (order : t.hea ≤ t.stk)
    (small : stp s < 2 ^ 32) (few : count ≤ length cells) where
  abbrev place : ℕ
  place = 4 * (length s.cells - count)

  live : live_from t place ≡ drop (place / 4) t.cells
  live =
      rw (
        eq-eqb (place % 4) 0 (omega arith),
        le-ltb place t.hea (omega (arith, order, so.low, few)),
        le-leb t.stk place (omega (arith, so.low, few)),
      ) refl

  behind : drop (place / 4) t.cells ≡ drop (length cells - count) cells
  behind =
      let n = length cells - count in
      let at : place / 4 ≡ t.stk / 4 + (n + 2) = omega (arith, so.low, few) in
      let none : drop (stp s / 4) s.cells ≡ [] =
      drop_all (stp s / 4) s.cells (omega arith) in
      ap (λ k. drop k t.cells) at ∙ sym (drop-drop (n + 2) (t.stk / 4) t.cells)
      ∙ ap (drop (n + 2)) (so.cells ∙ ap (λ xs. (a ∷ b ∷ cells) ++ xs) none ∙ append-nil (a ∷ b ∷ cells))
      ∙ ap (λ k. drop k (a ∷ b ∷ cells)) (let two : n + 2 ≡ suc (suc n) = omega arith in two)

  back : bits_of (cell_of place) ≡ place
  back = of_z-to_z w32 place (omega (arith, small))

  stands_at : live_from t (bits_of (cell_of place)) ≡ drop (length cells - count) cells
  stands_at = ap (live_from t) back ∙ live ∙ behind

some : {A : Type 0} {x y : A} → Some x ≡ Some y → x ≡ y
some {A} {x} {y} e = ap (λ o. elim o [ None ↦ x | Some z ↦ z ]) e

within : (s : State) (vs : List ℤ) (t : State) (o : Option State) → o ≡ Some t → StandsIn s vs o → Stands s t vs
within s vs t o e so = subst (StandsIn s vs) e so

module _ (old new : Machine) (cells : List ℤ) (kept : IsKept new) where
  at_place : (address : ℤ) → start_at old.amx address cells old.state ≡ Some new.state
      → (count : ℕ) (place : ℤ) → count ≤ length cells
      → place_of old.state.cells count ≡ Some place
      → live_from new.state (bits_of place) ≡ drop (length cells - count) cells
  at_place address e count place few at =
      let s = old.state in
      let top = fresh old.amx address s in
      let vs = pos 0 ∷ cell_of (4 * length cells) ∷ cells in
      let so : Stands top new.state vs =
      within top vs new.state (pushed_all vs top) e
      (pushed_stand top vs (omega arith) (omega arith)) in
      let is : Stands (record s { stk = stp s }) new.state vs =
      record { low = so.low; cells = so.cells; size = so.size } in
      let fits : count ≤ length s.cells = omega (arith, few, so.low) in
      let there : cell_of (4 * (length s.cells - count)) ≡ place =
      some (rw (le-leb count (length s.cells) fits) at at) in
      ap (λ z. live_from new.state (bits_of z)) (sym there)
      ∙ stands_at s new.state cells count (pos 0) (cell_of (4 * length cells)) is
      kept.in_order.order.1 (omega (arith, kept.size, so.size)) few

  at_address : (address : ℤ) → start_at old.amx address cells old.state ≡ Some new.state
      → StandsSo old cells new
  at_address address e = record { at = at_place address e }

  by_entry : (o : Option ℤ)
      → option_and_then (λ address. start_at old.amx address cells old.state) o ≡ Some new.state
      → StandsSo old cells new
  by_entry (Some address) e = at_address address e
  by_entry None e =
      let count : Option State → ℕ = λ o. elim o [ None ↦ 0 | Some t ↦ 1 ] in
      let apart = ap count e in absurd (let no : ⊥ = omega (arith, apart) in no)

  -- the cells of a start stand at their places
  pub start_stands : (entry : ℤ) (answer : Result (Unit {0}) StartFault)
      → StartsSo old entry cells answer new → OnOk answer (StandsSo old cells new)
  start_stands entry (Ok t) so = by_entry (address_by old.amx entry) so.0
  start_stands entry (Err fault) so = tt
