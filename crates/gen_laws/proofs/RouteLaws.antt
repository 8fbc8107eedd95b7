-- Where the table of a route leads a state, and where bodies lie.
use Rattle.std.proofs.Common.{◌≡◌, ◌≢◌, ◌+◌, ◌*◌, ◌≤◌, ℕ, zero, suc, ℤ, pos, List, [], ◌∷◌, ◌++◌}
use Rattle.std.proofs.Common.{Option, None, Some, Bool, true, false, ◌==◌, length, slice_get}
use Rattle.std.proofs.Common.{refl, ap, subst, arith, eqb-true}
use Rattle.std.specs.Prelude.{find}
use Rattle.std.proofs.lemmas.Int.{ints}
use Rattle.std.proofs.lemmas.Bool.{eqb-false}
use Rattle.std.proofs.lemmas.Bool.Decides.{Decides-int_eq}
use Rattle.pawn_cells.specs.Cells.{bits_of, equal}
use Rattle.pawn_meaning.specs.Program.{Slot, Body, Program}
use Rattle.amx_ops.specs.Effects.{paired}
use Rattle.gen_sim.specs.Site.{Site}
use Rattle.gen_sim.specs.Items.{item_cells, past, LieIn}
use Rattle.gen_sim.proofs.ItemLaws.{lie_first, lie_rest, count-append}
use Rattle.gen_laws.specs.BodyCode.{body_items}
use Rattle.gen_laws.specs.RouteCode.{bodies_items, body_begin, route_table}

pub length_route : (address : ℕ → ℕ) (cases : List (ℕ × ℕ))
    → length (route_table address cases) ≡ 2 * length cases
length_route address [] = refl
length_route address (case ∷ cases) = omega (arith, length_route address cases)

-- what a pair of a table leads to, or another address
abbrev pub pair_address : (ℕ → ℕ) → ℕ → Option (ℕ × ℕ) → ℕ
pair_address address other None = other
pair_address address other (Some case) = bits_of (pos (address case.1))

same_state : (a b : ℕ) → a ≡ b → equal (pos (a + 1)) (pos (b + 1)) ≡ true
same_state a b e = (Decides-int_eq (pos (a + 1)) (pos (b + 1))).1 (ap (λ n. pos (n + 1)) e)

other_state : (a b : ℕ) → a ≢ b → (t : Bool) → equal (pos (a + 1)) (pos (b + 1)) ≡ t
    → equal (pos (a + 1)) (pos (b + 1)) ≡ false
other_state a b h true e =
    let same = (Decides-int_eq (pos (a + 1)) (pos (b + 1))).0 e in
    absurd (h (omega (arith, ints, same)))
other_state a b h false e = e

module _ (address : ℕ → ℕ) (more : List ℤ) (other : ℕ) where
  -- the first pair with a state's number
  pub state_led : (state : ℕ) (cases : List (ℕ × ℕ))
      → paired (route_table address cases ++ more) (pos (state + 1)) (length cases) other
      ≡ pair_address address other (find (λ case. case.0 == state) cases)
  state_led state [] = refl
  state_led state (case ∷ cases) = by (case.0 == state) refl (state_led state cases)
    where
      by : (b : Bool) → (case.0 == state) ≡ b
          → paired (route_table address cases ++ more) (pos (state + 1)) (length cases) other
          ≡ pair_address address other (find (λ it. it.0 == state) cases)
          → paired (route_table address (case ∷ cases) ++ more) (pos (state + 1))
          (length (case ∷ cases)) other
          ≡ pair_address address other (find (λ it. it.0 == state) (case ∷ cases))
      by true e rest = let t = same_state case.0 state (eqb-true case.0 state e) in rw (t, e) refl
      by false e rest =
          let t =
          other_state case.0 state (eqb-false case.0 state e)
          (equal (pos (case.0 + 1)) (pos (state + 1))) refl in rw (t, e) rest

  no_state : (a : ℕ) (t : Bool) → equal (pos (a + 1)) (pos 0) ≡ t
      → equal (pos (a + 1)) (pos 0) ≡ false
  no_state a true e =
      let same = (Decides-int_eq (pos (a + 1)) (pos 0)).0 e in absurd (omega (arith, ints, same))
  no_state a false e = e

  -- no state
  pub none_led : (cases : List (ℕ × ℕ))
      → paired (route_table address cases ++ more) (pos 0) (length cases) other ≡ other
  none_led [] = refl
  none_led (case ∷ cases) =
      let t = no_state case.0 (equal (pos (case.0 + 1)) (pos 0)) refl in rw t (none_led cases)

-- ---- bodies

pub body_lies : (x : Site) (program : Program) (params : List Slot) (bodies : List Body)
    (at number : ℕ) (body : Body) → slice_get bodies number ≡ Some body
    → LieIn x at (bodies_items program params at bodies)
    → LieIn x (body_begin program params at bodies number)
    (body_items program params (body_begin program params at bodies number) body)
body_lies x program params [] at number body e l = cc
body_lies x program params (first ∷ bodies) at zero body e l =
    let one = body_items program params at first in
    subst (λ z. LieIn x at (body_items program params at z)) (inside first body e)
    (lie_first x at one (bodies_items program params (past at one) bodies) l)
  where
    inside : (a b : Body) → Some a ≡ Some b → a ≡ b
    inside a b k = cc
body_lies x program params (first ∷ bodies) at (suc number) body e l =
    let one = body_items program params at first in
    body_lies x program params bodies (past at one) number body e
    (lie_rest x at one (bodies_items program params (past at one) bodies) l)

-- a body is at an address that a cell holds, and no longer than all of them
pub body_few : (program : Program) (params : List Slot) (bodies : List Body) (at number : ℕ)
    (body : Body) → slice_get bodies number ≡ Some body
    → length (item_cells (body_items program params
    (body_begin program params at bodies number) body))
    ≤ length (item_cells (bodies_items program params at bodies))
body_few program params [] at number body e = cc
body_few program params (first ∷ bodies) at zero body e =
    let one = body_items program params at first in
    subst (λ z. length (item_cells (body_items program params at z))
    ≤ length (item_cells (bodies_items program params at (first ∷ bodies))))
    (inside first body e)
    (omega (arith, count-append one (bodies_items program params (past at one) bodies)))
  where
    inside : (a b : Body) → Some a ≡ Some b → a ≡ b
    inside a b k = cc
body_few program params (first ∷ bodies) at (suc number) body e =
    let one = body_items program params at first in
    omega (
      arith,
      count-append one (bodies_items program params (past at one) bodies),
      body_few program params bodies (past at one) number body e,
    )
