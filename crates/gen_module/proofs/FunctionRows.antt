-- Bodies and functions are such rows.
use Rattle.std.proofs.Common.{◌≡◌, ℕ, zero, suc, List, [], ◌∷◌, ◌++◌, map, refl, ap}
use Rattle.pawn_meaning.specs.Program.{Slot, Program}
use Rattle.pawn_meaning.specs.View.{body_view, function_view}
use Rattle.pawn_meaning.specs.declared.program.Body.{Body}
use Rattle.pawn_meaning.specs.declared.program.Function.{Function}
use Rattle.gen_sim.specs.Items.{Item, past}
use Rattle.gen_laws.specs.BodyCode.{body_items}
use Rattle.gen_laws.specs.FunctionCode.{function_items}
use Rattle.gen_laws.specs.RouteCode.{bodies_items, body_begin}
use Rattle.gen_laws.specs.FileCode.{functions_items, function_begin}
use Rattle.gen_module.specs.Rows.{row_items, row_begin}

module _ (program : Program) where
  abbrev pub body_part : List Slot → ℕ → Body → List Item
  body_part params at body = body_items program params at (body_view body)

  pub bodies_row : (params : List Slot) (at : ℕ) (bodies : List Body)
      → row_items (body_part params) at bodies
      ≡ bodies_items program params at (map body_view bodies)
  bodies_row params at [] = refl
  bodies_row params at (body ∷ bodies) =
      ap (λ l. body_part params at body ++ l)
      (bodies_row params (past at (body_part params at body)) bodies)

  pub bodies_begin : (params : List Slot) (at : ℕ) (bodies : List Body) (n : ℕ)
      → row_begin (body_part params) at bodies n
      ≡ body_begin program params at (map body_view bodies) n
  bodies_begin params at [] n = refl
  bodies_begin params at (body ∷ bodies) zero = refl
  bodies_begin params at (body ∷ bodies) (suc n) =
      bodies_begin params (past at (body_part params at body)) bodies n

  abbrev pub function_part : ℕ → Function → List Item
  function_part at function = function_items program at (function_view function)

  pub functions_row : (at : ℕ) (functions : List Function)
      → row_items function_part at functions
      ≡ functions_items program at (map function_view functions)
  functions_row at [] = refl
  functions_row at (function ∷ functions) =
      ap (λ l. function_part at function ++ l)
      (functions_row (past at (function_part at function)) functions)

  pub functions_begin : (at : ℕ) (functions : List Function) (n : ℕ)
      → row_begin function_part at functions n
      ≡ function_begin program at (map function_view functions) n
  functions_begin at [] n = refl
  functions_begin at (function ∷ functions) zero = refl
  functions_begin at (function ∷ functions) (suc n) =
      functions_begin (past at (function_part at function)) functions n
