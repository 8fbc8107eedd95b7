-- What the code that was appended for a node is: the contracts of all nodes.
use Rattle.std.specs.Prelude.{◌≡◌, ◌+◌, ◌*◌, ◌/◌, ◌≤◌, ℕ, ℤ, List, ◌∷◌, ◌++◌, Bool, ◌||◌, Some}
use Rattle.std.specs.Prelude.{length, ◌==◌, not}
use Rattle.std.specs.List.{list_any}
use Rattle.pawn_cells.specs.Cells.{IsCell}
use Rattle.pawn_meaning.specs.Program.{Scalar, Array, Slot, Args, Expr}
use Rattle.pawn_meaning.specs.Scope.{Scope, Extent, extent}
use Rattle.pawn_meaning.specs.Need.{load, place_load, array_load, args_load, count_of}
use Rattle.pawn_meaning.specs.Weight.{expr_weight, folds}
use Rattle.pawn_meaning.specs.Meaning.{place, array, value, arguments}
use Rattle.amx_ops.specs.Instructions.{Placed, placed_from}
use Rattle.amx_ops.specs.Valid.{IsPiece}
use Rattle.gen_sim.specs.Stands.{Stands, With}
use Rattle.gen_sim.specs.Site.{scene_at}
use Rattle.gen_sim.specs.Items.{Item, AreWritten, item_cells, cells_with, waits_from}
use Rattle.gen_sim.specs.Results.{IndexedAt, PlaceAt, ArrayAt, ArgumentsAt, temporaries_in}
use Rattle.gen_sim.specs.Code.{Code}
use Rattle.gen_sim.specs.TestCode.{Test, holds}
use Rattle.pawn_cells.specs.Cells.{is_zero}

-- ---- each sort of node, for items at an address

-- the items evaluate an expression: its value is in PRI behind them
pub record ValueCode (scope : Scope) (e : Expr) (begin : ℕ) (items : List Item) : Type 0 where
  pub does : Code scope (λ x fewer. value (scene_at x) fewer e) (load e) items begin
      (λ x v pending q. With x.program x.room v pending q)

-- or one whose value isn't used
pub record EffectCode (scope : Scope) (e : Expr) (begin : ℕ) (items : List Item) : Type 0 where
  pub does : Code scope (λ x fewer. value (scene_at x) fewer e) (load e) items begin
      (λ x v pending q y. Stands x.program x.room v pending q)

-- or push it
pub record PushedCode (scope : Scope) (e : Expr) (begin : ℕ) (items : List Item) : Type 0 where
  pub does : Code scope (λ x fewer. value (scene_at x) fewer e) (load e) items begin
      (λ x v pending q y w c. Stands x.program x.room v (y ∷ pending) q w c × IsCell y)

-- the items evaluate a condition: behind them a test holds where its value isn't 0
pub record TestCode (scope : Scope) (e : Expr) (t : Test) (begin : ℕ)
    (items : List Item) : Type 0 where
  pub does : Code scope (λ x fewer. value (scene_at x) fewer e) (load e) items begin
      (λ x v pending q y u c.
      Stands x.program x.room v pending q u c
      × (holds t c.state.pri c.state.alt ≡ not (is_zero y)))

-- the items find a place: its address is in PRI behind them
pub record PlaceCode (scope : Scope) (p : Scalar) (begin : ℕ) (items : List Item) : Type 0 where
  pub does : Code scope (λ x fewer. place (scene_at x) fewer p) (place_load p) items begin
      (λ x v pending q. PlaceAt x.program x.room v pending q)

-- or they find where its index leads
pub record IndexedCode (scope : Scope) (p : Scalar) (begin : ℕ) (items : List Item) : Type 0 where
  pub does : Code scope (λ x fewer. place (scene_at x) fewer p) (place_load p) items begin
      (λ x v pending q. IndexedAt x.program x.room v p pending q)

-- the items find an array, whose extent is known from its scope: its address is in PRI
pub record ArrayCode (scope : Scope) (a : Array) (begin : ℕ) (items : List Item) : Type 0 where
  pub does : (reach : Extent) → extent scope a ≡ Some reach
      → Code scope (λ x fewer. array (scene_at x) fewer a) (array_load a) items begin
      (λ x v pending q. ArrayAt x.program x.room v reach pending q)

-- what is pushed and made before an argument counts beside its load
pub record ArgumentsCode (scope : Scope) (kinds : List Slot) (args : Args) (begin : ℕ)
    (items : List Item) : Type 0 where
  pub does : Code scope (λ x fewer. arguments (scene_at x) fewer args)
      (2 * count_of args + args_load args) items begin
      (λ x v pending q. ArgumentsAt x.program x.room v kinds (temporaries_in args) pending q)

-- ---- what was appended

-- an address is one of an instruction in some cells that begin at one, or their end
abbrev pub is_inside : ℕ → List ℤ → ℕ → Bool
is_inside begin cells at =
    (at == begin + 4 * length cells)
    || list_any (λ (it : Placed). it.at == at) (placed_from begin 0 cells)

-- or that of a function which is waited for
abbrev pub is_entry : (ℕ → ℕ) → List (ℕ × ℕ) → ℕ → Bool
is_entry entry waits at = list_any (λ (wait : ℕ × ℕ). entry wait.1 == at) waits

-- wherever the functions are, the items have no fault: they lead to each other, to their end, or to
-- a function
abbrev pub HaveNoFault : ℕ → ℕ → List Item → Type 0
HaveNoFault natives begin items =
    (entry : ℕ → ℕ) → let cells = cells_with entry items in
    IsPiece natives (λ at. is_inside begin cells at
    || is_entry entry (waits_from (begin / 4) items) at) begin cells

-- the code of an expression was appended to some code and to what waited there, in a file with so
-- many natives: whole instructions without a fault, the operands of whose calls wait; with four
-- cells more it is within the expression's lean weight; and it does what the expression means
pub record Appended (scope : Scope) (natives : ℕ) (e : Expr) (code : List ℤ) (waits : List (ℕ × ℕ))
    (more : List ℤ) (more_waits : List (ℕ × ℕ)) : Type 0 where
  pub items : List Item
  pub cells_are : more ≡ code ++ item_cells items
  pub waits_are : more_waits ≡ waits ++ waits_from (length code) items
  pub whole : AreWritten items
  pub faultless : HaveNoFault natives (4 * length code) items
  pub light : length (item_cells items) + 4 ≤ expr_weight folds e
  pub does : ValueCode scope e (4 * length code) items
