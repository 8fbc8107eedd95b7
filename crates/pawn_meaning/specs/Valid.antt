-- Valid programs: what the checker gives, and what the meaning and the generator are asked for.
use Rattle.std.specs.Prelude.{◌≡◌, ◌+◌, ◌-◌, ◌<◌, ◌≤◌, ◌^◌, ℕ, zero, suc, List, [], ◌∷◌, false}
use Rattle.std.specs.Prelude.{Some, All, IfSome, IfNone, length, slice_get, take, IsPermutation}
use Rattle.pawn_cells.specs.Cells.{IsCell}
use Rattle.pawn_arrays.specs.Sizes.{elements_in}
use Rattle.pawn_meaning.specs.Program.{Slot, ScalarSlot, ReferenceSlot, ArraySlot, OpenSlot}
use Rattle.pawn_meaning.specs.Program.{StaticObject, Body, Route, Function, Automaton, Tag, Public}
use Rattle.pawn_meaning.specs.Program.{Program}
use Rattle.pawn_meaning.specs.Scope.{Scope}
use Rattle.pawn_meaning.specs.ValidExprs.{Takes}
use Rattle.pawn_meaning.specs.ValidStmts.{all_slots_made, IsValidStmt}

-- so many numbers from a first one on
abbrev pub numbers_from : ℕ → ℕ → List ℕ
numbers_from first zero = []
numbers_from first (suc count) = first ∷ numbers_from (first + 1) count

-- an array has one to three dimensions
abbrev pub AreSizes : List ℕ → Type 0
AreSizes sizes = (1 ≤ length sizes) × (length sizes ≤ 3)

-- an open array has up to two after its first
abbrev pub IsSlot : Slot → Type 0
IsSlot ScalarSlot = Unit {0}
IsSlot ReferenceSlot = Unit {0}
IsSlot (ArraySlot sizes) = AreSizes sizes
IsSlot (OpenSlot inner) = length inner ≤ 2

-- an object has as many first cells as its sizes say, without offsets
pub record IsValidObject (object : StaticObject) : Type 0 where
  pub sizes : AreSizes object.sizes
  pub count : length object.first ≡ elements_in object.sizes
  pub cells : All IsCell object.first

-- before a body's first statement its parameters are in sight
abbrev pub body_scope : Program → List Slot → Body → Scope
body_scope program params body =
    record { program = program; slots = body.slots; params = length params; made = [] }

-- a body begins with the parameters, and makes each further slot by exactly one statement
pub record IsValidBody (program : Program) (params : List Slot) (body : Body) : Type 0 where
  pub slots : All IsSlot body.slots
  pub begins : take (length params) body.slots ≡ params
  pub makes : IsPermutation (all_slots_made body.stmt)
      (numbers_from (length params) (length body.slots - length params))
  pub stmt : IsValidStmt (body_scope program params body) false false body.stmt

-- a route is of an automaton, and leads from its states to bodies
pub record IsValidRoute (program : Program) (bodies : ℕ) (route : Route) : Type 0 where
  pub automaton : Automaton
  pub there : slice_get program.automata route.automaton ≡ Some automaton
  pub states : All (λ case. case.0 < length automaton.states) route.cases
  pub bodies_in : All (λ case. case.1 < bodies) route.cases
  pub fallback : IfSome route.fallback (λ body. body < bodies)

-- a function without a route has one body
pub record IsValidFunction (program : Program) (function : Function) : Type 0 where
  pub params : All IsSlot function.params
  pub tag : function.tag < 2 ^ 32
  pub bodies : All (IsValidBody program function.params) function.bodies
  pub routed : IfSome function.dispatch (IsValidRoute program (length function.bodies))
  pub one_body : IfNone function.dispatch (length function.bodies ≡ 1)

-- an automaton's entry function has no parameters
abbrev pub IsValidAutomaton : Program → Automaton → Type 0
IsValidAutomaton program automaton = IfSome automaton.enter (λ f. Takes program f [])

-- each number names a thing of its kind, and each part is valid
pub record IsValid (program : Program) : Type 0 where
  pub objects : All IsValidObject program.objects
  pub functions : All (IsValidFunction program) program.functions
  pub automata : All (IsValidAutomaton program) program.automata
  pub tags : All (λ (tag : Tag). tag.number < 2 ^ 32) program.tags
  pub publics : All (λ (item : Public). item.function < length program.functions) program.publics
  pub entry : IfSome program.entry (λ f. f < length program.functions)
  pub dynamic : IsCell program.dynamic
