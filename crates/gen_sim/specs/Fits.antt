-- What a generator knows of the view in which a node runs: the slots in sight stand where its scope
-- says.
use Rattle.std.specs.Prelude.{◌≡◌, ◌+◌, ◌*◌, ◌<◌, ◌≤◌, ℕ, List, [], ◌∷◌, ◌++◌, Option, None, Some}
use Rattle.std.specs.Prelude.{Any, slice_get}
use Rattle.pawn_meaning.specs.Program.{Slot, ScalarSlot, ReferenceSlot, ArraySlot, OpenSlot}
use Rattle.pawn_meaning.specs.Program.{Program}
use Rattle.pawn_meaning.specs.Scope.{Scope, IsMade}
use Rattle.pawn_meaning.specs.Memory.{Local, Reference}
use Rattle.gen_sim.specs.Pieces.{Piece, Thing, Each, total}
use Rattle.gen_sim.specs.Places.{Apart}
use Rattle.gen_sim.specs.View.{View, depth, innermost, all_cells, PlacedIn}

-- the sizes of the object that a slot has for its own
abbrev pub own_sizes : Option Slot → List ℕ
own_sizes None = 1 ∷ []
own_sizes (Some ScalarSlot) = 1 ∷ []
own_sizes (Some ReferenceSlot) = 1 ∷ []
own_sizes (Some (ArraySlot sizes)) = sizes
own_sizes (Some (OpenSlot inner)) = 1 ∷ []

-- the pieces of locals that were made one after another: the newest one lies lowest
abbrev pub locals_of : (frame : ℕ) → List Slot → List ℕ → List Piece
locals_of frame slots [] = []
locals_of frame slots (s ∷ made) =
    locals_of frame slots made ++ Thing (Local frame s) (own_sizes (slice_get slots s)) ∷ []

-- a reference is of a parameter's kind
abbrev pub IsOfKind : Slot → Reference → Type 0
IsOfKind ScalarSlot r = ⊥
IsOfKind ReferenceSlot r = r.sizes ≡ []
IsOfKind (ArraySlot sizes) r = r.sizes ≡ sizes
IsOfKind (OpenSlot inner) r = (size : ℕ) × (r.sizes ≡ size ∷ inner)

-- no slot is in force twice
abbrev pub AreOnce : List ℕ → Type 0
AreOnce [] = Unit {0}
AreOnce (s ∷ made) = ¬ (Any (λ m. m ≡ s) made) × AreOnce made

module _ (program : Program) (room : ℕ) where
  -- a parameter of the frame that runs: a plain one is a cell of its own, and any other refers to
  -- what is of its kind
  abbrev pub ParamFits : View → ℕ → Slot → Type 0
  ParamFits v s ScalarSlot =
      (first : ℕ) × PlacedIn program room v (Thing (Local (innermost v) s) (1 ∷ [])) first
      × (4 * first ≡ v.frm + 12 + 4 * s)
  ParamFits v s kind = (r : Reference) → v.params (innermost v) s ≡ Some r → IsOfKind kind r

  -- the view is one in which a node of this scope may run
  pub record Fits (scope : Scope) (v : View) : Type 0 where
    -- the locals in force lie directly below FRM, and `rest` are the pieces from there on
    pub rest : List Piece
    pub locals : v.high ≡ locals_of (innermost v) scope.slots scope.made ++ rest
    pub once : AreOnce scope.made
    -- no parameter is one of them
    pub behind_params : (s : ℕ) → IsMade scope s → scope.params ≤ s
    pub frame : v.frm + 4 * total rest ≡ 4 * all_cells program room
    pub params : (s : ℕ) (kind : Slot) → s < scope.params → slice_get scope.slots s ≡ Some kind
        → ParamFits v s kind
    -- a slot that is no parameter stands nowhere but among these locals, and refers to nothing
    pub nowhere_else : (s : ℕ) → scope.params ≤ s
        → Each (Apart (Thing (Local (innermost v) s) [])) rest × (v.params (innermost v) s ≡ None)
    pub deep : 1 ≤ depth v
