-- What holds behind the code of a place, an array and arguments. Behind that of an expression it is
-- `With`.
use Rattle.std.specs.Prelude.{◌≡◌, ◌+◌, ◌*◌, ◌-◌, ◌^◌, ◌<◌, ℕ, zero, suc, ℤ, pos, List, [], ◌∷◌}
use Rattle.std.specs.Prelude.{◌++◌}
use Rattle.std.specs.Prelude.{Option, None, Some}
use Rattle.pawn_meaning.specs.Program.{Slot, ScalarSlot, Arg, Value, Ref, Whole, Temp, Args}
use Rattle.pawn_meaning.specs.Program.{no_args, then_arg, Program, Scalar, Element, Char}
use Rattle.pawn_meaning.specs.Scope.{Extent}
use Rattle.pawn_meaning.specs.Memory.{Reference, Place, Cell, Character}
use Rattle.pawn_meaning.specs.World.{World}
use Rattle.pawn_meaning.specs.References.{to_cell}
use Rattle.pawn_meaning.specs.Natives as natives
use Rattle.pawn_meaning.specs.Natives.{Held}
use Rattle.amx_ops.specs.Moves.{Config}
use Rattle.gen_sim.specs.View.{View, RefersTo, CellAt}
use Rattle.gen_sim.specs.Stands.{Stands}
use Rattle.gen_sim.specs.Next.{with_temporary, HoldArguments}
use Rattle.gen_sim.specs.Fits.{IsOfKind}

-- a reference reaches as far as an array is said to
abbrev pub Reaches : Option ℕ → List ℕ → Reference → Type 0
Reaches None inner r = (size : ℕ) × (r.sizes ≡ size ∷ inner)
Reaches (Some size) inner r = r.sizes ≡ size ∷ inner

-- an argument that was evaluated is of its parameter's kind
abbrev pub Suits : Slot → Held → Type 0
Suits ScalarSlot (natives.Value x) = Unit {0}
Suits kind (natives.Value x) = ⊥
Suits kind (natives.Refers r) = IsOfKind kind r

-- so are all of them, as many as there are parameters
abbrev pub SuitAll : List Slot → List Held → Type 0
SuitAll [] [] = Unit {0}
SuitAll [] (it ∷ held) = ⊥
SuitAll (kind ∷ kinds) [] = ⊥
SuitAll (kind ∷ kinds) (it ∷ held) = Suits kind it × SuitAll kinds held

-- how many arguments have a cell of their own until the call is over
abbrev pub is_temporary : Arg → ℕ
is_temporary (Value e) = 0
is_temporary (Ref p) = 0
is_temporary (Whole a) = 0
is_temporary (Temp e) = 1

-- of all arguments of a call
abbrev pub temporaries_in : Args → ℕ
temporaries_in no_args = 0
temporaries_in (then_arg a args) = is_temporary a + temporaries_in args

-- the view behind so many temporary arguments
abbrev pub with_temporaries : ℕ → View → View
with_temporaries zero v = v
with_temporaries (suc n) v = with_temporary (with_temporaries n v)

module _ (program : Program) (room : ℕ) where
  -- PRI is the address of a place: of a cell, which a reference may name, or of a character's byte
  -- in memory
  abbrev pub IsAddress : View → Place → ℤ → Type 0
  IsAddress v (Cell name i) x =
      (cell : ℕ) × CellAt program room v name i cell × (x ≡ pos (4 * cell))
      × RefersTo program room v (to_cell name i) cell
  IsAddress v (Character name i k) x =
      (cell : ℕ) × CellAt program room v name i cell × (k < 4) × (x ≡ pos (4 * cell + (3 - k)))

  -- PRI leads to a place: it is the place's address; or an element's index, or how far a
  -- character's
  -- byte lies behind the address in ALT
  abbrev pub LeadsTo : View → Scalar → Place → (pri alt : ℤ) → Type 0
  LeadsTo v (Element a e) at x y =
      (cell : ℕ) × (i : ℕ) × (x ≡ pos i) × (y ≡ pos (4 * cell)) × (4 * (cell + i) < 2 ^ 31)
      × IsAddress v at (pos (4 * (cell + i)))
  LeadsTo v (Char a e) at x y =
      (from : ℕ) × (i : ℕ) × (x ≡ pos i) × (y ≡ pos from) × (from + i < 2 ^ 31)
      × IsAddress v at (pos (from + i))
  LeadsTo v p at x y = IsAddress v at x

  -- behind a place's index
  pub record IndexedAt (v : View) (s : Scalar) (pending : List ℤ) (p : ℕ) (at : Place) (w : World)
      (c : Config) : Type 0 where
    pub stands : Stands program room v pending p w c
    pub leads : LeadsTo v s at c.state.pri c.state.alt

  -- behind a place's code, which found this place
  pub record PlaceAt (v : View) (pending : List ℤ) (p : ℕ) (at : Place) (w : World)
      (c : Config) : Type 0 where
    pub stands : Stands program room v pending p w c
    pub address : IsAddress v at c.state.pri

  -- PRI is the address of an array that reaches as far as is said
  pub record ArrayAt (v : View) (reach : Extent) (pending : List ℤ) (p : ℕ) (r : Reference)
      (w : World) (c : Config) : Type 0 where
    pub stands : Stands program room v pending p w c
    pub cell : ℕ
    pub refers : RefersTo program room v r cell
    pub address : c.state.pri ≡ pos (4 * cell)
    pub reaches : Reaches reach.first reach.inner r

  -- the arguments stand in their order from STK on, with their temporary cells on the heap
  pub record ArgumentsAt (v : View) (kinds : List Slot) (count : ℕ) (pending : List ℤ) (p : ℕ)
      (held : List Held) (w : World) (c : Config) : Type 0 where
    pub cells : List ℤ
    pub stands : Stands program room (with_temporaries count v) (cells ++ pending) p w c
    pub hold : HoldArguments program room (with_temporaries count v) held cells
    pub suit : SuitAll kinds held
