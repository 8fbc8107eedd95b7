-- References to parts: what an index leads to, and what an index outside does.
use Rattle.std.specs.Prelude.{ℕ, ◌+◌, ◌*◌, ◌-◌, ◌/◌, ◌%◌, ℤ, pos, negsuc, List, [], ◌∷◌, Bool, true}
use Rattle.std.specs.Prelude.{false, Option, None, Some, nat_lt, if◌then◌else◌}
use Rattle.host_script.specs.declared.event.End.{End}
use Rattle.host_script.specs.declared.event.End.TheVariants as end
use Rattle.pawn_arrays.specs.Sizes.{elements_in}
use Rattle.pawn_meaning.specs.Program.{Array, Object, SlotArray, ParamArray, Row, From}
use Rattle.pawn_meaning.specs.Memory.{Name, Reference, Place, Cell, Character}
use Rattle.pawn_meaning.specs.Run.{Run, give, stop, or_stop}
use Rattle.pawn_meaning.specs.Natives.{Held, Refers}

-- whether an array's size is known where it stands
abbrev pub is_known : Array → Bool
is_known (Object o) = true
is_known (SlotArray s) = true
is_known (ParamArray s known) = known
is_known (Row a e) = true
is_known (From a e) = false

-- an index below a size, negative ones being none
abbrev pub index_in : ℕ → ℤ → Option ℕ
index_in size (pos i) = if nat_lt i size then Some i else None
index_in size (negsuc i) = None

-- error 4 outside a known size; outside the part of an open array the access is stray
abbrev pub outside : Bool → End
outside true = end.Error (pos 4)
outside false = end.Stray

-- an index that has its value, tested
abbrev pub index : Bool → ℕ → ℤ → Run ℕ
index known size v = or_stop (index_in size v) (outside known)

-- the outermost size, 0 of a single cell
abbrev pub first_size : List ℕ → ℕ
first_size [] = 0
first_size (size ∷ inner) = size

-- the sizes behind it
abbrev pub other_sizes : List ℕ → List ℕ
other_sizes [] = []
other_sizes (size ∷ inner) = inner

-- the part with one more index given
abbrev pub row_at : Reference → ℕ → Reference
row_at r i =
    record r { at = r.at + i * elements_in (other_sizes r.sizes); sizes = other_sizes r.sizes }

-- the rest from an element on
abbrev pub rest_from : Reference → ℕ → Reference
rest_from r i = record r { at = r.at + i; sizes = (first_size r.sizes - i) ∷ other_sizes r.sizes }

-- an element
abbrev pub cell_at : Reference → ℕ → Place
cell_at r i = Cell r.object (r.at + i)

-- a packed character, four to a cell
abbrev pub character_at : Reference → ℕ → Place
character_at r i = Character r.object (r.at + i / 4) (i % 4)

-- a reference to one cell
abbrev pub to_cell : Name → ℕ → Reference
to_cell name i = record { object = name; at = i; sizes = [] }

-- a cell is referred to, and a character never
abbrev pub refers : Place → Run Held
refers (Cell name i) = give (Refers (to_cell name i))
refers (Character name i k) = stop end.Stray
