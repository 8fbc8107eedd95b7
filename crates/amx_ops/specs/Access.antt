-- Accesses to live memory: below HEA, or from STK below the stack's top, at a multiple of the
-- access's size; else error 5 (Implementer's Guide, "Instruction reference").
use Rattle.std.specs.Prelude.{◌+◌, ◌-◌, ◌*◌, ◌/◌, ◌%◌, ◌^◌, ◌++◌, ℕ, ℤ, pos, negsuc, List, [], ◌∷◌}
use Rattle.std.specs.Prelude.{Bool, ◌==◌, ◌&&◌, ◌||◌, length, map, take, drop, replicate, nat_le}
use Rattle.std.specs.Prelude.{nat_lt, if◌then◌else◌, slice_set}
use Rattle.std.specs.List.{range_with_len, slice_index_or}
use Rattle.pawn_cells.specs.Cells.{bits_of, cell_of, wrapped_sum, add, char_at}
use Rattle.amx_ops.specs.State.{State, Turned, Errs, stp, cell_at}

-- ---- cells

-- a cell begins at the address, and it is live
abbrev pub is_live : State → ℕ → Bool
is_live s a = (a % 4 == 0) && (nat_lt a s.hea || (nat_le s.stk a && nat_lt a (stp s)))

-- the cell at an address, or error 5
abbrev pub load : State → ℕ → (ℤ → Turned) → Turned
load s a go = if is_live s a then go (cell_at s a) else Errs (pos 5)

-- with another cell at an address
abbrev pub with_cell : State → ℕ → ℤ → State
with_cell s a v = record s { cells = slice_set s.cells (a / 4) v }

-- a cell put at an address, or error 5
abbrev pub store : State → ℕ → ℤ → (State → Turned) → Turned
store s a v go = if is_live s a then go (with_cell s a v) else Errs (pos 5)

-- a cell with so much more
abbrev pub raise : State → ℕ → ℤ → (State → Turned) → Turned
raise s a more go = load s a (λ v. store s a (add v more) go)

-- FRM + v, modulo 2^32
abbrev pub in_frame : State → ℤ → ℕ
in_frame s v = wrapped_sum s.frm (bits_of v)

-- ---- some bytes of one cell, the least first: n of them from byte k on

-- those bytes as one number
abbrev pub part : ℤ → (k n : ℕ) → ℕ
part cell k n = bits_of cell / 256 ^ k % 256 ^ n

-- the cell with others in their place
abbrev pub with_part : ℤ → (k n : ℕ) → ℕ → ℤ
with_part cell k n bits =
    cell_of (bits_of cell - part cell k n * 256 ^ k + bits % 256 ^ n * 256 ^ k)

-- n bytes at an address that is a multiple of n, which is 1, 2 or 4
abbrev pub is_live_part : State → (a n : ℕ) → Bool
is_live_part s a n = (a % n == 0) && is_live s (4 * (a / 4))

-- n bytes at an address, without sign
abbrev pub load_part : State → (a n : ℕ) → (ℤ → Turned) → Turned
load_part s a n go =
    if is_live_part s a n then go (cell_of (part (cell_at s a) (a % 4) n)) else Errs (pos 5)

-- the n low bytes of a cell put at an address
abbrev pub store_part : State → (a n : ℕ) → ℤ → (State → Turned) → Turned
store_part s a n v go =
    if is_live_part s a n
    then go (with_cell s a (with_part (cell_at s a) (a % 4) n (bits_of v)))
    else Errs (pos 5)

-- ---- many bytes

-- each of n bytes from an address on is live; where heap and stack meet they may lie across
abbrev pub are_live : State → (a n : ℕ) → Bool
are_live s a n =
    (n == 0) || nat_le (a + n) s.hea || (nat_le s.stk a && nat_le (a + n) (stp s))
    || ((s.hea == s.stk) && nat_le (a + n) (stp s))

-- the byte at an address: the least one of a cell comes first
abbrev pub byte_at : List ℤ → ℕ → ℕ
byte_at cells a = char_at (slice_index_or cells (a / 4) (pos 0)) (3 - a % 4)

-- n bytes from an address on
abbrev pub bytes_at : List ℤ → (a n : ℕ) → List ℕ
bytes_at cells a n = map (byte_at cells) (range_with_len a n)

-- address k is one of n from an address on
abbrev pub is_among : (a n k : ℕ) → Bool
is_among a n k = nat_le a k && nat_lt k (a + n)

-- the byte at k, once n bytes from one address on stand at another, as if all were read first
abbrev pub byte_moved : List ℤ → (from to n k : ℕ) → ℕ
byte_moved cells from to n k =
    if is_among to n k then byte_at cells (from + (k - to)) else byte_at cells k

-- one of the bytes of cell i is one of n from an address on
abbrev pub is_touched : (a n i : ℕ) → Bool
is_touched a n i =
    is_among a n (4 * i) || is_among a n (4 * i + 1) || is_among a n (4 * i + 2)
    || is_among a n (4 * i + 3)

-- what four bytes from an address on are as one number
abbrev pub four_bytes : (ℕ → ℕ) → ℕ → ℕ
four_bytes byte a = byte a + 256 * byte (a + 1) + 65536 * byte (a + 2) + 16777216 * byte (a + 3)

-- cell i then: made of its bytes where one of them was put, else as it was
abbrev pub cell_moved : List ℤ → (from to n i : ℕ) → ℤ
cell_moved cells from to n i =
    if is_touched to n i then cell_of (four_bytes (byte_moved cells from to n) (4 * i))
    else slice_index_or cells i (pos 0)

-- the cells then
abbrev pub cells_moved : List ℤ → (from to n : ℕ) → List ℤ
cells_moved cells from to n = map (cell_moved cells from to n) (range_with_len 0 (length cells))

-- n bytes from an address to another, as if all were read first
abbrev pub copy : State → (from to n : ℕ) → (State → Turned) → Turned
copy s from to n go =
    if are_live s from n && are_live s to n
    then go (record s { cells = cells_moved s.cells from to n }) else Errs (pos 5)

-- 0 for equal bytes; at the first that differ -1 where that of the first list is less, else 1
abbrev pub order_of : List ℕ → List ℕ → ℤ
order_of [] ys = pos 0
order_of (x ∷ xs) [] = pos 0
order_of (x ∷ xs) (y ∷ ys) =
    if nat_lt x y then negsuc 0 else (if nat_lt y x then pos 1 else order_of xs ys)

-- how n bytes at an address stand to those at another
abbrev pub compare : State → (at to n : ℕ) → (ℤ → Turned) → Turned
compare s at to n go =
    if are_live s at n && are_live s to n
    then go (order_of (bytes_at s.cells at n) (bytes_at s.cells to n)) else Errs (pos 5)

-- n bytes, in cells from a multiple of 4 on; none where n is 0, whatever the address
abbrev pub fill : State → (a n : ℕ) → ℤ → (State → Turned) → Turned
fill s a n v go =
    if (n == 0) || ((a % 4 == 0) && are_live s a n)
    then go (record s {
      cells = take (a / 4) s.cells
          ++ (replicate (n / 4) v ++ drop (a / 4 + n / 4) s.cells);
    })
    else Errs (pos 5)
