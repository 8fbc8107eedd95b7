-- The state that live cells written over zeros leave is the one whose image was read.
use Rattle.std.proofs.Common.{◌≡◌, ◌+◌, ◌-◌, ◌*◌, ◌/◌, ◌≤◌, ◌++◌, inl, inr, ℕ, ℤ, pos, List, true}
use Rattle.std.proofs.Common.{All, None, Some, length, take, drop, replicate, refl, sym, ap, ◌∙◌}
use Rattle.std.proofs.Common.{subst, arith}
use Rattle.std.proofs.lemmas.Int.{to_z-of_z}
use Rattle.std.specs.Int.{w32}
use Rattle.std.proofs.lemmas.List.{length-append, length-drop, length-replicate}
use Rattle.std.proofs.lemmas.List.Elements.{All-append, All-replicate}
use Rattle.pawn_cells.specs.Cells.{IsCell, bits_of, cell_of}
use Rattle.amx_ops.specs.declared.amx.Amx.{Amx}
use Rattle.amx_ops.specs.State.{State, swept}
use Rattle.amx_ops.specs.States.{IsRestorable}
use Rattle.amx_ops.specs.Writable.{memory_limit}
use Rattle.pawn_cells.proofs.CellLaws.{bits_fit, cell_of_cell, small_cell}
use Rattle.amx_step.specs.declared.host_registers.Registers.{Registers}
use Rattle.amx_step.specs.Hosting.{AreInOrder, registers_of, cleared}
use Rattle.amx_step.specs.Machine.{cell_count}
use Rattle.amx_format.specs.Numbers.{word_at, cells_at}
use Rattle.amx_machine.specs.declared.mode.Mode.{Mode}
use Rattle.amx_machine.specs.declared.mode.Mode.TheVariants as mode
use Rattle.amx_machine.specs.Machine.{Machine}
use Rattle.amx_image.specs.declared.fault.ImageFault.{ImageFault}
use Rattle.amx_image.specs.declared.version.Version.{Version}
use Rattle.amx_image.specs.declared.version.Version.TheVariants.{Whole, Live}
use Rattle.amx_image.specs.declared.place.TheConstants.{POSITION, CELLS}
use Rattle.amx_image.specs.Image.{stored, registers_at, IsImage}
use Rattle.amx_image.specs.Faults.{are_zero, version_in, first_fault}
use Rattle.amx_image.specs.Examined.{stack_place}
use Rattle.amx_image.specs.Rows.{IsLiveRow, with_row}
use Rattle.amx_image.specs.Restored.{IsImageFor, HasNoImage}
use Rattle.amx_image.proofs.FaultLaws.{HasCells, IsSound, sound, image_has_no_fault}
use Rattle.amx_image.proofs.RowLaws.{length-cells_at, cells_fit, cells_at-split, zeros_of}
use Rattle.amx_image.proofs.RowLaws.{all_cells, both_written, size, below, above, parts}

-- a register's bits as a cell, and back
register_back : (n : ℕ) → cell_of (bits_of (cell_of n)) ≡ cell_of n
register_back n = to_z-of_z w32 (cell_of n) (cell_of_cell n)

module _ (amx : Amx) (old : State) (version : Version) (digest bytes : List ℕ)
    (i : IsSound amx (length old.cells) version digest bytes) where
  abbrev n : ℕ
  n = length old.cells

  abbrev r : Registers
  r = registers_at bytes

  abbrev hea : ℕ
  hea = bits_of r.hea

  abbrev stk : ℕ
  stk = bits_of r.stk

  abbrev h : ℕ
  h = hea / 4

  abbrev k : ℕ
  k = stk / 4

  low : h ≤ k
  low = omega (arith, i.stack.1)

  high : k ≤ n
  high = omega (arith, i.stack.2)

  abbrev place : ℕ
  place = stack_place version hea stk

  abbrev heap : List ℤ
  heap = cells_at bytes CELLS h

  abbrev stack : List ℤ
  stack = cells_at bytes place (n - k)

  front : length heap ≡ h
  front = length-cells_at bytes CELLS h

  back : length stack ≡ n - k
  back = length-cells_at bytes place (n - k)

  -- ---- the conditions of the calls

  pub in_order : AreInOrder amx (cleared r old)
  in_order = record {
    whole = (i.heap.0, i.stack.0);
    order = (i.heap.1, i.stack.1, omega (arith, i.stack.2, length-replicate n (pos 0)));
  }

  pub heap_is_live : IsLiveRow (cleared r old) 0 h
  heap_is_live =
      record {
        aligned = refl;
        below = omega (arith, low, high, length-replicate n (pos 0));
        within = inl (omega arith);
      }

  -- with the heap's cells written
  abbrev pub first_state : State
  first_state = with_row (cleared r old) 0 heap

  first_size : length first_state.cells ≡ n
  first_size =
      omega (
        arith,
        front,
        low,
        high,
        length-append heap (drop (0 + length heap) (replicate n (pos 0))),
        length-drop (0 + length heap) (replicate n (pos 0)),
        length-replicate n (pos 0),
      )

  pub stack_is_live : IsLiveRow first_state stk (n - k)
  stack_is_live = record {
    aligned = i.stack.0;
    below = omega (arith, first_size, i.stack.0, i.stack.2);
    within = inr (omega arith);
  }

  long_by : (v : Version) → HasCells v n hea stk bytes
      → (CELLS + 4 * h ≤ length bytes) × (stack_place v hea stk + 4 * (n - k) ≤ length bytes)
  long_by Whole e = (omega (arith, e.0, low, high), omega (arith, e.0, i.stack.0, i.stack.2))
  long_by Live e = (
    omega (arith, e, i.heap.0, i.stack.1, i.stack.2),
    omega (arith, e, i.heap.0, i.stack.0, i.stack.1, i.stack.2),
  )

  pub long_enough : (CELLS + 4 * h ≤ length bytes) × (place + 4 * (n - k) ≤ length bytes)
  long_enough = long_by version i.cells

  -- ---- the state

  -- with those of the stack too
  abbrev pub last_state : State
  last_state = with_row first_state stk stack

  abbrev whole_row : List ℤ
  whole_row = all_cells heap stack h k n low high front back

  cells_are : last_state.cells ≡ whole_row
  cells_are = both_written heap stack h k n low high front back

  row_size : length whole_row ≡ n
  row_size = size heap stack h k n low high front back

  below_hea : take h last_state.cells ≡ heap
  below_hea = ap (take h) cells_are ∙ below heap stack h k n low high front back

  from_stk : drop k last_state.cells ≡ stack
  from_stk = ap (drop k) cells_are ∙ above heap stack h k n low high front back

  pub state_size : length last_state.cells ≡ n
  state_size = ap (λ (zs : List ℤ). length zs) cells_are ∙ row_size

  all_fit : All IsCell last_state.cells
  all_fit =
      subst (λ zs. All IsCell zs) (sym cells_are)
      (All-append IsCell heap (replicate (k - h) (pos 0) ++ stack) (cells_fit bytes CELLS h)
      (All-append IsCell (replicate (k - h) (pos 0)) stack
      (All-replicate IsCell (k - h) (pos 0) (small_cell 0 (omega arith)))
      (cells_fit bytes place (n - k))))

  clean : swept last_state ≡ last_state
  clean =
      ap (λ (zs : List ℤ). record last_state { cells = zs })
      (ap (λ (zs : List ℤ). zs ++ (replicate (k - h) (pos 0) ++ drop k last_state.cells)) below_hea
      ∙ ap (λ (zs : List ℤ). heap ++ (replicate (k - h) (pos 0) ++ zs)) from_stk ∙ sym cells_are)

  pub restorable : 4 * n ≤ memory_limit → IsRestorable amx last_state
  restorable small = record {
    state = record {
      pri = cell_of_cell _;
      alt = cell_of_cell _;
      frm = bits_fit r.frm (cell_of_cell _);
      cip = bits_fit r.cip (cell_of_cell _);
      cells = all_fit;
      size = omega (arith, small, state_size);
      whole = (i.heap.0, i.stack.0);
      order = (i.heap.1, i.stack.1, omega (arith, i.stack.2, state_size));
    };
    starts = i.starts;
    clean = clean;
  }

  -- ---- its image

  live_cells : heap ++ cells_at bytes (CELLS + hea) (n - k) ≡ cells_at bytes CELLS (h + (n - k))
  live_cells =
      let at : CELLS + hea ≡ CELLS + 4 * h = omega (arith, i.heap.0) in
      ap (λ q. heap ++ cells_at bytes q (n - k)) at ∙ sym (cells_at-split bytes CELLS h (n - k))

  dead_cells : are_zero (cells_at bytes (CELLS + hea) ((stk - hea) / 4)) ≡ true
      → cells_at bytes (CELLS + 4 * h) (k - h) ≡ replicate (k - h) (pos 0)
  dead_cells e =
      let at : CELLS + hea ≡ CELLS + 4 * h = omega (arith, i.heap.0) in
      let count : (stk - hea) / 4 ≡ k - h = omega (arith, i.heap.0, i.stack.0, i.stack.1) in
      let zero : are_zero (cells_at bytes (CELLS + 4 * h) (k - h)) ≡ true =
      sym (ap (λ q. are_zero (cells_at bytes q ((stk - hea) / 4))) at
      ∙ ap (λ m. are_zero (cells_at bytes (CELLS + 4 * h) m)) count) ∙ e in
      zeros_of (cells_at bytes (CELLS + 4 * h) (k - h)) zero
      ∙ ap (λ m. replicate m (pos 0)) (length-cells_at bytes (CELLS + 4 * h) (k - h))

  whole_cells : are_zero (cells_at bytes (CELLS + hea) ((stk - hea) / 4)) ≡ true
      → heap ++ (replicate (k - h) (pos 0) ++ cells_at bytes (CELLS + stk) (n - k))
      ≡ cells_at bytes CELLS n
  whole_cells e =
      let at : CELLS + stk ≡ CELLS + 4 * k = omega (arith, i.stack.0) in
      ap (λ q. heap ++ (replicate (k - h) (pos 0) ++ cells_at bytes q (n - k))) at
      ∙ ap (λ zs. heap ++ (zs ++ cells_at bytes (CELLS + 4 * k) (n - k))) (sym (dead_cells e))
      ∙ sym (parts bytes CELLS h k n low high)

  -- the cells that a version stores, and how many they are
  stored_by : (v : Version) → version ≡ v → HasCells v n hea stk bytes
      → (m : ℕ) × (stored v last_state ≡ cells_at bytes CELLS m) × (length bytes ≡ CELLS + 4 * m)
  stored_by Whole same e = (
    n,
    cells_are
        ∙ ap (λ u. heap ++ (replicate (k - h) (pos 0)
        ++ cells_at bytes (stack_place u hea stk) (n - k))) same ∙ whole_cells e.1,
    e.0,
  )
  stored_by Live same e = (
    h + (n - k),
    ap (λ (zs : List ℤ). zs ++ drop k last_state.cells) below_hea
        ∙ ap (λ (zs : List ℤ). heap ++ zs) from_stk
        ∙ ap (λ u. heap ++ cells_at bytes (stack_place u hea stk) (n - k)) same ∙ live_cells,
    omega (arith, e, i.heap.0, i.stack.0, i.stack.1, i.stack.2),
  )

  -- the registers with other addresses
  abbrev placed_at : (frm cip stk hea : ℤ) → Registers
  placed_at frm cip stk hea = record r { frm = frm; cip = cip; stk = stk; hea = hea }

  pub image : IsImage version last_state (word_at bytes POSITION) digest bytes
  image =
      let it = stored_by version refl i.cells in
      let count : length (stored version last_state) ≡ it.0 =
      ap (λ (zs : List ℤ). length zs) it.1 ∙ length-cells_at bytes CELLS it.0 in
      record {
        length_is = omega (arith, it.2, count);
        magic = i.magic;
        version_is = i.version_is;
        zero_is = i.zero_is;
        digest_is = i.digest_is;
        position_is = refl;
        registers = registers_stay;
        count = i.count_is ∙ sym state_size;
        cells = ap (cells_at bytes CELLS) count ∙ sym it.1;
      }
    where
      registers_stay : r ≡ registers_of last_state
      registers_stay =
          ap (λ x. placed_at x r.cip r.stk r.hea) (sym (register_back _))
          ∙ ap (λ x. placed_at (cell_of (bits_of r.frm)) x r.stk r.hea) (sym (register_back _))
          ∙ ap (λ x. placed_at (cell_of (bits_of r.frm)) (cell_of (bits_of r.cip)) x r.hea)
          (sym (register_back _))
          ∙ ap (λ x. placed_at (cell_of (bits_of r.frm)) (cell_of (bits_of r.cip))
          (cell_of (bits_of r.stk)) x) (sym (register_back _))

-- ---- machines

pub is_image_for : (m : Machine) (version : Version) (digest bytes : List ℕ)
    (i : IsSound m.amx (length m.state.cells) version digest bytes)
    → 4 * length m.state.cells ≤ memory_limit
    → length m.state.cells ≡ cell_count m.amx
    → IsImageFor m.amx digest bytes (last_state m.amx m.state version digest bytes i)
    (word_at bytes POSITION)
is_image_for m version digest bytes i small many = record {
  version = version;
  image = image m.amx m.state version digest bytes i;
  restorable = restorable m.amx m.state version digest bytes i small;
  count = state_size m.amx m.state version digest bytes i ∙ many;
}

-- bytes with a fault are no image
pub faulty : (amx : Amx) (digest bytes : List ℕ) (fault : ImageFault)
    → first_fault amx (cell_count amx) digest bytes ≡ Some fault
    → HasNoImage amx digest bytes
faulty amx digest bytes fault e s position it =
    let none : first_fault amx (cell_count amx) digest bytes ≡ None =
    ap (λ c. first_fault amx c digest bytes) (sym it.count)
    ∙ image_has_no_fault amx it.version s position digest bytes it.image it.restorable in
    let no : ⊥ = cc in no

-- ---- what the tests told, of the machine

module _ (m : Machine) (file : Amx) (count : ℕ) (digest bytes : List ℕ) (of : m.amx ≡ file)
    (many : count ≡ length m.state.cells) where
  pub told : first_fault m.amx (length m.state.cells) digest bytes
      ≡ first_fault file count digest bytes
  told =
      ap (λ a. first_fault a (length m.state.cells) digest bytes) of
      ∙ ap (λ c. first_fault file c digest bytes) (sym many)

  pub sound_for : (version : Version) → first_fault file count digest bytes ≡ None
      → version_in bytes ≡ Some version
      → IsSound m.amx (length m.state.cells) version digest bytes
  sound_for version e v = sound m.amx (length m.state.cells) version digest bytes (told ∙ e) v

abbrev machine_of : Amx → State → Mode → Machine
machine_of a s d = record { amx = a; state = s; mode = d }

pub same_machine : (x m : Machine) (d : Mode) → x.amx ≡ m.amx → x.mode ≡ d
    → x ≡ record m { state = x.state; mode = d }
same_machine x m d a e =
    let amx : x ≡ record { amx = m.amx; state = x.state; mode = x.mode } =
    ap (λ (b : Amx). machine_of b x.state x.mode) a in
    amx ∙ ap (machine_of m.amx x.state) e

-- ---- the calls, of the numbers that the code has read

pub cleared_is : (m n : Machine) (read r : Registers) → n ≡ record m {
  state = cleared read m.state;
  mode = mode.Asleep;
} → read ≡ r → n.state ≡ cleared r m.state
cleared_is m n read r e same = ap (λ q. q.state) e ∙ ap (λ q. cleared q m.state) same

module _ (m : Machine) (version : Version) (digest bytes : List ℕ)
    (i : IsSound m.amx (length m.state.cells) version digest bytes) (low high : ℕ)
    (low_is : low ≡ bits_of (registers_at bytes).hea)
    (high_is : high ≡ bits_of (registers_at bytes).stk) where
  abbrev empty : State
  empty = cleared (registers_at bytes) m.state

  abbrev heap_in : State
  heap_in = first_state m.amx m.state version digest bytes i

  abbrev all_in : State
  all_in = last_state m.amx m.state version digest bytes i

  -- the row of the heap

  pub heap_row : (s : State) → s ≡ empty → IsLiveRow s 0 (low / 4)
  heap_row s e =
      subst (λ it. IsLiveRow it 0 (low / 4)) (sym e)
      (subst (λ n. IsLiveRow empty 0 (n / 4)) (sym low_is)
      (heap_is_live m.amx m.state version digest bytes i))

  pub heap_long : CELLS + 4 * (low / 4) ≤ length bytes
  heap_long = omega (arith, low_is, (long_enough m.amx m.state version digest bytes i).0)

  heap_put : (s t : State) → s ≡ empty → t ≡ with_row s 0 (cells_at bytes CELLS (low / 4))
      → t ≡ heap_in
  heap_put s t e put =
      put ∙ ap (λ it. with_row it 0 (cells_at bytes CELLS (low / 4))) e
      ∙ ap (λ n. with_row empty 0 (cells_at bytes CELLS (n / 4))) low_is

  -- and that of the stack

  module _ (count : ℕ) (many : count ≡ length m.state.cells) where
    pub stack_count : high / 4 ≤ count
    stack_count = omega (arith, high_is, i.stack.2, many)

    pub stack_row : (s t : State) → s ≡ empty → t ≡ with_row s 0 (cells_at bytes CELLS (low / 4))
        → IsLiveRow t high (count - high / 4)
    stack_row s t e put =
        subst (λ it. IsLiveRow it high (count - high / 4)) (sym (heap_put s t e put))
        (subst (λ k. IsLiveRow heap_in k (count - k / 4)) (sym high_is)
        (subst (λ j. IsLiveRow heap_in (bits_of (registers_at bytes).stk)
        (j - bits_of (registers_at bytes).stk / 4)) (sym many)
        (stack_is_live m.amx m.state version digest bytes i)))

    there : (place : ℕ) → place ≡ stack_place version low high
        → place ≡ stack_place version (bits_of (registers_at bytes).hea)
        (bits_of (registers_at bytes).stk)
    there place e =
        e ∙ ap (λ h. stack_place version h high) low_is
        ∙ ap (λ k. stack_place version (bits_of (registers_at bytes).hea) k) high_is

    pub stack_long : (place : ℕ) → place ≡ stack_place version low high
        → place + 4 * (count - high / 4) ≤ length bytes
    stack_long place e =
        omega (
          arith,
          there place e,
          high_is,
          many,
          (long_enough m.amx m.state version digest bytes i).1,
        )

    pub all_put : (s t u : State) (place : ℕ) → s ≡ empty
        → t ≡ with_row s 0 (cells_at bytes CELLS (low / 4)) → place ≡ stack_place version low high
        → u ≡ with_row t high (cells_at bytes place (count - high / 4)) → u ≡ all_in
    all_put s t u place e put at then =
        then ∙ ap (λ it. with_row it high (cells_at bytes place (count - high / 4)))
        (heap_put s t e put)
        ∙ ap (λ k. with_row heap_in k (cells_at bytes place (count - k / 4))) high_is
        ∙ ap (λ p. with_row heap_in (bits_of (registers_at bytes).stk)
        (cells_at bytes p (count - bits_of (registers_at bytes).stk / 4))) (there place at)
        ∙ ap (λ n. with_row heap_in (bits_of (registers_at bytes).stk)
        (cells_at bytes (stack_place version (bits_of (registers_at bytes).hea)
        (bits_of (registers_at bytes).stk)) (n - bits_of (registers_at bytes).stk / 4))) many
