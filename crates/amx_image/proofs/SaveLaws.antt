-- The bytes that are written one behind another are the image.
use Rattle.std.proofs.Common.{◌≡◌, ◌+◌, ◌*◌, ◌/◌, ◌%◌, ◌^◌, ◌<◌, ◌≤◌, ◌++◌, inl, inr, ℕ, ℤ, pos}
use Rattle.std.proofs.Common.{List, [], Bool, true, false, All, length, take, drop, get_or, nat_lt}
use Rattle.std.proofs.Common.{refl, sym, ap, ◌∙◌, subst, arith}
use Rattle.std.proofs.lemmas.Bool.{cases_lt, eq-eqb, le-leb, le-ltb, ltb-false}
use Rattle.std.proofs.lemmas.List.{append-nil, append_assoc, drop_at, drop_more, get_or_default}
use Rattle.std.proofs.lemmas.List.{length-append, length-drop, length-take, take-take, take_at}
use Rattle.std.proofs.lemmas.List.Elements.{All-append}
use Rattle.pawn_cells.specs.Cells.{IsCell, bits_of, cell_of}
use Rattle.amx_ops.specs.State.{State}
use Rattle.amx_ops.specs.Moves.{live_from}
use Rattle.amx_step.specs.declared.host_registers.Registers.{Registers}
use Rattle.amx_step.specs.Hosting.{registers_of}
use Rattle.amx_format.specs.Layout.{half, word, cells}
use Rattle.amx_format.specs.Numbers.{half_at, word_at, cells_at}
use Rattle.amx_format.proofs.Numbers.{length-word, word_at-word, cells_at-cells}
use Rattle.amx_format.proofs.RowLaws.{cells-append, length-cells}
use Rattle.amx_machine.specs.Machine.{Machine, IsKept}
use Rattle.amx_image.specs.declared.version.Version.TheVariants.{Live}
use Rattle.amx_image.specs.declared.version.TheConstants.{LIVE}
use Rattle.amx_image.specs.declared.place.TheConstants.{MAGIC, VERSION, ZERO, DIGEST, POSITION, PRI}
use Rattle.amx_image.specs.declared.place.TheConstants.{COUNT, CELLS}
use Rattle.amx_image.specs.Version.{version_number}
use Rattle.amx_image.specs.Image.{stored, registers_at, IsImage}
use Rattle.amx_image.specs.Spelled.{row_of, front, spelled}
use Rattle.amx_image.proofs.ImageLaws.{address_back}

-- what a host sees from a stack's low end on, and below a heap's high end
module _ (m : Machine) (k : IsKept m) where
  abbrev s : State
  s = m.state

  pub stk_back : bits_of (cell_of s.stk) ≡ s.stk
  stk_back = address_back s.stk (omega (arith, k.size, k.in_order.order.2))

  pub hea_back : bits_of (cell_of s.hea) ≡ s.hea
  hea_back = address_back s.hea (omega (arith, k.size, k.in_order.order.1, k.in_order.order.2))

  stack_from : live_from s s.stk ≡ drop (s.stk / 4) s.cells
  stack_from =
      rw (
        eq-eqb (s.stk % 4) 0 k.in_order.whole.1,
        le-ltb s.stk s.hea k.in_order.order.1,
        le-leb s.stk s.stk (omega arith),
      ) refl

  pub stack_is : live_from s (bits_of (cell_of s.stk)) ≡ drop (s.stk / 4) s.cells
  stack_is = ap (live_from s) stk_back ∙ stack_from

  pub count_is : (stk : ℕ) (cells : List ℤ) → stk ≡ bits_of (cell_of s.stk)
      → cells ≡ live_from s (bits_of (cell_of s.stk))
      → stk / 4 + length cells ≡ length s.cells
  count_is stk cells e f =
      let n = ap (λ (zs : List ℤ). length zs) (f ∙ stack_is) in
      omega (
        arith,
        e ∙ stk_back,
        n,
        length-drop (s.stk / 4) s.cells,
        k.in_order.order.2,
        k.in_order.whole.1,
      )

-- ---- one cell more

pub fit_more : (row : List ℤ) (i : ℕ) → i < length row → IsCell (get_or row i (pos 0))
    → ((k : ℕ) (d : ℤ) → k < i → IsCell (get_or row k d))
    → (k : ℕ) (d : ℤ) → k < i + 1 → IsCell (get_or row k d)
fit_more row i l fit fits k d h = elim (cases_lt k i) [
  | inl g ↦ fits k d g
  | inr g ↦
      let same : i ≡ k = omega (arith, h, g) in
      subst (λ n. IsCell (get_or row n d)) same
      (subst IsCell (get_or_default row i (pos 0) d l) fit)
]

pub cells_more : (front : List ℕ) (row : List ℤ) (i : ℕ) → i < length row
    → (front ++ word (bits_of (get_or row i (pos 0)))) ++ cells (drop (i + 1) row)
    ≡ front ++ cells (drop i row)
cells_more front row i h =
    append_assoc front (word (bits_of (get_or row i (pos 0)))) (cells (drop (i + 1) row))
    ∙ ap (λ zs. front ++ cells zs) (sym (drop_more row i (pos 0) h))

-- ---- the whole

length-half : (n : ℕ) → length (half n) ≡ 2
unfolding half
length-half n = refl

-- six parts grouped to the right
six : (a b c d e f : List ℕ) → a ++ b ++ c ++ d ++ e ++ f ≡ a ++ (b ++ (c ++ (d ++ (e ++ f))))
six a b c d e f = simp append_assoc refl

module _ (s : State) (position : ℕ) (digest : List ℕ) (r : Registers) (heap stack : List ℤ)
    (long : length digest ≡ 32) (small : position < 2 ^ 32)
    (few : length s.cells < 2 ^ 32) (same : r ≡ registers_of s) (row_fits : All IsCell (row_of r))
    (heap_fits : All IsCell heap) (stack_fits : All IsCell stack) where
  abbrev n : ℕ
  n = length s.cells

  abbrev bytes : List ℕ
  bytes = spelled r position n digest heap stack

  -- what stands in front of each part
  abbrev to_registers : List ℕ
  to_registers = front digest ++ word position

  abbrev to_count : List ℕ
  to_count = to_registers ++ cells (row_of r)

  abbrev to_cells : List ℕ
  to_cells = to_count ++ word n

  front_size : length (front digest) ≡ 40
  front_size =
      omega (
        arith,
        long,
        length-append (MAGIC ++ half LIVE ++ half 0) digest,
        length-append (MAGIC ++ half LIVE) (half 0),
        length-append MAGIC (half LIVE),
        length-half LIVE,
        length-half 0,
      )

  registers_size : length to_registers ≡ 44
  registers_size =
      omega (arith, front_size, length-append (front digest) (word position), length-word position)

  count_size : length to_count ≡ 68
  count_size =
      omega (
        arith,
        registers_size,
        length-append to_registers (cells (row_of r)),
        length-cells (row_of r),
      )

  cells_size : length to_cells ≡ 72
  cells_size = omega (arith, count_size, length-append to_count (word n), length-word n)

  bytes_size : length bytes ≡ 72 + 4 * length (heap ++ stack)
  bytes_size =
      omega (
        arith,
        cells_size,
        length-append (to_cells ++ cells heap) (cells stack),
        length-append to_cells (cells heap),
        length-cells heap,
        length-cells stack,
        length-append heap stack,
      )

  version_there : half_at bytes VERSION ≡ version_number Live
  unfolding half half_at
  version_there = refl

  zero_there : half_at bytes ZERO ≡ 0
  unfolding half half_at
  zero_there = refl

  magic_there : take 4 bytes ≡ MAGIC
  magic_there = refl

  digest_there : take 32 (drop DIGEST bytes) ≡ digest
  digest_there =
      let rest = word position ++ (cells (row_of r) ++ (word n ++ (cells heap ++ cells stack))) in
      let group : bytes ≡ (MAGIC ++ half LIVE ++ half 0) ++ (digest ++ rest) =
      six (front digest) (word position) (cells (row_of r)) (word n) (cells heap) (cells stack)
      ∙ append_assoc (MAGIC ++ half LIVE ++ half 0) digest rest in
      let size : length (MAGIC ++ half LIVE ++ half 0) ≡ 8 =
      omega (
        arith,
        length-append (MAGIC ++ half LIVE) (half 0),
        length-append MAGIC (half LIVE),
        length-half LIVE,
        length-half 0,
      ) in
      ap (λ (bs : List ℕ). take 32 (drop DIGEST bs)) group
      ∙ ap (take 32) (drop_at (MAGIC ++ half LIVE ++ half 0) (digest ++ rest) DIGEST size)
      ∙ take_at digest rest 32 long

  position_there : word_at bytes POSITION ≡ position
  position_there =
      let rest = cells (row_of r) ++ (word n ++ (cells heap ++ cells stack)) in
      let group : bytes ≡ front digest ++ (word position ++ rest) =
      six (front digest) (word position) (cells (row_of r)) (word n) (cells heap) (cells stack) in
      ap (λ (bs : List ℕ). word_at bs POSITION) group
      ∙ word_at-word (front digest) rest POSITION position front_size small

  abbrev registers_from : List ℤ → Registers
  registers_from row = record {
    pri = get_or row 0 (pos 0);
    alt = get_or row 1 (pos 0);
    frm = get_or row 2 (pos 0);
    cip = get_or row 3 (pos 0);
    stk = get_or row 4 (pos 0);
    hea = get_or row 5 (pos 0);
  }

  registers_there : registers_at bytes ≡ registers_of s
  registers_there =
      let rest = word n ++ (cells heap ++ cells stack) in
      let group : bytes ≡ to_registers ++ (cells (row_of r) ++ rest) = simp append_assoc refl in
      let row : cells_at bytes PRI 6 ≡ row_of r =
      ap (λ (bs : List ℕ). cells_at bs PRI 6) group
      ∙ cells_at-cells to_registers rest PRI (row_of r) registers_size row_fits in
      ap registers_from row ∙ same

  count_there : word_at bytes COUNT ≡ n
  count_there =
      let rest = cells heap ++ cells stack in
      let group : bytes ≡ to_count ++ (word n ++ rest) = simp append_assoc refl in
      ap (λ (bs : List ℕ). word_at bs COUNT) group
      ∙ word_at-word to_count rest COUNT n count_size few

  cells_there : cells_at bytes CELLS (length (heap ++ stack)) ≡ heap ++ stack
  cells_there =
      let whole : bytes ≡ to_cells ++ (cells (heap ++ stack) ++ []) =
      append_assoc to_cells (cells heap) (cells stack)
      ∙ ap (λ zs. to_cells ++ zs) (sym (cells-append heap stack)
      ∙ sym (append-nil (cells (heap ++ stack)))) in
      ap (λ (bs : List ℕ). cells_at bs CELLS (length (heap ++ stack))) whole
      ∙ cells_at-cells to_cells [] CELLS (heap ++ stack) cells_size
      (All-append IsCell heap stack heap_fits stack_fits)

  pub spelled_is_image : heap ≡ take (s.hea / 4) s.cells → stack ≡ drop (s.stk / 4) s.cells
      → IsImage Live s position digest bytes
  spelled_is_image h k =
      let live : heap ++ stack ≡ stored Live s =
      ap (λ zs. zs ++ stack) h ∙ ap (λ zs. take (s.hea / 4) s.cells ++ zs) k in
      let many = ap (λ (zs : List ℤ). length zs) live in
      record {
        length_is = omega (arith, bytes_size, many);
        magic = magic_there;
        version_is = version_there;
        zero_is = zero_there;
        digest_is = digest_there;
        position_is = position_there;
        registers = registers_there;
        count = count_there;
        cells = ap (cells_at bytes CELLS) (sym many) ∙ cells_there ∙ live;
      }

-- the live cells are no more than all
pub live_fit : (m : Machine) → IsKept m → (heap stack : List ℤ)
    → heap ≡ take (m.state.hea / 4) m.state.cells → stack ≡ drop (m.state.stk / 4) m.state.cells
    → length heap + length stack ≤ length m.state.cells
live_fit m k heap stack e f =
    let a = ap (λ (zs : List ℤ). length zs) e in
    let b = ap (λ (zs : List ℤ). length zs) f in
    omega (
      arith,
      a,
      b,
      length-take (m.state.hea / 4) m.state.cells,
      length-drop (m.state.stk / 4) m.state.cells,
      k.in_order.order.1,
      k.in_order.order.2,
    )

-- the cells below HEA are the first that are live from 0 on
pub heap_is : (m : Machine) → IsKept m
    → take (m.state.hea / 4) (live_from m.state 0) ≡ take (m.state.hea / 4) m.state.cells
heap_is m k = heap_by (nat_lt 0 m.state.hea) refl
  where
    heap_by : (b : Bool) → nat_lt 0 m.state.hea ≡ b
        → take (m.state.hea / 4) (live_from m.state 0) ≡ take (m.state.hea / 4) m.state.cells
    heap_by true e =
        rw e (take-take (m.state.hea / 4) (m.state.hea / 4) m.state.cells (omega arith))
    heap_by false e =
        let none : m.state.hea / 4 ≡ 0 = omega (arith, ltb-false 0 m.state.hea e) in
        ap (λ n. take n (live_from m.state 0)) none ∙ sym (ap (λ n. take n m.state.cells) none)

-- and so many there are
pub heap_within : (m : Machine) → IsKept m → m.state.hea / 4 ≤ length (live_from m.state 0)
heap_within m k = within (nat_lt 0 m.state.hea) refl
  where
    within : (b : Bool) → nat_lt 0 m.state.hea ≡ b → m.state.hea / 4 ≤ length (live_from m.state 0)
    within true e =
        rw e (omega (
          arith,
          length-take (m.state.hea / 4) m.state.cells,
          k.in_order.order.1,
          k.in_order.order.2,
        ))
    within false e = omega (arith, ltb-false 0 m.state.hea e)

-- what is lent from STK on, as a host reads it, is the stack
pub stack_lent : (m : Machine) (r : Registers) (part : List ℤ) → r ≡ registers_of m.state
    → IsKept m → part ≡ live_from m.state (bits_of r.stk)
    → part ≡ drop (m.state.stk / 4) m.state.cells
stack_lent m r part e kept is =
    is ∙ ap (λ q. live_from m.state (bits_of q.stk)) e ∙ stack_is m kept
