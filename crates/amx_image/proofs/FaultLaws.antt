-- What bytes without a fault have, and images of restorable states have none.
use Rattle.std.proofs.Common.{◌≡◌, ◌+◌, ◌-◌, ◌*◌, ◌/◌, ◌%◌, ◌^◌, ◌≤◌, ◌++◌, ◌==◌, ◌&&◌, ℕ, ℤ, pos}
use Rattle.std.proofs.Common.{List, Bool, true, false, not, Option, None, Some, length, take, drop}
use Rattle.std.proofs.Common.{replicate, nat_le, nat_lt, if◌then◌else◌, refl, sym, ap, ◌∙◌, subst}
use Rattle.std.proofs.Common.{arith, leb-true}
use Rattle.std.proofs.lemmas.Bool.{eqb-true, eq-eqb, false≢true, le-leb, lt-ltb, ltb-false, le-ltb}
use Rattle.std.proofs.lemmas.Slice.Eq.{bytes_eq-Decides}
use Rattle.std.proofs.lemmas.List.{length-append, length-drop, length-take-le, length-replicate}
use Rattle.std.proofs.lemmas.List.{drop_at, take_at}
use Rattle.pawn_cells.specs.Cells.{bits_of}
use Rattle.amx_ops.specs.declared.amx.Amx.{Amx}
use Rattle.amx_ops.specs.Instructions.{is_start}
use Rattle.amx_ops.specs.State.{State, first_hea}
use Rattle.amx_ops.specs.States.{IsRestorable}
use Rattle.amx_step.specs.declared.host_registers.Registers.{Registers}
use Rattle.amx_format.specs.Numbers.{half_at, word_at, cells_at}
use Rattle.amx_image.specs.declared.fault.ImageFault.{ImageFault}
use Rattle.amx_image.specs.declared.version.Version.{Version}
use Rattle.amx_image.specs.declared.version.Version.TheVariants.{Whole, Live}
use Rattle.amx_image.specs.declared.version.TheConstants.{WHOLE, LIVE}
use Rattle.amx_image.specs.declared.place.TheConstants.{MAGIC, VERSION, ZERO, DIGEST, COUNT, CELLS}
use Rattle.amx_image.specs.Version.{version_number, version_of}
use Rattle.amx_image.specs.Image.{registers_at, IsImage}
use Rattle.amx_image.specs.Faults.{has_magic, version_in, has_digest, has_count, is_heap, is_stack}
use Rattle.amx_image.specs.Faults.{are_zero, has_cells, cells_fault, state_fault, fault_behind}
use Rattle.amx_image.specs.Faults.{first_fault}
use Rattle.amx_image.proofs.ImageLaws.{address_back}
use Rattle.amx_image.proofs.RowLaws.{are_zero-replicate, length-cells_at, parts}

-- ---- tests one behind another

passed : (b : Bool) (f : ImageFault) (rest : Option ImageFault)
    → (if not b then Some f else rest) ≡ None → (b ≡ true) × (rest ≡ None)
passed true f rest e = (refl, e)
passed false f rest e = absurd (let no : ⊥ = cc in no)

not_hit : (b : Bool) (f : ImageFault) (rest : Option ImageFault)
    → (if b then Some f else rest) ≡ None → (b ≡ false) × (rest ≡ None)
not_hit true f rest e = absurd (let no : ⊥ = cc in no)
not_hit false f rest e = (refl, e)

passes : (b : Bool) (f : ImageFault) (rest : Option ImageFault) → b ≡ true → rest ≡ None
    → (if not b then Some f else rest) ≡ None
passes true f rest h e = e
passes false f rest h e = absurd (false≢true h)

isn't_hit : (b : Bool) (f : ImageFault) (rest : Option ImageFault) → b ≡ false → rest ≡ None
    → (if b then Some f else rest) ≡ None
isn't_hit true f rest h e = absurd (false≢true (sym h))
isn't_hit false f rest h e = e

both : (a b : Bool) → (a && b) ≡ true → (a ≡ true) × (b ≡ true)
both true b h = (refl, h)
both false b h = absurd (false≢true h)

and_so : (a b : Bool) → a ≡ true → b ≡ true → (a && b) ≡ true
and_so true b f g = g
and_so false b f g = absurd (false≢true f)

-- ---- versions

by_number : (n : ℕ) (v : Version) (a b : Bool) → (n == WHOLE) ≡ a → (n == LIVE) ≡ b
    → (if a then Some Whole else if b then Some Live else None) ≡ Some v
    → n ≡ version_number v
by_number n Whole true b e f h = eqb-true n WHOLE e
by_number n Live true b e f h = absurd (let no : ⊥ = cc in no)
by_number n Whole false true e f h = absurd (let no : ⊥ = cc in no)
by_number n Live false true e f h = eqb-true n LIVE f
by_number n v false false e f h = absurd (let no : ⊥ = cc in no)

by_zero : (z n : ℕ) (v : Version) (a : Bool) → (z == 0) ≡ a
    → (if a then version_of n else None) ≡ Some v → (z ≡ 0) × (n ≡ version_number v)
by_zero z n v true e h = (eqb-true z 0 e, by_number n v (n == WHOLE) (n == LIVE) refl refl h)
by_zero z n v false e h = absurd (let no : ⊥ = cc in no)

version_back : (v : Version) → version_of (version_number v) ≡ Some v
version_back Whole = refl
version_back Live = refl

-- ---- without a fault

-- the cells that a version has behind the count
abbrev pub HasCells : Version → ℕ → ℕ → ℕ → List ℕ → Type 0
HasCells Whole count hea stk bytes =
    (length bytes ≡ CELLS + 4 * count)
    × (are_zero (cells_at bytes (CELLS + hea) ((stk - hea) / 4)) ≡ true)
HasCells Live count hea stk bytes = length bytes ≡ CELLS + (hea + (4 * count - stk))

pub record IsSound (amx : Amx) (count : ℕ) (version : Version)
    (digest bytes : List ℕ) : Type 0 where
  pub long : CELLS ≤ length bytes
  pub magic : take 4 bytes ≡ MAGIC
  pub version_is : half_at bytes VERSION ≡ version_number version
  pub zero_is : half_at bytes ZERO ≡ 0
  pub digest_is : take 32 (drop DIGEST bytes) ≡ digest
  pub count_is : word_at bytes COUNT ≡ count
  pub heap : (bits_of (registers_at bytes).hea % 4 ≡ 0)
      × (first_hea amx ≤ bits_of (registers_at bytes).hea)
  pub stack : (bits_of (registers_at bytes).stk % 4 ≡ 0)
      × (bits_of (registers_at bytes).hea ≤ bits_of (registers_at bytes).stk)
      × (bits_of (registers_at bytes).stk ≤ 4 * count)
  pub starts : is_start amx.code (bits_of (registers_at bytes).cip) ≡ true
  pub cells : HasCells version count (bits_of (registers_at bytes).hea)
      (bits_of (registers_at bytes).stk) bytes

heap_by : (first hea : ℕ) → is_heap first hea ≡ true → (hea % 4 ≡ 0) × (first ≤ hea)
heap_by first hea h =
    let a = both ((hea % 4 == 0) && nat_lt hea (2 ^ 31)) (nat_le first hea) h in
    let b = both (hea % 4 == 0) (nat_lt hea (2 ^ 31)) a.0 in
    (eqb-true (hea % 4) 0 b.0, leb-true first hea a.1)

stack_by : (count hea stk : ℕ) → is_stack count hea stk ≡ true
    → (stk % 4 ≡ 0) × (hea ≤ stk) × (stk ≤ 4 * count)
stack_by count hea stk h =
    let a = both ((stk % 4 == 0) && nat_le hea stk) (nat_le stk (4 * count)) h in
    let b = both (stk % 4 == 0) (nat_le hea stk) a.0 in
    (eqb-true (stk % 4) 0 b.0, leb-true hea stk b.1, leb-true stk (4 * count) a.1)

count_by : (v : Version) (count : ℕ) (bytes : List ℕ) → has_count v count bytes ≡ true
    → word_at bytes COUNT ≡ count
count_by Whole count bytes h =
    eqb-true (word_at bytes COUNT) count
    (both (word_at bytes COUNT == count) (length bytes == CELLS + 4 * count) h).0
count_by Live count bytes h = eqb-true (word_at bytes COUNT) count h

cells_by : (v : Version) (count hea stk : ℕ) (bytes : List ℕ) → has_count v count bytes ≡ true
    → has_cells v count hea stk bytes ≡ true
    → HasCells v count hea stk bytes
cells_by Whole count hea stk bytes h g = (
  eqb-true (length bytes) (CELLS + 4 * count)
      (both (word_at bytes COUNT == count) (length bytes == CELLS + 4 * count) h).1,
  g,
)
cells_by Live count hea stk bytes h g =
    eqb-true (length bytes) (CELLS + (hea + (4 * count - stk))) g

-- what the tests of registers and cells come to
record StateIsSound (amx : Amx) (count : ℕ) (version : Version) (r : Registers)
    (bytes : List ℕ) : Type 0 where
  heap_is : is_heap (first_hea amx) (bits_of r.hea) ≡ true
  stack_is : is_stack count (bits_of r.hea) (bits_of r.stk) ≡ true
  start_is : is_start amx.code (bits_of r.cip) ≡ true
  cells_is : has_cells version count (bits_of r.hea) (bits_of r.stk) bytes ≡ true

state_sound : (amx : Amx) (count : ℕ) (version : Version) (r : Registers) (bytes : List ℕ)
    → state_fault amx count version r bytes ≡ None
    → StateIsSound amx count version r bytes
unfolding state_fault
state_sound amx count version r bytes e =
    let a = passed (is_heap (first_hea amx) (bits_of r.hea)) _ _ e in
    let b = passed (is_stack count (bits_of r.hea) (bits_of r.stk)) _ _ a.1 in
    let c = passed (is_start amx.code (bits_of r.cip)) _ _ b.1 in
    let d = passed (has_cells version count (bits_of r.hea) (bits_of r.stk) bytes) _ _ c.1 in
    record { heap_is = a.0; stack_is = b.0; start_is = c.0; cells_is = d.0 }

pub sound : (amx : Amx) (count : ℕ) (version : Version) (digest bytes : List ℕ)
    → first_fault amx count digest bytes ≡ None
    → version_in bytes ≡ Some version → IsSound amx count version digest bytes
unfolding first_fault fault_behind
sound amx count version digest bytes e v =
    let r = registers_at bytes in
    let a = not_hit (nat_lt (length bytes) CELLS) _ _ e in
    let b = passed (has_magic bytes) _ _ a.1 in
    let behind : fault_behind amx count digest bytes (Some version) ≡ None =
    subst (λ o. fault_behind amx count digest bytes o ≡ None) v b.1 in
    let c = passed (has_digest digest bytes) _ _ behind in
    let d = passed (has_count version count bytes) _ _ c.1 in
    let s = state_sound amx count version r bytes d.1 in
    let n =
    by_zero (half_at bytes ZERO) (half_at bytes VERSION) version
    (half_at bytes ZERO == 0) refl v in
    record {
      long = ltb-false (length bytes) CELLS a.0;
      magic = (bytes_eq-Decides (take 4 bytes) MAGIC).0 b.0;
      version_is = n.1;
      zero_is = n.0;
      digest_is = (bytes_eq-Decides (take 32 (drop DIGEST bytes)) digest).0 c.0;
      count_is = count_by version count bytes d.0;
      heap = heap_by (first_hea amx) (bits_of r.hea) s.heap_is;
      stack = stack_by count (bits_of r.hea) (bits_of r.stk) s.stack_is;
      starts = s.start_is;
      cells = cells_by version count (bits_of r.hea) (bits_of r.stk) bytes d.0 s.cells_is;
    }

-- ---- an image

module _ (amx : Amx) (v : Version) (s : State) (p : ℕ) (digest bytes : List ℕ)
    (i : IsImage v s p digest bytes) (f : IsRestorable amx s) where
  abbrev n : ℕ
  n = length s.cells

  abbrev r : Registers
  r = registers_at bytes

  hea_is : bits_of r.hea ≡ s.hea
  hea_is =
      ap (λ (q : Registers). bits_of q.hea) i.registers
      ∙ address_back s.hea (omega (arith, f.state.size, f.state.order.1, f.state.order.2))

  stk_is : bits_of r.stk ≡ s.stk
  stk_is =
      ap (λ (q : Registers). bits_of q.stk) i.registers
      ∙ address_back s.stk (omega (arith, f.state.size, f.state.order.2))

  cip_is : bits_of r.cip ≡ s.cip
  cip_is = ap (λ (q : Registers). bits_of q.cip) i.registers ∙ address_back s.cip f.state.cip

  low : s.hea / 4 ≤ s.stk / 4
  low = omega (arith, f.state.order.1)

  high : s.stk / 4 ≤ n
  high = omega (arith, f.state.order.2)

  has_heap : is_heap (first_hea amx) (bits_of r.hea) ≡ true
  has_heap =
      ap (is_heap (first_hea amx)) hea_is
      ∙ and_so ((s.hea % 4 == 0) && nat_lt s.hea (2 ^ 31)) (nat_le (first_hea amx) s.hea)
      (and_so (s.hea % 4 == 0) (nat_lt s.hea (2 ^ 31)) (eq-eqb (s.hea % 4) 0 f.state.whole.0)
      (lt-ltb s.hea (2 ^ 31) (omega (arith, f.state.size, f.state.order.1, f.state.order.2))))
      (le-leb (first_hea amx) s.hea f.state.order.0)

  has_stack : is_stack n (bits_of r.hea) (bits_of r.stk) ≡ true
  has_stack =
      ap (λ h. is_stack n h (bits_of r.stk)) hea_is ∙ ap (is_stack n s.hea) stk_is
      ∙ and_so ((s.stk % 4 == 0) && nat_le s.hea s.stk) (nat_le s.stk (4 * n))
      (and_so (s.stk % 4 == 0) (nat_le s.hea s.stk) (eq-eqb (s.stk % 4) 0 f.state.whole.1)
      (le-leb s.hea s.stk f.state.order.1))
      (le-leb s.stk (4 * n) f.state.order.2)

  has_start : is_start amx.code (bits_of r.cip) ≡ true
  has_start = ap (is_start amx.code) cip_is ∙ f.starts

  -- the dead cells are those that a sweep makes 0
  swept_cells : take (s.hea / 4) s.cells
      ++ (replicate (s.stk / 4 - s.hea / 4) (pos 0) ++ drop (s.stk / 4) s.cells) ≡ s.cells
  swept_cells = ap (λ (u : State). u.cells) f.clean

  middle : (xs : List ℤ) (a b c x y z : List ℤ) → length a ≡ length x → length b ≡ length y
      → a ++ (b ++ c) ≡ x ++ (y ++ z) → b ≡ y
  middle xs a b c x y z ha hb e =
      let behind : b ++ c ≡ y ++ z =
      sym (drop_at a (b ++ c) (length x) ha) ∙ ap (drop (length x)) e
      ∙ drop_at x (y ++ z) (length x) refl in
      sym (take_at b c (length y) hb) ∙ ap (take (length y)) behind ∙ take_at y z (length y) refl

  dead_are_zero : cells_at bytes CELLS n ≡ s.cells
      → are_zero (cells_at bytes (CELLS + s.hea) ((s.stk - s.hea) / 4)) ≡ true
  dead_are_zero e =
      let h = s.hea / 4 in
      let k = s.stk / 4 in
      let place : CELLS + s.hea ≡ CELLS + 4 * h = omega (arith, f.state.whole.0) in
      let count : (s.stk - s.hea) / 4 ≡ k - h =
      omega (arith, f.state.whole.0, f.state.whole.1, f.state.order.1) in
      let front : length (cells_at bytes CELLS h) ≡ length (take h s.cells) =
      omega (
        arith,
        length-cells_at bytes CELLS h,
        length-take-le h s.cells (omega (arith, low, high)),
        low,
        high,
      ) in
      let dead : length (cells_at bytes (CELLS + 4 * h) (k - h))
      ≡ length (replicate (k - h) (pos 0)) =
      omega (arith, length-cells_at bytes (CELLS + 4 * h) (k - h), length-replicate (k - h) (pos 0))
      in
      let zeros : cells_at bytes (CELLS + 4 * h) (k - h) ≡ replicate (k - h) (pos 0) =
      middle s.cells (cells_at bytes CELLS h) (cells_at bytes (CELLS + 4 * h) (k - h))
      (cells_at bytes (CELLS + 4 * k) (n - k))
      (take h s.cells) (replicate (k - h) (pos 0)) (drop k s.cells) front dead
      (sym (parts bytes CELLS h k n low high) ∙ e ∙ sym swept_cells) in
      ap (λ q. are_zero (cells_at bytes q ((s.stk - s.hea) / 4))) place
      ∙ ap (λ m. are_zero (cells_at bytes (CELLS + 4 * h) m)) count
      ∙ ap are_zero zeros ∙ are_zero-replicate (k - h)

  live_length : length (take (s.hea / 4) s.cells ++ drop (s.stk / 4) s.cells)
      ≡ s.hea / 4 + (n - s.stk / 4)
  live_length =
      omega (
        arith,
        low,
        high,
        length-append (take (s.hea / 4) s.cells) (drop (s.stk / 4) s.cells),
        length-take-le (s.hea / 4) s.cells (omega (arith, low, high)),
        length-drop (s.stk / 4) s.cells,
      )

  whole_cells : v ≡ Whole → (length bytes ≡ CELLS + 4 * n) × (cells_at bytes CELLS n ≡ s.cells)
  whole_cells e =
      let it : IsImage Whole s p digest bytes = subst (λ u. IsImage u s p digest bytes) e i in
      (it.length_is, it.cells)

  count_there : (u : Version) → v ≡ u → has_count u n bytes ≡ true
  count_there Whole e =
      and_so (word_at bytes COUNT == n) (length bytes == CELLS + 4 * n)
      (eq-eqb (word_at bytes COUNT) n i.count)
      (eq-eqb (length bytes) (CELLS + 4 * n) (whole_cells e).0)
  count_there Live e = eq-eqb (word_at bytes COUNT) n i.count

  cells_there : (u : Version) → v ≡ u → has_cells u n s.hea s.stk bytes ≡ true
  cells_there Whole e = dead_are_zero (whole_cells e).1
  cells_there Live e =
      let it : IsImage Live s p digest bytes = subst (λ u. IsImage u s p digest bytes) e i in
      eq-eqb (length bytes) (CELLS + (s.hea + (4 * n - s.stk)))
      (omega (
        arith,
        it.length_is,
        live_length,
        f.state.whole.0,
        f.state.whole.1,
        f.state.order.1,
        f.state.order.2,
      ))

  has_all : has_cells v n (bits_of r.hea) (bits_of r.stk) bytes ≡ true
  has_all =
      ap (λ h. has_cells v n h (bits_of r.stk) bytes) hea_is
      ∙ ap (λ k. has_cells v n s.hea k bytes) stk_is ∙ cells_there v refl

  state_has_none : state_fault amx n v r bytes ≡ None
  unfolding state_fault
  state_has_none = rw (has_heap, has_stack, has_start, has_all) refl

  version_there : version_in bytes ≡ Some v
  version_there =
      ap (λ z. if z == 0 then version_of (half_at bytes VERSION) else None) i.zero_is
      ∙ ap version_of i.version_is ∙ version_back v

  behind_has_none : fault_behind amx n digest bytes (Some v) ≡ None
  unfolding fault_behind
  behind_has_none =
      passes (has_digest digest bytes) _ _
      ((bytes_eq-Decides (take 32 (drop DIGEST bytes)) digest).1 i.digest_is)
      (passes (has_count v n bytes) _ _ (count_there v refl) state_has_none)

  pub image_has_no_fault : first_fault amx n digest bytes ≡ None
  unfolding first_fault
  image_has_no_fault =
      isn't_hit (nat_lt (length bytes) CELLS) _ _
      (le-ltb (length bytes) CELLS (omega (arith, i.length_is)))
      (passes (has_magic bytes) _ _ ((bytes_eq-Decides (take 4 bytes) MAGIC).1 i.magic)
      (ap (fault_behind amx n digest bytes) version_there ∙ behind_has_none))

-- what the tests of registers and cells tell, at addresses that are the registers' bits
pub state_told : (amx : Amx) (count : ℕ) (version : Version) (r : Registers) (bytes : List ℕ)
    (hea stk cip : ℕ) (b : Bool)
    → hea ≡ bits_of r.hea → stk ≡ bits_of r.stk → cip ≡ bits_of r.cip
    → true ≡ is_heap (first_hea amx) hea → true ≡ is_stack count hea stk
    → true ≡ is_start amx.code cip → b ≡ has_cells version count hea stk bytes
    → state_fault amx count version r bytes ≡ (if not b then Some (cells_fault version) else None)
unfolding state_fault
state_told amx count version r bytes hea stk cip b e f g h k s c =
    let h' : true ≡ is_heap (first_hea amx) (bits_of r.hea) = h ∙ ap (is_heap (first_hea amx)) e in
    let k' : true ≡ is_stack count (bits_of r.hea) (bits_of r.stk) =
    k ∙ ap (λ n. is_stack count n stk) e ∙ ap (is_stack count (bits_of r.hea)) f in
    let s' : true ≡ is_start amx.code (bits_of r.cip) = s ∙ ap (is_start amx.code) g in
    let c' : b ≡ has_cells version count (bits_of r.hea) (bits_of r.stk) bytes =
    c ∙ ap (λ n. has_cells version count n stk bytes) e
    ∙ ap (λ n. has_cells version count (bits_of r.hea) n bytes) f in
    rw (← h', ← k', ← s', ← c') refl
