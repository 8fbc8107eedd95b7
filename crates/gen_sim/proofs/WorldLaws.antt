-- What the steps of a world do to the relation: reads, writes, copies, automata, and what the host
-- is shown.
use Rattle.std.proofs.Common.{◌≡◌, ◌+◌, ◌<◌, ◌≤◌, ℕ, zero, suc, ℤ, pos, List, [], ◌∷◌, ◌++◌, Option}
use Rattle.std.proofs.Common.{None, Some, Bool, true, false, length, slice_get, slice_set, refl}
use Rattle.std.proofs.Common.{sym, ap, subst, ◌∙◌, arith, length-append, nat_le, nat_lt}
use Rattle.std.proofs.Common.{if◌then◌else◌}
use Rattle.std.proofs.lemmas.Bool.{leb-true, ltb-true}
use Rattle.std.specs.Prelude.{All}
use Rattle.pawn_cells.specs.Cells.{IsCell}
use Rattle.pawn_meaning.specs.Program.{Program}
use Rattle.pawn_meaning.specs.Memory.{Memory, Object, Name, object_at, with_object, put, put_in}
use Rattle.pawn_meaning.specs.Memory.{write_cells, read_cell, cell_in, switched, needs_of}
use Rattle.pawn_meaning.specs.World.{World}
use Rattle.amx_ops.specs.State.{State}
use Rattle.amx_ops.specs.Moves.{Config}
use Rattle.gen_sim.specs.Pieces.{Piece, Thing, Automaton, IsSized, HasSized, HasState, IsThere}
use Rattle.gen_sim.specs.Pieces.{cells_in, object_cells, state_cell, state_cells, vectors}
use Rattle.gen_sim.specs.Places.{Placed}
use Rattle.gen_sim.specs.Mem.{Mem}
use Rattle.gen_sim.specs.View.{View, Laid, all_cells, low, PlacedIn, CellAt}
use Rattle.gen_sim.specs.Stands.{refers_at, Stands}
use Rattle.gen_sim.proofs.Lists.{get_same, got_in_rest, put-after, put_length, set_put, one_fits}
use Rattle.gen_sim.proofs.MemLaws.{Reads, mem_read, mem_there, mem_write, same_mem, count_cells}
use Rattle.gen_sim.proofs.ObjectLaws.{own_same, object_leaves, object_needs, object_heap}
use Rattle.gen_sim.proofs.ObjectLaws.{refers_same, with_state, state_leaves}

-- ---- what the world's steps are

-- an object that is there, with its sizes
pub record Found (m : Memory) (name : Name) (sizes : List ℕ) : Type 0 where
  pub object : Object
  pub is : object_at m name ≡ Some object
  pub sized : IsSized sizes object

pub found : (m : Memory) (name : Name) (sizes : List ℕ) → HasSized sizes (object_at m name)
    → Found m name sizes
found m name sizes h = by_object (object_at m name) refl h
  where
    by_object : (o : Option Object) → object_at m name ≡ o → HasSized sizes o → Found m name sizes
    by_object None e z = elim z [ ]
    by_object (Some x) e z = record { object = x; is = e; sized = z }

-- cells that were written
pub record Written (name : Name) (i : ℕ) (values : List ℤ) (m n : Memory) : Type 0 where
  pub object : Object
  pub is : object_at m name ≡ Some object
  pub inside : i + length values ≤ length object.cells
  pub new : n ≡ with_object name (record object { cells = put values i object.cells }) m

pub written : (name : Name) (i : ℕ) (values : List ℤ) (m n : Memory)
    → write_cells name i values m ≡ Some n → Written name i values m n
written name i values m n e = by_object (object_at m name) refl e
  where
    by_size : (x : Object) → object_at m name ≡ Some x → (b : Bool)
        → nat_le (i + length values) (length x.cells) ≡ b
        → (if b then Some (with_object name (record x { cells = put values i x.cells }) m)
        else None) ≡ Some n → Written name i values m n
    by_size x o true b z = record { object = x; is = o; inside = leb-true _ _ b; new = cc }
    by_size x o false b z = cc

    by_object : (o : Option Object) → object_at m name ≡ o → put_in name o i values m ≡ Some n
        → Written name i values m n
    by_object None o z = cc
    by_object (Some x) o z = by_size x o (nat_le (i + length values) (length x.cells)) refl z

-- a cell that was read
pub record WasRead (name : Name) (i : ℕ) (v : ℤ) (m : Memory) : Type 0 where
  pub object : Object
  pub is : object_at m name ≡ Some object
  pub value : slice_get object.cells i ≡ Some v

pub was_read : (name : Name) (i : ℕ) (v : ℤ) (m : Memory) → read_cell name i m ≡ Some v
    → WasRead name i v m
was_read name i v m e = by_object (object_at m name) refl e
  where
    by_object : (o : Option Object) → object_at m name ≡ o → cell_in o i ≡ Some v
        → WasRead name i v m
    by_object None o z = cc
    by_object (Some x) o z = record { object = x; is = o; value = z }

-- ---- in memory

module _ {N : ℕ} {low_ones : List Piece} {pending : List ℤ} {high : List Piece} {m : Memory}
    {s : State} (mem : Mem N low_ones pending high m s)
    {name : Name} {sizes : List ℕ} {first : ℕ}
    (p : Placed N low_ones high (Thing name sizes) first) where
  -- a cell that the world reads
  pub object_read : (i : ℕ) (v : ℤ) → read_cell name i m ≡ Some v
      → Reads s (first + (length (vectors sizes) + i)) v
  object_read i v e =
      let r = was_read name i v m e in
      mem_read mem p (length (vectors sizes) + i) v
      (rw r.is (got_in_rest (vectors sizes) r.object.cells i (Some v) r.value))

  -- an offset
  pub offset_read : (i : ℕ) (v : ℤ) → slice_get (vectors sizes) i ≡ Some v → Reads s (first + i) v
  offset_read i v e =
      let f = found m name sizes (mem_there mem p) in
      mem_read mem p i v (rw f.is (in_front (vectors sizes) f.object.cells i v e))
    where
      in_front : (b c : List ℤ) (i : ℕ) (v : ℤ) → slice_get b i ≡ Some v
          → slice_get (b ++ c) i ≡ Some v
      in_front [] c i v e = cc
      in_front (x ∷ b) c zero v e = e
      in_front (x ∷ b) c (suc i) v e = in_front b c i v e

  -- cells that the world writes
  pub object_write : (n : Memory) (i : ℕ) (values : List ℤ) → write_cells name i values m ≡ Some n
      → (t : State)
      → t.cells ≡ put values (first + (length (vectors sizes) + i)) s.cells → t.hea ≡ s.hea
      → t.stk ≡ s.stk → All IsCell values
      → Mem N low_ones pending high n t
  object_write n i values e t c f g fit =
      let r = written name i values m n e in
      let y : Object = record r.object { cells = put values i r.object.cells } in
      let z : IsSized sizes r.object = subst (λ o. HasSized sizes o) r.is (mem_there mem p) in
      let own = own_same m name y r.object r.is in
      let after : Memory = with_object name y m in
      let there : IsThere after (Thing name sizes) =
      rw own (record {
        sizes_are = z.sizes_are;
        count = put_length r.object.cells values i r.inside
            ∙ z.count;
      }) in
      let new_is : object_cells sizes (object_at after name)
      ≡ put values (length (vectors sizes) + i) (object_cells sizes (object_at m name)) =
      rw (own, r.is) (sym (put-after (vectors sizes) r.object.cells values i)) in
      let room_is : length (vectors sizes) + i + length values
      ≤ length (object_cells sizes (object_at m name)) =
      rw r.is (omega (arith, length-append (vectors sizes) r.object.cells, r.inside)) in
      subst (λ k. Mem N low_ones pending high k t) (sym r.new)
      (mem_write mem p after (object_leaves m name sizes y) there
      (length (vectors sizes) + i) values room_is new_is t c f g fit)

module _ {N : ℕ} {low_ones : List Piece} {pending : List ℤ} {high : List Piece} {m : Memory}
    {s : State} (mem : Mem N low_ones pending high m s)
    {a first : ℕ} (p : Placed N low_ones high (Automaton a) first) where
  -- an automaton's state
  pub state_read : (state : Option ℕ) → slice_get m.states a ≡ Some state
      → Reads s first (state_cell state)
  state_read state e =
      let r = mem_read mem p 0 (state_cell state) (rw e refl) in
      subst (λ k. Reads s k (state_cell state)) (omega arith) r

-- ---- in the relation

module _ (program : Program) (room : ℕ) {v : View} {pending : List ℤ} {p : ℕ} {w : World}
    {c : Config} (a : Stands program room v pending p w c) where
  -- other cells wait, and the memory has other objects: frames and parameters stay
  pub stands_anew : (high : List Piece) (temps : ℕ) {more : List ℤ} {q turns : ℕ} {m : Memory}
      {t : State} → let u : View = record v { high = high; temps = temps } in
      Mem (all_cells program room) (low program room u) more high m t → t.frm ≡ c.state.frm
      → t.cip ≡ q → Laid program room u → needs_of m.frames ≡ needs_of w.memory.frames
      → ((k slot : ℕ) → refers_at k slot m ≡ refers_at k slot w.memory) → length m.heap ≡ temps
      → Stands program room u more q (record w { memory = m; turns = turns })
      (record c { state = t })
  stands_anew high temps mem frame at laid needs refers heap = record {
    mem = mem;
    frame = frame ∙ a.frame;
    at = at;
    said = a.said;
    position = a.position;
    needs = needs ∙ a.needs;
    most = a.most;
    laid = laid;
    params = λ k slot. refers k slot ∙ a.params k slot;
    temps = heap;
  }

  -- the memory has the same objects
  pub stands_still : {more : List ℤ} {q turns : ℕ} {t : State}
      → Mem (all_cells program room) (low program room v) more v.high w.memory t
      → t.frm ≡ c.state.frm → t.cip ≡ q
      → Stands program room v more q (record w { turns = turns }) (record c { state = t })
  stands_still mem frame at =
      stands_anew v.high v.temps mem frame at a.laid refl (λ k slot. refl) a.temps

  -- registers alone are changed
  pub stands_on : (q : ℕ) (t : State) → t.cells ≡ c.state.cells → t.hea ≡ c.state.hea
      → t.stk ≡ c.state.stk → t.frm ≡ c.state.frm → t.cip ≡ q
      → Stands program room v pending q w (record c { state = t })
  stands_on q t e f g h i = stands_still (same_mem a.mem t e f g) h i

  -- the value of a cell is at its address
  pub cell_reads : {name : Name} {i cell : ℕ} → CellAt program room v name i cell → (x : ℤ)
      → read_cell name i w.memory ≡ Some x
      → Reads c.state cell x
  cell_reads {name} {i} {cell} at x e =
      subst (λ k. Reads c.state k x) (omega (arith, at.cell_is)) (object_read a.mem at.placed i x e)

  -- and a write of cells is a write from its address on
  pub cells_written : {name : Name} {i cell : ℕ} → CellAt program room v name i cell
      → (values : List ℤ) → All IsCell values → (n : Memory)
      → write_cells name i values w.memory ≡ Some n → (q : ℕ) (t : State)
      → t.cells ≡ put values cell c.state.cells → t.hea ≡ c.state.hea
      → t.stk ≡ c.state.stk → t.frm ≡ c.state.frm → t.cip ≡ q
      → Stands program room v pending q (record w { memory = n }) (record c { state = t })
  cells_written {name} {i} {cell} at values fit n e q t f g h j k =
      let r = written name i values w.memory n e in
      let y : Object = record r.object { cells = put values i r.object.cells } in
      let there : first_of at ≡ cell = omega (arith, at.cell_is) in
      stands_anew v.high v.temps
      (object_write a.mem at.placed n i values e t
      (f ∙ ap (λ z. put values z c.state.cells) (sym there)) g h fit) j k a.laid
      (subst (λ z. needs_of z.frames ≡ needs_of w.memory.frames) (sym r.new)
      (object_needs w.memory name y))
      (λ b slot. subst (λ z. refers_at b slot z ≡ refers_at b slot w.memory) (sym r.new)
      (refers_same w.memory name y r.object b slot r.is))
      (subst (λ z. length z.heap ≡ v.temps) (sym r.new) (object_heap w.memory name y ∙ a.temps))
    where
      first_of : CellAt program room v name i cell → ℕ
      first_of at = at.first + (length (vectors at.sizes) + i)

  -- one cell
  pub cell_written : {name : Name} {i cell : ℕ} → CellAt program room v name i cell → (x : ℤ)
      → IsCell x → (n : Memory)
      → write_cells name i (x ∷ []) w.memory ≡ Some n → cell < all_cells program room
      → (q : ℕ) (t : State) → t.cells ≡ slice_set c.state.cells cell x
      → t.hea ≡ c.state.hea → t.stk ≡ c.state.stk → t.frm ≡ c.state.frm → t.cip ≡ q
      → Stands program room v pending q (record w { memory = n }) (record c { state = t })
  cell_written {name} {i} {cell} at x fit n e below q t f g h j k =
      cells_written at (x ∷ []) (one_fits x fit) n e q t
      (f ∙ set_put c.state.cells cell x (omega (arith, below, count_cells a.mem))) g h j k

  -- an automaton goes to a state: its cell is one more
  pub state_written : (automaton state first : ℕ)
      → PlacedIn program room v (Automaton automaton) first → (n : Memory)
      → switched automaton state w.memory ≡ Some n → state + 1 < 2147483648 → (q : ℕ) (t : State)
      → t.cells ≡ put (pos (state + 1) ∷ []) first c.state.cells
      → t.hea ≡ c.state.hea → t.stk ≡ c.state.stk → t.frm ≡ c.state.frm → t.cip ≡ q
      → Stands program room v pending q (record w { memory = n }) (record c { state = t })
  state_written automaton state first at n e small q t f g h j k =
      by_there (nat_lt automaton (length w.memory.states)) refl e
    where
      by_old : (o : Option (Option ℕ)) → slice_get w.memory.states automaton ≡ o → HasState o
          → length (state_cells o) ≡ 1
      by_old None e z = elim z [ ]
      by_old (Some state) e z = refl

      put_one : (xs : List ℤ) (x : ℤ) → length xs ≡ 1 → put (x ∷ []) 0 xs ≡ x ∷ []
      put_one [] x h = absurd (omega (arith, h))
      put_one (y ∷ []) x h = refl
      put_one (y ∷ z ∷ xs) x h = absurd (omega (arith, h))

      by_there : (b : Bool) → nat_lt automaton (length w.memory.states) ≡ b
          → (if b then Some (with_state automaton state w.memory) else None) ≡ Some n
          → Stands program room v pending q (record w { memory = n }) (record c { state = t })
      by_there false b z = cc
      by_there true b z =
          let new : Memory = with_state automaton state w.memory in
          let same : n ≡ new = cc in
          let got : slice_get new.states automaton ≡ Some (Some state) =
          get_same w.memory.states automaton (Some state) (ltb-true _ _ b) in
          let one = by_old (slice_get w.memory.states automaton) refl (mem_there a.mem at) in
          let there : IsThere new (Automaton automaton) = rw got tt in
          let cells_are : cells_in new (Automaton automaton)
          ≡ put (pos (state + 1) ∷ []) 0 (cells_in w.memory (Automaton automaton)) =
          rw got (sym (put_one (cells_in w.memory (Automaton automaton)) (pos (state + 1)) one)) in
          let zero_more : first + 0 ≡ first = omega arith in
          subst (λ y. Stands program room v pending q (record w { memory = y })
          (record c { state = t })) (sym same)
          (stands_anew v.high v.temps (mem_write a.mem at new
          (state_leaves w.memory automaton state) there 0
          (pos (state + 1) ∷ []) (omega (arith, one)) cells_are t
          (f ∙ ap (λ z. put (pos (state + 1) ∷ []) z c.state.cells) (sym zero_more)) g h
          (one_fits (pos (state + 1)) (record { sfits = omega (arith, small) })))
          j k a.laid refl (λ b slot. refl) a.temps)
