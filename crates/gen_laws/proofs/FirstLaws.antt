-- A machine at its start stands for the world in which a program begins.
use Rattle.std.proofs.Common.{◌≡◌, ◌+◌, ◌*◌, ◌^◌, ◌<◌, ◌≤◌, ℕ, zero, suc, ℤ, pos, List, [], ◌∷◌}
use Rattle.std.proofs.Common.{◌++◌, Option, None, Some, Bool, true, false, map, length, slice_get}
use Rattle.std.proofs.Common.{replicate, nat_le, refl, sym, ap, subst, ◌∙◌, arith, append-nil}
use Rattle.std.proofs.Common.{length-append, le-leb}
use Rattle.std.proofs.lemmas.Bool.{lt-leb}
use Rattle.std.proofs.lemmas.List.{length-replicate}
use Rattle.std.proofs.lemmas.List.Elements.{All-append, All-replicate}
use Rattle.std.specs.Prelude.{All}
use Rattle.pawn_cells.specs.Cells.{IsCell, bits_of}
use Rattle.pawn_meaning.specs.Program.{StaticObject, Program}
use Rattle.pawn_meaning.specs.Valid.{IsValidObject}
use Rattle.pawn_meaning.specs.Memory.{Memory, Object}
use Rattle.pawn_meaning.specs.World.{first_object, first_memory, first_world}
use Rattle.amx_ops.specs.declared.amx.Amx.{Amx}
use Rattle.amx_ops.specs.State.{State}
use Rattle.amx_ops.specs.Trace.{loaded, fresh, start_at, begun}
use Rattle.pawn_cells.proofs.CellLaws.{small_cell}
use Rattle.gen_sim.specs.Pieces.{Piece, Each, IsThere, AreThere, image, total, objects_from}
use Rattle.gen_sim.specs.Pieces.{automata_from, data_pieces}
use Rattle.gen_sim.specs.Mem.{row, Mem}
use Rattle.gen_sim.specs.View.{View, Laid, all_cells, kept, low}
use Rattle.gen_sim.specs.Stands.{Stands}
use Rattle.gen_sim.proofs.PieceLaws.{each_both, length_image}
use Rattle.gen_sim.proofs.ChangeLaws.{pushed_on, pushed_mem, there_row, image_row}
use Rattle.gen_laws.specs.FilesAgree.{IsFileOf}
use Rattle.gen_laws.proofs.FirstObjects.{first_of, no_states, none_at}

-- ---- the data are there

module _ (all : List Object) (m : Memory) (same : m.objects ≡ all) where
  objects_there : (k : ℕ) (objects : List StaticObject) → All IsValidObject objects
      → ((i : ℕ) (it : StaticObject) → slice_get objects i ≡ Some it
      → slice_get all (k + i) ≡ Some (first_object it)) → Each (IsThere m) (objects_from k objects)
  objects_there k [] valid at = tt
  objects_there k (it ∷ objects) valid at =
      let here : slice_get m.objects k ≡ Some (first_object it) =
      ap (λ (l : List Object). slice_get l k) same
      ∙ ap (λ n. slice_get all n) {x = k} {y = k + 0} (omega arith) ∙ at 0 it refl in (
        rw here (record { sizes_are = refl; count = (valid 0 it (omega arith)).count }),
        objects_there (k + 1) objects (λ i d h. valid (suc i) d (omega (arith, h)))
            (λ i x e. ap (λ n. slice_get all n) {x = k + 1 + i} {y = k + suc i} (omega arith)
            ∙ at (suc i) x e),
      )

automata_there : (m : Memory) (all a left : ℕ) → m.states ≡ no_states all → a + left ≤ all
    → Each (IsThere m) (automata_from a left)
automata_there m all a zero same h = tt
automata_there m all a (suc left) same h =
    let here : slice_get m.states a ≡ Some None =
    ap (λ (l : List (Option ℕ)). slice_get l a) same ∙ none_at all a (omega (arith, h)) in
    (rw here tt, automata_there m all (a + 1) left same (omega (arith, h)))

pub first_there : (program : Program) → All IsValidObject program.objects
    → AreThere (first_memory program) (data_pieces program)
first_there program valid =
    each_both (IsThere (first_memory program)) (objects_from 0 program.objects)
    (automata_from 0 (length program.automata))
    (objects_there (map first_object program.objects)
    (first_memory program) refl 0 program.objects valid
    (λ i it e. ap (λ n. slice_get (map first_object program.objects) n) {x = 0 + i} {y = i}
    (omega arith) ∙ first_of program.objects i it e))
    (automata_there (first_memory program) (length program.automata) 0
    (length program.automata) refl (omega arith))

-- ---- the first view

-- no call is alive, and nothing waits
abbrev pub first_view : View
first_view =
    record { frm = 0; needs = []; high = []; temps = 0; temps_before = 0; params = λ k slot. None }

first_laid : (program : Program) (room : ℕ) → 4 * all_cells program room < 2 ^ 31
    → Laid program room first_view
first_laid program room h = record {
  small = h;
  refs = λ slot r e. cc;
  none_above = λ k slot d. refl;
  marks = omega arith;
  frames_are = tt;
  frame_below = omega arith;
}

pub low_is : (program : Program) (room : ℕ) → low program room first_view ≡ data_pieces program
low_is program room = append-nil (data_pieces program)

-- ---- the start

module _ (program : Program) (amx : Amx) (entry : ℕ → ℕ) (is : IsFileOf program amx entry)
    (room : ℕ) (address : ℤ) where
  abbrev pieces : List Piece
  pieces = data_pieces program

  abbrev m : Memory
  m = first_memory program

  abbrev zeros : List ℤ
  zeros = replicate room (pos 0)

  abbrev begins : State
  begins = fresh amx address (loaded amx room)

  pub store_count : length amx.store ≡ kept program room
  store_count = ap length is.stored ∙ length_image m pieces (first_there program is.valid.objects)

  count : length begins.cells ≡ kept program room + room
  count = length-append amx.store zeros ∙ omega (arith, store_count, length-replicate room (pos 0))

  low_total : total (low program room first_view) ≡ kept program room
  low_total = ap total (low_is program room)

  mem_first : Mem (all_cells program room) (low program room first_view) [] [] m begins
  mem_first =
      let nil : zeros ++ [] ≡ zeros = append-nil zeros in
      let cells_are : image m (row (low program room first_view) (zeros ++ []) [])
      ≡ amx.store ++ zeros =
      image_row m (low program room first_view) (zeros ++ []) []
      ∙ ap (λ (l : List ℤ). image m (low program room first_view) ++ l)
      (append-nil (zeros ++ []) ∙ nil)
      ∙ ap (λ (ps : List Piece). image m ps ++ zeros) (low_is program room)
      ∙ ap (λ (l : List ℤ). l ++ zeros) (sym is.stored) in
      record {
        free = zeros;
        cells = sym cells_are;
        hea = omega (arith, store_count, low_total);
        stk = omega (arith, count, low_total, length-replicate room (pos 0));
        there =
            there_row m (low program room first_view) (zeros ++ []) []
            (subst (λ ps. AreThere m ps) (sym (low_is program room))
            (first_there program is.valid.objects)) tt;
        size = omega (arith, low_total, ap length nil, length-replicate room (pos 0));
        fits =
            All-append IsCell amx.store zeros is.cells
            (All-replicate IsCell room (pos 0) (small_cell 0 (omega arith)));
      }

  free_is : length mem_first.free ≡ room
  free_is = omega (arith, mem_first.size, low_total, length-append mem_first.free [])

  -- with the count of bytes and the return address pushed
  pub record Started : Type 0 where
    pub state : State
    pub is_it : start_at amx address [] (loaded amx room) ≡ Some state
    pub stands : Stands program room first_view (pos 0 ∷ pos 0 ∷ []) (bits_of address)
        (first_world program) (begun state)

  pub starts : 4 * all_cells program room < 2 ^ 31 → 2 ≤ room → Started
  starts small h =
      let zero_fits : IsCell (pos 0) = small_cell 0 (omega arith) in
      let one = pushed_on begins (pos 0) in
      let m1 = pushed_mem mem_first (pos 0) zero_fits (omega (arith, h, free_is)) in
      let free1 : 1 ≤ length m1.free =
      omega (arith, m1.size, low_total, length-append m1.free (pos 0 ∷ []), h) in
      let m2 = pushed_mem m1 (pos 0) zero_fits free1 in
      let e1 : nat_le (begins.hea + 4) begins.stk ≡ true =
      le-leb _ _ (omega (arith, mem_first.hea, mem_first.stk, free_is, h)) in
      let e2 : nat_le (one.hea + 4) one.stk ≡ true =
      le-leb _ _ (omega (arith, m1.hea, m1.stk, free1)) in
      record {
        state = pushed_on one (pos 0);
        is_it = rw (e1, e2) refl;
        stands = record {
          mem = m2;
          frame = refl;
          at = refl;
          said = refl;
          position = refl;
          needs = refl;
          most = omega arith;
          laid = first_laid program room small;
          params = λ k slot. refl;
          temps = refl;
        };
      }

  pub fails : room < 2 → start_at amx address [] (loaded amx room) ≡ None
  fails h = by_first (nat_le (begins.hea + 4) begins.stk) refl
    where
      by_first : (b : Bool) → nat_le (begins.hea + 4) begins.stk ≡ b
          → start_at amx address [] (loaded amx room) ≡ None
      by_first false e = rw e refl
      by_first true e =
          let one = pushed_on begins (pos 0) in
          let f : nat_le (one.hea + 4) one.stk ≡ false =
          lt-leb _ _ (omega (arith, mem_first.hea, mem_first.stk, free_is, h)) in
          rw (e, f) refl
