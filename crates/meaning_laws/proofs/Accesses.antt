-- What reads and writes find in a memory of an outline.
use Rattle.std.proofs.Common.{◌≡◌, ◌∙◌, ◌++◌, ◌+◌, ◌-◌, ◌<◌, ◌≤◌, ◌==◌, ◌&&◌, ◌%◌, ℕ, zero, suc, ℤ}
use Rattle.std.proofs.Common.{pos}
use Rattle.std.proofs.Common.{List, [], ◌∷◌, true, Option, None, Some, length, slice_get, take}
use Rattle.std.proofs.Common.{drop, refl, sym, ap, subst, arith, length-append, length-set}
use Rattle.std.proofs.Common.{if◌then◌else◌, nat_le}
use Rattle.std.specs.Prelude.{slice_set}
use Rattle.std.proofs.lemmas.Bool.{lt-ltb, le-leb, eq-eqb}
use Rattle.std.proofs.lemmas.List.{length-take-le, length-drop}
use Rattle.std.proofs.lemmas.Option.{slice_get-get_or}
use Rattle.pawn_cells.specs.Cells.{with_char, bits_of}
use Rattle.pawn_arrays.specs.Sizes.{elements_in}
use Rattle.pawn_meaning.specs.Program.{Program}
use Rattle.pawn_meaning.specs.Memory.{Object, Name, Static, Local, Temporary, Reference, Owns}
use Rattle.pawn_meaning.specs.Memory.{Frame, Memory, frame_at, with_frame_at, slot_in}
use Rattle.pawn_meaning.specs.Memory.{pointed, with_slot, with_object, cells_from, one_cell}
use Rattle.pawn_meaning.specs.Memory.{read_cells, put, put_in, write_cells, Place, Cell, Character}
use Rattle.pawn_meaning.specs.Memory.{cell_in, read_cell, as_character, read, write_character}
use Rattle.pawn_meaning.specs.Memory.{write}
use Rattle.pawn_meaning.specs.Memory.{copy_of, copied, running, part_of, whole_of, through}
use Rattle.pawn_meaning.specs.Memory.{made_in, made, with_temporary, cut_heap, switched}
use Rattle.pawn_meaning.specs.World.{but_first}
use Rattle.meaning_laws.proofs.Outlines.{states}
use Rattle.meaning_laws.proofs.Outlines.{Each, each_length, each_get, each_set_both, each_append}
use Rattle.meaning_laws.proofs.Outlines.{each_front, Drawn, Keeps, Leads, ObjectIs, HoldsIs}
use Rattle.meaning_laws.proofs.Outlines.{FrameIs}
use Rattle.meaning_laws.proofs.Outlines.{Outline, frame_in, FrameThere, frame_there}
use Rattle.meaning_laws.proofs.Outlines.{sizes_at, Has, alive, with_alive, pointed_by}

-- what is there stays there with more behind it
pub there_before : {X : Type 0} (xs us : List X) (i : ℕ) (x : X) → slice_get xs i ≡ Some x
    → slice_get (xs ++ us) i ≡ Some x
there_before [] us i x e = absurd (cc e)
there_before (y ∷ xs) us zero x e = e
there_before (y ∷ xs) us (suc i) x e = there_before xs us i x e

-- and what comes next stands behind it
pub there_last : {X : Type 0} (xs : List X) (x : X) → slice_get (xs ++ x ∷ []) (length xs) ≡ Some x
there_last [] x = refl
there_last (y ∷ xs) x = there_last xs x

-- an outline with a frame that runs
abbrev pub lay : List Drawn → List (List Drawn) → List (List ℕ) → Outline
lay current outer heap = record { frames = current ∷ outer; heap = heap }

-- with one more temporary argument
abbrev pub grown : List (List ℕ) → List (List ℕ)
grown heap = heap ++ (1 ∷ []) ∷ []

pub innermost : (current : List Drawn) (outer : List (List Drawn))
    → frame_in (current ∷ outer) (length outer) ≡ Some current
innermost current outer =
    ap (λ b. if b then Some current else frame_in outer (length outer))
    (eq-eqb (length outer) (length outer) refl)

put_length : (values : List ℤ) (i : ℕ) (cells : List ℤ) → i + length values ≤ length cells
    → length (put values i cells) ≡ length cells
put_length values i cells h =
    let a = length-append (take i cells) (values ++ drop (i + length values) cells) in
    let b = length-append values (drop (i + length values) cells) in
    let c = length-take-le i cells (omega (arith, h)) in
    let d = length-drop (i + length values) cells in
    omega (arith, a, b, c, d, h)

module _ (program : Program) where
  abbrev Known : Outline → Memory → Type 0
  Known l m = Has program l m

  abbrev At : Outline → Name → List ℕ → Type 0
  At l name sizes = sizes_at program l name ≡ Some sizes

  -- a reference to a part of an object that is alive
  pub record IsFine (l : Outline) (r : Reference) : Type 0 where
    pub sizes : List ℕ
    pub there : sizes_at program l r.object ≡ Some sizes
    pub inside : r.at + elements_in r.sizes ≤ elements_in sizes

  -- a cell of one
  pub record IsCellOf (l : Outline) (name : Name) (i : ℕ) : Type 0 where
    pub sizes : List ℕ
    pub there : sizes_at program l name ≡ Some sizes
    pub inside : i < elements_in sizes

  abbrev pub IsPlaceOf : Outline → Place → Type 0
  IsPlaceOf l (Cell name i) = IsCellOf l name i
  IsPlaceOf l (Character name i k) = IsCellOf l name i

  -- ---- cells

  -- a change that is done
  abbrev pub Done : Outline → Option Memory → Type 0
  Done l o = (x : Memory) × (o ≡ Some x) × Has program l x

  pub cells_written : (l : Outline) (m : Memory) (name : Name) (sizes : List ℕ) (i : ℕ) (values : List ℤ)
      → Known l m → At l name sizes → i + length values ≤ elements_in sizes
      → Done l (write_cells name i values m)
  cells_written l m name sizes i values h e within =
      let it = alive program l m name sizes h e in
      let count = it.2.1 in
      let inside : i + length values ≤ length it.0.cells = omega (arith, within, count) in
      let other : Object = record (it.0) { cells = put values i it.0.cells } in
      let x = with_object name other m in (
        x,
        ap (λ o. put_in name o i values m) it.1
            ∙ ap (λ b. if b then Some x else None) (le-leb (i + length values) (length it.0.cells) inside),
        with_alive program l m name sizes other h e
            (it.2.0, put_length values i it.0.cells inside ∙ count),
      )

  pub cells_are : (l : Outline) (m : Memory) (name : Name) (sizes : List ℕ) (i n : ℕ) → Known l m
      → At l name sizes → i + n ≤ elements_in sizes
      → (cells : List ℤ) × (read_cells name i n m ≡ Some cells) × (length cells ≡ n)
  cells_are l m name sizes i n h e within =
      let it = alive program l m name sizes h e in
      let count = it.2.1 in
      let inside : i + n ≤ length it.0.cells = omega (arith, within, count) in
      let rest = length-drop i it.0.cells in (
        take n (drop i it.0.cells),
        ap (λ o. cells_from o i n) it.1
            ∙ ap (λ b. if b then Some (take n (drop i it.0.cells)) else None)
            (le-leb (i + n) (length it.0.cells) inside),
        length-take-le n (drop i it.0.cells) (omega (arith, inside, rest)),
      )

  cell_read : (l : Outline) (m : Memory) (name : Name) (i : ℕ) → Known l m → IsCellOf l name i
      → (v : ℤ) × (read_cell name i m ≡ Some v)
  cell_read l m name i h f =
      let it = alive program l m name f.sizes h f.there in
      let count = it.2.1 in
      let inside = f.inside in (
        _,
        ap (λ o. cell_in o i) it.1
            ∙ slice_get-get_or it.0.cells i (pos 0) (omega (arith, inside, count)),
      )

  pub is_read : (l : Outline) (m : Memory) (at : Place) → Known l m → IsPlaceOf l at
      → (v : ℤ) × (read at m ≡ Some v)
  is_read l m (Cell name i) h f = cell_read l m name i h f
  is_read l m (Character name i k) h f =
      let it = cell_read l m name i h f in (_, ap (as_character k) it.1)

  cell_written : (l : Outline) (m : Memory) (name : Name) (i : ℕ) (v : ℤ) → Known l m
      → IsCellOf l name i → Done l (write_cells name i (v ∷ []) m)
  cell_written l m name i v h f =
      let inside = f.inside in
      cells_written l m name f.sizes i (v ∷ []) h f.there (omega (arith, inside))

  pub is_written : (l : Outline) (m : Memory) (at : Place) (v : ℤ) → Known l m → IsPlaceOf l at
      → Done l (write at v m)
  is_written l m (Cell name i) v h f = cell_written l m name i v h f
  is_written l m (Character name i k) v h f =
      let it = cell_read l m name i h f in
      subst (λ o. Done l (write_character name i k v o m)) (sym it.1)
      (cell_written l m name i (with_char it.0 k (bits_of v % 256)) h f)

  pub is_copied : (l : Outline) (m : Memory) (to from : Reference) (n : ℕ) → Known l m → IsFine l to
      → IsFine l from → n ≤ elements_in to.sizes → n ≤ elements_in from.sizes
      → Done l (copied to from n m)
  is_copied l m to from n h f g a b =
      let there = f.inside in
      let here = g.inside in
      let it = cells_are l m from.object g.sizes from.at n h g.there (omega (arith, here, b)) in
      let count = it.2 in
      let x : Done l (copy_of (read_cells from.object from.at n m) to.object to.at m) =
      subst (λ o. Done l (copy_of o to.object to.at m)) (sym it.1)
      (cells_written l m to.object f.sizes to.at it.0 h f.there (omega (arith, there, a, count))) in (
        x.0,
        ap (λ c. if c && nat_le n (elements_in from.sizes)
            then copy_of (read_cells from.object from.at n m) to.object to.at m else None)
            (le-leb n (elements_in to.sizes) a)
            ∙ ap (λ c. if c
            then copy_of (read_cells from.object from.at n m) to.object to.at m else None)
            (le-leb n (elements_in from.sizes) b)
            ∙ x.1,
        x.2,
      )

  -- ---- parts

  abbrev pub whole_part : Name → List ℕ → Reference
  whole_part name sizes = record { object = name; at = 0; sizes = sizes }

  pub is_whole : (l : Outline) (m : Memory) (name : Name) (sizes : List ℕ) → Known l m → At l name sizes
      → whole_of name m ≡ Some (whole_part name sizes)
  is_whole l m name sizes h e =
      let it = alive program l m name sizes h e in
      ap (part_of name) it.1 ∙ ap (λ z. Some (whole_part name z)) it.2.0

  pub whole_fine : (l : Outline) (name : Name) (sizes : List ℕ) → At l name sizes
      → IsFine l (whole_part name sizes)
  whole_fine l name sizes e = record { sizes = sizes; there = e; inside = omega arith }

  -- ---- the frame that runs

  pub runs_at : (current : List Drawn) (outer : List (List Drawn)) (heap : List (List ℕ)) (m : Memory)
      → Known (lay current outer heap) m → running m ≡ length outer
  runs_at current outer heap m h =
      let e = each_length FrameIs (current ∷ outer) m.frames h.frames_are in
      let count : length (current ∷ outer) ≡ length outer + 1 = omega arith in
      omega (arith, e, count)

  leads_by : (current : List Drawn) (d : Option (List Drawn)) → d ≡ Some current → (o : Option Frame)
      → (s : ℕ) (r : Reference) → FrameThere d o → slice_get current s ≡ Some (Leads r)
      → pointed (slot_in o s) ≡ Some r
  leads_by current None de o s r h e = absurd (cc de)
  leads_by current (Some drawn) de o s r h e =
      let same : drawn ≡ current = cc de in
      let it = each_get HoldsIs drawn h.0.slots s (Leads r) h.2 (ap (λ c. slice_get c s) same ∙ e) in
      pointed_by r (slot_in o s) it.0 (ap (λ p. slot_in p s) h.1 ∙ it.1) it.2

  pub is_led : (current : List Drawn) (outer : List (List Drawn)) (heap : List (List ℕ)) (m : Memory)
      (s : ℕ) (r : Reference) → Known (lay current outer heap) m → slice_get current s ≡ Some (Leads r)
      → through s m ≡ Some r
  is_led current outer heap m s r h e =
      subst (λ n. pointed (slot_in (frame_at m.frames n) s) ≡ Some r)
      (sym (runs_at current outer heap m h))
      (leads_by current (frame_in (current ∷ outer) (length outer)) (innermost current outer)
      (frame_at m.frames (length outer)) s r
      (frame_there (current ∷ outer) m.frames (length outer) h.frames_are) e)

  made_on : (current : List Drawn) (outer : List (List Drawn)) (heap : List (List ℕ)) (m : Memory)
      (frames : List Frame) (s : ℕ) (sizes : List ℕ) (object : Object)
      → Known (lay current outer heap) (record m { frames = frames }) → s < length current
      → ObjectIs sizes object
      → Done (lay (slice_set current s (Keeps sizes)) outer heap)
      (made s object (record m { frames = frames }))
  made_on current outer heap m [] s sizes object h within it = absurd (h.frames_are)
  made_on current outer heap m (frame ∷ frames) s sizes object h within it =
      let l = lay (slice_set current s (Keeps sizes)) outer heap in
      let y : Memory = record m { frames = frame ∷ frames } in
      let below = length frames in
      let other : Frame = record frame { slots = slice_set frame.slots s (Owns object) } in
      let count : length (frame ∷ frames) - 1 ≡ below = omega arith in
      let is : (below == below) ≡ true = eq-eqb below below refl in
      let slots = each_length HoldsIs current frame.slots h.frames_are.0 in
      let x = with_slot (Some frame) below s (Owns object) y in
      let all : Each FrameIs l.frames
      (if below == below then other ∷ frames else frame ∷ with_frame_at frames below other) =
      subst (λ b. Each FrameIs l.frames
      (if b then other ∷ frames else frame ∷ with_frame_at frames below other)) (sym is) (
        each_set_both HoldsIs current frame.slots s (Keeps sizes) (Owns object) h.frames_are.0 it,
        h.frames_are.1,
      ) in
      subst (λ n. Done l (made_in (frame_at (frame ∷ frames) n) n s object y)) (sym count)
      (subst (λ b. Done l (made_in (if b then Some frame else frame_at frames below) below s object y))
      (sym is) (
        x,
        ap (λ b. if b then Some x else None)
            (lt-ltb s (length frame.slots) (omega (arith, within, slots))),
        record {
          objects_are = h.objects_are;
          frames_are = all;
          heap_is = h.heap_is;
          states_are = h.states_are;
        },
      ))

  pub is_made : (current : List Drawn) (outer : List (List Drawn)) (heap : List (List ℕ)) (m : Memory)
      (s : ℕ) (sizes : List ℕ) (object : Object) → Known (lay current outer heap) m
      → s < length current → ObjectIs sizes object
      → Done (lay (slice_set current s (Keeps sizes)) outer heap) (made s object m)
  is_made current outer heap m s sizes object h within it =
      made_on current outer heap m m.frames s sizes object h within it

  -- ---- temporary arguments, automata, and calls

  pub grows : (l : Outline) (m : Memory) (v : ℤ) → Known l m
      → Known (record l { heap = grown l.heap }) (with_temporary v m)
  grows l m v h = record {
    objects_are = h.objects_are;
    frames_are = h.frames_are;
    heap_is =
        each_append ObjectIs l.heap m.heap ((1 ∷ []) ∷ []) (one_cell v ∷ []) h.heap_is
        ((refl, refl), tt);
    states_are = h.states_are;
  }

  pub cuts : (l : Outline) (m : Memory) (more : List (List ℕ)) → Known (record l { heap = l.heap ++ more }) m
      → (n : ℕ) → n ≡ length l.heap → Known l (cut_heap n m)
  cuts l m more h n e = record {
    objects_are = h.objects_are;
    frames_are = h.frames_are;
    heap_is = subst (λ k. Each ObjectIs l.heap (take k m.heap)) (sym e)
        (each_front ObjectIs l.heap more m.heap h.heap_is);
    states_are = h.states_are;
  }

  pub heap_count : (l : Outline) (m : Memory) → Known l m → length m.heap ≡ length l.heap
  heap_count l m h = sym (each_length ObjectIs l.heap m.heap h.heap_is)

  pub switches : (l : Outline) (m : Memory) (automaton state : ℕ)
      → automaton < states program → Known l m
      → Done l (switched automaton state m)
  switches l m automaton state within h =
      let count = h.states_are in
      let set = slice_set m.states automaton (Some state) in
      let x : Memory = record m { states = set } in (
        x,
        ap (λ b. if b then Some x else None)
            (lt-ltb automaton (length m.states) (omega (arith, within, count))),
        record {
          objects_are = h.objects_are;
          frames_are = h.frames_are;
          heap_is = h.heap_is;
          states_are = length-set m.states automaton (Some state) ∙ count;
        },
      )

  pub enters : (l : Outline) (m : Memory) (drawn : List Drawn) (frame : Frame) → Known l m
      → FrameIs drawn frame
      → Known (record l { frames = drawn ∷ l.frames }) (record m { frames = frame ∷ m.frames })
  enters l m drawn frame h f = record {
    objects_are = h.objects_are;
    frames_are = (f, h.frames_are);
    heap_is = h.heap_is;
    states_are = h.states_are;
  }

  behind_first : (drawn : List Drawn) (outer : List (List Drawn)) (frames : List Frame)
      → Each FrameIs (drawn ∷ outer) frames → Each FrameIs outer (but_first frames)
  behind_first drawn outer [] h = absurd h
  behind_first drawn outer (frame ∷ frames) h = h.1

  pub leaves : (current : List Drawn) (outer : List (List Drawn)) (heap : List (List ℕ)) (m : Memory)
      → Known (lay current outer heap) m
      → Known (record { frames = outer; heap = heap }) (record m { frames = but_first m.frames })
  leaves current outer heap m h = record {
    objects_are = h.objects_are;
    frames_are = behind_first current outer m.frames h.frames_are;
    heap_is = h.heap_is;
    states_are = h.states_are;
  }

  -- ---- outlines one after another

  -- each object stays, with its sizes
  abbrev pub Stays : Outline → Outline → Type 0
  Stays l k = (name : Name) (sizes : List ℕ) → sizes_at program l name ≡ Some sizes
      → sizes_at program k name ≡ Some sizes

  pub fine_stays : (l k : Outline) (r : Reference) → Stays l k → IsFine l r → IsFine k r
  fine_stays l k r stays f = record {
    sizes = f.sizes;
    there = stays r.object f.sizes f.there;
    inside = f.inside;
  }

  pub more_stays : (l : Outline) (more : List (List ℕ)) → Stays l (record l { heap = l.heap ++ more })
  more_stays l more (Static o) sizes e = e
  more_stays l more (Local below s) sizes e = e
  more_stays l more (Temporary n) sizes e = there_before l.heap more n sizes e
