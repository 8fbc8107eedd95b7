-- How a memory's row changes: pushes and pops, locals made and left, a temporary argument made and
-- given back, a frame made and left.
use Rattle.std.proofs.Common.{◌≡◌, ◌+◌, ◌*◌, ◌-◌, ◌/◌, ◌<◌, ◌≤◌, ℕ, ℤ, pos, List, [], ◌∷◌, ◌++◌}
use Rattle.std.proofs.Common.{Some, true, false, length, take, drop, slice_set, get_or, refl, sym}
use Rattle.std.proofs.Common.{ap, subst, ◌∙◌, arith, append_assoc, append-nil, length-append}
use Rattle.std.proofs.Common.{nat_le, nat_lt, le-leb, lt-ltb}
use Rattle.std.proofs.lemmas.List.{length-take-le, length-drop, get_or-append-add}
use Rattle.std.proofs.lemmas.Bool.{lt-leb}
use Rattle.std.specs.Prelude.{All}
use Rattle.pawn_cells.specs.Cells.{IsCell}
use Rattle.pawn_meaning.specs.Memory.{Memory, Object, Local, Owns, Frame, object_at, with_object}
use Rattle.pawn_meaning.specs.Memory.{put, frame_at, owned, with_temporary}
use Rattle.amx_ops.specs.State.{State, Turned, Errs, stp, cell_at, push, pop, with_margin}
use Rattle.gen_sim.specs.Pieces.{Piece, Fixed, Thing, Each, IsSized, IsThere, AreThere, image}
use Rattle.gen_sim.specs.Pieces.{total, vectors}
use Rattle.gen_sim.specs.Places.{Apart}
use Rattle.gen_sim.specs.View.{IsOf}
use Rattle.gen_sim.specs.Mem.{row, Mem}
use Rattle.gen_sim.proofs.Lists.{get_same, all_dropped, take_drop, set_put, put-after, put-before}
use Rattle.gen_sim.proofs.Lists.{put_fits, one_fits}
use Rattle.gen_sim.proofs.FrameLaws.{frame_same, put_slot}
use Rattle.gen_sim.proofs.PieceLaws.{each_first, each_rest, each_both, image_left, there_left}
use Rattle.gen_sim.proofs.PieceLaws.{image-append, length_image, total-append}
use Rattle.gen_sim.proofs.ObjectLaws.{object_leaves, temporary_leaves, temporary_is, next_temporary}
use Rattle.gen_sim.proofs.ObjectLaws.{frame_leaves, unframe_leaves, with_frame}
use Rattle.gen_sim.proofs.MemLaws.{count_cells}

-- ---- the cells between low and high

pub there_low : (m : Memory) (low : List Piece) (between : List ℤ) (high : List Piece)
    → AreThere m (row low between high) → AreThere m low
there_low m low between high z = each_first (IsThere m) low (Fixed between ∷ high) z

pub there_high : (m : Memory) (low : List Piece) (between : List ℤ) (high : List Piece)
    → AreThere m (row low between high) → AreThere m high
there_high m low between high z = (each_rest (IsThere m) low (Fixed between ∷ high) z).1

pub there_row : (m : Memory) (low : List Piece) (between : List ℤ) (high : List Piece)
    → AreThere m low → AreThere m high
    → AreThere m (row low between high)
there_row m low between high a b = each_both (IsThere m) low (Fixed between ∷ high) a (tt, b)

pub image_row : (m : Memory) (low : List Piece) (between : List ℤ) (high : List Piece)
    → image m (row low between high) ≡ image m low ++ (between ++ image m high)
image_row m low between high = image-append m low (Fixed between ∷ high)

between_put : (m : Memory) (low : List Piece) (between : List ℤ) (high : List Piece) (i : ℕ)
    (vs : List ℤ) → AreThere m low
    → i + length vs ≤ length between → put vs (total low + i) (image m (row low between high))
    ≡ image m (row low (put vs i between) high)
between_put m low between high i vs z h =
    rw (
      image_row m low between high,
      image_row m low (put vs i between) high,
      sym (length_image m low z),
    )
    (put-after (image m low) (between ++ image m high) vs i
    ∙ ap (λ l. image m low ++ l) (put-before between (image m high) vs i h))

at_end : (xs ys : List ℤ) → get_or (xs ++ ys) (length xs) (pos 0) ≡ get_or ys 0 (pos 0)
at_end xs ys =
    let e : length xs ≡ length xs + 0 = omega arith in rw e (get_or-append-add xs ys 0 (pos 0))

between_get : (m : Memory) (low : List Piece) (before : List ℤ) (v : ℤ) (after : List ℤ)
    (high : List Piece) → AreThere m low
    → get_or (image m (row low (before ++ v ∷ after) high)) (total low + length before) (pos 0) ≡ v
between_get m low before v after high z =
    rw (
      image_row m low (before ++ v ∷ after) high,
      append_assoc before (v ∷ after) (image m high),
      sym (length_image m low z),
    )
    (get_or-append-add (image m low) (before ++ (v ∷ after ++ image m high)) (length before) (pos 0)
    ∙ at_end before (v ∷ after ++ image m high))

-- ---- pushes and pops

abbrev pub pushed_on : State → ℤ → State
pushed_on s v = record s { stk = s.stk - 4; cells = slice_set s.cells ((s.stk - 4) / 4) v }

module _ {N : ℕ} {low : List Piece} {pending : List ℤ} {high : List Piece} {m : Memory} {s : State}
    (mem : Mem N low pending high m s) where
  -- a push is refused exactly where no cell is free
  pub push_goes : (v : ℤ) (go : State → Turned) → 1 ≤ length mem.free
      → push s v go ≡ go (pushed_on s v)
  push_goes v go h =
      let e : nat_le (s.hea + 4) s.stk ≡ true = le-leb _ _ (omega (arith, mem.stk, mem.hea)) in
      rw e refl

  pub push_errs : (v : ℤ) (go : State → Turned) → length mem.free ≡ 0 → push s v go ≡ Errs (pos 3)
  push_errs v go h =
      let e : nat_le (s.hea + 4) s.stk ≡ false = lt-leb _ _ (omega (arith, mem.stk, mem.hea)) in
      rw e refl

  -- and the margin where fewer than 16 are
  pub margin_goes : (go : State → Turned) → 16 ≤ length mem.free → with_margin s go ≡ go s
  margin_goes go h =
      let e : nat_le (s.hea + 64) s.stk ≡ true = le-leb _ _ (omega (arith, mem.stk, mem.hea)) in
      rw e refl

  pub margin_errs : (go : State → Turned) → length mem.free < 16 → with_margin s go ≡ Errs (pos 3)
  margin_errs go h =
      let e : nat_le (s.hea + 64) s.stk ≡ false = lt-leb _ _ (omega (arith, mem.stk, mem.hea)) in
      rw e refl

  last_put : (v : ℤ) → 1 ≤ length mem.free
      → put (v ∷ []) (length mem.free - 1) (mem.free ++ pending)
      ≡ take (length mem.free - 1) mem.free ++ (v ∷ pending)
  last_put v h =
      let n : ℕ = length mem.free - 1 in
      let e : drop (n + 1) mem.free ≡ [] = all_dropped mem.free (n + 1) (omega (arith, h)) in
      put-before mem.free pending (v ∷ []) n (omega (arith, h))
      ∙ rw e (append_assoc (take n mem.free) (v ∷ []) pending)

  pub pushed_mem : (v : ℤ) → IsCell v → 1 ≤ length mem.free
      → Mem N low (v ∷ pending) high m (pushed_on s v)
  pushed_mem v vf h =
      let n : ℕ = length mem.free - 1 in
      let i : (s.stk - 4) / 4 ≡ total low + n = omega (arith, mem.stk, h) in
      let len = length-append mem.free pending in
      let below : (s.stk - 4) / 4 < length s.cells =
      omega (arith, i, count_cells mem, mem.size, len, h) in
      let z = there_low m low (mem.free ++ pending) high mem.there in
      let l = length-take-le n mem.free (omega arith) in
      record {
        free = take n mem.free;
        cells =
            set_put s.cells ((s.stk - 4) / 4) v below
            ∙ rw (i, mem.cells) (between_put m low (mem.free ++ pending) high n (v ∷ []) z
            (omega (arith, len, h)))
            ∙ ap (λ x. image m (row low x high)) (last_put v h);
        hea = mem.hea;
        stk = omega (arith, mem.stk, l, h);
        there =
            there_row m low (take n mem.free ++ (v ∷ pending)) high z
            (there_high m low (mem.free ++ pending) high mem.there);
        size = omega (arith, mem.size, len, l, h, length-append (take n mem.free) (v ∷ pending));
        fits =
            rw (set_put s.cells ((s.stk - 4) / 4) v below)
            (put_fits (v ∷ []) s.cells ((s.stk - 4) / 4) (one_fits v vf) mem.fits);
      }

-- STK above some of the values that wait
pub dropped_mem : {N : ℕ} {low : List Piece} (xs : List ℤ) {pending : List ℤ} {high : List Piece}
    {m : Memory} {s : State}
    → Mem N low (xs ++ pending) high m s → (t : State) → t.cells ≡ s.cells → t.hea ≡ s.hea
    → t.stk ≡ s.stk + 4 * length xs
    → Mem N low pending high m t
dropped_mem {low = low} xs {pending} {high} {m} mem t c h k =
    let e : mem.free ++ (xs ++ pending) ≡ (mem.free ++ xs) ++ pending =
    sym (append_assoc mem.free xs pending) in
    record {
      free = mem.free ++ xs;
      cells = c ∙ mem.cells ∙ ap (λ l. image m (row low l high)) e;
      hea = h ∙ mem.hea;
      stk = omega (arith, k, mem.stk, length-append mem.free xs);
      there = subst (λ l. AreThere m (row low l high)) e mem.there;
      size = rw (sym e) mem.size;
      fits = rw c mem.fits;
    }

pub top_is : {N : ℕ} {low : List Piece} {v : ℤ} {pending : List ℤ} {high : List Piece} {m : Memory}
    {s : State}
    → Mem N low (v ∷ pending) high m s → cell_at s s.stk ≡ v
top_is {low = low} {v} {pending} {high} {m} {s} mem =
    let i : s.stk / 4 ≡ total low + length mem.free = omega (arith, mem.stk) in
    rw (i, mem.cells) (between_get m low mem.free v pending high
    (there_low m low (mem.free ++ (v ∷ pending)) high mem.there))

pub pop_goes : {N : ℕ} {low : List Piece} {v : ℤ} {pending : List ℤ} {high : List Piece}
    {m : Memory} {s : State}
    (mem : Mem N low (v ∷ pending) high m s) (go : ℤ → State → Turned)
    → pop s go ≡ go v (record s { stk = s.stk + 4 })
pop_goes {v = v} {pending} {s = s} mem go =
    let b = length-append mem.free (v ∷ pending) in
    let e : nat_lt s.stk (stp s) ≡ true =
    lt-ltb _ _ (omega (arith, mem.stk, mem.size, b, count_cells mem)) in
    let f : cell_at s s.stk ≡ v = top_is mem in
    rw (e, f) refl

-- ---- locals

-- cells that wait become a local of a frame, in a slot of it
pub made_mem : {N : ℕ} {low : List Piece} {pending : List ℤ} {high : List Piece} {m : Memory}
    {s : State} → Mem N low pending high m s
    → (k slot : ℕ) (sizes : List ℕ) (f : Frame) (x : Object) → frame_at m.frames k ≡ Some f
    → slot < length f.slots
    → Each (Apart (Thing (Local k slot) sizes)) low → Each (Apart (Thing (Local k slot) sizes)) high
    → IsSized sizes x → pending ≡ vectors sizes ++ x.cells
    → Mem N low [] (Thing (Local k slot) sizes ∷ high) (with_object (Local k slot) x m) s
made_mem {low = low} {pending} {high} {m} mem k slot sizes f x e below nl nh z is =
    let n : Memory = with_object (Local k slot) x m in
    let l = object_leaves m (Local k slot) sizes x in
    let own : object_at n (Local k slot) ≡ Some x =
    rw (e, frame_same m.frames k f (put_slot f slot (Owns x)) e)
    (ap owned (get_same f.slots slot (Owns x) below)) in
    let nil = append-nil mem.free in
    let zl = there_low m low (mem.free ++ pending) high mem.there in
    let zh = there_high m low (mem.free ++ pending) high mem.there in
    let cells_are : image n (Thing (Local k slot) sizes ∷ high) ≡ pending ++ image m high =
    rw (own, image_left m n (Apart (Thing (Local k slot) sizes)) l high nh, is) refl in
    record {
      free = mem.free;
      cells =
          mem.cells ∙ image_row m low (mem.free ++ pending) high
          ∙ sym (image_row n low (mem.free ++ []) (Thing (Local k slot) sizes ∷ high)
          ∙ rw (cells_are, nil, image_left m n (Apart (Thing (Local k slot) sizes)) l low nl)
          (ap (λ l. image m low ++ l) (sym (append_assoc mem.free pending (image m high)))));
      hea = mem.hea;
      stk = mem.stk;
      there =
          there_row n low (mem.free ++ []) (Thing (Local k slot) sizes ∷ high)
          (there_left m n (Apart (Thing (Local k slot) sizes)) l low nl zl)
          (rw own z, there_left m n (Apart (Thing (Local k slot) sizes)) l high nh zh);
      size = rw nil (let a = ap length is in
          omega (
            arith,
            a,
            length-append (vectors sizes) x.cells,
            z.count,
            mem.size,
            length-append mem.free pending,
          ));
      fits = mem.fits;
    }

-- locals are left: STK above them
pub left_mem : {N : ℕ} {low : List Piece} (gone high : List Piece) {m : Memory} {s : State}
    → Mem N low [] (gone ++ high) m s
    → (t : State) → t.cells ≡ s.cells → t.hea ≡ s.hea → t.stk ≡ s.stk + 4 * total gone
    → Mem N low [] high m t
left_mem {low = low} gone high {m} mem t c h k =
    let zh = there_high m low (mem.free ++ []) (gone ++ high) mem.there in
    let zg = each_first (IsThere m) gone high zh in
    let n = length_image m gone zg in
    let nil = append-nil mem.free in
    let nil' = append-nil (mem.free ++ image m gone) in
    record {
      free = mem.free ++ image m gone;
      cells =
          c ∙ mem.cells ∙ image_row m low (mem.free ++ []) (gone ++ high)
          ∙ rw (
            nil,
            nil',
            image-append m gone high,
            image_row m low (mem.free ++ image m gone) high,
          )
          (ap (λ l. image m low ++ l) (sym (append_assoc mem.free (image m gone) (image m high))));
      hea = h ∙ mem.hea;
      stk = omega (arith, k, mem.stk, n, length-append mem.free (image m gone));
      there =
          there_row m low ((mem.free ++ image m gone) ++ []) high
          (there_low m low (mem.free ++ []) (gone ++ high) mem.there)
          (each_rest (IsThere m) gone high zh);
      size = let a = mem.size in let b = total-append gone high in
          rw nil' (omega (arith, a, ap length nil, b, n, length-append mem.free (image m gone)));
      fits = rw c mem.fits;
    }

-- ---- cells taken from the free ones, and filled

pub taken : {N : ℕ} {low high : List Piece} {m : Memory} {s : State} → Mem N low [] high m s → ℕ
    → List ℤ
taken mem n = drop (length mem.free - n) mem.free

-- STK below n cells more
pub lowered_mem : {N : ℕ} {low high : List Piece} {m : Memory} {s : State}
    (mem : Mem N low [] high m s) (n : ℕ) → n ≤ length mem.free → (t : State)
    → t.cells ≡ s.cells → t.hea ≡ s.hea → t.stk + 4 * n ≡ s.stk → Mem N low (taken mem n) high m t
unfolding taken
lowered_mem {low = low} {high} {m} mem n h t c e k =
    let j : ℕ = length mem.free - n in
    let all : take j mem.free ++ drop j mem.free ≡ mem.free ++ [] =
    take_drop j mem.free ∙ sym (append-nil mem.free) in
    record {
      free = take j mem.free;
      cells = c ∙ mem.cells ∙ ap (λ l. image m (row low l high)) (sym all);
      hea = e ∙ mem.hea;
      stk = omega (arith, k, mem.stk, length-take-le j mem.free (omega arith), h);
      there = subst (λ l. AreThere m (row low l high)) (sym all) mem.there;
      size = rw all mem.size;
      fits = rw c mem.fits;
    }

pub length_taken : {N : ℕ} {low high : List Piece} {m : Memory} {s : State}
    (mem : Mem N low [] high m s) (n : ℕ) → n ≤ length mem.free → length (taken mem n) ≡ n
unfolding taken
length_taken mem n h = length-drop (length mem.free - n) mem.free ∙ omega (arith, h)

-- the values that wait are overwritten
pub filled_mem : {N : ℕ} {low : List Piece} {pending : List ℤ} {high : List Piece} {m : Memory}
    {s : State} (mem : Mem N low pending high m s)
    (vs : List ℤ) → length vs ≡ length pending → (t : State)
    → t.cells ≡ put vs (total low + length mem.free) s.cells
    → t.hea ≡ s.hea → t.stk ≡ s.stk → All IsCell vs → Mem N low vs high m t
filled_mem {low = low} {pending} {high} {m} {s} mem vs same t c h k vf =
    let zl = there_low m low (mem.free ++ pending) high mem.there in
    let len = length-append mem.free pending in
    let none : drop (length vs) pending ≡ [] =
    all_dropped pending (length vs) (omega (arith, same)) in
    let there : put vs (length mem.free) (mem.free ++ pending) ≡ mem.free ++ vs =
    let e : length mem.free ≡ length mem.free + 0 = omega arith in
    let z : 0 + length vs ≡ length vs = omega arith in
    ap (λ i. put vs i (mem.free ++ pending)) e ∙ put-after mem.free pending vs 0
    ∙ rw (z, none) (ap (λ l. mem.free ++ l) (append-nil vs)) in
    record {
      free = mem.free;
      cells =
          c ∙ rw mem.cells (between_put m low (mem.free ++ pending) high (length mem.free) vs zl
          (omega (arith, len, same)))
          ∙ ap (λ l. image m (row low l high)) there;
      hea = h ∙ mem.hea;
      stk = k ∙ mem.stk;
      there =
          there_row m low (mem.free ++ vs) high zl
          (there_high m low (mem.free ++ pending) high mem.there);
      size = omega (arith, mem.size, len, same, length-append mem.free vs);
      fits = rw c (put_fits vs s.cells (total low + length mem.free) vf mem.fits);
    }

-- ---- temporary arguments

-- the first free cell becomes one
pub heap_mem : {N : ℕ} {low : List Piece} {pending : List ℤ} {high : List Piece} {m : Memory}
    {s : State} (mem : Mem N low pending high m s)
    (x : ℤ) → IsCell x → (y : ℤ) (others : List ℤ) → mem.free ≡ y ∷ others
    → Each (Apart (next_temporary m)) low → Each (Apart (next_temporary m)) high
    → (t : State) → t.cells ≡ put (x ∷ []) (total low) s.cells → t.hea ≡ s.hea + 4 → t.stk ≡ s.stk
    → Mem N (low ++ next_temporary m ∷ []) pending high (with_temporary x m) t
heap_mem {low = low} {pending} {high} {m} {s} mem x xf y others free_is nl nh t c h k =
    let n : Memory = with_temporary x m in
    let piece : Piece = next_temporary m in
    let l = temporary_leaves m x in
    let zl = there_low m low (mem.free ++ pending) high mem.there in
    let zh = there_high m low (mem.free ++ pending) high mem.there in
    let count = length_image m low zl in
    let own = temporary_is m x in
    let low_is : image n (low ++ piece ∷ []) ≡ image m low ++ x ∷ [] =
    rw (image-append n low (piece ∷ []), own, image_left m n (Apart piece) l low nl) refl in
    let e : total low ≡ length (image m low) + 0 = omega (arith, count) in
    let before : s.cells ≡ image m low ++ (y ∷ ((others ++ pending) ++ image m high)) =
    mem.cells ∙ image_row m low (mem.free ++ pending) high ∙ rw free_is refl in
    let written : put (x ∷ []) (total low) s.cells
    ≡ image m low ++ (x ∷ ((others ++ pending) ++ image m high)) =
    rw (before, e) (put-after (image m low) (y ∷ ((others ++ pending) ++ image m high)) (x ∷ []) 0)
    in
    let f = ap length free_is in
    record {
      free = others;
      cells =
          c ∙ written
          ∙ sym (image_row n (low ++ piece ∷ []) (others ++ pending) high
          ∙ rw (low_is, image_left m n (Apart piece) l high nh)
          (append_assoc (image m low) (x ∷ []) ((others ++ pending) ++ image m high)));
      hea = omega (arith, h, mem.hea, total-append low (piece ∷ []));
      stk = omega (arith, k, mem.stk, f, total-append low (piece ∷ []));
      there =
          there_row n (low ++ piece ∷ []) (others ++ pending) high
          (each_both (IsThere n) low (piece ∷ []) (there_left m n (Apart piece) l low nl zl)
          (rw own (record { sizes_are = refl; count = refl }), tt))
          (there_left m n (Apart piece) l high nh zh);
      size =
          omega (
            arith,
            mem.size,
            f,
            length-append mem.free pending,
            length-append others pending,
            total-append low (piece ∷ []),
          );
      fits = rw c (put_fits (x ∷ []) s.cells (total low) (one_fits x xf) mem.fits);
    }

-- ---- frames

-- the pieces between two lists of others
group : (f s v h : List ℤ) → f ++ (s ++ (v ++ h)) ≡ (f ++ (s ++ v)) ++ h
group f s v h = sym (append_assoc f (s ++ v) h ∙ ap (λ l. f ++ l) (append_assoc s v h))

-- the world has a frame more, whose pieces hold the values that wait; the machine's memory is as it
-- was
pub framed_mem : {N : ℕ} {low : List Piece}
    (pending waits : List ℤ) {high : List Piece} {m : Memory} {s : State} (new : List Piece)
    (f : Frame) (temps : ℕ)
    → Mem N low (pending ++ waits) high m s → Each (IsOf (length m.frames) temps) low
    → Each (IsOf (length m.frames) temps) high
    → image (with_frame f m) new ≡ pending → AreThere (with_frame f m) new
    → Mem N low [] (new ++ Fixed waits ∷ high) (with_frame f m) s
framed_mem {low = low} pending waits {high} {m} {s} new f temps mem bl bh is there =
    let n : Memory = with_frame f m in
    let l = frame_leaves m f temps in
    let zl = there_low m low (mem.free ++ (pending ++ waits)) high mem.there in
    let zh = there_high m low (mem.free ++ (pending ++ waits)) high mem.there in
    let nil = append-nil mem.free in
    let new_is : image n (new ++ Fixed waits ∷ high) ≡ pending ++ (waits ++ image m high) =
    rw (
      image-append n new (Fixed waits ∷ high),
      is,
      image_left m n (IsOf (length m.frames) temps) l high bh,
    ) refl in
    let new_total : total new ≡ length pending = sym (length_image n new there) ∙ ap length is in
    record {
      free = mem.free;
      cells =
          mem.cells ∙ image_row m low (mem.free ++ (pending ++ waits)) high
          ∙ sym (image_row n low (mem.free ++ []) (new ++ Fixed waits ∷ high)
          ∙ rw (nil, new_is, image_left m n (IsOf (length m.frames) temps) l low bl)
          (ap (λ l. image m low ++ l) (group mem.free pending waits (image m high))));
      hea = mem.hea;
      stk = mem.stk;
      there =
          there_row n low (mem.free ++ []) (new ++ Fixed waits ∷ high)
          (there_left m n (IsOf (length m.frames) temps) l low bl zl)
          (each_both (IsThere n) new (Fixed waits ∷ high) there
          (tt, there_left m n (IsOf (length m.frames) temps) l high bh zh));
      size =
          omega (
            arith,
            mem.size,
            ap length nil,
            new_total,
            total-append new (Fixed waits ∷ high),
            length-append mem.free (pending ++ waits),
            length-append pending waits,
          );
      fits = mem.fits;
    }

-- and a frame less: its cells are free
pub unframed_mem : {N : ℕ} {low : List Piece} (gone high : List Piece) (waits : List ℤ) (f : Frame)
    (temps : ℕ) {m : Memory} {s : State}
    → Mem N low [] (gone ++ Fixed waits ∷ high) (with_frame f m) s
    → Each (IsOf (length m.frames) temps) low → Each (IsOf (length m.frames) temps) high
    → (t : State) → t.cells ≡ s.cells → t.hea ≡ s.hea → t.stk ≡ s.stk + 4 * total gone
    → Mem N low waits high m t
unframed_mem {low = low} gone high waits f temps {m} {s} mem bl bh t c h k =
    let n : Memory = with_frame f m in
    let l = unframe_leaves m f temps in
    let g : List ℤ = image n gone in
    let zl = there_low n low (mem.free ++ []) (gone ++ Fixed waits ∷ high) mem.there in
    let za = there_high n low (mem.free ++ []) (gone ++ Fixed waits ∷ high) mem.there in
    let zg = each_first (IsThere n) gone (Fixed waits ∷ high) za in
    let zh : AreThere n high = (each_rest (IsThere n) gone (Fixed waits ∷ high) za).1 in
    let count = length_image n gone zg in
    let nil = append-nil mem.free in
    let high_is : image n high ≡ image m high =
    sym (image_left n m (IsOf (length m.frames) temps) l high bh) in
    let low_is : image n low ≡ image m low =
    sym (image_left n m (IsOf (length m.frames) temps) l low bl) in
    let whole : image n (gone ++ Fixed waits ∷ high) ≡ g ++ (waits ++ image m high) =
    image-append n gone (Fixed waits ∷ high) ∙ ap (λ l. g ++ (waits ++ l)) high_is in
    let regrouped : mem.free ++ (g ++ (waits ++ image m high))
    ≡ ((mem.free ++ g) ++ waits) ++ image m high =
    sym (append_assoc mem.free g (waits ++ image m high))
    ∙ sym (append_assoc (mem.free ++ g) waits (image m high)) in
    record {
      free = mem.free ++ g;
      cells =
          c ∙ mem.cells ∙ image_row n low (mem.free ++ []) (gone ++ Fixed waits ∷ high)
          ∙ rw (nil, whole, low_is, image_row m low ((mem.free ++ g) ++ waits) high)
          (ap (λ l. image m low ++ l) regrouped);
      hea = h ∙ mem.hea;
      stk = omega (arith, k, mem.stk, count, length-append mem.free g);
      there =
          there_row m low ((mem.free ++ g) ++ waits) high
          (there_left n m (IsOf (length m.frames) temps) l low bl zl)
          (there_left n m (IsOf (length m.frames) temps) l high bh zh);
      size =
          omega (
            arith,
            mem.size,
            ap length nil,
            total-append gone (Fixed waits ∷ high),
            count,
            length-append (mem.free ++ g) waits,
            length-append mem.free g,
          );
      fits = rw c mem.fits;
    }
