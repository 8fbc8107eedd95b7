-- Temporary arguments that are given back.
use Rattle.std.proofs.Common.{◌≡◌, ◌+◌, ◌*◌, ◌<◌, ℕ, zero, suc, ℤ, List, [], ◌∷◌, ◌++◌, take}
use Rattle.std.proofs.Common.{slice_get, refl, sym, ap, ◌∙◌, arith, append_assoc, append-nil}
use Rattle.std.proofs.Common.{length-append}
use Rattle.pawn_meaning.specs.Memory.{Memory, Name, Static, Local, Temporary, object_at, cut_heap}
use Rattle.amx_ops.specs.State.{State}
use Rattle.gen_sim.specs.Pieces.{Piece, Fixed, Thing, Automaton, Each, IsThere, cells_in}
use Rattle.gen_sim.specs.Pieces.{object_cells, image, total, temporaries}
use Rattle.gen_sim.specs.View.{IsAlive, IsOf}
use Rattle.gen_sim.specs.Mem.{Mem}
use Rattle.gen_sim.proofs.PieceLaws.{LeavesPieces, each_first, each_rest, image_left, there_left}
use Rattle.gen_sim.proofs.PieceLaws.{image-append, length_image, total-append}
use Rattle.gen_sim.proofs.ChangeLaws.{there_low, there_high, there_row, image_row}

-- the last ones of several
pub record Last (n k : ℕ) : Type 0 where
  pub pieces : List Piece
  pub split : temporaries (k + n) ≡ temporaries n ++ pieces
  pub count : total pieces ≡ k

pub last : (n k : ℕ) → Last n k
last n zero =
    let z : 0 + n ≡ n = omega arith in
    record {
      pieces = [];
      split = ap temporaries z
          ∙ sym (append-nil (temporaries n));
      count = refl;
    }
last n (suc k) =
    let l = last n k in
    let one : Piece = Thing (Temporary (k + n)) (1 ∷ []) in
    let e : suc k + n ≡ suc (k + n) = omega arith in
    record {
      pieces = l.pieces ++ one ∷ [];
      split =
          ap temporaries e ∙ ap (λ ps. ps ++ one ∷ []) l.split
          ∙ append_assoc (temporaries n) l.pieces (one ∷ []);
      count = total-append l.pieces (one ∷ []) ∙ omega (arith, l.count);
    }

get_take : {A : Type 0} (n i : ℕ) (xs : List A) → i < n → slice_get (take n xs) i ≡ slice_get xs i
get_take zero i xs h = absurd (omega (arith, h))
get_take (suc n) i [] h = refl
get_take (suc n) zero (y ∷ xs) h = refl
get_take (suc n) (suc i) (y ∷ xs) h = get_take n i xs (omega (arith, h))

cut_object : (m : Memory) (n calls : ℕ) (name : Name) → IsAlive calls n name
    → object_at (cut_heap n m) name ≡ object_at m name
cut_object m n calls (Static o) h = refl
cut_object m n calls (Local k s) h = refl
cut_object m n calls (Temporary i) h = get_take n i m.heap h

-- all that was there before them stays
pub cut_leaves : (m : Memory) (n calls : ℕ) → LeavesPieces m (cut_heap n m) (IsOf calls n)
cut_leaves m n calls = record { cells = cells; there = there }
  where
    cells : (q : Piece) → IsOf calls n q → cells_in (cut_heap n m) q ≡ cells_in m q
    cells (Fixed c) h = refl
    cells (Thing name sizes) h = ap (object_cells sizes) (cut_object m n calls name h)
    cells (Automaton a) h = refl

    there : (q : Piece) → IsOf calls n q → IsThere m q → IsThere (cut_heap n m) q
    there (Fixed c) h t = tt
    there (Thing name sizes) h t = rw (cut_object m n calls name h) t
    there (Automaton a) h t = t

-- HEA below the last low pieces: their cells are free
pub cut_mem : {N : ℕ} (low gone : List Piece) {pending : List ℤ} {high : List Piece} {m : Memory}
    {s : State} (n calls : ℕ)
    → Mem N (low ++ gone) pending high m s → Each (IsOf calls n) low → Each (IsOf calls n) high
    → (t : State) → t.cells ≡ s.cells → t.hea + 4 * total gone ≡ s.hea → t.stk ≡ s.stk
    → Mem N low pending high (cut_heap n m) t
cut_mem low gone {pending} {high} {m} n calls mem bl bh t c h k =
    let o : Memory = cut_heap n m in
    let l = cut_leaves m n calls in
    let all = there_low m (low ++ gone) (mem.free ++ pending) high mem.there in
    let zl = each_first (IsThere m) low gone all in
    let zg = each_rest (IsThere m) low gone all in
    let zh = there_high m (low ++ gone) (mem.free ++ pending) high mem.there in
    let g : List ℤ = image m gone in
    let count = length_image m gone zg in
    let both = total-append low gone in
    let regrouped : (image m low ++ g) ++ ((mem.free ++ pending) ++ image m high)
    ≡ image m low ++ (((g ++ mem.free) ++ pending) ++ image m high) =
    append_assoc (image m low) g ((mem.free ++ pending) ++ image m high)
    ∙ ap (λ z. image m low ++ z) (sym (append_assoc g (mem.free ++ pending) (image m high))
    ∙ ap (λ z. z ++ image m high) (sym (append_assoc g mem.free pending))) in
    record {
      free = g ++ mem.free;
      cells =
          c ∙ mem.cells ∙ image_row m (low ++ gone) (mem.free ++ pending) high
          ∙ ap (λ z. z ++ ((mem.free ++ pending) ++ image m high)) (image-append m low gone)
          ∙ regrouped
          ∙ sym (image_row o low ((g ++ mem.free) ++ pending) high
          ∙ rw (image_left m o (IsOf calls n) l low bl, image_left m o (IsOf calls n) l high bh)
          refl);
      hea = omega (arith, h, mem.hea, both);
      stk = omega (arith, k, mem.stk, both, count, length-append g mem.free);
      there =
          there_row o low ((g ++ mem.free) ++ pending) high
          (there_left m o (IsOf calls n) l low bl zl)
          (there_left m o (IsOf calls n) l high bh zh);
      size =
          omega (
            arith,
            mem.size,
            both,
            count,
            length-append mem.free pending,
            length-append (g ++ mem.free) pending,
            length-append g mem.free,
          );
      fits = rw c mem.fits;
    }
