-- What a change of a block's cells is, as code and memory see it.
use Rattle.std.proofs.Common.{◌≡◌, ◌+◌, ◌<◌, ◌≤◌, ℕ, ℤ, pos, List, ◌++◌, length, take, drop}
use Rattle.std.proofs.Common.{replicate, refl, arith, ◌-◌, append_assoc}
use Rattle.std.specs.Prelude.{slice_set}
use Rattle.std.specs.List.{refill}
use Rattle.std.proofs.lemmas.List.{take-set-le, drop-set-lt, drop-set-add, drop-drop, length-append}
use Rattle.std.proofs.lemmas.List.{length-take-le, take-append-drop, take-replicate, drop-replicate}
use Rattle.std.proofs.Math.Seq.{take-set-lt, take-append-add, drop-append-add, take-append_seam}
use Rattle.std.proofs.Math.Seq.{drop-append_seam}
use Rattle.amx_block.specs.Contents.{Contents, zeros}

-- the contents of a block whose code is so many of its cells
abbrev pub contents : ℕ → List ℤ → ℕ → Contents
contents code cells store =
    record { code = take code cells; memory = drop code cells; store = store }

pub set_in_memory : (code i store : ℕ) (cells : List ℤ) (v : ℤ)
    → contents code (slice_set cells (code + i) v) store
    ≡ record { code = take code cells; memory = slice_set (drop code cells) i v; store = store }
set_in_memory code i store cells v =
    rw (take-set-le code cells (code + i) v (omega arith), drop-set-add code cells i v) refl

pub set_in_code : (code i store : ℕ) (cells : List ℤ) (v : ℤ) → i < code
    → contents code (slice_set cells i v) store
    ≡ record { code = slice_set (take code cells) i v; memory = drop code cells; store = store }
set_in_code code i store cells v h =
    rw (take-set-lt code cells i v h, drop-set-lt code cells i v h) refl

pub all_zero : (code store room : ℕ) → contents code (replicate (code + store + room) (pos 0)) store
    ≡ zeros code store room
all_zero code store room =
    let p : code + store + room - code ≡ store + room = omega arith in
    rw (
      take-replicate code (code + store + room) (pos 0) (omega arith),
      drop-replicate code (code + store + room) (pos 0),
      p,
    ) refl

-- ---- cells in the place of others

put_behind : (a b new : List ℤ) (i count store : ℕ)
    → contents (length a) (take (length a + i) (a ++ b)
    ++ (new ++ drop (length a + (i + count)) (a ++ b))) store
    ≡ record { code = a; memory = take i b ++ (new ++ drop (i + count) b); store = store }
put_behind a b new i count store =
    rw (
      take-append-add a b i,
      drop-append-add a b (i + count),
      append_assoc a (take i b) (new ++ drop (i + count) b),
      take-append_seam a (take i b ++ (new ++ drop (i + count) b)),
      drop-append_seam a (take i b ++ (new ++ drop (i + count) b)),
    ) refl

pub put_in_memory : (code i count store : ℕ) (cells new : List ℤ) → code ≤ length cells
    → contents code (take (code + i) cells ++ (new ++ drop (code + i + count) cells)) store
    ≡ record {
      code = take code cells;
      memory =
          take i (drop code cells) ++ (new ++ drop (i + count) (drop code cells));
      store = store;
    }
put_in_memory code i count store cells new h =
    let all : take code cells ++ drop code cells ≡ cells = take-append-drop code cells in
    let len : length (take code cells) ≡ code = length-take-le code cells h in
    let place : code + i + count ≡ code + (i + count) = omega arith in
    let law = rw (len, all) at (put_behind (take code cells) (drop code cells) new i count store) in
    rw place law

-- ---- cells that were lent

pub part_of_memory : (code i count : ℕ) (cells : List ℤ)
    → take (code + i + count - (code + i)) (drop (code + i) cells)
    ≡ take count (drop i (drop code cells))
part_of_memory code i count cells =
    let p : code + i + count - (code + i) ≡ count = omega arith in
    rw (p, drop-drop i code cells) refl

abbrev over : List ℤ → ℕ → List ℤ → List ℤ
over cells i new =
    refill (length cells) cells (take i cells ++ (new ++ drop (length new) (drop i cells)))

over_behind : (a b new : List ℤ) (i : ℕ) → over (a ++ b) (length a + i) new ≡ a ++ over b i new
over_behind a b new i =
    let x = new ++ drop (length new) (drop i b) in
    let front : take (length a + i) (a ++ b)
    ++ (new ++ drop (length new) (drop (length a + i) (a ++ b))) ≡ a ++ (take i b ++ x) =
    rw (take-append-add a b i, drop-append-add a b i, append_assoc a (take i b) x) refl in
    rw (
      front,
      length-append a b,
      append_assoc a (take i b ++ x) (drop (length (a ++ (take i b ++ x))) (a ++ b)),
      length-append a (take i b ++ x),
      drop-append-add a b (length (take i b ++ x)),
      take-append-add a ((take i b ++ x) ++ drop (length (take i b ++ x)) b) (length b),
    ) refl

-- as a `Vec` is left where a part of it was lent
pub given_back : (code i store len : ℕ) (cells new : List ℤ) → len ≡ length cells
    → code ≤ length cells
    → contents code (refill len cells
    (take (code + i) cells ++ (new ++ drop (length new) (drop (code + i) cells)))) store
    ≡ record { code = take code cells; memory = over (drop code cells) i new; store = store }
given_back code i store len cells new e h =
    let a = take code cells in let b = drop code cells in
    let all : a ++ b ≡ cells = take-append-drop code cells in
    let size : length a ≡ code = length-take-le code cells h in
    let new_is : over cells (code + i) new ≡ a ++ over b i new =
    rw (size, all) at (over_behind a b new i) in
    let code_is : take code (a ++ over b i new) ≡ a =
    rw size at (take-append_seam a (over b i new)) in
    let memory_is : drop code (a ++ over b i new) ≡ over b i new =
    rw size at (drop-append_seam a (over b i new)) in
    rw e (rw (new_is, code_is, memory_is) refl)
