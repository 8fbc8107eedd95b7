-- Writes one after another: the size of the cells stays, and so do the live parts.
use Rattle.std.proofs.Common.{◌≡◌, ◌+◌, ◌-◌, ◌/◌, ◌%◌, ◌==◌, ◌<◌, ◌≤◌, ℕ, zero, suc, ℤ, pos, List}
use Rattle.std.proofs.Common.{[], ◌∷◌, ◌++◌, Bool, true, false, cond, All, length, map, take, drop}
use Rattle.std.proofs.Common.{min, set, get_or, nat_lt, nat_le, refl, sym, ap, ap₂, subst, ◌∙◌}
use Rattle.std.proofs.Common.{arith, length-append, length-drop}
use Rattle.std.specs.List.{slice_index_or}
use Rattle.std.proofs.lemmas.List.{length-take, length-take-le, get_or_append_left, get_or-take}
use Rattle.std.proofs.lemmas.List.{get_or-map, map-append, take_more}
use Rattle.std.proofs.lemmas.List.Elements.{All-head, All-tail}
use Rattle.std.proofs.Math.Seq.{get_or-append_seam}
use Rattle.pawn_cells.specs.Cells.{bits_of}
use Rattle.host_script.specs.declared.script.Write.{Write}
use Rattle.host_script.specs.NativeCall.{Put}
use Rattle.amx_ops.specs.State.{State}
use Rattle.amx_ops.specs.Moves.{live_from, with_write, with_writes}
use Rattle.amx_machine.specs.Machine.{Machine}
use Rattle.host_run.specs.Sights.{arguments_of, put_of, IsRoomFor}
use Rattle.host_run.specs.Writes.{addresses_of, written}

-- ---- sizes

cut_twice : (n m : ℕ) (xs ys : List ℤ) → length xs ≡ length ys
    → length (drop n (take m xs)) ≡ length (drop n (take m ys))
cut_twice n m xs ys e =
    length-drop n (take m xs) ∙ ap (λ k. k - n)
    (length-take m xs ∙ ap (min m) e ∙ sym (length-take m ys)) ∙ sym (length-drop n (take m ys))

cut_once : (n : ℕ) (xs ys : List ℤ) → length xs ≡ length ys
    → length (drop n xs) ≡ length (drop n ys)
cut_once n xs ys e = length-drop n xs ∙ ap (λ k. k - n) e ∙ sym (length-drop n ys)

same_by : (s : State) (cells : List ℤ) (a : ℕ) (b c d : Bool) → length cells ≡ length s.cells
    → length (cond b (cond c (drop (a / 4) (take (s.hea / 4) cells))
    (cond d (drop (a / 4) cells) [])) [])
    ≡ length (cond b (cond c (drop (a / 4) (take (s.hea / 4) s.cells))
    (cond d (drop (a / 4) s.cells) [])) [])
same_by s cells a true true d e = cut_twice (a / 4) (s.hea / 4) cells s.cells e
same_by s cells a true false true e = cut_once (a / 4) cells s.cells e
same_by s cells a true false false e = refl
same_by s cells a false c d e = refl

-- with other cells, as many, the live parts are as long
pub length-live : (s : State) (cells : List ℤ) (a : ℕ) → length cells ≡ length s.cells
    → length (live_from (record s { cells = cells }) a) ≡ length (live_from s a)
length-live s cells a e = same_by s cells a (a % 4 == 0) (nat_lt a s.hea) (nat_le s.stk a) e

within_by : (s : State) (a : ℕ) (b c d : Bool)
    → length (cond b (cond c (drop (a / 4) (take (s.hea / 4) s.cells))
    (cond d (drop (a / 4) s.cells) [])) []) ≤ length s.cells - a / 4
within_by s a true true d =
    omega (arith, length-drop (a / 4) (take (s.hea / 4) s.cells), length-take (s.hea / 4) s.cells)
within_by s a true false true = omega (arith, length-drop (a / 4) s.cells)
within_by s a true false false = omega arith
within_by s a false c d = omega arith

-- a live part lies within the cells
pub live_within : (s : State) (a : ℕ) → length (live_from s a) ≤ length s.cells - a / 4
live_within s a = within_by s a (a % 4 == 0) (nat_lt a s.hea) (nat_le s.stk a)

pub length-write : (put : Put ℕ) (cells : List ℤ) → length put.values ≤ length cells - put.to / 4
    → length (with_write put cells) ≡ length cells
length-write put cells h =
    omega (
      arith,
      h,
      length-append (take (put.to / 4) cells)
          (put.values ++ drop (put.to / 4 + length put.values) cells),
      length-append put.values (drop (put.to / 4 + length put.values) cells),
      length-take (put.to / 4) cells,
      length-drop (put.to / 4 + length put.values) cells,
    )

-- ---- one more

pub writes-more : (puts : List (Put ℕ)) (put : Put ℕ) (cells : List ℤ)
    → with_writes (puts ++ put ∷ []) cells ≡ with_write put (with_writes puts cells)
writes-more [] put cells = refl
writes-more (first ∷ puts) put cells = writes-more puts put (with_write first cells)

pub all_before : {A : Type 0} (P : A → Type 0) (xs : List A) (y : A) → All P (xs ++ y ∷ [])
    → All P xs
all_before P xs y h k d within =
    subst P (get_or_append_left xs (y ∷ []) d k within)
    (h k d (omega (arith, within, length-append xs (y ∷ []))))

pub all_last : {A : Type 0} (P : A → Type 0) (xs : List A) (y : A) → All P (xs ++ y ∷ []) → P y
all_last P xs y h =
    subst P (get_or-append_seam xs y [] y)
    (h (length xs) y (omega (arith, length-append xs (y ∷ []))))

-- ---- the writes of an answer

module _ (s : State) (values : List ℤ) where
  fits_by : (write : Write) (cells : List ℤ) → length cells ≡ length s.cells
      → IsRoomFor s values write
      → length write.cells ≤ length cells - bits_of (slice_index_or values write.arg (pos 0)) / 4
  fits_by write cells e h =
      let live = live_within s (bits_of (slice_index_or values write.arg (pos 0))) in
      omega (arith, e, h, live)

  -- the size of the cells stays
  pub writes_length : (writes : List Write) (cells : List ℤ) → length cells ≡ length s.cells
      → All (IsRoomFor s values) writes
      → length (with_writes (map (put_of values) writes) cells) ≡ length cells
  writes_length [] cells e h = refl
  writes_length (write ∷ writes) cells e h =
      let one =
      length-write (put_of values write) cells
      (fits_by write cells e (All-head (IsRoomFor s values) write writes h)) in
      writes_length writes (with_write (put_of values write) cells) (one ∙ e)
      (All-tail (IsRoomFor s values) write writes h) ∙ one

  -- and so there is room for the next
  pub room_next : (before : List Write) (last : Write)
      → All (IsRoomFor s values) (before ++ last ∷ [])
      → length last.cells ≤ length (live_from
      (record s { cells = with_writes (map (put_of values) before) s.cells })
      (bits_of (slice_index_or values last.arg (pos 0))))
  room_next before last h =
      let cells = with_writes (map (put_of values) before) s.cells in
      let size =
      writes_length before s.cells refl (all_before (IsRoomFor s values) before last h) in
      let live = length-live s cells (bits_of (slice_index_or values last.arg (pos 0))) size in
      omega (arith, live, all_last (IsRoomFor s values) before last h)

-- the last write behind those before it
pub writes_last : (values cells : List ℤ) (before : List Write) (last : Write)
    → with_writes (map (put_of values) (before ++ last ∷ [])) cells
    ≡ with_write (put_of values last) (with_writes (map (put_of values) before) cells)
writes_last values cells before last =
    ap (λ puts. with_writes puts cells) (map-append (put_of values) before (last ∷ []))
    ∙ writes-more (map (put_of values) before) (put_of values last) cells

-- ---- addresses that are read first

-- the first cells of a list with the next one set
take_set : (xs : List ℤ) (i : ℕ) (x : ℤ) → i < length xs
    → take (suc i) (set xs i x) ≡ take i xs ++ x ∷ []
take_set [] i x h = absurd (omega (arith, h))
take_set (y ∷ xs) zero x h = refl
take_set (y ∷ xs) (suc i) x h = ap (λ zs. y ∷ zs) (take_set xs i x (omega (arith, h)))

take_set_next : (xs : List ℤ) (i : ℕ) (x : ℤ) → i < length xs
    → take (i + 1) (set xs i x) ≡ take i xs ++ x ∷ []
take_set_next xs i x h =
    let more : i + 1 ≡ suc i = omega arith in
    ap (λ n. take n (set xs i x)) more ∙ take_set xs i x h

all_first : {A : Type 0} (P : A → Type 0) (xs : List A) (i : ℕ) → i ≤ length xs → All P xs
    → All P (take i xs)
all_first P xs i l h k d within =
    let count : length (take i xs) ≡ i = length-take-le i xs l in
    subst P (sym (get_or-take i xs k d (omega (arith, within, count))))
    (h k d (omega (arith, within, count, l)))

-- one more of them
pub addresses_next : (s : State) (writes : List Write) (i : ℕ) (d : Write) (reserved : List ℤ)
    (address : ℤ) → i < length writes → i < length reserved
    → take i reserved ≡ addresses_of s (take i writes)
    → address ≡ slice_index_or (arguments_of s) (get_or writes i d).arg (pos 0)
    → take (i + 1) (set reserved i address) ≡ addresses_of s (take (i + 1) writes)
addresses_next s writes i d reserved address h l so_far is =
    let of : Write → ℤ =
    λ write. slice_index_or (arguments_of s) write.arg (pos 0) in
    take_set_next reserved i address l
    ∙ ap₂ (λ zs z. zs ++ z ∷ []) so_far is
    ∙ sym (map-append of (take i writes) (get_or writes i d ∷ []))
    ∙ ap (map of) (sym (take_more writes i d h))

-- the address of a write
pub address_of : (s : State) (writes : List Write) (i : ℕ) (d : Write) (addresses : List ℤ)
    → i < length writes → take (length writes) addresses ≡ addresses_of s writes
    → get_or addresses i (pos 0)
    ≡ slice_index_or (arguments_of s) (get_or writes i d).arg (pos 0)
address_of s writes i d addresses h read =
    sym (get_or-take (length writes) addresses i (pos 0) h)
    ∙ ap (λ zs. get_or zs i (pos 0)) read
    ∙ get_or-map (λ (write : Write). slice_index_or (arguments_of s) write.arg (pos 0)) writes i d
    (pos 0) h

module _ (m now : Machine) (writes : List Write) (i : ℕ) (d : Write) (h : i < length writes)
    (done : now ≡ written (take i writes) m) where
  abbrev s : State
  s = m.state

  abbrev values : List ℤ
  values = arguments_of s

  abbrev write : Write
  write = get_or writes i d

  -- there is room for the next
  pub next_fits : All (IsRoomFor s values) writes
      → length write.cells
      ≤ length (live_from now.state (bits_of (slice_index_or values write.arg (pos 0))))
  next_fits all =
      let before : All (IsRoomFor s values) (take i writes ++ write ∷ []) =
      subst (All (IsRoomFor s values)) (take_more writes i d h)
      (all_first (IsRoomFor s values) writes (i + 1) (omega (arith, h)) all) in
      let room = room_next s values (take i writes) write before in
      omega (
        arith,
        room,
        ap (λ (it : Machine). length (live_from it.state
            (bits_of (slice_index_or values write.arg (pos 0))))) done,
      )

  -- and it is done behind those before it
  pub next_written : (new : Machine) → new ≡ record now {
    state = record now.state { cells = with_write (put_of values write) now.state.cells };
  } → new ≡ written (take (i + 1) writes) m
  next_written new is =
      is
      ∙ ap (λ (it : Machine). record it {
        state = record it.state { cells = with_write (put_of values write) it.state.cells };
      }) done
      ∙ ap (λ (cells : List ℤ). record m { state = record s { cells = cells } })
      (sym (writes_last values s.cells (take i writes) write)
      ∙ ap (λ ws. with_writes (map (put_of values) ws) s.cells) (sym (take_more writes i d h)))
