-- Arguments that are seen one after another, and the writes to them.
use Rattle.std.proofs.Common.{◌≡◌, ◌+◌, ◌<◌, ◌≤◌, ℕ, zero, suc, ℤ, pos, List, [], ◌∷◌, ◌++◌, Bool}
use Rattle.std.proofs.Common.{true, false, cond, ◌&&◌, All, Option, None, Some, length, map, take}
use Rattle.std.proofs.Common.{drop, get_or, nat_le, nat_lt, slice_get, refl, sym, ap, ◌∙◌}
use Rattle.std.proofs.Common.{append-nil, append_assoc, arith, true≢false, leb-true}
use Rattle.std.specs.Prelude.{option_map, is_some, unwrap_or, if◌then◌else◌}
use Rattle.std.specs.List.{slice_index_or, list_all}
use Rattle.std.proofs.Math.Seq.{drop-cons}
use Rattle.std.proofs.lemmas.List.{take-append-drop, take_more}
use Rattle.std.proofs.lemmas.List.Concat.{flat_map-append}
use Rattle.std.proofs.lemmas.Bool.{ltb-true, ltb-false}
use Rattle.std.proofs.lemmas.List.Elements.{All-nil, All-cons}
use Rattle.std.proofs.lemmas.Option.{slice_get_past}
use Rattle.pawn_cells.specs.Cells.{bits_of}
use Rattle.host_script.specs.declared.script.Form.{Form}
use Rattle.host_script.specs.declared.script.Form.TheVariants as form
use Rattle.host_script.specs.declared.script.Write.{Write}
use Rattle.host_script.specs.declared.event.Seen.{Seen}
use Rattle.host_script.specs.declared.event.Seen.TheVariants as seen
use Rattle.host_script.specs.Script.{characters}
use Rattle.host_script.specs.Text.{argument_text, arguments_text}
use Rattle.host_script.specs.NativeCall.{Sight, Sees, Blind, Hold, Sought, native_error, with_sight}
use Rattle.host_script.specs.NativeCall.{see_all, put_into, put_for, with_put, puts_of}
use Rattle.amx_ops.specs.State.{State}
use Rattle.amx_ops.specs.Moves.{live_from, read_text, look, arguments}
use Rattle.host_run.specs.Guest.{formed}
use Rattle.host_run.specs.Sights.{arguments_of, is_sight, sought_in, all_seen, sought, room_of}
use Rattle.host_run.specs.Sights.{fits_in, is_allowed, put_of, IsRoomFor}

-- ---- one argument

pub seen_is : (sight : Sight (Sought ℕ)) → is_sight sight ≡ true → sight ≡ Sees (sought_in sight)
seen_is (Sees it) h = refl
seen_is (Blind trap) h = absurd (true≢false (sym h))

blind_by : (b : Bool) (it : Sought ℕ) → is_sight (cond b (Sees it) (Blind native_error)) ≡ false
    → cond b (Sees it) (Blind native_error) ≡ Blind native_error
blind_by true it h = absurd (true≢false h)
blind_by false it h = refl

blind_text : (o : Option (List ℤ)) → is_sight (read_text o) ≡ false
    → read_text o ≡ Blind native_error
blind_text None h = refl
blind_text (Some text) h = absurd (true≢false h)

-- each cause is error 10
pub blind_is : (s : State) (v : ℤ) (f : Form) → is_sight (look s v f) ≡ false
    → look s v f ≡ Blind native_error
blind_is s v form.Cell h = absurd (true≢false h)
blind_is s v form.Ref h = blind_by (nat_le 1 (length (live_from s (bits_of v)))) _ h
blind_is s v form.Text h = blind_text (characters (live_from s (bits_of v))) h
blind_is s v (form.Cells count) h = blind_by (nat_le count (length (live_from s (bits_of v)))) _ h

pub sight_if : (b : Bool) (it : Sought ℕ) → is_sight (cond b (Sees it) (Blind native_error)) ≡ b
sight_if true it = refl
sight_if false it = refl

pub sight_text : (o : Option (List ℤ)) → is_sight (read_text o) ≡ is_some o
sight_text None = refl
sight_text (Some text) = refl

-- where it may be written to
abbrev held : ℤ → Option ℕ → Option (Hold ℕ)
held v room = option_map (λ count. record { at = bits_of v; cells = count }) room

hold_by : (b : Bool) (seen : Seen) (hold : Hold ℕ)
    → is_sight (cond b (Sees (record { seen = seen; hold = Some hold })) (Blind native_error))
    ≡ true
    → (sought_in (cond b (Sees (record { seen = seen; hold = Some hold }))
    (Blind native_error))).hold ≡ Some hold
hold_by true seen hold h = refl
hold_by false seen hold h = absurd (true≢false (sym h))

hold_text : (o : Option (List ℤ)) → (sought_in (read_text o)).hold ≡ None
hold_text None = refl
hold_text (Some text) = refl

pub hold_is : (s : State) (v : ℤ) (f : Form) → is_sight (look s v f) ≡ true
    → (sought_in (look s v f)).hold ≡ held v (room_of f)
hold_is s v form.Cell h = refl
hold_is s v form.Ref h = hold_by (nat_le 1 (length (live_from s (bits_of v)))) _ _ h
hold_is s v form.Text h = hold_text (characters (live_from s (bits_of v)))
hold_is s v (form.Cells count) h = hold_by (nat_le count (length (live_from s (bits_of v)))) _ _ h

sight_by : (b : Bool) (it : Sought ℕ) → is_sight (cond b (Sees it) (Blind native_error)) ≡ true
    → b ≡ true
sight_by true it h = refl
sight_by false it h = absurd (true≢false (sym h))

-- so many cells are live there
room_by : (s : State) (v : ℤ) (n k : ℕ) → Some k ≡ Some n
    → nat_le k (length (live_from s (bits_of v))) ≡ true → n ≤ length (live_from s (bits_of v))
room_by s v n k e h =
    let same : k ≡ n = cc in let within = leb-true k (length (live_from s (bits_of v))) h in
    omega (arith, same, within)

pub room_is : (s : State) (v : ℤ) (f : Form) (n : ℕ) → is_sight (look s v f) ≡ true
    → room_of f ≡ Some n → n ≤ length (live_from s (bits_of v))
room_is s v form.Cell n h e = absurd (cc e)
room_is s v form.Ref n h e =
    room_by s v n 1 e (sight_by (nat_le 1 (length (live_from s (bits_of v)))) _ h)
room_is s v form.Text n h e = absurd (cc e)
room_is s v (form.Cells count) n h e =
    room_by s v n count e (sight_by (nat_le count (length (live_from s (bits_of v)))) _ h)

-- ---- all arguments

both : (a b : Bool) → (a && b) ≡ true → (a ≡ true) × (b ≡ true)
both true b h = (refl, h)
both false b h = absurd (true≢false (sym h))

module _ (s : State) (form : ℕ → Form) where
  pub all_is : (i : ℕ) (values : List ℤ) → all_seen s form i values ≡ true
      → see_all (look s) values (formed form i values) ≡ Sees (sought s form i values)
  all_is i [] h = refl
  all_is i (v ∷ values) h =
      let parts = both (is_sight (look s v (form i))) (all_seen s form (suc i) values) h in
      ap (λ sight. with_sight sight (λ it. with_sight
      (see_all (look s) values (formed form (suc i) values)) (λ others. Sees (it ∷ others))))
      (seen_is (look s v (form i)) parts.0)
      ∙ ap (λ sight. with_sight sight (λ others. Sees (sought_in (look s v (form i)) ∷ others)))
      (all_is (suc i) values parts.1)

  blind_at : (i : ℕ) (v : ℤ) (values : List ℤ) (b : Bool) → is_sight (look s v (form i)) ≡ b
      → (b && all_seen s form (suc i) values) ≡ false
      → (all_seen s form (suc i) values ≡ false
      → see_all (look s) values (formed form (suc i) values) ≡ Blind native_error)
      → see_all (look s) (v ∷ values) (formed form i (v ∷ values)) ≡ Blind native_error
  blind_at i v values false e h rest =
      ap (λ sight. with_sight sight (λ it. with_sight
      (see_all (look s) values (formed form (suc i) values)) (λ others. Sees (it ∷ others))))
      (blind_is s v (form i) e)
  blind_at i v values true e h rest =
      ap (λ sight. with_sight sight (λ it. with_sight
      (see_all (look s) values (formed form (suc i) values)) (λ others. Sees (it ∷ others))))
      (seen_is (look s v (form i)) e)
      ∙ ap (λ sight. with_sight sight (λ others. Sees (sought_in (look s v (form i)) ∷ others)))
      (rest h)

  pub some_blind : (i : ℕ) (values : List ℤ) → all_seen s form i values ≡ false
      → see_all (look s) values (formed form i values) ≡ Blind native_error
  some_blind i [] h = absurd (true≢false h)
  some_blind i (v ∷ values) h =
      blind_at i v values (is_sight (look s v (form i))) refl h (some_blind (suc i) values)

  -- ---- by their numbers; `k` is the number of the one at `n`, where the first has the number `i`

  pub sight_at : (i : ℕ) (values : List ℤ) (n k : ℕ) → k ≡ i + n → all_seen s form i values ≡ true
      → n < length values
      → is_sight (look s (slice_index_or values n (pos 0)) (form k)) ≡ true
  sight_at i [] n k e h within = absurd (omega (arith, within))
  sight_at i (v ∷ values) zero k e h within =
      let same : k ≡ i = omega (arith, e) in
      ap (λ j. is_sight (look s v (form j))) same
      ∙ (both (is_sight (look s v (form i))) (all_seen s form (suc i) values) h).0
  sight_at i (v ∷ values) (suc n) k e h within =
      sight_at (suc i) values n k (omega (arith, e))
      (both (is_sight (look s v (form i))) (all_seen s form (suc i) values) h).1
      (omega (arith, within))

  pub sought_at : (i : ℕ) (values : List ℤ) (n k : ℕ) → k ≡ i + n → n < length values
      → slice_get (sought s form i values) n
      ≡ Some (sought_in (look s (slice_index_or values n (pos 0)) (form k)))
  sought_at i [] n k e within = absurd (omega (arith, within))
  sought_at i (v ∷ values) zero k e within =
      let same : i ≡ k = omega (arith, e) in
      ap (λ j. Some (sought_in (look s v (form j)))) same
  sought_at i (v ∷ values) (suc n) k e within =
      sought_at (suc i) values n k (omega (arith, e)) (omega (arith, within))

  pub length-sought : (i : ℕ) (values : List ℤ) → length (sought s form i values) ≡ length values
  length-sought i [] = refl
  length-sought i (v ∷ values) = ap suc (length-sought (suc i) values)

  -- one after another
  pub seen_at : (i : ℕ) (values : List ℤ) (n k : ℕ) → k ≡ i + n → n < length values
      → all_seen s form k (drop n values)
      ≡ (is_sight (look s (slice_index_or values n (pos 0)) (form k))
      && all_seen s form (suc k) (drop (suc n) values))
  seen_at i [] n k e within = absurd (omega (arith, within))
  seen_at i (v ∷ values) zero k e within = refl
  seen_at i (v ∷ values) (suc n) k e within =
      seen_at (suc i) values n k (omega (arith, e)) (omega (arith, within))

  pub shown_at : (i : ℕ) (values : List ℤ) (n k : ℕ) (d : Seen) → k ≡ i + n → n < length values
      → get_or (map (λ it. it.seen) (sought s form i values)) n d
      ≡ (sought_in (look s (slice_index_or values n (pos 0)) (form k))).seen
  shown_at i [] n k d e within = absurd (omega (arith, within))
  shown_at i (v ∷ values) zero k d e within =
      let same : i ≡ k = omega (arith, e) in
      ap (λ j. (sought_in (look s v (form j))).seen) same
  shown_at i (v ∷ values) (suc n) k d e within =
      shown_at (suc i) values n k d (omega (arith, e)) (omega (arith, within))

-- ---- their text

pub length-shown : (all : List (Sought ℕ)) → length (map (λ it. it.seen) all) ≡ length all
length-shown [] = refl
length-shown (it ∷ all) = ap suc (length-shown all)

module _ (all : List Seen) where
  pub text_more : (n : ℕ) (d : Seen) → n < length all
      → arguments_text (take (n + 1) all)
      ≡ arguments_text (take n all) ++ argument_text (get_or all n d)
  text_more n d h =
      ap arguments_text (take_more all n d h)
      ∙ flat_map-append argument_text (take n all) (get_or all n d ∷ [])
      ∙ ap (λ last. arguments_text (take n all) ++ last)
      (append-nil (argument_text (get_or all n d)))

  pub text_at : (n : ℕ) (d : Seen) → n < length all
      → arguments_text (take n all) ++
      (argument_text (get_or all n d) ++ arguments_text (drop (suc n) all)) ≡ arguments_text all
  text_at n d h =
      sym (ap (λ rest. arguments_text (take n all) ++ arguments_text rest) (drop-cons all n d h))
      ∙ sym (flat_map-append argument_text (take n all) (drop n all))
      ∙ ap arguments_text (take-append-drop n all)

-- ---- arguments that were counted

read_by : (o : Option (List ℤ)) (count : ℕ) → option_map (length {A = ℤ}) o ≡ Some count
    → length (unwrap_or o []) ≡ count
read_by None count e = absurd (cc e)
read_by (Some values) count e = let same : length values ≡ count = cc in same

pub counted_is : (s : State) (count : ℕ) → option_map (length {A = ℤ}) (arguments s) ≡ Some count
    → length (arguments_of s) ≡ count
counted_is s count e = read_by (arguments s) count e

-- the text up to the next of them
module _ (s : State) (form : ℕ → Form) (count i : ℕ)
    (counted : option_map (length {A = ℤ}) (arguments s) ≡ Some count) (less : i < count) where
  abbrev values : List ℤ
  values = arguments_of s

  abbrev all : List Seen
  all = map (λ it. it.seen) (sought s form 0 values)

  pub is_argument : i < length values
  is_argument = omega (arith, counted_is s count counted, less)

  is_shown : i < length all
  is_shown =
      omega (
        arith,
        is_argument,
        length-shown (sought s form 0 values),
        length-sought s form 0 values,
      )

  module _ (value : ℤ) (f : Form) (v : value ≡ get_or values i (pos 0)) (g : f ≡ form i) where
    abbrev piece : List ℕ
    piece = argument_text (sought_in (look s value f)).seen

    piece_is : piece ≡ argument_text (get_or all i (seen.Cell (pos 0)))
    piece_is =
        let same : i ≡ 0 + i = omega arith in
        ap (λ x. argument_text (sought_in (look s x f)).seen) v
        ∙ ap (λ x. argument_text (sought_in (look s (get_or values i (pos 0)) x)).seen) g
        ∙ ap argument_text
        (sym (shown_at s form 0 values i i (seen.Cell (pos 0)) same is_argument))

    pub text_next : arguments_text (take i all) ++ piece ≡ arguments_text (take (i + 1) all)
    text_next =
        ap (λ text. arguments_text (take i all) ++ text) piece_is
        ∙ sym (text_more all i (seen.Cell (pos 0)) is_shown)

    pub text_whole : (arguments_text (take i all) ++ piece) ++ arguments_text (drop (suc i) all)
        ≡ arguments_text all
    text_whole =
        let rest = arguments_text (drop (suc i) all) in
        append_assoc (arguments_text (take i all)) piece rest
        ∙ ap (λ text. arguments_text (take i all) ++ (text ++ rest)) piece_is
        ∙ text_at all i (seen.Cell (pos 0)) is_shown

pub readable : (s : State) (count index : ℕ)
    → option_map (length {A = ℤ}) (arguments s) ≡ Some count → index < count
    → index < unwrap_or (option_map (length {A = ℤ}) (arguments s)) 0
readable s count index e h = let same = ap (λ o. unwrap_or o 0) e in omega (arith, same, h)

-- ---- writes

put_held : (v : ℤ) (room : Option ℕ) (values : List ℤ)
    → put_into (held v room) values
    ≡ (if fits_in room (length values) then Some (record { to = bits_of v; values = values })
    else None)
put_held v None values = refl
put_held v (Some room) values = refl

module _ (s : State) (form : ℕ → Form) (values : List ℤ)
    (visible : all_seen s form 0 values ≡ true) where
  put_by : (write : Write) (b : Bool) → nat_lt write.arg (length values) ≡ b
      → put_for (slice_get (sought s form 0 values) write.arg) write.cells
      ≡ (if (b && fits_in (room_of (form write.arg)) (length write.cells))
      then Some (put_of values write) else None)
  put_by write true e =
      let within = ltb-true write.arg (length values) e in
      let n = write.arg in
      let v = slice_index_or values n (pos 0) in
      let same : n ≡ 0 + n = omega arith in
      ap (λ o. put_for o write.cells) (sought_at s form 0 values n n same within)
      ∙ ap (λ hold. put_into hold write.cells)
      (hold_is s v (form n) (sight_at s form 0 values n n same visible within))
      ∙ put_held v (room_of (form n)) write.cells
  put_by write false e =
      let past : length (sought s form 0 values) ≤ write.arg =
      omega (arith, length-sought s form 0 values, ltb-false write.arg (length values) e) in
      ap (λ o. put_for o write.cells) (slice_get_past (sought s form 0 values) write.arg past)

  put_is : (write : Write) → put_for (slice_get (sought s form 0 values) write.arg) write.cells
      ≡ (if is_allowed form (length values) write then Some (put_of values write) else None)
  put_is write = put_by write (nat_lt write.arg (length values)) refl

  pub puts_some : (writes : List Write) → list_all (is_allowed form (length values)) writes ≡ true
      → puts_of (sought s form 0 values) writes ≡ Some (map (put_of values) writes)
  puts_some [] h = refl
  puts_some (write ∷ writes) h =
      let parts =
      both (is_allowed form (length values) write)
      (list_all (is_allowed form (length values)) writes) h in
      ap (λ o. with_put o (puts_of (sought s form 0 values) writes))
      (put_is write ∙ ap (λ b. if b then Some (put_of values write) else None) parts.0)
      ∙ ap (λ o. with_put (Some (put_of values write)) o) (puts_some writes parts.1)

  none_by : (write : Write) (writes : List Write) (b : Bool)
      → is_allowed form (length values) write ≡ b
      → (b && list_all (is_allowed form (length values)) writes) ≡ false
      → (list_all (is_allowed form (length values)) writes ≡ false
      → puts_of (sought s form 0 values) writes ≡ None)
      → puts_of (sought s form 0 values) (write ∷ writes) ≡ None
  none_by write writes false e h rest =
      ap (λ o. with_put o (puts_of (sought s form 0 values) writes))
      (put_is write ∙ ap (λ b. if b then Some (put_of values write) else None) e)
  none_by write writes true e h rest =
      ap (λ o. with_put o (puts_of (sought s form 0 values) writes))
      (put_is write ∙ ap (λ b. if b then Some (put_of values write) else None) e)
      ∙ ap (λ o. with_put (Some (put_of values write)) o) (rest h)

  pub puts_none : (writes : List Write) → list_all (is_allowed form (length values)) writes ≡ false
      → puts_of (sought s form 0 values) writes ≡ None
  puts_none [] h = absurd (true≢false h)
  puts_none (write ∷ writes) h =
      none_by write writes (is_allowed form (length values) write) refl h (puts_none writes)

  -- ---- their places

  fitting : (room : Option ℕ) (count : ℕ) → fits_in room count ≡ true
      → (n : ℕ) × ((room ≡ Some n) × (count ≤ n))
  fitting None count h = absurd (true≢false (sym h))
  fitting (Some n) count h = (n, (refl, leb-true count n h))

  there_is : (write : Write) → is_allowed form (length values) write ≡ true
      → write.arg < length values
  there_is write h =
      ltb-true write.arg (length values)
      (both (nat_lt write.arg (length values))
      (fits_in (room_of (form write.arg)) (length write.cells)) h).0

  room_for : (write : Write) → is_allowed form (length values) write ≡ true
      → IsRoomFor s values write
  room_for write h =
      let n = write.arg in
      let same : n ≡ 0 + n = omega arith in
      let within = there_is write h in
      let fit =
      fitting (room_of (form n)) (length write.cells)
      (both (nat_lt n (length values))
      (fits_in (room_of (form n)) (length write.cells)) h).1 in
      let live =
      room_is s (slice_index_or values n (pos 0)) (form n) fit.0
      (sight_at s form 0 values n n same visible within) fit.1.0 in
      omega (arith, live, fit.1.1)

  pub all_there : (writes : List Write) → list_all (is_allowed form (length values)) writes ≡ true
      → All (λ write. write.arg < length values) writes
  all_there [] h = All-nil (λ write. write.arg < length values)
  all_there (write ∷ writes) h =
      let parts =
      both (is_allowed form (length values) write)
      (list_all (is_allowed form (length values)) writes) h in
      All-cons (λ write. write.arg < length values) write writes (there_is write parts.0)
      (all_there writes parts.1)

  pub all_room : (writes : List Write) → list_all (is_allowed form (length values)) writes ≡ true
      → All (IsRoomFor s values) writes
  all_room [] h = All-nil (IsRoomFor s values)
  all_room (write ∷ writes) h =
      let parts =
      both (is_allowed form (length values) write)
      (list_all (is_allowed form (length values)) writes) h in
      All-cons (IsRoomFor s values) write writes (room_for write parts.0) (all_room writes parts.1)
