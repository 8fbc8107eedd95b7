-- Events one after another: their lines and the machines behind them, and what a fault leaves.
use Rattle.std.proofs.Common.{◌≡◌, ◌+◌, ◌<◌, ◌≤◌, ◌++◌, ◌∙◌, ℕ, zero, suc, List, [], ◌∷◌, Option, None}
use Rattle.std.proofs.Common.{Some, Result, Ok, Err, length, map, set, slice_get, refl, sym, ap, ap₂}
use Rattle.std.proofs.Common.{subst, append-nil, append_assoc, arith, codes, take, drop, get_or}
use Rattle.std.proofs.Common.{slice_set}
use Rattle.std.specs.Fmt.{decimal}
use Rattle.std.proofs.lemmas.Grind.{flat_map-append}
use Rattle.std.proofs.lemmas.List.{length-set, take_more}
use Rattle.std.proofs.lemmas.Option.{slice_get-get_or}
use Rattle.std.specs.List.{flat_map}
use Rattle.pawn_outside.specs.Said.{Said}
use Rattle.pawn_outside.specs.Taken.{with_more, WroteFront}
use Rattle.pawn_outside.specs.declared.fault.SinkFault.{SinkFault}
use Rattle.pawn_outside.proofs.SaidLaws.{said_as, said_then, said_cut}
use Rattle.pawn_outside.proofs.TakenLaws.{with_more-with_more}
use Rattle.host_many.specs.declared.turn.Turn.{Turn}
use Rattle.host_many.specs.declared.turn.Turn.TheVariants.{Start, Go}
use Rattle.host_many.specs.Own.{Guest, own, turned}
use Rattle.host_many.specs.Serves.{Line, line_text, lines_text, numbered, front_of, machine_of}
use Rattle.host_many.specs.Serves.{Serving, served, served_one, served_by, served_text, with_told}
use Rattle.host_many.specs.Serves.{IsCut, IsCutOff}
use Rattle.host_many.specs.Serves as cut
use Rattle.host_many.specs.TurnsSo.{IsCutTurn, rows_text}

-- the lines of one machine, as they are printed
pub numbered_text : (machine : ℕ) (lines : List (List ℕ))
    → lines_text (numbered machine lines) ≡ rows_text (front_of machine) lines
numbered_text machine [] = refl
numbered_text machine (line ∷ lines) =
    ap (λ text. (front_of machine ++ line) ++ text) (numbered_text machine lines)

-- ---- events behind others

pub lines_append : (guests : List Guest) (a b : List Turn)
    → (served guests (a ++ b)).lines
    ≡ (served guests a).lines ++ (served (served guests a).guests b).lines
lines_append guests [] b = refl
lines_append guests (turn ∷ a) b =
    let one = served_one turn guests in
    ap (λ lines. one.lines ++ lines) (lines_append one.guests a b)
    ∙ sym (append_assoc one.lines (served one.guests a).lines
    (served (served one.guests a).guests b).lines)

pub guests_append : (guests : List Guest) (a b : List Turn)
    → (served guests (a ++ b)).guests ≡ (served (served guests a).guests b).guests
guests_append guests [] b = refl
guests_append guests (turn ∷ a) b = guests_append (served_one turn guests).guests a b

pub text_append : (guests : List Guest) (a b : List Turn)
    → served_text guests (a ++ b) ≡ served_text guests a ++ served_text (served guests a).guests b
text_append guests a b =
    ap lines_text (lines_append guests a b)
    ∙ flat_map-append line_text (served guests a).lines (served (served guests a).guests b).lines

-- ---- one event

module _ (guests : List Guest) (g : Guest) where
  one_is : (turn : Turn) → slice_get guests (machine_of turn) ≡ Some g
      → served_one turn guests ≡ with_told (machine_of turn) guests (turned turn g)
  one_is turn at = ap (served_by turn guests) at

  one_text : (turn : Turn) → slice_get guests (machine_of turn) ≡ Some g
      → served_text guests (turn ∷ []) ≡ rows_text (front_of (machine_of turn)) (turned turn g).lines
  one_text turn at =
      ap lines_text (append-nil (served_one turn guests).lines)
      ∙ ap (λ (it : Serving). lines_text it.lines) (one_is turn at)
      ∙ numbered_text (machine_of turn) (turned turn g).lines

  one_guests : (turn : Turn) → slice_get guests (machine_of turn) ≡ Some g
      → (served guests (turn ∷ [])).guests ≡ set guests (machine_of turn) (turned turn g).guest
  one_guests turn at = ap (λ (it : Serving). it.guests) (one_is turn at)

-- ---- one more event

module _ (guests : List Guest) (before : List Turn) (g : Guest) (now : List Guest)
    (now_is : now ≡ (served guests before).guests) where
  there : (i : ℕ) → slice_get now i ≡ Some g → slice_get (served guests before).guests i ≡ Some g
  there i at = ap (λ gs. slice_get gs i) (sym now_is) ∙ at

  pub next_text : (turn : Turn) → slice_get now (machine_of turn) ≡ Some g
      → served_text guests (before ++ turn ∷ [])
      ≡ served_text guests before ++ rows_text (front_of (machine_of turn)) (turned turn g).lines
  next_text turn at =
      text_append guests before (turn ∷ [])
      ∙ ap (λ text. served_text guests before ++ text)
      (one_text (served guests before).guests g turn (there (machine_of turn) at))

  pub next_guests : (turn : Turn) → slice_get now (machine_of turn) ≡ Some g
      → set now (machine_of turn) (turned turn g).guest
      ≡ (served guests (before ++ turn ∷ [])).guests
  next_guests turn at =
      ap (λ gs. set gs (machine_of turn) (turned turn g).guest) now_is
      ∙ sym (guests_append guests before (turn ∷ [])
      ∙ one_guests (served guests before).guests g turn (there (machine_of turn) at))

  -- ---- a fault

  -- what of an event comes before a step is one for the same machine, or nothing
  earlier_text : {turn done : Turn} {earlier : List Turn} → IsCut turn earlier done
      → slice_get now (machine_of turn) ≡ Some g
      → served_text guests (before ++ earlier)
      ≡ served_text guests before ++ rows_text (front_of (machine_of turn)) (own g earlier).lines
  earlier_text (cut.start machine name) at =
      ap (served_text guests) (append-nil before) ∙ sym (append-nil (served_text guests before))
  earlier_text (cut.go machine steps count some) at =
      next_text (Go machine count) at
      ∙ ap (λ lines. served_text guests before ++ rows_text (front_of machine) lines)
      (sym (append-nil (turned (Go machine count) g).lines))

  done_machine : {turn done : Turn} {earlier : List Turn} → IsCut turn earlier done
      → machine_of done ≡ machine_of turn
  done_machine (cut.start machine name) = refl
  done_machine (cut.go machine steps count some) = refl

  module _ (turn : Turn) (at : slice_get now (machine_of turn) ≡ Some g)
      (later all : List Turn) (all_is : before ++ turn ∷ later ≡ all)
      (taken mid after : Option (List ℕ)) (so_far : mid ≡ with_more taken (served_text guests before))
      (new : Guest) (it : IsCutTurn (front_of (machine_of turn)) turn g mid after new) where
    abbrev front : List ℕ
    front = front_of (machine_of turn)

    done_at : slice_get now (machine_of it.done) ≡ Some g
    done_at = ap (slice_get now) (done_machine it.cut) ∙ at

    done_text : served_text guests (before ++ it.done ∷ [])
        ≡ served_text guests before ++ rows_text front (turned it.done g).lines
    done_text =
        next_text it.done done_at
        ∙ ap (λ i. served_text guests before ++ rows_text (front_of i) (turned it.done g).lines)
        (done_machine it.cut)

    pub cut_off : IsCutOff guests all taken after (set now (machine_of turn) new)
    cut_off = record {
      before = before;
      turn = turn;
      later = later;
      all = all_is;
      earlier = it.earlier;
      done = it.done;
      cut = it.cut;
      guests_are =
          ap (λ g'. set now (machine_of turn) g') it.guest_is
          ∙ ap (λ i. set now i (turned it.done g).guest) (sym (done_machine it.cut))
          ∙ next_guests it.done done_at;
      line = it.line;
      shows =
          done_text
          ∙ ap (λ text. served_text guests before ++ text) it.shows
          ∙ sym (append_assoc (served_text guests before) (rows_text front (own g it.earlier).lines)
          it.line)
          ∙ ap (λ text. text ++ it.line) (sym (earlier_text it.cut at));
      some = it.some;
      front =
          subst (λ t. WroteFront t after it.line)
          (ap (λ t. with_more t (rows_text front (own g it.earlier).lines)) so_far
          ∙ with_more-with_more taken (served_text guests before)
          (rows_text front (own g it.earlier).lines)
          ∙ ap (with_more taken) (sym (earlier_text it.cut at))) it.partly;
    }

  -- the text of all events begins with theirs
  pub whole_text : (turn : Turn) (later all : List Turn) → before ++ turn ∷ later ≡ all
      → slice_get now (machine_of turn) ≡ Some g
      → (rest : List ℕ) × ((served_text guests before
      ++ rows_text (front_of (machine_of turn)) (turned turn g).lines) ++ rest
      ≡ served_text guests all)
  whole_text turn later all all_is at =
      let behind = before ++ turn ∷ [] in (
        served_text (served guests behind).guests later,
        ap (λ text. text ++ served_text (served guests behind).guests later)
            (sym (next_text turn at))
            ∙ sym (text_append guests behind later)
            ∙ ap (served_text guests) (append_assoc before (turn ∷ []) later ∙ all_is),
      )

-- ---- how many machines

length_one : (turn : Turn) (guests : List Guest) (found : Option Guest)
    → length (served_by turn guests found).guests ≡ length guests
length_one turn guests None = refl
length_one turn guests (Some g) = length-set guests (machine_of turn) (turned turn g).guest

pub length_served : (guests : List Guest) (turns : List Turn)
    → length (served guests turns).guests ≡ length guests
length_served guests [] = refl
length_served guests (turn ∷ turns) =
    length_served (served_one turn guests).guests turns
    ∙ length_one turn guests (slice_get guests (machine_of turn))

-- ---- one event of a list

parted : (xs : List Turn) (i : ℕ) (d : Turn) → i < length xs
    → take i xs ++ get_or xs i d ∷ drop (suc i) xs ≡ xs
parted [] i d h = absurd (omega (arith, h))
parted (x ∷ xs) zero d h = refl
parted (x ∷ xs) (suc i) d h = ap (λ ys. x ∷ ys) (parted xs i d (omega (arith, h)))

module _ (guests now : List Guest) (events : List Turn) (i n : ℕ) (turn : Turn) (d new : Guest)
    (digits : List ℕ) (within : i < length events)
    (now_is : now ≡ (served guests (take i events)).guests)
    (turn_is : turn ≡ get_or events i turn) (number : n ≡ machine_of turn)
    (inside : n < length now) (shown : digits ≡ decimal n) where
  abbrev g : Guest
  g = get_or now n d

  abbrev passed : List Turn
  passed = take i events

  its : slice_get now (machine_of turn) ≡ Some g
  its =
      ap (slice_get now) (sym number) ∙ slice_get-get_or now n d inside

  next : take (i + 1) events ≡ passed ++ turn ∷ []
  next = take_more events i turn within ∙ ap (λ t. passed ++ t ∷ []) (sym turn_is)

  all_is : passed ++ turn ∷ drop (suc i) events ≡ events
  all_is = ap (λ t. passed ++ t ∷ drop (suc i) events) turn_is ∙ parted events i turn within

  front_is : digits ++ codes ": " ≡ front_of (machine_of turn)
  front_is = ap (λ d. d ++ codes ": ") (shown ∙ ap decimal number)

  pub guests_next : new ≡ (turned turn g).guest
      → slice_set now n new ≡ (served guests (take (i + 1) events)).guests
  guests_next is =
      ap₂ (λ m x. set now m x) number is
      ∙ next_guests guests passed g now now_is turn its
      ∙ ap (λ ts. (served guests ts).guests) (sym next)

  module _ {S : Type 0} {taken : S → Option (List ℕ)} {faults : S → ℕ} {has_room : S → ℕ → Type 0}
      {begun mid out : S}
      (before : Said taken faults has_room begun mid (served_text guests passed) (Ok tt)) where
    pub text_next : {done : Unit {0}}
        → Said taken faults has_room mid out
        (rows_text (digits ++ codes ": ") (turned turn g).lines) (Ok done)
        → Said taken faults has_room begun out (served_text guests (take (i + 1) events)) (Ok tt)
    text_next said =
        said_as (sym (ap (served_text guests) next ∙ next_text guests passed g now now_is turn its))
        (said_then before
        (said_as (ap (λ front. rows_text front (turned turn g).lines) front_is) said))

    pub text_cut : {fault other : SinkFault}
        → Said taken faults has_room mid out
        (rows_text (digits ++ codes ": ") (turned turn g).lines) (Err fault)
        → Said taken faults has_room begun out (served_text guests events) (Err other)
    text_cut {other = other} said =
        let rest =
        whole_text guests passed g now now_is turn (drop (suc i) events) events all_is its in
        said_as rest.1 (said_cut rest.0 (Err other) refl (said_then before
        (said_as (ap (λ front. rows_text front (turned turn g).lines) front_is) said)))

    pub machines_cut : IsCutTurn (digits ++ codes ": ") turn g (taken mid) (taken out) new
        → IsCutOff guests events (taken begun) (taken out) (slice_set now n new)
    machines_cut it =
        let P : List ℕ → Type 0 = λ front. IsCutTurn front turn g (taken mid) (taken out) new in
        subst (λ m. IsCutOff guests events (taken begun) (taken out) (set now m new)) (sym number)
        (cut_off guests passed g now now_is turn its (drop (suc i) events) events all_is
        (taken begun) (taken mid) (taken out) before.whole new (subst P front_is it))
