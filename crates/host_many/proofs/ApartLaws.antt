-- An event changes its own machine alone, and its lines have that machine's number.
use Rattle.std.proofs.Common.{◌≡◌, ◌≢◌, ◌++◌, ◌∙◌, ◌==◌, ℕ, zero, suc, Bool, true, false, List, []}
use Rattle.std.proofs.Common.{◌∷◌, Option, None, Some, map, set, slice_get, cond, refl, sym, ap, ap₂}
use Rattle.std.proofs.Common.{subst}
use Rattle.std.specs.Prelude.{filter}
use Rattle.std.proofs.lemmas.Bool.{eq-eqb, eqb-true, ne_eqb}
use Rattle.std.proofs.lemmas.List.{map-append}
use Rattle.std.proofs.lemmas.List.Elements.{filter-append}
use Rattle.host_many.specs.declared.turn.Turn.{Turn}
use Rattle.host_many.specs.Own.{Guest, Told, own, turned}
use Rattle.host_many.specs.Serves.{Line, Serving, numbered, machine_of, served, served_one, served_by}
use Rattle.host_many.specs.Serves.{with_told}
use Rattle.host_many.specs.Apart.{events_of, lines_of, IsItsOwn, EachIsItsOwn, AgreeOn}
use Rattle.host_many.specs.Apart.{NoneSeesAnother}

-- ---- one element of a list

get_set : (xs : List Guest) (i : ℕ) (x y : Guest) → slice_get xs i ≡ Some y
    → slice_get (set xs i x) i ≡ Some x
get_set [] i x y e = absurd (cc e)
get_set (z ∷ xs) zero x y e = refl
get_set (z ∷ xs) (suc i) x y e = get_set xs i x y e

get_other : (xs : List Guest) (i j : ℕ) (x : Guest) → (i ≡ j → ⊥)
    → slice_get (set xs i x) j ≡ slice_get xs j
get_other [] i j x ne = refl
get_other (z ∷ xs) zero zero x ne = absurd (ne refl)
get_other (z ∷ xs) zero (suc j) x ne = refl
get_other (z ∷ xs) (suc i) zero x ne = refl
get_other (z ∷ xs) (suc i) (suc j) x ne = get_other xs i j x (λ e. ne (ap suc e))

-- ---- lines of a machine

lines_append : (machine : ℕ) (a b : List Line)
    → lines_of machine (a ++ b) ≡ lines_of machine a ++ lines_of machine b
lines_append machine a b =
    let p : Line → Bool = λ line. line.machine == machine in
    ap (map (λ (line : Line). line.text)) (filter-append p a b)
    ∙ map-append (λ (line : Line). line.text) (filter p a) (filter p b)

own_lines : (machine : ℕ) (lines : List (List ℕ))
    → lines_of machine (numbered machine lines) ≡ lines
own_lines machine [] = refl
own_lines machine (line ∷ lines) =
    rw (eq-eqb machine machine refl) (ap (λ ls. line ∷ ls) (own_lines machine lines))

other_lines : (i machine : ℕ) (lines : List (List ℕ)) → (i ≡ machine → ⊥)
    → lines_of machine (numbered i lines) ≡ []
other_lines i machine [] ne = refl
other_lines i machine (line ∷ lines) ne =
    rw (ne_eqb i machine ne) (other_lines i machine lines ne)

-- ---- one event

module _ (machine : ℕ) (turn : Turn) (turns : List Turn) where
  events_same : machine_of turn == machine ≡ true
      → events_of machine (turn ∷ turns) ≡ turn ∷ events_of machine turns
  events_same e = rw e refl

  events_other : machine_of turn == machine ≡ false
      → events_of machine (turn ∷ turns) ≡ events_of machine turns
  events_other e = rw e refl

abbrev Behind : ℕ → List Turn → Type 0
Behind machine turns = (guests : List Guest) (g : Guest) → slice_get guests machine ≡ Some g
    → IsItsOwn machine g turns (served guests turns)

-- one event of its own
same : (machine : ℕ) (turn : Turn) (turns : List Turn) (guests : List Guest) (g : Guest)
    → machine_of turn ≡ machine → slice_get guests machine ≡ Some g → Behind machine turns
    → IsItsOwn machine g (turn ∷ turns) (served guests (turn ∷ turns))
same machine turn turns guests g is at rest =
    let told = turned turn g in
    let one : served_one turn guests ≡ with_told machine guests told =
    ap (λ i. served_by turn guests (slice_get guests i)) is ∙ ap (served_by turn guests) at
    ∙ ap (λ i. with_told i guests told) is in
    let events = events_same machine turn turns (eq-eqb (machine_of turn) machine is) in
    let new = set guests machine told.guest in
    let it = rest new told.guest (get_set guests machine told.guest g at) in
    record {
      lines =
          ap (λ (o : Serving). lines_of machine (o.lines ++ (served o.guests turns).lines)) one
          ∙ lines_append machine (numbered machine told.lines) (served new turns).lines
          ∙ ap₂ (λ a b. a ++ b) (own_lines machine told.lines) it.lines
          ∙ ap (λ es. (own g es).lines) (sym events);
      guest =
          ap (λ (o : Serving). slice_get (served o.guests turns).guests machine) one
          ∙ it.guest
          ∙ ap (λ es. Some (own g es).guest) (sym events);
    }

-- one of another machine, or of none
module _ (machine : ℕ) (turn : Turn) (turns : List Turn) (guests : List Guest) (g : Guest)
    (ne : machine_of turn ≡ machine → ⊥) (at : slice_get guests machine ≡ Some g)
    (rest : Behind machine turns) where
  record Passes (o : Serving) : Type 0 where
    pub none : lines_of machine o.lines ≡ []
    pub there : slice_get o.guests machine ≡ Some g

  passes_by : (found : Option Guest) → Passes (served_by turn guests found)
  passes_by None = record { none = refl; there = at }
  passes_by (Some other) = record {
    none = other_lines (machine_of turn) machine (turned turn other).lines ne;
    there = get_other guests (machine_of turn) machine (turned turn other).guest ne ∙ at;
  }

  other : IsItsOwn machine g (turn ∷ turns) (served guests (turn ∷ turns))
  other =
      let o = served_one turn guests in
      let passes = passes_by (slice_get guests (machine_of turn)) in
      let it = rest o.guests g passes.there in
      let events = events_other machine turn turns (ne_eqb (machine_of turn) machine ne) in
      record {
        lines =
            lines_append machine o.lines (served o.guests turns).lines
            ∙ ap (λ ls. ls ++ lines_of machine (served o.guests turns).lines) passes.none
            ∙ it.lines ∙ ap (λ es. (own g es).lines) (sym events);
        guest = it.guest ∙ ap (λ es. Some (own g es).guest) (sym events);
      }

by_machine : (machine : ℕ) (turn : Turn) (turns : List Turn) (guests : List Guest) (g : Guest)
    (b : Bool) → machine_of turn == machine ≡ b → slice_get guests machine ≡ Some g
    → Behind machine turns
    → IsItsOwn machine g (turn ∷ turns) (served guests (turn ∷ turns))
by_machine machine turn turns guests g true e at rest =
    same machine turn turns guests g (eqb-true (machine_of turn) machine e) at rest
by_machine machine turn turns guests g false e at rest =
    other machine turn turns guests g
    (λ is. absurd (cc (eq-eqb (machine_of turn) machine is, e))) at rest

all_own : (machine : ℕ) (turns : List Turn) → Behind machine turns
all_own machine [] guests g at = record { lines = refl; guest = at }
all_own machine (turn ∷ turns) guests g at =
    by_machine machine turn turns guests g (machine_of turn == machine) refl at
    (all_own machine turns)

pub each_is_its_own : EachIsItsOwn
each_is_its_own guests turns machine g at = all_own machine turns guests g at

pub none_sees_another : NoneSeesAnother
none_sees_another a b s t machine g at there same =
    let one = each_is_its_own a s machine g at in
    let two = each_is_its_own b t machine g there in
    record {
      lines = one.lines ∙ ap (λ es. (own g es).lines) same ∙ sym two.lines;
      guest = one.guest ∙ ap (λ es. Some (own g es).guest) same ∙ sym two.guest;
    }
