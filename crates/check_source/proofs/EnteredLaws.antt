-- Automata whose entry functions are found one by one.
use Rattle.std.proofs.Common.{◌≡◌, ◌<◌, ◌+◌, ℕ, zero, suc, List, [], ◌∷◌, length, get_or, Option}
use Rattle.std.proofs.Common.{Some, refl, sym, ap, ◌∙◌, arith}
use Rattle.std.specs.Prelude.{slice_get}
use Rattle.std.proofs.lemmas.List.{length-map}
use Rattle.pawn_meaning.specs.Program.{Automaton}
use Rattle.types_rules.specs.Keys.{Enters}
use Rattle.types_rules.specs.Groups.{Group, number_of}
use Rattle.types_rules.specs.Automata.{entered}
use Rattle.check_source.specs.declared.automata.KnownAutomaton.{KnownAutomaton}
use Rattle.check_source.specs.AutomataView.{known_view, automata_view, known_entered}
use Rattle.check_source.specs.Update.{updated}
use Rattle.check_source.proofs.PlaceLaws.{map_updated}

got : (items : List KnownAutomaton) (i : ℕ) (x : KnownAutomaton) → i < length items
    → x ≡ get_or items i x
    → slice_get (automata_view items) i ≡ Some (known_view x)
got [] i x lt is = absurd (omega (arith, lt))
got (y ∷ ys) zero x lt is = ap (λ (z : KnownAutomaton). Some (known_view z)) (sym is)
got (y ∷ ys) (suc i) x lt is = let less : i < length ys = omega (arith, lt) in got ys i x less is

abbrev with_enter : Option ℕ → Automaton → Automaton
with_enter function it = record it { enter = function }

module _ (groups : List Group) where
  abbrev enter_by : Automaton → Automaton
  enter_by it = record it { enter = number_of groups (Enters it.name) }

  -- so many of the first ones have their entry functions
  abbrev pub enter_first : ℕ → List Automaton → List Automaton
  enter_first zero all = all
  enter_first (suc n) [] = []
  enter_first (suc n) (it ∷ more) = enter_by it ∷ enter_first n more

  enter_step : (all : List Automaton) (i : ℕ) (it : Automaton) (function : Option ℕ)
      → slice_get (enter_first i all) i ≡ Some it
      → function ≡ number_of groups (Enters it.name)
      → updated (enter_first i all) i (with_enter function) ≡ enter_first (suc i) all
  enter_step [] zero it function h e = absurd (let no : ⊥ = cc in no)
  enter_step [] (suc i) it function h e = absurd (let no : ⊥ = cc in no)
  enter_step (x ∷ xs) zero it function h e =
      let same : it ≡ x = cc in
      ap (λ (f : Option ℕ). record x { enter = f } ∷ xs)
      (e ∙ ap (λ (a : Automaton). number_of groups (Enters a.name)) same)
  enter_step (x ∷ xs) (suc i) it function h e =
      ap (λ (rest : List Automaton). enter_by x ∷ rest) (enter_step xs i it function h e)

  pub entered_more : (all : List Automaton) (i : ℕ) (old now : List KnownAutomaton)
      (x : KnownAutomaton) (function : Option ℕ)
      → automata_view old ≡ enter_first i all → i < length old → x ≡ get_or old i x
      → function ≡ number_of groups (Enters x.name)
      → now ≡ updated old i (known_entered function) → automata_view now ≡ enter_first (i + 1) all
  entered_more all i old now x function h lt is f e =
      let here : slice_get (enter_first i all) i ≡ Some (known_view x) =
      ap (λ (its : List Automaton). slice_get its i) (sym h) ∙ got old i x lt is in
      let next : suc i ≡ i + 1 = omega arith in
      ap automata_view e
      ∙ map_updated known_view old i (known_entered function) (with_enter function) (λ y. refl)
      ∙ ap (λ (its : List Automaton). updated its i (with_enter function)) h
      ∙ enter_step all i (known_view x) function here f
      ∙ ap (λ (n : ℕ). enter_first n all) next

  all_entered : (all : List Automaton) → enter_first (length all) all ≡ entered groups all
  unfolding entered
  all_entered [] = refl
  all_entered (it ∷ more) = ap (λ (rest : List Automaton). enter_by it ∷ rest) (all_entered more)

  pub entered_all : (begin now : List KnownAutomaton) (i : ℕ)
      → automata_view now ≡ enter_first i (automata_view begin) → i ≡ length begin
      → automata_view now ≡ entered groups (automata_view begin)
  entered_all begin now i h n =
      h ∙ ap (λ (m : ℕ). enter_first m (automata_view begin))
      (n ∙ sym (length-map begin known_view)) ∙ all_entered (automata_view begin)
