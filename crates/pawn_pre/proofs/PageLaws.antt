-- Turns of a page, one after another.
use Rattle.std.proofs.Common.{◌≡◌, ℕ, zero, suc, List, [], ◌∷◌, Bool, true, false, Option, Some}
use Rattle.std.proofs.Common.{None}
use Rattle.std.proofs.Common.{refl, ap, sym, subst, ◌∙◌}
use Rattle.std.specs.Bool.{MatchBool}
use Rattle.std.specs.FinMap.{get}
use Rattle.pawn_outside.specs.Held.{Held}
use Rattle.pawn_pre.specs.ConditionMachine.{value_of}
use Rattle.pawn_pre.proofs.ForCallers.{only_value}
use Rattle.pawn_pre.specs.File.{file_of}
use Rattle.pawn_pre.specs.Marks.{Mark, Began}
use Rattle.pawn_pre.specs.OpenLines.{Open, lines_of_file}
use Rattle.pawn_pre.specs.Outcome.{Outcome, Long, is_long_file}
use Rattle.pawn_pre.specs.Page.{turn, run, run_by, Ends, ComesFrom, Comes, HasOneOutcome}
use Rattle.pawn_pre.specs.Turn.{Turn, Goes, Halts}
use Rattle.pawn_pre.specs.Evaluation.{Value}

-- what a turn comes to
abbrev pub EndsBy : Value → Held → Turn → Outcome → Type 0
EndsBy value map (Goes marks rest) o = Ends value map marks rest o
EndsBy value map (Halts outcome) o = outcome ≡ o

module _ (value : Value) (map : Held) where
  started_by : (marks : List Mark) (rest : List Open) (o : Outcome) (t : Turn)
      → turn value map marks rest ≡ t → EndsBy value map t o → Ends value map marks rest o
  unfolding run
  started_by marks rest o (Goes next lines) e ends =
      record { turns = suc ends.turns; ends = rw e ends.ends }
  started_by marks rest o (Halts outcome) e ends = record { turns = 1; ends = rw e (ap Some ends) }

  -- a turn, and what it comes to
  pub started : (marks : List Mark) (rest : List Open) (o : Outcome)
      → EndsBy value map (turn value map marks rest) o → Ends value map marks rest o
  started marks rest o ends = started_by marks rest o (turn value map marks rest) refl ends

-- two runs that come to an end come to the same
one_turn : (value : Value) (map : Held) (m n : ℕ) (t : Turn) (a b : Outcome) →
    run_by t (λ next lines. run value map m next lines) ≡ Some a →
    run_by t (λ next lines. run value map n next lines) ≡ Some b →
    ((marks : List Mark) (rest : List Open) → run value map m marks rest ≡ Some a →
    run value map n marks rest ≡ Some b → a ≡ b) → a ≡ b
one_turn value map m n (Goes marks rest) a b x y same = same marks rest x y
one_turn value map m n (Halts o) a b x y same = cc

one_run : (value : Value) (map : Held) (m n : ℕ) (marks : List Mark) (rest : List Open)
    (a b : Outcome) →
    run value map m marks rest ≡ Some a → run value map n marks rest ≡ Some b → a ≡ b
unfolding run
one_run value map zero n marks rest a b x y = cc
one_run value map (suc m) zero marks rest a b x y = cc
one_run value map (suc m) (suc n) marks rest a b x y =
    one_turn value map m n (turn value map marks rest) a b x y
    (λ next lines. one_run value map m n next lines a b)

one_end : (value : Value) (map : Held) (marks : List Mark) (rest : List Open) (a b : Outcome) →
    Ends value map marks rest a → Ends value map marks rest b → a ≡ b
one_end value map marks rest a b x y =
    one_run value map x.turns y.turns marks rest a b x.ends y.ends

abbrev pub FirstEnds : Value → Held → List ℕ → List ℕ → Outcome → Type 0
FirstEnds value map name bytes o =
    Ends value map (Began name ∷ []) (lines_of_file 0 (file_of bytes) []) o

only_by : (value : Value) (map : Held) (name : List ℕ) (held : Option (List ℕ)) (a b : Outcome) →
    ComesFrom value map name held a → ComesFrom value map name held b → a ≡ b
only_by value map name None a b x y = x ∙ sym y
only_by value map name (Some bytes) a b x y = by_length (is_long_file bytes) x y
  where
    by_length : (t : Bool) → MatchBool t (a ≡ Long name) (FirstEnds value map name bytes a) →
        MatchBool t (b ≡ Long name) (FirstEnds value map name bytes b) → a ≡ b
    by_length true p q = p ∙ sym q
    by_length false p q = one_end value map _ _ a b p q

-- with the value that the code computes
computed : (map : Held) (name : List ℕ) (o : Outcome) → Comes map name o →
    ComesFrom value_of map name (get map name) o
computed map name o c =
    subst (λ v. ComesFrom v map name (get map name) o) (sym (only_value c.value c.is_value)) c.comes

-- a source comes to one outcome
pub only_outcome : (map : Held) (name : List ℕ) → HasOneOutcome map name
only_outcome map name a b x y =
    only_by value_of map name (get map name) a b (computed map name a x) (computed map name b y)
