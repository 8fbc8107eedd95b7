-- A stack of open files shows a page: what it has of the marks and of the open lines.
use Rattle.std.proofs.Common.{◌≡◌, List, [], ◌∷◌, Bool, false, if◌then◌else◌, refl}
use Rattle.pawn_outside.specs.Held.{Held}
use Rattle.pawn_pre.specs.declared.state.Conditional.{Conditional}
use Rattle.pawn_pre.specs.declared.state.Part.TheVariants.{Chosen, Waiting, Done}
use Rattle.pawn_pre.specs.Work.{conditional}
use Rattle.pawn_pre.specs.Conditionals.{dropped_if, dropped_elseif, dropped_else}
use Rattle.pawn_pre.specs.Kept.{size}
use Rattle.pawn_pre.specs.Marks.{Mark, begun, kept, rules, settings, conditionals}
use Rattle.pawn_pre.specs.Level.{Level}
use Rattle.pawn_pre.specs.OpenLines.{Open, End, place, lines_of_rows}
use Rattle.pawn_pre.specs.Outcome.{Outcome}
use Rattle.pawn_pre.specs.Page.{turn}
use Rattle.pawn_pre.specs.Partner.{Partner, partner}
use Rattle.pawn_pre.specs.Turn.{Turn}
use Rattle.pawn_pre.specs.Evaluation.{Value}
use Rattle.pawn_pre.specs.Walk.{Stack, Turned, On, Stopped}
use Rattle.pawn_pre.proofs.PageLaws.{EndsBy}

-- in a part that isn't chosen: none was so far, or one was, and whether the `#else` is past
pub data Way : Type 0 where
  Waits : Way
  Passes : Bool → Way

-- in a chosen part, or on the way to a conditional's partner, through conditionals of which each
-- has its `#else` past or not
pub data Mode : Type 0 where
  Reads : Mode
  Drops : Way → List Bool → Mode

unfoldable pub all_chosen : List Bool → List Conditional
all_chosen [] = []
all_chosen (past ∷ rest) = conditional Chosen past ∷ all_chosen rest

unfoldable pub passed : List Bool → List Conditional → List Conditional
passed [] outer = outer
passed (past ∷ inner) outer = conditional Done past ∷ passed inner outer

abbrev pub part_by : Way → Conditional
part_by Waits = conditional Waiting false
part_by (Passes past) = conditional Done past

-- the conditionals of the innermost file, on the stack and on the page
abbrev pub stacked : Mode → List Bool → List Conditional
stacked Reads outer = all_chosen outer
stacked (Drops way inner) outer = passed inner (part_by way ∷ all_chosen outer)

abbrev pub marked_by : Way → List Bool → List Bool
marked_by Waits outer = outer
marked_by (Passes past) outer = false ∷ outer

abbrev pub marked : Mode → List Bool → List Bool
marked Reads outer = outer
marked (Drops way inner) outer = marked_by way outer

abbrev pub shown : List Mark → Mode → List Bool → Level → List Level → Stack
shown marks mode outer top below = record {
  names = begun marks;
  below = below;
  work = record {
    lines = kept marks;
    size = size marks;
    rules = rules marks;
    settings = settings marks;
    top = record top { conditionals = stacked mode outer };
  };
}

-- the open lines
abbrev pub lines_in : Level → List Open → List Open
lines_in file rest =
    lines_of_rows file.file file.rows (End (place file.file file.last) file.unclosed ∷ rest)

unfoldable pub lines_below : List Level → List Open
lines_below [] = []
lines_below (file ∷ below) = lines_in file (lines_below below)

abbrev pub lines_open : Level → List Level → List Open
lines_open top below = lines_in top (lines_below below)

-- the files below are in chosen parts
unfoldable pub Covers : List (List Bool) → List Level → Type 0
Covers [] [] = Unit {0}
Covers (outer ∷ lower) (file ∷ below) = (file.conditionals ≡ all_chosen outer) × Covers lower below
Covers [] (file ∷ below) = ⊥
Covers (outer ∷ lower) [] = ⊥

-- the turn that is on its way
abbrev pub dropped_by : Way → List Mark → Partner → Turn
dropped_by Waits marks found = dropped_if marks found
dropped_by (Passes past) marks found =
    if past then dropped_else marks found else dropped_elseif marks found

abbrev pub pending : Value → Held → Mode → List Mark → List Open → Turn
pending value map Reads marks rest = turn value map marks rest
pending value map (Drops way inner) marks rest = dropped_by way marks (partner inner rest)

-- a stack shows a page to which a turn leads
pub record Follows (value : Value) (map : Held) (s : Stack) (t : Turn) : Type 0 where
  pub marks : List Mark
  pub mode : Mode
  pub outer : List Bool
  pub lower : List (List Bool)
  pub top : Level
  pub below : List Level
  pub shows : s ≡ shown marks mode outer top below
  pub opens : conditionals marks ≡ marked mode outer ∷ lower
  pub covers : Covers lower below
  pub leads : (o : Outcome) → EndsBy value map (pending value map mode marks (lines_open top below))
      o → EndsBy value map t o

-- a step mirrors a turn
abbrev pub Mirrors : Value → Held → Turned → Turn → Type 0
Mirrors value map (On s) t = Follows value map s t
Mirrors value map (Stopped o) t = EndsBy value map t o

-- a page as it is follows the turn that is on its way
pub shown_stays : (value : Value) (map : Held) (marks : List Mark) (mode : Mode)
    (outer : List Bool) (lower : List (List Bool)) (top : Level) (below : List Level)
    → conditionals marks ≡ marked mode outer ∷ lower → Covers lower below
    → Follows value map (shown marks mode outer top below)
    (pending value map mode marks (lines_open top below))
shown_stays value map marks mode outer lower top below opens covers = record {
  marks = marks;
  mode = mode;
  outer = outer;
  lower = lower;
  top = top;
  below = below;
  shows = refl;
  opens = opens;
  covers = covers;
  leads = λ o ends. ends;
}
