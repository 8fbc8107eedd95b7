-- Steps on the way to a conditional's partner: each leaves the same turn on its way, up to the
-- partner.
use Rattle.std.proofs.Common.{◌≡◌, ℕ, List, [], ◌∷◌, Bool, true, false, not, cond, Result, Ok, refl}
use Rattle.pawn_cells.specs.Cells.{is_zero}
use Rattle.pawn_outside.specs.Held.{Held}
use Rattle.pawn_cells.specs.declared.place.Place.{Place}
use Rattle.pawn_pre.specs.declared.directive.Word.{Word}
use Rattle.pawn_pre.specs.declared.directive.Word.TheVariants as word
use Rattle.pawn_pre.specs.declared.work.Work.{Work}
use Rattle.pawn_pre.specs.Work.{act, keep_line, begin_if, turn_elseif, turn_else, end_if}
use Rattle.pawn_pre.specs.Work.{elseif_by, else_by, end_by, is_in_chosen, with_innermost}
use Rattle.pawn_pre.specs.Work.{conditional, part_of_value}
use Rattle.pawn_pre.specs.Conditionals.{if_by}
use Rattle.pawn_pre.specs.Lists.{first_of}
use Rattle.pawn_pre.specs.Marks.{Mark, Opens, Closes, begun, kept, rules, settings, conditionals}
use Rattle.pawn_pre.specs.Level.{Level, is_chosen}
use Rattle.pawn_pre.specs.OpenLines.{Open, Line, Plain, Directs, place}
use Rattle.pawn_pre.specs.Page.{turn, condition_at}
use Rattle.pawn_pre.specs.Partner.{Lacks, partner}
use Rattle.pawn_pre.specs.Turn.{Turn, Goes, fault}
use Rattle.pawn_pre.specs.Evaluation.{Value}
use Rattle.pawn_pre.specs.Walk as walks
use Rattle.pawn_pre.specs.Walk.{Turned, On, Stopped, worked}
use Rattle.pawn_pre.proofs.Mirror.{Way, Waits, Passes, Drops, Covers, Follows, Mirrors, all_chosen}
use Rattle.pawn_pre.proofs.Mirror.{passed, part_by, marked_by, shown, shown_stays, dropped_by, lines_open}
use Rattle.pawn_pre.proofs.MirrorKept.{fails, by_result, reads_on}
use Rattle.pawn_pre.proofs.MirrorParts.{opened_by}
use Rattle.pawn_pre.proofs.PageLaws.{started}

not_chosen : (way : Way) (inner outer : List Bool)
    → is_chosen (first_of (passed inner (part_by way ∷ all_chosen outer))) ≡ false
unfolding passed
not_chosen Waits [] outer = refl
not_chosen (Passes past) [] outer = refl
not_chosen way (past ∷ inner) outer = refl

lacks : (way : Way) (marks : List Mark) (kind : ℕ) (at : Place)
    → dropped_by way marks (Lacks kind at) ≡ fault marks at kind
lacks Waits marks kind at = refl
lacks (Passes true) marks kind at = refl
lacks (Passes false) marks kind at = refl

-- a turn that goes on is followed where the next turn is
turned_on : (value : Value) (map : Held) (turned : Turned) (marks : List Mark) (rest : List Open)
    → Mirrors value map turned (turn value map marks rest) →
    Mirrors value map turned (Goes marks rest)
turned_on value map (On s) marks rest f = record {
  marks = f.marks;
  mode = f.mode;
  outer = f.outer;
  lower = f.lower;
  top = f.top;
  below = f.below;
  shows = f.shows;
  opens = f.opens;
  covers = f.covers;
  leads = λ o ends. started value map marks rest o (f.leads o ends);
}
turned_on value map (Stopped outcome) marks rest e = started value map marks rest outcome e

module _ (value : Value) (map : Held) (marks : List Mark) (lower : List (List Bool)) (top : Level)
    (below : List Level) (covers : Covers lower below) (number : ℕ)
    (outer : List Bool) where
  -- on the way, the same turn
  stays : (way : Way) (inner : List Bool) → conditionals marks ≡ marked_by way outer ∷ lower →
      Follows value map (shown marks (Drops way inner) outer top below)
      (dropped_by way marks (partner inner (lines_open top below)))
  stays way inner opens =
      shown_stays value map marks (Drops way inner) outer lower top below opens covers

  -- what is done in chosen parts only
  module _ (way : Way) (inner : List Bool)
      (opens : conditionals marks ≡ marked_by way outer ∷ lower) where
    passed_over : (a : Result Work ℕ) →
        Mirrors value map (worked (shown marks (Drops way inner) outer top below) number
        (cond (is_in_chosen (shown marks (Drops way inner) outer top below).work) a
        (Ok (shown marks (Drops way inner) outer top below).work)))
        (dropped_by way marks (partner inner (lines_open top below)))
    passed_over a =
        fails (λ r. Mirrors value map (worked (shown marks (Drops way inner) outer top below) number
        r) (dropped_by way marks (partner inner (lines_open top below))))
        _ a _ (not_chosen way inner outer) (stays way inner opens)

    pub drops_plain : (bytes : List ℕ) →
        Mirrors value map (worked (shown marks (Drops way inner) outer top below) number
        (keep_line (shown marks (Drops way inner) outer top below).work number bytes))
        (dropped_by way marks (partner inner
        (Line (place top.file number) (Plain bytes) ∷ lines_open top below)))
    unfolding keep_line partner
    drops_plain bytes = passed_over _

    include_passed : (optional : Bool) (bytes : List ℕ) →
        Mirrors value map
        (walks.walk_include map (shown marks (Drops way inner) outer top below) number
        optional bytes)
        (dropped_by way marks (partner inner (lines_open top below)))
    unfolding walks.walk_include
    include_passed optional bytes =
        fails (λ t. Mirrors value map t
        (dropped_by way marks (partner inner (lines_open top below))))
        _ _ _ (not_chosen way inner outer) (stays way inner opens)

    drops_if : (bytes : List ℕ) →
        Mirrors value map (worked (shown marks (Drops way inner) outer top below) number
        (act value (shown marks (Drops way inner) outer top below).work word.If bytes))
        (dropped_by way marks (partner (false ∷ inner) (lines_open top below)))
    unfolding act begin_if passed
    drops_if bytes =
        fails (λ r. Mirrors value map (worked (shown marks (Drops way inner) outer top below) number
        r) (dropped_by way marks (partner (false ∷ inner) (lines_open top below))))
        _ _ _ (not_chosen way inner outer) (stays way (false ∷ inner) opens)

  -- the partner's line
  dropped : Way → List Bool → Word → List ℕ → Turn
  dropped way inner w bytes =
      dropped_by way marks (partner inner
      (Line (place top.file number) (Directs w bytes) ∷ lines_open top below))

  drops_elseif : (way : Way) (inner : List Bool)
      (opens : conditionals marks ≡ marked_by way outer ∷ lower) (bytes : List ℕ) →
      Mirrors value map (worked (shown marks (Drops way inner) outer top below) number
      (elseif_by value (shown marks (Drops way inner) outer top below).work bytes
      (first_of (passed inner (part_by way ∷ all_chosen outer)))))
      (dropped way inner word.ElseIf bytes)
  unfolding dropped partner passed all_chosen turn
  drops_elseif way (true ∷ inner) opens bytes = rw (lacks way marks 2 (place top.file number)) refl
  drops_elseif way (false ∷ inner) opens bytes = stays way (false ∷ inner) opens
  drops_elseif Waits [] opens bytes =
      turned_on value map _ marks (Line (place top.file number) (Directs word.If bytes)
      ∷ lines_open top below)
      (by_result value map marks lower top below covers number (Drops Waits []) outer
      (condition_at value marks bytes)
      (λ v. Ok (with_innermost (shown marks (Drops Waits []) outer top below).work
      (conditional (part_of_value v) false)))
      (λ v. if_by (not (is_zero v)) marks (lines_open top below))
      (λ v. opened_by value map marks lower top below covers number outer opens (is_zero v)))
  drops_elseif (Passes true) [] opens bytes = refl
  drops_elseif (Passes false) [] opens bytes =
      turned_on value map (On (shown marks (Drops (Passes false) []) outer top below)) marks
      (Line (place top.file number) (Directs word.ElseIf bytes) ∷ lines_open top below)
      (rw opens (stays (Passes false) [] opens))

  drops_else : (way : Way) (inner : List Bool)
      (opens : conditionals marks ≡ marked_by way outer ∷ lower) (bytes : List ℕ) →
      Mirrors value map (worked (shown marks (Drops way inner) outer top below) number
      (else_by (shown marks (Drops way inner) outer top below).work
      (first_of (passed inner (part_by way ∷ all_chosen outer)))))
      (dropped way inner word.Else bytes)
  unfolding dropped partner passed all_chosen turn begun kept rules settings conditionals
  drops_else way (true ∷ inner) opens bytes = rw (lacks way marks 2 (place top.file number)) refl
  drops_else way (false ∷ inner) opens bytes = stays way (true ∷ inner) opens
  drops_else Waits [] opens bytes =
      reads_on value map marks lower top below covers number (Opens true ∷ marks) (true ∷ outer)
      (rw opens refl)
  drops_else (Passes true) [] opens bytes = refl
  drops_else (Passes false) [] opens bytes =
      turned_on value map (On (shown marks (Drops (Passes true) []) outer top below)) marks
      (Line (place top.file number) (Directs word.Else bytes) ∷ lines_open top below)
      (rw opens (stays (Passes true) [] opens))

  drops_endif : (way : Way) (inner : List Bool)
      (opens : conditionals marks ≡ marked_by way outer ∷ lower) (bytes : List ℕ) →
      Mirrors value map (worked (shown marks (Drops way inner) outer top below) number
      (end_by (shown marks (Drops way inner) outer top below).work
      (first_of (passed inner (part_by way ∷ all_chosen outer)))))
      (dropped way inner word.Endif bytes)
  unfolding dropped partner passed all_chosen begun kept rules settings conditionals
  drops_endif way (past ∷ inner) opens bytes = stays way inner opens
  drops_endif Waits [] opens bytes =
      reads_on value map marks lower top below covers number marks outer opens
  drops_endif (Passes true) [] opens bytes =
      reads_on value map marks lower top below covers number (Closes ∷ marks) outer (rw opens refl)
  drops_endif (Passes false) [] opens bytes =
      reads_on value map marks lower top below covers number (Closes ∷ marks) outer (rw opens refl)

  pub drops : (way : Way) (inner : List Bool)
      (opens : conditionals marks ≡ marked_by way outer ∷ lower) (w : Word) (bytes : List ℕ) →
      Mirrors value map (walks.walk_directive value map
      (shown marks (Drops way inner) outer top below) number w bytes) (dropped_by way marks
      (partner inner (Line (place top.file number) (Directs w bytes) ∷ lines_open top below)))
  unfolding dropped act turn_elseif turn_else end_if partner
  drops way inner opens word.Define bytes = passed_over way inner opens _
  drops way inner opens word.Undef bytes = passed_over way inner opens _
  drops way inner opens word.If bytes = drops_if way inner opens bytes
  drops way inner opens word.ElseIf bytes = drops_elseif way inner opens bytes
  drops way inner opens word.Else bytes = drops_else way inner opens bytes
  drops way inner opens word.Endif bytes = drops_endif way inner opens bytes
  drops way inner opens word.Include bytes = include_passed way inner opens false bytes
  drops way inner opens word.TryInclude bytes = include_passed way inner opens true bytes
  drops way inner opens word.Error bytes = passed_over way inner opens _
  drops way inner opens word.Assert bytes = passed_over way inner opens _
  drops way inner opens word.Endinput bytes = passed_over way inner opens _
  drops way inner opens word.Pragma bytes = passed_over way inner opens _
  drops way inner opens word.Unknown bytes = passed_over way inner opens _
