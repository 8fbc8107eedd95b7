-- What the steps of a stack come to is what the turns of its page come to.
use Rattle.std.specs.Prelude.{IsSomeAnd}
use Rattle.pawn_pre.specs.Condition.{IsValue}
use Rattle.std.proofs.Common.{◌≡◌, ◌<◌, ◌≤◌, ℕ, zero, suc, length, arith, List, [], ◌∷◌, Bool, true}
use Rattle.std.proofs.Common.{false, Option, Some, None, Result, Ok, Err, refl, sym, ap, subst}
use Rattle.std.proofs.lemmas.Bool.{ltb-true, lt-ltb}
use Rattle.pawn_outside.specs.Answers.{IsRead}
use Rattle.pawn_outside.specs.declared.files.ReadAnswer.TheVariants as read
use Rattle.std.specs.FinMap.{get}
use Rattle.pawn_outside.specs.Held.{Held}
use Rattle.pawn_pre.specs.declared.directive.Word.{Word}
use Rattle.pawn_pre.specs.declared.directive.Word.TheVariants as word
use Rattle.pawn_pre.specs.declared.fault.PreFault.{PreFault}
use Rattle.pawn_pre.specs.declared.fault.PreFault.TheVariants as fault
use Rattle.pawn_pre.specs.declared.line.Lines.{Lines}
use Rattle.pawn_pre.specs.declared.row.Row.{Row}
use Rattle.pawn_pre.specs.Answers.{Answers}
use Rattle.pawn_pre.specs.WalkAnswers.{EndsIn}
use Rattle.pawn_pre.specs.Directive.{Directive, directive}
use Rattle.pawn_pre.specs.File.{file_of}
use Rattle.pawn_pre.specs.Marks.{Mark, Began, Ended, begun, kept, rules, settings, conditionals}
use Rattle.pawn_pre.specs.Level.{Level, opened}
use Rattle.pawn_pre.specs.OpenLines.{Line, End, place, text_by, lines_of_rows, lines_of_file}
use Rattle.pawn_pre.specs.Outcome.{Outcome, Whole, Fault, Long, is_long_file}
use Rattle.pawn_pre.specs.Page as page
use Rattle.pawn_pre.specs.Page.{turn, Comes, ComesFrom}
use Rattle.pawn_pre.specs.Partner.{partner}
use Rattle.pawn_pre.specs.Turn.{Turn, Goes}
use Rattle.pawn_pre.specs.Evaluation.{Value}
use Rattle.pawn_pre.specs.Walk as walks
use Rattle.pawn_pre.specs.Walk.{Stack, Turned, On, Stopped, step, run_walk, run_walk_by, WalkEnds}
use Rattle.pawn_pre.specs.Walk.{first_stack, at_end, line_by}
use Rattle.pawn_pre.proofs.Mirror.{Waits, Passes, Mode, Reads, Drops, Covers, Follows, Mirrors}
use Rattle.pawn_pre.proofs.Mirror.{all_chosen, passed, marked, shown, pending, lines_open}
use Rattle.pawn_pre.proofs.Mirror.{lines_below}
use Rattle.pawn_pre.proofs.MirrorDropped.{drops, drops_plain}
use Rattle.pawn_pre.proofs.MirrorInclude.{includes}
use Rattle.pawn_pre.proofs.MirrorKept.{keeps, defines, undefines, errs, asserts, stops, sets}
use Rattle.pawn_pre.proofs.MirrorKept.{unknown}
use Rattle.pawn_pre.proofs.MirrorParts.{ifs, elseifs, elses, endifs}
use Rattle.pawn_pre.proofs.PageLaws.{EndsBy, started}

-- ---- a line

module _ (value : Value) (map : Held) (marks : List Mark) (lower : List (List Bool)) (top : Level)
    (below : List Level) (covers : Covers lower below) (number : ℕ)
    (outer : List Bool) where
  directs : (opens : conditionals marks ≡ outer ∷ lower) (w : Word) (bytes : List ℕ) →
      Mirrors value map
      (walks.walk_directive value map (shown marks Reads outer top below) number w bytes)
      (page.direct value map marks (place top.file number) w bytes (lines_open top below))
  directs opens word.Define bytes =
      defines value map marks lower top below covers number outer opens bytes
  directs opens word.Undef bytes =
      undefines value map marks lower top below covers number outer opens bytes
  directs opens word.If bytes = ifs value map marks lower top below covers number outer opens bytes
  directs opens word.ElseIf bytes =
      elseifs value map marks lower top below covers number outer opens bytes
  directs opens word.Else bytes =
      elses value map marks lower top below covers number outer opens bytes
  directs opens word.Endif bytes =
      endifs value map marks lower top below covers number outer opens bytes
  directs opens word.Include bytes =
      includes value map marks lower top below covers number outer opens false bytes
  directs opens word.TryInclude bytes =
      includes value map marks lower top below covers number outer opens true bytes
  directs opens word.Error bytes =
      errs value map marks lower top below covers number outer opens bytes
  directs opens word.Assert bytes =
      asserts value map marks lower top below covers number outer opens bytes
  directs opens word.Endinput bytes =
      stops value map marks lower top below covers number outer opens bytes
  directs opens word.Pragma bytes =
      sets value map marks lower top below covers number outer opens bytes
  directs opens word.Unknown bytes =
      unknown value map marks lower top below covers number outer opens bytes

module _ (value : Value) (map : Held) (marks : List Mark) (lower : List (List Bool)) (top : Level)
    (below : List Level) (covers : Covers lower below) (outer : List Bool) where
  lined : (mode : Mode) → conditionals marks ≡ marked mode outer ∷ lower
      → (row : Row) (d : Option Directive) →
      Mirrors value map (line_by value map (shown marks mode outer top below) row d)
      (pending value map mode marks (Line (place top.file row.number) (text_by row.bytes d)
      ∷ lines_open top below))
  unfolding turn
  lined Reads opens row None =
      keeps value map marks lower top below covers row.number outer opens row.bytes
  lined Reads opens row (Some d) =
      directs value map marks lower top below covers row.number outer opens d.word d.rest
  lined (Drops way inner) opens row None =
      drops_plain value map marks lower top below covers row.number outer way inner opens row.bytes
  lined (Drops way inner) opens row (Some d) =
      drops value map marks lower top below covers row.number outer way inner opens d.word d.rest

-- ---- a file's end

module _ (value : Value) (map : Held) (marks : List Mark) (file last : ℕ) where
  closes_by : (lower : List (List Bool)) (below : List Level) → Covers lower below
      → conditionals marks ≡ [] ∷ lower → (rows : List Row) (unclosed : Bool) →
      Mirrors value map (walks.next_file
      (shown marks Reads [] (record {
        file = file;
        last = last;
        unclosed = unclosed;
        rows = rows;
        conditionals = [];
      }) below) below)
      (Goes (Ended ∷ marks) (lines_below below))
  unfolding Covers lines_below begun kept rules settings conditionals turn
  closes_by [] [] covers opens rows unclosed = started value map (Ended ∷ marks) [] _ refl
  closes_by (outer ∷ lower) (next ∷ below) covers opens rows unclosed = record {
    marks = Ended ∷ marks;
    mode = Reads;
    outer = outer;
    lower = lower;
    top = next;
    below = below;
    shows = ap (λ parts. record (shown (Ended ∷ marks) Reads outer next below) {
      work =
          record (shown (Ended ∷ marks) Reads outer next below).work
          { top = record next { conditionals = parts } };
    }) covers.0;
    opens = rw opens refl;
    covers = covers.1;
    leads = λ o ends. started value map (Ended ∷ marks) _ o ends;
  }
  closes_by [] (next ∷ below) covers opens rows unclosed = absurd covers
  closes_by (outer ∷ lower) [] covers opens rows unclosed = absurd covers

  ended : (mode : Mode) (outer : List Bool) (lower : List (List Bool)) (below : List Level)
      → Covers lower below → conditionals marks ≡ marked mode outer ∷ lower →
      (unclosed : Bool) (rows : List Row) →
      Mirrors value map (at_end (shown marks mode outer
      (record { file = file; last = last; unclosed = unclosed; rows = rows; conditionals = [] })
      below))
      (pending value map mode marks (End (place file last) unclosed ∷ lines_below below))
  unfolding at_end turn partner all_chosen passed
  ended Reads outer lower below covers opens true rows = refl
  ended Reads [] lower below covers opens false rows =
      rw opens (closes_by lower below covers opens rows false)
  ended Reads (past ∷ outer) lower below covers opens false rows = rw opens refl
  ended (Drops Waits inner) outer lower below covers opens true rows = refl
  ended (Drops (Passes true) inner) outer lower below covers opens true rows = refl
  ended (Drops (Passes false) inner) outer lower below covers opens true rows = refl
  ended (Drops Waits []) outer lower below covers opens false rows = refl
  ended (Drops (Passes true) []) outer lower below covers opens false rows = refl
  ended (Drops (Passes false) []) outer lower below covers opens false rows = refl
  ended (Drops Waits (past ∷ inner)) outer lower below covers opens false rows = refl
  ended (Drops (Passes true) (past ∷ inner)) outer lower below covers opens false rows = refl
  ended (Drops (Passes false) (past ∷ inner)) outer lower below covers opens false rows = refl

-- ---- a step

module _ (value : Value) (map : Held) where
  stepped : (marks : List Mark) (mode : Mode) (outer : List Bool) (lower : List (List Bool))
      (top : Level) (below : List Level) → Covers lower below →
      conditionals marks ≡ marked mode outer ∷ lower → (rows : List Row) →
      Mirrors value map (step value map (shown marks mode outer (record top { rows = rows }) below))
      (pending value map mode marks (lines_open (record top { rows = rows }) below))
  unfolding step lines_of_rows
  stepped marks mode outer lower top below covers opens [] =
      ended value map marks top.file top.last mode outer lower below covers opens top.unclosed []
  stepped marks mode outer lower top below covers opens (row ∷ rows) =
      lined value map marks lower (record top { rows = rows }) below covers outer mode opens row
      (directive row.bytes)

  -- ---- all steps

  by_step : (o : Outcome) (go_on : Stack → Option Outcome) →
      ((s : Stack) (t : Turn) → Follows value map s t → go_on s ≡ Some o → EndsBy value map t o) →
      (turned : Turned) (t : Turn) → Mirrors value map turned t → run_walk_by turned go_on ≡ Some o
      → EndsBy value map t o
  by_step o go_on next (On s) t m e = next s t m e
  by_step o go_on next (Stopped outcome) t m e = subst (λ p. EndsBy value map t p) (cc) m

  ends : (n : ℕ) (o : Outcome) (s : Stack) (t : Turn) → Follows value map s t
      → run_walk value map n s ≡ Some o → EndsBy value map t o
  unfolding run_walk
  ends zero o s t f e = absurd (cc)
  ends (suc n) o s t f e = f.leads o
      (by_step o (λ q. run_walk value map n q) (λ q u k. ends n o q u k) _ _
      (stepped f.marks f.mode f.outer f.lower f.top f.below f.covers f.opens f.top.rows)
      (subst (λ q. run_walk_by (step value map q) (λ r. run_walk value map n r) ≡ Some o)
      f.shows e))

  first : (name bytes : List ℕ) → Follows value map (first_stack name bytes)
      (Goes (Began name ∷ []) (lines_of_file 0 (file_of bytes) []))
  unfolding begun kept rules settings conditionals all_chosen lines_below Covers
  first name bytes = record {
    marks = Began name ∷ [];
    mode = Reads;
    outer = [];
    lower = [];
    top = opened 0 (file_of bytes);
    below = [];
    shows = refl;
    opens = refl;
    covers = tt;
    leads = λ o ends. started value map _ _ o ends;
  }

  first_ends : (name bytes : List ℕ) (o : Outcome) → WalkEnds value map (first_stack name bytes) o →
      page.Ends value map (Began name ∷ []) (lines_of_file 0 (file_of bytes) []) o
  first_ends name bytes o e = ends e.steps o _ _ (first name bytes) e.ends

  module _ (is : IsValue value) where
    comes : (name bytes : List ℕ) → get map name ≡ Some bytes → is_long_file bytes ≡ false
        → (o : Outcome) →
        WalkEnds value map (first_stack name bytes) o → Comes map name o
    comes name bytes held short o e = record {
      value = value;
      is_value = is;
      comes = rw held (rw short (first_ends name bytes o e));
    }

    -- the answer that the steps of the first stack give
    pub answers : (name bytes : List ℕ) → get map name ≡ Some bytes → is_long_file bytes ≡ false
        → (result : Result Lines PreFault) →
        EndsIn value map (first_stack name bytes) result → Answers map name result
    answers name bytes held short (Ok lines) e = comes name bytes held short (Whole lines) e
    answers name bytes held short (Err (fault.Source kind place file)) e =
        comes name bytes held short (Fault kind place file) e
    answers name bytes held short (Err fault.NoSource) e = absurd e
    answers name bytes held short (Err (fault.TooLarge file)) e =
        comes name bytes held short (Long file) e
    answers name bytes held short (Err fault.Files) e = tt
    answers name bytes held short (Err fault.Memory) e = tt

-- and so where the source was read
pub read_answers : (value : Value) → IsValue value → (map : Held) (held : Option Held)
    → held ≡ Some map → (name bytes : List ℕ) →
    IsRead held name 16777216 (read.Got bytes) → (walk : Stack) → walk ≡ first_stack name bytes →
    (result : Result Lines PreFault) → EndsIn value map walk result → Answers map name result
read_answers value is map held e name bytes was walk first result h =
    let known : IsRead (Some map) name 16777216 (read.Got bytes) =
    subst (λ m. IsRead m name 16777216 (read.Got bytes)) e was in
    answers value map is name bytes known.0 (short bytes known.1 _ refl) result
    (subst (λ s. EndsIn value map s result) first h)
  where
    short : (bytes : List ℕ) → length bytes ≤ 16777216 → (t : Bool) → is_long_file bytes ≡ t
        → is_long_file bytes ≡ false
    short bytes h true e =
        absurd (let more = ltb-true 16777216 (length bytes) e in omega (arith, h, more))
    short bytes h false e = e

-- where it isn't held
pub missing_answers : (value : Value) → IsValue value → (map : Held) (held : Option Held)
    → held ≡ Some map → (name : List ℕ) →
    IsRead held name 16777216 read.Missing → Answers map name (Err fault.NoSource)
missing_answers value is map held e name was =
    let known : IsRead (Some map) name 16777216 read.Missing =
    subst (λ m. IsRead m name 16777216 read.Missing) e was in
    record { value = value; is_value = is; comes = rw known refl }

-- and where it is too long
pub long_answers : (value : Value) → IsValue value → (map : Held) (held : Option Held)
    → held ≡ Some map → (name : List ℕ) →
    IsRead held name 16777216 read.TooLarge → Answers map name (Err (fault.TooLarge name))
long_answers value is map held e name was =
    let known : IsRead (Some map) name 16777216 read.TooLarge =
    subst (λ m. IsRead m name 16777216 read.TooLarge) e was in
    record { value = value; is_value = is; comes = by_held (get map name) known }
  where
    by_held : (found : Option (List ℕ)) → IsSomeAnd found (λ bytes. 16777216 < length bytes)
        → ComesFrom value map name found (Long name)
    by_held None h = absurd h
    by_held (Some bytes) h =
        let e : is_long_file bytes ≡ true = lt-ltb 16777216 (length bytes) h in rw e refl
