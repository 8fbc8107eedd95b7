-- Steps and turns at a line in a chosen part, conditionals and includes apart.
use Rattle.std.proofs.Common.{◌≡◌, ℕ, ◌+◌, ◌++◌, List, [], ◌∷◌, Bool, true, false, nat_lt}
use Rattle.std.proofs.Common.{if◌then◌else◌, cond, Option, Some, None, Result, Ok, Err, length}
use Rattle.std.proofs.Common.{refl}
use Rattle.pawn_cells.specs.Cells.{is_zero}
use Rattle.pawn_outside.specs.Held.{Held}
use Rattle.pawn_pre.specs.declared.directive.Setting.{Setting}
use Rattle.pawn_pre.specs.declared.directive.Setting.TheVariants as setting
use Rattle.pawn_pre.specs.declared.directive.Word.TheVariants as word
use Rattle.pawn_pre.specs.declared.line.TheConstants.{MOST_BYTES}
use Rattle.pawn_pre.specs.declared.work.Work.{Work}
use Rattle.pawn_pre.specs.Work.{act, keep_line, with_kept_line, is_in_chosen, define}
use Rattle.pawn_pre.specs.Work.{remove_definition, without, assert_true, set_pragma, pragma_by}
use Rattle.pawn_pre.specs.Work.{with_definition, with_settings, is_set}
use Rattle.pawn_pre.specs.Blanks.{past_blanks}
use Rattle.pawn_pre.specs.Define.{definition, undefined}
use Rattle.pawn_pre.specs.Directive.{pragma, quoted_byte}
use Rattle.pawn_pre.specs.Kept as kept_lines
use Rattle.pawn_pre.specs.Lists.{first_of}
use Rattle.pawn_pre.specs.Marks.{Mark, Keeps, Defines, Undefines, Stops, Demands, Packs, Controls}
use Rattle.pawn_pre.specs.Marks.{Reserves, begun, kept, rules, settings, conditionals}
use Rattle.pawn_pre.specs.Level.{Level, is_chosen}
use Rattle.pawn_pre.specs.OpenLines.{Open, End, place, lines_of_rows, to_end}
use Rattle.pawn_pre.specs.Page as page
use Rattle.pawn_pre.specs.Turn.{Turn, Goes, fault, or_fault_at}
use Rattle.pawn_pre.specs.Substitution.{expanded}
use Rattle.pawn_pre.specs.Evaluation.{Value, proceed, or_fault}
use Rattle.pawn_pre.specs.Walk.{worked}
use Rattle.pawn_pre.proofs.BoundLaws.{bytes_of-push}
use Rattle.pawn_pre.proofs.Mirror.{Mode, Reads, Covers, Follows, Mirrors, all_chosen, shown}
use Rattle.pawn_pre.proofs.Mirror.{lines_open, lines_below}
use Rattle.pawn_pre.proofs.PageLaws.{started}

-- a test that holds, and one that doesn't
pub holds : {A : Type 0} (P : A → Type 0) (t : Bool) (a b : A) → t ≡ true → P a → P (cond t a b)
holds P true a b e p = p
holds P false a b e p = absurd (cc)

pub fails : {A : Type 0} (P : A → Type 0) (t : Bool) (a b : A) → t ≡ false → P b → P (cond t a b)
fails P true a b e p = absurd (cc)
fails P false a b e p = p

pub in_chosen_part : (outer : List Bool) → is_chosen (first_of (all_chosen outer)) ≡ true
unfolding all_chosen
in_chosen_part [] = refl
in_chosen_part (past ∷ outer) = refl

to_end_rows : (file : ℕ) (rows : List _) (last : _) (unclosed : Bool) (rest : List Open) →
    to_end (lines_of_rows file rows (End last unclosed ∷ rest)) ≡ End last unclosed ∷ rest
unfolding to_end lines_of_rows
to_end_rows file [] last unclosed rest = refl
to_end_rows file (row ∷ rows) last unclosed rest = to_end_rows file rows last unclosed rest

module _ (value : Value) (map : Held) (marks : List Mark) (lower : List (List Bool)) (top : Level)
    (below : List Level) (covers : Covers lower below) (number : ℕ) where
  -- the value that both go on with, or the fault that both have
  pub by_result : {A : Type 0} (mode : Mode) (outer : List Bool) (r : Result A ℕ)
      (f : A → Result Work ℕ) (g : A → Turn) →
      ((a : A) → Mirrors value map (worked (shown marks mode outer top below) number (f a)) (g a)) →
      Mirrors value map (worked (shown marks mode outer top below) number (proceed r f))
      (or_fault_at marks (place top.file number) r g)
  by_result mode outer (Ok a) f g h = h a
  by_result mode outer (Err kind) f g h = refl

  -- the same lines, with other marks and conditionals
  pub reads_on : (new : List Mark) (outer : List Bool) → conditionals new ≡ outer ∷ lower →
      Follows value map (shown new Reads outer top below) (Goes new (lines_open top below))
  reads_on new outer e = record {
    marks = new;
    mode = Reads;
    outer = outer;
    lower = lower;
    top = top;
    below = below;
    shows = refl;
    opens = e;
    covers = covers;
    leads = λ o ends. started value map new (lines_open top below) o ends;
  }

  module _ (outer : List Bool) (opens : conditionals marks ≡ outer ∷ lower) where
    -- a directive in a chosen part
    pub chosen_then : (a b : Result Work ℕ) (t : Turn)
        → Mirrors value map (worked (shown marks Reads outer top below) number a) t →
        Mirrors value map (worked (shown marks Reads outer top below) number
        (cond (is_in_chosen (shown marks Reads outer top below).work) a b)) t
    chosen_then a b t h =
        holds (λ r. Mirrors value map (worked (shown marks Reads outer top below) number r) t) _ a b
        (in_chosen_part outer) h

    line_kept : (bytes : List ℕ) (t : Bool) →
        Mirrors value map (worked (shown marks Reads outer top below) number
        (cond t (Err 10) (Ok (record (shown marks Reads outer top below).work {
          lines = kept marks ++ kept_lines.line_at marks (place top.file number) bytes ∷ [];
          size = kept_lines.size marks + length bytes;
        })))
        ) (cond t (fault marks (place top.file number) 10)
        (Goes (Keeps (kept_lines.line_at marks (place top.file number) bytes) ∷ marks)
        (lines_open top below)))
    unfolding begun kept rules settings conditionals
    line_kept bytes true = refl
    line_kept bytes false =
        let new : List Mark =
        Keeps (kept_lines.line_at marks (place top.file number) bytes) ∷ marks in
        rw (← bytes_of-push (kept marks) (kept_lines.line_at marks (place top.file number) bytes))
        (reads_on new outer opens)

    pub keeps : (bytes : List ℕ) →
        Mirrors value map (worked (shown marks Reads outer top below) number
        (keep_line (shown marks Reads outer top below).work number bytes))
        (kept_lines.keep marks (place top.file number) bytes (lines_open top below))
    unfolding keep_line
    keeps bytes =
        chosen_then _ _ _ (by_result Reads outer
        (expanded (rules marks) (settings marks).control bytes)
        (λ line. with_kept_line (shown marks Reads outer top below).work number line)
        (λ line. kept_lines.with_line marks (place top.file number) line (lines_open top below))
        (λ line. line_kept line (nat_lt MOST_BYTES (kept_lines.size marks + length line))))

    pub defines : (bytes : List ℕ) →
        Mirrors value map (worked (shown marks Reads outer top below) number
        (act value (shown marks Reads outer top below).work word.Define bytes))
        (page.direct value map marks (place top.file number) word.Define bytes
        (lines_open top below))
    unfolding act define begun kept rules settings conditionals
    defines bytes =
        chosen_then _ _ _ (by_result Reads outer
        (or_fault 6 (definition (settings marks).control bytes))
        (λ d. Ok (with_definition (shown marks Reads outer top below).work d))
        (λ d. Goes (Defines d ∷ marks) (lines_open top below))
        (λ d. reads_on (Defines d ∷ marks) outer opens))

    undefines_by : (key : Option (List ℕ)) →
        Mirrors value map (worked (shown marks Reads outer top below) number
        (Ok (without (shown marks Reads outer top below).work key)))
        (page.undefine marks key (lines_open top below))
    unfolding begun kept rules settings conditionals
    undefines_by None = reads_on marks outer opens
    undefines_by (Some key) = reads_on (Undefines key ∷ marks) outer opens

    pub undefines : (bytes : List ℕ) →
        Mirrors value map (worked (shown marks Reads outer top below) number
        (act value (shown marks Reads outer top below).work word.Undef bytes))
        (page.direct value map marks (place top.file number) word.Undef bytes
        (lines_open top below))
    unfolding act remove_definition
    undefines bytes = chosen_then _ _ _ (undefines_by (undefined bytes))

    pub errs : (bytes : List ℕ) →
        Mirrors value map (worked (shown marks Reads outer top below) number
        (act value (shown marks Reads outer top below).work word.Error bytes))
        (page.direct value map marks (place top.file number) word.Error bytes
        (lines_open top below))
    unfolding act
    errs bytes = chosen_then _ _ _ refl

    asserted : (t : Bool) → Mirrors value map
        (worked (shown marks Reads outer top below) number
        (cond t (Err 5) (Ok (shown marks Reads outer top below).work)))
        (cond t (fault marks (place top.file number) 5) (Goes marks (lines_open top below)))
    asserted true = refl
    asserted false = reads_on marks outer opens

    pub asserts : (bytes : List ℕ) →
        Mirrors value map (worked (shown marks Reads outer top below) number
        (act value (shown marks Reads outer top below).work word.Assert bytes))
        (page.direct value map marks (place top.file number) word.Assert bytes
        (lines_open top below))
    unfolding act assert_true
    asserts bytes = chosen_then _ _ _ (by_result Reads outer (page.condition_at value marks bytes)
        (λ v. if is_zero v then Err 5 else Ok (shown marks Reads outer top below).work)
        (λ v. if is_zero v then fault marks (place top.file number) 5
        else Goes marks (lines_open top below))
        (λ v. asserted (is_zero v)))

    pub stops : (bytes : List ℕ) →
        Mirrors value map (worked (shown marks Reads outer top below) number
        (act value (shown marks Reads outer top below).work word.Endinput bytes))
        (page.direct value map marks (place top.file number) word.Endinput bytes
        (lines_open top below))
    unfolding act begun kept rules settings conditionals all_chosen lines_of_rows
    stops bytes = chosen_then _ _ _ (record {
      marks = Stops ∷ marks;
      mode = Reads;
      outer = [];
      lower = lower;
      top = record top { rows = [] };
      below = below;
      shows = refl;
      opens = rw opens refl;
      covers = covers;
      leads =
          λ o ends. rw (to_end_rows top.file top.rows (place top.file top.last) top.unclosed
          (lines_below below)) (started value map (Stops ∷ marks) _ o ends);
    })

    sets_by : (bytes : List ℕ) (s : Setting) →
        Mirrors value map (worked (shown marks Reads outer top below) number
        (pragma_by value (shown marks Reads outer top below).work bytes s))
        (page.set value marks (place top.file number) s bytes (lines_open top below))
    unfolding begun kept rules settings conditionals
    sets_by bytes setting.Semicolon = by_result Reads outer (page.number_at value marks bytes)
        (λ v. Ok (with_settings (shown marks Reads outer top below).work
        (record (settings marks) { strict = is_set v })))
        (λ v. Goes (Demands (is_set v) ∷ marks) (lines_open top below))
        (λ v. reads_on (Demands (is_set v) ∷ marks) outer opens)
    sets_by bytes setting.Pack = by_result Reads outer (page.number_at value marks bytes)
        (λ v. Ok (with_settings (shown marks Reads outer top below).work
        (record (settings marks) { packed = is_set v })))
        (λ v. Goes (Packs (is_set v) ∷ marks) (lines_open top below))
        (λ v. reads_on (Packs (is_set v) ∷ marks) outer opens)
    sets_by bytes setting.Control =
        by_result Reads outer (or_fault 11 (quoted_byte (past_blanks bytes)))
        (λ c. Ok (with_settings (shown marks Reads outer top below).work
        (record (settings marks) { control = c })))
        (λ c. Goes (Controls c ∷ marks) (lines_open top below))
        (λ c. reads_on (Controls c ∷ marks) outer opens)
    sets_by bytes setting.Dynamic = by_result Reads outer (page.number_at value marks bytes)
        (λ v. Ok (with_settings (shown marks Reads outer top below).work
        (record (settings marks) { dynamic = v })))
        (λ v. Goes (Reserves v ∷ marks) (lines_open top below))
        (λ v. reads_on (Reserves v ∷ marks) outer opens)
    sets_by bytes setting.Other = reads_on marks outer opens

    pub sets : (bytes : List ℕ) →
        Mirrors value map (worked (shown marks Reads outer top below) number
        (act value (shown marks Reads outer top below).work word.Pragma bytes))
        (page.direct value map marks (place top.file number) word.Pragma bytes
        (lines_open top below))
    unfolding act set_pragma
    sets bytes = chosen_then _ _ _ (sets_by (pragma bytes).rest (pragma bytes).setting)

    pub unknown : (bytes : List ℕ) →
        Mirrors value map (worked (shown marks Reads outer top below) number
        (act value (shown marks Reads outer top below).work word.Unknown bytes))
        (page.direct value map marks (place top.file number) word.Unknown bytes
        (lines_open top below))
    unfolding act
    unknown bytes = chosen_then _ _ _ refl
