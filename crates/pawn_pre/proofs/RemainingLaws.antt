-- Each step leaves less of a stack of open files.
use Rattle.std.proofs.Common.{◌≡◌, ℕ, ◌+◌, ◌<◌, ◌≤◌, ◌^◌, List, [], ◌∷◌, Bool, true, false, nat_lt}
use Rattle.std.proofs.Common.{cond, Some, None, Result, Ok, Err, length, sym, subst, arith}
use Rattle.std.specs.Prelude.{IfOk, OnOk}
use Rattle.std.proofs.lemmas.List.{length-append}
use Rattle.pawn_cells.specs.declared.place.Place.{Place}
use Rattle.pawn_pre.specs.declared.fault.PreFault.{PreFault}
use Rattle.pawn_pre.specs.declared.refusal.Refusal.{Refusal}
use Rattle.pawn_pre.specs.declared.refusal.Refusal.TheVariants as refusal
use Rattle.pawn_pre.specs.declared.row.Row.{Row}
use Rattle.pawn_pre.specs.declared.line.TheConstants.{MOST_BYTES}
use Rattle.pawn_pre.specs.declared.directive.Word.{Word}
use Rattle.pawn_pre.specs.declared.work.Work.{Work}
use Rattle.pawn_pre.specs.Acted.{Acted}
use Rattle.pawn_pre.specs.Work.{act, keep_line, with_kept_line, is_in_chosen}
use Rattle.pawn_pre.specs.WalkAnswers.{IsTold}
use Rattle.pawn_pre.specs.File.{file_of}
use Rattle.pawn_pre.specs.Lists.{first_of, rest_of}
use Rattle.pawn_pre.specs.Level.{Level}
use Rattle.pawn_pre.specs.Remaining.{remaining, waiting, FallsBelow}
use Rattle.pawn_pre.specs.Substitution.{expanded}
use Rattle.pawn_pre.specs.Evaluation.{Value, proceed}
use Rattle.pawn_pre.specs.Walk.{Stack, entered}
use Rattle.pawn_pre.proofs.BoundLaws.{acted_rows}

-- ---- each step

-- a file more is begun
pub entered_falls : (s : Stack) (name bytes : List ℕ) → length s.names < 2 ^ 64
    → length (file_of bytes).rows ≤ 16777216 → remaining (entered s name bytes) < remaining s + 1
unfolding remaining waiting
entered_falls s name bytes few short =
    let more = length-append s.names (name ∷ []) in
    omega (arith, more, few, short)

-- a file ends
pub next_falls : (s : Stack) (file : Level) (rest : List Level) → s.below ≡ file ∷ rest →
    remaining (record { names = s.names; below = rest; work = record s.work { top = file } })
    < remaining s
unfolding remaining waiting
next_falls s file rest e = rw e (omega arith)

-- as many names and files below, and no more lines
pub work_falls : (s : Stack) (w : Work) → length w.top.rows ≤ length s.work.top.rows
    → remaining (record s { work = w }) < remaining s + 1
unfolding remaining
work_falls s w h = omega (arith, h)

-- a line is taken off
row_by : (s : Stack) (row : Row) (rows : List Row) → Some row ≡ first_of rows →
    remaining (record s {
      work = record s.work { top = record s.work.top { rows = rest_of rows } };
    }) + 1 ≡ remaining (record s {
      work =
          record s.work { top = record s.work.top { rows = rows } };
    })
unfolding remaining
row_by s row [] e = absurd (none_some row e)
  where
    none_some : (r : Row) → Some r ≡ None → ⊥
    none_some r f = cc
row_by s row (first ∷ rows) e = omega arith

pub row_falls : (s : Stack) (top : Level) (row : Row) → Some row ≡ first_of s.work.top.rows
    → top ≡ record s.work.top { rows = rest_of s.work.top.rows } →
    remaining (record s { work = record s.work { top = top } }) + 1 ≡ remaining s
row_falls s top row e f = rw f (row_by s row s.work.top.rows e)

-- ---- what a line's work leaves

IfRows : Work → Result Work ℕ → Type 0
IfRows w (Ok new) = length new.top.rows ≤ length w.top.rows
IfRows w (Err kind) = Unit {0}

rows_if : (w : Work) (t : Bool) (a b : Result Work ℕ) → IfRows w a → IfRows w b
    → IfRows w (cond t a b)
rows_if w true a b h k = h
rows_if w false a b h k = k

rows_by : (w : Work) (number : ℕ) (r : Result (List ℕ) ℕ)
    → IfRows w (proceed r (λ line. with_kept_line w number line))
unfolding IfRows
rows_by w number (Ok line) =
    rows_if w (nat_lt MOST_BYTES (w.size + length line)) _ _ tt (omega arith)
rows_by w number (Err kind) = tt

kept_rows : (w new : Work) (number : ℕ) (bytes : List ℕ) → keep_line w number bytes ≡ Ok new
    → length new.top.rows ≤ length w.top.rows
unfolding keep_line IfRows
kept_rows w new number bytes e =
    subst (λ r. IfRows w r) e (rows_if w (is_in_chosen w) _ _
    (rows_by w number (expanded w.rules w.settings.control bytes)) (omega arith))

pub kept_falls : (p : Stack) (new : Work) (number : ℕ) (bytes : List ℕ)
    (done : Result (Unit {0}) Refusal) →
    Acted (keep_line p.work number bytes) done new
    → IfOk done (λ d. remaining (record p { work = new }) < remaining p + 1)
kept_falls p new number bytes (Ok d) e = work_falls p new (kept_rows p.work new number bytes e)
kept_falls p new number bytes (Err r) e = tt

pub acted_falls : (p : Stack) (new : Work) (value : Value) (w : Word) (rest : List ℕ)
    (done : Result (Unit {0}) Refusal) →
    Acted (act value p.work w rest) done new
    → IfOk done (λ d. remaining (record p { work = new }) < remaining p + 1)
acted_falls p new value w rest (Ok d) e = work_falls p new (acted_rows value p.work new w rest e)
acted_falls p new value w rest (Err r) e = tt

pub told_falls : (most : ℕ) (p new : Stack) (place : Place) (done : Result (Unit {0}) Refusal)
    (result : Result Bool PreFault) →
    IsTold p place done result → IfOk done (λ d. remaining new < most) → FallsBelow most result new
told_falls most p new place (Ok d) result e h = subst (λ r. FallsBelow most r new) (sym e) h
told_falls most p new place (Err (refusal.Fault kind)) (Ok b) e h = absurd e
told_falls most p new place (Err (refusal.Fault kind)) (Err r) e h = tt
told_falls most p new place (Err refusal.Memory) result e h =
    subst (λ r. FallsBelow most r new) (sym e) tt

-- ---- what a call leaves

pub entered_ok : {A E : Type 0} (r : Result A E) (s new : Stack) (name bytes : List ℕ)
    → length s.names < 2 ^ 64 → length (file_of bytes).rows ≤ 16777216 →
    OnOk r (new ≡ entered s name bytes) → OnOk r (remaining new < remaining s + 1)
entered_ok (Ok a) s new name bytes few short e = rw e (entered_falls s name bytes few short)
entered_ok (Err r) s new name bytes few short e = tt

module _ (s : Stack) (top : Level) (row : Row) (first : Some row ≡ first_of s.work.top.rows)
    (behind : top ≡ record s.work.top { rows = rest_of s.work.top.rows }) where
  most : remaining (record s { work = record s.work { top = top } }) + 1 ≡ remaining s
  most = row_falls s top row first behind

  pub kept_line : (new : Work) (number : ℕ) (bytes : List ℕ) (done : Result (Unit {0}) Refusal)
      (names : List (List ℕ)) (place : Place) (result : Result Bool PreFault) →
      Acted (keep_line (record s.work { top = top }) number bytes) done new
      → IsTold (record s { names = names }) place done result
      → FallsBelow (remaining s) result (record s { work = new })
  kept_line new number bytes done names place result e t =
      told_falls (remaining s) (record s { names = names }) _ place done result t
      (subst (λ n. IfOk done (λ d. remaining (record s { work = new }) < n)) most
      (kept_falls (record s { work = record s.work { top = top } }) new number bytes done e))

  pub acted_line : (new : Work) (value : Value) (w : Word) (rest : List ℕ)
      (done : Result (Unit {0}) Refusal) (names : List (List ℕ)) (place : Place)
      (result : Result Bool PreFault) →
      Acted (act value (record s.work { top = top }) w rest) done new
      → IsTold (record s { names = names }) place done result
      → FallsBelow (remaining s) result (record s { work = new })
  acted_line new value w rest done names place result e t =
      told_falls (remaining s) (record s { names = names }) _ place done result t
      (subst (λ n. IfOk done (λ d. remaining (record s { work = new }) < n)) most
      (acted_falls (record s { work = record s.work { top = top } }) new value w rest done e))

  pub included : (result : Result Bool PreFault) (new : Stack)
      → FallsBelow (remaining (record s { work = record s.work { top = top } }) + 1) result new →
      FallsBelow (remaining s) result new
  included result new h = subst (λ n. FallsBelow n result new) most h
