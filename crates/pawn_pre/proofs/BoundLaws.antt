-- Each step keeps the bounds.
use Rattle.std.proofs.Common.{◌≡◌, ℕ, ◌+◌, ◌<◌, ◌≤◌, ◌++◌, List, [], ◌∷◌, Bool, true, false, zero}
use Rattle.std.proofs.Common.{suc, cond, if◌then◌else◌, ltb, Option, Some, None, Result, Ok, Err}
use Rattle.std.proofs.Common.{length, refl, sym, ap, subst, ◌∙◌, arith}
use Rattle.std.specs.Prelude.{All}
use Rattle.std.proofs.lemmas.Bool.{ltb-false}
use Rattle.std.proofs.lemmas.List.{length-append}
use Rattle.std.proofs.lemmas.List.Elements.{All-append, All-weaker}
use Rattle.std.proofs.lemmas.List.Sums.{sum_by-append}
use Rattle.pawn_pre.specs.declared.line.Line.{Line}
use Rattle.pawn_pre.specs.declared.line.TheConstants.{MOST_BYTES}
use Rattle.pawn_pre.specs.declared.state.Part.{Part}
use Rattle.pawn_pre.specs.declared.state.Part.TheVariants.{Chosen, Waiting, Done}
use Rattle.pawn_pre.specs.declared.state.Conditional.{Conditional}
use Rattle.pawn_pre.specs.declared.work.Work.{Work}
use Rattle.pawn_pre.specs.declared.directive.Word.{Word}
use Rattle.pawn_pre.specs.declared.directive.Word.TheVariants as word
use Rattle.pawn_pre.specs.declared.directive.Setting.{Setting}
use Rattle.pawn_pre.specs.declared.directive.Setting.TheVariants as setting
use Rattle.pawn_pre.specs.Substitution.{expanded}
use Rattle.pawn_pre.specs.Directive.{pragma, quoted_byte}
use Rattle.pawn_pre.specs.Blanks.{past_blanks}
use Rattle.pawn_cells.specs.Cells.{is_zero}
use Rattle.pawn_pre.specs.Define.{definition, undefined}
use Rattle.pawn_pre.specs.Evaluation.{Value, proceed, or_fault}
use Rattle.pawn_pre.specs.Level.{Level}
use Rattle.pawn_pre.specs.Lists.{first_of}
use Rattle.pawn_pre.specs.Work.{act, keep_line, with_kept_line, line_of, is_in_chosen, begin_if}
use Rattle.pawn_pre.specs.Work.{turn_elseif, elseif_by, elseif_part, turn_else, else_by, end_if}
use Rattle.pawn_pre.specs.Work.{end_by, assert_true, define, remove_definition, without}
use Rattle.pawn_pre.specs.Work.{set_pragma, pragma_by, in_chosen, if_chosen, push, with_innermost}
use Rattle.pawn_pre.specs.Work.{condition_of, number_of, with_settings, is_set, with_definition}
use Rattle.pawn_pre.specs.Work.{conditional, part_of_value}
use Rattle.pawn_pre.specs.Walk.{Stack, stack_lines, entered, first_stack}
use Rattle.std.specs.Prelude.{IfOk}
use Rattle.pawn_cells.specs.declared.place.Place.{Place}
use Rattle.pawn_pre.specs.declared.refusal.Refusal.{Refusal}
use Rattle.pawn_pre.specs.declared.refusal.Refusal.TheVariants as refusal
use Rattle.pawn_pre.specs.declared.fault.PreFault.{PreFault}
use Rattle.pawn_pre.specs.Acted.{Acted}
use Rattle.pawn_pre.specs.WalkAnswers.{IsTold}
use Rattle.pawn_pre.specs.Bounds.{IsBounded, bytes_of, ArePlaced}
use Rattle.pawn_pre.specs.Sound.{Leaves, IsSound, IsSoundStack}

-- the lines, their bytes and the file stay, and no line is more left
record Same (w new : Work) : Type 0 where
  lines : new.lines ≡ w.lines
  size : new.size ≡ w.size
  file : new.top.file ≡ w.top.file
  rows : length new.top.rows ≤ length w.top.rows

Stays : Work → Result Work ℕ → Type 0
Stays w (Ok new) = Same w new
Stays w (Err kind) = Unit {0}

same : (w : Work) → Same w w
same w = record { lines = refl; size = refl; file = refl; rows = omega arith }

stays_then : {A : Type 0} (w : Work) (r : Result A ℕ) (f : A → Result Work ℕ)
    → ((a : A) → Stays w (f a)) → Stays w (proceed r f)
unfolding Stays
stays_then w (Ok a) f h = h a
stays_then w (Err kind) f h = tt

stays_if : (w : Work) (t : Bool) (a b : Result Work ℕ) → Stays w a → Stays w b
    → Stays w (cond t a b)
stays_if w true a b h k = h
stays_if w false a b h k = k

stays_elseif : (value : Value) (w : Work) (rest : List ℕ) (o : Option Conditional)
    → Stays w (elseif_by value w rest o)
unfolding Stays
stays_elseif value w rest None = tt
stays_elseif value w rest (Some c) = stays_if w c.past _ _ tt (by_part c.part)
  where
    by_part : (part : Part) → Stays w (elseif_part value w rest part)
    by_part Chosen = record { lines = refl; size = refl; file = refl; rows = omega arith }
    by_part Waiting =
        stays_then w (condition_of value w rest)
        (λ v. Ok (with_innermost w (conditional (part_of_value v) false)))
        (λ v. record { lines = refl; size = refl; file = refl; rows = omega arith })
    by_part Done = record { lines = refl; size = refl; file = refl; rows = omega arith }

stays_else : (w : Work) (o : Option Conditional) → Stays w (else_by w o)
unfolding Stays
stays_else w None = tt
stays_else w (Some c) =
    stays_if w c.past _ _ tt (record { lines = refl; size = refl; file = refl; rows = omega arith })

stays_end : (w : Work) (o : Option Conditional) → Stays w (end_by w o)
unfolding Stays
stays_end w None = tt
stays_end w (Some c) = record { lines = refl; size = refl; file = refl; rows = omega arith }

stays_without : (w : Work) (o : Option (List ℕ)) → Same w (without w o)
stays_without w None = same w
stays_without w (Some key) = record { lines = refl; size = refl; file = refl; rows = omega arith }

stays_pragma : (value : Value) (w : Work) (rest : List ℕ) (s : Setting)
    → Stays w (pragma_by value w rest s)
unfolding Stays
stays_pragma value w rest setting.Semicolon =
    stays_then w (number_of value w rest)
    (λ v. Ok (with_settings w (record w.settings { strict = is_set v })))
    (λ v. record { lines = refl; size = refl; file = refl; rows = omega arith })
stays_pragma value w rest setting.Pack =
    stays_then w (number_of value w rest)
    (λ v. Ok (with_settings w (record w.settings { packed = is_set v })))
    (λ v. record { lines = refl; size = refl; file = refl; rows = omega arith })
stays_pragma value w rest setting.Control =
    stays_then w (or_fault 11 (quoted_byte (past_blanks rest)))
    (λ c. Ok (with_settings w (record w.settings { control = c })))
    (λ v. record { lines = refl; size = refl; file = refl; rows = omega arith })
stays_pragma value w rest setting.Dynamic =
    stays_then w (number_of value w rest)
    (λ v. Ok (with_settings w (record w.settings { dynamic = v })))
    (λ v. record { lines = refl; size = refl; file = refl; rows = omega arith })
stays_pragma value w rest setting.Other = same w

stays_chosen : (value : Value) (w : Work) (d : Word) (rest : List ℕ)
    → Stays w (in_chosen value w d rest)
unfolding Stays define remove_definition assert_true set_pragma
stays_chosen value w word.Define rest =
    stays_then w (or_fault 6 (definition w.settings.control rest)) (λ d. Ok (with_definition w d))
    (λ d. record { lines = refl; size = refl; file = refl; rows = omega arith })
stays_chosen value w word.Undef rest = stays_without w (undefined rest)
stays_chosen value w word.If rest = same w
stays_chosen value w word.ElseIf rest = same w
stays_chosen value w word.Else rest = same w
stays_chosen value w word.Endif rest = same w
stays_chosen value w word.Include rest = same w
stays_chosen value w word.TryInclude rest = same w
stays_chosen value w word.Error rest = tt
stays_chosen value w word.Assert rest =
    stays_then w (condition_of value w rest) (λ v. if is_zero v then Err 5 else Ok w)
    (λ v. stays_if w (is_zero v) (Err 5) (Ok w) tt (same w))
stays_chosen value w word.Endinput rest =
    record { lines = refl; size = refl; file = refl; rows = omega arith }
stays_chosen value w word.Pragma rest =
    stays_pragma value w (pragma rest).rest (pragma rest).setting
stays_chosen value w word.Unknown rest = tt

stays_if_chosen : (value : Value) (w : Work) (d : Word) (rest : List ℕ)
    → Stays w (if_chosen value w d rest)
unfolding Stays
stays_if_chosen value w d rest =
    stays_if w (is_in_chosen w) _ _ (stays_chosen value w d rest) (same w)

stays : (value : Value) (w : Work) (d : Word) (rest : List ℕ) → Stays w (act value w d rest)
unfolding act begin_if turn_elseif turn_else end_if Stays
stays value w word.If rest =
    stays_if w (is_in_chosen w)
    (proceed (condition_of value w rest) (λ v. Ok (push w (part_of_value v))))
    (Ok (push w Done))
    (stays_then w (condition_of value w rest) (λ v. Ok (push w (part_of_value v)))
    (λ v. record { lines = refl; size = refl; file = refl; rows = omega arith }))
    (record { lines = refl; size = refl; file = refl; rows = omega arith })
stays value w word.ElseIf rest = stays_elseif value w rest (first_of w.top.conditionals)
stays value w word.Else rest = stays_else w (first_of w.top.conditionals)
stays value w word.Endif rest = stays_end w (first_of w.top.conditionals)
stays value w word.Define rest = stays_if_chosen value w word.Define rest
stays value w word.Undef rest = stays_if_chosen value w word.Undef rest
stays value w word.Include rest = stays_if_chosen value w word.Include rest
stays value w word.TryInclude rest = stays_if_chosen value w word.TryInclude rest
stays value w word.Error rest = stays_if_chosen value w word.Error rest
stays value w word.Assert rest = stays_if_chosen value w word.Assert rest
stays value w word.Endinput rest = stays_if_chosen value w word.Endinput rest
stays value w word.Pragma rest = stays_if_chosen value w word.Pragma rest
stays value w word.Unknown rest = stays_if_chosen value w word.Unknown rest

sound_same : (files : ℕ) (w new : Work) → Same w new → IsSound files w → IsSound files new
sound_same files w new s h = record {
  counted = s.size ∙ h.counted ∙ ap bytes_of (sym s.lines);
  small = let e = s.size in omega (arith, h.small);
  placed = subst (λ lines. ArePlaced files lines) (sym s.lines) h.placed;
  named = let e = s.file in omega (arith, h.named);
}

-- a directive keeps what is sound
pub acted_sound : (files : ℕ) (value : Value) (w new : Work) (d : Word) (rest : List ℕ)
    → act value w d rest ≡ Ok new → IsSound files w → IsSound files new
unfolding Stays
acted_sound files value w new d rest e h =
    sound_same files w new (subst (λ r. Stays w r) e (stays value w d rest)) h

-- and leaves no more lines
pub acted_rows : (value : Value) (w new : Work) (d : Word) (rest : List ℕ)
    → act value w d rest ≡ Ok new → length new.top.rows ≤ length w.top.rows
unfolding Stays
acted_rows value w new d rest e = (subst (λ r. Stays w r) e (stays value w d rest)).rows

All-none : {A : Type 0} (P : A → Type 0) → All P []
All-none P k d h = absurd (omega arith)

All-single : {A : Type 0} (P : A → Type 0) (x : A) → P x → All P (x ∷ [])
All-single P x p zero d h = p
All-single P x p (suc k) d h = absurd (omega arith)

All-push : {A : Type 0} (P : A → Type 0) (xs : List A) (x : A) → All P xs → P x
    → All P (xs ++ x ∷ [])
All-push P xs x h k = All-append P xs (x ∷ []) h (All-single P x k)

All-cons : {A : Type 0} (P : A → Type 0) (xs : List A) (x : A) → P x → All P xs → All P (x ∷ xs)
All-cons P xs x k h = All-append P (x ∷ []) xs (All-single P x k) h

All-rest : {A : Type 0} (P : A → Type 0) (xs : List A) (x : A) → All P (x ∷ xs) → All P xs
All-rest P xs x h k d l = h (suc k) d (omega arith)

All-first : {A : Type 0} (P : A → Type 0) (xs : List A) (x : A) → All P (x ∷ xs) → P x
All-first P xs x h = h 0 x (omega arith)

pub bytes_of-push : (lines : List Line) (line : Line)
    → bytes_of (lines ++ line ∷ []) ≡ bytes_of lines + length line.bytes
bytes_of-push lines line =
    sum_by-append (λ (l : Line). length l.bytes) lines (line ∷ []) ∙ omega arith

-- a line more keeps what is sound
IfSound : ℕ → Result Work ℕ → Type 0
IfSound files (Ok new) = IsSound files new
IfSound files (Err kind) = Unit {0}

line_sound : (files : ℕ) (w : Work) (number : ℕ) (bytes : List ℕ) → IsSound files w → (t : Bool)
    → ltb MOST_BYTES (w.size + length bytes) ≡ t →
    IfSound files (cond t (Err 10)
    (Ok (record w {
      lines = w.lines ++ line_of w number bytes ∷ [];
      size = w.size + length bytes;
    })))
unfolding IfSound
line_sound files w number bytes h true e = tt
line_sound files w number bytes h false e = record {
  counted =
      ap (λ n. n + length bytes) h.counted ∙ sym (bytes_of-push w.lines (line_of w number bytes));
  small = ltb-false MOST_BYTES (w.size + length bytes) e;
  placed =
      All-push (λ (line : Line). line.place.file < files) w.lines
      (line_of w number bytes) h.placed h.named;
  named = h.named;
}

kept_by : (files : ℕ) (w : Work) (number : ℕ) (r : Result (List ℕ) ℕ) → IsSound files w
    → IfSound files (proceed r (λ line. with_kept_line w number line))
unfolding IfSound
kept_by files w number (Ok line) h = line_sound files w number line h _ refl
kept_by files w number (Err kind) h = tt

kept_if : (files : ℕ) (t : Bool) (a b : Result Work ℕ) → IfSound files a → IfSound files b
    → IfSound files (cond t a b)
kept_if files true a b h k = h
kept_if files false a b h k = k

pub kept_sound : (files : ℕ) (w new : Work) (number : ℕ) (bytes : List ℕ)
    → keep_line w number bytes ≡ Ok new → IsSound files w → IsSound files new
unfolding keep_line IfSound
kept_sound files w new number bytes e h =
    subst (λ r. IfSound files r) e
    (kept_if files (is_in_chosen w) _ _
    (kept_by files w number (expanded w.rules w.settings.control bytes) h) h)

-- another innermost file of those begun
pub top_sound : (files : ℕ) (w : Work) (top : Level) → IsSound files w → top.file < files
    → IsSound files (record w { top = top })
top_sound files w top h k =
    record { counted = h.counted; small = h.small; placed = h.placed; named = k }

pub bounded : (p : Stack) → IsSoundStack p → IsBounded (stack_lines p)
bounded p h =
    record { small = let e = h.work.counted in omega (arith, h.work.small); placed = h.work.placed }

pub entered_sound : (p : Stack) (name bytes : List ℕ) → IsSoundStack p
    → IsSoundStack (entered p name bytes)
entered_sound p name bytes h =
    let longer : (n : ℕ) → n < length p.names → n < length (p.names ++ name ∷ []) =
    λ n k. omega (arith, k, length-append p.names (name ∷ [])) in
    record {
      work = record {
        counted = h.work.counted;
        small = h.work.small;
        placed =
            All-weaker (λ (line : Line). line.place.file < length p.names)
            (λ (line : Line). line.place.file < length (p.names ++ name ∷ []))
            (λ line k. longer line.place.file k) p.work.lines h.work.placed;
        named = omega (arith, length-append p.names (name ∷ []));
      };
      below =
          All-cons (λ (file : Level). file.file < length (p.names ++ name ∷ [])) p.below p.work.top
          (longer p.work.top.file h.work.named)
          (All-weaker (λ (file : Level). file.file < length p.names)
          (λ (file : Level). file.file < length (p.names ++ name ∷ []))
          (λ file k. longer file.file k) p.below h.below);
    }

pub first_sound : (name : List ℕ) (bytes : List ℕ) → IsSoundStack (first_stack name bytes)
first_sound name bytes = record {
  work =
      record {
        counted = refl;
        small = omega arith;
        placed = All-none (λ (line : Line). line.place.file < 1);
        named = omega arith;
      };
  below = All-none (λ (file : Level). file.file < 1);
}

pub next_sound : (p : Stack) (file : Level) (rest : List Level) → p.below ≡ file ∷ rest
    → IsSoundStack p →
    IsSoundStack (record { names = p.names; below = rest; work = record p.work { top = file } })
next_sound p file rest e h =
    let P : Level → Type 0 = λ f. f.file < length p.names in
    let all : All P (file ∷ rest) = subst (λ fs. All P fs) e h.below in
    record {
      work = top_sound (length p.names) p.work file h.work (All-first P rest file all);
      below = All-rest P rest file all;
    }

pub work_sound : (p : Stack) (w : Work) → IsSoundStack p → IsSound (length p.names) w
    → IsSoundStack (record p { work = w })
work_sound p w h k = record { work = k; below = h.below }

-- what a line's work leaves
pub told_leaves : (p new : Stack) (place : Place) (done : Result (Unit {0}) Refusal)
    (result : Result Bool PreFault) →
    IsTold p place done result → IfOk done (λ d. IsSoundStack new) → Leaves result new
told_leaves p new place (Ok d) result e h = subst (λ r. Leaves r new) (sym e) h
told_leaves p new place (Err (refusal.Fault kind)) (Ok b) e h = absurd e
told_leaves p new place (Err (refusal.Fault kind)) (Err r) e h = tt
told_leaves p new place (Err refusal.Memory) result e h = subst (λ r. Leaves r new) (sym e) tt

pub row_sound : (p : Stack) (top : Level) → top.file ≡ p.work.top.file → IsSoundStack p
    → IsSoundStack (record p { work = record p.work { top = top } })
row_sound p top e h =
    record {
      work = top_sound (length p.names) p.work top h.work (omega (arith, h.work.named));
      below = h.below;
    }

pub kept_page : (p : Stack) (new : Work) (number : ℕ) (bytes : List ℕ)
    (done : Result (Unit {0}) Refusal) → IsSoundStack p →
    Acted (keep_line p.work number bytes) done new
    → IfOk done (λ d. IsSoundStack (record p { work = new }))
kept_page p new number bytes (Ok d) h e =
    work_sound p new h (kept_sound (length p.names) p.work new number bytes e h.work)
kept_page p new number bytes (Err r) h e = tt

pub acted_page : (p : Stack) (new : Work) (value : Value) (w : Word) (rest : List ℕ)
    (done : Result (Unit {0}) Refusal) → IsSoundStack p →
    Acted (act value p.work w rest) done new
    → IfOk done (λ d. IsSoundStack (record p { work = new }))
acted_page p new value w rest (Ok d) h e =
    work_sound p new h (acted_sound (length p.names) value p.work new w rest e h.work)
acted_page p new value w rest (Err r) h e = tt
