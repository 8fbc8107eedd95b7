-- A text that is lines of a plan up to a place: the plan that it is, or the line at which it is none.
use Rattle.std.proofs.Common.{◌≡◌, ◌≢◌, ◌∙◌, ◌<◌, ◌≤◌, ◌^◌, ◌+◌, ◌==◌, ◌++◌, ℕ, List, [], ◌∷◌, All}
use Rattle.std.proofs.Common.{codes, length, map, true, false, refl, sym, ap, subst, arith}
use Rattle.std.proofs.Common.{append_assoc, append-nil, length-append, Bool, Ok}
use Rattle.std.specs.Fmt.{decimal}
use Rattle.std.specs.List.{flat_map, onto_first}
use Rattle.std.proofs.lemmas.Bool.Decides.{nat_tests}
use Rattle.std.proofs.lemmas.List.{nil_from_length}
use Rattle.std.proofs.lemmas.Grind.{flat_map-append}
use Rattle.std.proofs.lemmas.List.Elements.{All-nil, All-cons, All-head, All-tail, All-append}
use Rattle.std.proofs.lemmas.List.Elements.{All-map, All-weaker}
use Rattle.host_many.specs.declared.turn.Turn.{Turn}
use Rattle.host_many.specs.declared.turn.Turn.TheVariants.{Start, Go}
use Rattle.host_plan.specs.declared.plan.MachineFiles.{MachineFiles}
use Rattle.host_plan.specs.declared.plan.Plan.{Plan}
use Rattle.host_plan.specs.Breaks.{BeginsPlan, BreaksAt, lines_of}
use Rattle.host_plan.specs.Lines.{IsDraft, IsNext, TakesText}
use Rattle.host_plan.specs.Plans.{AreFiles, IsEventFor, IsGraphic, IsPlan, IsWord, Spells, ended}
use Rattle.host_plan.specs.Plans.{machine_line, turn_line, plan_lines, three_words, no_lines}
use Rattle.host_plan.specs.Words.{AreSides, Lacks}
use Rattle.host_plan.proofs.NextLaws.{next_is, lines_more, draft_more}
use Rattle.host_plan.proofs.SideLaws.{lacks_by, lacks_both, lacks_more, word_lacks, decimal_lacks}

-- ---- the lines of a text

other_byte : (x : ℕ) → x ≢ 10 → (x == 10) ≡ false
other_byte x ne = grind (arith, nat_tests, ne)

pub line_ended : (line rest : List ℕ) → Lacks 10 line
    → lines_of (line ++ 10 ∷ rest) ≡ line ∷ lines_of rest
line_ended [] rest h = refl
line_ended (x ∷ line) rest h =
    rw (
      other_byte x (All-head (λ it. it ≢ 10) x line h),
      line_ended line rest (All-tail (λ it. it ≢ 10) x line h),
    ) refl

pub line_last : (line : List ℕ) → Lacks 10 line → 1 ≤ length line → lines_of line ≡ line ∷ []
line_last [] h some = absurd (omega (arith, some))
line_last (x ∷ []) h some = rw (other_byte x (All-head (λ it. it ≢ 10) x [] h)) refl
line_last (x ∷ y ∷ line) h some =
    rw (
      other_byte x (All-head (λ it. it ≢ 10) x (y ∷ line) h),
      line_last (y ∷ line) (All-tail (λ it. it ≢ 10) x (y ∷ line) h) (omega arith),
    ) refl

pub lines_ended : (lines : List (List ℕ)) (rest : List ℕ) → All (Lacks 10) lines
    → lines_of (ended lines ++ rest) ≡ lines ++ lines_of rest
lines_ended [] rest h = refl
lines_ended (line ∷ lines) rest h =
    ap lines_of (append_assoc (line ++ 10 ∷ []) (ended lines) rest
    ∙ append_assoc line (10 ∷ []) (ended lines ++ rest))
    ∙ line_ended line (ended lines ++ rest) (All-head (Lacks 10) line lines h)
    ∙ ap (λ more. line ∷ more) (lines_ended lines rest (All-tail (Lacks 10) line lines h))

-- ---- the lines of a plan have no byte 10

words_lack : (kind second third : List ℕ) → Lacks 10 kind → Lacks 10 second → Lacks 10 third
    → Lacks 10 (three_words kind second third)
words_lack kind second third a b c =
    lacks_both 10 kind (32 ∷ second ++ 32 ∷ third) a
    (lacks_more 10 32 (second ++ 32 ∷ third) (λ e. omega (arith, e))
    (lacks_both 10 second (32 ∷ third) b (lacks_more 10 32 third (λ e. omega (arith, e)) c)))

machine_lacks : (it : MachineFiles) → AreFiles it → Lacks 10 (machine_line it)
machine_lacks it files =
    words_lack (codes "machine") it.amx it.script (lacks_by 10 (codes "machine") refl)
    (word_lacks 10 it.amx (omega arith) files.amx) (word_lacks 10 it.script (omega arith) files.script)

turn_lacks : (count : ℕ) (turn : Turn) → count < 2 ^ 64 → IsEventFor count turn
    → Lacks 10 (turn_line turn)
turn_lacks count (Start machine name) small h =
    words_lack (codes "start") (decimal machine) name (lacks_by 10 (codes "start") refl)
    (decimal_lacks 10 (omega arith) machine (omega (arith, h.0, small)))
    (word_lacks 10 name (omega arith) h.1.word)
turn_lacks count (Go machine steps) small h =
    words_lack (codes "go") (decimal machine) (decimal steps) (lacks_by 10 (codes "go") refl)
    (decimal_lacks 10 (omega arith) machine (omega (arith, h.0, small)))
    (decimal_lacks 10 (omega arith) steps h.1)

pub draft_lacks : (plan : Plan) → IsDraft plan → All (Lacks 10) (plan_lines plan)
draft_lacks plan draft =
    let count : ℕ = length plan.machines in
    All-append (Lacks 10) (map machine_line plan.machines) (map turn_line plan.events)
    (All-map (Lacks 10) machine_line plan.machines
    (All-weaker AreFiles (λ it. Lacks 10 (machine_line it)) machine_lacks plan.machines draft.files))
    (All-map (Lacks 10) turn_line plan.events
    (All-weaker (IsEventFor count) (λ it. Lacks 10 (turn_line it))
    (λ turn h. turn_lacks count turn (omega (arith, draft.few)) h) plan.events draft.events))

plan_draft : (plan : Plan) → IsPlan plan → IsDraft plan
plan_draft plan is = record { few = is.few; files = is.files; events = is.events }

-- the text of a plan has its lines
pub spelled_lines : (text : List ℕ) (plan : Plan) → Spells text plan → lines_of text ≡ plan_lines plan
spelled_lines text plan it =
    ap lines_of (it.text_is ∙ sym (append-nil (ended (plan_lines plan))))
    ∙ lines_ended (plan_lines plan) [] (draft_lacks plan (plan_draft plan it.plan_is))
    ∙ append-nil (plan_lines plan)

-- ---- some plan begins with the lines of a draft

a_word : IsWord (97 ∷ [])
a_word = record {
  some = omega arith;
  graphic = All-cons IsGraphic 97 [] (omega arith, omega arith) (All-nil IsGraphic);
}

abbrev a_machine : MachineFiles
a_machine = record { amx = 97 ∷ []; script = 97 ∷ [] }

abbrev a_plan : Plan
a_plan = record { machines = a_machine ∷ []; events = [] }

a_plan_is : IsPlan a_plan
a_plan_is = record {
  some = omega arith;
  few = omega arith;
  files =
      All-cons AreFiles a_machine [] (record { amx = a_word; script = a_word }) (All-nil AreFiles);
  events = All-nil (IsEventFor 1);
}

no_event : (turn : Turn) → IsEventFor 0 turn → ⊥
no_event (Start machine name) h = omega (arith, h.0)
no_event (Go machine steps) h = omega (arith, h.0)

begins_by : (machines : List MachineFiles) (events : List Turn)
    → IsDraft (record { machines = machines; events = events })
    → BeginsPlan (map machine_line machines ++ map turn_line events)
begins_by [] [] draft =
    record { plan = a_plan; plan_is = a_plan_is; rest = plan_lines a_plan; lines_are = refl }
begins_by [] (turn ∷ events) draft =
    absurd (no_event turn (All-head (IsEventFor 0) turn events draft.events))
begins_by (it ∷ machines) events draft = record {
  plan = record { machines = it ∷ machines; events = events };
  plan_is = record {
    some = omega arith;
    few = draft.few;
    files = draft.files;
    events = draft.events;
  };
  rest = [];
  lines_are = sym (append-nil (map machine_line (it ∷ machines) ++ map turn_line events));
}

pub begins : (plan : Plan) → IsDraft plan → BeginsPlan (plan_lines plan)
begins plan draft = begins_by plan.machines plan.events (record {
  few = draft.few;
  files = draft.files;
  events = draft.events;
})

-- ---- where a text is no plan

-- no line of it may stand behind those of a draft
pub breaks : (text line : List ℕ) (others : List (List ℕ)) (plan : Plan) → IsDraft plan
    → lines_of text ≡ plan_lines plan ++ line ∷ others → ((it : _) → ¬ IsNext line plan it)
    → BreaksAt text (length (plan_lines plan) + 1)
breaks text line others plan draft all never = record {
  none = λ other it.
      (let next =
      next_is plan other line others it.plan_is (sym (spelled_lines text other it) ∙ all) in
      never next.it next.next);
  before = plan_lines plan;
  behind = line ∷ others;
  all = all;
  begins = begins plan draft;
  stops = λ given more e it.
      (let same : line ≡ given = cc in
      let next =
      next_is plan it.plan given it.rest it.plan_is
      (it.lines_are ∙ append_assoc (plan_lines plan) (given ∷ []) it.rest) in
      never next.it (subst (λ text. IsNext text plan next.it) (sym same) next.next));
  number_is = refl;
}

-- its lines are those of a draft, and it is no plan
pub lacks_more_lines : (text : List ℕ) (plan : Plan) → IsDraft plan
    → lines_of text ≡ plan_lines plan → ((other : Plan) → ¬ Spells text other)
    → BreaksAt text (length (plan_lines plan) + 1)
lacks_more_lines text plan draft all none = record {
  none = none;
  before = plan_lines plan;
  behind = [];
  all = all ∙ sym (append-nil (plan_lines plan));
  begins = begins plan draft;
  stops = λ given more e it. (let no : [] ≡ given ∷ more = e in cc no);
  number_is = refl;
}

-- a text without a line
pub empty_is_none : (other : Plan) → ¬ Spells [] other
empty_is_none other it = spells_nothing other.machines other.events it.plan_is.some it.text_is
  where
    spells_nothing : (machines : List MachineFiles) (events : List Turn) → 1 ≤ length machines
        → [] ≡ ended (map machine_line machines ++ map turn_line events) → ⊥
    spells_nothing [] events some e = omega (arith, some)
    spells_nothing (it ∷ machines) events some e = cc e

-- a text whose last line lacks its byte 10
pub unended_is_none : (text last : List ℕ) (plan : Plan) → text ≡ ended (plan_lines plan) ++ last
    → lines_of text ≡ plan_lines plan ++ last ∷ [] → (other : Plan) → ¬ Spells text other
unended_is_none text last plan is all other it =
    let lines : plan_lines other ≡ plan_lines plan ++ last ∷ [] =
    sym (spelled_lines text other it) ∙ all in
    let whole : text ≡ ended (plan_lines plan) ++ ended (last ∷ []) =
    it.text_is ∙ ap ended lines
    ∙ flat_map-append (λ line. line ++ 10 ∷ []) (plan_lines plan) (last ∷ []) in
    let a = length-append (ended (plan_lines plan)) last in
    let b = length-append (ended (plan_lines plan)) ((last ++ 10 ∷ []) ++ []) in
    let c = length-append (last ++ 10 ∷ []) [] in
    let d = length-append last (10 ∷ []) in
    let e : length text ≡ length (ended (plan_lines plan) ++ last) = ap length is in
    let f : length text ≡ length (ended (plan_lines plan) ++ ((last ++ 10 ∷ []) ++ [])) =
    ap length whole in
    omega (arith, a, b, c, d, e, f)

-- ---- how a text ends

-- nothing stands behind the last byte 10
pub spells_draft : (plan : Plan) (rest : List ℕ) → IsDraft plan → 1 ≤ length plan.machines
    → length rest ≡ 0 → Spells (ended (plan_lines plan) ++ rest) plan
spells_draft plan rest draft some none = record {
  plan_is =
      record { some = some; few = draft.few; files = draft.files; events = draft.events };
  text_is =
      ap (λ it. ended (plan_lines plan) ++ it) (nil_from_length rest none)
      ∙ append-nil (ended (plan_lines plan));
}

no_events : (events : List Turn) → All (IsEventFor 0) events → events ≡ []
no_events [] h = refl
no_events (turn ∷ events) h = absurd (no_event turn (All-head (IsEventFor 0) turn events h))

-- there is no line at all
pub breaks_empty : (plan : Plan) (rest : List ℕ) → IsDraft plan → length plan.machines ≡ 0
    → length rest ≡ 0 → BreaksAt (ended (plan_lines plan) ++ rest) 1
breaks_empty plan rest draft none ends = empty_by plan.machines plan.events rest none ends
    (record { few = draft.few; files = draft.files; events = draft.events })
  where
    empty_by : (machines : List MachineFiles) (events : List Turn) (rest : List ℕ)
        → length machines ≡ 0 → length rest ≡ 0
        → IsDraft (record { machines = machines; events = events })
        → BreaksAt (ended (map machine_line machines ++ map turn_line events) ++ rest) 1
    empty_by [] [] [] none ends draft =
        lacks_more_lines [] (record { machines = []; events = [] }) draft refl empty_is_none
    empty_by [] (turn ∷ events) rest none ends draft =
        absurd (no_event turn (All-head (IsEventFor 0) turn events draft.events))
    empty_by [] [] (x ∷ rest) none ends draft = absurd (omega (arith, ends))
    empty_by (it ∷ machines) events rest none ends draft = absurd (omega (arith, none))

-- the last line lacks its byte 10
pub breaks_last : (plan new : Plan) (rest : List ℕ) (taken : Bool) (count : ℕ) → IsDraft plan
    → Lacks 10 rest → 1 ≤ length rest → TakesText rest plan new (Ok taken)
    → count ≡ length (plan_lines new)
    → BreaksAt (ended (plan_lines plan) ++ rest) (count + 1)
breaks_last plan new rest true count draft lacks some (line, next, is) count_is =
    let text : List ℕ = ended (plan_lines plan) ++ rest in
    let more : plan_lines new ≡ plan_lines plan ++ rest ∷ [] =
    ap plan_lines is ∙ lines_more plan line next.follows
    ∙ ap (λ it. plan_lines plan ++ it ∷ []) (sym next.is) in
    let all : lines_of text ≡ plan_lines plan ++ rest ∷ [] =
    lines_ended (plan_lines plan) rest (draft_lacks plan draft)
    ∙ ap (λ it. plan_lines plan ++ it) (line_last rest lacks some) in
    subst (λ n. BreaksAt text (n + 1)) (sym count_is)
    (lacks_more_lines text new
    (subst IsDraft (sym is) (draft_more plan line draft next.fits next.follows))
    (all ∙ sym more) (unended_is_none text rest plan refl all))
breaks_last plan new rest false count draft lacks some takes count_is =
    let text : List ℕ = ended (plan_lines plan) ++ rest in
    let all : lines_of text ≡ plan_lines plan ++ rest ∷ [] =
    lines_ended (plan_lines plan) rest (draft_lacks plan draft)
    ∙ ap (λ it. plan_lines plan ++ it) (line_last rest lacks some) in
    let count_before : count ≡ length (plan_lines plan) =
    count_is ∙ ap (λ it. length (plan_lines it)) takes.1 in
    subst (λ n. BreaksAt text (n + 1)) (sym count_before)
    (breaks text rest [] plan draft all takes.0)

-- ---- a line with its byte 10

-- what was read of a text: a draft, and what stands behind it
pub record HasRead (text : List ℕ) (plan : Plan) (rest : List ℕ) : Type 0 where
  pub draft : IsDraft plan
  pub is : text ≡ ended (plan_lines plan) ++ rest

pub has_none : (text : List ℕ) (plan : Plan) → plan ≡ no_lines → HasRead text plan text
has_none text plan e =
    let P : Plan → Type 0 = λ it. HasRead text it text in
    subst P (sym e) (record {
      draft = record {
        few = omega arith;
        files = All-nil AreFiles;
        events = All-nil (IsEventFor 0);
      };
      is = refl;
    })

-- one more was taken
pub has_more : (text rest line behind : List ℕ) (plan new : Plan) → HasRead text plan rest
    → AreSides 10 rest line behind → TakesText line plan new (Ok true) → HasRead text new behind
has_more text rest line behind plan new it sides (taken, next, is) =
    let more : plan_lines new ≡ plan_lines plan ++ line ∷ [] =
    ap plan_lines is ∙ lines_more plan taken next.follows
    ∙ ap (λ given. plan_lines plan ++ given ∷ []) (sym next.is) in
    let front : ended (plan_lines new) ≡ ended (plan_lines plan) ++ ((line ++ 10 ∷ []) ++ []) =
    ap ended more ∙ flat_map-append (λ given. given ++ 10 ∷ []) (plan_lines plan) (line ∷ []) in
    record {
      draft = subst IsDraft (sym is) (draft_more plan taken it.draft next.fits next.follows);
      is =
          it.is ∙ ap (λ given. ended (plan_lines plan) ++ given) sides.is
          ∙ behind_line (ended (plan_lines plan)) line behind
          ∙ ap (λ given. given ++ behind) (sym front);
    }
  where
    behind_line : (read line behind : List ℕ)
        → read ++ (line ++ 10 ∷ behind) ≡ (read ++ ((line ++ 10 ∷ []) ++ [])) ++ behind
    behind_line read line behind = simp (append_assoc, append-nil) refl

-- none may stand there
pub has_bad : (text rest line behind : List ℕ) (plan new : Plan) (count : ℕ)
    → HasRead text plan rest → AreSides 10 rest line behind → TakesText line plan new (Ok false)
    → count ≡ length (plan_lines new) → BreaksAt text (count + 1)
has_bad text rest line behind plan new count it sides takes count_is =
    let all : lines_of text ≡ plan_lines plan ++ line ∷ lines_of behind =
    ap lines_of it.is ∙ lines_ended (plan_lines plan) rest (draft_lacks plan it.draft)
    ∙ ap (λ given. plan_lines plan ++ lines_of given) sides.is
    ∙ ap (λ given. plan_lines plan ++ given) (line_ended line behind sides.first) in
    let count_before : count ≡ length (plan_lines plan) =
    count_is ∙ ap (λ given. length (plan_lines given)) takes.1 in
    subst (λ n. BreaksAt text (n + 1)) (sym count_before)
    (breaks text line (lines_of behind) plan it.draft all takes.0)

-- what stands behind a line is shorter
pub shorter : (text line behind : List ℕ) → AreSides 10 text line behind
    → length behind < length text
shorter text line behind sides =
    let a = ap length sides.is in
    let b = length-append line (10 ∷ behind) in
    omega (arith, a, b)

-- each line has a byte at least
lines_short : (lines : List (List ℕ)) → length lines ≤ length (ended lines)
lines_short [] = omega arith
lines_short (line ∷ lines) =
    let a = length-append (line ++ 10 ∷ []) (ended lines) in
    let b = length-append line (10 ∷ []) in
    let more = lines_short lines in omega (arith, a, b, more)

pub few_lines : (text rest line : List ℕ) (plan new : Plan) → HasRead text plan rest
    → TakesText line plan new (Ok false) → length (plan_lines new) ≤ length text
few_lines text rest line plan new it takes =
    let a = ap length it.is in
    let b = length-append (ended (plan_lines plan)) rest in
    let short = lines_short (plan_lines plan) in
    let same : length (plan_lines new) ≡ length (plan_lines plan) =
    ap (λ given. length (plan_lines given)) takes.1 in
    omega (arith, a, b, short, same)
