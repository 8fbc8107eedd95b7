-- A text spells one plan at most, and breaks at one line at most.
use Rattle.std.proofs.Common.{◌≡◌, ◌≢◌, ◌∙◌, ◌<◌, ◌≤◌, ◌^◌, ◌+◌, ◌++◌, ℕ, zero, suc, List, [], ◌∷◌, All}
use Rattle.std.proofs.Common.{length, map, Result, Ok, Err, refl, sym, ap, subst, arith, append_assoc}
use Rattle.std.proofs.lemmas.List.Elements.{All-head, All-tail}
use Rattle.host_many.specs.declared.turn.Turn.{Turn}
use Rattle.host_plan.specs.declared.line.Line.{Line as LineOf}
use Rattle.host_plan.specs.declared.line.Line.TheVariants.{Machine, Event}
use Rattle.host_plan.specs.declared.plan.MachineFiles.{MachineFiles}
use Rattle.host_plan.specs.declared.plan.Plan.{Plan}
use Rattle.host_plan.specs.declared.plan.PlanFault.{PlanFault}
use Rattle.host_plan.specs.declared.plan.PlanFault.TheVariants.{Line, Memory}
use Rattle.host_plan.specs.Breaks.{BeginsPlan, BreaksAt, ReadsPlan, lines_of}
use Rattle.host_plan.specs.Plans.{AreFiles, IsEventFor, IsPlan, Spells, machine_line, turn_line}
use Rattle.host_plan.specs.Plans.{plan_lines}
use Rattle.host_plan.proofs.BreakLaws.{spelled_lines}
use Rattle.host_plan.proofs.LineLaws.{same_line}
use Rattle.host_plan.proofs.NextLaws.{fits_field, no_both}

-- ---- one plan

machine_in : LineOf → MachineFiles → MachineFiles
machine_in (Machine it) other = it
machine_in (Event turn) other = other

turn_in : LineOf → Turn → Turn
turn_in (Machine it) other = other
turn_in (Event turn) other = turn

one_machine : (a b : MachineFiles) → AreFiles a → AreFiles b → machine_line a ≡ machine_line b
    → a ≡ b
unfolding machine_in
one_machine a b fits other e =
    ap (λ it. machine_in it a) (same_line (Machine a) (Machine b) fits other e)

one_turn : (count : ℕ) (a b : Turn) → count < 2 ^ 32 → IsEventFor count a → IsEventFor count b
    → turn_line a ≡ turn_line b → a ≡ b
unfolding turn_in
one_turn count a b small fits other e =
    ap (λ it. turn_in it a)
    (same_line (Event a) (Event b) (fits_field count a small fits) (fits_field count b small other) e)

one_turns : (count : ℕ) (xs ys : List Turn) → count < 2 ^ 32 → All (IsEventFor count) xs
    → All (IsEventFor count) ys → map turn_line xs ≡ map turn_line ys → xs ≡ ys
one_turns count [] [] small h k e = refl
one_turns count [] (b ∷ ys) small h k e =
    absurd (let no : [] ≡ turn_line b ∷ map turn_line ys = e in cc no)
one_turns count (a ∷ xs) [] small h k e =
    absurd (let no : turn_line a ∷ map turn_line xs ≡ [] = e in cc no)
one_turns count (a ∷ xs) (b ∷ ys) small h k e =
    let first : turn_line a ≡ turn_line b = cc in
    let rest : map turn_line xs ≡ map turn_line ys = cc in
    let same : a ≡ b =
    one_turn count a b small (All-head (IsEventFor count) a xs h)
    (All-head (IsEventFor count) b ys k) first in
    let others : xs ≡ ys =
    one_turns count xs ys small (All-tail (IsEventFor count) a xs h)
    (All-tail (IsEventFor count) b ys k) rest in
    ap (λ x. x ∷ xs) same ∙ ap (λ zs. b ∷ zs) others

-- machines that are the same, and the lines behind them
record OneFront (xs ys : List MachineFiles) (us vs : List Turn) : Type 0 where
  machines : xs ≡ ys
  events : map turn_line us ≡ map turn_line vs

one_front : (xs ys : List MachineFiles) (us vs : List Turn) → All AreFiles xs → All AreFiles ys
    → map machine_line xs ++ map turn_line us ≡ map machine_line ys ++ map turn_line vs
    → OneFront xs ys us vs
one_front [] [] us vs h k e = record { machines = refl; events = e }
one_front [] (b ∷ ys) [] vs h k e =
    absurd (let no : [] ≡ machine_line b ∷ (map machine_line ys ++ map turn_line vs) = e in cc no)
one_front [] (b ∷ ys) (u ∷ us) vs h k e =
    absurd (no_both u b (let first : turn_line u ≡ machine_line b = cc in first))
one_front (a ∷ xs) [] us [] h k e =
    absurd (let no : machine_line a ∷ (map machine_line xs ++ map turn_line us) ≡ [] = e in cc no)
one_front (a ∷ xs) [] us (v ∷ vs) h k e =
    absurd (no_both v a (let first : turn_line v ≡ machine_line a = cc in first))
one_front (a ∷ xs) (b ∷ ys) us vs h k e =
    let first : machine_line a ≡ machine_line b = cc in
    let rest : map machine_line xs ++ map turn_line us ≡ map machine_line ys ++ map turn_line vs =
    cc in
    let same : a ≡ b =
    one_machine a b (All-head AreFiles a xs h) (All-head AreFiles b ys k) first in
    let others =
    one_front xs ys us vs (All-tail AreFiles a xs h) (All-tail AreFiles b ys k) rest in
    record {
      machines = ap (λ x. x ∷ xs) same ∙ ap (λ zs. b ∷ zs) others.machines;
      events = others.events;
    }

pub one_plan : (text : List ℕ) (p q : Plan) → Spells text p → Spells text q → p ≡ q
one_plan text p q is that =
    let lines : plan_lines p ≡ plan_lines q =
    sym (spelled_lines text p is) ∙ spelled_lines text q that in
    let front =
    one_front p.machines q.machines p.events q.events is.plan_is.files that.plan_is.files lines in
    let counts : length p.machines ≡ length q.machines = ap length front.machines in
    let Q : ℕ → Type 0 = λ n. All (IsEventFor n) q.events in
    let events : p.events ≡ q.events =
    one_turns (length p.machines) p.events q.events (omega (arith, is.plan_is.few))
    is.plan_is.events (subst Q (sym counts) that.plan_is.events) front.events in
    ap (λ x. record { machines = x; events = p.events }) front.machines
    ∙ ap (λ x. record { machines = q.machines; events = x }) events

-- ---- one line

-- of two fronts of some lines the shorter one goes on within the longer one
record GoesOn (short long behind : List (List ℕ)) : Type 0 where
  line : List ℕ
  others : List (List ℕ)
  rest : List (List ℕ)
  behind_is : behind ≡ line ∷ others
  long_is : long ≡ (short ++ line ∷ []) ++ rest

goes_on : (short long behind more : List (List ℕ)) → length short < length long
    → short ++ behind ≡ long ++ more → GoesOn short long behind
goes_on [] [] behind more less e = absurd (omega (arith, less))
goes_on [] (x ∷ long) behind more less e =
    record { line = x; others = long ++ more; rest = long; behind_is = e; long_is = refl }
goes_on (s ∷ short) [] behind more less e = absurd (omega (arith, less))
goes_on (s ∷ short) (x ∷ long) behind more less e =
    let first : s ≡ x = cc in
    let rest : short ++ behind ≡ long ++ more = cc in
    let it = goes_on short long behind more (omega (arith, less)) rest in
    record {
      line = it.line;
      others = it.others;
      rest = it.rest;
      behind_is = it.behind_is;
      long_is = ap (λ y. y ∷ long) (sym first) ∙ ap (λ ys. s ∷ ys) it.long_is;
    }

-- fewer lines begin that plan too
fewer : (lines rest : List (List ℕ)) → BeginsPlan (lines ++ rest) → BeginsPlan lines
fewer lines rest it = record {
  plan = it.plan;
  plan_is = it.plan_is;
  rest = rest ++ it.rest;
  lines_are = it.lines_are ∙ append_assoc lines rest it.rest;
}

not_before : (text : List ℕ) (m n : ℕ) (a : BreaksAt text m) (b : BreaksAt text n)
    → ¬ (length a.before < length b.before)
not_before text m n a b less =
    let it = goes_on a.before b.before a.behind b.behind less (sym a.all ∙ b.all) in
    a.stops it.line it.others it.behind_is
    (fewer (a.before ++ it.line ∷ []) it.rest (subst BeginsPlan it.long_is b.begins))

pub one_number : (text : List ℕ) (m n : ℕ) → BreaksAt text m → BreaksAt text n → m ≡ n
one_number text m n a b =
    let x = not_before text m n a b in
    let y = not_before text n m b a in
    let same : length a.before ≡ length b.before = omega (arith, x, y) in
    a.number_is ∙ ap (λ k. k + 1) same ∙ sym b.number_is

pub one_answer : (text : List ℕ) (a b : Result Plan PlanFault) → ReadsPlan text a
    → ReadsPlan text b → a ≢ Err Memory → b ≢ Err Memory → a ≡ b
one_answer text (Ok p) (Ok q) is that x y = ap Ok (one_plan text p q is that)
one_answer text (Ok p) (Err (Line n)) is that x y = absurd (that.none p is)
one_answer text (Ok p) (Err Memory) is that x y = absurd (y refl)
one_answer text (Err (Line m)) (Ok q) is that x y = absurd (is.none q that)
one_answer text (Err (Line m)) (Err (Line n)) is that x y =
    ap (λ k. Err (Line k)) (one_number text m n is that)
one_answer text (Err (Line m)) (Err Memory) is that x y = absurd (y refl)
one_answer text (Err Memory) b is that x y = absurd (x refl)
