-- Room for the addresses of each answer's writes.
use Rattle.std.proofs.Common.{◌≡◌, ◌+◌, ◌<◌, ◌≤◌, ◌++◌, ℕ, zero, suc, ℤ, pos, List, [], ◌∷◌, Option}
use Rattle.std.proofs.Common.{None, Some, max, length, take, get_or, slice_get, refl, sym, ap, ◌∙◌}
use Rattle.std.proofs.Common.{arith}
use Rattle.std.proofs.lemmas.List.{take_more}
use Rattle.host_script.specs.declared.script.Script.{Script}
use Rattle.host_script.specs.declared.script.Answer.{Answer}
use Rattle.host_script.specs.declared.script.Answer.TheVariants.{Given}
use Rattle.host_script.specs.declared.script.Write.{Write}
use Rattle.host_script.specs.Script.{turn_at, turn_by}
use Rattle.host_run.specs.Bound.{count_writes, most_writes}

-- no answer has more
few_writes : (answers : List Answer) (i : ℕ) (answer : Answer) → slice_get answers i ≡ Some answer
    → count_writes answer ≤ most_writes answers
few_writes [] i answer e = absurd (cc e)
few_writes (first ∷ answers) zero answer e =
    let same : first ≡ answer = cc e in omega (arith, ap count_writes same)
few_writes (first ∷ answers) (suc i) answer e = omega (arith, few_writes answers i answer e)

few_at : (answers : List Answer) (i : ℕ) (o : Option Answer) → slice_get answers i ≡ o
    → count_writes (turn_at o i).answer ≤ most_writes answers
few_at answers i None e = omega arith
few_at answers i (Some answer) e = few_writes answers i answer e

few_by : (own : Option ℤ) (script : Script) (i : ℕ)
    → count_writes (turn_by own script i).answer ≤ most_writes script.answers
few_by None script i = few_at script.answers i (slice_get script.answers i) refl
few_by (Some result) script i = omega arith

-- also none that is taken
pub few_taken : (own : Option ℤ) (script : Script) (i : ℕ) (result : ℤ) (writes : List Write)
    → (turn_by own script i).answer ≡ Given result writes → length writes ≤ most_writes script.answers
few_taken own script i result writes e = omega (arith, few_by own script i, ap count_writes e)

most_behind : (answers : List Answer) (answer : Answer)
    → most_writes (answers ++ answer ∷ []) ≡ max (most_writes answers) (count_writes answer)
most_behind [] answer = omega arith
most_behind (first ∷ answers) answer = omega (arith, most_behind answers answer)

-- with one answer more
pub most_next : (answers : List Answer) (i : ℕ) (d : Answer) → i < length answers
    → most_writes (take (i + 1) answers)
    ≡ max (most_writes (take i answers)) (count_writes (get_or answers i d))
most_next answers i d h =
    ap most_writes (take_more answers i d h) ∙ most_behind (take i answers) (get_or answers i d)
