-- The answer whose turn it is keeps its ranges, in a script that does.
use Rattle.std.proofs.Common.{ℕ, zero, suc, ℤ, List, [], ◌∷◌, Bool, true, false, cond, All, Option}
use Rattle.std.proofs.Common.{None, Some, IfSome, find, slice_get, arith}
use Rattle.std.proofs.lemmas.List.Elements.{All-nil, All-head, All-tail}
use Rattle.pawn_cells.specs.Cells.{IsCell}
use Rattle.host_script.specs.declared.script.Script.{Script}
use Rattle.host_script.specs.declared.script.Native.{Native}
use Rattle.host_script.specs.declared.script.Answer.{Answer}
use Rattle.host_script.specs.Ranges.{IsNative, IsWrite, IsAnswer, IsScript}
use Rattle.host_script.specs.Script.{native_of, listed_or, turn_at, turn_by, turn_of}
use Rattle.pawn_cells.proofs.CellLaws.{small_cell}

result_by : (o : Option Native) (name : List ℕ) → IfSome o IsNative
    → IfSome (listed_or o name).result IsCell
result_by None name h = small_cell 0 (omega arith)
result_by (Some native) name h = h.result

found_by : {X : Type 0} (P : X → Type 0) (b : Bool) (x : X) (o : Option X) → P x → IfSome o P
    → IfSome (cond b (Some x) o) P
found_by P true x o p h = p
found_by P false x o p h = h

found : {X : Type 0} (P : X → Type 0) (test : X → Bool) (xs : List X) → All P xs
    → IfSome (find test xs) P
found P test [] h = tt
found P test (x ∷ xs) h =
    found_by P (test x) x (find test xs) (All-head P x xs h) (found P test xs (All-tail P x xs h))

pub at_place : {X : Type 0} (P : X → Type 0) (xs : List X) (n : ℕ) → All P xs
    → IfSome (slice_get xs n) P
at_place P [] n h = tt
at_place P (x ∷ xs) zero h = All-head P x xs h
at_place P (x ∷ xs) (suc n) h = at_place P xs n (All-tail P x xs h)

turn_at_is : (o : Option Answer) (position : ℕ) → IfSome o IsAnswer
    → IsAnswer (turn_at o position).answer
turn_at_is None position h = (small_cell 0 (omega arith), All-nil IsWrite)
turn_at_is (Some answer) position h = h

turn_by_is : (o : Option ℤ) (script : Script) (position : ℕ) → IfSome o IsCell
    → All IsAnswer script.answers → IsAnswer (turn_by o script position).answer
turn_by_is None script position h g =
    turn_at_is (slice_get script.answers position) position
    (at_place IsAnswer script.answers position g)
turn_by_is (Some result) script position h g = (h, All-nil IsWrite)

pub turn_is : (script : Script) (name : List ℕ) (position : ℕ) → IsScript script
    → IsAnswer (turn_of script (native_of script name) position).answer
turn_is script name position h =
    turn_by_is (native_of script name).result script position
    (result_by (find _ script.natives) name (found IsNative _ script.natives h.natives)) h.answers
