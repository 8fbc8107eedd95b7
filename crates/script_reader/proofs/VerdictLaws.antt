-- The faults of a part are those of the whole, and a whole stands where its parts do.
use Rattle.std.proofs.Common.{◌≡◌, refl, arith}
use Rattle.std.proofs.lemmas.List.Elements.{Contains-append_left, Contains-append_right}
use Rattle.script_reader.specs.declared.fault.ScriptFault.{ScriptFault}
use Rattle.script_reader.specs.declared.fault.ScriptFault.TheVariants.{Json, Shape, Range, Memory}
use Rattle.script_reader.specs.Verdict.{Verdict, Stands, Breaks, faults, after, also, Fails}

-- a part that stands has no fault, and one that is broken has the same in the whole
pub fails_after : {A B : Type 0} (w : Verdict A) (rule : A → Verdict B) (fault : ScriptFault)
    → Fails w fault → Fails (after w rule) fault
fails_after (Stands x) rule Json p = absurd p.cause
fails_after (Stands x) rule (Shape f) p = absurd (let h = p.cause.1 in omega arith)
fails_after (Stands x) rule (Range f) p = absurd (let h = p.cause.1 in omega arith)
fails_after (Stands x) rule Memory p = record { cause = tt }
fails_after (Breaks found) rule Json p = record { cause = p.cause }
fails_after (Breaks found) rule (Shape f) p = record { cause = p.cause }
fails_after (Breaks found) rule (Range f) p = record { cause = p.cause }
fails_after (Breaks found) rule Memory p = record { cause = tt }

pub also_first : {A B : Type 0} (w : Verdict (A → B)) (v : Verdict A) (fault : ScriptFault)
    → Fails w fault → Fails (also w v) fault
also_first (Stands x) v Json p = absurd p.cause
also_first (Stands x) v (Shape f) p = absurd (let h = p.cause.1 in omega arith)
also_first (Stands x) v (Range f) p = absurd (let h = p.cause.1 in omega arith)
also_first (Stands x) v Memory p = record { cause = tt }
also_first (Breaks found) v Json p = absurd p.cause
also_first (Breaks found) v (Shape f) p =
    record { cause = Contains-append_left found (faults v) (Shape f) p.cause }
also_first (Breaks found) v (Range f) p =
    record { cause = Contains-append_left found (faults v) (Range f) p.cause }
also_first (Breaks found) v Memory p = record { cause = tt }

pub also_second : {A B : Type 0} (w : Verdict (A → B)) (v : Verdict A) (fault : ScriptFault)
    → Fails v fault → Fails (also w v) fault
also_second (Stands x) v fault p = fails_after v (λ y. Stands (x y)) fault p
also_second (Breaks found) v Json p = absurd p.cause
also_second (Breaks found) v (Shape f) p =
    record { cause = Contains-append_right found (faults v) (Shape f) p.cause }
also_second (Breaks found) v (Range f) p =
    record { cause = Contains-append_right found (faults v) (Range f) p.cause }
also_second (Breaks found) v Memory p = record { cause = tt }

pub after_is : {A B : Type 0} (w : Verdict A) (rule : A → Verdict B) (x : A) → w ≡ Stands x
    → after w rule ≡ rule x
after_is w rule x e = rw e refl

pub also_is : {A B : Type 0} (w : Verdict (A → B)) (v : Verdict A) (f : A → B) (x : A)
    → w ≡ Stands f → v ≡ Stands x → also w v ≡ Stands (f x)
also_is w v f x e h = rw (e, h) refl

pub ruleset verdicts = (fails_after, also_first, also_second, after_is, also_is)
