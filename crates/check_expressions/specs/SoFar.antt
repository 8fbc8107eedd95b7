-- The verdict of a list whose elements are judged one by one, by those judged so far.
use Rattle.std.specs.Prelude.{◌≡◌, List, ◌++◌, Result, Ok, Err}
use Rattle.std.specs.List.{Contains}
use Rattle.names_rules.specs.Verdict.{Verdict, Stands, Breaks, after, faults_of}
use Rattle.check_nodes.specs.declared.fault.PartFault.{PartFault}
use Rattle.check_nodes.specs.declared.fault.PartFault.TheVariants.{Source, Fallen, Memory}

-- elements before those of a verdict
abbrev pub behind : {A : Type 0} → List A → Verdict (List A) → Verdict (List A)
behind done rest = after rest (λ more. Stands (done ++ more))

-- the verdict of the whole list, where that of what is left is `rest`: elements that stand come
-- before it, and where one of them falls only the faults of the rest are told
abbrev pub SoFar : {A B : Type 0} → (B → List A) → Verdict (List A) → Verdict (List A)
    → Result B PartFault → Type 0
SoFar view whole rest (Ok done) = whole ≡ behind (view done) rest
SoFar view whole rest (Err Fallen) = whole ≡ Breaks (faults_of rest)
SoFar view whole rest (Err (Source kind place)) =
    Contains (faults_of whole) (record { kind = kind; place = place })
SoFar view whole rest (Err Memory) = Unit {0}
