-- What a rule says of a part of a script: it stands and means this, or these faults break it.
use Rattle.std.specs.Prelude.{◌≡◌, List, [], ◌∷◌, ◌++◌, ⊤, Contains, Result, Ok, Err}
use Rattle.serde_json.specs.Data.{Data, Items, no_items, item}
use Rattle.script_reader.specs.declared.fault.ScriptFault.{ScriptFault}
use Rattle.script_reader.specs.declared.fault.ScriptFault.TheVariants.{Json, Shape, Range, Memory}

-- all faults are kept, not only the first
pub data Verdict (A : Type 0) : Type 0 where
  Stands : A → Verdict A
  Breaks : List ScriptFault → Verdict A

-- none of what stands
abbrev pub faults : {A : Type 0} → Verdict A → List ScriptFault
faults (Stands x) = []
faults (Breaks found) = found

-- by one fault alone
abbrev pub broken : {A : Type 0} → ScriptFault → Verdict A
broken fault = Breaks (fault ∷ [])

-- a rule for what a part means
abbrev pub after : {A B : Type 0} → Verdict A → (A → Verdict B) → Verdict B
after (Stands x) rule = rule x
after (Breaks found) rule = Breaks found

-- one part more of a whole: the faults of both break it
abbrev pub also : {A B : Type 0} → Verdict (A → B) → Verdict A → Verdict B
also (Stands made) part = after part (λ x. Stands (made x))
also (Breaks found) part = Breaks (found ++ faults part)

-- a list item by item, each in the light of those before it
abbrev pub each : {A : Type 0} → (A → Data → Verdict A) → A → Items → Verdict A
each step done no_items = Stands done
each step done (item d ds) = after (step done d) (λ next. each step next ds)

-- ---- calls

-- what a call may answer for it: any of the faults, and want of memory whatever it is
abbrev pub Causes : {A : Type 0} → Verdict A → ScriptFault → Type 0
Causes verdict Json = ⊥
Causes verdict (Shape field) = Contains (faults verdict) (Shape field)
Causes verdict (Range field) = Contains (faults verdict) (Range field)
Causes verdict Memory = Unit {0}

-- the fault is one of the verdict's, or want of memory
pub record Fails {A : Type 0} (verdict : Verdict A) (fault : ScriptFault) : Type 0 where
  pub cause : Causes verdict fault

-- a call gives what the verdict means, or fails
abbrev pub Follows : {A : Type 0} → Verdict A → Result A ScriptFault → Type 0
Follows verdict (Ok x) = verdict ≡ Stands x
Follows verdict (Err fault) = Fails verdict fault

-- a call leaves behind what the verdict means, or fails
abbrev pub Leaves : {A : Type 0} → Verdict A → A → Result ⊤ ScriptFault → Type 0
Leaves verdict x (Ok _) = verdict ≡ Stands x
Leaves verdict x (Err fault) = Fails verdict fault
