-- How rules are joined: what a rule says of a node, by what it says of the node's parts.
use Rattle.std.specs.Prelude.{ℕ, List, [], ◌∷◌}
use Rattle.pawn_tree.specs.declared.name.At.{At}
use Rattle.names_rules.specs.Verdict.{Verdict, Stands, Breaks, after, both}
use Rattle.names_rules.specs.Verdict as verdict

-- a node that breaks its rule, by the token that it begins with
abbrev pub broken : {A : Type 0} → ℕ → At → Verdict A
broken kind at = verdict.broken kind at.place

-- a node that can't stand since what it names doesn't: it breaks no rule of its own
abbrev pub fallen : {A : Type 0} → Verdict A
fallen = Breaks []

-- two parts that don't depend on each other
abbrev pub pair : {A B : Type 0} → Verdict A → Verdict B → Verdict (A × B)
pair first second = both first second (λ x y. Stands (x, y))

-- a node whose parts stand stands only where a test of it does
abbrev pub also : {A B : Type 0} → Verdict A → Verdict B → Verdict B
also test node = after node (λ x. after test (λ passed. Stands x))

-- a node is judged where its parts have no fault. A part that falls without one names what is
-- broken elsewhere, which may be in this node: then what the node breaks there is the fault
abbrev pub unless_faults : {A B : Type 0} → Verdict A → Verdict B → Verdict B
unless_faults (Stands x) node = node
unless_faults (Breaks []) node = node
unless_faults (Breaks (fault ∷ more)) node = Breaks (fault ∷ more)

-- each element changes what there is so far
unfoldable pub thread : {A B : Type 0} → (A → B → Verdict A) → A → List B → Verdict A
thread step done [] = Stands done
thread step done (x ∷ more) = after (step done x) (λ next. thread step next more)

-- the parts of a list, none of which depends on another
unfoldable pub each : {A B : Type 0} → (A → Verdict B) → List A → Verdict (List B)
each rule [] = Stands []
each rule (x ∷ more) = both (rule x) (each rule more) (λ y ys. Stands (y ∷ ys))
