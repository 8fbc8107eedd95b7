-- What is left of a test where something is.
use Rattle.std.proofs.Common.{◌≡◌, Bool, true, false, Option, None, Some}
use Rattle.std.specs.Prelude.{if◌then◌else◌}

pub unless_some : {A : Type 0} (c : Bool) (b : Option A) (x : A)
    → (if c then None else b) ≡ Some x → b ≡ Some x
unless_some true b x e = absurd (let no : ⊥ = cc in no)
unless_some false b x e = e

pub when_some : {A : Type 0} (c : Bool) (b : Option A) (x : A)
    → (if c then b else None) ≡ Some x → b ≡ Some x
when_some true b x e = e
when_some false b x e = absurd (let no : ⊥ = cc in no)
