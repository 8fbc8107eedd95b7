-- What C sees of a machine, which stays as it is.
use Rattle.std.specs.Prelude.{◌≡◌, ℕ, ℤ, Result, Ok, Err}
use Rattle.host_embed.specs.declared.refusal.Refusal.{Refusal}
use Rattle.host_embed.specs.Held.{Held}
use Rattle.host_embed.specs.Memory.{ArguesSo, CountsSo}
use Rattle.sulkhen_c.specs.Shows.{Codes}

-- what a call leaves at the place of its answer
abbrev pub told : {T : Type 0} → Result T Refusal → T → T
told (Ok t) old = t
told (Err r) old = old

-- an answer with its code, or nothing changed
abbrev pub Tells : {T : Type 0} → (Result T Refusal → Type 0) → ℤ → T → T → Type 0
Tells gives code old new = Codes (λ answer. gives answer × (new ≡ told answer old)) code

-- how many arguments there are
abbrev pub CountsFor : Held → ℤ → ℕ → ℕ → Held → Type 0
CountsFor old code n n' new = Tells (CountsSo old.machine) code n n' × (new ≡ old)

-- the argument with a number
abbrev pub ArguesFor : Held → ℕ → ℤ → ℤ → ℤ → Held → Type 0
ArguesFor old index code cell cell' new =
    Tells (ArguesSo old.machine index) code cell cell' × (new ≡ old)
