-- The natives of a file bound to a script: the name of each, and its entry there, with room for the
-- addresses of an answer's writes.
use Rattle.std.specs.Prelude.{◌≡◌, ℕ, List, [], ◌∷◌, Option, None, Some, Result, Ok, Err, length}
use Rattle.std.specs.Prelude.{map, max, position, is_none, nat_eq, if◌then◌else◌}
use Rattle.std.specs.List.{position_from}
use Rattle.std.specs.Cmp.Lexicographic.{pointwise}
use Rattle.host_script.specs.declared.script.Script.{Script}
use Rattle.host_script.specs.declared.script.Native.{Native}
use Rattle.host_script.specs.declared.script.Answer.{Answer}
use Rattle.host_script.specs.declared.script.Answer.TheVariants.{Given, Error}
use Rattle.amx_ops.specs.declared.amx.Record.{Record}
use Rattle.host_run.specs.declared.bound.BoundNative.{BoundNative}
use Rattle.host_run.specs.declared.bound.BindFault.{BindFault}
use Rattle.host_run.specs.declared.bound.BindFault.TheVariants.{Unregistered, Memory}

-- in the order in which a script lists them
abbrev pub names_of : List Native → List (List ℕ)
names_of natives = map (λ native. native.name) natives

-- the number of a name's entry among the script's natives
abbrev pub entry_of : Script → List ℕ → Option ℕ
entry_of script name =
    position (λ (native : Native). pointwise nat_eq native.name name) script.natives

-- each native of a file
abbrev pub natives_of : Script → List Record → List BoundNative
natives_of script natives =
    map (λ it. record { name = it.name; entry = entry_of script it.name }) natives

-- how many writes an answer has
abbrev pub count_writes : Answer → ℕ
count_writes (Given result writes) = length writes
count_writes (Error code) = 0

-- the most writes that an answer has
abbrev pub most_writes : List Answer → ℕ
most_writes [] = 0
most_writes (answer ∷ answers) = max (count_writes answer) (most_writes answers)

-- natives with their entries, and room for so many addresses
pub record Bound : Type 0 where
  pub natives : List BoundNative
  pub room : ℕ

-- those of a file, with room for any answer
abbrev pub bound_of : Script → List Record → Bound
bound_of script natives =
    record { natives = natives_of script natives; room = most_writes script.answers }

-- the number of the first native that isn't listed, where the script serves no others
abbrev pub unserved : Script → List Record → Option ℕ
unserved script natives =
    if script.others then None else position_from
    (λ (it : Record). is_none (entry_of script it.name)) 0 natives

-- what binding answers; only want of memory is free
abbrev pub Binds : Script → List Record → Result Bound BindFault → Type 0
Binds script natives (Ok bound) =
    (unserved script natives ≡ None) × (bound ≡ bound_of script natives)
Binds script natives (Err (Unregistered number)) = unserved script natives ≡ Some number
Binds script natives (Err Memory) = Unit {0}
