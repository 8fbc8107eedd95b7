-- Machines that are made one after another, and the first that isn't.
use Rattle.std.proofs.Common.{◌≡◌, ◌≢◌, ◌∙◌, ◌+◌, ◌<◌, ◌≤◌, ◌++◌, ℕ, zero, suc, List, [], ◌∷◌}
use Rattle.std.proofs.Common.{Option, Some, Result, Ok, Err, inl, inr, refl, sym, ap, subst}
use Rattle.std.proofs.Common.{arith, length, take, drop, get_or, All}
use Rattle.std.specs.Str.{IsAscii, IsUtf8}
use Rattle.std.proofs.lemmas.List.{length-take, take_all, take_more}
use Rattle.std.proofs.lemmas.List.Elements.{All-head, All-tail}
use Rattle.std.proofs.lemmas.Str.{IsUtf8-from_ascii}
use Rattle.pawn_outside.specs.Held.{Held}
use Rattle.host_script.specs.declared.script.Script.{Script}
use Rattle.amx_ops.specs.declared.amx.Amx.{Amx}
use Rattle.amx_ops.specs.Moves.{name_of}
use Rattle.command_parts.specs.declared.stop.Stop.{Stop}
use Rattle.command_parts.specs.declared.stop.Stop.TheVariants.{FileFault, Unregistered}
use Rattle.command_parts.specs.ScriptFile.{IsScriptNamed, NoScript}
use Rattle.command_parts.specs.Unread.{IsStopOf}
use Rattle.host_run.specs.Bound.{unserved}
use Rattle.host_many.specs.Guests.{new_guest}
use Rattle.host_many.specs.Own.{Guest}
use Rattle.host_plan.specs.declared.plan.MachineFiles.{MachineFiles}
use Rattle.host_plan.specs.Plans.{IsGraphic, IsWord}
use Rattle.command_many.specs.Machines.{AddsOf, AddsProgram, AreMachines, IsAdded, IsFileNamed}
use Rattle.command_many.specs.Machines.{NoMachine}
use Rattle.command_many.specs.Machines.{NoMachines, Unserved, no_script, no_native}
use Rattle.command_many.specs.Machines.{unregistered, no_memory}

-- ---- names

ascii_all : (bytes : List ℕ) → All IsGraphic bytes → IsAscii bytes
ascii_all [] h i = omega arith
ascii_all (x ∷ bytes) h zero = let head = All-head IsGraphic x bytes h in omega (arith, head.1)
ascii_all (x ∷ bytes) h (suc i) = ascii_all bytes (All-tail IsGraphic x bytes h) i

pub word_is_text : (name : List ℕ) → IsWord name → IsUtf8 name
word_is_text name word = IsUtf8-from_ascii name (ascii_all name word.graphic)

-- ---- natives

pub unserved_is : (amx : Amx) (script : Script) (number : ℕ) (name : List ℕ) (stop : Stop)
    → unserved script amx.natives ≡ Some number → name ≡ name_of amx.natives number
    → IsStopOf (Unregistered name) stop → Unserved amx script stop
unserved_is amx script number name stop first name_is (inl e) =
    let P : Stop → Type 0 = Unserved amx script in
    subst P (sym (e ∙ ap Unregistered name_is)) (unregistered number first)
unserved_is amx script number name stop first name_is (inr e) =
    let P : Stop → Type 0 = Unserved amx script in subst P (sym e) no_memory

pub unserved_no_fault : {amx : Amx} {script : Script} {stop : Stop} → Unserved amx script stop
    → stop ≢ FileFault
unserved_no_fault (unregistered number first) = λ e. absurd (cc e)
unserved_no_fault no_memory = λ e. absurd (cc e)

-- ---- one machine more

pub machines_push : (held : Option Held) (before : List MachineFiles) (it : MachineFiles)
    (guests new : List Guest) → AreMachines held before guests → IsAdded held it guests new
    → AreMachines held (before ++ it ∷ []) new
machines_push held [] it guests new made added =
    let alone : new ≡ new_guest added.amx added.script ∷ [] =
    added.added ∙ ap (λ others. others ++ new_guest added.amx added.script ∷ []) made in
    (added.amx, added.script, [], added.is, alone, refl)
machines_push held (x ∷ before) it guests new (amx, script, others, is, front, rest) added =
    let g : Guest = new_guest added.amx added.script in
    let all : new ≡ new_guest amx script ∷ (others ++ g ∷ []) =
    added.added ∙ ap (λ list. list ++ g ∷ []) front in (
      amx,
      script,
      others ++ g ∷ [],
      is,
      all,
      machines_push held before it others (others ++ g ∷ []) rest
          (record { amx = added.amx; script = added.script; is = added.is; added = refl }),
    )

pub count_machines : (held : Option Held) (machines : List MachineFiles) (guests : List Guest)
    → AreMachines held machines guests → length guests ≡ length machines
count_machines held [] guests made = ap length made
count_machines held (it ∷ machines) guests (amx, script, others, is, front, rest) =
    let long : length guests ≡ suc (length others) = ap length front in
    let more = count_machines held machines others rest in omega (arith, long, more)

parted : (xs : List MachineFiles) (i : ℕ) (d : MachineFiles) → i < length xs
    → take i xs ++ get_or xs i d ∷ drop (suc i) xs ≡ xs
parted [] i d h = absurd (omega (arith, h))
parted (x ∷ xs) zero d h = refl
parted (x ∷ xs) (suc i) d h = ap (λ ys. x ∷ ys) (parted xs i d (omega (arith, h)))

module _ (held : Option Held) (machines : List MachineFiles) (i : ℕ) (it : MachineFiles)
    (within : i < length machines) (it_is : it ≡ get_or machines i it) (guests : List Guest)
    (made : AreMachines held (take i machines) guests) where
  pub machines_next : (new : List Guest) → IsAdded held it guests new
      → AreMachines held (take (i + 1) machines) new
  machines_next new added =
      let next : take (i + 1) machines ≡ take i machines ++ it ∷ [] =
      take_more machines i it within ∙ ap (λ x. take i machines ++ x ∷ []) (sym it_is) in
      let P : List MachineFiles → Type 0 = λ some. AreMachines held some new in
      subst P (sym next) (machines_push held (take i machines) it guests new made added)

  pub machines_cut : (stop : Stop) → NoMachine held it stop → NoMachines held machines stop
  machines_cut stop comes = record {
    before = take i machines;
    it = it;
    behind = drop (suc i) machines;
    all =
        sym (ap (λ x. take i machines ++ x ∷ drop (suc i) machines) it_is
        ∙ parted machines i it within);
    guests = guests;
    made = made;
    comes = comes;
  }

-- ---- why one isn't made

pub script_missing : {held mid : Option Held} {it : MachineFiles} {amx : Amx} {stop : Stop}
    → mid ≡ held → IsFileNamed held it.amx amx → NoScript mid it.script stop
    → NoMachine held it stop
script_missing {held} {mid} {it} {amx} {stop} same file none =
    let P : Option Held → Type 0 = λ h. NoScript h it.script stop in
    no_script amx file (subst P same none)

pub script_there : {held mid : Option Held} {name : List ℕ} (script : Script) → mid ≡ held
    → IsScriptNamed mid name script → IsScriptNamed held name script
script_there {held} {mid} {name} script same it =
    let P : Option Held → Type 0 = λ h. IsScriptNamed h name script in subst P same it

-- ---- a machine of good files

pub adds_of : {held : Option Held} {it : MachineFiles} {amx : Amx} (script : Script)
    (old new : List Guest) (result : Result (Unit {0}) Stop) → IsFileNamed held it.amx amx
    → IsScriptNamed held it.script script → AddsProgram amx script old result new
    → AddsOf held it old result new
adds_of {held} {it} {amx} script old new (Ok done) file natives adds = record {
  amx = amx;
  script = script;
  is = record { file = file; natives = natives; served = adds.0 };
  added = adds.1;
}
adds_of {held} {it} {amx} script old new (Err stop) file natives adds =
    no_native amx script file natives adds

pub program_no_fault : (amx : Amx) (script : Script) (old new : List Guest)
    (result : Result (Unit {0}) Stop) → AddsProgram amx script old result new
    → result ≡ Err FileFault → ⊥
program_no_fault amx script old new (Ok done) adds e = absurd (cc e)
program_no_fault amx script old new (Err stop) adds e = unserved_no_fault adds (cc e)

-- ---- some of the machines

pub few_machines : (held : Option Held) (machines : List MachineFiles) (i : ℕ)
    (guests : List Guest) → AreMachines held (take i machines) guests
    → length guests ≤ length machines
few_machines held machines i guests made =
    let count = count_machines held (take i machines) guests made in
    let least = length-take i machines in omega (arith, count, least)

pub machines_all : (held : Option Held) (machines : List MachineFiles) (i : ℕ)
    (guests : List Guest) → length machines ≤ i → AreMachines held (take i machines) guests
    → AreMachines held machines guests
machines_all held machines i guests within made =
    let P : List MachineFiles → Type 0 = λ some. AreMachines held some guests in
    subst P (take_all i machines within) made

pub machine_missing : {held mid : Option Held} {it : MachineFiles} {stop : Stop} → mid ≡ held
    → NoMachine mid it stop → NoMachine held it stop
machine_missing {held} {mid} {it} {stop} same comes =
    let P : Option Held → Type 0 = λ h. NoMachine h it stop in subst P same comes
