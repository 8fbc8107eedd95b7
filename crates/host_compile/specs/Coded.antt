-- Codes, by which a proof tells sources with their answers apart.
use Rattle.std.specs.Prelude.{◌≡◌, ◌⊎◌, refl, ℕ, zero, suc, List, Option}
use mathlib.Core.Logic.{inl, inr}
use Rattle.std.specs.Coded.{Coded, code_by, coded×, coded⊎, coded_list, coded_option, coded_ℕ}
use Rattle.std.specs.Coded.{coded_result}
use Rattle.std.specs.FinMap.{code}
use Rattle.pawn_outside.specs.Held.{Held}
use Rattle.pawn_front.specs.declared.compiled.Compiled.{Compiled}
use Rattle.pawn_front.specs.declared.compiled.Warning.{Warning}
use Rattle.pawn_front.specs.declared.fault.CompileFault.{CompileFault}
use Rattle.pawn_front.specs.declared.fault.CompileFault.TheVariants as fault
use Rattle.host_compile.specs.Sources.{Answer, Sources}

-- of a name
abbrev name_code : Coded (List ℕ)
name_code = coded_list coded_ℕ

-- of a warning
abbrev warning_code : Coded Warning
warning_code =
    code_by (List ℕ × ℕ) (coded× name_code coded_ℕ) (λ w. (w.file, w.line))
    (λ p. record { file = p.0; line = p.1 }) (λ _. refl)

-- of what was compiled
abbrev compiled_code : Coded Compiled
compiled_code =
    code_by (List ℕ × List Warning) (coded× name_code (coded_list warning_code))
    (λ it. (it.bytes, it.warnings)) (λ p. record { bytes = p.0; warnings = p.1 }) (λ _. refl)

-- a fault as numbers and names
abbrev Parts : Type 0
Parts = (ℕ × (List ℕ × ℕ)) ⊎ (ℕ ⊎ List ℕ)

-- its parts
abbrev parts_of : CompileFault → Parts
parts_of (fault.Refused kind file line) = inl (kind, (file, line))
parts_of fault.NoSource = inr (inl 0)
parts_of (fault.TooLarge file) = inr (inr file)
parts_of fault.Files = inr (inl 1)
parts_of fault.Memory = inr (inl 2)

-- the fault of parts
abbrev fault_of : Parts → CompileFault
fault_of (inl p) = fault.Refused p.0 p.1.0 p.1.1
fault_of (inr (inl zero)) = fault.NoSource
fault_of (inr (inl (suc zero))) = fault.Files
fault_of (inr (inl (suc (suc n)))) = fault.Memory
fault_of (inr (inr file)) = fault.TooLarge file

-- which is the one that they are parts of
pub fault_back : (it : CompileFault) → fault_of (parts_of it) ≡ it
fault_back (fault.Refused kind file line) = refl
fault_back fault.NoSource = refl
fault_back (fault.TooLarge file) = refl
fault_back fault.Files = refl
fault_back fault.Memory = refl

-- of a fault
abbrev fault_code : Coded CompileFault
fault_code =
    code_by Parts (coded⊎ (coded× coded_ℕ (coded× name_code coded_ℕ)) (coded⊎ coded_ℕ name_code))
    parts_of fault_of fault_back

-- of sources
abbrev pub sources_code : Coded Sources
sources_code =
    let answers = coded_option (coded_result compiled_code fault_code) in
    code_by (Held × Option Answer) (coded× (code name_code name_code) answers)
    (λ it. (it.held, it.answer)) (λ p. record { held = p.0; answer = p.1 }) (λ _. refl)
