-- Images that are saved and restored.
use Rattle.std.specs.Prelude.{◌≡◌, ℕ, List, Result, Ok, Err}
use Rattle.amx_machine.specs.declared.mode.Mode.TheVariants as mode
use Rattle.amx_image.specs.declared.version.Version.TheVariants as version
use Rattle.amx_image.specs.Image.{IsImage}
use Rattle.amx_image.specs.Restored.{Restores}
use Rattle.host_embed.specs.declared.refusal.Refusal.{Refusal}
use Rattle.host_embed.specs.declared.refusal.Refusal.TheVariants as refusal
use Rattle.host_embed.specs.Held.{Held, with_machine}
use Rattle.host_embed.specs.Turns.{IsRefused}

-- at a sleep the image is that of the state
abbrev pub SavesSo : {T : Type 0} → Held → ℕ → Result T Refusal → Held → Type 0
SavesSo old position (Ok t) new =
    (old.machine.mode ≡ mode.Asleep)
    × IsImage version.Live old.machine.state position old.digest new.image
    × (new ≡ record old { image = new.image })
SavesSo old position (Err r) new = IsRefused (old.machine.mode ≡ mode.Asleep) old r new

-- the machine is at a sleep in the image's state, or as it was
abbrev pub RestoresSo : Held → List ℕ → Result ℕ Refusal → Held → Type 0
RestoresSo old bytes (Ok position) new =
    Restores old.machine old.digest bytes (Ok position) new.machine
    × (new ≡ with_machine old new.machine)
RestoresSo old bytes (Err (refusal.Image fault)) new =
    Restores old.machine old.digest bytes (Err fault) new.machine × (new ≡ old)
RestoresSo old bytes (Err refusal.Mode) new = ⊥
RestoresSo old bytes (Err refusal.Index) new = ⊥
RestoresSo old bytes (Err refusal.Stack) new = ⊥
RestoresSo old bytes (Err refusal.Dead) new = ⊥
