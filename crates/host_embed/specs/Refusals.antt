-- The numbers of refusals: -1 for a mode that doesn't allow the call, and else AMX errors
-- (Implementer's Guide, "Error codes") or those of image faults.
use Rattle.std.specs.Prelude.{ℤ, pos, negsuc, Result, Ok, Err}
use Rattle.amx_image.specs.Faults as image
use Rattle.host_embed.specs.declared.refusal.Refusal.{Refusal}
use Rattle.host_embed.specs.declared.refusal.Refusal.TheVariants as refusal

-- the number of a refusal
abbrev pub number_of : Refusal → ℤ
number_of refusal.Mode = negsuc 0
number_of refusal.Index = pos 20
number_of refusal.Stack = pos 3
number_of refusal.Dead = pos 5
number_of (refusal.Image fault) = pos (image.number_of fault)

-- of an answer: 0 where the call is done
abbrev pub code_of : {T : Type 0} → Result T Refusal → ℤ
code_of (Ok t) = pos 0
code_of (Err r) = number_of r
