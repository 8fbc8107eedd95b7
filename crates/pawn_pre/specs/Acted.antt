-- What the code answers for what one line does.
use Rattle.std.specs.Prelude.{◌≡◌, ℕ, Result, Ok, Err}
use Rattle.pawn_pre.specs.declared.refusal.Refusal.{Refusal}
use Rattle.pawn_pre.specs.declared.refusal.Refusal.TheVariants as refusal
use Rattle.pawn_pre.specs.declared.work.Work.{Work}

-- the same work done, or the same fault; want of memory is free
abbrev pub Acted : Result Work ℕ → Result (Unit {0}) Refusal → Work → Type 0
Acted outcome (Ok done) new = outcome ≡ Ok new
Acted outcome (Err (refusal.Fault kind)) new = outcome ≡ Err kind
Acted outcome (Err refusal.Memory) new = Unit {0}
