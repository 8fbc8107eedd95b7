-- What was written as one write of it was said.
use Rattle.std.proofs.Common.{◌≡◌, ℕ, List, [], Option, append-nil}
use Rattle.pawn_outside.specs.Taken.{with_more, WroteFront}

pub all_written : (old new : Option (List ℕ)) (text : List ℕ) → new ≡ with_more old text
    → WroteFront old new text
all_written old new text e =
    record { part = text; written = e; front = record { rest = []; whole_is = append-nil text } }
