-- What is told of bytes that were read is told of the file that a name holds.
use Rattle.std.proofs.Common.{◌≡◌, ◌≤◌, ℕ, List, Option, Some, inl, inr, length}
use Rattle.pawn_outside.specs.Held.{Held, Tells}
use Rattle.command_parts.specs.declared.read.TheConstants.{FILE_LIMIT}
use Rattle.command_parts.specs.declared.status.Status.{Status}
use Rattle.command_parts.specs.Told.{Says, steadily, with_faults}
use Rattle.command_parts.specs.ValidFile.{Broken}
use Rattle.command_parts.proofs.ReadLaws.{read_is, stops_so}
use Rattle.command_parts.proofs.ToldLaws.{told_other_stop}
use Rattle.command_parts.proofs.ValidLaws.{bytes_no_fault}
use Rattle.pawn_cli.specs.Sizes.{TellsBytes, TellsSizes, TellsSizesOf}
use Rattle.pawn_cli.proofs.AnswerLaws.{text_steadily}

-- sizes beside a count of faults that stays as it is
sizes_steadily : {S : Type 0} {says : Says S} {bytes : List ℕ} {old new : S} {answer : Status}
    {m n : ℕ} → n ≡ m → TellsSizes says bytes old new answer
    → TellsSizes (steadily says) bytes (old, m) (new, n) answer
sizes_steadily same it =
    record { amx = it.amx; valid = it.valid; tells = text_steadily same it.tells }

module _ {S : Type 0} {says : Says S} {old new : S} {held after : Option Held}
    {name bytes lent : List ℕ} {answer : Status} {m n : ℕ}
    (tells : Tells held name (Some bytes) × (length bytes ≤ FILE_LIMIT)) (same : lent ≡ bytes)
    (kept : after ≡ held) (steady : n ≡ m) where
  -- so is what is told of bytes that were read
  pub read_told : TellsBytes says lent old new answer
      → TellsSizesOf (with_faults says) name held after (old, m) (new, n) answer
  read_told (inl none) =
      inl (record {
        stop = none.stop;
        comes = stops_so tells same (λ b. Broken b none.stop) none.stop none.broken;
        kept = kept;
        tells = told_other_stop (bytes_no_fault none.broken) steady none.tells;
      })
  read_told (inr it) =
      inr (record {
        file =
            read_is tells same (λ b. TellsSizes (steadily says) b (old, m) (new, n) answer)
            (sizes_steadily steady it);
        kept = kept;
      })
