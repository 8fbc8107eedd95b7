use Rattle.std.proofs.Common.{◌∙◌, inl, inr, sym, subst}
use Rattle.pawn_outside.specs.Said.{Said}
use Rattle.amx_format.specs.File.{IsFile}
use Rattle.amx_ops.specs.declared.amx.Amx.{Amx}
use Rattle.command_parts.specs.declared.status.Status.TheVariants as status
use Rattle.command_parts.proofs.FaultCountLaws.{stop_no_fault, told_other}
use Rattle.command_parts.proofs.ValidLaws.{bytes_no_fault}
use Rattle.pawn_cli.specs.Sizes.{sizes_of, sizes_text}
use Rattle.pawn_cli.proofs.sizes.tell_bytes.Goals as goal

pub of-requires-clause-file : goal.of-requires-clause-file
of-requires-clause-file g c =
    let P : Amx → Type 0 = IsFile c.args.bytes.now in
    subst P (sym c.amx.ensures.value) c.in-Ok.ensures.file

pub returns-in-Ok-clause-answer : goal.returns-in-Ok-clause-answer
returns-in-Ok-clause-answer g c =
    let sink = g.S.Sink in
    let P : Amx → Type 0 = λ amx.
    Said sink.taken sink.faults sink.has_room c.args.out.now c.say.new.out
    (sizes_text (sizes_of c.args.bytes.now amx)) c.say.result in
    inr (record {
      amx = c.in-Ok.file;
      valid = c.in-Ok.ensures;
      tells = record {
        told = c.say.result;
        written = subst P c.amx.ensures.value (rw c.of.ensures at c.say.ensures);
        is = c.told.ensures;
      };
    })

pub returns-in-Ok-clause-fault : goal.returns-in-Ok-clause-fault
returns-in-Ok-clause-fault g c = λ e.
    told_other status.Ok c.say.result (λ f. absurd (cc f)) (sym c.told.ensures ∙ e)

pub returns-in-Err-clause-answer : goal.returns-in-Err-clause-answer
returns-in-Err-clause-answer g c =
    inl (record {
      stop = c.in-Err.stop;
      broken = c.in-Err.ensures;
      tells = c.tell_stop.ensures;
    })

pub returns-in-Err-clause-fault : goal.returns-in-Err-clause-fault
returns-in-Err-clause-fault g c =
    stop_no_fault c.in-Err.stop c.tell_stop.result (bytes_no_fault c.in-Err.ensures)
    c.tell_stop.ensures
