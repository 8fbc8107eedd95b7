use Rattle.amx_text.specs.Readers.{character_at}
use Rattle.amx_text.proofs.ReaderSteps.{run_more, character_shorter}
use Rattle.amx_text.proofs.reader.name_at.Goals as goal

pub loop-byte-smaller : goal.loop-byte-smaller
loop-byte-smaller c =
    character_shorter c.in-Some.byte c.loop-byte.rest.now c.in-Some.more.now c.in-Some.ensures

pub loop-byte-preserved : goal.loop-byte-preserved
loop-byte-preserved c =
    rw c.in_ok-push.ensures.ok
    (run_more character_at c.loop-byte.name c.in-Some.byte c.args.text.now c.loop-byte.rest.now
    c.in-Some.more.now c.loop-byte.invariant c.in-Some.ensures)
