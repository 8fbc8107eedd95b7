use Rattle.std.proofs.Common.{arith}
use Rattle.amx_text.specs.Drafts.{header_by}
use Rattle.amx_text.proofs.FoundLaws.{within_is, without}
use Rattle.amx_text.proofs.draft.Draft.is_within.Goals as goal

pub returns-then-memory-le-MOST_BYTES : goal.returns-then-memory-le-MOST_BYTES
returns-then-memory-le-MOST_BYTES c =
    within_is (header_by c.args.self.now) c.args.self.now.amx c.memory_bytes-memory.result
    c.code_place.result c.saturating_add-past.result
    (omega (arith, c.from.ensures, c.from-2.ensures, c.memory_bytes-memory.ensures))
    c.if-memory-le-MOST_BYTES.true c.code_place.ensures.exact c.code_place.ensures.large
    (omega (
      arith,
      c.saturating_add-past.ensures,
      c.max.ensures,
      c.from.ensures,
      c.from-2.ensures,
    ))

pub returns-else-memory-le-MOST_BYTES : goal.returns-else-memory-le-MOST_BYTES
returns-else-memory-le-MOST_BYTES c =
    without (header_by c.args.self.now) c.args.self.now.amx c.memory_bytes-memory.result
    (omega (arith, c.from.ensures, c.from-2.ensures, c.memory_bytes-memory.ensures))
    c.if-memory-le-MOST_BYTES.false
