-- What a slot of C's owns.
use Rattle.std.specs.Prelude.{Option, None, Some}
use base.Fml.{Fml, ftrue}
use denote.RawPtr.{Ptr}
use Rattle.std.specs.Box.Ownership.{box_owns}
use Rattle.std_heap.specs.contracts.Global as heap
use Rattle.std_heap.specs.contracts.GlobalAllocator.TheImpl.{ghosts}
use Rattle.host_compile.specs.Sources.{Sources}
use Rattle.host_compile.specs.contracts.sources.Sources.{the_row}

-- nothing, or the sources behind its pointer
abbrev pub slot_owns : (heap.the_row).Denot → Ptr → Option Sources → Fml
slot_owns alloc at None = ftrue
slot_owns alloc at (Some it) = box_owns (ghosts.dealloc_token alloc) the_row at it
