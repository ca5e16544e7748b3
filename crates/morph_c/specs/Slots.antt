-- What the memory behind a project owns: nothing, or a value at its place and the right to free it.
use Rattle.std.specs.Prelude.{Option, None, Some}
use base.Fml.{Fml, ftrue}
use base.Stored.{Coded}
use denote.RawPtr.{Ptr}
use Rattle.std.specs.declared.alloc.Global.{Global}
use Rattle.std.specs.contracts.impls.GlobalAllocator.TheImpl.{ghosts}
use Rattle.std_alloc.specs.Box.Ownership.{box_owns}
use Rattle.morph_c.specs.contracts.held.Held.{the_row}

abbrev pub Held : Type 0
Held = the_row.Denot

abbrev pub held_coded : Coded Held
held_coded = the_row.coded

-- the heap, all of whose handles are alike
abbrev pub heap : Global
heap = record { memory = record { seal = tt } }

abbrev pub slot_owns : Ptr → Option Held → Fml
slot_owns p None = ftrue
slot_owns p (Some x) = box_owns (ghosts.dealloc_token heap) the_row p x
