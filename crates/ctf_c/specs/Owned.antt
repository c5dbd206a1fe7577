-- What C owns: nothing, or what a box of a dictionary owns.
use base.Fml.{Fml}
use base.Stored.{Coded}
use denote.RawPtr.{Ptr}
use Rattle.std.specs.Prelude.{Option}
use Rattle.std.specs.Coded.{coded_option}
use Rattle.std.specs.Global.{Global}
use Rattle.std_heap.specs.contracts.GlobalAllocator.TheImpl.{ghosts}
use Rattle.ctf_c.specs.handles.Owned.{held_owns}
use Rattle.ctf_open.specs.contracts.open_dictionary.OpenDictionary.{the_row}

abbrev pub pointer_owns : Global → Ptr → Option the_row.Denot → Fml
pointer_owns alloc = held_owns (ghosts.dealloc_token alloc) the_row

abbrev pub pointer_coded : Coded (Option the_row.Denot)
pointer_coded = coded_option the_row.coded
