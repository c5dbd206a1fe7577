-- A handle is an optional box for a service.
use denote.RattleType.{RattleType}
use Rattle.std.specs.Borrow.{Fml, Lends, MutBor}
use Rattle.ctf_c.specs.declared.handles.option_box.OptionBox.{OptionBox}
use Rattle.ctf_c.specs.contracts.handles.option_box.OptionBox as OptionBoxes
use Rattle.ctf_c.specs.service.Served.{Served}
use Rattle.ctf_c.specs.declared.service.handle.Handle.{Handle}
use Rattle.ctf_c.specs.contracts.service.handle.Handle as Handles
use Rattle.ctf_c.specs.contracts.service.state.Service as Services

-- the row of such a box
abbrev pub box_row : RattleType
box_row = OptionBoxes.the_row Services.the_row

abbrev pub as_option_box : Handle → OptionBox Served
as_option_box h = record {
  full = h.full;
  held = record { at = h.held.at; alloc = h.held.alloc; value = h.held.service };
  tells = h.tells;
}

abbrev pub as_handle : OptionBox Served → Handle
as_handle s = record {
  full = s.full;
  held = record { at = s.held.at; alloc = s.held.alloc; service = s.held.value };
  tells = s.tells;
}

-- what the box holds when the borrow ends is open in the handle
abbrev pub HandleLends : MutBor Handle → MutBor (OptionBox Served) → Fml
HandleLends h r = Lends Handles.the_row box_row h r as_handle
