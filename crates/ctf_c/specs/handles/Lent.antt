-- The value of a handle once its borrow ends.
use Rattle.core.specs.declared.alloc.Allocator.{Ghosts}
use Rattle.std.specs.Prelude.{Option, Some, true}
use Rattle.std.specs.Borrow.{Fml, Lends, LendsIf, MutBor, RattleType}
use Rattle.std.proofs.Common.{refl}
use Rattle.ctf_c.specs.declared.handles.option_box.OptionBox.{OptionBox}
use Rattle.ctf_c.specs.declared.handles.nullable_box.NullableBox.{NullableBox}
use Rattle.ctf_c.specs.contracts.handles.option_box.OptionBox.{the_row as box_row}
use Rattle.ctf_c.specs.contracts.handles.nullable_box.NullableBox.{the_row as held_row}

-- the same handle with another value
abbrev pub with_held : {X Z : Type 0} → NullableBox X Z → X → NullableBox X Z
with_held h w = record { at = h.at; alloc = h.alloc; value = Some w }

-- the last value written through `r` is in the handle
abbrev pub HeldLends : (R Z : RattleType) (g : Ghosts Z.Denot)
    → MutBor (NullableBox R.Denot Z.Denot) → MutBor R.Denot → Fml
HeldLends R Z g h r = Lends (held_row R Z g) R h r (with_held h.now)

abbrev pub with_value : {X : Type 0} → OptionBox X → X → OptionBox X
with_value s w = record { full = true; held = with_held s.held w; tells = refl }

-- the same for an optional box; an empty one is unchanged
abbrev pub OptionBoxLends : (R : RattleType)
    → MutBor (OptionBox R.Denot) → Option (MutBor R.Denot) → Fml
OptionBoxLends R s r = LendsIf (box_row R) R s r (with_value s.now) s.now
