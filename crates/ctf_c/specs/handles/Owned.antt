-- What a handle owns: nothing, or what a box owns.
use mir.Syntax.{Ty}
use base.Fml.{Fml, Lft, ftrue}
use denote.RattleType.{RattleType}
use denote.RawPtr.{Ptr}
use denote.Struct.Lending.{lent_at}
use Rattle.std.specs.Prelude.{Option, None, Some}
use Rattle.std.specs.Box.Ownership.{box_owns}

abbrev pub held_owns : (Ty → Ptr → Fml) → (R : RattleType) → Ptr → Option R.Denot → Fml
held_owns token R at None = ftrue
held_owns token R at (Some x) = box_owns token R at x

-- what a `&` to a handle reaches: nothing, or what a `&` to a box does
abbrev pub held_lent : (R : RattleType) → Ptr → Option R.Denot → Lft → Fml
held_lent R at None κ = ftrue
held_lent R at (Some x) κ = lent_at R at x κ
