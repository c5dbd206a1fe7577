-- A `&` to a `NullableBox` is made from one to its value.
use mathlib.Core.List.{[], ◌++◌}
use mir.Raw.{raw as bare}
use mir.Syntax.{Ty}
use seplogic.Ra.Ura.{Ura}
use base.Fraction.{full_share}
use base.Fml.{Fml, Lft, Incl, Incl-trans, ftrue}
use contract.BorrowLft.{meet_⊑_left}
use types.Logic.{Logic}
use denote.Memory.{lone}
use denote.Param.Laws.{Laws, row_shared}
use denote.Param.Shared.{copy_shared}
use denote.RattleType.{RattleType}
use denote.RawPtr.{Ptr, lies_at}
use denote.Shares.{Shares-less}
use denote.Sharing.{ShrLaws}
use denote.SharingLaws.{nothing_shr_laws}
use denote.Struct.Field.{RawPtr-field}
use denote.Struct.Laws.{RawPtr-copy}
use denote.Struct.Lending.{lent_at, lent_at_shr_laws, Lends, Lends-lies, Lends-first, Lends-nothing, of_Lends}
use Rattle.core.specs.declared.alloc.Allocator.{Ghosts}
use Rattle.std.specs.Prelude.{Option, None, Some}
use Rattle.ctf_c.specs.handles.Owned.{held_lent, held_owns}
use Rattle.ctf_c.specs.contracts.handles.nullable_box.NullableBox as C
use Rattle.ctf_c.proofs.handles.nullable_box.NullableBox.TheLaw.Statement.{statement}

module _ (T : RattleType) (L : Laws T) where
  laws : (p : Ptr) (m : Option T.Denot) → ShrLaws (held_lent T p m)
  laws p None = nothing_shr_laws
  laws p (Some x) = lent_at_shr_laws T L.shr_laws p x

  lends : {M : Type 1} {𝓤 : Ura M} (𝓛 : Logic 𝓤) (l : Lft) → Incl l T.lives → (token : Ty → Ptr → Fml) (p : Ptr) (m : Option T.Denot) → Lends 𝓛 (held_owns token T p m) (held_lent T p m) l
  lends 𝓛 l inc token p None = Lends-nothing 𝓛 ftrue l
  lends 𝓛 l inc token p (Some x) =
      Lends-first 𝓛 (lies_at T full_share p x) (token (bare (lone T.mir)) p) (lent_at T p x) l (Lends-lies 𝓛 T l p x (Shares-less 𝓛 T T.lives l inc (L.shares 𝓛) x))

pub shares : (T B : RattleType) (g : Ghosts B.Denot) (L : Laws T) (K : Laws B) → statement T B g L K
shares T B g L K = of_Lends (C.struct T B g) (C.the_codes T.Denot B.Denot T.coded B.coded) (C.the_heap T B g) (C.the_lent T B g)
    (λ h p. laws T L h.at h.value) (copy_shared RawPtr-field RawPtr-copy, (row_shared B K, tt))
    (λ M 𝓤 𝓛 h p. lends T L 𝓛 (C.the_row T B g).lives (Incl-trans (meet_⊑_left (T.lives ++ (B.lives ++ [])) _) (meet_⊑_left T.lives (B.lives ++ []))) (g.dealloc_token h.alloc) h.at h.value)
