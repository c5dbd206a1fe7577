-- `NullableBox` at its type parameters: a present value is owned as by a box.
use denote.RattleType.{RattleType}
use Rattle.std_alloc.proofs.BoxSteps.Form.{Bx, D, X, R, P}
use Rattle.ctf_c.specs.contracts.handles.nullable_box.NullableBox as held

module _ (E : Bx) where
  -- the row of `NullableBox`
  abbrev pub Hd : RattleType
  Hd = held.the_row (R E) (P E) E.al.g

  -- its content as a box
  abbrev pub boxed : (Hd).Denot → X E → D E
  boxed h x = record { ptr = h.at; alloc = h.alloc; value = x }
