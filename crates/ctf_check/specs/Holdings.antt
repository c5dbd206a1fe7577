-- What a judged dictionary stores.
use Rattle.std.specs.Prelude.{Bool, true, false, Option, Some, None, if◌then◌else◌}
use Rattle.ctf_model.specs.declared.data_model.DataModel.{DataModel}
use Rattle.ctf_model.specs.format.Lists.{Lists}
use Rattle.ctf_model.specs.spaces.Kept.{Kept}

-- its lists with the program's data model, and whether it owns the lists
pub record Holding : Type 0 where
  pub kept : Kept
  pub owned : Bool

-- for owned lists, and for lent ones
abbrev pub owning : Lists → DataModel → Holding
owning lists model = record { kept = record { lists = lists; model = model }; owned = true }

abbrev pub lent_holding : Lists → DataModel → Holding
lent_holding lists model = record { kept = record { lists = lists; model = model }; owned = false }

-- the lists, if it owns them
abbrev pub lists_owned_by : Holding → Option Lists
lists_owned_by h = if h.owned then Some h.kept.lists else None
