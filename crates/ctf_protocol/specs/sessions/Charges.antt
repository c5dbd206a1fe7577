-- The charge of a session: the bytes of its dictionaries. Source: ours.
use Rattle.std.specs.Prelude.{ℕ, ◌+◌, sum_by}
use Rattle.ctf_model.specs.opened.Sizes.{kept_bytes, lists_bytes, parent_bytes}
use Rattle.ctf_protocol.specs.sessions.State.{Publication, Slot, State}

-- a slot's bytes; a draft's pending part counts nothing
abbrev pub slot_bytes : Slot → ℕ
slot_bytes slot = kept_bytes slot.kept + parent_bytes slot.parent

abbrev pub publication_bytes : Publication → ℕ
publication_bytes publication = kept_bytes publication.kept

-- the charge of a library; a dictionary counts once for each use
unfoldable pub charge : State → ℕ
charge state =
    lists_bytes state.stage
    + (sum_by slot_bytes state.slots + sum_by publication_bytes state.published)
