-- The end of the names in a table. Source: ctf(5), "String Identifiers": a name ends with a zero
-- byte.
use Rattle.std.specs.Prelude.{◌≡◌, ℕ, List, Option, is_none, nat_le}
use Rattle.ctf_model.specs.format.Name.{text_at}

-- offsets before `end` begin a name, offsets from `end` on do not
abbrev pub EndsAt : Option (List ℕ) → ℕ → Type 0
EndsAt table end = (at : ℕ) → is_none (text_at table at) ≡ nat_le end at
