-- The name that a reference denotes. Source: ctf(5), "String Identifiers"; CTF_NAME_STID and
-- CTF_NAME_OFFSET of sys/ctf.h.
use Rattle.std.specs.Prelude.{ℕ, ◌^◌, ◌/◌, ◌%◌, ◌==◌, Bool, List, [], drop, Option, Some, None, if◌then◌else◌}
use Rattle.std.specs.List.{list_any, before_first}

-- the two string tables: the string section, and the strings of a symbol table if present
pub record Tables : Type 0 where
  pub internal : List ℕ
  pub elf : Option (List ℕ)

abbrev pub is_zero : ℕ → Bool
is_zero b = b == 0

-- the bytes before the first zero, if there is a zero
abbrev pub text : List ℕ → Option (List ℕ)
text bytes = if list_any is_zero bytes then Some (before_first is_zero bytes) else None

-- the table that bit 31 of a reference selects
abbrev pub table : Tables → ℕ → Option (List ℕ)
table t reference = if reference / 2 ^ 31 == 0 then Some t.internal else t.elf

-- the text at an offset of a table, if the table is present
abbrev pub text_at : Option (List ℕ) → ℕ → Option (List ℕ)
text_at None offset = None
text_at (Some bytes) offset = text (drop offset bytes)

-- the name of a reference; offset 0 is the empty name, even without a table (ours)
abbrev pub name : Tables → ℕ → Option (List ℕ)
name t reference =
    if reference % 2 ^ 31 == 0 then Some [] else text_at (table t reference) (reference % 2 ^ 31)
