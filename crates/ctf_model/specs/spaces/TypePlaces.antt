-- The place of the type with a given number. Source: ctf(5); CTF_TYPE_TO_INDEX, CTF_TYPE_ISPARENT,
-- CTF_MAX_PTYPE of sys/ctf.h.
use Rattle.std.specs.Prelude.{ℕ, ◌+◌, ◌-◌, ◌==◌, nat_lt, Bool, if◌then◌else◌}
use Rattle.ctf_model.specs.declared.numbers.Place.{Place}
use Rattle.ctf_model.specs.declared.numbers.Place.TheVariants.{Nowhere, Own, Parents}

-- in a child: numbers below 0x8000 are the parent's, and its own types count from 0x8001
abbrev pub place_in_child : ℕ → Place
place_in_child n =
    if nat_lt n 0x8000 then Parents (n - 1) else if n == 0x8000 then Nowhere else Own (n - 0x8001)

-- in any dictionary: 0 is no type, and types of one that is no child count from 1
abbrev pub place : Bool → ℕ → Place
place child n = if n == 0 then Nowhere else if child then place_in_child n else Own (n - 1)

-- the number of the own type with index `i`
abbrev pub own_number : Bool → ℕ → ℕ
own_number child i = if child then i + 0x8001 else i + 1
