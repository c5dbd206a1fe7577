-- The order of names for look-ups. Source: ours. Any function of a name would do: equal names have
-- equal ranks, and within one rank a look-up compares the names. The rank includes the length:
-- names of one length do not overlap in a table, so comparing them reads each byte once.
use Rattle.std.specs.Prelude.{ℕ, zero, suc, ◌+◌, ◌-◌, ◌*◌, ◌^◌, ◌%◌, ◌/◌, ltb, min, Bool, false, List, length, Option, Some, None, if◌then◌else◌}
use Rattle.std.specs.List.{fold}
use Rattle.std.specs.Ordering.{nat_cmp}
use Rattle.std.specs.Str.{bytes_eq}
use Rattle.std.specs.declared.cmp.Ordering.{Ordering}
use Rattle.ctf_model.specs.format.Bytes.{u64_at}

-- the high half of the product of two words
abbrev pub mix : ℕ → ℕ → ℕ
mix h word = ((h + word) % 2 ^ 64 * 11400714819323198485) % 2 ^ 64 / 2 ^ 32

abbrev pub hash_of_bytes : List ℕ → ℕ
hash_of_bytes name = fold mix 0 name

-- the hash of the last eight bytes and the first `n` words
abbrev pub hash_of_words : List ℕ → ℕ → ℕ
hash_of_words name zero = mix 0 (u64_at name (length name - 8))
hash_of_words name (suc n) = mix (hash_of_words name n) (u64_at name (n * 8))

abbrev pub hash : List ℕ → ℕ
hash name =
    if ltb (length name) 8 then hash_of_bytes name
    else hash_of_words name (min (length name) 2048 / 8)

-- in the high half a hash of at most 2,056 bytes of the name, in the low half its length
unfoldable pub rank : List ℕ → ℕ
rank name = hash name * 2 ^ 32 + length name % 2 ^ 32

abbrev pub by_rank : List ℕ → List ℕ → Ordering
by_rank x y = nat_cmp (rank x) (rank y)

abbrev pub is_text : Option (List ℕ) → List ℕ → Bool
is_text None text = false
is_text (Some name) text = bytes_eq name text
