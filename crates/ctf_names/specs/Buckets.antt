-- Hash buckets for the names of types. Source: ours.
use Rattle.std.specs.Prelude.{ℕ, ◌+◌, ◌*◌, ◌/◌, ◌^◌, ◌==◌, ◌&&◌, Bool, List, length, Option, Some, None, if◌then◌else◌}
use Rattle.ctf_model.specs.format.Term.{Term}
use Rattle.ctf_order.specs.Names.{hash}
use Rattle.ctf_sections.specs.ShortNames.{if_short}

abbrev pub longest_hashed : ℕ
longest_hashed = 2048

-- there is one bucket per type, then one for the empty name, and one for all longer names
abbrev pub bucket_of_short : ℕ → Option (List ℕ) → ℕ
bucket_of_short types None = types + 1
bucket_of_short types (Some name) =
    if length name == 0 then types else hash name * types / 2 ^ 32

abbrev pub bucket : ℕ → List ℕ → ℕ
bucket types name = bucket_of_short types (if_short longest_hashed (Some name))

-- a visible type whose name is in bucket `n`
abbrev pub is_in : ℕ → ℕ → Term → Bool
is_in types n x = x.root && bucket types x.name == n
