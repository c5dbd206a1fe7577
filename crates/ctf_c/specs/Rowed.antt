-- Rows in the results of C calls. Source: ours.
use Rattle.std.specs.Prelude.{◌≡◌, ℕ, List, length, Option, Some, None, Result, Ok, Err}
use Rattle.std.specs.Option.{option_map}
use Rattle.ctf_c.specs.Given.{status_of}
use Rattle.ctf_c.specs.names.Filling.{Fills}
use Rattle.ctf_c.specs.names.Holders.{lists_at}
use Rattle.ctf_model.specs.declared.faults.Fault.{Fault}
use Rattle.ctf_model.specs.format.Lists.{Lists}
use Rattle.ctf_model.specs.opened.Open.{Open, own_in}
use Rattle.ctf_model.specs.spaces.TypePlaces.{place}

-- the lists of the dictionary that a type number belongs to; a child's low numbers belong to its
-- parent
abbrev pub lists_with : Option Open → ℕ → Option Lists
lists_with None t = None
lists_with (Some s) t =
    lists_at (place (own_in s).child t) s.own.lists (option_map (λ p. p.lists) s.parent)

-- the rows are filled with the items from an index on, and the total number is given; or the status
-- gives the refusal, and the output is unchanged
abbrev pub GivesRows : {A R : Type 0} → (A → R → Type 0) → Result (List A) Fault → ℕ → ℕ
    → List R → List R → ℕ → ℕ → Type 0
GivesRows Tells (Ok items) from status old new was is =
    (status ≡ 0) × (is ≡ length items) × Fills Tells items from old new
GivesRows Tells (Err fault) from status old new was is =
    (status ≡ status_of fault) × (new ≡ old) × (is ≡ was)
