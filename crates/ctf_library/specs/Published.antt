-- A session's publications as they are stored. Source: ours.
use Rattle.std.specs.Prelude.{◌≡◌, ℕ, List, map, sum_by, nat_lt, true}
use Rattle.std.specs.BTreeMap.{BTreeMap, IsOrdered}
use Rattle.std.specs.List.{list_all}
use Rattle.ctf_library.specs.NameOrder.{by_hash}
use Rattle.ctf_library.specs.Turns.{in_turn}
use Rattle.ctf_library.specs.declared.publication.Publication as own
use Rattle.ctf_protocol.specs.sessions.Charges.{publication_bytes}
use Rattle.ctf_protocol.specs.sessions.State.{Publication}

-- a name and its stored publication
abbrev pub Named : Type 0
Named = List ℕ × own.Publication

abbrev pub publication_of : Named → Publication
publication_of named = record { name = named.0; kept = named.1.loaded }

-- all publications, in the order of their publishing
abbrev pub published_in : List Named → List Publication
published_in entries = map publication_of (in_turn (λ named. named.1.turn) entries)

-- the names are in order, the next turn is greater than all, and the sum of bytes is correct
pub record IsKept (by_name : BTreeMap (List ℕ) own.Publication) (turns bytes : ℕ)
    : Type 0 where
  pub ordered : IsOrdered by_hash by_name
  pub later : list_all (λ named. nat_lt named.1.turn turns) by_name.entries ≡ true
  pub sum : bytes ≡ sum_by publication_bytes (published_in by_name.entries)
