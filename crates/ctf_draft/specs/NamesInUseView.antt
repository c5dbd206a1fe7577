-- The names of a type's members or enumerators, and their hashes. Source: ours.
use Rattle.std.specs.Prelude.{ℕ, Bool, not, ◌&&◌, ◌||◌, ◌==◌, nat_eq, if◌then◌else◌, List, [], length, map}
use Rattle.std.specs.Hash.FoldHasher as folding
use Rattle.std.specs.List.{list_all, list_any}
use Rattle.indexmap.specs.IndexSet.{insert_key}
use Rattle.ctf_draft.specs.declared.types.Body.{Body}
use Rattle.ctf_draft.specs.declared.types.Body.TheVariants as owned

abbrev pub name_hash : List ℕ → ℕ
name_hash name = folding.finish (folding.write folding.initial name)

abbrev pub has_hash : List ℕ → List ℕ → Bool
has_hash hashes name = list_any (nat_eq (name_hash name)) hashes

-- whether a name may be one of those that hashes were made of
abbrev pub may_be_in : List ℕ → List ℕ → Bool
may_be_in hashes name = not (length name == 0) && has_hash hashes name

-- the hashes with that of one more name
abbrev pub with_hash : List ℕ → List ℕ → List ℕ
with_hash hashes name =
    if length name == 0 then hashes else insert_key nat_eq hashes (name_hash name)

-- each name that is not empty has its hash among the hashes
abbrev pub are_hashed : List ℕ → List (List ℕ) → Bool
are_hashed hashes names = list_all (λ name. (length name == 0) || has_hash hashes name) names

abbrev pub names_in : Body → List (List ℕ)
names_in (owned.Aggregate kind size members) = map (λ m. m.name) members.items
names_in (owned.Enum size enumerators) = map (λ e. e.name) enumerators.items
names_in _ = []
