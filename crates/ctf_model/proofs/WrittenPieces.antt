-- The records of written types form a section, and keep the rules of records.
use Rattle.std.proofs.Common.{◌≡◌, ℕ, suc, ◌+◌, Bool, false, List, [], ◌∷◌, ◌++◌, length, map, None, refl, ap, sym, ◌∙◌}
use Rattle.std.specs.List.{AllByRecursion, flat_map, concat, list_any}
use Rattle.std.proofs.lemmas.List.{append_assoc}
use Rattle.ctf_model.specs.rules.Faults.{walk_fault, record_sites, list_sites, first_misnaming}
use Rattle.ctf_model.specs.format.Laws.{pieces}
use Rattle.ctf_model.specs.format.Record.{IsWhole, kind}
use Rattle.ctf_model.specs.rules.References.{references, is_missing, is_misnaming}
use Rattle.ctf_model.specs.format.Section.{Section, IsCut, Stops, front_len, terms_in}
use Rattle.ctf_model.specs.format.Term.{Term}
use Rattle.ctf_model.proofs.Cut.{stops_none}
use Rattle.ctf_model.proofs.Spelled.{AreNamed}
use Rattle.ctf_model.specs.writing.WritingLaws.{table_of}
use Rattle.ctf_model.proofs.NamedSites.{said_named, joined_named}
use Rattle.ctf_model.proofs.RecordedTypes.{IsRecorded}
use Rattle.ctf_model.proofs.SpelledRead.{says_of}

-- no own type that `x` refers to is missing
abbrev pub NamesNone : Bool → ℕ → Term → Type 0
NamesNone child count x = list_any (is_missing child count) (references x.body) ≡ false

-- each type is written as these bytes
abbrev pub AreRecorded : List (List ℕ) → (Term → List ℕ) → List Term → Type 0
AreRecorded names write xs = AllByRecursion (λ x. IsRecorded names (write x) x) xs

-- the records spell the types
pub section_of : (names : List (List ℕ)) (write : Term → List ℕ) (xs : List Term) → AreRecorded names write xs → Section (table_of names) (flat_map write xs) xs
section_of names write [] h = refl
section_of names write (x ∷ xs) h = (write x, flat_map write xs, refl, h.0.spells, section_of names write xs h.1)

-- ---- the cut

joined : (write : Term → List ℕ) (xs : List Term) → flat_map write xs ≡ concat (map write xs) ++ []
joined write [] = refl
joined write (x ∷ xs) = ap (λ (r : List ℕ). write x ++ r) (joined write xs) ∙ sym (append_assoc (write x) (concat (map write xs)) [])

all_whole : (names : List (List ℕ)) (write : Term → List ℕ) (xs : List Term) → AreRecorded names write xs → AllByRecursion IsWhole (map write xs)
all_whole names write [] h = tt
all_whole names write (x ∷ xs) h = (h.0.spells.whole, all_whole names write xs h.1)

nothing_stops : Stops []
unfolding front_len
nothing_stops = stops_none [] refl

pub cut_of : (names : List (List ℕ)) (write : Term → List ℕ) (xs : List Term) → AreRecorded names write xs → IsCut (flat_map write xs) (map write xs) []
cut_of names write xs h = record { joined = joined write xs; whole = all_whole names write xs h; stops = nothing_stops }

-- ---- reading record by record

pub no_walk_fault : (write : Term → List ℕ) (xs : List Term) (index at : ℕ) → walk_fault (pieces index at (map write xs) []) ≡ None
no_walk_fault write [] index at = refl
no_walk_fault write (x ∷ xs) index at = no_walk_fault write xs (index + 1) (at + length (write x))

pub pieces_len : (write : Term → List ℕ) (xs : List Term) (index at : ℕ) → length (pieces index at (map write xs) []) ≡ length xs
pieces_len write [] index at = refl
pieces_len write (x ∷ xs) index at = ap suc (pieces_len write xs (index + 1) (at + length (write x)))

pub pieces_terms : (names : List (List ℕ)) (write : Term → List ℕ) (xs : List Term) (index at : ℕ) → AreRecorded names write xs → terms_in (table_of names) (pieces index at (map write xs) []) ≡ xs
unfolding terms_in
pieces_terms names write [] index at h = refl
pieces_terms names write (x ∷ xs) index at h = rw (says_of (table_of names) (write x) x h.0.spells, pieces_terms names write xs (index + 1) (at + length (write x)) h.1) refl

pub pieces_named : (names : List (List ℕ)) (write : Term → List ℕ) (xs : List Term) (start index at : ℕ) → AreRecorded names write xs → AreNamed (table_of names) (record_sites start (pieces index at (map write xs) []))
unfolding record_sites
pieces_named names write [] start index at h = tt
pieces_named names write (x ∷ xs) start index at h =
    let named = said_named (table_of names) (write x) (start + at) x (says_of (table_of names) (write x) x h.0.spells) in
    let more = pieces_named names write xs start (index + 1) (at + length (write x)) h.1 in
    (named.own, joined_named (table_of names) (list_sites (start + at) (write x) (kind (write x))) _ named.listed more)

pub pieces_refer : (names : List (List ℕ)) (write : Term → List ℕ) (child : Bool) (count : ℕ) (xs : List Term) (index at : ℕ) → AreRecorded names write xs → AllByRecursion (NamesNone child count) xs → first_misnaming (table_of names) child count (pieces index at (map write xs) []) ≡ None
unfolding first_misnaming is_misnaming
pieces_refer names write child count [] index at h r = refl
pieces_refer names write child count (x ∷ xs) index at h r =
    rw (h.0.short, says_of (table_of names) (write x) x h.0.spells, r.0) (pieces_refer names write child count xs (index + 1) (at + length (write x)) h.1 r.1)
