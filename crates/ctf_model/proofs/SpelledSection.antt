-- The types that the type section spells, if the rules are kept.
use Rattle.std.proofs.Common.{◌≡◌, ℕ, ◌+◌, ◌<◌, ◌≤◌, List, [], ◌∷◌, ◌++◌, length, Result, refl, sym, ap, subst, ◌∙◌, arith, suc, inl, ⊎_elim}
use Rattle.std.specs.List.{concat, AllByRecursion}
use Rattle.std.proofs.lemmas.Bool.{cases_lt}
use Rattle.std.proofs.lemmas.List.{append_assoc, nil_from_length}
use Rattle.ctf_model.specs.declared.faults.Fault.{Fault}
use Rattle.ctf_model.specs.declared.sections.Section.TheVariants.{STypes}
use Rattle.ctf_model.specs.rules.Faults.{list_sites, record_sites, types}
use Rattle.ctf_model.specs.format.Header.{fields, section}
use Rattle.ctf_model.specs.format.Laws.{pieces}
use Rattle.ctf_model.specs.format.Lists.{Lists, tables}
use Rattle.ctf_model.specs.format.Name.{Tables}
use Rattle.ctf_model.specs.format.Record.{IsWhole, kind}
use Rattle.ctf_model.specs.rules.Rules.{Keeps}
use Rattle.ctf_model.specs.format.Section.{Section, Piece, IsCut, terms_in}
use Rattle.ctf_model.specs.format.SpelledTypes.{HasStrayMark}
use Rattle.ctf_model.specs.format.Term.{Term}
use Rattle.ctf_model.proofs.GoodNames.{good}
use Rattle.ctf_model.proofs.RecordRules.{kept_records, length_all, types_cut}
use Rattle.ctf_model.proofs.SpelledRead.{spells_of}
use Rattle.ctf_model.proofs.Spelled.{AreNamed, Says, split_front, split_back, spelled}

-- ---- each record

-- each record with valid names spells a type
all_said : (t : Tables) (start : ℕ) (parts : List (List ℕ)) (rest : List ℕ) (index at : ℕ) → AllByRecursion IsWhole parts → AreNamed t (record_sites start (pieces index at parts rest)) → AllByRecursion (λ part. (x : Term) × Says t part x) parts
unfolding record_sites
all_said t start [] rest index at whole named = tt
all_said t start (part ∷ parts) rest index at whole named =
    let listed = list_sites (start + at) part (kind part) in
    let others = record_sites start (pieces (index + 1) (at + length part) parts rest) in
    (spelled t part (start + at) whole.0 named.0 (split_front t listed others named.1), all_said t start parts rest (index + 1) (at + length part) whole.1 (split_back t listed others named.1))

-- the same for a dictionary that keeps the rule of names
pub parts_said : (s : Lists) (n : ℕ) → 13 < n → Keeps s n → (parts : List (List ℕ)) (rest : List ℕ) → IsCut (section s.ctf STypes) parts rest → AllByRecursion (λ part. (x : Term) × Says (tables s) part x) parts
parts_said s n lt keeps parts rest cut =
    let start = 36 + (fields s.ctf).typeoff in
    let named = subst (λ (rs : List (Result Piece Fault)). AreNamed (tables s) (record_sites start rs)) (types_cut s.ctf parts rest cut) (good s n lt keeps).records in
    all_said (tables s) start parts rest 1 0 cut.whole named

-- there are not too many records
pub few_records : (s : Lists) (n : ℕ) → 12 < n → Keeps s n → (parts : List (List ℕ)) (rest : List ℕ) → IsCut (section s.ctf STypes) parts rest → length parts ≤ 32766
few_records s n lt keeps parts rest cut = ⊎_elim (λ many. absurd (keeps 12 lt 32767 (parts, rest, cut, many, refl))) (λ few. few) (cases_lt 32766 (length parts))

-- a fact that holds of each record, whatever comes before and after it, holds of all
pub all_from_each : (P : List ℕ → Type 0) (parts : List (List ℕ)) → ((front : List (List ℕ)) (part : List ℕ) (back : List (List ℕ)) → parts ≡ front ++ part ∷ back → P part) → AllByRecursion P parts
all_from_each P [] each = tt
all_from_each P (part ∷ parts) each = (each [] part parts refl, all_from_each P parts (λ front other back e. each (part ∷ front) other back (ap (λ (ps : List (List ℕ)). part ∷ ps) e)))

-- no record has the mark of the long form if its kind does not allow it
pub no_stray : (s : Lists) (n : ℕ) → 14 < n → Keeps s n → (parts : List (List ℕ)) (rest : List ℕ) → IsCut (section s.ctf STypes) parts rest → AllByRecursion (λ part. ¬ HasStrayMark part) parts
no_stray s n lt keeps parts rest cut = all_from_each (λ part. ¬ HasStrayMark part) parts (λ front part back e stray. keeps 14 lt (length front + 1) (record { front = front; part = part; back = back; rest = rest; cut = subst (λ (ps : List (List ℕ)). IsCut (section s.ctf STypes) ps rest) e cut }, refl, inl stray))

-- ---- all records

-- records that spell types in valid forms spell exactly these types in sequence
spelled_in_turn : (t : Tables) (parts : List (List ℕ)) (rest b : List ℕ) (index at : ℕ) → b ≡ concat parts ++ rest → length rest ≡ 0 → AllByRecursion (λ part. (x : Term) × Says t part x) parts → AllByRecursion (λ part. ¬ HasStrayMark part) parts
    → Section t b (terms_in t (pieces index at parts rest)) × (length (terms_in t (pieces index at parts rest)) ≡ length parts)
unfolding terms_in
spelled_in_turn t [] rest b index at joined ends said form = rw ends (joined ∙ nil_from_length rest ends, refl)
spelled_in_turn t (part ∷ parts) rest b index at joined ends said form =
    let x = said.0 in
    let later = spelled_in_turn t parts rest (concat parts ++ rest) (index + 1) (at + length part) refl ends said.1 form.1 in
    rw x.1.says ((part, concat parts ++ rest, joined ∙ append_assoc part (concat parts) rest, spells_of t part x.0 x.1.whole form.0 x.1.says, later.0), ap suc later.1)

-- the section spells the types that are read, one for each record
pub section_spelled : (s : Lists) (n : ℕ) → 14 < n → Keeps s n → Section (tables s) (section s.ctf STypes) (terms_in (tables s) (types s.ctf)) × (length (terms_in (tables s) (types s.ctf)) ≡ length (types s.ctf))
section_spelled s n lt keeps =
    let r = kept_records s n (omega arith) keeps in
    let same = types_cut s.ctf r.0 r.1 r.2 in
    let found = spelled_in_turn (tables s) r.0 r.1 (section s.ctf STypes) 1 0 r.2.joined r.3 (parts_said s n (omega arith) keeps r.0 r.1 r.2) (no_stray s n lt keeps r.0 r.1 r.2) in
    let count = length_all r.0 r.1 1 0 r.3 in
    rw same (found.0, found.1 ∙ sym count)
