-- A dictionary that breaks no rule and is no child refers only to its own types.
use Rattle.std.proofs.Common.{◌≡◌, ◌⊎◌, inl, ℕ, ◌+◌, ◌-◌, ◌≤◌, ◌<◌, false, List, [], ◌∷◌, length, None, refl, subst, arith, inr, zero, suc}
use Rattle.std.specs.Prelude.{Any}
use Rattle.std.specs.List.{AllByRecursion}
use Rattle.std.proofs.lemmas.Bool.{cases_lt}
use Rattle.ctf_model.specs.rules.Chains.{by_value}
use Rattle.ctf_model.specs.rules.Faults.{first_fault, types}
use Rattle.ctf_model.specs.format.Header.{fields, is_child, section}
use Rattle.ctf_model.specs.format.Laws.{pieces}
use Rattle.ctf_model.specs.format.Lists.{Lists, tables}
use Rattle.ctf_model.specs.format.Name.{Tables}
use Rattle.ctf_model.specs.rules.References.{references}
use Rattle.ctf_model.specs.rules.Rules.{IsMissing, Keeps, Misnames}
use Rattle.ctf_model.specs.format.Section.{IsCut, terms_in}
use Rattle.ctf_model.specs.format.SpelledTypes.{HasStrayMark}
use Rattle.ctf_model.proofs.SpelledRead.{spells_of}
use Rattle.ctf_model.specs.format.Term.{Term, Body}
use Rattle.ctf_model.specs.format.Term as term
use Rattle.ctf_model.specs.declared.sections.Section.TheVariants.{STypes}
use Rattle.ctf_model.proofs.Anywhere.{all_map, any_here, any_there}
use Rattle.ctf_model.proofs.BoundedValues.{keeps_all}
use Rattle.ctf_model.proofs.OwnTypes.{not_zero}
use Rattle.ctf_model.proofs.RecordRules.{kept_records, types_cut}
use Rattle.ctf_model.proofs.Spelled.{Says}
use Rattle.ctf_model.proofs.SpelledSection.{all_from_each, few_records, no_stray, parts_said}

-- ---- numbers

-- a type number that exists is below 0x8000
there_low : (count n : ℕ) → count ≤ 32766 → (IsMissing false count n → ⊥) → n < 0x8000
there_low count zero few there = omega arith
there_low count (suc m) few there =
    let positive = not_zero (suc m) (omega arith) in
    let here : (count ≤ suc m - 1) → ⊥ = rw positive at there in
    at (cases_lt count (suc m)) here
  where
    at : (count < suc m) ⊎ (suc m ≤ count) → ((count ≤ suc m - 1) → ⊥) → suc m < 0x8000
    at (inl above) h = absurd (h (omega arith))
    at (inr below) h = omega arith

none_of : (P : ℕ → Type 0) (ns : List ℕ) → (Any P ns → ⊥) → AllByRecursion (λ n. P n → ⊥) ns
none_of P [] h = tt
none_of P (n ∷ ns) h = (λ p. h (any_here P n ns p), none_of P ns (λ a. h (any_there P n ns a)))

-- the types of steps by value are among those that the type refers to
pub values_named : (P : ℕ → Type 0) (body : Body) → AllByRecursion P (references body) → AllByRecursion P (by_value body)
values_named P (term.struct size ms) a = a
values_named P (term.union size ms) a = a
values_named P (term.array e) a = (a.0, tt)
values_named P (term.typedef t) a = a
values_named P (term.volatile t) a = a
values_named P (term.const t) a = a
values_named P (term.restrict t) a = a
values_named P (term.integer x) a = tt
values_named P (term.float x) a = tt
values_named P (term.pointer t) a = tt
values_named P (term.enum size es) a = tt
values_named P (term.function ret ts) a = tt
values_named P (term.forward t) a = tt
values_named P term.unknown a = tt

-- ---- records

-- no record refers to a missing type
no_misnaming : (s : Lists) (n : ℕ) → 14 < n → Keeps s n → (parts : List (List ℕ)) (rest : List ℕ) → IsCut (section s.ctf STypes) parts rest → AllByRecursion (λ part. Misnames (tables s) (is_child (fields s.ctf)) (length parts) part → ⊥) parts
no_misnaming s n lt keeps parts rest cut =
    all_from_each (λ part. Misnames (tables s) (is_child (fields s.ctf)) (length parts) part → ⊥) parts
    (λ front part back e bad. keeps 14 lt (length front + 1)
    (record { front = front; part = part; back = back; rest = rest; cut = subst (λ (ps : List (List ℕ)). IsCut (section s.ctf STypes) ps rest) e cut }, refl, subst (λ (ps : List (List ℕ)). Misnames (tables s) (is_child (fields s.ctf)) (length ps) part) e bad))

-- all numbers that a type refers to are below 0x8000
abbrev pub IsLow : Term → Type 0
IsLow x = AllByRecursion (λ t. t < 0x8000) (references x.body)

record_low : (t : Tables) (count : ℕ) (part : List ℕ) (x : Term) → count ≤ 32766 → Says t part x → (HasStrayMark part → ⊥) → (Misnames t false count part → ⊥) → IsLow x
record_low t count part x few says form good =
    let named = none_of (IsMissing false count) (references x.body) (λ a. good (inr (x, spells_of t part x says.whole form says.says, a))) in
    all_map (λ n. IsMissing false count n → ⊥) (λ n. n < 0x8000) (λ n h. there_low count n few h) (references x.body) named

terms_low : (t : Tables) (count : ℕ) (parts : List (List ℕ)) (rest : List ℕ) (index at : ℕ) → count ≤ 32766 → length rest ≡ 0
    → AllByRecursion (λ part. (x : Term) × Says t part x) parts → AllByRecursion (λ part. HasStrayMark part → ⊥) parts → AllByRecursion (λ part. Misnames t false count part → ⊥) parts
    → AllByRecursion IsLow (terms_in t (pieces index at parts rest))
unfolding terms_in
terms_low t count [] rest index at few ends said form good = rw ends tt
terms_low t count (part ∷ parts) rest index at few ends said form good =
    let x = said.0 in
    let later = terms_low t count parts rest (index + 1) (at + length part) few ends said.1 form.1 good.1 in
    let first = record_low t count part x.0 few x.1 form.0 good.0 in
    rw x.1.says (first, later)

-- ---- the dictionary

pub all_low : (s : Lists) → first_fault s ≡ None → is_child (fields s.ctf) ≡ false → AllByRecursion IsLow (terms_in (tables s) (types s.ctf))
all_low s e plain =
    let every = keeps_all s e in
    let keeps : Keeps s 15 = λ n lt. every n in
    let r = kept_records s 15 (omega arith) keeps in
    let same = types_cut s.ctf r.0 r.1 r.2 in
    let good = rw plain at (no_misnaming s 15 (omega arith) keeps r.0 r.1 r.2) in
    rw same (terms_low (tables s) (length r.0) r.0 r.1 1 0 (few_records s 15 (omega arith) keeps r.0 r.1 r.2) r.3 (parts_said s 15 (omega arith) keeps r.0 r.1 r.2) (no_stray s 15 (omega arith) keeps r.0 r.1 r.2) good)
