-- Each rule of the records agrees with its fact.
use Rattle.std.proofs.Common.{◌≡◌, ℕ, suc, ◌+◌, ◌<◌, ◌≤◌, Bool, true, false, cond, eqb, ltb, List, [], ◌∷◌, length, Some, None, Result, refl, sym, ap, ◌∙◌, arith}
use Rattle.std.specs.Bool.{Decides}
use Rattle.std.proofs.lemmas.Bool.{eqb-true, eqb-false, eq-eqb, ne_eqb, ltb-true, lt-ltb, false≢true}
use Rattle.std.proofs.lemmas.Option.{same_Some, cond_some}
use Rattle.ctf_model.specs.declared.faults.Fault.{Fault}
use Rattle.ctf_model.specs.declared.faults.TheConstants.Fault.{TRUNCATED, BAD_KIND}
use Rattle.ctf_model.specs.declared.sections.Section.TheVariants.{STypes}
use Rattle.ctf_model.specs.rules.Faults.{walk_fault, types, place_of, cut_record, bad_kind, too_many}
use Rattle.ctf_model.specs.format.Header.{section}
use Rattle.ctf_model.specs.format.Laws.{pieces, rest_fault}
use Rattle.ctf_model.specs.format.Lists.{Lists}
use Rattle.ctf_model.specs.rules.Rules.{IsBroken, Keeps, Truncated, BadKind, TooMany, HasUnknownKind}
use Rattle.ctf_model.specs.format.Section.{Piece, IsCut, stop_code}
use Rattle.ctf_model.proofs.Cut.{read, records_cut, code_unknown, code_cut_off, unknown_decided}
use Rattle.ctf_model.proofs.FirstFault.{Agrees, exact_agrees}

-- ---- reading a cut of the type section

-- reading the type section gives the records of its cut
pub types_cut : (ctf : List ℕ) (parts : List (List ℕ)) (rest : List ℕ) → IsCut (section ctf STypes) parts rest → types ctf ≡ pieces 1 0 parts rest
unfolding types
types_cut ctf parts rest cut = records_cut (section ctf STypes) parts rest cut

-- the fault of pieces is that of the rest
fault_behind : (parts : List (List ℕ)) (rest : List ℕ) (index at last : ℕ) → index + length parts ≡ last → walk_fault (pieces index at parts rest) ≡ walk_fault (rest_fault last rest)
fault_behind [] rest index at last e = let same : index ≡ last = omega arith in rw same refl
fault_behind (part ∷ parts) rest index at last e = fault_behind parts rest (index + 1) (at + length part) last (omega arith)

-- the fault of a cut is that of its rest
fault_at : (ctf : List ℕ) (parts : List (List ℕ)) (rest : List ℕ) → IsCut (section ctf STypes) parts rest → walk_fault (types ctf) ≡ walk_fault (rest_fault (length parts + 1) rest)
fault_at ctf parts rest cut = ap (λ (rs : List (Result Piece Fault)). walk_fault rs) (types_cut ctf parts rest cut) ∙ fault_behind parts rest 1 0 (length parts + 1) (omega arith)

-- the fault of a non-empty rest has the number after the last record
fault_some : (ctf : List ℕ) (parts : List (List ℕ)) (rest : List ℕ) (code : ℕ) → IsCut (section ctf STypes) parts rest → 0 < length rest → stop_code rest ≡ code → walk_fault (types ctf) ≡ Some (record { code = code; place = length parts + 1 })
fault_some ctf parts rest code cut lt e =
    let more : eqb (length rest) 0 ≡ false = ne_eqb (length rest) 0 (λ k. absurd (omega arith)) in
    let behind : walk_fault (rest_fault (length parts + 1) rest) ≡ Some (record { code = code; place = length parts + 1 }) = rw (more, e) refl in
    fault_at ctf parts rest cut ∙ behind

-- an empty rest has no fault
fault_none : (ctf : List ℕ) (parts : List (List ℕ)) (rest : List ℕ) → IsCut (section ctf STypes) parts rest → length rest ≡ 0 → walk_fault (types ctf) ≡ None
fault_none ctf parts rest cut e = fault_at ctf parts rest cut ∙ (rw e refl)

-- no record is left out
length_at_least : (parts : List (List ℕ)) (rest : List ℕ) (index at : ℕ) → length parts ≤ length (pieces index at parts rest)
length_at_least [] rest index at = omega arith
length_at_least (part ∷ parts) rest index at = let more = length_at_least parts rest (index + 1) (at + length part) in omega arith

-- without a rest, the pieces are the records
pub length_all : (parts : List (List ℕ)) (rest : List ℕ) (index at : ℕ) → length rest ≡ 0 → length (pieces index at parts rest) ≡ length parts
length_all [] rest index at e = rw e refl
length_all (part ∷ parts) rest index at e = ap suc (length_all parts rest (index + 1) (at + length part) e)

-- ---- the rules

-- the number after the last whole record is computed for the code of the rest
code_at : (s : Lists) (code p : ℕ) (parts : List (List ℕ)) (rest : List ℕ) → IsCut (section s.ctf STypes) parts rest → 0 < length rest → stop_code rest ≡ code → p ≡ length parts + 1 → place_of code (walk_fault (types s.ctf)) ≡ Some p
code_at s code p parts rest cut lt e is =
    let same : eqb code code ≡ true = eq-eqb code code refl in
    let here : place_of code (Some (record { code = code; place = length parts + 1 })) ≡ Some (length parts + 1) = rw same refl in
    ap (place_of code) (fault_some s.ctf parts rest code cut lt e) ∙ here ∙ ap (λ (q : ℕ). Some q) (sym is)

-- a non-empty rest with this code after that many records
abbrev EndsWith : Lists → ℕ → ℕ → Type 0
EndsWith s code p = (parts : List (List ℕ)) × (rest : List ℕ) × IsCut (section s.ctf STypes) parts rest × (0 < length rest) × (stop_code rest ≡ code) × (p ≡ length parts + 1)

-- if a number is computed for a code, there is such a rest
at_code : (s : Lists) (code p : ℕ) → place_of code (walk_fault (types s.ctf)) ≡ Some p → EndsWith s code p
at_code s code p e = let r = read (section s.ctf STypes) in at r.0 r.1 r.2.cut (eqb (length r.1) 0) refl
  where
    at : (parts : List (List ℕ)) (rest : List ℕ) → IsCut (section s.ctf STypes) parts rest → (none : Bool) → eqb (length rest) 0 ≡ none → EndsWith s code p
    at parts rest cut true none = let w = ap (place_of code) (fault_none s.ctf parts rest cut (eqb-true (length rest) 0 none)) in absurd (let x = sym w ∙ e in cc)
    at parts rest cut false some =
        let ne = eqb-false (length rest) 0 some in
        let lt : 0 < length rest = omega (arith, ne) in
        let both = cond_some (eqb (stop_code rest) code) (length parts + 1) p (sym (ap (place_of code) (fault_some s.ctf parts rest (stop_code rest) cut lt refl)) ∙ e) in
        (parts, rest, cut, lt, eqb-true (stop_code rest) code both.0, sym both.1)

-- the code determines which fact holds of the rest
cut_off_code : (rest : List ℕ) → stop_code rest ≡ TRUNCATED → ¬ HasUnknownKind rest
cut_off_code rest e unknown = let other : TRUNCATED ≡ BAD_KIND = sym e ∙ code_unknown rest unknown in absurd cc

unknown_code : (rest : List ℕ) → stop_code rest ≡ BAD_KIND → HasUnknownKind rest
unknown_code rest e = at _ (unknown_decided rest)
  where
    at : (u : Bool) → Decides u (HasUnknownKind rest) → HasUnknownKind rest
    at true d = d.0 refl
    at false d = let other : BAD_KIND ≡ TRUNCATED = sym e ∙ code_cut_off rest (λ h. false≢true (d.1 h)) in absurd cc

-- for a truncated record, exactly its number is computed
pub truncated_agrees : (s : Lists) → Agrees (cut_record s) (IsBroken s 10)
truncated_agrees s = exact_agrees (cut_record s) (Truncated s) (λ p t. code_at s TRUNCATED p t.0 t.1 t.2 t.3 (code_cut_off t.1 t.4) t.5, λ p e. let r = at_code s TRUNCATED p e in (r.0, r.1, r.2, r.3, cut_off_code r.1 r.4, r.5))

-- likewise for an unknown kind
pub bad_kind_agrees : (s : Lists) → Agrees (bad_kind s) (IsBroken s 11)
bad_kind_agrees s = exact_agrees (bad_kind s) (BadKind s) (λ p t. code_at s BAD_KIND p t.0 t.1 t.2 (let low = t.3.0 in omega arith) (code_unknown t.1 t.3) t.4, λ p e. let r = at_code s BAD_KIND p e in (r.0, r.1, r.2, unknown_code r.1 r.4, r.5))

-- if the rules of single records are kept, the section is whole records to its end
pub kept_records : (s : Lists) (n : ℕ) → 11 < n → Keeps s n → (parts : List (List ℕ)) × (rest : List ℕ) × IsCut (section s.ctf STypes) parts rest × (length rest ≡ 0)
kept_records s n lt keeps =
    let r = read (section s.ctf STypes) in at r.0 r.1 r.2.cut (eqb (length r.1) 0) refl _ (unknown_decided r.1)
  where
    at : (parts : List (List ℕ)) (rest : List ℕ) → IsCut (section s.ctf STypes) parts rest → (none : Bool) → eqb (length rest) 0 ≡ none → (u : Bool) → Decides u (HasUnknownKind rest) → (ps : List (List ℕ)) × (r : List ℕ) × IsCut (section s.ctf STypes) ps r × (length r ≡ 0)
    at parts rest cut true none u d = (parts, rest, cut, eqb-true (length rest) 0 none)
    at parts rest cut false some true d = absurd (keeps 11 lt (length parts + 1) (parts, rest, cut, d.0 refl, refl))
    at parts rest cut false some false d =
        let ne = eqb-false (length rest) 0 some in
        absurd (keeps 10 (omega arith) (length parts + 1) (parts, rest, cut, omega (arith, ne), λ h. false≢true (d.1 h), refl))

-- if there are too many records, the number is computed
too_many_at : (s : Lists) (p : ℕ) → TooMany s p → too_many s ≡ Some p
too_many_at s p t =
    let same : length (types s.ctf) ≡ length (pieces 1 0 t.0 t.1) = ap (λ (rs : List (Result Piece Fault)). length rs) (types_cut s.ctf t.0 t.1 t.2) in
    let more = length_at_least t.0 t.1 1 0 in
    let lt = t.3 in
    let many : ltb 32766 (length (types s.ctf)) ≡ true = lt-ltb _ _ (omega arith) in
    let e = t.4 in
    rw (many, e) refl

-- if the number is computed, there are too many records
at_too_many : (s : Lists) (p : ℕ) → Keeps s 12 → too_many s ≡ Some p → TooMany s p
at_too_many s p keeps e = at (ltb 32766 (length (types s.ctf))) refl e
  where
    at : (t : Bool) → ltb 32766 (length (types s.ctf)) ≡ t → cond t (Some 32767) None ≡ Some p → TooMany s p
    at false test e = absurd cc
    at true test e =
        let r = kept_records s 12 (omega arith) keeps in
        let same : length (types s.ctf) ≡ length (pieces 1 0 r.0 r.1) = ap (λ (rs : List (Result Piece Fault)). length rs) (types_cut s.ctf r.0 r.1 r.2) in
        let len = length_all r.0 r.1 1 0 r.3 in
        let lt = ltb-true 32766 (length (types s.ctf)) test in
        (r.0, r.1, r.2, omega arith, sym (same_Some 32767 p e))

pub too_many_agrees : (s : Lists) → Keeps s 12 → Agrees (too_many s) (IsBroken s 12)
too_many_agrees s keeps = exact_agrees (too_many s) (TooMany s) (too_many_at s, λ p. at_too_many s p keeps)
