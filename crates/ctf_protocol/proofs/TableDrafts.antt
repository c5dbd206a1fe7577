-- The faults of dictionaries, imports, drafts and their writing are in the table.
use Rattle.std.proofs.Common.{◌≡◌, ℕ, ◌+◌, List, [], ◌∷◌, Bool, true, false, Option, Some, None, Result, Ok, Err, refl}
use Rattle.std.specs.Prelude.{if◌then◌else◌}
use Rattle.ctf_model.specs.drafts.Adders.{add_enumerator, add_label, add_member, add_type, against_enumerator, against_label, against_member, against_place, against_type, body_at, place_member, put_member, replace_body, size_with, with_enumerator, with_label, with_member, with_type}
use Rattle.ctf_model.specs.drafts.Drafts.{Draft, above, against_draft, empty_draft, new_draft, next_number, space_of}
use Rattle.ctf_model.specs.drafts.NewTypes.{NewType, new_term}
use Rattle.ctf_model.specs.drafts.Placement.{behind_last, bits_filled, bits_found, last_member, member_place, own_place}
use Rattle.ctf_model.specs.figures.Figures.{align, resolved_type, size}
use Rattle.ctf_model.specs.format.Dictionary.{Dictionary, Label}
use Rattle.ctf_model.specs.format.Lists.{Lists}
use Rattle.ctf_model.specs.format.Term.{Body, Enumerator, Member, Term}
use Rattle.ctf_model.specs.format.Term as term
use Rattle.ctf_model.specs.rules.Chains.{by_value, declarator}
use Rattle.ctf_model.specs.rules.Faults.{first_broken, first_fault, rules}
use Rattle.ctf_model.specs.rules.Judgements.{first_met, ◌then◌}
use Rattle.ctf_model.specs.spaces.Imports.{Import, Modelled, first_against, import_fault, import_rules, Rule}
use Rattle.ctf_model.specs.spaces.Space.{Space, space_type}
use Rattle.ctf_model.specs.writing.Written.{bytes_of, bytes_unless, deep_by, dictionary_too_big, unwritten, written}
use Rattle.ctf_model.specs.declared.data_model.DataModel.{DataModel}
use Rattle.ctf_model.specs.declared.faults.Fault.{Fault}
use Rattle.ctf_model.specs.declared.faults.TheConstants.Fault.{DECL_DEEP, DICT_TOO_BIG, VALUE_DEEP}
use Rattle.ctf_protocol.proofs.TableCodes.{good, good_fault, later, met, then_good, unless_good}
use Rattle.ctf_protocol.proofs.TableFigures.{align_good, resolved_good, size_good, type_good}
use Rattle.ctf_protocol.specs.sessions.RefusalLaws.{has_row}

-- ---- dictionaries

-- the codes from `code` on have rows, one for each rule
abbrev rows_from : {S : Type 0} → ℕ → List (S → Option ℕ) → Bool
rows_from code [] = true
rows_from code (rule ∷ rules) = if has_row code then rows_from (code + 1) rules else false

row_here : (t : Bool) (rest : Bool) → (if t then rest else false) ≡ true → t ≡ true
row_here true rest h = refl
row_here false rest h = absurd cc

rows_behind : (t : Bool) (rest : Bool) → (if t then rest else false) ≡ true → rest ≡ true
rows_behind true rest h = h
rows_behind false rest h = absurd cc

broken_good : {S : Type 0} → (code : ℕ) (rules : List (S → Option ℕ)) (s : S) → rows_from code rules ≡ true → good_fault (first_broken code rules s) ≡ true
broken_good code [] s h = refl
broken_good code (rule ∷ rules) s h = later code (rule s) (first_broken (code + 1) rules s) (row_here (has_row code) (rows_from (code + 1) rules) h) (broken_good (code + 1) rules s (rows_behind (has_row code) (rows_from (code + 1) rules) h))

pub dictionary_good : (s : Lists) → good_fault (first_fault s) ≡ true
unfolding first_fault rules
dictionary_good s = broken_good 1 rules s refl

-- ---- imports

abbrev all_coded : List Rule → Bool
all_coded [] = true
all_coded (rule ∷ rules) = if has_row rule.code then all_coded rules else false

against_good : (rules : List Rule) (i : Import) → all_coded rules ≡ true → good_fault (first_against rules i) ≡ true
against_good [] i h = refl
against_good (rule ∷ rules) i h = later rule.code (rule.broken i) (first_against rules i) (row_here (has_row rule.code) (all_coded rules) h) (against_good rules i (rows_behind (has_row rule.code) (all_coded rules) h))

pub import_good : (i : Import) → good_fault (import_fault i) ≡ true
import_good i = against_good import_rules i refl

-- ---- drafts

pub new_good : (parent : Option Modelled) (parname parlabel : List ℕ) (model : DataModel) → good (new_draft parent parname parlabel model) ≡ true
unfolding new_draft
new_good parent parname parlabel model = unless_good (first_met (against_draft parent parname parlabel model)) (Ok (empty_draft (above parent) parname parlabel model)) (met (against_draft parent parname parlabel model) refl) refl

pub type_added : (d : Draft) (x : NewType) → good (add_type d x) ≡ true
unfolding add_type
type_added d x = unless_good (first_met (against_type d (new_term x))) (Ok (record { draft = with_type d (new_term x); answer = next_number d })) (met (against_type d (new_term x)) refl) refl

found_bits : (n : ℕ) (r : Result Term Fault) → good r ≡ true → good (bits_found n r) ≡ true
found_bits n (Err f) g = g
found_bits n (Ok x) g = refl

bits_good : (s : Space) (n : ℕ) → good (bits_filled s n) ≡ true
bits_good s n = then_good (size s n) _ (size_good s n) (λ bytes. then_good (resolved_type s n) _ (resolved_good s n) (λ t. found_bits bytes (space_type s t) (type_good s t)))

behind_good : (s : Space) (last : Option Member) (tnum : ℕ) → good (behind_last s last tnum) ≡ true
behind_good s None tnum = refl
behind_good s (Some last) tnum = then_good (bits_filled s last.tnum) _ (bits_good s last.tnum) (λ bits. then_good (align s tnum) _ (align_good s tnum) (λ a. refl))

own_good : (s : Space) (b : Body) (tnum : ℕ) → good (own_place s b tnum) ≡ true
own_good s term.unknown tnum = refl
own_good s (term.integer x) tnum = refl
own_good s (term.float x) tnum = refl
own_good s (term.pointer t) tnum = refl
own_good s (term.array a) tnum = refl
own_good s (term.function r args) tnum = refl
own_good s (term.struct said ms) tnum = behind_good s (last_member ms) tnum
own_good s (term.union said ms) tnum = refl
own_good s (term.enum said es) tnum = refl
own_good s (term.forward tag) tnum = refl
own_good s (term.typedef t) tnum = refl
own_good s (term.volatile t) tnum = refl
own_good s (term.const t) tnum = refl
own_good s (term.restrict t) tnum = refl

place_good : (s : Space) (b : Body) (tnum : ℕ) (offset : Option ℕ) → good (member_place s b tnum offset) ≡ true
place_good s b tnum (Some offset) = refl
place_good s b tnum None = own_good s b tnum

put_good : (d : Draft) (n : ℕ) (m : Member) (bits : ℕ) → good (put_member d n m bits) ≡ true
put_good d n m bits = unless_good (first_met (against_place m.offset (size_with d n m.offset bits))) (Ok (record { draft = replace_body d n (with_member m (size_with d n m.offset bits) (body_at d n)); answer = m.offset })) (met (against_place m.offset (size_with d n m.offset bits)) refl) refl

placed_good : (d : Draft) (n : ℕ) (name : List ℕ) (tnum : ℕ) (offset : Option ℕ) → good (place_member d n name tnum offset) ≡ true
placed_good d n name tnum offset = then_good (bits_filled (space_of d) tnum) _ (bits_good (space_of d) tnum) (λ bits. then_good (member_place (space_of d) (body_at d n) tnum offset) _ (place_good (space_of d) (body_at d n) tnum offset) (λ place. put_good d n (record { name = name; tnum = tnum; offset = place }) bits))

pub member_added : (d : Draft) (n : ℕ) (name : List ℕ) (tnum : ℕ) (offset : Option ℕ) → good (add_member d n name tnum offset) ≡ true
unfolding add_member
member_added d n name tnum offset = unless_good (first_met (against_member d n name tnum)) (place_member d n name tnum offset) (met (against_member d n name tnum) refl) (placed_good d n name tnum offset)

pub enumerator_added : (d : Draft) (n : ℕ) (e : Enumerator) → good (add_enumerator d n e) ≡ true
unfolding add_enumerator
enumerator_added d n e = unless_good (first_met (against_enumerator d n e.name)) (Ok (replace_body d n (with_enumerator e (body_at d n)))) (met (against_enumerator d n e.name) refl) refl

pub label_added : (d : Draft) (x : Label) → good (add_label d x) ≡ true
unfolding add_label
label_added d x = unless_good (first_met (against_label d x.name)) (Ok (with_label d x)) (met (against_label d x.name) refl) refl

-- ---- what is written

not_written : (d : Dictionary) → good_fault (unwritten d) ≡ true
unfolding unwritten
not_written d = later VALUE_DEEP (deep_by by_value d) _ refl (later DECL_DEEP (deep_by declarator d) _ refl (later DICT_TOO_BIG (dictionary_too_big d) None refl refl))

bytes_good : (fault : Option Fault) (bytes : List ℕ) → good_fault fault ≡ true → good (bytes_unless fault bytes) ≡ true
bytes_good None bytes g = refl
bytes_good (Some f) bytes g = g

pub written_good : (d : Dictionary) → good (written d) ≡ true
unfolding written
written_good d = bytes_good (unwritten d) (bytes_of d) (not_written d)
