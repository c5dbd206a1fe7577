-- Every change keeps a draft sound.
use Rattle.std.proofs.Common.{◌≡◌, ℕ, ◌*◌, ◌^◌, ◌<◌, ◌≤◌, Bool, true, false, cond, eqb, leb, List, [], ◌∷◌, ◌++◌, length, map, set, Option, Some, None, Result, Ok, Err, refl, sym, ap, subst, ◌∙◌, arith}
use Rattle.std.specs.Prelude.{not, is_none, is_some, unwrap_or, FitsSigned}
use Rattle.std.specs.Int.{w32}
use Rattle.std.specs.List.{AllByRecursion, list_any}
use Rattle.std.proofs.lemmas.Bool.{eqb-false, ltb-false, leb-false}
use Rattle.std.proofs.lemmas.List.{length-append, append_assoc, length-set, map-append}
use Rattle.ctf_model.proofs.Alls.{all_got, all_joined, all_set, all_split, none_joined, none_weaker, or_parts}
use Rattle.ctf_model.proofs.Anywhere.{all_map}
use Rattle.ctf_model.proofs.DraftNumbers.{IsOpen, opened, still_there}
use Rattle.ctf_model.specs.drafts.Adders.{Added, add_enumerator, add_label, add_member, add_type, against_enumerator, against_label, against_member, against_place, against_type, body_at, found_body, members_at, most_items, most_types, place_member, present_enumerators, present_members, put_member, replace_body, size_with, with_body, with_enumerator, with_label, with_member, with_pending, with_type}
use Rattle.ctf_model.specs.format.Dictionary.{Label}
use Rattle.ctf_model.specs.drafts.DraftChanges.{DraftChange, after, apply_change, draft_of, or_as_before}
use Rattle.ctf_model.specs.drafts.DraftChanges as does
use Rattle.ctf_model.specs.drafts.DraftLaws.{FitsChange, HoldsTogether, IsSound, NamesThere}
use Rattle.ctf_model.specs.drafts.Drafts.{Draft, above, against_draft, all_of, count_of, rollback, empty_draft, has_zero, content, is_absent, new_draft, next_number, commit, space_of}
use Rattle.ctf_model.specs.drafts.Fitting.{Fits, FitsBody, FitsEnumerator, FitsLabel, FitsMember, FitsMembers, FitsNew, IsName}
use Rattle.ctf_model.specs.spaces.Imports.{Modelled}
use Rattle.ctf_model.specs.rules.Judgements.{Row, first_met, unless, ◌then◌}
use Rattle.ctf_model.specs.drafts.NewTypes.{NewBody, NewType, new_body, new_term}
use Rattle.ctf_model.specs.drafts.NewTypes as new
use Rattle.ctf_model.specs.drafts.Placement.{bits_filled, grown_size, is_too_far, member_place}
use Rattle.ctf_model.specs.rules.References.{references}
use Rattle.ctf_model.specs.rules.Refusals.{placeless}
use Rattle.ctf_model.specs.format.Shown.{enumerators_in, list_length, members_in, shown, size_of}
use Rattle.ctf_model.specs.format.Term.{Body, Enumerator, Member, Term}
use Rattle.ctf_model.specs.format.Term as term
use Rattle.ctf_model.specs.spaces.TypePlaces.{place}
use Rattle.ctf_model.specs.declared.data_model.DataModel.{DataModel}
use Rattle.ctf_model.specs.declared.faults.Fault.{Fault}

-- ---- passed checks

abbrev NotMet : Row → Type 0
NotMet row = row.met ≡ false

-- if there is a result, no row's condition held
passed : {A : Type 0} (rows : List Row) (done : Result A Fault) (r : A) → unless (first_met rows) done ≡ Ok r → AllByRecursion NotMet rows × (done ≡ Ok r)
passed [] done r h = (tt, h)
passed {A} (row ∷ rows) done r h = at row.met refl h (passed rows done r)
  where
    at : (b : Bool) → row.met ≡ b → unless (cond b (Some (placeless row.code)) (first_met rows)) done ≡ Ok r
        → (unless (first_met rows) done ≡ Ok r → AllByRecursion NotMet rows × (done ≡ Ok r))
        → AllByRecursion NotMet (row ∷ rows) × (done ≡ Ok r)
    at true e h more = absurd cc
    at false e h more = let later = more h in ((e, later.0), later.1)

-- if a continuation succeeded, there was a number
then_ok : {A : Type 0} (r : Result ℕ Fault) (next : ℕ → Result A Fault) (y : A) → (r then next) ≡ Ok y → (n : ℕ) × (next n ≡ Ok y)
then_ok (Err f) next y h = absurd cc
then_ok (Ok n) next y h = (n, h)

abbrev same_ok : {A : Type 0} → A → A → Type 0
same_ok {A} x y = let a : Result A Fault = Ok x in a ≡ Ok y

ok_is : {A : Type 0} (x y : A) → same_ok x y → x ≡ y
ok_is x y h = cc

is_name : (name : List ℕ) → has_zero name ≡ false → IsName name
is_name [] h = tt
is_name (b ∷ name) h = let both = or_parts (eqb b 0) (has_zero name) h in let some = eqb-false b 0 both.0 in (omega (arith, some), is_name name both.1)

-- ---- new drafts

above_there : (parent : Option Modelled) → is_some (above parent) ≡ is_some parent
above_there None = refl
above_there (Some parent) = refl

pub new_sound : (parent : Option Modelled) (parname parlabel : List ℕ) (model : DataModel) (d : Draft) → is_some parent ≡ not (eqb (length parname) 0) → new_draft parent parname parlabel model ≡ Ok d → IsSound d
unfolding new_draft
new_sound parent parname parlabel model d child h =
    let judged = passed (against_draft parent parname parlabel model) (Ok (empty_draft (above parent) parname parlabel model)) d h in
    let names = or_parts (has_zero parname) (has_zero parlabel) judged.0.0 in
    let all : HoldsTogether (empty_draft (above parent) parname parlabel model) = record { parent = judged.0.1.0; child = above_there parent ∙ child; parname = is_name parname names.0; parlabel = is_name parlabel names.1; labels = tt; count = omega arith; terms = tt; named = tt } in
    subst IsSound (ok_is (empty_draft (above parent) parname parlabel model) d judged.1) (record { all = all; updated = all })

-- ---- replaced types

-- replacing pending types, by at least as many, keeps a draft sound if the new ones fit and refer
-- to existing types
renewed : (d : Draft) (ts : List Term) → IsSound d → length d.pending.terms ≤ length ts → length (d.updated.terms ++ ts) ≤ most_types → AllByRecursion Fits ts → AllByRecursion (NamesThere d) ts → IsSound (with_pending d ts)
renewed d ts ok more few fits named =
    let old = length-append d.updated.terms d.pending.terms in
    let now = length-append d.updated.terms ts in
    let le : count_of d ≤ length (d.updated.terms ++ ts) = omega arith in
    let there = λ (n : ℕ) (h : is_absent d n ≡ false). still_there d.parent (content d) (content (with_pending d ts)) n (place (is_some d.parent) n) le h in
    let weaker = λ (x : Term) (h : NamesThere d x). none_weaker (is_absent d) (is_absent (with_pending d ts)) there (references x.body) h in
    let before = all_split (NamesThere d) d.updated.terms d.pending.terms ok.all.named in
    let first = all_split Fits d.updated.terms d.pending.terms ok.all.terms in
    let both = all_joined (NamesThere d) d.updated.terms ts before.0 named in
    record {
      all = record {
        parent = ok.all.parent;
        child = ok.all.child;
        parname = ok.all.parname;
        parlabel = ok.all.parlabel;
        labels = ok.all.labels;
        count = few;
        terms = all_joined Fits d.updated.terms ts first.0 fits;
        named = all_map (NamesThere d) (NamesThere (with_pending d ts)) weaker (d.updated.terms ++ ts) both;
      };
      updated = ok.updated;
    }

-- replacing the body of one pending type
replaced_sound : (d : Draft) (n : ℕ) (x : Term) (i : ℕ) (body : Body) → IsSound d → IsOpen d n x i → FitsBody body → list_any (is_absent d) (references body) ≡ false → IsSound (replace_body d n body)
replaced_sound d n x i body ok known fits named =
    let len = length-set d.pending.terms i (with_body body x) in
    let old = length-append d.updated.terms d.pending.terms in
    let now = length-append d.updated.terms (set d.pending.terms i (with_body body x)) in
    let count = ok.all.count in
    let own = all_got Fits (all_of d).terms known.at x ok.all.terms known.stands in
    let rest = all_split Fits d.updated.terms d.pending.terms ok.all.terms in
    let rest_named = all_split (NamesThere d) d.updated.terms d.pending.terms ok.all.named in
    let new : Fits (with_body body x) = record { name = own.name; body = fits } in
    rw (known.pending, known.found)
    (renewed d (set d.pending.terms i (with_body body x)) ok (omega arith) (omega arith) (all_set Fits d.pending.terms i (with_body body x) rest.1 new) (all_set (NamesThere d) d.pending.terms i (with_body body x) rest_named.1 named))

-- ---- types

fits_new : (x : NewBody) → FitsNew x → list_length (shown (new_body x)) ≤ most_items → FitsBody (new_body x)
fits_new new.unknown h le = tt
fits_new (new.integer s) h le = h
fits_new (new.float s) h le = h
fits_new (new.pointer t) h le = tt
fits_new (new.array parts) h le = record { size = refl; count = h }
fits_new (new.function returned arguments) h le = le
fits_new (new.struct size) h le = record { fits = h; count = omega arith; each = tt }
fits_new (new.union size) h le = record { fits = h; count = omega arith; each = tt }
fits_new (new.enum size) h le = record { fits = h; count = omega arith; each = tt }
fits_new (new.forward tag) h le = tt
fits_new (new.typedef t) h le = tt
fits_new (new.volatile t) h le = tt
fits_new (new.const t) h le = tt
fits_new (new.restrict t) h le = tt

pub type_sound : (d : Draft) (x : NewType) (a : Added) → IsSound d → FitsNew x.body → add_type d x ≡ Ok a → IsSound a.draft
unfolding add_type
type_sound d x a ok fits h =
    let judged = passed (against_type d (new_term x)) (Ok (record { draft = with_type d (new_term x); answer = next_number d })) a h in
    let le = ltb-false most_items (list_length (shown (new_body x.body))) judged.0.1.0 in
    let few = leb-false most_types (count_of d) judged.0.1.1.1.0 in
    let own : Fits (new_term x) = record { name = is_name x.name judged.0.0; body = fits_new x.body fits le } in
    let more = length-append d.pending.terms (new_term x ∷ []) in
    let old = length-append d.updated.terms d.pending.terms in
    let now = length-append d.updated.terms (d.pending.terms ++ new_term x ∷ []) in
    let rest = all_split Fits d.updated.terms d.pending.terms ok.all.terms in
    let rest_named = all_split (NamesThere d) d.updated.terms d.pending.terms ok.all.named in
    subst (λ (b : Added). IsSound b.draft) (ok_is _ a judged.1)
    (renewed d (d.pending.terms ++ new_term x ∷ []) ok (omega arith) (omega arith) (all_joined Fits d.pending.terms (new_term x ∷ []) rest.1 (own, tt)) (all_joined (NamesThere d) d.pending.terms (new_term x ∷ []) rest_named.1 (judged.0.1.1.0, tt)))

-- ---- members

-- a member still fits if its struct has grown
grown_member : (size bigger : ℕ) → size ≤ bigger → (m : Member) → FitsMember size m → FitsMember bigger m
grown_member size bigger le m h = let inside = h.inside in record { name = h.name; offset = h.offset; inside = omega arith }

more_members : (old size : ℕ) (ms : List Member) (m : Member) → FitsMembers old ms → old ≤ size → size < 2 ^ 64 → length ms < most_items → FitsMember size m → FitsMembers size (ms ++ m ∷ [])
more_members old size ms m h le low few own =
    let len = length-append ms (m ∷ []) in
    record { fits = low; count = omega arith; each = all_joined (FitsMember size) ms (m ∷ []) (all_map (FitsMember old) (FitsMember size) (grown_member old size le) ms h.each) (own, tt) }

-- a struct or union with one more member fits
fits_with : (x : Body) (m : Member) (size : ℕ) → is_none (members_in (shown x)) ≡ false → FitsBody x → unwrap_or (size_of x) 0 ≤ size → size < 2 ^ 64 → length (unwrap_or (members_in (shown x)) []) < most_items → FitsMember size m → FitsBody (with_member m size x)
fits_with (term.struct old ms) m size k h le low few own = more_members old size ms m h le low few own
fits_with (term.union old ms) m size k h le low few own = more_members old size ms m h le low few own
fits_with term.unknown m size k h le low few own = absurd cc
fits_with (term.integer _) m size k h le low few own = absurd cc
fits_with (term.float _) m size k h le low few own = absurd cc
fits_with (term.pointer _) m size k h le low few own = absurd cc
fits_with (term.array _) m size k h le low few own = absurd cc
fits_with (term.function _ _) m size k h le low few own = absurd cc
fits_with (term.enum _ _) m size k h le low few own = absurd cc
fits_with (term.forward _) m size k h le low few own = absurd cc
fits_with (term.typedef _) m size k h le low few own = absurd cc
fits_with (term.volatile _) m size k h le low few own = absurd cc
fits_with (term.const _) m size k h le low few own = absurd cc
fits_with (term.restrict _) m size k h le low few own = absurd cc

more_numbers : (p : ℕ → Bool) (ms : List Member) (m : Member) → list_any p (map (λ m. m.tnum) ms) ≡ false → p m.tnum ≡ false → list_any p (map (λ m. m.tnum) (ms ++ m ∷ [])) ≡ false
more_numbers p ms m h own =
    let alone : list_any p (m.tnum ∷ []) ≡ false = rw own refl in
    subst (λ (ns : List ℕ). list_any p ns ≡ false) (sym (map-append (λ (m : Member). m.tnum) ms (m ∷ []))) (none_joined p (map (λ m. m.tnum) ms) (m.tnum ∷ []) h alone)

-- and refers only to existing types
names_with : (p : ℕ → Bool) (x : Body) (m : Member) (size : ℕ) → list_any p (references x) ≡ false → p m.tnum ≡ false → list_any p (references (with_member m size x)) ≡ false
names_with p (term.struct old ms) m size h own = more_numbers p ms m h own
names_with p (term.union old ms) m size h own = more_numbers p ms m h own
names_with p term.unknown m size h own = h
names_with p (term.integer _) m size h own = h
names_with p (term.float _) m size h own = h
names_with p (term.pointer _) m size h own = h
names_with p (term.array _) m size h own = h
names_with p (term.function _ _) m size h own = h
names_with p (term.enum _ _) m size h own = h
names_with p (term.forward _) m size h own = h
names_with p (term.typedef _) m size h own = h
names_with p (term.volatile _) m size h own = h
names_with p (term.const _) m size h own = h
names_with p (term.restrict _) m size h own = h

grown_holds : (size offset bits : ℕ) → (size ≤ grown_size size offset bits) × (offset ≤ 8 * grown_size size offset bits)
grown_holds size offset bits = (omega arith, omega arith)

-- the body of a pending type fits, and refers to existing types
open_body : (d : Draft) (n : ℕ) (x : Term) (i : ℕ) → IsOpen d n x i → body_at d n ≡ x.body
open_body d n x i known = ap found_body known.found

put_sound : (d : Draft) (n : ℕ) (x : Term) (i : ℕ) (m : Member) (bits : ℕ) (a : Added) → IsSound d → IsOpen d n x i → has_zero m.name ≡ false → is_none (members_at d n) ≡ false → leb most_items (length (present_members d n)) ≡ false → is_absent d m.tnum ≡ false → put_member d n m bits ≡ Ok a → IsSound a.draft
put_sound d n x i m bits a ok known clean right few there h =
    let judged = passed (against_place m.offset (size_with d n m.offset bits)) (Ok (record { draft = replace_body d n (with_member m (size_with d n m.offset bits) (body_at d n)); answer = m.offset })) a h in
    let far = or_parts (is_too_far m.offset) (is_too_far (size_with d n m.offset bits)) judged.0.0 in
    let near = leb-false (2 ^ 64) m.offset far.0 in
    let near_size = leb-false (2 ^ 64) (size_with d n m.offset bits) far.1 in
    let room = leb-false most_items (length (present_members d n)) few in
    let holds = grown_holds (unwrap_or (size_of (body_at d n)) 0) m.offset bits in
    let is = open_body d n x i known in
    let own = all_got Fits (all_of d).terms known.at x ok.all.terms known.stands in
    let own_named = all_got (NamesThere d) (all_of d).terms known.at x ok.all.named known.stands in
    let fits_member : FitsMember (size_with d n m.offset bits) m = record { name = is_name m.name clean; offset = near; inside = holds.1 } in
    let fits = fits_with (body_at d n) m (size_with d n m.offset bits) right (subst FitsBody (sym is) own.body) holds.0 near_size room fits_member in
    let named = names_with (is_absent d) (body_at d n) m (size_with d n m.offset bits) (subst (λ (b : Body). list_any (is_absent d) (references b) ≡ false) (sym is) own_named) there in
    subst (λ (b : Added). IsSound b.draft) (ok_is _ a judged.1) (replaced_sound d n x i (with_member m (size_with d n m.offset bits) (body_at d n)) ok known fits named)

pub member_sound : (d : Draft) (n : ℕ) (name : List ℕ) (tnum : ℕ) (offset : Option ℕ) (a : Added) → IsSound d → add_member d n name tnum offset ≡ Ok a → IsSound a.draft
unfolding add_member
member_sound d n name tnum offset a ok h =
    let judged = passed (against_member d n name tnum) (place_member d n name tnum offset) a h in
    let found = opened d n judged.0.1.0 judged.0.1.1.0 in
    let sized = then_ok (bits_filled (space_of d) tnum) (λ bits. member_place (space_of d) (body_at d n) tnum offset then λ place. put_member d n (record { name = name; tnum = tnum; offset = place }) bits) a judged.1 in
    let placed = then_ok (member_place (space_of d) (body_at d n) tnum offset) (λ place. put_member d n (record { name = name; tnum = tnum; offset = place }) sized.0) a sized.1 in
    put_sound d n found.0 found.1 (record { name = name; tnum = tnum; offset = placed.0 }) sized.0 a ok found.2 judged.0.0 judged.0.1.1.1.0 judged.0.1.1.1.1.0 judged.0.1.1.1.1.1.1.0 placed.1

-- ---- enumerators

-- an enum with one more enumerator fits
fits_enum : (x : Body) (e : Enumerator) → is_none (enumerators_in (shown x)) ≡ false → FitsBody x → length (unwrap_or (enumerators_in (shown x)) []) < most_items → FitsEnumerator e → FitsBody (with_enumerator e x)
fits_enum (term.enum size es) e k h few own =
    let len = length-append es (e ∷ []) in
    record { fits = h.fits; count = omega arith; each = all_joined FitsEnumerator es (e ∷ []) h.each (own, tt) }
fits_enum (term.struct _ _) e k h few own = absurd cc
fits_enum (term.union _ _) e k h few own = absurd cc
fits_enum term.unknown e k h few own = absurd cc
fits_enum (term.integer _) e k h few own = absurd cc
fits_enum (term.float _) e k h few own = absurd cc
fits_enum (term.pointer _) e k h few own = absurd cc
fits_enum (term.array _) e k h few own = absurd cc
fits_enum (term.function _ _) e k h few own = absurd cc
fits_enum (term.forward _) e k h few own = absurd cc
fits_enum (term.typedef _) e k h few own = absurd cc
fits_enum (term.volatile _) e k h few own = absurd cc
fits_enum (term.const _) e k h few own = absurd cc
fits_enum (term.restrict _) e k h few own = absurd cc

-- and refers to the same types
names_enum : (x : Body) (e : Enumerator) → references (with_enumerator e x) ≡ references x
names_enum (term.enum _ _) e = refl
names_enum (term.struct _ _) e = refl
names_enum (term.union _ _) e = refl
names_enum term.unknown e = refl
names_enum (term.integer _) e = refl
names_enum (term.float _) e = refl
names_enum (term.pointer _) e = refl
names_enum (term.array _) e = refl
names_enum (term.function _ _) e = refl
names_enum (term.forward _) e = refl
names_enum (term.typedef _) e = refl
names_enum (term.volatile _) e = refl
names_enum (term.const _) e = refl
names_enum (term.restrict _) e = refl

pub enumerator_sound : (d : Draft) (n : ℕ) (e : Enumerator) (a : Draft) → IsSound d → FitsSigned w32 e.value → add_enumerator d n e ≡ Ok a → IsSound a
unfolding add_enumerator
enumerator_sound d n e a ok low h =
    let judged = passed (against_enumerator d n e.name) (Ok (replace_body d n (with_enumerator e (body_at d n)))) a h in
    let found = opened d n judged.0.1.0 judged.0.1.1.0 in
    let known = found.2 in
    let few = leb-false most_items (length (present_enumerators d n)) judged.0.1.1.1.1.0 in
    let is = open_body d n found.0 found.1 found.2 in
    let own = all_got Fits (all_of d).terms known.at found.0 ok.all.terms known.stands in
    let own_named = all_got (NamesThere d) (all_of d).terms known.at found.0 ok.all.named known.stands in
    let fits_own : FitsEnumerator e = record { name = is_name e.name judged.0.0; value = low } in
    let fits = fits_enum (body_at d n) e judged.0.1.1.1.0 (subst FitsBody (sym is) own.body) few fits_own in
    let named = subst (λ (ns : List ℕ). list_any (is_absent d) ns ≡ false) (sym (names_enum (body_at d n) e ∙ ap references is)) own_named in
    subst IsSound (ok_is _ a judged.1) (replaced_sound d n found.0 found.1 (with_enumerator e (body_at d n)) ok known fits named)

-- ---- labels

pub label_sound : (d : Draft) (label : Label) (a : Draft) → IsSound d → label.last < 2 ^ 32 → add_label d label ≡ Ok a → IsSound a
unfolding add_label
label_sound d label a ok low h =
    let judged = passed (against_label d label.name) (Ok (with_label d label)) a h in
    let own : FitsLabel label = record { name = is_name label.name judged.0.0; last = low } in
    let labels = all_joined FitsLabel (d.updated.labels ++ d.pending.labels) (label ∷ []) ok.all.labels (own, tt) in
    let there = λ (n : ℕ) (h : is_absent d n ≡ false). still_there d.parent (content d) (content (with_label d label)) n (place (is_some d.parent) n) (omega arith) h in
    let weaker = λ (x : Term) (h : NamesThere d x). none_weaker (is_absent d) (is_absent (with_label d label)) there (references x.body) h in
    subst IsSound (ok_is _ a judged.1) (record {
      all = record {
        parent = ok.all.parent;
        child = ok.all.child;
        parname = ok.all.parname;
        parlabel = ok.all.parlabel;
        labels = subst (AllByRecursion FitsLabel) (append_assoc d.updated.labels d.pending.labels (label ∷ [])) labels;
        count = ok.all.count;
        terms = ok.all.terms;
        named = all_map (NamesThere d) (NamesThere (with_label d label)) weaker (all_of d).terms ok.all.named;
      };
      updated = ok.updated;
    })

-- ---- discard and update

settled_sound : (d : Draft) → IsSound d → HoldsTogether (commit d)
settled_sound d ok =
    let len = length-append (all_of d).terms [] in
    let there = λ (n : ℕ) (h : is_absent d n ≡ false). still_there d.parent (content d) (content (commit d)) n (place (is_some d.parent) n) (omega arith) h in
    let weaker = λ (x : Term) (h : NamesThere d x). none_weaker (is_absent d) (is_absent (commit d)) there (references x.body) h in
    let count = ok.all.count in
    record {
      parent = ok.all.parent;
      child = ok.all.child;
      parname = ok.all.parname;
      parlabel = ok.all.parlabel;
      labels = all_joined FitsLabel (all_of d).labels [] ok.all.labels tt;
      count = omega arith;
      terms = all_joined Fits (all_of d).terms [] ok.all.terms tt;
      named = all_joined (NamesThere (commit d)) (all_of d).terms [] (all_map (NamesThere d) (NamesThere (commit d)) weaker (all_of d).terms ok.all.named) tt;
    }

pub life_sound : (d : Draft) → IsSound d → IsSound (rollback d) × IsSound (commit d)
life_sound d ok = let all = settled_sound d ok in (record { all = ok.updated; updated = ok.updated }, record { all = all; updated = all })

-- ---- sequences of changes

kept_type : (d : Draft) (r : Result Added Fault) → IsSound d → ((a : Added) → r ≡ Ok a → IsSound a.draft) → IsSound (or_as_before d (draft_of r))
kept_type d (Err f) ok h = ok
kept_type d (Ok a) ok h = h a refl

kept_draft : (d : Draft) (r : Result Draft Fault) → IsSound d → ((a : Draft) → r ≡ Ok a → IsSound a) → IsSound (or_as_before d r)
kept_draft d (Err f) ok h = ok
kept_draft d (Ok a) ok h = h a refl

changed_sound : (d : Draft) (change : DraftChange) → IsSound d → FitsChange change → IsSound (apply_change d change)
changed_sound d (does.adds_type x) ok fits = kept_type d (add_type d x) ok (λ a h. type_sound d x a ok fits h)
changed_sound d (does.adds_member n name tnum offset) ok fits = kept_type d (add_member d n name tnum offset) ok (λ a h. member_sound d n name tnum offset a ok h)
changed_sound d (does.adds_enumerator n e) ok fits = kept_draft d (add_enumerator d n e) ok (λ a h. enumerator_sound d n e a ok fits h)
changed_sound d (does.adds_label label) ok fits = kept_draft d (add_label d label) ok (λ a h. label_sound d label a ok fits h)
changed_sound d does.discards ok fits = (life_sound d ok).0
changed_sound d does.settles ok fits = (life_sound d ok).1

pub changes_sound : (d : Draft) (changes : List DraftChange) → IsSound d → AllByRecursion FitsChange changes → IsSound (after d changes)
unfolding after
changes_sound d [] ok fits = ok
changes_sound d (change ∷ changes) ok fits = changes_sound (apply_change d change) changes (changed_sound d change ok fits.0) fits.1
