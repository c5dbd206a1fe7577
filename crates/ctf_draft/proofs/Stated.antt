-- A member with a stated offset is added or refused; the draft stays sound.
use Rattle.std.proofs.Common.{◌≡◌, ℕ, ◌*◌, ◌^◌, ◌<◌, ◌≤◌, Bool, true, false, cond, eqb, ltb, leb, List, [], ◌∷◌, ◌++◌, take, length, map, set, Option, Some, None, Result, Ok, Err, is_some, refl, sym, ap, subst, ◌∙◌, arith}
use Rattle.std.specs.Prelude.{◌||◌, is_none, slice_get, unwrap_or}
use Rattle.std.specs.List.{AllByRecursion, list_any}
use Rattle.std.proofs.lemmas.Bool.{eqb-false, ltb-false, leb-false, leb-true, ltb-true}
use Rattle.std.proofs.lemmas.List.{length-append, length-set, map-append}
use Rattle.ctf_model.proofs.Alls.{all_got, all_joined, all_set, all_split, none_joined, none_weaker, or_parts}
use Rattle.ctf_model.proofs.Anywhere.{all_map}
use Rattle.ctf_model.proofs.DraftNumbers.{IsOpen, opened, still_there}
use Rattle.ctf_model.specs.drafts.Adders.{against_member, body_at, found_body, is_deep, most_items, most_types, present_members, replace_body, with_body, with_member, with_pending}
use Rattle.ctf_model.specs.drafts.DraftLaws.{IsSound, NamesThere}
use Rattle.ctf_model.specs.drafts.Drafts.{Draft, all_of, count_of, has_zero, content, is_absent}
use Rattle.ctf_model.specs.drafts.Fitting.{Fits, FitsBody, FitsMember, FitsMembers, IsName}
use Rattle.ctf_model.specs.drafts.Placement.{is_too_far}
use Rattle.ctf_model.specs.rules.Judgements.{Row, first_met, unless}
use Rattle.ctf_model.specs.rules.References.{references}
use Rattle.ctf_model.specs.rules.Refusals.{placeless}
use Rattle.ctf_model.specs.format.Shown.{members_in, shown, size_of}
use Rattle.ctf_model.specs.format.Term.{Body, Member, Term}
use Rattle.ctf_model.specs.format.Term as term
use Rattle.ctf_model.specs.spaces.TypeNumbers.{or_no_type}
use Rattle.ctf_model.specs.spaces.TypePlaces.{place}
use Rattle.ctf_model.specs.declared.faults.Fault.{Fault}
use Rattle.ctf_draft.specs.Pending.{StandsPending}
use Rattle.ctf_draft.specs.Planning.{against_name}
use Rattle.ctf_draft.specs.Stating.{add_member_at, against_stated, begins_behind}
use Rattle.ctf_draft.proofs.MemberAdded.{first_back, first_front}
use Rattle.ctf_draft.proofs.Pending.{own_type}

-- ---- members that begin after the size

pub any_front : (p : Member → Bool) (ms : List Member) (m : Member) → list_any p ms ≡ true → list_any p (ms ++ m ∷ []) ≡ true
any_front p [] m h = absurd cc
any_front p (x ∷ ms) m h = at (p x) h (any_front p ms m)
  where
    at : (b : Bool) → (b || list_any p ms) ≡ true → (list_any p ms ≡ true → list_any p (ms ++ m ∷ []) ≡ true) → (b || list_any p (ms ++ m ∷ [])) ≡ true
    at true h more = refl
    at false h more = more h

pub any_last : (p : Member → Bool) (ms : List Member) (m : Member) → p m ≡ true → list_any p (ms ++ m ∷ []) ≡ true
any_last p [] m h = rw h refl
any_last p (x ∷ ms) m h = at (p x) (any_last p ms m h)
  where
    at : (b : Bool) → list_any p (ms ++ m ∷ []) ≡ true → (b || list_any p (ms ++ m ∷ [])) ≡ true
    at true more = refl
    at false more = more

pub none_last : (p : Member → Bool) (ms : List Member) (m : Member) → list_any p ms ≡ false → p m ≡ false → list_any p (ms ++ m ∷ []) ≡ false
none_last p ms m h own = let alone : list_any p (m ∷ []) ≡ false = rw own refl in none_joined p ms (m ∷ []) h alone

-- members inside a size are inside a greater one
none_in : (old size : ℕ) → old ≤ size → (ms : List Member) → AllByRecursion (FitsMember old) ms → list_any (begins_behind size) ms ≡ false
none_in old size le [] h = refl
none_in old size le (m ∷ ms) h = rw (at (ltb (8 * size) m.offset) refl, none_in old size le ms h.1) refl
  where
    at : (b : Bool) → ltb (8 * size) m.offset ≡ b → ltb (8 * size) m.offset ≡ false
    at false e = e
    at true e = let inside = h.0.inside in let past = ltb-true (8 * size) m.offset e in absurd (omega (arith, inside, past, le))

none_of : (x : Body) (size : ℕ) → FitsBody x → unwrap_or (size_of x) 0 ≤ size → list_any (begins_behind size) (unwrap_or (members_in (shown x)) []) ≡ false
none_of (term.struct old ms) size h le = none_in old size le ms h.each
none_of (term.union old ms) size h le = none_in old size le ms h.each
none_of term.unknown size h le = refl
none_of (term.integer _) size h le = refl
none_of (term.float _) size h le = refl
none_of (term.pointer _) size h le = refl
none_of (term.array _) size h le = refl
none_of (term.function _ _) size h le = refl
none_of (term.enum _ _) size h le = refl
none_of (term.forward _) size h le = refl
none_of (term.typedef _) size h le = refl
none_of (term.volatile _) size h le = refl
none_of (term.const _) size h le = refl
none_of (term.restrict _) size h le = refl

-- the body of a pending type fits
fits_at : (d : Draft) (n i : ℕ) → IsSound d → StandsPending d n i → FitsBody (body_at d n)
fits_at d n i ok at = go (slice_get (content d).terms i) refl
  where
    go : (o : Option Term) → slice_get (content d).terms i ≡ o → FitsBody (body_at d n)
    go None e = subst FitsBody (sym (ap found_body (own_type d n i at.own ∙ ap or_no_type e))) tt
    go (Some x) e = subst FitsBody (sym (ap found_body (own_type d n i at.own ∙ ap or_no_type e))) ((all_got Fits (content d).terms i x ok.all.terms e).body)

pub none_left : (d : Draft) (n i size : ℕ) → IsSound d → StandsPending d n i → unwrap_or (size_of (body_at d n)) 0 ≤ size → list_any (begins_behind size) (present_members d n) ≡ false
none_left d n i size ok at le = none_of (body_at d n) size (fits_at d n i ok at) le

-- ---- refusals and success

not_far : (n : ℕ) → n < 2 ^ 64 → is_too_far n ≡ false
not_far n lt = at (leb (2 ^ 64) n) refl
  where
    at : (b : Bool) → leb (2 ^ 64) n ≡ b → b ≡ false
    at true e = let le = leb-true (2 ^ 64) n e in absurd (omega (arith, lt, le))
    at false e = refl

neither_far : (offset size : ℕ) → offset < 2 ^ 64 → size < 2 ^ 64 → (is_too_far offset || is_too_far size) ≡ false
neither_far offset size low small = at (is_too_far offset) (not_far offset low) (not_far size small)
  where
    at : (b : Bool) → b ≡ false → is_too_far size ≡ false → (b || is_too_far size) ≡ false
    at true e h = absurd cc
    at false e h = h

module _ (d : Draft) (n : ℕ) (m : Member) (size : ℕ) where
  abbrev rows : List Row
  rows = against_member d n m.name m.tnum ++ against_stated d n m size

  abbrev put : Draft
  put = replace_body d n (with_member m size (body_at d n))

  abbrev answer : Option Fault → Result Draft Fault
  answer o = unless o (Ok put)

  pub stated_barred : (f : Fault) → against_name d n m.name m.tnum ≡ Some f → add_member_at d n m size ≡ Err f
  unfolding add_member_at
  stated_barred f h = ap answer (first_front 7 rows f h)

  behind_name : against_name d n m.name m.tnum ≡ None → add_member_at d n m size ≡ answer (cond (is_deep d m.tnum) (Some (placeless 44)) (first_met (against_stated d n m size)))
  unfolding add_member_at
  behind_name none = ap answer (first_back 7 rows none)

  pub stated_deep : against_name d n m.name m.tnum ≡ None → is_deep d m.tnum ≡ true → add_member_at d n m size ≡ Err (placeless 44)
  stated_deep none deep = behind_name none ∙ ap (λ b. answer (cond b (Some (placeless 44)) (first_met (against_stated d n m size)))) deep

  -- the remaining checks
  behind_depth : against_name d n m.name m.tnum ≡ None → is_deep d m.tnum ≡ false → m.offset < 2 ^ 64 → size < 2 ^ 64 → add_member_at d n m size ≡ answer (cond (list_any (begins_behind size) (present_members d n ++ m ∷ [])) (Some (placeless 45)) None)
  behind_depth none deep low small =
      behind_name none
      ∙ ap (λ b. answer (cond b (Some (placeless 44)) (first_met (against_stated d n m size)))) deep
      ∙ ap (λ b. answer (cond b (Some (placeless 45)) (cond (list_any (begins_behind size) (present_members d n ++ m ∷ [])) (Some (placeless 45)) None))) (neither_far m.offset size low small)

  pub stated_behind : against_name d n m.name m.tnum ≡ None → is_deep d m.tnum ≡ false → m.offset < 2 ^ 64 → size < 2 ^ 64 → list_any (begins_behind size) (present_members d n ++ m ∷ []) ≡ true → add_member_at d n m size ≡ Err (placeless 45)
  stated_behind none deep low small behind = behind_depth none deep low small ∙ ap (λ b. answer (cond b (Some (placeless 45)) None)) behind

  pub stated_accepted : against_name d n m.name m.tnum ≡ None → is_deep d m.tnum ≡ false → m.offset < 2 ^ 64 → size < 2 ^ 64 → list_any (begins_behind size) (present_members d n) ≡ false → begins_behind size m ≡ false → add_member_at d n m size ≡ Ok put
  stated_accepted none deep low small inside own = behind_depth none deep low small ∙ ap (λ b. answer (cond b (Some (placeless 45)) None)) (none_last (begins_behind size) (present_members d n) m inside own)

-- ---- a draft stays sound

abbrev NotMet : Row → Type 0
NotMet row = row.met ≡ false

none_met : (rows : List Row) → first_met rows ≡ None → AllByRecursion NotMet rows
none_met [] h = tt
none_met (row ∷ rows) h = at row.met refl h (none_met rows)
  where
    at : (b : Bool) → row.met ≡ b → cond b (Some (placeless row.code)) (first_met rows) ≡ None → (first_met rows ≡ None → AllByRecursion NotMet rows) → AllByRecursion NotMet (row ∷ rows)
    at true e h more = absurd cc
    at false e h more = (e, more h)

is_name : (name : List ℕ) → has_zero name ≡ false → IsName name
is_name [] h = tt
is_name (b ∷ name) h = let both = or_parts (eqb b 0) (has_zero name) h in let some = eqb-false b 0 both.0 in (omega (arith, some), is_name name both.1)

-- replacing pending types, if the new ones fit and refer to existing types
renewed : (d : Draft) (ts : List Term) → IsSound d → length ts ≡ length d.pending.terms → AllByRecursion Fits ts → AllByRecursion (NamesThere d) ts → IsSound (with_pending d ts)
renewed d ts ok same fits named =
    let old = length-append d.updated.terms d.pending.terms in
    let now = length-append d.updated.terms ts in
    let count = ok.all.count in
    let le : count_of d ≤ length (d.updated.terms ++ ts) = omega (arith, old, now, same) in
    let few : length (d.updated.terms ++ ts) ≤ most_types = omega (arith, old, now, same, count) in
    let there = λ (n : ℕ) (h : is_absent d n ≡ false). still_there d.parent (content d) (content (with_pending d ts)) n (place (is_some d.parent) n) le h in
    let weaker = λ (x : Term) (h : NamesThere d x). none_weaker (is_absent d) (is_absent (with_pending d ts)) there (references x.body) h in
    let before = all_split (NamesThere d) d.updated.terms d.pending.terms ok.all.named in
    let first = all_split Fits d.updated.terms d.pending.terms ok.all.terms in
    let both = all_joined (NamesThere d) d.updated.terms ts before.0 named in
    record {
      all = record {
        parent = ok.all.parent;
        child = ok.all.child;
        parname = ok.all.parname;
        parlabel = ok.all.parlabel;
        labels = ok.all.labels;
        count = few;
        terms = all_joined Fits d.updated.terms ts first.0 fits;
        named = all_map (NamesThere d) (NamesThere (with_pending d ts)) weaker (d.updated.terms ++ ts) both;
      };
      updated = ok.updated;
    }

other_sound : (d : Draft) (n : ℕ) (x : Term) (i : ℕ) (body : Body) → IsSound d → IsOpen d n x i → FitsBody body → list_any (is_absent d) (references body) ≡ false → IsSound (replace_body d n body)
other_sound d n x i body ok known fits named =
    let own = all_got Fits (all_of d).terms known.at x ok.all.terms known.stands in
    let rest = all_split Fits d.updated.terms d.pending.terms ok.all.terms in
    let rest_named = all_split (NamesThere d) d.updated.terms d.pending.terms ok.all.named in
    let new : Fits (with_body body x) = record { name = own.name; body = fits } in
    rw (known.pending, known.found)
    (renewed d (set d.pending.terms i (with_body body x)) ok (length-set d.pending.terms i (with_body body x)) (all_set Fits d.pending.terms i (with_body body x) rest.1 new) (all_set (NamesThere d) d.pending.terms i (with_body body x) rest_named.1 named))

-- existing members fit a size if none begins after it
each_fits : (old size : ℕ) (ms : List Member) → AllByRecursion (FitsMember old) ms → list_any (begins_behind size) ms ≡ false → AllByRecursion (FitsMember size) ms
each_fits old size [] h none = tt
each_fits old size (m ∷ ms) h none =
    let both = or_parts (ltb (8 * size) m.offset) (list_any (begins_behind size) ms) none in
    let inside = ltb-false (8 * size) m.offset both.0 in
    (record { name = h.0.name; offset = h.0.offset; inside = inside }, each_fits old size ms h.1 both.1)

more_members : (old size : ℕ) (ms : List Member) (m : Member) → FitsMembers old ms → list_any (begins_behind size) ms ≡ false → size < 2 ^ 64 → length ms < most_items → FitsMember size m → FitsMembers size (ms ++ m ∷ [])
more_members old size ms m h none low few own =
    let len = length-append ms (m ∷ []) in
    record { fits = low; count = omega arith; each = all_joined (FitsMember size) ms (m ∷ []) (each_fits old size ms h.each none) (own, tt) }

fits_with : (x : Body) (m : Member) (size : ℕ) → is_none (members_in (shown x)) ≡ false → FitsBody x → list_any (begins_behind size) (unwrap_or (members_in (shown x)) []) ≡ false → size < 2 ^ 64 → length (unwrap_or (members_in (shown x)) []) < most_items → FitsMember size m → FitsBody (with_member m size x)
fits_with (term.struct old ms) m size k h none low few own = more_members old size ms m h none low few own
fits_with (term.union old ms) m size k h none low few own = more_members old size ms m h none low few own
fits_with term.unknown m size k h none low few own = absurd cc
fits_with (term.integer _) m size k h none low few own = absurd cc
fits_with (term.float _) m size k h none low few own = absurd cc
fits_with (term.pointer _) m size k h none low few own = absurd cc
fits_with (term.array _) m size k h none low few own = absurd cc
fits_with (term.function _ _) m size k h none low few own = absurd cc
fits_with (term.enum _ _) m size k h none low few own = absurd cc
fits_with (term.forward _) m size k h none low few own = absurd cc
fits_with (term.typedef _) m size k h none low few own = absurd cc
fits_with (term.volatile _) m size k h none low few own = absurd cc
fits_with (term.const _) m size k h none low few own = absurd cc
fits_with (term.restrict _) m size k h none low few own = absurd cc

more_numbers : (p : ℕ → Bool) (ms : List Member) (m : Member) → list_any p (map (λ m. m.tnum) ms) ≡ false → p m.tnum ≡ false → list_any p (map (λ m. m.tnum) (ms ++ m ∷ [])) ≡ false
more_numbers p ms m h own =
    let alone : list_any p (m.tnum ∷ []) ≡ false = rw own refl in
    subst (λ (ns : List ℕ). list_any p ns ≡ false) (sym (map-append (λ (m : Member). m.tnum) ms (m ∷ []))) (none_joined p (map (λ m. m.tnum) ms) (m.tnum ∷ []) h alone)

names_with : (p : ℕ → Bool) (x : Body) (m : Member) (size : ℕ) → list_any p (references x) ≡ false → p m.tnum ≡ false → list_any p (references (with_member m size x)) ≡ false
names_with p (term.struct old ms) m size h own = more_numbers p ms m h own
names_with p (term.union old ms) m size h own = more_numbers p ms m h own
names_with p term.unknown m size h own = h
names_with p (term.integer _) m size h own = h
names_with p (term.float _) m size h own = h
names_with p (term.pointer _) m size h own = h
names_with p (term.array _) m size h own = h
names_with p (term.function _ _) m size h own = h
names_with p (term.enum _ _) m size h own = h
names_with p (term.forward _) m size h own = h
names_with p (term.typedef _) m size h own = h
names_with p (term.volatile _) m size h own = h
names_with p (term.const _) m size h own = h
names_with p (term.restrict _) m size h own = h

pub stated_sound : (d : Draft) (n : ℕ) (m : Member) (size : ℕ) → IsSound d → against_name d n m.name m.tnum ≡ None → m.offset < 2 ^ 64 → size < 2 ^ 64 → list_any (begins_behind size) (present_members d n) ≡ false → begins_behind size m ≡ false → IsSound (replace_body d n (with_member m size (body_at d n)))
stated_sound d n m size ok none low small inside own =
    let judged = none_met (take 7 (against_member d n m.name m.tnum)) none in
    let known = opened d n judged.1.0 judged.1.1.0 in
    let right = judged.1.1.1.0 in
    let room = leb-false most_items (length (present_members d n)) judged.1.1.1.1.0 in
    let is : body_at d n ≡ known.0.body = ap found_body known.2.found in
    let fits = all_got Fits (all_of d).terms known.2.at known.0 ok.all.terms known.2.stands in
    let named = all_got (NamesThere d) (all_of d).terms known.2.at known.0 ok.all.named known.2.stands in
    let member : FitsMember size m = record { name = is_name m.name judged.0; offset = low; inside = ltb-false (8 * size) m.offset own } in
    other_sound d n known.0 known.1 (with_member m size (body_at d n)) ok known.2
    (fits_with (body_at d n) m size right (subst FitsBody (sym is) fits.body) inside small room member)
    (names_with (is_absent d) (body_at d n) m size (subst (λ (b : Body). list_any (is_absent d) (references b) ≡ false) (sym is) named) judged.1.1.1.1.1.1.0)
