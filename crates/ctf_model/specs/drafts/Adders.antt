-- What can be added to a draft. Source: libctf(3LIB), ctf_add_member, ctf_add_enumerator,
-- ctf_label_set, and the functions that add types; the order of refusals is ours.
use Rattle.std.specs.Prelude.{ℕ, ◌||◌, ◌&&◌, ◌==◌, not, nat_lt, nat_le, Bool, false, List, [], ◌∷◌, ◌++◌, length, map, set, is_none, unwrap_or, Option, Some, None, Result, Ok, Err}
use Rattle.std.specs.List.{list_any}
use Rattle.std.specs.Str.{bytes_eq}
use Rattle.ctf_model.specs.rules.Chains.{by_value, edges, longest_chain, own_index, within}
use Rattle.ctf_model.specs.format.Dictionary.{Dictionary, Label}
use Rattle.ctf_model.specs.drafts.Drafts.{Draft, count_of, has_zero, content, is_absent, is_settled, is_unknown, next_number, pending_place, space_of}
use Rattle.ctf_model.specs.rules.Judgements.{Row, first_met, unless, ◌then◌}
use Rattle.ctf_model.specs.drafts.NewTypes.{NewType, new_term}
use Rattle.ctf_model.specs.drafts.Placement.{bits_filled, grown_size, is_too_far, member_place}
use Rattle.ctf_model.specs.rules.References.{references}
use Rattle.ctf_model.specs.format.Shown.{enumerators_in, list_length, members_in, shown, size_of}
use Rattle.ctf_model.specs.spaces.Space.{space_type}
use Rattle.ctf_model.specs.format.Term.{Body, Enumerator, Member, Term}
use Rattle.ctf_model.specs.format.Term as term
use Rattle.ctf_model.specs.declared.faults.Fault.{Fault}
use Rattle.ctf_model.specs.declared.faults.TheConstants.Fault.{BAD_OFFSET, BAD_REF, DEEP_MEMBER, DUPLICATE, FULL, NAME_HAS_ZERO, NO_TYPE, SETTLED, VLEN_FULL, WRONG_KIND}

-- the most types that a dictionary may have
abbrev pub most_types : ℕ
most_types = 32766

-- the most members, enumerators or arguments that a type may have
abbrev pub most_items : ℕ
most_items = 1023

-- the draft after an addition, and the number that is returned: that of the new type, or the offset
-- of the new member
pub record Added : Type 0 where
  pub draft : Draft
  pub answer : ℕ

abbrev pub with_pending : Draft → List Term → Draft
with_pending d terms = record d { pending = record { terms = terms; labels = d.pending.labels } }

-- ---- types

-- the reasons to refuse a type, in order
abbrev pub against_type : Draft → Term → List Row
against_type d x =
    record { code = NAME_HAS_ZERO; met = has_zero x.name }
    ∷ record { code = VLEN_FULL; met = nat_lt most_items (list_length (shown x.body)) }
    ∷ record { code = BAD_REF; met = list_any (is_absent d) (references x.body) }
    ∷ record { code = FULL; met = nat_le most_types (count_of d) } ∷ []

abbrev pub with_type : Draft → Term → Draft
with_type d x = with_pending d (d.pending.terms ++ x ∷ [])

-- adds a type; the answer is its number
unfoldable pub add_type : Draft → NewType → Result Added Fault
add_type d new =
    unless (first_met (against_type d (new_term new)))
    (Ok (record { draft = with_type d (new_term new); answer = next_number d }))

-- ---- a pending type that gets a member or enumerator

-- the body of a looked-up type; `unknown` if the look-up failed
abbrev pub found_body : Result Term Fault → Body
found_body (Err f) = term.unknown
found_body (Ok x) = x.body

abbrev pub body_at : Draft → ℕ → Body
body_at d n = found_body (space_type (space_of d) n)

abbrev pub with_body : Body → Term → Term
with_body body x = record { name = x.name; root = x.root; body = body }

-- the draft with a new body for one of its pending types
abbrev pub replaced_at : Draft → Option ℕ → Result Term Fault → Body → Draft
replaced_at d (Some i) (Ok x) body = with_pending d (set d.pending.terms i (with_body body x))
replaced_at d _ _ body = d

abbrev pub replace_body : Draft → ℕ → Body → Draft
replace_body d n body = replaced_at d (pending_place d n) (space_type (space_of d) n) body

-- the name is already in use; nameless items are never compared
abbrev pub is_taken : List ℕ → List (List ℕ) → Bool
is_taken name names = not (length name == 0) && list_any (bytes_eq name) names

-- ---- members

abbrev pub members_at : Draft → ℕ → Option (List Member)
members_at d n = members_in (shown (body_at d n))

-- the members of type `n`; none if it is no struct or union
abbrev pub present_members : Draft → ℕ → List Member
present_members d n = unwrap_or (members_at d n) []

-- a chain of more than 512 steps by value begins at this own type
abbrev pub is_deep_from : Dictionary → Option ℕ → Bool
is_deep_from d None = false
is_deep_from d (Some i) = not (within (edges by_value d.child d.terms) longest_chain i)

abbrev pub is_deep : Draft → ℕ → Bool
is_deep d n = is_deep_from (content d) (own_index (content d).child (count_of d) n)

-- the reasons to refuse a member of struct or union `n`, in order
abbrev pub against_member : Draft → ℕ → List ℕ → ℕ → List Row
against_member d n name tnum =
    record { code = NAME_HAS_ZERO; met = has_zero name }
    ∷ record { code = NO_TYPE; met = is_unknown d n }
    ∷ record { code = SETTLED; met = is_settled d n }
    ∷ record { code = WRONG_KIND; met = is_none (members_at d n) }
    ∷ record { code = VLEN_FULL; met = nat_le most_items (length (present_members d n)) }
    ∷ record { code = DUPLICATE; met = is_taken name (map (λ m. m.name) (present_members d n)) }
    ∷ record { code = BAD_REF; met = is_absent d tnum }
    ∷ record { code = DEEP_MEMBER; met = is_deep d tnum } ∷ []

-- the reasons that need the member's offset and the new size
abbrev pub against_place : ℕ → ℕ → List Row
against_place offset size =
    record { code = BAD_OFFSET; met = is_too_far offset || is_too_far size } ∷ []

-- a struct or union with one more member, and a new size
abbrev pub with_member : Member → ℕ → Body → Body
with_member m size (term.struct old members) = term.struct size (members ++ m ∷ [])
with_member m size (term.union old members) = term.union size (members ++ m ∷ [])
with_member m size body = body

-- the size of struct or union `n` with a member of `bits` bits at `offset`
abbrev pub size_with : Draft → ℕ → ℕ → ℕ → ℕ
size_with d n offset bits = grown_size (unwrap_or (size_of (body_at d n)) 0) offset bits

abbrev pub put_member : Draft → ℕ → Member → ℕ → Result Added Fault
put_member d n m bits =
    unless (first_met (against_place m.offset (size_with d n m.offset bits)))
    (Ok (record {
      draft = replace_body d n (with_member m (size_with d n m.offset bits) (body_at d n));
      answer = m.offset;
    }))

-- computes the member's width and offset, then adds it. It fails if the member's type has no size;
-- if no offset is stated, also if the last member's type has no size or the member's type no
-- alignment
abbrev pub place_member : Draft → ℕ → List ℕ → ℕ → Option ℕ → Result Added Fault
place_member d n name tnum offset =
    bits_filled (space_of d) tnum then λ bits.
    member_place (space_of d) (body_at d n) tnum offset then λ place.
    put_member d n (record { name = name; tnum = tnum; offset = place }) bits

-- adds a member to a pending struct or union, at `offset` in bits if one is stated; the answer is
-- its offset
unfoldable pub add_member : Draft → ℕ → List ℕ → ℕ → Option ℕ → Result Added Fault
add_member d n name tnum offset =
    unless (first_met (against_member d n name tnum)) (place_member d n name tnum offset)

-- ---- enumerators

abbrev pub enumerators_at : Draft → ℕ → Option (List Enumerator)
enumerators_at d n = enumerators_in (shown (body_at d n))

abbrev pub present_enumerators : Draft → ℕ → List Enumerator
present_enumerators d n = unwrap_or (enumerators_at d n) []

-- the reasons to refuse an enumerator of enum `n`, in order
abbrev pub against_enumerator : Draft → ℕ → List ℕ → List Row
against_enumerator d n name =
    record { code = NAME_HAS_ZERO; met = has_zero name }
    ∷ record { code = NO_TYPE; met = is_unknown d n }
    ∷ record { code = SETTLED; met = is_settled d n }
    ∷ record { code = WRONG_KIND; met = is_none (enumerators_at d n) }
    ∷ record { code = VLEN_FULL; met = nat_le most_items (length (present_enumerators d n)) }
    ∷ record { code = DUPLICATE; met = is_taken name (map (λ e. e.name) (present_enumerators d n)) }
    ∷ []

abbrev pub with_enumerator : Enumerator → Body → Body
with_enumerator e (term.enum size enumerators) = term.enum size (enumerators ++ e ∷ [])
with_enumerator e body = body

-- adds an enumerator to a pending enum
unfoldable pub add_enumerator : Draft → ℕ → Enumerator → Result Draft Fault
add_enumerator d n e =
    unless (first_met (against_enumerator d n e.name))
    (Ok (replace_body d n (with_enumerator e (body_at d n))))

-- ---- labels

-- the reasons to refuse a label; the empty name is a name like any other
abbrev pub against_label : Draft → List ℕ → List Row
against_label d name =
    record { code = NAME_HAS_ZERO; met = has_zero name }
    ∷ record {
      code = DUPLICATE;
      met = list_any (bytes_eq name) (map (λ label. label.name) (content d).labels);
    }
    ∷ []

abbrev pub with_label : Draft → Label → Draft
with_label d label =
    record d {
      pending = record { terms = d.pending.terms; labels = d.pending.labels ++ label ∷ [] };
    }

-- adds a label
unfoldable pub add_label : Draft → Label → Result Draft Fault
add_label d label = unless (first_met (against_label d label.name)) (Ok (with_label d label))
