-- A pending type, and one whose body is replaced.
use Rattle.std.proofs.Common.{◌≡◌, ℕ, zero, suc, ◌+◌, ◌-◌, ◌<◌, ◌≤◌, Bool, true, false, cond, ltb, List, [], ◌∷◌, length, map, take, set, get_or, Option, Some, None, Result, Ok, is_some, refl, sym, ap, subst, ◌∙◌, arith}
use Rattle.std.specs.Prelude.{slice_get, option_map}
use Rattle.std.proofs.lemmas.Bool.{ltb-true}
use Rattle.std.proofs.lemmas.List.{length-map, length-take, map-set}
use Rattle.std.proofs.Math.Seq.{map-set_same}
use Rattle.std.proofs.lemmas.Option.{slice_get-get_or, slice_get-map}
use Rattle.ctf_model.specs.drafts.Adders.{body_at, found_body, replace_body, replaced_at, with_body}
use Rattle.ctf_model.specs.rules.Chains.{own_index}
use Rattle.ctf_model.specs.format.Dictionary.{Dictionary, Label}
use Rattle.ctf_model.specs.drafts.Drafts.{Draft, count_of, content, pending_place, space_of}
use Rattle.ctf_model.specs.spaces.Space.{space_type}
use Rattle.ctf_model.specs.format.Term.{Body, Term}
use Rattle.ctf_model.specs.spaces.TypeNumbers.{or_no_type}
use Rattle.ctf_model.specs.spaces.TypePlaces.{place}
use Rattle.ctf_model.specs.declared.numbers.Place.TheVariants.{Own}
use Rattle.ctf_model.specs.declared.data_model.DataModel.{DataModel}
use Rattle.ctf_model.specs.declared.faults.Fault.{Fault}
use Rattle.ctf_model.proofs.OwnTypes.{own_inside}
use Rattle.ctf_draft.specs.Pending.{StandsPending}
use Rattle.ctf_draft.specs.TypeView.{type_of}
use Rattle.ctf_draft.specs.declared.types.DraftType.{DraftType}
use Rattle.ctf_draft.proofs.Views.{all_terms, one_other, seen}

-- the type of an own number
pub own_type : (d : Draft) (n i : ℕ) → own_index (is_some d.parent) (count_of d) n ≡ Some i → space_type (space_of d) n ≡ or_no_type (slice_get (content d).terms i)
own_type d n i own = let h = own_inside (is_some d.parent) (count_of d) n i own in rw h.0 refl

-- the index of a pending number among the pending types
pub pending_is : (d : Draft) (n i : ℕ) → StandsPending d n i → pending_place d n ≡ Some (i - length d.updated.terms)
pending_is d n i at = rw at.own (past (ltb i (length d.updated.terms)) refl)
  where
    past : (b : Bool) → ltb i (length d.updated.terms) ≡ b → cond b None (Some (i - length d.updated.terms)) ≡ Some (i - length d.updated.terms)
    past true e = let low : i < length d.updated.terms = ltb-true i (length d.updated.terms) e in let high = at.behind in absurd (omega arith)
    past false e = refl

module _ (parname parlabel : List ℕ) (parent : Option Dictionary) (model : DataModel) (u v : ℕ) (terms : List Term) (labels : List Label) (n i : ℕ) (x : Term)
    (at : StandsPending (seen parname parlabel parent model u v terms labels) n i) (got : slice_get terms i ≡ Some x) (le : u ≤ length terms) where
  found : space_type (space_of (seen parname parlabel parent model u v terms labels)) n ≡ Ok x
  found = own_type (seen parname parlabel parent model u v terms labels) n i at.own ∙ ap (λ (ts : List Term). or_no_type (slice_get ts i)) (all_terms parname parlabel parent model u v terms labels) ∙ ap or_no_type got

  pub body_found : x.body ≡ body_at (seen parname parlabel parent model u v terms labels) n
  body_found = sym (ap found_body found)

  -- its body is replaced by another one
  pub written_over : (body : Body) → replace_body (seen parname parlabel parent model u v terms labels) n body ≡ seen parname parlabel parent model u v (set terms i (with_body body x)) labels
  written_over body =
      let count : length (take u terms) ≡ u = simp length-take (omega arith) in
      let behind = at.behind in
      let whole : u + (i - length (take u terms)) ≡ i = omega arith in
      let d = seen parname parlabel parent model u v terms labels in
      ap (λ (o : Option ℕ). replaced_at d o (space_type (space_of d) n) body) (pending_is d n i at)
      ∙ ap (λ (r : Result Term Fault). replaced_at d (Some (i - length (take u terms))) r body) found
      ∙ one_other parname parlabel parent model u v terms labels (i - length (take u terms)) (with_body body x)
      ∙ ap (λ (k : ℕ). seen parname parlabel parent model u v (set terms k (with_body body x)) labels) whole

-- ---- in code

pub taken_at : (items : List DraftType) (i : ℕ) (t : DraftType) → i < length items → t ≡ get_or items i t → slice_get (map type_of items) i ≡ Some (type_of t)
taken_at items i t lt is = slice_get-map type_of items i ∙ ap (option_map type_of) (slice_get-get_or items i t lt ∙ ap Some (sym is))

module _ (parname parlabel : List ℕ) (parent : Option Dictionary) (model : DataModel) (u v : ℕ) (items : List DraftType) (labels : List Label) (n i : ℕ) (t : DraftType) (is : t ≡ get_or items i t) (le : u ≤ length items)
    (d : Draft) (view : seen parname parlabel parent model u v (map type_of items) labels ≡ d) (at : StandsPending d n i) where
  at_seen : StandsPending (seen parname parlabel parent model u v (map type_of items) labels) n i
  at_seen = subst (λ (e : Draft). StandsPending e n i) (sym view) at

  inside : i < length items
  inside =
      let h = own_inside (is_some parent) (count_of (seen parname parlabel parent model u v (map type_of items) labels)) n i at_seen.own in
      let lt = h.1 in
      let whole = ap (λ (ts : List Term). length ts) (all_terms parname parlabel parent model u v (map type_of items) labels) in
      let same = length-map items type_of in
      omega (arith, lt, whole, same)

  few : u ≤ length (map type_of items)
  few = let same = length-map items type_of in omega (arith, same)

  pub body_here : (type_of t).body ≡ body_at d n
  body_here = body_found parname parlabel parent model u v (map type_of items) labels n i (type_of t) at_seen (taken_at items i t inside is) few ∙ ap (λ (e : Draft). body_at e n) view

  pub put_here : (change : Body → Body) (new : DraftType) → type_of new ≡ with_body (change (type_of t).body) (type_of t) → seen parname parlabel parent model u v (map type_of (set items i new)) labels ≡ replace_body d n (change (body_at d n))
  put_here change new h =
      let all : map type_of (set items i new) ≡ set (map type_of items) i (with_body (change (type_of t).body) (type_of t)) = map-set type_of items i new ∙ ap (set (map type_of items) i) h in
      ap (λ (ts : List Term). seen parname parlabel parent model u v ts labels) all
      ∙ sym (written_over parname parlabel parent model u v (map type_of items) labels n i (type_of t) at_seen (taken_at items i t inside is) few (change (type_of t).body))
      ∙ ap (λ (e : Draft). replace_body e n (change (type_of t).body)) view
      ∙ ap (λ (b : Body). replace_body d n (change b)) body_here

  pub left_here : (new : DraftType) → type_of new ≡ type_of t → seen parname parlabel parent model u v (map type_of (set items i new)) labels ≡ seen parname parlabel parent model u v (map type_of items) labels
  left_here new same = ap (λ (ts : List Term). seen parname parlabel parent model u v ts labels) (map-set_same type_of items i new t (same ∙ ap type_of is))

-- the type at an own index
pub seen_type : (parname parlabel : List ℕ) (parent : Option Dictionary) (model : DataModel) (u v : ℕ) (items : List DraftType) (labels : List Label) (n i : ℕ) (d : Draft) → seen parname parlabel parent model u v (map type_of items) labels ≡ d → place (is_some parent) n ≡ Own i → space_type (space_of d) n ≡ or_no_type (slice_get (map type_of items) i)
seen_type parname parlabel parent model u v items labels n i d view at =
    ap (λ (e : Draft). space_type (space_of e) n) (sym view) ∙ here (seen parname parlabel parent model u v (map type_of items) labels) at
    ∙ ap (λ (ts : List Term). or_no_type (slice_get ts i)) (all_terms parname parlabel parent model u v (map type_of items) labels)
  where
    here : (e : Draft) → place (is_some e.parent) n ≡ Own i → space_type (space_of e) n ≡ or_no_type (slice_get (content e).terms i)
    here e own = rw own refl

-- there is none after the last one
pub none_at : (items : List DraftType) (i : ℕ) → length items ≤ i → slice_get (map type_of items) i ≡ None
none_at [] i le = refl
none_at (t ∷ items) zero le = absurd (omega arith)
none_at (t ∷ items) (suc i) le = none_at items i (omega arith)
