-- Own types by number, and their rows.
use Rattle.std.proofs.Common.{◌≡◌, ℕ, ◌+◌, ◌<◌, Bool, true, false, eqb, List, length, Option, Some, None, Result, Ok, refl, sym, ap, subst, ◌∙◌, arith, ne_eqb}
use Rattle.std.specs.Option.{option_map}
use Rattle.std.specs.Prelude.{IfSome, IsSome, option_and_then, slice_get}
use Rattle.std.proofs.lemmas.List.FromFn.{get_or-map-range_with_len, length-map-range_with_len}
use Rattle.std.proofs.lemmas.Option.{same_Some, slice_get-get_or}
use Rattle.ctf_check.specs.CheckedView.{type_at}
use Rattle.ctf_model.proofs.OwnTypes.{place_of_own}
use Rattle.ctf_model.specs.declared.faults.Fault.{Fault}
use Rattle.ctf_model.specs.figures.Figures.{referred_by}
use Rattle.ctf_model.specs.format.Dictionary.{Dictionary}
use Rattle.ctf_model.specs.format.Lists.{Lists}
use Rattle.ctf_model.specs.format.Term.{Term}
use Rattle.ctf_model.specs.opened.Open.{Open, own_in, space_in}
use Rattle.ctf_model.specs.opened.Questions.{align_answered, answer_map, kind_answered, length_answered, on_shape, resolved_answered, root_answered, shape_of, size_answered}
use Rattle.ctf_model.specs.spaces.Space as spaces
use Rattle.ctf_model.specs.spaces.Space.{space_type}
use Rattle.ctf_model.specs.spaces.TypeNumbers.{or_no_type, type_in}
use Rattle.ctf_model.specs.spaces.TypePlaces.{own_number}
use Rattle.ctf_space.specs.TypeView.{name_in}
use Rattle.ctf_c.proofs.names.Parts.{one_there}
use Rattle.ctf_c.specs.Given.{Gives, flag, number_of_kind}
use Rattle.ctf_c.specs.Rowed.{lists_with}
use Rattle.ctf_c.specs.TypeRows.{TellsType, own_numbers}
use Rattle.ctf_c.specs.declared.type_rows.GivenTypeRow.{GivenTypeRow}
use Rattle.ctf_c.specs.names.Holders.{lists_at}
use Rattle.ctf_c.specs.names.Places.{text_in}

-- there are as many numbers as types
pub as_many : (d : Dictionary) → length (own_numbers d) ≡ length d.terms
as_many d = length-map-range_with_len (own_number d.child) 0 (length d.terms)

number_there : (d : Dictionary) (k : ℕ) → k < length d.terms → slice_get (own_numbers d) k ≡ Some (own_number d.child k)
number_there d k lt =
    let many = as_many d in
    let inside : k < length (own_numbers d) = omega (arith, lt, many) in
    slice_get-get_or (own_numbers d) k 0 inside ∙ ap Some (get_or-map-range_with_len (own_number d.child) 0 (length d.terms) k k 0 lt (omega arith))

-- the row of an own type is that of its number
pub told_there : {R : Type 0} (Tells : ℕ → R → Type 0) (d : Dictionary) (k : ℕ) (row : R) → k < length d.terms → Tells (own_number d.child k) row → IfSome (slice_get (own_numbers d) k) (λ t. Tells t row)
told_there Tells d k row lt tells = rw (number_there d k lt) tells

-- ---- an own type

own_at : (d : Dictionary) (i : ℕ) → type_at d (i + 1) ≡ slice_get d.terms i
own_at d i =
    let some : eqb (i + 1) 0 ≡ false = ne_eqb (i + 1) 0 (λ e. omega (arith, e)) in
    rw some (ap (slice_get d.terms) (omega arith))

pub own_there : (d : Dictionary) (i : ℕ) → i < length d.terms → IsSome (type_at d (i + 1))
own_there d i lt = let one = one_there d.terms i lt in rw (own_at d i ∙ one.1) refl

-- it is found by its number
pub own_found : (s : spaces.Space) (d : Dictionary) (i : ℕ) (o : Option Term) → d ≡ s.own → o ≡ type_at d (i + 1) → or_no_type o ≡ space_type s (own_number s.own.child i)
own_found s d i o a e =
    ap or_no_type (e ∙ own_at d i ∙ ap (λ (x : Dictionary). slice_get x.terms i) a)
    ∙ sym (ap (type_in s.own s.parent) (place_of_own s.own.child i))

-- ---- its row

pub name_told : (o : Option Term) (named : Option (List ℕ)) (Stands : List ℕ → Type 0) → option_map (λ (x : Term). Some x.name) o ≡ Some named → ((name : List ℕ) → named ≡ Some name → Stands name)
    → (name : List ℕ) × (name_in (or_no_type o) ≡ Ok name) × Stands name
name_told None named Stands h stands = absurd cc
name_told (Some x) named Stands h stands = (x.name, refl, stands x.name (sym (same_Some _ _ h)))

-- facts about the looked-up type are facts about the number
pub tells : (d : Open) (space : spaces.Space) (own : Lists) (i : ℕ) (found : Result Term Fault) (row : GivenTypeRow)
    → space ≡ space_in d → own ≡ d.own.lists → found ≡ space_type space (own_number space.own.child i) → row.tnum ≡ own_number space.own.child i
    → answer_map number_of_kind (on_shape kind_answered (shape_of found)) ≡ Ok row.kind
    → answer_map flag (root_answered found) ≡ Ok row.root
    → on_shape length_answered (shape_of found) ≡ Ok row.length
    → Gives (referred_by found) row.reference_status 0 row.reference
    → Gives (size_answered (space_in d) row.tnum) row.size_status 0 row.size
    → Gives (align_answered (space_in d) row.tnum) row.align_status 0 row.align
    → Gives (resolved_answered (space_in d) row.tnum) row.resolved_status 0 row.resolved
    → ((name : List ℕ) × (name_in found ≡ Ok name) × (text_in own row.name_list row.name_at ≡ Some name))
    → TellsType (Some d) (own_number (own_in d).child i) row
tells d space own i found row a b e n kind root items reference size align resolved name =
    let t = own_number (own_in d).child i in
    let number : row.tnum ≡ t = n ∙ ap (λ (x : spaces.Space). own_number x.own.child i) a in
    let is : found ≡ space_type (space_in d) t = e ∙ ap (λ (x : spaces.Space). space_type x (own_number x.own.child i)) a in
    let lists : lists_with (Some d) t ≡ Some own = ap (λ p. lists_at p d.own.lists (option_map (λ q. q.lists) d.parent)) (place_of_own (own_in d).child i) ∙ ap Some (sym b) in
    record {
      number = number;
      kind = subst (λ f. answer_map number_of_kind (on_shape kind_answered (shape_of f)) ≡ Ok row.kind) is kind;
      root = subst (λ f. answer_map flag (root_answered f) ≡ Ok row.root) is root;
      items = subst (λ f. on_shape length_answered (shape_of f) ≡ Ok row.length) is items;
      size = subst (λ k. Gives (size_answered (space_in d) k) row.size_status 0 row.size) number size;
      align = subst (λ k. Gives (align_answered (space_in d) k) row.align_status 0 row.align) number align;
      resolved = subst (λ k. Gives (resolved_answered (space_in d) k) row.resolved_status 0 row.resolved) number resolved;
      reference = subst (λ f. Gives (referred_by f) row.reference_status 0 row.reference) is reference;
      name = (name.0, subst (λ f. name_in f ≡ Ok name.0) is name.1, subst (λ l. option_and_then (λ x. text_in x row.name_list row.name_at) l ≡ Some name.0) (sym lists) name.2);
    }

-- ---- numbers

-- the number of an own type is not 0
pub own_some : (child : Bool) (i n : ℕ) → n ≡ own_number child i → 0 < n
own_some true i n e = omega (arith, e)
own_some false i n e = omega (arith, e)
