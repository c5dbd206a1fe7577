-- Additions to a draft change neither its parent, nor its data model, nor its updated part.
use Rattle.std.proofs.Common.{◌≡◌, ℕ, List, [], ◌∷◌, ◌++◌, Bool, true, false, Option, Some, None, Result, Ok, Err, refl, ap, sym, subst, ◌∙◌}
use Rattle.std.specs.Prelude.{◌||◌, option_map, is_some, not}
use Rattle.std.specs.Option.{ForSome}
use Rattle.ctf_open.specs.Drafting.{IsUnder}
use Rattle.ctf_draft.specs.Stating.{add_member_at, against_stated}
use Rattle.ctf_model.specs.drafts.Adders.{Added, add_enumerator, add_label, add_member, add_type, against_enumerator, against_label, against_member, against_place, against_type, body_at, put_member, replace_body, replaced_at, size_with, with_enumerator, with_label, with_member, with_type}
use Rattle.ctf_model.specs.format.Dictionary.{Label}
use Rattle.ctf_model.specs.drafts.Drafts.{Draft, above as dictionary_above, against_draft, rollback, empty_draft, has_zero, is_childs, is_of_other, new_draft, next_number, pending_place, space_of}
use Rattle.ctf_model.specs.rules.Judgements.{Row, first_met, unless, ◌then◌}
use Rattle.ctf_model.specs.spaces.Imports.{Modelled, same_model}
use Rattle.ctf_model.specs.spaces.Kept.{Kept, kept_dictionary, modelled_by}
use Rattle.ctf_model.specs.drafts.NewTypes.{NewType, new_term}
use Rattle.ctf_model.specs.drafts.Placement.{bits_filled, member_place}
use Rattle.ctf_model.specs.spaces.Space.{space_type}
use Rattle.ctf_model.specs.format.Term.{Body, Enumerator, Member, Term}
use Rattle.ctf_model.specs.declared.data_model.DataModel.{DataModel}
use Rattle.ctf_model.specs.declared.data_model.DataModel.TheVariants.{Lp64, Ilp32}
use Rattle.ctf_model.specs.declared.faults.Fault.{Fault}
use Rattle.ctf_model.specs.declared.faults.TheConstants.Fault.{MODEL_DIFFERS, NAME_HAS_ZERO, PARENT_IS_CHILD}

-- the drafts are equal apart from their pending parts
abbrev pub AreAlike : Draft → Draft → Type 0
AreAlike a b = rollback b ≡ rollback a

-- the result if there is no refusal
unless_ok : {A : Type 0} (fault : Option Fault) (done : Result A Fault) (a : A) → unless fault done ≡ Ok a → done ≡ Ok a
unless_ok None done a e = e
unless_ok (Some f) done a e = absurd cc

then_ok : {A : Type 0} (n : Result ℕ Fault) (next : ℕ → Result A Fault) (a : A) → (n then next) ≡ Ok a → (k : ℕ) × (next k ≡ Ok a)
then_ok (Ok n) next a e = (n, e)
then_ok (Err f) next a e = absurd cc

-- the draft in the answer
added_alike : (d : Draft) (b a : Added) → AreAlike d b.draft → unless None (Ok b) ≡ Ok a → AreAlike d a.draft
added_alike d b a alike e = let is : b ≡ a = cc in subst (λ (x : Added). AreAlike d x.draft) is alike

draft_alike : (d b a : Draft) → AreAlike d b → unless None (Ok b) ≡ Ok a → AreAlike d a
draft_alike d b a alike e = let is : b ≡ a = cc in subst (λ (x : Draft). AreAlike d x) is alike

replaced_alike : (d : Draft) (n : ℕ) (body : Body) → AreAlike d (replace_body d n body)
replaced_alike d n body = at (pending_place d n) (space_type (space_of d) n)
  where
    at : (o : Option ℕ) (r : Result Term Fault) → AreAlike d (replaced_at d o r body)
    at (Some i) (Ok x) = refl
    at (Some i) (Err f) = refl
    at None (Ok x) = refl
    at None (Err f) = refl

pub type_alike : (d : Draft) (x : NewType) (a : Added) → add_type d x ≡ Ok a → AreAlike d a.draft
unfolding add_type
type_alike d x a e =
    let done = unless_ok (first_met (against_type d (new_term x))) (Ok (record { draft = with_type d (new_term x); answer = next_number d })) a e in
    added_alike d (record { draft = with_type d (new_term x); answer = next_number d }) a refl done

put_alike : (d : Draft) (n : ℕ) (m : Member) (bits : ℕ) (a : Added) → put_member d n m bits ≡ Ok a → AreAlike d a.draft
put_alike d n m bits a e =
    let b : Added = record { draft = replace_body d n (with_member m (size_with d n m.offset bits) (body_at d n)); answer = m.offset } in
    let done = unless_ok (first_met (against_place m.offset (size_with d n m.offset bits))) (Ok b) a e in
    added_alike d b a (replaced_alike d n (with_member m (size_with d n m.offset bits) (body_at d n))) done

pub member_alike : (d : Draft) (n : ℕ) (name : List ℕ) (tnum : ℕ) (offset : Option ℕ) (a : Added) → add_member d n name tnum offset ≡ Ok a → AreAlike d a.draft
unfolding add_member
member_alike d n name tnum offset a e =
    let placed = unless_ok (first_met (against_member d n name tnum)) _ a e in
    let bits = then_ok (bits_filled (space_of d) tnum) _ a placed in
    let place = then_ok (member_place (space_of d) (body_at d n) tnum offset) _ a bits.1 in
    put_alike d n (record { name = name; tnum = tnum; offset = place.0 }) bits.0 a place.1

pub stated_alike : (d : Draft) (n : ℕ) (m : Member) (size : ℕ) (a : Draft) → add_member_at d n m size ≡ Ok a → AreAlike d a
unfolding add_member_at
stated_alike d n m size a e =
    let b : Draft = replace_body d n (with_member m size (body_at d n)) in
    let done = unless_ok (first_met (against_member d n m.name m.tnum ++ against_stated d n m size)) (Ok b) a e in
    draft_alike d b a (replaced_alike d n (with_member m size (body_at d n))) done

pub enumerator_alike : (d : Draft) (n : ℕ) (x : Enumerator) (a : Draft) → add_enumerator d n x ≡ Ok a → AreAlike d a
unfolding add_enumerator
enumerator_alike d n x a e =
    let b : Draft = replace_body d n (with_enumerator x (body_at d n)) in
    let done = unless_ok (first_met (against_enumerator d n x.name)) (Ok b) a e in
    draft_alike d b a (replaced_alike d n (with_enumerator x (body_at d n))) done

pub label_alike : (d : Draft) (x : Label) (a : Draft) → add_label d x ≡ Ok a → AreAlike d a
unfolding add_label
label_alike d x a e =
    let done = unless_ok (first_met (against_label d x.name)) (Ok (with_label d x)) a e in
    draft_alike d (with_label d x) a refl done

-- ---- new drafts

-- equal data models
same_is : (a b : DataModel) → same_model a b ≡ true → b ≡ a
same_is Lp64 Lp64 e = refl
same_is Ilp32 Ilp32 e = refl
same_is Lp64 Ilp32 e = absurd cc
same_is Ilp32 Lp64 e = absurd cc

not_other : (a b : DataModel) (same : Bool) → same_model a b ≡ same → not same ≡ false → b ≡ a
not_other a b true e h = same_is a b e
not_other a b false e h = absurd cc

-- if no condition holds, the first does not
none_met : (row : Row) (rows : List Row) → first_met (row ∷ rows) ≡ None → (row.met ≡ false) × (first_met rows ≡ None)
none_met row rows e = at row.met refl e
  where
    at : (met : Bool) → row.met ≡ met → first_met (row ∷ rows) ≡ None → (row.met ≡ false) × (first_met rows ≡ None)
    at false m h = let rest = rw m at h in (m, rest)
    at true m h = let clash = rw m at h in absurd cc

-- no condition holds for a draft that is made
none_against : {A : Type 0} (fault : Option Fault) (done : Result A Fault) (a : A) → unless fault done ≡ Ok a → fault ≡ None
none_against None done a e = refl
none_against (Some f) done a e = absurd cc

made_alike : (parent : Option Kept) (model : DataModel) → is_of_other model (option_map modelled_by parent) ≡ false → ForSome parent (λ p. p.model ≡ model)
made_alike None model e = λ p h. absurd cc
made_alike (Some p) model e = λ q h. let is : p ≡ q = cc in subst (λ (k : Kept). k.model ≡ model) is (not_other model p.model _ refl e)

map_twice : {A B C : Type 0} (f : A → B) (g : B → C) (o : Option A) → option_map (λ a. g (f a)) o ≡ option_map g (option_map f o)
map_twice f g None = refl
map_twice f g (Some a) = refl

made_of : (above : Option Kept) (parname parlabel : List ℕ) (model : DataModel) (d : Draft) → new_draft (option_map modelled_by above) parname parlabel model ≡ Ok d → IsUnder d above
unfolding new_draft
made_of above parname parlabel model d e =
    let given = option_map modelled_by above in
    let rows = against_draft given parname parlabel model in
    let empty = empty_draft (dictionary_above given) parname parlabel model in
    let none = none_against (first_met rows) (Ok empty) d e in
    let zero_row : Row = record { code = NAME_HAS_ZERO; met = has_zero parname || has_zero parlabel } in
    let child_row : Row = record { code = PARENT_IS_CHILD; met = is_childs (dictionary_above given) } in
    let model_row : Row = record { code = MODEL_DIFFERS; met = is_of_other model given } in
    let first = none_met zero_row (child_row ∷ model_row ∷ []) none in
    let second = none_met child_row (model_row ∷ []) first.1 in
    let third = none_met model_row [] second.1 in
    let done = unless_ok (first_met rows) (Ok empty) d e in
    let is : empty ≡ d = cc in
    let parents : dictionary_above given ≡ option_map kept_dictionary above = sym (map_twice modelled_by (λ m. m.dictionary) above) in
    record {
      parent = ap (λ (x : Draft). x.parent) (sym is) ∙ parents;
      model = subst (λ (x : Draft). ForSome above (λ p. p.model ≡ x.model)) is (made_alike above model third.0);
    }

pub made_under : {P : Type 0} (kept : P → Kept) (parent : Option P) (above : Option Kept) (parname parlabel : List ℕ) (model : DataModel) (d : Draft) → option_map kept parent ≡ above → new_draft (option_map (λ p. modelled_by (kept p)) parent) parname parlabel model ≡ Ok d → IsUnder d above
made_under kept parent above parname parlabel model d same e =
    made_of above parname parlabel model d (ap (λ (o : Option Modelled). new_draft o parname parlabel model) (sym (map_twice kept modelled_by parent ∙ ap (option_map modelled_by) same)) ∙ e)

-- a value is present exactly if its lists are
pub there : {P R : Type 0} (kept : P → Kept) (o : Option P) (now : R → Kept) (r : Option R) → option_map kept o ≡ option_map now r → is_some o ≡ is_some r
there kept None now None e = refl
there kept None now (Some r) e = absurd cc
there kept (Some p) now None e = absurd cc
there kept (Some p) now (Some r) e = refl
