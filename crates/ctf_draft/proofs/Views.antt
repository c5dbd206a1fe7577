-- A draft in code as the definitions see it: types and labels in two parts.
use Rattle.std.proofs.Common.{◌≡◌, ℕ, false, zero, suc, ◌+◌, ◌-◌, ◌≤◌, List, [], ◌∷◌, ◌++◌, length, map, take, drop, set, Option, None, Result, Ok, refl, ap, arith}
use Rattle.std.proofs.Math.Seq.{drop-length}
use Rattle.std.proofs.lemmas.List.{take_all, take-append-le, drop-append-le, take-append-drop, length-drop, drop-set-add, take-set-le}
use Rattle.std.specs.List.{list_any}
use Rattle.std.specs.Str.{bytes_eq}
use Rattle.ctf_model.specs.drafts.Adders.{Added, add_label, add_type, against_label, against_type, with_label, with_pending, with_type}
use Rattle.ctf_model.specs.format.Dictionary.{Dictionary, Label}
use Rattle.ctf_model.specs.drafts.Drafts.{Draft, all_of, rollback, has_zero, content, next_number, pending_count, commit}
use Rattle.ctf_model.specs.rules.Judgements.{first_met}
use Rattle.ctf_model.specs.drafts.NewTypes.{NewType, new_term}
use Rattle.ctf_model.specs.format.Term.{Term}
use Rattle.ctf_model.specs.declared.data_model.DataModel.{DataModel}
use Rattle.ctf_model.specs.declared.faults.Fault.{Fault}
use Rattle.ctf_draft.specs.DraftView.{made_of}

taken_again : {X : Type 0} (n : ℕ) (xs : List X) → take n (take n xs) ≡ take n xs
taken_again zero xs = refl
taken_again (suc n) [] = refl
taken_again (suc n) (x ∷ xs) = ap (λ ys. x ∷ ys) (taken_again n xs)

none_behind : {X : Type 0} (n : ℕ) (xs : List X) → drop n (take n xs) ≡ []
none_behind zero xs = refl
none_behind (suc n) [] = refl
none_behind (suc n) (x ∷ xs) = none_behind n xs

-- ---- types and labels, of which the first ones are updated

module _ (parname parlabel : List ℕ) (parent : Option Dictionary) (model : DataModel) (u v : ℕ) where
  abbrev pub seen : List Term → List Label → Draft
  seen terms labels = made_of parname parlabel parent model u v terms labels

  pub all_terms : (terms : List Term) (labels : List Label) → (all_of (seen terms labels)).terms ≡ terms
  all_terms terms labels = take-append-drop u terms

  pub all_labels : (terms : List Term) (labels : List Label) → (all_of (seen terms labels)).labels ≡ labels
  all_labels terms labels = take-append-drop v labels

  pub dropped : (terms : List Term) (labels : List Label) → seen (take u terms) (take v labels) ≡ rollback (seen terms labels)
  dropped terms labels = rw (taken_again u terms, taken_again v labels, none_behind u terms, none_behind v labels) refl

  pub counted : (terms : List Term) (labels : List Label) → (length terms - u) + (length labels - v) ≡ pending_count (seen terms labels)
  counted terms labels = omega (arith, length-drop u terms, length-drop v labels)

  pub one_type : (terms : List Term) (labels : List Label) (x : Term) → u ≤ length terms → with_type (seen terms labels) x ≡ seen (terms ++ x ∷ []) labels
  one_type terms labels x le = rw (take-append-le u terms (x ∷ []) le, drop-append-le u terms (x ∷ []) le) refl

  pub one_label : (terms : List Term) (labels : List Label) (l : Label) → v ≤ length labels → with_label (seen terms labels) l ≡ seen terms (labels ++ l ∷ [])
  one_label terms labels l le = rw (take-append-le v labels (l ∷ []) le, drop-append-le v labels (l ∷ []) le) refl

  pub one_other : (terms : List Term) (labels : List Label) (place : ℕ) (x : Term) → with_pending (seen terms labels) (set (drop u terms) place x) ≡ seen (set terms (u + place) x) labels
  one_other terms labels place x = rw (take-set-le u terms (u + place) x (omega arith), drop-set-add u terms place x) refl

-- all of it is updated
pub settled_is : (parname parlabel : List ℕ) (parent : Option Dictionary) (model : DataModel) (u v : ℕ) (terms : List Term) (labels : List Label) → seen parname parlabel parent model (length terms) (length labels) terms labels ≡ commit (seen parname parlabel parent model u v terms labels)
settled_is parname parlabel parent model u v terms labels =
    rw (take_all (length terms) terms (omega arith), take_all (length labels) labels (omega arith), drop-length terms, drop-length labels, take-append-drop u terms, take-append-drop v labels) refl

-- ---- successful additions

pub type_accepted : (d : Draft) (new : NewType) → first_met (against_type d (new_term new)) ≡ None → add_type d new ≡ Ok (record { draft = with_type d (new_term new); answer = next_number d })
unfolding add_type
type_accepted d new none = rw none refl

pub label_accepted : (d : Draft) (l : Label) → first_met (against_label d l.name) ≡ None → add_label d l ≡ Ok (with_label d l)
unfolding add_label
label_accepted d l none = rw none refl

-- an unused name
pub label_free : (name : List ℕ) (d : Draft) (labels : List Label) → (content d).labels ≡ labels → has_zero name ≡ false → list_any (bytes_eq name) (map (λ l. l.name) labels) ≡ false → first_met (against_label d name) ≡ None
label_free name d labels all zeros none = rw (zeros, all, none) refl

-- the answer, from the views before and after
pub added : (d e : Draft) (x : Term) (after : Draft) (n : ℕ) → d ≡ e → with_type e x ≡ after → next_number d ≡ n → (let r : Result Added Fault = Ok (record { draft = with_type d x; answer = next_number d }) in r) ≡ Ok (record { draft = after; answer = n })
added d e x after n is one number = rw (number, is, one) refl

pub labelled : (d e : Draft) (l : Label) (after : Draft) → d ≡ e → with_label e l ≡ after → (let r : Result Draft Fault = Ok (with_label d l) in r) ≡ Ok after
labelled d e l after is one = rw (is, one) refl
