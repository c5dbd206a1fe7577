-- Drafts: dictionaries under construction, and their life cycle. Source: libctf(3LIB), ctf_create,
-- ctf_update, ctf_discard; that names hold no zero byte, and that a parent is given from the start,
-- is ours.
use Rattle.std.specs.Prelude.{ℕ, ◌+◌, ◌-◌, ◌==◌, ◌||◌, ◌&&◌, not, nat_lt, Bool, false, List, [], ◌∷◌, ◌++◌, length, is_none, is_some, Option, Some, None, Result, Ok, if◌then◌else◌}
use Rattle.std.specs.List.{list_any}
use Rattle.std.specs.Option.{option_map}
use Rattle.std.specs.Result.{is_err}
use Rattle.ctf_model.specs.rules.Chains.{own_index}
use Rattle.ctf_model.specs.format.Dictionary.{Dictionary, Label}
use Rattle.ctf_model.specs.spaces.Imports.{Modelled, same_model}
use Rattle.ctf_model.specs.rules.Judgements.{Row, first_met, unless}
use Rattle.ctf_model.specs.format.Name.{is_zero}
use Rattle.ctf_model.specs.spaces.Space.{Space, space_type}
use Rattle.ctf_model.specs.format.Term.{Term}
use Rattle.ctf_model.specs.spaces.TypePlaces.{own_number}
use Rattle.ctf_model.specs.declared.data_model.DataModel.{DataModel}
use Rattle.ctf_model.specs.declared.faults.Fault.{Fault}
use Rattle.ctf_model.specs.declared.faults.TheConstants.Fault.{NAME_HAS_ZERO, PARENT_IS_CHILD, MODEL_DIFFERS}

-- ---- what a draft holds

pub record Contents : Type 0 where
  pub terms : List Term
  pub labels : List Label

abbrev pub no_contents : Contents
no_contents = record { terms = []; labels = [] }

-- the types and labels of `a`, then those of `b`
abbrev pub followed_by : Contents → Contents → Contents
followed_by a b = record { terms = a.terms ++ b.terms; labels = a.labels ++ b.labels }

pub record Draft : Type 0 where
  pub parname : List ℕ
  pub parlabel : List ℕ
  pub parent : Option Dictionary
  pub model : DataModel
  -- what the dictionary contains since the last update, and what was added after it
  pub updated : Contents
  pub pending : Contents

abbrev pub all_of : Draft → Contents
all_of d = followed_by d.updated d.pending

-- the dictionary of the draft's types and labels; it has no symbols
abbrev pub content : Draft → Dictionary
content d = record {
  child = is_some d.parent;
  parname = d.parname;
  parlabel = d.parlabel;
  labels = (all_of d).labels;
  terms = (all_of d).terms;
  symbols = [];
  entries = [];
}

-- that dictionary over the parent: sizes, alignments and chains of a draft are computed in this
-- space
abbrev pub space_of : Draft → Space
space_of d = record { own = content d; parent = d.parent; model = d.model }

-- the number of its types
abbrev pub count_of : Draft → ℕ
count_of d = length (all_of d).terms

-- ---- numbers

-- the number that the next type gets
abbrev pub next_number : Draft → ℕ
next_number d = own_number (is_some d.parent) (count_of d)

-- neither the draft nor its parent has a type with this number
abbrev pub is_unknown : Draft → ℕ → Bool
is_unknown d n = is_err (space_type (space_of d) n)

-- the same, but 0 counts as present (no type)
abbrev pub is_absent : Draft → ℕ → Bool
is_absent d n = not (n == 0) && is_unknown d n

-- the index of an own type among the pending ones, if it is pending
abbrev pub behind_updated : ℕ → Option ℕ → Option ℕ
behind_updated updated None = None
behind_updated updated (Some i) = if nat_lt i updated then None else Some (i - updated)

abbrev pub pending_place : Draft → ℕ → Option ℕ
pending_place d n =
    behind_updated (length d.updated.terms) (own_index (is_some d.parent) (count_of d) n)

-- the type is the parent's or already updated, so it cannot change
abbrev pub is_settled : Draft → ℕ → Bool
is_settled d n = is_none (pending_place d n)

-- ---- life cycle

abbrev pub has_zero : List ℕ → Bool
has_zero name = list_any is_zero name

abbrev pub is_childs : Option Dictionary → Bool
is_childs None = false
is_childs (Some parent) = parent.child

-- the dictionary of a parent, without its data model
abbrev pub above : Option Modelled → Option Dictionary
above parent = option_map (λ p. p.dictionary) parent

-- the parent has another data model
abbrev pub is_of_other : DataModel → Option Modelled → Bool
is_of_other model None = false
is_of_other model (Some parent) = not (same_model model parent.model)

-- the reasons to refuse a new draft, in order
abbrev pub against_draft : Option Modelled → List ℕ → List ℕ → DataModel → List Row
against_draft parent parname parlabel model =
    record { code = NAME_HAS_ZERO; met = has_zero parname || has_zero parlabel }
    ∷ record { code = PARENT_IS_CHILD; met = is_childs (above parent) }
    ∷ record { code = MODEL_DIFFERS; met = is_of_other model parent } ∷ []

abbrev pub empty_draft : Option Dictionary → List ℕ → List ℕ → DataModel → Draft
empty_draft parent parname parlabel model = record {
  parname = parname;
  parlabel = parlabel;
  parent = parent;
  model = model;
  updated = no_contents;
  pending = no_contents;
}

-- a new draft; it has a parent exactly if a parent's name is given
unfoldable pub new_draft : Option Modelled → List ℕ → List ℕ → DataModel → Result Draft Fault
new_draft parent parname parlabel model =
    unless (first_met (against_draft parent parname parlabel model))
    (Ok (empty_draft (above parent) parname parlabel model))

-- drops what was added since the last update; its numbers are used again
abbrev pub rollback : Draft → Draft
rollback d = record d { pending = no_contents }

-- makes everything added so far part of the dictionary
abbrev pub commit : Draft → Draft
commit d = record d { updated = all_of d; pending = no_contents }

-- the number of types and labels added since the last update
abbrev pub pending_count : Draft → ℕ
pending_count d = length d.pending.terms + length d.pending.labels
