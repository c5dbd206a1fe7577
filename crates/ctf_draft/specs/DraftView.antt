-- What a draft in the code stands for.
use Rattle.std.specs.Prelude.{ℕ, List, take, drop, Option}
use Rattle.ctf_model.specs.format.Dictionary.{Dictionary, Label}
use Rattle.ctf_model.specs.drafts.Drafts.{Contents, Draft}
use Rattle.ctf_model.specs.spaces.Kept.{Kept}
use Rattle.ctf_model.specs.format.Term.{Term}
use Rattle.ctf_model.specs.declared.data_model.DataModel.{DataModel}

-- a draft, and the dictionary that its last update wrote
pub record Owned : Type 0 where
  pub draft : Draft
  pub dictionary : Option Kept

-- the first `types` types and `labels` labels, which are updated; the rest is pending
abbrev pub first_of : ℕ → ℕ → List Term → List Label → Contents
first_of types labels terms all = record { terms = take types terms; labels = take labels all }

abbrev pub others_of : ℕ → ℕ → List Term → List Label → Contents
others_of types labels terms all = record { terms = drop types terms; labels = drop labels all }

-- the draft with these parts
abbrev pub made_of : List ℕ → List ℕ → Option Dictionary → DataModel → ℕ → ℕ → List Term
    → List Label → Draft
made_of parname parlabel parent model types labels terms all = record {
  parname = parname;
  parlabel = parlabel;
  parent = parent;
  model = model;
  updated = first_of types labels terms all;
  pending = others_of types labels terms all;
}
