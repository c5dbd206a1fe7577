-- Requests for new drafts. Source: ours.
use Rattle.std.specs.Prelude.{ℕ, List, [], ◌∷◌, Option, Some, None}
use Rattle.ctf_model.specs.declared.data_model.DataModel.{DataModel}

-- the parent's slot, if any, the names of the parent and its label, and the data model, if stated
pub record Created : Type 0 where
  pub parent : Option ℕ
  pub parname : List ℕ
  pub parlabel : List ℕ
  pub model : Option DataModel

-- a parent is given exactly if its name is
abbrev pub creation : Option ℕ → List ℕ → List ℕ → Option DataModel → Option Created
creation None [] parlabel model =
    Some (record { parent = None; parname = []; parlabel = parlabel; model = model })
creation (Some d) (byte ∷ bytes) parlabel model =
    Some (record { parent = Some d; parname = byte ∷ bytes; parlabel = parlabel; model = model })
creation parent parname parlabel model = None
