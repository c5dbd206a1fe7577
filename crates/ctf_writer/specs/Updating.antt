-- What written bytes denote, and what an update of a draft gives. Source: libctf(3LIB), ctf_update.
use Rattle.std.specs.Prelude.{◌≡◌, ℕ, List, Ok, None}
use Rattle.std.specs.Option.{ForSome}
use Rattle.ctf_model.specs.format.Dictionary.{Denotes, said_by}
use Rattle.ctf_model.specs.drafts.Drafts.{Draft, content, commit}
use Rattle.ctf_model.specs.spaces.Imports.{import_fault, of_one_model}
use Rattle.ctf_model.specs.spaces.Kept.{Kept}
use Rattle.ctf_model.specs.writing.Written.{lists_of, written}

-- the bytes denote the draft's content, and can be imported over its parent
pub record StandsFor (d : Draft) (bytes : List ℕ) : Type 0 where
  pub denotes : Denotes (lists_of bytes) (content d)
  pub under : ForSome d.parent (λ parent.
      import_fault (of_one_model d.model (said_by (lists_of bytes)) parent) ≡ None)

-- the stored dictionary is exactly what is written of the draft
pub record IsMadeOf (d : Draft) (made : Kept) : Type 0 where
  pub written : written (content d) ≡ Ok made.lists.ctf
  pub alone : made.lists ≡ lists_of made.lists.ctf
  pub model : made.model ≡ d.model
  pub stands : StandsFor d made.lists.ctf

-- an update does not change what is written
abbrev pub UpdatesWriteTheSame : Type 0
UpdatesWriteTheSame = (d : Draft) → written (content (commit d)) ≡ written (content d)
