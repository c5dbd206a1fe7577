-- Drafts of open dictionaries. Source: ours.
use Rattle.std.specs.Prelude.{◌≡◌, Option, None, Ok, [], option_map}
use Rattle.std.specs.Option.{ForSome}
use Rattle.ctf_model.specs.drafts.Drafts.{Draft, content, empty_draft}
use Rattle.ctf_model.specs.spaces.Kept.{Kept, kept_dictionary}
use Rattle.ctf_model.specs.writing.Written.{lists_of, written}
use Rattle.ctf_model.specs.declared.data_model.DataModel.{DataModel}

-- `above` is the draft's stored parent, if it has one, with the same data model
pub record IsUnder (d : Draft) (above : Option Kept) : Type 0 where
  pub parent : d.parent ≡ option_map kept_dictionary above
  pub model : ForSome above (λ p. p.model ≡ d.model)

-- `kept` is what is stored once all of the draft's content is written
pub record IsWritten (d : Draft) (kept : Kept) : Type 0 where
  pub bytes : written (content d) ≡ Ok kept.lists.ctf
  pub alone : kept ≡ record { lists = lists_of kept.lists.ctf; model = d.model }

-- `kept` is the dictionary of a new draft without a parent
abbrev pub IsEmptyOf : DataModel → Kept → Type 0
IsEmptyOf model kept = IsWritten (empty_draft None [] [] model) kept
