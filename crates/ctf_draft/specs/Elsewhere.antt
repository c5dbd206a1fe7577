-- Type numbers that are not a draft's own. Source: ours.
use Rattle.std.specs.Prelude.{◌≡◌, ℕ, suc, true, Some, Err}
use Rattle.ctf_model.specs.format.Dictionary.{said_by}
use Rattle.ctf_model.specs.drafts.Drafts.{Draft, content}
use Rattle.ctf_model.specs.figures.Figures.{Figure, comes_to, parents_figure}
use Rattle.ctf_model.specs.spaces.TypeNumbers.{no_type}
use Rattle.ctf_model.specs.spaces.TypePlaces.{place}
use Rattle.ctf_model.specs.declared.numbers.Place.TheVariants.{Parents}
use Rattle.ctf_draft.specs.ParentView.{FitsParent}
use Rattle.ctf_draft.specs.declared.parents.Parent.{Parent}

-- the number names no type
pub record NamesNone (d : Draft) (n : ℕ) : Type 0 where
  pub refused : (figure : Figure) (k : ℕ)
      → comes_to figure (parents_figure figure d.parent) (content d) (suc k) n ≡ Err no_type

-- the number is a parent's, if the parent has that many types
pub record NamesParents (d : Draft) (n : ℕ) (p : Parent) : Type 0 where
  pub is : d.parent ≡ Some (said_by p.judged.value.kept.lists)
  pub fits : FitsParent d.model p
  pub index : ℕ
  pub at : place true n ≡ Parents index
