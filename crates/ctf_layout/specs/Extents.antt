-- Sizes, alignments and resolved types as the code represents them.
use Rattle.std.specs.Prelude.{◌≡◌, ℕ, Result, Ok, Err}
use Rattle.ctf_model.specs.figures.Figures.{size, align, resolved_type, sizing, aligning, resolving, parents_figure}
use Rattle.ctf_model.specs.opened.Questions.{align_answered, resolved_answered, size_answered}
use Rattle.ctf_model.specs.rules.Refusals.{placeless}
use Rattle.ctf_model.specs.spaces.Space.{Space}
use Rattle.ctf_model.specs.declared.faults.Fault.{Fault}
use Rattle.ctf_model.specs.declared.faults.TheConstants.Fault.{INCOMPLETE, TOO_BIG, NO_TYPE, NO_PARENT}
use Rattle.ctf_layout.specs.declared.extents.Amount.{Amount}
use Rattle.ctf_layout.specs.declared.extents.Amount.TheVariants.{Known, Refused}
use Rattle.ctf_layout.specs.declared.extents.Extent.{Extent}
use Rattle.ctf_layout.specs.declared.extents.Refusal.{Refusal}
use Rattle.ctf_layout.specs.declared.extents.Refusal.TheVariants.{Incomplete, TooBig, NoType, NoParent}
use Rattle.ctf_layout.specs.declared.extents.Target.{Target}
use Rattle.ctf_model.specs.declared.numbers.TypeNum.{TypeNum}
use Rattle.ctf_layout.specs.declared.extents.Target.TheVariants as stands_for

abbrev pub code_of : Refusal → ℕ
code_of Incomplete = INCOMPLETE
code_of TooBig = TOO_BIG
code_of NoType = NO_TYPE
code_of NoParent = NO_PARENT

-- a number, or a fault without a place
abbrev pub amount : Amount → Result ℕ Fault
amount (Known n) = Ok n
amount (Refused refusal) = Err (placeless (code_of refusal))

-- the number of a type, or a fault without a place
abbrev pub target : Target → Result ℕ Fault
target (stands_for.Known t) = Ok t.0
target (stands_for.Refused refusal) = Err (placeless (code_of refusal))

-- no size, no alignment and no resolved type
abbrev pub refusal_extent : Refusal → Extent
refusal_extent refusal = record {
  size = Refused refusal;
  align = Refused refusal;
  target = stands_for.Refused refusal;
}

-- the extent of a type that resolves to itself
abbrev pub itself : Amount → Amount → TypeNum → Extent
itself size align number = record {
  size = size;
  align = align;
  target = stands_for.Known number;
}

-- the extent of number 0, which is no type and resolves to itself
abbrev pub of_no_type : Extent
of_no_type = record {
  size = Refused Incomplete;
  align = Refused Incomplete;
  target = stands_for.Known (record { 0 = 0 });
}

-- size, alignment and resolved type of number `n`
pub record IsExtent (s : Space) (n : ℕ) (e : Extent) : Type 0 where
  pub sized : amount e.size ≡ size s n
  pub aligned : amount e.align ≡ align s n
  pub resolves : target e.target ≡ resolved_type s n

-- the same for a parent's number
pub record IsParentsExtent (s : Space) (n : ℕ) (e : Extent) : Type 0 where
  pub sized : amount e.size ≡ parents_figure (sizing s.model) s.parent n
  pub aligned : amount e.align ≡ parents_figure (aligning s.model) s.parent n
  pub resolves : target e.target ≡ parents_figure resolving s.parent n

-- the same as answers
pub record IsAnswered (s : Space) (n : ℕ) (e : Extent) : Type 0 where
  pub sized : amount e.size ≡ size_answered s n
  pub aligned : amount e.align ≡ align_answered s n
  pub resolves : target e.target ≡ resolved_answered s n
