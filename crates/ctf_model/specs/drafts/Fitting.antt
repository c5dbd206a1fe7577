-- Which types and labels fit the format. Source: the widths of ctf(5)'s fields; that a draft's
-- arrays state no size, and that no member begins after the end of its struct, is ours.
use Rattle.std.specs.Prelude.{◌≡◌, ◌<◌, ◌≤◌, ℕ, ◌*◌, ◌^◌, List, length, FitsSigned}
use Rattle.std.specs.List.{AllByRecursion}
use Rattle.std.specs.Int.{w32}
use Rattle.ctf_model.specs.drafts.Adders.{most_items}
use Rattle.ctf_model.specs.format.Dictionary.{Label}
use Rattle.ctf_model.specs.drafts.NewTypes.{NewBody}
use Rattle.ctf_model.specs.drafts.NewTypes as new
use Rattle.ctf_model.specs.format.Term.{Scalar, Elements, Member, Enumerator, Body, Term}
use Rattle.ctf_model.specs.format.Term as term

-- no byte of the name is zero
abbrev pub IsName : List ℕ → Type 0
IsName name = AllByRecursion (λ b. 0 < b) name

-- ---- types; that type numbers fit 16 bits follows because the types exist

pub record FitsScalar (s : Scalar) : Type 0 where
  pub size : s.size < 2 ^ 64
  pub encoding : s.encoding < 2 ^ 8
  pub offset : s.offset < 2 ^ 8
  pub bits : s.bits < 2 ^ 16

pub record FitsElements (e : Elements) : Type 0 where
  pub size : e.size ≡ 0
  pub count : e.count < 2 ^ 32

-- a member begins inside its struct or union, or exactly at its end
pub record FitsMember (size : ℕ) (m : Member) : Type 0 where
  pub name : IsName m.name
  pub offset : m.offset < 2 ^ 64
  pub inside : m.offset ≤ 8 * size

pub record FitsMembers (size : ℕ) (ms : List Member) : Type 0 where
  pub fits : size < 2 ^ 64
  pub count : length ms ≤ most_items
  pub each : AllByRecursion (FitsMember size) ms

pub record FitsEnumerator (e : Enumerator) : Type 0 where
  pub name : IsName e.name
  pub value : FitsSigned w32 e.value

pub record FitsEnum (size : ℕ) (es : List Enumerator) : Type 0 where
  pub fits : size < 2 ^ 64
  pub count : length es ≤ most_items
  pub each : AllByRecursion FitsEnumerator es

abbrev pub FitsBody : Body → Type 0
FitsBody (term.integer s) = FitsScalar s
FitsBody (term.float s) = FitsScalar s
FitsBody (term.array e) = FitsElements e
FitsBody (term.function returned arguments) = length arguments ≤ most_items
FitsBody (term.struct size members) = FitsMembers size members
FitsBody (term.union size members) = FitsMembers size members
FitsBody (term.enum size enumerators) = FitsEnum size enumerators
FitsBody _ = Unit {0}

pub record Fits (x : Term) : Type 0 where
  pub name : IsName x.name
  pub body : FitsBody x.body

pub record FitsLabel (label : Label) : Type 0 where
  pub name : IsName label.name
  pub last : label.last < 2 ^ 32

-- ---- additions

-- the numbers of the new type fit their fields
abbrev pub FitsNew : NewBody → Type 0
FitsNew (new.integer s) = FitsScalar s
FitsNew (new.float s) = FitsScalar s
FitsNew (new.array parts) = parts.count < 2 ^ 32
FitsNew (new.struct size) = size < 2 ^ 64
FitsNew (new.union size) = size < 2 ^ 64
FitsNew (new.enum size) = size < 2 ^ 64
FitsNew _ = Unit {0}
