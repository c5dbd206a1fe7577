-- Laws over the definitions alone. Each is the contract of a function of src/laws.rt.
use Rattle.std.specs.Prelude.{◌≡◌, ◌↔◌, ℕ, ◌+◌, ◌==◌, List, [], ◌∷◌, ◌++◌, length, Some, None, Result, Ok, Err, MatchOption, if◌then◌else◌}
use Rattle.ctf_model.specs.format.Dictionary.{Dictionary, Denotes, denoted}
use Rattle.ctf_model.specs.rules.Faults.{first_fault}
use Rattle.ctf_model.specs.format.Lists.{Lists}
use Rattle.ctf_model.specs.format.Name.{Tables}
use Rattle.ctf_model.specs.format.Record.{IsWhole}
use Rattle.ctf_model.specs.rules.Rules.{IsBroken, IsFirstFault, HasUnknownKind}
use Rattle.ctf_model.specs.format.SpelledTypes.{HasStrayMark, Spells}
use Rattle.ctf_model.specs.format.Spelling.{term_of}
use Rattle.ctf_model.specs.format.Section.{Section, Piece, IsCut, records, stop_code}
use Rattle.ctf_model.specs.format.Term.{Term}
use Rattle.ctf_model.specs.declared.faults.Fault.{Fault}
use Rattle.ctf_model.specs.declared.faults.TheConstants.Fault.{TRUNCATED, BAD_KIND}

-- ---- records and sections

-- no whole record is a proper prefix of another, so a section splits in one way
abbrev pub NoRecordBeginsAnother : Type 0
NoRecordBeginsAnother = (whole more : List ℕ) → IsWhole whole → IsWhole (whole ++ more) → more ≡ []

-- a whole record in a valid form spells exactly the type that reading its fields gives
abbrev pub SpellsWhatIsRead : Type 0
SpellsWhatIsRead =
    (t : Tables) (b : List ℕ) (x : Term) → Spells t b x
    ↔ (IsWhole b × (¬ HasStrayMark b) × (term_of t b ≡ Some x))

-- a section spells at most one list of types
abbrev pub SectionSpellsOneList : Type 0
SectionSpellsOneList =
    (t : Tables) (bytes : List ℕ) (xs ys : List Term) → Section t bytes xs
    → Section t bytes ys → xs ≡ ys

-- the fault of a rest that is not empty, with the number that its record would have
abbrev pub rest_fault : ℕ → List ℕ → List (Result Piece Fault)
rest_fault index rest =
    if length rest == 0 then [] else Err (record { code = stop_code rest; place = index }) ∷ []

-- whole records, numbered from `index` and at offsets from `at` on, then the fault of the rest
abbrev pub pieces : ℕ → ℕ → List (List ℕ) → List ℕ → List (Result Piece Fault)
pieces index at [] rest = rest_fault index rest
pieces index at (part ∷ parts) rest =
    Ok (record { index = index; at = at; bytes = part })
    ∷ pieces (index + 1) (at + length part) parts rest

-- reading record by record gives the records of this cut, then the fault of its rest
pub record Reads (bytes : List ℕ) (parts : List (List ℕ)) (rest : List ℕ) : Type 0 where
  pub cut : IsCut bytes parts rest
  pub all : records bytes ≡ pieces 1 0 parts rest
  pub unknown : HasUnknownKind rest → stop_code rest ≡ BAD_KIND
  pub cut_off : ¬ HasUnknownKind rest → stop_code rest ≡ TRUNCATED

-- every byte list has such a cut, and reading follows it
abbrev pub RecordsAreACut : Type 0
RecordsAreACut =
    (bytes : List ℕ) → (parts : List (List ℕ)) × (rest : List ℕ) × Reads bytes parts rest

-- bytes have only one cut into whole records
abbrev pub OneCut : Type 0
OneCut =
    (bytes : List ℕ) (parts others : List (List ℕ)) (rest other : List ℕ) → IsCut bytes parts rest
    → IsCut bytes others other → (parts ≡ others) × (rest ≡ other)

-- ---- the first fault

-- no rule is broken at any place
abbrev pub KeepsEveryRule : Lists → Type 0
KeepsEveryRule s = (rule place : ℕ) → IsBroken s rule place → ⊥

-- without a first fault every rule is kept; otherwise it is the least broken rule, at its least
-- place
abbrev pub FirstFaultIsTheLeast : Type 0
FirstFaultIsTheLeast = (s : Lists) → MatchOption (first_fault s) (KeepsEveryRule s) (IsFirstFault s)

-- ---- denoted dictionaries

-- exactly the lists without a fault denote a dictionary
abbrev pub FaultlessWhereDenoted : Type 0
FaultlessWhereDenoted = (s : Lists) → (first_fault s ≡ None) ↔ ((d : Dictionary) × Denotes s d)

-- lists denote at most one dictionary
abbrev pub DenotesOne : Type 0
DenotesOne = (s : Lists) (d e : Dictionary) → Denotes s d → Denotes s e → d ≡ e

-- the computed dictionary is the denoted one
abbrev pub ComputesWhatIsDenoted : Type 0
ComputesWhatIsDenoted = (s : Lists) (d : Dictionary) → (denoted s ≡ Some d) ↔ Denotes s d
