-- A section of type records. Source: ctf(5), "The Type Section": the records follow one another.
use Rattle.std.specs.Prelude.{◌≡◌, ℕ, zero, suc, ◌+◌, ◌&&◌, List, [], ◌∷◌, ◌++◌, length, take, drop, Option, Some, None, Result, Ok, Err, nat_lt, nat_le, ◌==◌, is_none, if◌then◌else◌}
use Rattle.std.specs.Option.{option_and_then}
use Rattle.std.specs.List.{concat, AllByRecursion}
use Rattle.ctf_model.specs.declared.faults.Fault.{Fault}
use Rattle.ctf_model.specs.declared.faults.TheConstants.Fault.{TRUNCATED, BAD_KIND}
use Rattle.ctf_model.specs.format.Name.{Tables}
use Rattle.ctf_model.specs.format.Term.{Term}
use Rattle.ctf_model.specs.format.Record.{IsWhole, head_len, variant_len, size, vlen, kind}
use Rattle.ctf_model.specs.format.SpelledTypes.{Spells}
use Rattle.ctf_model.specs.format.Spelling.{term_of}

-- the bytes are records, one after another, that spell these types
abbrev pub Section : Tables → List ℕ → List Term → Type 0
Section t b [] = b ≡ []
Section t b (x ∷ xs) =
    (front : List ℕ) × (rest : List ℕ) × (b ≡ front ++ rest) × Spells t front x × Section t rest xs

-- ---- where a section stops being records

-- no whole record is at the start of the bytes
abbrev pub Stops : List ℕ → Type 0
Stops b = (front rest : List ℕ) → IsWhole front → b ≡ front ++ rest → ⊥

-- the bytes are these whole records and a rest that starts with none
pub record IsCut (b : List ℕ) (parts : List (List ℕ)) (rest : List ℕ) : Type 0 where
  pub joined : b ≡ concat parts ++ rest
  pub whole : AllByRecursion IsWhole parts
  pub stops : Stops rest

-- one of the records that the bytes are cut into, with the records before and after it
pub record RecordOf (b : List ℕ) : Type 0 where
  pub front : List (List ℕ)
  pub part : List ℕ
  pub back : List (List ℕ)
  pub rest : List ℕ
  pub cut : IsCut b (front ++ part ∷ back) rest

-- ---- the same, computed by reading record by record

-- `n`, if it fits
abbrev pub fitting : ℕ → ℕ → Option ℕ
fitting room n = if nat_le n room then Some n else None

-- the length of the whole record at the start of the bytes, if there is one
unfoldable pub front_len : List ℕ → Option ℕ
front_len b =
    if nat_lt (length b) 8 then None
    else option_and_then
    (λ k. fitting (length b) (head_len b + variant_len k (size b) (vlen b))) (kind b)

-- a record of a section: its number from 1, its offset in the section, and its bytes
pub record Piece : Type 0 where
  pub index : ℕ
  pub at : ℕ
  pub bytes : List ℕ

-- the fault of bytes that start with no whole record: an unknown kind, else a truncated record
abbrev pub stop_code : List ℕ → ℕ
stop_code b = if nat_le 8 (length b) && is_none (kind b) then BAD_KIND else TRUNCATED

-- a record and what follows it, or a fault and nothing more
abbrev pub record_or_stop : List ℕ → ℕ → ℕ → (ℕ → List (Result Piece Fault)) → Option ℕ
    → List (Result Piece Fault)
record_or_stop b index at later None = Err (record { code = stop_code b; place = index }) ∷ []
record_or_stop b index at later (Some n) =
    Ok (record { index = index; at = at; bytes = take n b }) ∷ later n

-- the records in order, then the fault of the rest; each record has a byte or more, so the length
-- bounds their number
unfoldable pub walk : ℕ → ℕ → ℕ → List ℕ → List (Result Piece Fault)
walk zero index at b = []
walk (suc bound) index at b =
    if length b == 0 then []
    else record_or_stop b index at (λ n. walk bound (index + 1) (at + n) (drop n b)) (front_len b)

abbrev pub records : List ℕ → List (Result Piece Fault)
records b = walk (length b) 1 0 b

-- ---- the types of a section

-- `x` in front of the list, if present
abbrev pub onto : Option Term → List Term → List Term
onto None xs = xs
onto (Some x) xs = x ∷ xs

-- the types that the records spell
unfoldable pub terms_in : Tables → List (Result Piece Fault) → List Term
terms_in t [] = []
terms_in t (Ok piece ∷ rest) = onto (term_of t piece.bytes) (terms_in t rest)
terms_in t (Err f ∷ rest) = terms_in t rest
