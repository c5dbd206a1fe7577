-- The stages of the check after the header: records, names, types and symbols.
use Rattle.std.specs.Prelude.{◌≡◌, ℕ, List, [], ◌∷◌, length, take, nat_lt, Bool, Option, Some, None, Result, if◌then◌else◌}
use Rattle.std.specs.Option.{option_or}
use Rattle.ctf_model.specs.format.Bytes.{u32_at}
use Rattle.ctf_model.specs.rules.Chains.{edges}
use Rattle.ctf_chains.specs.Steps.{AreSpelled, steps}
use Rattle.ctf_chains.specs.declared.chain.Chain.{Chain}
use Rattle.ctf_chains.specs.declared.chain.Chain.TheVariants.{ByValue, Declarator}
use Rattle.ctf_model.specs.rules.Faults.{Site, list_sites, walk_fault, or_later, first_broken, first_misnaming, first_deep, first_where, tells_missing, bad_funcs, bad_symbol_type, bad_symtab, rules}
use Rattle.ctf_model.specs.symbols.Entries.{Entry, entries_of}
use Rattle.ctf_model.specs.symbols.Symbols.{Symbol}
use Rattle.ctf_entries.specs.Sound.{bad_place}
use Rattle.ctf_model.specs.format.Header.{Fields}
use Rattle.ctf_model.specs.format.Lists.{Lists}
use Rattle.ctf_model.specs.format.Name.{Tables}
use Rattle.ctf_model.specs.format.Record.{kind}
use Rattle.ctf_model.specs.format.Section.{Piece, terms_in}
use Rattle.ctf_model.specs.declared.faults.Fault.{Fault}
use Rattle.ctf_model.specs.declared.faults.TheConstants.Fault.{TOO_MANY, BAD_REFERENCE, VALUE_DEEP, DECL_DEEP, BAD_FUNCS, BAD_SYMBOL_TYPE, BAD_SYMTAB}

-- the first fault of the records: where reading stops, else their number exceeding the limit
abbrev pub records_fault : List (Result Piece Fault) → Option Fault
records_fault rs =
    option_or (walk_fault rs)
    (if nat_lt 32766 (length rs) then Some (record { code = TOO_MANY; place = 32767 })
    else None)

-- the name references of a header
abbrev pub header_sites : Fields → List Site
header_sites h =
    record { place = 4; reference = h.parlabel } ∷ record { place = 8; reference = h.parname } ∷ []

-- the name references of a record at `place`: its own, and those in its list
abbrev pub own_sites : ℕ → List ℕ → List Site
own_sites place b = record { place = place; reference = u32_at b 0 } ∷ list_sites place b (kind b)

-- the number of the first type with too long a chain of this sort
abbrev pub chain_place : Chain → Tables → Bool → List (Result Piece Fault) → Option ℕ
chain_place chain t child rs = first_deep (edges (steps chain) child (terms_in t rs)) 0 (length rs)

-- the first fault of chains: steps by value, then declarator steps
abbrev pub chains_fault : Tables → Bool → List (Result Piece Fault) → Option Fault
chains_fault t child rs =
    or_later VALUE_DEEP (chain_place ByValue t child rs)
    (or_later DECL_DEEP (chain_place Declarator t child rs) None)

-- the first fault of the records' types: a reference to a missing type, else a chain that is too
-- long
abbrev pub types_fault : Tables → Bool → List (Result Piece Fault) → Option Fault
types_fault t child rs =
    or_later BAD_REFERENCE (first_misnaming t child (length rs) rs) (chains_fault t child rs)

-- ---- the same, whichever the string tables by which the records spell their types

-- `place` is the first type with too long a chain of this sort, or none
abbrev pub IsChainPlace : Chain → Bool → List (Result Piece Fault) → Option ℕ → Type 0
IsChainPlace chain child rs place =
    (t : Tables) → AreSpelled t rs → chain_place chain t child rs ≡ place

-- `fault` is the first fault of chains, or none
abbrev pub IsChainsFault : Bool → List (Result Piece Fault) → Option Fault → Type 0
IsChainsFault child rs fault = (t : Tables) → AreSpelled t rs → chains_fault t child rs ≡ fault

-- `fault` is the first fault of the records' types, or none
abbrev pub IsTypesFault : Bool → List (Result Piece Fault) → Option Fault → Type 0
IsTypesFault child rs fault = (t : Tables) → AreSpelled t rs → types_fault t child rs ≡ fault

-- ---- symbols

-- the number of the first symbol whose entry refers to a missing type
abbrev pub first_missing : Bool → ℕ → List Entry → Option ℕ
first_missing child count es = first_where (tells_missing child count) (λ e. e.number) es

-- the first fault of considered symbols with entries in these sections: a function's bad entry,
-- else a missing type
abbrev pub entries_fault : Bool → ℕ → List (ℕ × Symbol) → List ℕ → List ℕ → Option Fault
entries_fault child count xs objects functions =
    or_later BAD_FUNCS (bad_place xs functions)
    (or_later BAD_SYMBOL_TYPE (first_missing child count (entries_of xs objects functions)) None)

-- the first fault of symbols: a function's bad entry, a missing type, a truncated symbol
abbrev pub symbols_fault : Lists → Option Fault
symbols_fault s =
    or_later BAD_FUNCS (bad_funcs s)
    (or_later BAD_SYMBOL_TYPE (bad_symbol_type s) (or_later BAD_SYMTAB (bad_symtab s) None))

-- ---- all rules

-- the first fault among the rules before those of chains
unfoldable pub fault_before_chains : Lists → Option Fault
fault_before_chains s = first_broken 1 (take 14 rules) s
