-- The rules of a dictionary, each as a fact about its lists. Source: ours, over the layout of
-- ctf(5).
use Rattle.std.specs.Prelude.{◌≡◌, ◌≢◌, ◌<◌, ◌≤◌, ℕ, ◌+◌, ◌%◌, List, [], ◌∷◌, ◌++◌, length, slice_index, slice_index_or, Bool, false, None, Any, unwrap_or, ◌⊎◌}
use Rattle.ctf_model.specs.format.Bytes.{u16_at, u32_at}
use Rattle.ctf_model.specs.rules.Chains.{by_value, declarator, longest_chain, BeginsChain}
use Rattle.ctf_model.specs.symbols.Entries.{Entry, AreEntries, entry_len, function_sites, is_silent, kind_number, types_named}
use Rattle.ctf_model.specs.format.Header.{Fields, fields, is_child, section}
use Rattle.ctf_model.specs.format.Lists.{Lists, tables}
use Rattle.ctf_model.specs.format.Name.{Tables, name}
use Rattle.ctf_model.specs.format.NamePlaces.{NameStandsAt}
use Rattle.ctf_model.specs.format.Record.{kind}
use Rattle.ctf_model.specs.rules.References.{references}
use Rattle.ctf_model.specs.format.Section.{Section, IsCut, RecordOf}
use Rattle.ctf_model.specs.format.SpelledTypes.{HasStrayMark, Spells}
use Rattle.ctf_model.specs.symbols.Symbols.{symbols}
use Rattle.ctf_model.specs.format.Term.{Term, Body}
use Rattle.ctf_model.specs.spaces.TypePlaces.{place}
use Rattle.ctf_model.specs.declared.faults.Fault.{Fault}
use Rattle.ctf_model.specs.declared.numbers.Place.{Place}
use Rattle.ctf_model.specs.declared.numbers.Place.TheVariants.{Nowhere, Own, Parents}
use Rattle.ctf_model.specs.declared.sections.Section.TheVariants.{SObjects, SFunctions, STypes, SStrings}

-- ---- each rule by itself: the lists break it at a place

abbrev pub TooShort : Lists → ℕ → Type 0
TooShort s place = (place ≡ 0) × (length s.ctf < 4)

abbrev pub BadMagic : Lists → ℕ → Type 0
BadMagic s place = (place ≡ 0) × (u16_at s.ctf 0 ≢ 0xcff1)

abbrev pub BadVersion : Lists → ℕ → Type 0
BadVersion s place = (place ≡ 0) × (slice_index s.ctf 2 ≢ 2)

abbrev pub IsCompressed : Lists → ℕ → Type 0
IsCompressed s place = (place ≡ 0) × (slice_index s.ctf 3 % 2 ≡ 1)

abbrev pub ShortHeader : Lists → ℕ → Type 0
ShortHeader s place = (place ≡ 0) × (length s.ctf < 36)

-- a section begins before the previous one
abbrev pub IsOutOfOrder : Fields → Type 0
IsOutOfOrder h =
    (h.objtoff < h.lbloff) ⊎ (h.funcoff < h.objtoff) ⊎ (h.typeoff < h.funcoff)
    ⊎ (h.stroff < h.typeoff)

abbrev pub BadOrder : Lists → ℕ → Type 0
BadOrder s place = (place ≡ 0) × IsOutOfOrder (fields s.ctf)

abbrev pub IsMisaligned : Fields → Type 0
IsMisaligned h =
    (0 < h.lbloff % 4) ⊎ (0 < h.objtoff % 2) ⊎ (0 < h.funcoff % 2) ⊎ (0 < h.typeoff % 4)

abbrev pub BadAlign : Lists → ℕ → Type 0
BadAlign s place = (place ≡ 0) × IsMisaligned (fields s.ctf)

abbrev pub PastEnd : Lists → ℕ → Type 0
PastEnd s place = (place ≡ 0) × (length s.ctf < 36 + (fields s.ctf).stroff + (fields s.ctf).strlen)

abbrev pub BadStrings : Lists → ℕ → Type 0
BadStrings s place =
    (place ≡ 0) × (0 < length (section s.ctf SStrings))
    × (slice_index (section s.ctf SStrings) 0 ≢ 0)

-- the rest has a kind, but an unknown one
abbrev pub HasUnknownKind : List ℕ → Type 0
HasUnknownKind rest = (8 ≤ length rest) × (kind rest ≡ None)

-- after the last whole record there is a truncated one
abbrev pub Truncated : Lists → ℕ → Type 0
Truncated s place =
    (parts : List (List ℕ)) × (rest : List ℕ) × IsCut (section s.ctf STypes) parts rest
    × (0 < length rest) × (¬ HasUnknownKind rest) × (place ≡ length parts + 1)

-- after the last whole record there is one of unknown kind
abbrev pub BadKind : Lists → ℕ → Type 0
BadKind s place =
    (parts : List (List ℕ)) × (rest : List ℕ) × IsCut (section s.ctf STypes) parts rest
    × HasUnknownKind rest × (place ≡ length parts + 1)

abbrev pub TooMany : Lists → ℕ → Type 0
TooMany s place =
    (parts : List (List ℕ)) × (rest : List ℕ) × IsCut (section s.ctf STypes) parts rest
    × (32766 < length parts) × (place ≡ 32767)

-- there is a name at the place, and its reference names nothing
abbrev pub BadName : Lists → ℕ → Type 0
BadName s place = NameStandsAt s.ctf place × (name (tables s) (u32_at s.ctf place) ≡ None)

-- no type is at this place in a dictionary of `count` own types; number 0 stands for no type
abbrev pub IsMissingAt : ℕ → ℕ → Place → Type 0
IsMissingAt count n Nowhere = n ≢ 0
IsMissingAt count n (Own i) = count ≤ i
IsMissingAt count n (Parents i) = ⊥

-- no type has this number
abbrev pub IsMissing : Bool → ℕ → ℕ → Type 0
IsMissing child count n = IsMissingAt count n (place child n)

-- the record spells a type that refers to a missing one
abbrev pub NamesMissing : Tables → Bool → ℕ → List ℕ → Type 0
NamesMissing t child count b =
    (x : Term) × Spells t b x × Any (IsMissing child count) (references x.body)

-- the record refers to a missing type, or has the mark of the long form in a field for a type or a
-- declared kind
abbrev pub Misnames : Tables → Bool → ℕ → List ℕ → Type 0
Misnames t child count b = HasStrayMark b ⊎ NamesMissing t child count b

-- record number `place` of the section does so
abbrev pub BadReference : Lists → ℕ → Type 0
BadReference s place =
    (r : RecordOf (section s.ctf STypes)) × (place ≡ length r.front + 1)
    × Misnames (tables s) (is_child (fields s.ctf)) (length (r.front ++ r.part ∷ r.back)) r.part

-- a chain of too many steps begins at type number `place` of the section
abbrev pub IsDeepBy : (Body → List ℕ) → Lists → ℕ → Type 0
IsDeepBy steps s place =
    (types : List Term) × Section (tables s) (section s.ctf STypes) types
    × (i : ℕ) × BeginsChain steps (is_child (fields s.ctf)) types (longest_chain + 1) i
    × (place ≡ i + 1)

-- values nest in values too deeply
abbrev pub ValueDeep : Lists → ℕ → Type 0
ValueDeep s place = IsDeepBy by_value s place

-- a declaration nests too deeply
abbrev pub DeclDeep : Lists → ℕ → Type 0
DeclDeep s place = IsDeepBy declarator s place

-- the entry begins inside its section, and either exceeds the section or has another kind than
-- function
abbrev pub IsBadEntry : List ℕ → Type 0
IsBadEntry b =
    (0 < length b) × ((length b < entry_len b) ⊎ ((is_silent b ≡ false) × (kind_number b ≢ 5)))

-- the entry of the function with symbol number `place` is bad
abbrev pub BadFuncs : Lists → ℕ → Type 0
BadFuncs s place = Any (λ site. (site.number ≡ place) × IsBadEntry site.left) (function_sites s)

-- the entry refers to a missing own type
abbrev pub TellsMissing : Bool → ℕ → Entry → Type 0
TellsMissing child count e = Any (IsMissing child count) (types_named e.info)

-- the entry of symbol number `place` refers to a missing type
abbrev pub BadSymbolType : Lists → ℕ → Type 0
BadSymbolType s place =
    (parts : List (List ℕ)) × (rest : List ℕ) × IsCut (section s.ctf STypes) parts rest
    × (es : List Entry)
    × AreEntries (symbols s) (section s.ctf SObjects) (section s.ctf SFunctions) es
    × Any (λ e. (e.number ≡ place) × TellsMissing (is_child (fields s.ctf)) (length parts) e) es

-- the symbol table ends in the middle of a symbol
abbrev pub BadSymtab : Lists → ℕ → Type 0
BadSymtab s place = (place ≡ 0) × (0 < length (unwrap_or s.sym []) % 24)

-- ---- the first fault

-- rule number 0 does not exist
abbrev pub Never : Lists → ℕ → Type 0
Never s place = ⊥

-- the rules, indexed by number
abbrev pub rules_by_number : List (Lists → ℕ → Type 0)
rules_by_number =
    Never ∷ TooShort ∷ BadMagic ∷ BadVersion ∷ IsCompressed ∷ ShortHeader ∷ BadOrder ∷ BadAlign
    ∷ PastEnd ∷ BadStrings ∷ Truncated ∷ BadKind ∷ TooMany ∷ BadName ∷ BadReference ∷ ValueDeep
    ∷ DeclDeep ∷ BadFuncs ∷ BadSymbolType ∷ BadSymtab ∷ []

-- rule `number` is broken at the place
abbrev pub IsBroken : Lists → ℕ → ℕ → Type 0
IsBroken s number place = slice_index_or rules_by_number number Never s place

-- no rule with a lower number is broken anywhere
abbrev pub Keeps : Lists → ℕ → Type 0
Keeps s number = (rule : ℕ) → rule < number → (place : ℕ) → IsBroken s rule place → ⊥

-- the least broken rule, at its least place
pub record IsFirstFault (s : Lists) (f : Fault) : Type 0 where
  pub broken : IsBroken s f.code f.place
  pub earlier : Keeps s f.code
  pub least : (place : ℕ) → place < f.place → IsBroken s f.code place → ⊥
