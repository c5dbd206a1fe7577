-- The first fault of a dictionary: a table of rules, each giving the least place where it is
-- broken, or none. The rules are ours, over the layout of ctf(5); Rules.antt states them as facts.
use Rattle.std.specs.Prelude.{ℕ, zero, suc, ◌+◌, ◌-◌, ◌/◌, ◌%◌, ◌++◌, Result, Ok, Err, is_none, ◌==◌, ◌||◌, ◌&&◌, not, nat_lt, Bool, List, [], ◌∷◌, length, map, drop, slice_index, Option, Some, None, unwrap_or, if◌then◌else◌}
use Rattle.std.specs.List.{list_any}
use Rattle.ctf_model.specs.format.Bytes.{u16_at, u32_at}
use Rattle.ctf_model.specs.rules.Chains.{by_value, declarator, edges, longest_chain, within}
use Rattle.ctf_model.specs.symbols.Entries.{Entry, entries, function_sites, is_bad_entry, types_named}
use Rattle.ctf_model.specs.format.Header.{Fields, fields, is_child, section}
use Rattle.ctf_model.specs.format.Lists.{Lists, tables}
use Rattle.ctf_model.specs.format.Name.{Tables, name}
use Rattle.ctf_model.specs.format.Record.{kind, size, vlen, head_len, member_len, behind_head}
use Rattle.ctf_model.specs.rules.References.{is_missing, is_misnaming}
use Rattle.ctf_model.specs.format.Section.{Piece, records, terms_in}
use Rattle.ctf_model.specs.format.Term.{Body}
use Rattle.ctf_model.specs.declared.faults.Fault.{Fault}
use Rattle.ctf_model.specs.declared.faults.TheConstants.Fault.{TRUNCATED, BAD_KIND}
use Rattle.ctf_model.specs.declared.kinds.Kind.{Kind}
use Rattle.ctf_model.specs.declared.kinds.Kind.TheVariants.{KStruct, KUnion, KEnum}
use Rattle.ctf_model.specs.declared.sections.Section.TheVariants.{STypes}

-- a rule without a place
abbrev pub if_broken : Bool → Option ℕ
if_broken broken = if broken then Some 0 else None

-- ---- the header

-- fewer than 4 bytes
abbrev pub too_short : List ℕ → Option ℕ
too_short ctf = if_broken (nat_lt (length ctf) 4)

-- no CTF_MAGIC at the front
abbrev pub bad_magic : List ℕ → Option ℕ
bad_magic ctf = if_broken (not (u16_at ctf 0 == 0xcff1))

-- not CTF_VERSION_2
abbrev pub bad_version : List ℕ → Option ℕ
bad_version ctf = if_broken (not (slice_index ctf 2 == 2))

-- the flag CTF_F_COMPRESS
abbrev pub compression : List ℕ → Option ℕ
compression ctf = if_broken (slice_index ctf 3 % 2 == 1)

-- fewer bytes than a header has
abbrev pub short_header : List ℕ → Option ℕ
short_header ctf = if_broken (nat_lt (length ctf) 36)

-- a section begins before the previous one
abbrev pub is_out_of_order : Fields → Bool
is_out_of_order h =
    nat_lt h.objtoff h.lbloff || nat_lt h.funcoff h.objtoff || nat_lt h.typeoff h.funcoff
    || nat_lt h.stroff h.typeoff

abbrev pub bad_order : List ℕ → Option ℕ
bad_order ctf = if_broken (is_out_of_order (fields ctf))

-- labels and types begin at multiples of 4, objects and functions at multiples of 2
abbrev pub is_misaligned : Fields → Bool
is_misaligned h =
    nat_lt 0 (h.lbloff % 4) || nat_lt 0 (h.objtoff % 2) || nat_lt 0 (h.funcoff % 2)
    || nat_lt 0 (h.typeoff % 4)

abbrev pub bad_align : List ℕ → Option ℕ
bad_align ctf = if_broken (is_misaligned (fields ctf))

-- the strings run past the end
abbrev pub past_end : List ℕ → Option ℕ
past_end ctf = if_broken (nat_lt (length ctf) (36 + (fields ctf).stroff + (fields ctf).strlen))

-- there are strings, and they don't begin with a zero byte
abbrev pub bad_strings : List ℕ → Option ℕ
bad_strings ctf =
    if_broken (nat_lt 0 (fields ctf).strlen
    && not (slice_index ctf (36 + (fields ctf).stroff) == 0))

-- ---- the records

-- the fault at which reading record by record stops
abbrev pub walk_fault : List (Result Piece Fault) → Option Fault
walk_fault [] = None
walk_fault (Ok p ∷ rest) = walk_fault rest
walk_fault (Err f ∷ rest) = Some f

-- the records of the type section
unfoldable pub types : List ℕ → List (Result Piece Fault)
types ctf = records (section ctf STypes)

-- the place of the fault, if it has this code
abbrev pub place_of : ℕ → Option Fault → Option ℕ
place_of code None = None
place_of code (Some f) = if f.code == code then Some f.place else None

-- a record is truncated
abbrev pub cut_record : Lists → Option ℕ
cut_record s = place_of TRUNCATED (walk_fault (types s.ctf))

-- a record has an unknown kind
abbrev pub bad_kind : Lists → Option ℕ
bad_kind s = place_of BAD_KIND (walk_fault (types s.ctf))

-- more records than 32,766 (ours: a child's last number would be the mark of the long form)
abbrev pub too_many : Lists → Option ℕ
too_many s = if nat_lt 32766 (length (types s.ctf)) then Some 32767 else None

-- ---- names

-- a name reference, with the byte offset at which it stands
pub record Site : Type 0 where
  pub place : ℕ
  pub reference : ℕ

-- the place of the first of these sites whose reference names nothing
unfoldable pub first_nameless : Tables → List Site → Option ℕ
first_nameless t [] = None
first_nameless t (site ∷ sites) =
    if is_none (name t site.reference) then Some site.place else first_nameless t sites

-- the sites of `n` labels from `at` on: a label has 8 bytes and begins with its name
unfoldable pub label_sites : List ℕ → ℕ → ℕ → List Site
label_sites ctf at zero = []
label_sites ctf at (suc n) =
    record { place = at; reference = u32_at ctf at } ∷ label_sites ctf (at + 8) n

-- the sites of `n` items of `len` bytes each, which begin with their names
unfoldable pub item_sites : ℕ → ℕ → ℕ → List ℕ → List Site
item_sites place len zero b = []
item_sites place len (suc n) b =
    record { place = place; reference = u32_at b 0 } ∷ item_sites (place + len) len n (drop len b)

-- the sites in the list of a record: names of members or enumerators
abbrev pub list_sites : ℕ → List ℕ → Option Kind → List Site
list_sites place b (Some KStruct) =
    item_sites (place + head_len b) (member_len (size b)) (vlen b) (behind_head b)
list_sites place b (Some KUnion) =
    item_sites (place + head_len b) (member_len (size b)) (vlen b) (behind_head b)
list_sites place b (Some KEnum) = item_sites (place + head_len b) 8 (vlen b) (behind_head b)
list_sites place b _ = []

-- the sites of records in a section that begins at `start`: a record begins with its name
unfoldable pub record_sites : ℕ → List (Result Piece Fault) → List Site
record_sites start [] = []
record_sites start (Ok p ∷ rest) =
    record { place = start + p.at; reference = u32_at p.bytes 0 }
    ∷ (list_sites (start + p.at) p.bytes (kind p.bytes) ++ record_sites start rest)
record_sites start (Err f ∷ rest) = []

-- every name reference in ascending place: in the header, the labels, and the records with their
-- lists
unfoldable pub sites : List ℕ → List Site
sites ctf =
    let h = fields ctf in
    record { place = 4; reference = h.parlabel } ∷ record { place = 8; reference = h.parname }
    ∷ (label_sites ctf (36 + h.lbloff) ((h.objtoff - h.lbloff) / 8)
    ++ record_sites (36 + h.typeoff) (types ctf))

-- a reference names nothing
unfoldable pub bad_name : Lists → Option ℕ
bad_name s = first_nameless (tables s) (sites s.ctf)

-- ---- references and chains

-- the number of the first record that refers to a missing type
unfoldable pub first_misnaming : Tables → Bool → ℕ → List (Result Piece Fault) → Option ℕ
first_misnaming t child count [] = None
first_misnaming t child count (Ok p ∷ rest) =
    if is_misnaming t child count p.bytes then Some p.index else first_misnaming t child count rest
first_misnaming t child count (Err f ∷ rest) = None

-- a record refers to a missing type
unfoldable pub bad_reference : Lists → Option ℕ
bad_reference s =
    first_misnaming (tables s) (is_child (fields s.ctf)) (length (types s.ctf)) (types s.ctf)

-- the number of the first of `n` types, from index `i` on, with a chain that is too long
unfoldable pub first_deep : List (List ℕ) → ℕ → ℕ → Option ℕ
first_deep es i zero = None
first_deep es i (suc n) =
    if within es longest_chain i then first_deep es (i + 1) n else Some (i + 1)

-- for each type, the own types that it leads to by these steps
unfoldable pub edges_by : (Body → List ℕ) → Lists → List (List ℕ)
edges_by steps s = edges steps (is_child (fields s.ctf)) (terms_in (tables s) (types s.ctf))

-- values nest in values too deeply
abbrev pub value_deep : Lists → Option ℕ
value_deep s = first_deep (edges_by by_value s) 0 (length (types s.ctf))

-- a declaration nests too deeply
abbrev pub decl_deep : Lists → Option ℕ
decl_deep s = first_deep (edges_by declarator s) 0 (length (types s.ctf))

-- ---- symbols

-- the place of the first item that passes the test
abbrev pub first_where : {X : Type 0} → (X → Bool) → (X → ℕ) → List X → Option ℕ
first_where test place [] = None
first_where test place (x ∷ xs) = if test x then Some (place x) else first_where test place xs

-- a function's entry is bad
unfoldable pub bad_funcs : Lists → Option ℕ
bad_funcs s = first_where (λ site. is_bad_entry site.left) (λ site. site.number) (function_sites s)

-- the entry refers to a missing own type
abbrev pub tells_missing : Bool → ℕ → Entry → Bool
tells_missing child count e = list_any (is_missing child count) (types_named e.info)

-- a symbol's entry refers to a missing type
unfoldable pub bad_symbol_type : Lists → Option ℕ
bad_symbol_type s =
    first_where (tells_missing (is_child (fields s.ctf)) (length (types s.ctf)))
    (λ e. e.number) (entries s)

-- a symbol is truncated
abbrev pub bad_symtab : Lists → Option ℕ
bad_symtab s = if_broken (nat_lt 0 (length (unwrap_or s.sym []) % 24))

-- ---- the table

-- the rules of the header, numbered from 1
abbrev pub header_rules : List (List ℕ → Option ℕ)
header_rules =
    too_short ∷ bad_magic ∷ bad_version ∷ compression ∷ short_header ∷ bad_order ∷ bad_align
    ∷ past_end ∷ bad_strings ∷ []

abbrev pub on_ctf : (List ℕ → Option ℕ) → Lists → Option ℕ
on_ctf rule s = rule s.ctf

-- all rules, numbered from 1
unfoldable pub rules : List (Lists → Option ℕ)
rules =
    map on_ctf header_rules ++ cut_record ∷ bad_kind ∷ too_many ∷ bad_name ∷ bad_reference
    ∷ value_deep ∷ decl_deep ∷ bad_funcs ∷ bad_symbol_type ∷ bad_symtab ∷ []

-- a fault at the place if there is one, else the later fault
abbrev pub or_later : ℕ → Option ℕ → Option Fault → Option Fault
or_later code None later = later
or_later code (Some place) later = Some (record { code = code; place = place })

-- the first broken rule, at its least place; the rules have the codes from `code` on
abbrev pub first_broken : {S : Type 0} → ℕ → List (S → Option ℕ) → S → Option Fault
first_broken code [] s = None
first_broken code (rule ∷ rules) s = or_later code (rule s) (first_broken (code + 1) rules s)

-- the first fault of a header
abbrev pub header_fault : List ℕ → Option Fault
header_fault ctf = first_broken 1 header_rules ctf

-- the first fault of a dictionary
unfoldable pub first_fault : Lists → Option Fault
first_fault s = first_broken 1 rules s
