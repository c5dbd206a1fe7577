-- The written bytes of a dictionary denote it.
use Rattle.std.proofs.Common.{◌≡◌, ℕ, ◌+◌, ◌-◌, ◌*◌, ◌/◌, ◌%◌, ◌^◌, ◌<◌, ◌≤◌, Bool, true, false, cond, eqb, ltb, List, [], ◌∷◌, ◌++◌, length, map, drop, Option, Some, None, Result, Ok, refl, sym, ap, subst, ◌∙◌, arith}
use Rattle.std.specs.Prelude.{not}
use Rattle.std.specs.List.{AllByRecursion, flat_map}
use Rattle.std.proofs.lemmas.Bool.{ne_eqb, ltb-false, le-ltb}
use Rattle.std.proofs.lemmas.List.{length-append, drop-drop}
use Rattle.ctf_model.specs.format.Bytes.{number, u32_at}
use Rattle.ctf_model.specs.rules.Chains.{by_value, declarator, edges}
use Rattle.ctf_model.specs.format.Dictionary.{Dictionary, Label, Denotes, AreLabels}
use Rattle.ctf_model.specs.rules.Faults.{Site, first_fault, first_broken, first_nameless, first_deep, or_later, rules, on_ctf, header_rules, cut_record, bad_kind, too_many, bad_name, bad_reference, value_deep, decl_deep, bad_funcs, bad_symbol_type, bad_symtab, edges_by, first_misnaming, types, sites, label_sites, record_sites, walk_fault, place_of}
use Rattle.ctf_model.specs.format.Header.{Fields, fields, is_child, section}
use Rattle.ctf_model.specs.format.Lists.{Lists, tables}
use Rattle.ctf_model.specs.format.Name.{Tables, name}
use Rattle.ctf_model.specs.format.Term.{Member, Enumerator, Body, Term}
use Rattle.ctf_model.specs.format.Term as term
use Rattle.ctf_model.specs.declared.faults.Fault.{Fault}
use Rattle.ctf_model.specs.format.Laws.{pieces}
use Rattle.ctf_model.specs.format.Section.{Section, Piece, IsCut, terms_in}
use Rattle.ctf_model.specs.symbols.Entries.{AreEntries, entries, entries_of, function_sites, function_sites_of}
use Rattle.ctf_model.specs.symbols.Symbols.{symbols, symbols_in}
use Rattle.ctf_model.specs.declared.sections.Section.TheVariants.{SFunctions, SLabels, SObjects, STypes}
use Rattle.ctf_model.proofs.RecordRules.{types_cut}
use Rattle.ctf_model.proofs.Alls.{all_joined, all_split}
use Rattle.ctf_model.proofs.Anywhere.{all_map}
use Rattle.ctf_model.proofs.Spelled.{IsNamed, AreNamed}
use Rattle.ctf_model.specs.drafts.Fitting.{IsName, Fits, FitsBody, FitsLabel, FitsMember, FitsEnumerator}
use Rattle.ctf_model.specs.writing.WritingLaws.{IsFound, IsKept, NamesShort, table_of}
use Rattle.ctf_model.specs.writing.WrittenNames.{used_names, strings_of, string_bytes, name_reference, is_empty, names_of, listed_names}
use Rattle.ctf_model.specs.writing.Written.{bytes_of, bytes_unless, deep_by, label_bytes, labels_written, lists_of, records_written, unwritten, written}
use Rattle.ctf_model.specs.writing.WrittenRecords.{record_bytes, u32}
use Rattle.ctf_model.proofs.FoundAgain.{found}
use Rattle.ctf_model.proofs.WrittenHeads.{number_u32}
use Rattle.ctf_model.proofs.KeptNames.{all_flat, all_kept, kept_of}
use Rattle.ctf_model.proofs.WrittenParts.{IsLaid, laid, header_kept}
use Rattle.ctf_model.proofs.WrittenPieces.{AreRecorded, NamesNone, section_of, cut_of, no_walk_fault, pieces_len, pieces_terms, pieces_named, pieces_refer}
use Rattle.ctf_model.proofs.RecordedTypes.{recorded}
use Rattle.ctf_model.proofs.NamedSites.{joined_named, is_there}

-- a dictionary that can be written: its parts fit the format, and the types that it refers to exist
pub record IsWritable (d : Dictionary) : Type 0 where
  pub child : d.child ≡ not (is_empty d.parname)
  pub parname : IsName d.parname
  pub parlabel : IsName d.parlabel
  pub labels : AllByRecursion FitsLabel d.labels
  pub count : length d.terms ≤ 32766
  pub terms : AllByRecursion Fits d.terms
  pub missing : AllByRecursion (NamesNone d.child (length d.terms)) d.terms
  pub short : AllByRecursion NamesShort d.terms
  -- it has no symbols
  pub symbols : d.symbols ≡ []
  pub entries : d.entries ≡ []

-- ---- successful writing

record IsWrittenOut (d : Dictionary) (bytes : List ℕ) : Type 0 where
  same : bytes_of d ≡ bytes
  small : length (bytes_of d) ≤ 67108864
  value : deep_by by_value d ≡ None
  declared : deep_by declarator d ≡ None

written_out : (d : Dictionary) (bytes : List ℕ) → written d ≡ Ok bytes → IsWrittenOut d bytes
unfolding written unwritten
written_out d bytes e = at (deep_by by_value d) refl (deep_by declarator d) refl (ltb 67108864 (length (bytes_of d))) refl e
  where
    at : (v : Option ℕ) → deep_by by_value d ≡ v → (w : Option ℕ) → deep_by declarator d ≡ w → (b : Bool) → ltb 67108864 (length (bytes_of d)) ≡ b
        → bytes_unless (or_later 15 v (or_later 16 w (or_later 47 (cond b (Some 0) None) None))) (bytes_of d) ≡ Ok bytes → IsWrittenOut d bytes
    at (Some p) f w g b h e = absurd cc
    at None f (Some p) g b h e = absurd cc
    at None f None g true h e = absurd cc
    at None f None g false h e = record { same = cc; small = ltb-false 67108864 (length (bytes_of d)) h; value = f; declared = g }

-- ---- names

member_names : (size : ℕ) (ms : List Member) → AllByRecursion (FitsMember size) ms → AllByRecursion IsName (map (λ m. m.name) ms)
member_names size [] h = tt
member_names size (m ∷ ms) h = (h.0.name, member_names size ms h.1)

enumerator_names : (es : List Enumerator) → AllByRecursion FitsEnumerator es → AllByRecursion IsName (map (λ e. e.name) es)
enumerator_names [] h = tt
enumerator_names (e ∷ es) h = (h.0.name, enumerator_names es h.1)

body_names : (x : Body) → FitsBody x → AllByRecursion IsName (listed_names x)
body_names term.unknown h = tt
body_names (term.integer s) h = tt
body_names (term.float s) h = tt
body_names (term.pointer t) h = tt
body_names (term.array e) h = tt
body_names (term.function ret args) h = tt
body_names (term.struct size ms) h = member_names size ms h.each
body_names (term.union size ms) h = member_names size ms h.each
body_names (term.enum size es) h = enumerator_names es h.each
body_names (term.forward tag) h = tt
body_names (term.typedef t) h = tt
body_names (term.volatile t) h = tt
body_names (term.const t) h = tt
body_names (term.restrict t) h = tt

term_names : (xs : List Term) → AllByRecursion Fits xs → AllByRecursion IsName (flat_map names_of xs)
term_names [] h = tt
term_names (x ∷ xs) h = all_joined IsName (names_of x) (flat_map names_of xs) (h.0.name, body_names x.body h.0.body) (term_names xs h.1)

label_names : (labels : List Label) → AllByRecursion FitsLabel labels → AllByRecursion IsName (map (λ label. label.name) labels)
label_names [] h = tt
label_names (label ∷ labels) h = (h.0.name, label_names labels h.1)

-- every name that a dictionary uses is found in its strings
record AllFound (d : Dictionary) : Type 0 where
  parlabel : IsFound (strings_of d) d.parlabel
  parname : IsFound (strings_of d) d.parname
  labels : AllByRecursion (IsFound (strings_of d)) (map (λ label. label.name) d.labels)
  terms : AllByRecursion (λ x. AllByRecursion (IsFound (strings_of d)) (names_of x)) d.terms

all_found : (d : Dictionary) → IsWritable d → length (string_bytes (strings_of d)) < 2 ^ 31 → AllFound d
unfolding strings_of used_names
all_found d ok low =
    let used : AllByRecursion IsName (used_names d) = (ok.parlabel, (ok.parname, all_joined IsName (map (λ label. label.name) d.labels) (flat_map names_of d.terms) (label_names d.labels ok.labels) (term_names d.terms ok.terms))) in
    let good = all_kept IsName (used_names d) used in
    let all = all_map (IsKept (strings_of d)) (IsFound (strings_of d)) (λ t k. found (strings_of d) t good k low) (used_names d) (kept_of (used_names d)) in
    let parts = all_split (IsFound (strings_of d)) (map (λ label. label.name) d.labels) (flat_map names_of d.terms) all.1.1 in
    record { parlabel = all.0; parname = all.1.0; labels = parts.0; terms = all_flat (IsFound (strings_of d)) names_of d.terms parts.1 }

-- ---- labels

labels_len : (names : List (List ℕ)) (labels : List Label) → length (flat_map (label_bytes names) labels) ≡ 8 * length labels
labels_len names [] = refl
labels_len names (label ∷ labels) = let more = labels_len names labels in omega arith

labels_are : (names : List (List ℕ)) (labels : List Label) → AllByRecursion FitsLabel labels → AllByRecursion (IsFound names) (map (λ label. label.name) labels) → AreLabels (table_of names) (flat_map (label_bytes names) labels) labels
labels_are names [] h f = omega arith
labels_are names (label ∷ labels) h f =
    let low = f.0.low in
    let word : number (u32 (name_reference names label.name)) ≡ name_reference names label.name = number_u32 (name_reference names label.name) (omega arith) in
    (omega arith, ap (name (table_of names)) word ∙ f.0.found, number_u32 label.last h.0.last, labels_are names labels h.1 f.1)

labels_named : (names : List (List ℕ)) (ctf behind : List ℕ) (at : ℕ) (labels : List Label) → drop at ctf ≡ flat_map (label_bytes names) labels ++ behind → AllByRecursion (IsFound names) (map (λ label. label.name) labels)
    → AreNamed (table_of names) (label_sites ctf at (length labels))
unfolding label_sites
labels_named names ctf behind at [] e f = tt
labels_named names ctf behind at (label ∷ labels) e f =
    let low = f.0.low in
    let word : u32_at ctf at ≡ name_reference names label.name = ap (λ (b : List ℕ). u32_at b 0) e ∙ number_u32 (name_reference names label.name) (omega arith) in
    let later : drop (at + 8) ctf ≡ flat_map (label_bytes names) labels ++ behind = sym (drop-drop 8 at ctf) ∙ ap (drop 8) e in
    (is_there _ label.name (ap (name (table_of names)) word ∙ f.0.found), labels_named names ctf behind (at + 8) labels later f.1)

-- ---- rules

none_broken : {S : Type 0} (code : ℕ) (table : List (S → Option ℕ)) (s : S) → AllByRecursion (λ rule. rule s ≡ None) table → first_broken code table s ≡ None
none_broken code [] s h = refl
none_broken code (rule ∷ table) s h = rw h.0 (none_broken (code + 1) table s h.1)

-- kept rules pass on to the later ones
later_broken : {S : Type 0} (code last : ℕ) (table more : List (S → Option ℕ)) (s : S) → AllByRecursion (λ rule. rule s ≡ None) table → code + length table ≡ last → first_broken code (table ++ more) s ≡ first_broken last more s
later_broken code last [] more s h e = let same : code ≡ last = omega arith in rw same refl
later_broken code last (rule ∷ table) more s h e = rw h.0 (later_broken (code + 1) last table more s h.1 (omega arith))

none_nameless : (t : Tables) (xs : List Site) → AreNamed t xs → first_nameless t xs ≡ None
unfolding first_nameless
none_nameless t [] h = refl
none_nameless t (site ∷ more) h = at (name t site.reference) refl h.0 (none_nameless t more h.1)
  where
    at : (o : Option (List ℕ)) → name t site.reference ≡ o → IsNamed t site.reference → first_nameless t more ≡ None → first_nameless t (site ∷ more) ≡ None
    at None e named later = absurd (named e)
    at (Some x) e named later = rw e later

-- the reference to a name is 0 exactly if the name is empty
reference_zero : (names : List (List ℕ)) (t : List ℕ) → eqb (name_reference names t) 0 ≡ is_empty t
unfolding name_reference
reference_zero names t = at (is_empty t) refl
  where
    at : (b : Bool) → is_empty t ≡ b → eqb (name_reference names t) 0 ≡ is_empty t
    at true e = rw e refl
    at false e = rw e (ne_eqb _ 0 (omega arith))

-- ---- no symbols

no_symbols : (ctf : List ℕ) → symbols (lists_of ctf) ≡ []
unfolding symbols symbols_in
no_symbols ctf = refl

told_none : (d : Dictionary) (objects functions : List ℕ) → IsWritable d → AreEntries d.symbols objects functions d.entries
told_none d objects functions ok = rw (ok.symbols, ok.entries) (record { owners = refl; types = λ i low. absurd (omega (arith, low)); signatures = tt })

abbrev symbol_rules : List (Lists → Option ℕ)
symbol_rules = bad_funcs ∷ bad_symbol_type ∷ bad_symtab ∷ []

symbols_kept : (ctf : List ℕ) → AllByRecursion (λ (rule : Lists → Option ℕ). rule (lists_of ctf) ≡ None) symbol_rules
unfolding symbols symbols_in bad_funcs bad_symbol_type function_sites function_sites_of entries entries_of
symbols_kept ctf = (refl, (refl, (refl, tt)))

-- ---- the bytes of a dictionary

-- the fault of chains that are too long
abbrev unwritten_by : Option ℕ → Option ℕ → Option Fault
unwritten_by value declared = or_later 15 value (or_later 16 declared None)

-- properties of the bytes of a dictionary
record AreRead (d : Dictionary) (ctf : List ℕ) : Type 0 where
  laid : IsLaid (name_reference (strings_of d) d.parlabel) (name_reference (strings_of d) d.parname) ctf (labels_written d) (records_written d) (string_bytes (strings_of d))
  found : AllFound d
  recorded : AreRecorded (strings_of d) (record_bytes (strings_of d)) d.terms

pub each_recorded : (names : List (List ℕ)) (xs : List Term) → AllByRecursion Fits xs → AllByRecursion NamesShort xs → AllByRecursion (λ x. AllByRecursion (IsFound names) (names_of x)) xs → AreRecorded names (record_bytes names) xs
each_recorded names [] f r g = tt
each_recorded names (x ∷ xs) f r g = (recorded names x f.0 r.0 g.0, each_recorded names xs f.1 r.1 g.1)

are_read : (d : Dictionary) → IsWritable d → length (bytes_of d) ≤ 67108864 → AreRead d (bytes_of d)
unfolding bytes_of
are_read d ok small =
    let names = strings_of d in
    let ls = labels_written d in
    let rs = records_written d in
    let ss = string_bytes (strings_of d) in
    let joined = length-append (labels_written d) (records_written d ++ string_bytes (strings_of d)) in
    let behind = length-append (records_written d) (string_bytes (strings_of d)) in
    let all = all_found d ok (omega arith) in
    let low = all.parlabel.low in
    let low_name = all.parname.low in
    record {
      laid = laid (name_reference names d.parlabel) (name_reference names d.parname) ls rs ss (omega arith) (omega arith) (omega arith);
      found = all;
      recorded = each_recorded names d.terms ok.terms ok.short all.terms;
    }

module _ (d : Dictionary) (ctf : List ℕ) (ok : IsWritable d) (read : AreRead d ctf) where
  names : List (List ℕ)
  names = strings_of d

  write : Term → List ℕ
  write = record_bytes (strings_of d)

  tables_are : tables (lists_of ctf) ≡ table_of (strings_of d)
  tables_are = ap (λ (b : List ℕ). record { internal = b; elf = None }) read.laid.strings

  child_is : is_child (fields ctf) ≡ d.child
  child_is = ap is_child read.laid.fields ∙ ap not (reference_zero (strings_of d) d.parname) ∙ sym ok.child

  types_are : types ctf ≡ pieces 1 0 (map (record_bytes (strings_of d)) d.terms) []
  unfolding records_written
  types_are = types_cut ctf (map (record_bytes (strings_of d)) d.terms) [] (subst (λ (b : List ℕ). IsCut b (map (record_bytes (strings_of d)) d.terms) []) (sym read.laid.types) (cut_of (strings_of d) (record_bytes (strings_of d)) d.terms read.recorded))

  count_is : length (types ctf) ≡ length d.terms
  count_is = ap (λ (ps : List (Result Piece Fault)). length ps) types_are ∙ pieces_len (record_bytes (strings_of d)) d.terms 1 0

  terms_are : terms_in (tables (lists_of ctf)) (types ctf) ≡ d.terms
  terms_are = ap (λ (t : Tables). terms_in t (types ctf)) tables_are ∙ ap (terms_in (table_of (strings_of d))) types_are ∙ pieces_terms (strings_of d) (record_bytes (strings_of d)) d.terms 1 0 read.recorded

  labels_count : (length (labels_written d) - 0) / 8 ≡ length d.labels
  unfolding labels_written
  labels_count = let len = labels_len (strings_of d) d.labels in omega arith

  words : length (labels_written d) % 4 ≡ 0
  unfolding labels_written
  words = let len = labels_len (strings_of d) d.labels in omega arith

  label_sites_named : AreNamed (table_of (strings_of d)) (label_sites ctf (36 + 0) ((length (labels_written d) - 0) / 8))
  unfolding labels_written
  label_sites_named = subst (λ (n : ℕ). AreNamed (table_of (strings_of d)) (label_sites ctf 36 n)) (sym labels_count) (labels_named (strings_of d) ctf (records_written d ++ string_bytes (strings_of d)) 36 d.labels read.laid.behind_header read.found.labels)

  record_sites_named : (start : ℕ) → AreNamed (table_of (strings_of d)) (record_sites start (types ctf))
  record_sites_named start = subst (λ (ps : List (Result Piece Fault)). AreNamed (table_of (strings_of d)) (record_sites start ps)) (sym types_are) (pieces_named (strings_of d) (record_bytes (strings_of d)) d.terms start 1 0 read.recorded)

  sites_named : AreNamed (table_of (strings_of d)) (sites ctf)
  unfolding sites
  sites_named = subst (λ (f : Fields). AreNamed (table_of (strings_of d)) (record { place = 4; reference = f.parlabel } ∷ record { place = 8; reference = f.parname } ∷ (label_sites ctf (36 + f.lbloff) ((f.objtoff - f.lbloff) / 8) ++ record_sites (36 + f.typeoff) (types ctf))))
      (sym read.laid.fields)
      (is_there _ d.parlabel read.found.parlabel.found, (is_there _ d.parname read.found.parname.found, joined_named (table_of (strings_of d)) _ _ label_sites_named (record_sites_named _)))

  deep_is : (steps : Body → List ℕ) → first_deep (edges_by steps (lists_of ctf)) 0 (length (types ctf)) ≡ deep_by steps d
  unfolding edges_by
  deep_is steps =
      ap (λ (n : ℕ). first_deep (edges steps (is_child (fields ctf)) (terms_in (tables (lists_of ctf)) (types ctf))) 0 n) count_is
      ∙ ap (λ (c : Bool). first_deep (edges steps c (terms_in (tables (lists_of ctf)) (types ctf))) 0 (length d.terms)) child_is
      ∙ ap (λ (xs : List Term). first_deep (edges steps d.child xs) 0 (length d.terms)) terms_are

  no_fault_in_walk : walk_fault (types ctf) ≡ None
  no_fault_in_walk = ap (λ (ps : List (Result Piece Fault)). walk_fault ps) types_are ∙ no_walk_fault (record_bytes (strings_of d)) d.terms 1 0

  few_kept : too_many (lists_of ctf) ≡ None
  few_kept =
      let few : ltb 32766 (length d.terms) ≡ false = le-ltb 32766 (length d.terms) ok.count in
      ap (λ (n : ℕ). cond (ltb 32766 n) (Some 32767) None) count_is ∙ (rw few refl)

  names_kept : bad_name (lists_of ctf) ≡ None
  unfolding bad_name
  names_kept = ap (λ (t : Tables). first_nameless t (sites ctf)) tables_are ∙ none_nameless (table_of (strings_of d)) (sites ctf) sites_named

  references_kept : bad_reference (lists_of ctf) ≡ None
  unfolding bad_reference
  references_kept =
      ap (λ (t : Tables). first_misnaming t (is_child (fields ctf)) (length (types ctf)) (types ctf)) tables_are
      ∙ ap (λ (c : Bool). first_misnaming (table_of (strings_of d)) c (length (types ctf)) (types ctf)) child_is
      ∙ ap (λ (n : ℕ). first_misnaming (table_of (strings_of d)) d.child n (types ctf)) count_is
      ∙ ap (λ (ps : List (Result Piece Fault)). first_misnaming (table_of (strings_of d)) d.child (length d.terms) ps) types_are
      ∙ pieces_refer (strings_of d) (record_bytes (strings_of d)) d.child (length d.terms) d.terms 1 0 read.recorded ok.missing

  fault_is : first_fault (lists_of ctf) ≡ unwritten_by (deep_by by_value d) (deep_by declarator d)
  unfolding first_fault rules
  fault_is =
      later_broken 1 15 (map on_ctf header_rules ++ cut_record ∷ bad_kind ∷ too_many ∷ bad_name ∷ bad_reference ∷ []) (value_deep ∷ decl_deep ∷ bad_funcs ∷ bad_symbol_type ∷ bad_symtab ∷ []) (lists_of ctf)
      (all_joined (λ (rule : Lists → Option ℕ). rule (lists_of ctf) ≡ None) (map on_ctf header_rules) (cut_record ∷ bad_kind ∷ too_many ∷ bad_name ∷ bad_reference ∷ [])
      (header_kept _ _ ctf (labels_written d) (records_written d) (string_bytes (strings_of d)) read.laid refl words)
      (ap (place_of 10) no_fault_in_walk, (ap (place_of 11) no_fault_in_walk, (few_kept, (names_kept, (references_kept, tt))))))
      refl
      ∙ ap (λ (f : Option Fault). or_later 15 (value_deep (lists_of ctf)) (or_later 16 (decl_deep (lists_of ctf)) f)) (none_broken 17 symbol_rules (lists_of ctf) (symbols_kept ctf))
      ∙ ap (λ (v : Option ℕ). or_later 15 v (or_later 16 (decl_deep (lists_of ctf)) None)) (deep_is by_value)
      ∙ ap (λ (v : Option ℕ). or_later 15 (deep_by by_value d) (or_later 16 v None)) (deep_is declarator)

  faultless : deep_by by_value d ≡ None → deep_by declarator d ≡ None → first_fault (lists_of ctf) ≡ None
  unfolding first_fault rules
  faultless value declared =
      none_broken 1 rules (lists_of ctf) (all_joined (λ (rule : Lists → Option ℕ). rule (lists_of ctf) ≡ None) (map on_ctf header_rules) (cut_record ∷ bad_kind ∷ too_many ∷ bad_name ∷ bad_reference ∷ value_deep ∷ decl_deep ∷ symbol_rules)
      (header_kept _ _ ctf (labels_written d) (records_written d) (string_bytes (strings_of d)) read.laid refl words)
      (ap (place_of 10) no_fault_in_walk, (ap (place_of 11) no_fault_in_walk, (few_kept, (names_kept, (references_kept, (deep_is by_value ∙ value, (deep_is declarator ∙ declared, symbols_kept ctf))))))))

  denoted_by : deep_by by_value d ≡ None → deep_by declarator d ≡ None → Denotes (lists_of ctf) d
  unfolding labels_written records_written
  denoted_by value declared = record {
    faultless = faultless value declared;
    child = sym child_is;
    parname = ap (λ (t : Tables). name t (fields ctf).parname) tables_are ∙ ap (λ (f : Fields). name (table_of (strings_of d)) f.parname) read.laid.fields ∙ read.found.parname.found;
    parlabel = ap (λ (t : Tables). name t (fields ctf).parlabel) tables_are ∙ ap (λ (f : Fields). name (table_of (strings_of d)) f.parlabel) read.laid.fields ∙ read.found.parlabel.found;
    labels = subst (λ (t : Tables). AreLabels t (section ctf SLabels) d.labels) (sym tables_are) (subst (λ (b : List ℕ). AreLabels (table_of (strings_of d)) b d.labels) (sym read.laid.labels) (labels_are (strings_of d) d.labels ok.labels read.found.labels));
    symbols = ok.symbols ∙ sym (no_symbols ctf);
    entries = told_none d (section ctf SObjects) (section ctf SFunctions) ok;
    terms = subst (λ (t : Tables). Section t (section ctf STypes) d.terms) (sym tables_are) (subst (λ (b : List ℕ). Section (table_of (strings_of d)) b d.terms) (sym read.laid.types) (section_of (strings_of d) (record_bytes (strings_of d)) d.terms read.recorded));
  }

pub whole : (d : Dictionary) (bytes : List ℕ) → IsWritable d → written d ≡ Ok bytes → Denotes (lists_of bytes) d
whole d bytes ok e =
    let out = written_out d bytes e in
    subst (λ (b : List ℕ). Denotes (lists_of b) d) out.same (denoted_by d (bytes_of d) ok (are_read d ok out.small) out.value out.declared)

pub alike : (d : Dictionary) → IsWritable d → length (bytes_of d) ≤ 67108864 → first_fault (lists_of (bytes_of d)) ≡ unwritten d
unfolding unwritten
alike d ok small =
    let few : ltb 67108864 (length (bytes_of d)) ≡ false = le-ltb 67108864 (length (bytes_of d)) small in
    rw few (fault_is d (bytes_of d) ok (are_read d ok small))
