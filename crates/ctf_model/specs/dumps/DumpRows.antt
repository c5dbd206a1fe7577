-- Worked rows of dumps. The texts were worked out by hand.
use Rattle.std.specs.Prelude.{◌≡◌, ℕ, pos, negsuc, true, false, List, [], ◌∷◌, Some, None, codes}
use Rattle.std.specs.List.{concat}
use Rattle.ctf_model.specs.format.Dictionary.{Dictionary}
use Rattle.ctf_model.specs.dumps.Dump.{dump, in_quotes}
use Rattle.ctf_model.specs.symbols.Entries.{Entry, SymbolInfo}
use Rattle.ctf_model.specs.symbols.Entries as info
use Rattle.ctf_model.specs.figures.FigureRows.{array_of, by_itself, dictionary, member, bare_term}
use Rattle.ctf_model.specs.names.NameRows.{with_name}
use Rattle.ctf_model.specs.format.Term.{Term, Body}
use Rattle.ctf_model.specs.format.Term as term
use Rattle.ctf_model.specs.values.ValueRows.{enumerator}
use Rattle.ctf_model.specs.declared.data_model.DataModel.TheVariants.{Ilp32, Lp64}

-- ---- inputs

abbrev pub int : Term
int =
    with_name (codes "int") (term.integer (record { size = 4; encoding = 1; offset = 0; bits = 32 }))

abbrev pub hidden : Body → Term
hidden body = record { name = []; root = false; body = body }

-- two functions that return int, the second variadic, and int
abbrev pub functions : List Term
functions = hidden (term.function 3 (3 ∷ [])) ∷ hidden (term.function 3 (3 ∷ 0 ∷ [])) ∷ int ∷ []

-- int, and a struct with two members
abbrev pub structs : List Term
structs =
    int ∷ bare_term (term.struct 8191 (member (codes "a") 1 0 ∷ member (codes "b") 1 32 ∷ [])) ∷ []

-- int, an array of ten ints, an enum, a forward, an unknown type, a typedef, a union
abbrev pub others : List Term
others =
    int ∷ array_of 0 1 10
    ∷ with_name (codes "e")
    (term.enum 4 (enumerator (codes "A") (pos 1) ∷ enumerator (codes "B") (negsuc 1) ∷ []))
    ∷ with_name (codes "f") (term.forward term.union_tag)
    ∷ hidden term.unknown
    ∷ with_name (codes "t") (term.typedef 4)
    ∷ with_name (codes "u") (term.union 4 (member [] 1 0 ∷ []))
    ∷ []

abbrev pub pointing : Dictionary
pointing = record (dictionary true (hidden (term.pointer 3) ∷ [])) { parname = codes "p" }

abbrev pub entry : ℕ → List ℕ → SymbolInfo → Entry
entry number name x = record { number = number; name = name; info = x }

-- int, with a label and symbols; some symbols have no information
abbrev pub labelled_int : Dictionary
labelled_int = record (dictionary false (int ∷ [])) {
  labels = record { name = codes "a"; last = 5 } ∷ [];
  entries =
      entry 4 (codes "b") (info.object (Some 1)) ∷ entry 5 (codes "c") (info.object None)
      ∷ entry 6 (codes "f") (info.function (Some (record { ret = 1; args = 0 ∷ [] })))
      ∷ entry 7 (codes "g") (info.function None) ∷ [];
}

abbrev pub dump_of_terms : List Term → List ℕ
dump_of_terms types = dump (by_itself Lp64 types)

-- lines, each one including its newline
abbrev pub lines : List (List ℕ) → List ℕ
lines ls = concat ls

abbrev pub int_line : List ℕ → List ℕ
int_line n =
    concat (codes "type " ∷ n
    ∷ codes
    " integer \"int\" root size=4 encoding=1 offset=0 bits=32 : \"int\" bytes=4 align=4\n"
    ∷ [])

-- ---- dumps

pub record DumpsAre : Type 0 where
  pub empty : dump_of_terms [] ≡ codes "ctf types=0 child=no parname=\"\" parlabel=\"\"\n"
  pub integer : dump_of_terms (int ∷ [])
      ≡ lines (codes "ctf types=1 child=no parname=\"\" parlabel=\"\"\n"
      ∷ int_line (codes "1") ∷ [])
  pub of_functions : dump_of_terms functions
      ≡ lines (codes "ctf types=3 child=no parname=\"\" parlabel=\"\"\n"
      ∷ codes "type 1 function \"\" hidden return=3 args=3 : \"int ()\" bytes=0 align=8\n"
      ∷ codes "type 2 function \"\" hidden return=3 args=3,0 : \"int ()\" bytes=0 align=8\n"
      ∷ int_line (codes "3") ∷ [])
  pub of_structs : dump_of_terms structs
      ≡ lines (codes "ctf types=2 child=no parname=\"\" parlabel=\"\"\n" ∷ int_line (codes "1")
      ∷ codes "type 2 struct \"\" root size=8191 : \"struct (anon)\" bytes=8191 align=4\n"
      ∷ codes "  member \"a\" offset=0 type=1\n"
      ∷ codes "  member \"b\" offset=32 type=1\n" ∷ [])
  pub of_others : dump_of_terms others
      ≡ lines (codes "ctf types=7 child=no parname=\"\" parlabel=\"\"\n" ∷ int_line (codes "1")
      ∷ codes
      "type 2 array \"\" root contents=1 index=1 count=10 size=0 : \"int [10]\" bytes=40 align=4\n"
      ∷ codes "type 3 enum \"e\" root size=4 : \"enum e\" bytes=4 align=4\n"
      ∷ codes "  value \"A\" 1\n" ∷ codes "  value \"B\" -2\n"
      ∷ codes
      "type 4 forward \"f\" root tag=union : \"union f\" bytes=Incomplete align=Incomplete\n"
      ∷ codes "type 5 unknown \"\" hidden : \"(anon)\" bytes=Incomplete align=Incomplete\n"
      ∷ codes "type 6 typedef \"t\" root to=4 : \"t\" bytes=Incomplete align=Incomplete\n"
      ∷ codes "type 7 union \"u\" root size=4 : \"union u\" bytes=4 align=4\n"
      ∷ codes "  member \"\" offset=0 type=1\n" ∷ [])
  pub of_a_child : dump (record { own = pointing; parent = None; model = Lp64 })
      ≡ lines (codes "ctf types=1 child=yes parname=\"p\" parlabel=\"\"\n"
      ∷ codes "type 32769 pointer \"\" hidden to=3 : NoParent bytes=8 align=8\n" ∷ [])
  pub with_a_parent :
      dump (record { own = pointing; parent = Some (dictionary false functions); model = Lp64 })
      ≡ lines (codes "ctf types=1 child=yes parname=\"p\" parlabel=\"\"\n"
      ∷ codes "type 32769 pointer \"\" hidden to=3 : \"int *\" bytes=8 align=8\n" ∷ [])
  -- the data model gives the width of a pointer
  pub of_short_pointers : dump (record { own = pointing; parent = None; model = Ilp32 })
      ≡ lines (codes "ctf types=1 child=yes parname=\"p\" parlabel=\"\"\n"
      ∷ codes "type 32769 pointer \"\" hidden to=3 : NoParent bytes=4 align=4\n" ∷ [])
  pub of_symbols : dump (record { own = labelled_int; parent = None; model = Lp64 })
      ≡ lines (codes "ctf types=1 child=no parname=\"\" parlabel=\"\"\n" ∷ codes "label \"a\" 5\n"
      ∷ codes "object 4 \"b\" 1\n" ∷ codes "function 6 \"f\" return=1 args=0\n"
      ∷ int_line (codes "1") ∷ [])
  -- a quote and a byte that is no printable character
  pub of_names : in_quotes (0x22 ∷ 0x61 ∷ 0xff ∷ []) ≡ codes "\"\\x22a\\xff\""
