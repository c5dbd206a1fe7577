-- Worked rows of written bytes. The values were worked out by hand.
use Rattle.std.specs.Prelude.{◌≡◌, ℕ, ◌+◌, ◌^◌, ◌++◌, true, false, List, [], ◌∷◌, pos, negsuc, Result, Ok, Err, codes}
use Rattle.ctf_model.specs.format.Dictionary.{Dictionary}
use Rattle.ctf_model.specs.drafts.DraftChanges.{after}
use Rattle.ctf_model.specs.drafts.DraftChanges as does
use Rattle.ctf_model.specs.drafts.DraftRows.{adds, fresh_draft, in_itself, int_updated, new_int, over_two, puts}
use Rattle.ctf_model.specs.drafts.Drafts.{Draft, content}
use Rattle.ctf_model.specs.figures.FigureRows.{fault, member, bare_term}
use Rattle.ctf_model.specs.drafts.NewTypes as new
use Rattle.ctf_model.specs.format.Rows.{child, header, int_bytes, integer_record, of_types, word}
use Rattle.ctf_model.specs.format.Term.{Body, Term}
use Rattle.ctf_model.specs.format.Term as term
use Rattle.ctf_model.specs.writing.Written.{written}
use Rattle.ctf_model.specs.writing.WrittenNames.{name_reference, strings_of}
use Rattle.ctf_model.specs.writing.WrittenRecords.{record_bytes}
use Rattle.ctf_model.specs.declared.faults.Fault.{Fault}

-- ---- whole dictionaries

-- the bytes that a draft is written as
abbrev pub written_of : Draft → Result (List ℕ) Fault
written_of d = written (content d)

-- int and char, a struct `s` with a char `c` and an int `i`, and an unnamed struct with two of
-- these, `a` and `b`
abbrev pub structs : Draft
structs =
    after fresh_draft (does.adds_type new_int
    ∷ does.adds_type (record {
      name = codes "char";
      root = true;
      body = new.integer (record { size = 1; encoding = 3; offset = 0; bits = 8 });
    })
    ∷ does.adds_type (record { name = codes "s"; root = true; body = new.struct 0 })
    ∷ puts 3 (codes "c") 2 ∷ puts 3 (codes "i") 1
    ∷ adds (new.struct 0) ∷ puts 4 (codes "a") 3 ∷ puts 4 (codes "b") 3 ∷ [])

abbrev pub structs_bytes : List ℕ
structs_bytes =
    header 0 0 0 0 72 20
    ++ integer_record 1
    ++ word 5 ++ 0 ∷ 0x0c ∷ 1 ∷ 0 ∷ 8 ∷ 0 ∷ 0 ∷ 3 ∷ []
    ++ word 10 ++ 2 ∷ 0x34 ∷ 8 ∷ 0 ∷ (word 12 ++ 2 ∷ 0 ∷ 0 ∷ 0 ∷ [] ++ word 14 ++ 1 ∷ 0
    ∷ 0x20 ∷ 0 ∷ [])
    ++ word 0 ++ 2 ∷ 0x34 ∷ 0x10 ∷ 0 ∷ (word 16 ++ 3 ∷ 0 ∷ 0 ∷ 0 ∷ [] ++ word 18 ++ 3 ∷ 0
    ∷ 0x40 ∷ 0 ∷ [])
    ++ 0 ∷ (codes "int" ++ 0 ∷ [] ++ codes "char" ++ 0 ∷ [] ++ codes "s" ++ 0 ∷ [] ++ codes "c" ++ 0
    ∷ [] ++ codes "i" ++ 0 ∷ [] ++ codes "a" ++ 0 ∷ [] ++ codes "b" ++ 0 ∷ [])

-- a pointer of a child of p to the parent's first type
abbrev pub linked_bytes : List ℕ
linked_bytes = header 1 0 0 0 8 3 ++ word 0 ++ 0 ∷ 0x1c ∷ 1 ∷ 0 ∷ [] ++ 0 ∷ (codes "p" ++ 0 ∷ [])

-- strings: the parent's label, then the parent's name, then the label
abbrev pub labelled_bytes : List ℕ
labelled_bytes =
    0xf1 ∷ 0xcf ∷ 2 ∷ 0 ∷ (word 1 ++ word 3 ++ word 0 ++ word 8 ++ word 8 ++ word 8
    ++ word 8 ++ word 7)
    ++ word 5 ++ word 0x8001
    ++ 0 ∷ (codes "q" ++ 0 ∷ [] ++ codes "p" ++ 0 ∷ [] ++ codes "r" ++ 0 ∷ [])

pub record DictionariesAreWritten : Type 0 where
  pub empty : written_of fresh_draft ≡ Ok (header 0 0 0 0 0 1 ++ 0 ∷ [])
  pub one_int : written_of int_updated ≡ Ok int_bytes
  pub pending_too : written_of (after fresh_draft (does.adds_type new_int ∷ [])) ≡ Ok int_bytes
  pub structs : written_of structs ≡ Ok structs_bytes
  pub over_parent : written_of (after over_two (adds (new.pointer 1) ∷ [])) ≡ Ok linked_bytes
  pub labelled : written child ≡ Ok labelled_bytes
  pub in_itself : written_of in_itself ≡ Err (fault 15 1)
  pub values_first :
      written (of_types (bare_term (term.pointer 1) ∷ bare_term (term.typedef 2) ∷ []))
      ≡ Err (fault 15 2)
  pub pointers_in_circles :
      written (of_types (bare_term (term.pointer 0) ∷ bare_term (term.pointer 3)
      ∷ bare_term (term.pointer 2) ∷ []))
      ≡ Err (fault 16 2)

-- ---- names

-- names of labels, types, members and enumerators, some of them used twice
abbrev pub many_names : Dictionary
many_names = record {
  child = false;
  parname = [];
  parlabel = codes "b";
  labels = record { name = codes "l"; last = 1 } ∷ record { name = []; last = 2 } ∷ [];
  terms =
      record {
        name = codes "b";
        root = true;
        body = term.struct 8 (member (codes "m") 0 0 ∷ member [] 0 0 ∷ member (codes "b") 0 0 ∷ []);
      }
      ∷ record {
        name = codes "e";
        root = false;
        body = term.enum 4 (record { name = codes "m"; value = pos 0 }
            ∷ record { name = codes "A"; value = pos 0 } ∷ []);
      }
      ∷ record { name = codes "bb"; root = true; body = term.unknown }
      ∷ [];
  symbols = [];
  entries = [];
}

pub record NamesAreWritten : Type 0 where
  pub once : strings_of many_names
      ≡ codes "b" ∷ codes "l" ∷ codes "m" ∷ codes "e" ∷ codes "A" ∷ codes "bb" ∷ []
  pub empty : name_reference (strings_of many_names) [] ≡ 0
  pub first : name_reference (strings_of many_names) (codes "b") ≡ 1
  pub last : name_reference (strings_of many_names) (codes "bb") ≡ 11

-- ---- records

-- the record of a type with the names `a` and `b` in the strings, at 1 and 3
abbrev pub bytes_of_term : Term → List ℕ
bytes_of_term x = record_bytes (codes "a" ∷ codes "b" ∷ []) x

-- a hidden, nameless type
abbrev pub hidden : Body → List ℕ
hidden body = bytes_of_term (record { name = []; root = false; body = body })

-- a struct of this size with a member `b` of type 5
abbrev pub struct_of : ℕ → ℕ → List ℕ
struct_of size offset = hidden (term.struct size (member (codes "b") 5 offset ∷ []))

pub record RecordsAreWritten : Type 0 where
  pub unknown : hidden term.unknown ≡ word 0 ++ 0 ∷ 0 ∷ 0 ∷ 0 ∷ []
  pub integer :
      bytes_of_term (record {
        name = codes "b";
        root = true;
        body = term.integer (record { size = 4; encoding = 1; offset = 2; bits = 0x0304 });
      })
      ≡ word 3 ++ 0 ∷ 0x0c ∷ 4 ∷ 0 ∷ 4 ∷ 3 ∷ 2 ∷ 1 ∷ []
  pub float : hidden (term.float (record { size = 8; encoding = 2; offset = 0; bits = 64 }))
      ≡ word 0 ++ 0 ∷ 0x10 ∷ 8 ∷ 0 ∷ 0x40 ∷ 0 ∷ 0 ∷ 2 ∷ []
  pub pointer : hidden (term.pointer 0x0102) ≡ word 0 ++ 0 ∷ 0x18 ∷ 2 ∷ 1 ∷ []
  pub array : hidden (term.array (record { size = 0; contents = 5; index = 6; count = 0x01020304 }))
      ≡ word 0 ++ 0 ∷ 0x20 ∷ 0 ∷ 0 ∷ 5 ∷ 0 ∷ 6 ∷ 0 ∷ 4 ∷ 3 ∷ 2 ∷ 1 ∷ []
  pub sized_array : hidden (term.array (record { size = 40; contents = 5; index = 6; count = 10 }))
      ≡ word 0 ++ 0 ∷ 0x20 ∷ 0 ∷ 0 ∷ 5 ∷ 0 ∷ 6 ∷ 0 ∷ 10 ∷ 0 ∷ 0 ∷ 0 ∷ []
  pub no_arguments : hidden (term.function 5 []) ≡ word 0 ++ 0 ∷ 0x28 ∷ 5 ∷ 0 ∷ []
  pub odd_arguments : hidden (term.function 5 (6 ∷ []))
      ≡ word 0 ++ 1 ∷ 0x28 ∷ 5 ∷ 0 ∷ 6 ∷ 0 ∷ 0 ∷ 0 ∷ []
  pub even_arguments : hidden (term.function 5 (6 ∷ 0 ∷ []))
      ≡ word 0 ++ 2 ∷ 0x28 ∷ 5 ∷ 0 ∷ 6 ∷ 0 ∷ 0 ∷ 0 ∷ []
  pub struct : struct_of 8 32 ≡ word 0 ++ 1 ∷ 0x30 ∷ 8 ∷ 0 ∷ (word 3 ++ 5 ∷ 0 ∷ 0x20 ∷ 0 ∷ [])
  pub last_narrow : struct_of 8191 0xffff
      ≡ word 0 ++ 1 ∷ 0x30 ∷ 0xff ∷ 0x1f ∷ (word 3 ++ 5 ∷ 0 ∷ 0xff ∷ 0xff ∷ [])
  pub first_wide : struct_of 8192 (2 ^ 32 + 32)
      ≡ word 0 ++ 1 ∷ 0x30 ∷ 0 ∷ 0x20 ∷ (word 3 ++ 5 ∷ 0 ∷ 0 ∷ 0 ∷ (word 1 ++ word 32))
  pub last_short : struct_of 65534 0
      ≡ word 0 ++ 1 ∷ 0x30 ∷ 0xfe ∷ 0xff ∷ (word 3 ++ 5 ∷ 0 ∷ 0 ∷ 0 ∷ (word 0 ++ word 0))
  pub first_long : struct_of 65535 0
      ≡ word 0 ++ 1 ∷ 0x30 ∷ 0xff ∷ 0xff ∷ (word 0 ++ word 65535 ++ word 3 ++ 5 ∷ 0 ∷ 0 ∷ 0
      ∷ (word 0 ++ word 0))
  pub two_halves : hidden (term.union (2 ^ 32 + 4) [])
      ≡ word 0 ++ 0 ∷ 0x38 ∷ 0xff ∷ 0xff ∷ (word 1 ++ word 4)
  pub union : hidden (term.union 4 (member (codes "a") 7 0 ∷ []))
      ≡ word 0 ++ 1 ∷ 0x38 ∷ 4 ∷ 0 ∷ (word 1 ++ 7 ∷ 0 ∷ 0 ∷ 0 ∷ [])
  pub enum : hidden (term.enum 4 (record { name = codes "a"; value = negsuc 0 } ∷ []))
      ≡ word 0 ++ 1 ∷ 0x40 ∷ 4 ∷ 0 ∷ (word 1 ++ 0xff ∷ 0xff ∷ 0xff ∷ 0xff ∷ [])
  pub forward_struct : hidden (term.forward term.struct_tag) ≡ word 0 ++ 0 ∷ 0x48 ∷ 6 ∷ 0 ∷ []
  pub forward_union : hidden (term.forward term.union_tag) ≡ word 0 ++ 0 ∷ 0x48 ∷ 7 ∷ 0 ∷ []
  pub forward_enum : hidden (term.forward term.enum_tag) ≡ word 0 ++ 0 ∷ 0x48 ∷ 8 ∷ 0 ∷ []
  pub typedef : bytes_of_term (record { name = codes "a"; root = true; body = term.typedef 5 })
      ≡ word 1 ++ 0 ∷ 0x54 ∷ 5 ∷ 0 ∷ []
  pub volatile : hidden (term.volatile 5) ≡ word 0 ++ 0 ∷ 0x58 ∷ 5 ∷ 0 ∷ []
  pub const : hidden (term.const 5) ≡ word 0 ++ 0 ∷ 0x60 ∷ 5 ∷ 0 ∷ []
  pub restrict : hidden (term.restrict 0x8001) ≡ word 0 ++ 0 ∷ 0x68 ∷ 1 ∷ 0x80 ∷ []
