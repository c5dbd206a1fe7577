-- Worked rows of drafts. The values were worked out by hand.
use Rattle.std.specs.Prelude.{◌≡◌, ℕ, zero, suc, ◌+◌, ◌-◌, ◌^◌, ◌++◌, true, false, List, [], ◌∷◌, pos, replicate, Option, Some, None, Result, Ok, Err, codes}
use Rattle.ctf_model.specs.drafts.Adders.{Added, add_enumerator, add_label, add_member, add_type}
use Rattle.ctf_model.specs.format.Dictionary.{Dictionary, Label}
use Rattle.ctf_model.specs.drafts.DraftChanges.{DraftChange, after, draft_of, or_as_before}
use Rattle.ctf_model.specs.drafts.DraftChanges as does
use Rattle.ctf_model.specs.drafts.Drafts.{Draft, empty_draft, content, new_draft, pending_count, space_of}
use Rattle.ctf_model.specs.figures.FigureRows.{dictionary, fault, integer_of, member, bare_term}
use Rattle.ctf_model.specs.figures.Figures.{align, size}
use Rattle.ctf_model.specs.spaces.Imports.{Modelled}
use Rattle.ctf_model.specs.drafts.NewTypes.{NewBody, NewType}
use Rattle.ctf_model.specs.drafts.NewTypes as new
use Rattle.ctf_model.specs.format.Term.{Enumerator, Member, Term}
use Rattle.ctf_model.specs.format.Term as term
use Rattle.ctf_model.specs.declared.data_model.DataModel.{DataModel}
use Rattle.ctf_model.specs.declared.data_model.DataModel.TheVariants.{Lp64, Ilp32}
use Rattle.ctf_model.specs.declared.faults.Fault.{Fault}

-- ---- inputs

abbrev pub fresh_for : DataModel → Draft
fresh_for model = empty_draft None [] [] model

abbrev pub fresh_draft : Draft
fresh_draft = fresh_for Lp64

abbrev pub nameless : NewBody → NewType
nameless body = record { name = []; root = true; body = body }

abbrev pub new_int : NewType
new_int =
    record {
      name = codes "int";
      root = true;
      body = new.integer (record { size = 4; encoding = 1; offset = 0; bits = 32 });
    }

abbrev pub new_char : NewType
new_char =
    record {
      name = codes "char";
      root = true;
      body = new.integer (record { size = 1; encoding = 3; offset = 0; bits = 8 });
    }

-- what these inputs build
abbrev pub int : Term
int =
    record {
      name = codes "int";
      root = true;
      body = term.integer (record { size = 4; encoding = 1; offset = 0; bits = 32 });
    }

abbrev pub char : Term
char =
    record {
      name = codes "char";
      root = true;
      body = term.integer (record { size = 1; encoding = 3; offset = 0; bits = 8 });
    }

-- an integer of three bits
abbrev pub three_bits : NewType
three_bits = nameless (new.integer (record { size = 4; encoding = 1; offset = 0; bits = 3 }))

abbrev pub adds : NewBody → DraftChange
adds body = does.adds_type (nameless body)

-- adds a member without a stated offset
abbrev pub puts : ℕ → List ℕ → ℕ → DraftChange
puts n name tnum = does.adds_member n name tnum None

abbrev pub int_and_char : List DraftChange
int_and_char = does.adds_type new_int ∷ does.adds_type new_char ∷ []

-- ---- answers

abbrev pub number_answer : Result Added Fault → Result ℕ Fault
number_answer (Err f) = Err f
number_answer (Ok added) = Ok added.answer

-- the number that a new type gets
abbrev pub number_added : Draft → NewBody → Result ℕ Fault
number_added d body = number_answer (add_type d (nameless body))

-- the offset that a new member gets
abbrev pub offset_in : Draft → ℕ → List ℕ → ℕ → Option ℕ → Result ℕ Fault
offset_in d n name tnum offset = number_answer (add_member d n name tnum offset)

-- ---- a draft's life

-- a parent with its data model
abbrev pub over : DataModel → Dictionary → Option Modelled
over model parent = Some (record { dictionary = parent; model = model })

abbrev pub int_updated : Draft
int_updated = after fresh_draft (does.adds_type new_int ∷ does.settles ∷ [])

pub record DraftsLive : Type 0 where
  pub created : new_draft None [] [] Lp64 ≡ Ok fresh_draft
  pub zero_in_parname : new_draft (over Lp64 (dictionary true [])) (0x70 ∷ 0 ∷ []) [] Lp64
      ≡ Err (fault 46 0)
  pub zero_in_parlabel : new_draft (over Lp64 (dictionary false [])) (codes "p") (0 ∷ []) Lp64
      ≡ Err (fault 46 0)
  pub parent_is_child : new_draft (over Ilp32 (dictionary true [])) (codes "p") [] Lp64
      ≡ Err (fault 21 0)
  pub model_differs : new_draft (over Ilp32 (dictionary false [])) (codes "p") [] Lp64
      ≡ Err (fault 60 0)
  pub under_short : new_draft (over Ilp32 (dictionary false [])) (codes "p") [] Ilp32
      ≡ Ok (empty_draft (Some (dictionary false [])) (codes "p") [] Ilp32)
  pub nothing_held : content fresh_draft ≡ dictionary false []
  pub first : number_answer (add_type fresh_draft new_int) ≡ Ok 1
  pub pending :
      pending_count (after fresh_draft (does.adds_type new_int
      ∷ does.adds_label (record { name = codes "v"; last = 1 }) ∷ []))
      ≡ 2
  pub none_pending : pending_count int_updated ≡ 0
  pub discards_pending : after int_updated (adds (new.struct 0) ∷ does.discards ∷ []) ≡ int_updated
  pub number_again :
      number_added (after int_updated (adds (new.struct 0) ∷ does.discards ∷ [])) (new.pointer 1)
      ≡ Ok 2
  pub settles_once : after int_updated (does.settles ∷ []) ≡ int_updated
  pub discards_labels :
      after int_updated (does.adds_label (record { name = codes "v"; last = 1 })
      ∷ does.discards ∷ [])
      ≡ int_updated

-- ---- types

-- a child of `p`, which has two types
abbrev pub over_two : Draft
over_two =
    empty_draft (Some (dictionary false (integer_of 4 ∷ integer_of 1 ∷ []))) (codes "p") [] Lp64

-- the number of the second type of a new draft
abbrev pub second : NewBody → Result ℕ Fault
second body = number_added (after fresh_draft (does.adds_type new_int ∷ [])) body

-- a draft that is full: 32,766 types
abbrev pub full_draft : Draft
full_draft =
    record fresh_draft { updated = record { terms = replicate 32766 (integer_of 4); labels = [] } }

pub record TypesAreAdded : Type 0 where
  pub past_the_last : number_added full_draft (new.pointer 9) ≡ Err (fault 40 0)
  pub absent_before_full : number_added full_draft (new.pointer 32767) ≡ Err (fault 39 0)
  pub float : second (new.float (record { size = 8; encoding = 2; offset = 0; bits = 64 })) ≡ Ok 2
  pub pointer : second (new.pointer 1) ≡ Ok 2
  pub to_nothing : second (new.pointer 0) ≡ Ok 2
  pub to_itself : second (new.pointer 2) ≡ Err (fault 39 0)
  pub array : second (new.array (record { contents = 1; index = 1; count = 10 })) ≡ Ok 2
  pub no_index : second (new.array (record { contents = 1; index = 2; count = 10 }))
      ≡ Err (fault 39 0)
  pub function : second (new.function 1 (1 ∷ 0 ∷ [])) ≡ Ok 2
  pub no_argument : second (new.function 1 (1 ∷ 3 ∷ [])) ≡ Err (fault 39 0)
  pub most_arguments : second (new.function 1 (replicate 1023 1)) ≡ Ok 2
  pub too_many_arguments : second (new.function 1 (replicate 1024 9)) ≡ Err (fault 43 0)
  pub struct : second (new.struct 65534) ≡ Ok 2
  pub union : second (new.union 0) ≡ Ok 2
  pub enum : second (new.enum 4) ≡ Ok 2
  pub forward : second (new.forward term.union_tag) ≡ Ok 2
  pub typedef : second (new.typedef 1) ≡ Ok 2
  pub volatile : second (new.volatile 1) ≡ Ok 2
  pub const : second (new.const 1) ≡ Ok 2
  pub restrict : second (new.restrict 2) ≡ Err (fault 39 0)
  pub unknown : second new.unknown ≡ Ok 2
  pub zero_first :
      number_answer (add_type fresh_draft
      (record { name = 0 ∷ []; root = true; body = new.function 9 (replicate 1024 9) }))
      ≡ Err (fault 46 0)
  pub held_as_new :
      content (after fresh_draft (adds (new.array (record { contents = 0; index = 0; count = 3 }))
      ∷ adds (new.struct 5) ∷ []))
      ≡ dictionary false
      (bare_term (term.array (record { size = 0; contents = 0; index = 0; count = 3 }))
      ∷ bare_term (term.struct 5 []) ∷ [])
  pub in_child : number_added over_two (new.pointer 1) ≡ Ok 32769
  pub parents_last : number_added over_two (new.pointer 2) ≡ Ok 32769
  pub past_parent : number_added over_two (new.pointer 3) ≡ Err (fault 39 0)
  pub between : number_added over_two (new.pointer 0x8000) ≡ Err (fault 39 0)
  pub own_of_child : number_added (after over_two (adds (new.pointer 1) ∷ [])) (new.pointer 32769)
      ≡ Ok 32770

-- ---- members

-- a struct with `count` nameless members
abbrev pub crowded_struct : ℕ → Draft
crowded_struct count =
    record fresh_draft {
      pending = record {
        terms = integer_of 4 ∷ bare_term (term.struct 4 (replicate count (member [] 1 0))) ∷ [];
        labels = [];
      };
    }

-- int, char, and a struct of c and i; an enum and a forward
abbrev pub pair : Draft
pair =
    after fresh_draft (does.adds_type new_int ∷ does.adds_type new_char ∷ adds (new.struct 0)
    ∷ puts 3 (codes "c") 2 ∷ puts 3 (codes "i") 1 ∷ adds (new.enum 4)
    ∷ adds (new.forward term.struct_tag) ∷ [])

-- the same after an update, with an empty struct added
abbrev pub two_structs : Draft
two_structs = after pair (does.settles ∷ adds (new.struct 0) ∷ [])

-- a struct that was empty when itself was added to it as a member
abbrev pub in_itself : Draft
in_itself = after fresh_draft (adds (new.struct 0) ∷ puts 1 [] 1 ∷ [])

-- typedefs with the numbers from `first + 1` on, each of the type before it
abbrev pub typedefs : ℕ → ℕ → List Term
typedefs first zero = []
typedefs first (suc n) = bare_term (term.typedef first) ∷ typedefs (first + 1) n

-- int, `count` typedefs, each of the type before it, and an empty struct
abbrev pub typedef_chain : ℕ → Draft
typedef_chain count =
    record fresh_draft {
      pending = record {
        terms = (integer_of 4 ∷ typedefs 1 count) ++ bare_term (term.struct 0 []) ∷ [];
        labels = [];
      };
    }

pub record MembersAreAdded : Type 0 where
  pub after_512_steps : offset_in (typedef_chain 512) 514 [] 513 None ≡ Ok 0
  pub after_513_steps : offset_in (typedef_chain 513) 515 [] 514 None ≡ Err (fault 44 0)
  pub last_of_1023 : offset_in (crowded_struct 1022) 2 [] 1 (Some 8) ≡ Ok 8
  pub past_1023 : offset_in (crowded_struct 1023) 2 [] 9 (Some 8) ≡ Err (fault 43 0)
  pub full_before_double :
      offset_in (after (crowded_struct 1022) (puts 2 (codes "a") 1 ∷ [])) 2 (codes "a") 9 None
      ≡ Err (fault 43 0)
  pub behind_first : (content pair).terms
      ≡ int ∷ char
      ∷ bare_term (term.struct 8 (member (codes "c") 2 0 ∷ member (codes "i") 1 32 ∷ []))
      ∷ bare_term (term.enum 4 []) ∷ bare_term (term.forward term.struct_tag) ∷ []
  pub third : offset_in pair 3 (codes "d") 2 None ≡ Ok 64
  pub stated : offset_in pair 3 (codes "d") 2 (Some 3) ≡ Ok 3
  pub double : offset_in pair 3 (codes "c") 9 None ≡ Err (fault 41 0)
  pub names_may_lack : offset_in (after pair (puts 3 [] 2 ∷ [])) 3 [] 2 None ≡ Ok 72
  pub zero : offset_in pair 9 (0x62 ∷ 0 ∷ []) 9 None ≡ Err (fault 46 0)
  pub no_type : offset_in pair 9 (codes "a") 9 None ≡ Err (fault 24 0)
  pub number_zero : offset_in pair 0 (codes "a") 9 None ≡ Err (fault 24 0)
  pub settled_before_kind : offset_in two_structs 1 (codes "a") 9 None ≡ Err (fault 42 0)
  pub settled : offset_in two_structs 3 (codes "a") 1 None ≡ Err (fault 42 0)
  pub parents : offset_in over_two 1 (codes "a") 1 None ≡ Err (fault 42 0)
  pub enum : offset_in pair 4 (codes "a") 9 None ≡ Err (fault 30 0)
  pub absent : offset_in pair 3 (codes "a") 9 None ≡ Err (fault 39 0)
  pub forward : offset_in pair 3 (codes "a") 5 None ≡ Err (fault 26 0)
  pub nothing : offset_in pair 3 (codes "a") 0 (Some 0) ≡ Err (fault 26 0)
  pub far : offset_in two_structs 6 (codes "a") 1 (Some (2 ^ 64 - 1)) ≡ Ok (2 ^ 64 - 1)
  pub too_far : offset_in two_structs 6 (codes "a") 1 (Some (2 ^ 64)) ≡ Err (fault 45 0)
  pub itself : offset_in (after fresh_draft (adds (new.struct 0) ∷ [])) 1 [] 1 None ≡ Ok 0
  pub deep : offset_in in_itself 1 [] 1 None ≡ Err (fault 44 0)
  pub discarded : after in_itself (does.discards ∷ []) ≡ fresh_draft

-- ---- offsets of members

-- the size in bytes of type `n`
abbrev pub bytes_of : Draft → ℕ → Result ℕ Fault
bytes_of d n = size (space_of d) n

abbrev pub align_of : Draft → ℕ → Result ℕ Fault
align_of d n = align (space_of d) n

-- int, char, a struct s with c at 0 and i at 32, and a struct of two s
abbrev pub stated_pairs : Draft
stated_pairs = after fresh_draft (
    does.adds_type new_int ∷ does.adds_type new_char
    ∷ adds (new.struct 0) ∷ does.adds_member 3 (codes "c") 2 (Some 0)
    ∷ does.adds_member 3 (codes "i") 1 (Some 32)
    ∷ adds (new.struct 0) ∷ does.adds_member 4 (codes "a") 3 (Some 0)
    ∷ does.adds_member 4 (codes "b") 3 (Some 64) ∷ [])

-- int, a pointer to it, char, a struct with c, p and d, and a function
abbrev pub with_pointer : DataModel → Draft
with_pointer model = after (fresh_for model) (
    does.adds_type new_int ∷ adds (new.pointer 1) ∷ does.adds_type new_char
    ∷ adds (new.struct 0) ∷ puts 4 (codes "c") 3 ∷ puts 4 (codes "p") 2 ∷ puts 4 (codes "d") 3
    ∷ adds (new.function 1 []) ∷ [])

-- the same, with the pointer in a parent of this data model
abbrev pub under_pointer : DataModel → Draft
under_pointer model =
    after (empty_draft (Some (content (with_pointer model))) (codes "p") [] model)
    (adds (new.struct 0) ∷ puts 0x8001 (codes "c") 3 ∷ [])

-- a union of int and char, and a struct of two three-bit integers and a char
abbrev pub packed_draft : Draft
packed_draft = after fresh_draft (
    does.adds_type new_int ∷ does.adds_type new_char ∷ does.adds_type three_bits
    ∷ adds (new.union 0) ∷ puts 4 (codes "a") 1 ∷ puts 4 (codes "b") 2
    ∷ adds (new.struct 0) ∷ puts 5 (codes "x") 3 ∷ puts 5 (codes "y") 3 ∷ [])

-- an empty struct, a struct with an array of 2^32 - 1 of it, and int
abbrev pub many_empty : Draft
many_empty =
    after fresh_draft (adds (new.struct 0)
    ∷ adds (new.array (record { contents = 1; index = 0; count = 2 ^ 32 - 1 }))
    ∷ adds (new.struct 0) ∷ puts 3 (codes "a") 2 ∷ does.adds_type new_int ∷ [])

-- the same, after the first struct got a member at a great offset
abbrev pub many_great : Draft
many_great = after many_empty (does.adds_member 1 (codes "f") 4 (Some (2 ^ 42)) ∷ [])

pub record MembersArePlaced : Type 0 where
  pub stated_size : bytes_of stated_pairs 3 ≡ Ok 8
  pub two_of_them : bytes_of stated_pairs 4 ≡ Ok 16
  pub long_pointer : offset_in (with_pointer Lp64) 4 (codes "e") 2 None ≡ Ok 192
  pub short_pointer : offset_in (with_pointer Ilp32) 4 (codes "e") 2 None ≡ Ok 96
  pub long_struct : bytes_of (with_pointer Lp64) 4 ≡ Ok 17
  pub short_struct : bytes_of (with_pointer Ilp32) 4 ≡ Ok 9
  pub long_size : bytes_of (with_pointer Lp64) 2 ≡ Ok 8
  pub short_size : bytes_of (with_pointer Ilp32) 2 ≡ Ok 4
  pub long_align : align_of (with_pointer Lp64) 2 ≡ Ok 8
  pub short_align : align_of (with_pointer Ilp32) 2 ≡ Ok 4
  pub long_struct_align : align_of (with_pointer Lp64) 4 ≡ Ok 1
  pub short_struct_align : align_of (with_pointer Ilp32) 4 ≡ Ok 1
  pub long_function_align : align_of (with_pointer Lp64) 5 ≡ Ok 8
  pub short_function_align : align_of (with_pointer Ilp32) 5 ≡ Ok 4
  pub long_places : (content (with_pointer Lp64)).terms
      ≡ int ∷ bare_term (term.pointer 1) ∷ char
      ∷ bare_term (term.struct 17 (member (codes "c") 3 0 ∷ member (codes "p") 2 64
      ∷ member (codes "d") 3 128 ∷ []))
      ∷ bare_term (term.function 1 []) ∷ []
  pub short_places : (content (with_pointer Ilp32)).terms
      ≡ int ∷ bare_term (term.pointer 1) ∷ char
      ∷ bare_term (term.struct 9 (member (codes "c") 3 0 ∷ member (codes "p") 2 32
      ∷ member (codes "d") 3 64 ∷ []))
      ∷ bare_term (term.function 1 []) ∷ []
  pub under_long : offset_in (under_pointer Lp64) 0x8001 (codes "p") 2 None ≡ Ok 64
  pub under_short : offset_in (under_pointer Ilp32) 0x8001 (codes "p") 2 None ≡ Ok 32
  pub union_size : bytes_of packed_draft 4 ≡ Ok 4
  pub in_union : offset_in packed_draft 4 (codes "c") 1 None ≡ Ok 0
  pub bits : offset_in packed_draft 5 (codes "z") 2 None ≡ Ok 40
  pub bits_size : bytes_of packed_draft 5 ≡ Ok 5
  pub many_placed : offset_in many_empty 3 (codes "b") 4 None ≡ Ok 0
  pub last_too_big : offset_in many_great 3 (codes "b") 4 None ≡ Err (fault 27 0)
  pub stated_needs_none : offset_in many_great 3 (codes "b") 4 (Some 64) ≡ Ok 64
  pub too_big : offset_in many_great 3 (codes "b") 2 (Some 64) ≡ Err (fault 27 0)

-- ---- enumerators and labels

abbrev pub one : List ℕ → Enumerator
one name = record { name = name; value = pos 1 }

abbrev pub label : List ℕ → ℕ → Label
label name last = record { name = name; last = last }

-- an enum with an enumerator of value 1, and a label `v`
abbrev pub marked_enum : Draft
marked_enum =
    after fresh_draft (adds (new.enum 4) ∷ does.adds_enumerator 1 (one (codes "A"))
    ∷ does.adds_label (label (codes "v") 1) ∷ adds (new.struct 0) ∷ [])

-- an enum with `count` enumerators of value 1, all nameless
abbrev pub many_names : ℕ → Draft
many_names count =
    record fresh_draft {
      pending =
          record { terms = bare_term (term.enum 4 (replicate count (one []))) ∷ []; labels = [] };
    }

abbrev pub enum_after : Draft → ℕ → List ℕ → Result (List Term) Fault
enum_after d n name = terms_of (add_enumerator d n (one name))
  where
    terms_of : Result Draft Fault → Result (List Term) Fault
    terms_of (Err f) = Err f
    terms_of (Ok e) = Ok (content e).terms

pub record EnumeratorsAndLabelsAreAdded : Type 0 where
  pub terms : (content marked_enum).terms
      ≡ bare_term (term.enum 4 (one (codes "A") ∷ [])) ∷ bare_term (term.struct 0 []) ∷ []
  pub labels : (content marked_enum).labels ≡ label (codes "v") 1 ∷ []
  pub second_name : enum_after marked_enum 1 (codes "B")
      ≡ Ok (bare_term (term.enum 4 (one (codes "A") ∷ one (codes "B") ∷ []))
      ∷ bare_term (term.struct 0 []) ∷ [])
  pub double : enum_after marked_enum 1 (codes "A") ≡ Err (fault 41 0)
  pub last_of_1023 : add_enumerator (many_names 1022) 1 (one []) ≡ Ok (many_names 1023)
  pub past_1023 : enum_after (many_names 1023) 1 [] ≡ Err (fault 43 0)
  pub zero : enum_after marked_enum 9 (0 ∷ []) ≡ Err (fault 46 0)
  pub no_type : enum_after marked_enum 9 (codes "A") ≡ Err (fault 24 0)
  pub settled : enum_after (after marked_enum (does.settles ∷ [])) 1 (codes "B") ≡ Err (fault 42 0)
  pub struct : enum_after marked_enum 2 (codes "A") ≡ Err (fault 30 0)
  pub label_again : add_label marked_enum (label (codes "v") 2) ≡ Err (fault 41 0)
  pub updated_label_again : add_label (after marked_enum (does.settles ∷ [])) (label (codes "v") 2)
      ≡ Err (fault 41 0)
  pub no_name_once : add_label (after marked_enum (does.adds_label (label [] 0) ∷ [])) (label [] 3)
      ≡ Err (fault 41 0)
  pub zero_in_label : add_label marked_enum (label (0 ∷ []) 2) ≡ Err (fault 46 0)
