-- The symbols of a program, and those that a dictionary has entries for. Source: ELF64, "Symbol
-- Table" (Elf64_Sym; STT_OBJECT, STT_FUNC, SHN_UNDEF, SHN_ABS). Which ones are considered is ours,
-- after libctf.
use Rattle.std.specs.Prelude.{ℕ, zero, suc, ◌/◌, ◌%◌, ◌==◌, ◌&&◌, ◌||◌, not, nat_le, Bool, List, [], ◌∷◌, length, drop, slice_index, Option, unwrap_or, codes, if◌then◌else◌}
use Rattle.std.specs.List.{enumerate_from, filter}
use Rattle.std.specs.Str.{bytes_eq}
use Rattle.ctf_model.specs.format.Bytes.{u16_at, u32_at, u64_at}
use Rattle.ctf_model.specs.format.Lists.{Lists}
use Rattle.ctf_model.specs.format.Name.{text_at}
use Rattle.ctf_model.specs.declared.symbols.SymbolClass.{SymbolClass}
use Rattle.ctf_model.specs.declared.symbols.SymbolClass.TheVariants.{Object, Function}

-- ---- symbols

pub record Symbol : Type 0 where
  pub name : List ℕ
  -- the symbol's type: 1 for an object, 2 for a function
  pub sort : ℕ
  -- the section of its definition; 0 if undefined
  pub section : ℕ
  pub value : ℕ

-- the name at an offset of the program's strings; empty if there is none (ours)
abbrev pub symbol_name : Option (List ℕ) → ℕ → List ℕ
symbol_name strs offset = if offset == 0 then [] else unwrap_or (text_at strs offset) []

-- the symbol in 24 bytes: name, info with the symbol's type in the low 4 bits, another byte,
-- section, value, and size
abbrev pub symbol_of : Option (List ℕ) → List ℕ → Symbol
symbol_of strs b =
    record {
      name = symbol_name strs (u32_at b 0);
      sort = slice_index b 4 % 16;
      section = u16_at b 6;
      value = u64_at b 8;
    }

-- `n` symbols, one after another
unfoldable pub symbols_in : Option (List ℕ) → ℕ → List ℕ → List Symbol
symbols_in strs zero b = []
symbols_in strs (suc n) b = symbol_of strs b ∷ symbols_in strs n (drop 24 b)

-- the symbols of a symbol table; a rest of fewer than 24 bytes is ignored
abbrev pub symbols_of : Option (List ℕ) → List ℕ → List Symbol
symbols_of strs sym = symbols_in strs (length sym / 24) sym

-- the symbols of a program; none without a symbol table
unfoldable pub symbols : Lists → List Symbol
symbols s = symbols_of s.strs (unwrap_or s.sym [])

-- ---- considered symbols: those with an entry

abbrev pub is_object : Symbol → Bool
is_object x = x.sort == 1

abbrev pub is_function : Symbol → Bool
is_function x = x.sort == 2

-- marks that the linker adds
abbrev pub is_mark : List ℕ → Bool
is_mark name = bytes_eq name (codes "_START_") || bytes_eq name (codes "_END_")

abbrev pub is_named : Symbol → Bool
is_named x = not (length x.name == 0) && not (is_mark x.name)

-- an absolute object of value 0, which counts as no object
abbrev pub is_absolute_zero : Symbol → Bool
is_absolute_zero x = is_object x && x.section == 0xfff1 && x.value == 0

-- a defined object or function with a name of its own, whose number fits in 4 bytes
unfoldable pub is_considered : ℕ × Symbol → Bool
is_considered x =
    nat_le x.0 0xffffffff && (is_object x.1 || is_function x.1) && not (x.1.section == 0)
    && is_named x.1 && not (is_absolute_zero x.1)

-- the considered ones among symbols numbered from `n` on
abbrev pub considered_from : ℕ → List Symbol → List (ℕ × Symbol)
considered_from n xs = filter is_considered (enumerate_from n xs)

abbrev pub with_types : List Symbol → List (ℕ × Symbol)
with_types xs = considered_from 0 xs

abbrev pub class_of : Symbol → SymbolClass
class_of x = if is_object x then Object else Function
