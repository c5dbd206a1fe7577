-- The 36 bytes at the front of a dictionary.
-- Source: ctf(5), "The CTF Header"; ctf_header_t of sys/ctf.h.
use Rattle.std.specs.Prelude.{ℕ, ◌+◌, ◌==◌, not, Bool, List, slice_range}
use Rattle.ctf_model.specs.format.Bytes.{u32_at}
use Rattle.ctf_model.specs.declared.sections.Section.{Section}
use Rattle.ctf_model.specs.declared.sections.Section.TheVariants.{SLabels, SObjects, SFunctions, STypes, SStrings}

-- the fields after magic, version and flags, in order; offsets count from the header's end
pub record Fields : Type 0 where
  pub parlabel : ℕ
  pub parname : ℕ
  pub lbloff : ℕ
  pub objtoff : ℕ
  pub funcoff : ℕ
  pub typeoff : ℕ
  pub stroff : ℕ
  pub strlen : ℕ

abbrev pub fields : List ℕ → Fields
fields ctf =
    record {
      parlabel = u32_at ctf 4;
      parname = u32_at ctf 8;
      lbloff = u32_at ctf 12;
      objtoff = u32_at ctf 16;
      funcoff = u32_at ctf 20;
      typeoff = u32_at ctf 24;
      stroff = u32_at ctf 28;
      strlen = u32_at ctf 32;
    }

-- a dictionary with a parent's name is a child: its low type numbers belong to the parent (ours)
abbrev pub is_child : Fields → Bool
is_child h = not (h.parname == 0)

-- the byte range of a section: each ends where the next one begins
abbrev pub range_of : Fields → Section → ℕ × ℕ
range_of h SLabels = (36 + h.lbloff, 36 + h.objtoff)
range_of h SObjects = (36 + h.objtoff, 36 + h.funcoff)
range_of h SFunctions = (36 + h.funcoff, 36 + h.typeoff)
range_of h STypes = (36 + h.typeoff, 36 + h.stroff)
range_of h SStrings = (36 + h.stroff, 36 + h.stroff + h.strlen)

-- the bytes of a section
abbrev pub section : List ℕ → Section → List ℕ
section ctf s = slice_range ctf (range_of (fields ctf) s).0 (range_of (fields ctf) s).1
