-- What the lent parts of an array, integer or float show, and how they are read after a head.
-- Source: ctf(5), "The Type Section"; ctf_array_t and CTF_INT_DATA of sys/ctf.h.
use Rattle.std.specs.Prelude.{ℕ, ◌/◌, ◌%◌, ◌^◌, List}
use Rattle.ctf_model.specs.format.Bytes.{u16_at, u32_at}
use Rattle.ctf_model.specs.format.Shown.{ArrayParts, EncodingParts}
use Rattle.ctf_views.specs.declared.parts.ArrayInfo.{ArrayInfo}
use Rattle.ctf_views.specs.declared.parts.Encoding.{Encoding}

-- the types of its contents and index, and its count
abbrev pub array_info : ArrayInfo → ArrayParts
array_info a = record { contents = a.contents.0; index = a.index.0; count = a.count }

-- its encoding, offset and width
abbrev pub encoding_info : Encoding → EncodingParts
encoding_info e = record { encoding = e.encoding; offset = e.offset; bits = e.bits }

-- the parts of an array, from the bytes after its head
abbrev pub array_in : List ℕ → ArrayParts
array_in rest = record { contents = u16_at rest 0; index = u16_at rest 2; count = u32_at rest 4 }

-- the parts of an integer or float, from the word after its head
abbrev pub encoding_in : List ℕ → EncodingParts
encoding_in rest =
    record {
      encoding = u32_at rest 0 / 2 ^ 24;
      offset = u32_at rest 0 / 2 ^ 16 % 256;
      bits = u32_at rest 0 % 2 ^ 16;
    }
