-- Numbers in the memory of a program, little-endian as in ctf(5): bit i of the memory is bit i % 8
-- of byte i / 8.
use Rattle.std.specs.Prelude.{ℕ, ℤ, pos, zero, suc, ◌+◌, ◌-◌, ◌*◌, ◌^◌, ◌/◌, ◌%◌, ◌-ℤ◌, ◌++◌, nat_lt, List, [], length, Result, Ok, Err, if◌then◌else◌}
use Rattle.ctf_model.specs.format.Bytes.{number}
use Rattle.ctf_model.specs.rules.Refusals.{placeless}
use Rattle.ctf_model.specs.dumps.Texts.{hex_of_byte}
use Rattle.ctf_model.specs.declared.faults.Fault.{Fault}
use Rattle.ctf_model.specs.declared.faults.TheConstants.Fault.{SHORT_MEMORY}

-- the memory ends before the value does
abbrev pub short_memory : Fault
short_memory = placeless SHORT_MEMORY

-- the `width` bits from bit `p` on; the memory is one number, low byte first
abbrev pub bits_at : List ℕ → ℕ → ℕ → ℕ
bits_at memory p width = number memory / 2 ^ p % 2 ^ width

-- the same, if the memory has these bits
abbrev pub bit_field : List ℕ → ℕ → ℕ → Result ℕ Fault
bit_field memory p width =
    if nat_lt (8 * length memory) (p + width) then Err short_memory else Ok (bits_at memory p width)

-- two's complement: the highest of `width` bits has negative weight
abbrev pub signed_value : ℕ → ℕ → ℤ
signed_value width n = if nat_lt n (2 ^ (width - 1)) then pos n else pos n -ℤ pos (2 ^ width)

-- the number of bytes that `width` bits occupy
abbrev pub started_bytes : ℕ → ℕ
started_bytes width = (width + 7) / 8

-- a number of `k` bytes as hex digits, high byte first
unfoldable pub hexadecimal : ℕ → ℕ → List ℕ
hexadecimal zero n = []
hexadecimal (suc k) n = hexadecimal k (n / 256) ++ hex_of_byte (n % 256)
