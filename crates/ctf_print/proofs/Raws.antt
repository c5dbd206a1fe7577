-- Values shown as raw bits.
use Rattle.std.proofs.Common.{◌≡◌, ℕ, ◌+◌, ◌*◌, ◌≤◌, List, length, codes, refl}
use Rattle.std.proofs.lemmas.Bool.{le-ltb}
use Rattle.ctf_model.specs.values.MemoryBits.{bits_at, hexadecimal, started_bytes}
use Rattle.ctf_model.specs.values.Pieces.{then_pieces, piece}
use Rattle.ctf_model.specs.values.Values.{raw_shown}

pub raw_is : (memory : List ℕ) (p width : ℕ) → p + width ≤ 8 * length memory → raw_shown memory p width ≡ then_pieces (piece (codes "0x")) (piece (hexadecimal (started_bytes width) (bits_at memory p width)))
unfolding then_pieces
raw_is memory p width h = let test = le-ltb (8 * length memory) (p + width) h in rw test refl
