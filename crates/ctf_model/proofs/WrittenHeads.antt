-- Reading back the head of a written record.
use Rattle.std.proofs.Common.{◌≡◌, ℕ, ◌+◌, ◌/◌, ◌%◌, ◌^◌, ◌<◌, ◌≤◌, Bool, true, false, eqb, ltb, List, ◌++◌, length, refl, arith}
use Rattle.std.proofs.lemmas.Bool.{ne_eqb, ltb-true, ltb-false}
use Rattle.ctf_model.specs.format.Bytes.{number, u32_at}
use Rattle.ctf_model.specs.format.Record.{info, field, is_long, head_len, size, behind_head}
use Rattle.ctf_model.specs.writing.WrittenRecords.{u16, u32, field_bytes}

pub number_u16 : (n : ℕ) → n < 2 ^ 16 → number (u16 n) ≡ n
unfolding number
number_u16 n low = omega arith

pub number_u32 : (n : ℕ) → n < 2 ^ 32 → number (u32 n) ≡ n
unfolding number
number_u32 n low = omega arith

-- the bytes are a head with this name reference, info and field, followed by `v`
pub record HasHead (b v : List ℕ) (r i n : ℕ) : Type 0 where
  pub name : u32_at b 0 ≡ r
  pub info : info b ≡ i
  pub size : size b ≡ n
  pub short : n < 65535 → field b ≡ n
  pub long : n < 65535 → is_long b ≡ false
  pub behind : behind_head b ≡ v
  pub len : length b ≡ head_len b + length v
  pub has_head : 8 ≤ length b

-- a head is read back
pub head_read : (r i n : ℕ) (v : List ℕ) → r < 2 ^ 32 → i < 2 ^ 16 → n < 2 ^ 64 → HasHead (u32 r ++ (u16 i ++ (field_bytes n ++ v))) v r i n
head_read r i n v low_r low_i low_n = at (ltb n 65535) refl
  where
    at : (t : Bool) → ltb n 65535 ≡ t → HasHead (u32 r ++ (u16 i ++ (field_bytes n ++ v))) v r i n
    at true e =
        let lt : n < 65535 = ltb-true n 65535 e in
        let word : number (u16 n) ≡ n = number_u16 n (omega arith) in
        let short : eqb n 65535 ≡ false = ne_eqb n 65535 (omega arith) in
        record {
          name = number_u32 r low_r;
          info = number_u16 i low_i;
          size = rw (e, word, short) refl;
          short = λ h. rw (e, word) refl;
          long = λ h. rw (e, word, short) refl;
          behind = rw (e, word, short) refl;
          len = rw (e, word, short) (omega arith);
          has_head = rw e (omega arith);
        }
    at false e =
        let le : 65535 ≤ n = ltb-false n 65535 e in
        let mark : number (u16 65535) ≡ 65535 = number_u16 65535 (omega arith) in
        let high : number (u32 (n / 2 ^ 32)) ≡ n / 2 ^ 32 = number_u32 (n / 2 ^ 32) (omega arith) in
        let low : number (u32 (n % 2 ^ 32)) ≡ n % 2 ^ 32 = number_u32 (n % 2 ^ 32) (omega arith) in
        record {
          name = number_u32 r low_r;
          info = number_u16 i low_i;
          size = rw (e, mark, high, low) (omega arith);
          short = λ h. absurd (omega arith);
          long = λ h. absurd (omega arith);
          behind = rw (e, mark) refl;
          len = rw (e, mark) (omega arith);
          has_head = rw e (omega arith);
        }
