-- Texts of bytes are read back.
use Rattle.std.proofs.Common.{◌≡◌, ◌∙◌, ℕ, ◌+◌, ◌*◌, ◌<◌, ◌≤◌, Bool, true, false, List, [], ◌∷◌, ◌++◌, Option, Some, refl, ap, arith}
use Rattle.std.specs.Prelude.{◌==◌, ◌&&◌, ◌/◌, ◌%◌, not, nat_le, nat_lt, option_and_then, All}
use Rattle.std.specs.List.{flat_map}
use Rattle.std.specs.Option.{option_map}
use Rattle.std.proofs.Math.Nat.{div-add-mod}
use Rattle.std.proofs.lemmas.Bool.{ltb-true, ltb-false, le-leb, lt-leb, ne_eqb}
use Rattle.std.proofs.lemmas.Grind.{flat_map-append}
use Rattle.std.proofs.lemmas.List.Elements.{All-head, All-tail}
use Rattle.ctf_model.specs.dumps.Texts.{is_plain, hex_digit}
use Rattle.ctf_protocol.specs.lines.Text.{digit_value, byte_value, and_bytes, text_of_byte, text_of, bytes_spelled_by}
use Rattle.ctf_protocol.specs.lines.TextLaws.{written_byte, bytes_escaped, in_json, LinesHaveTheText, TextsAreReadBack}

-- ---- plain bytes

plain_case : (a b d e : Bool) → (a && b && not d && not e) ≡ true → e ≡ false
plain_case a b d false h = refl
plain_case true true true true h = absurd cc
plain_case true true false true h = absurd cc
plain_case true false d true h = absurd cc
plain_case false b d true h = absurd cc

no_backslash : (c : ℕ) → is_plain c ≡ true → (c == 0x5c) ≡ false
no_backslash c h = plain_case (nat_le 0x20 c) (nat_le c 0x7e) (c == 0x22) (c == 0x5c) h

-- a plain byte spells itself, whatever follows
pub plain_spells : (c : ℕ) (text : List ℕ) → is_plain c ≡ true → bytes_spelled_by (c ∷ text) ≡ and_bytes (Some c) (bytes_spelled_by text)
unfolding bytes_spelled_by
plain_spells c [] h = rw h refl
plain_spells c (x ∷ []) h = rw h refl
plain_spells c (x ∷ high ∷ []) h = rw h refl
plain_spells c (x ∷ high ∷ low ∷ text) h = rw (h, no_backslash c h) refl

-- ---- digits

digit_case : (n : ℕ) (t : Bool) → nat_lt n 10 ≡ t → n < 16 → digit_value (hex_digit n) ≡ Some n
digit_case n true e h =
    let small : n < 10 = ltb-true n 10 e in
    rw (e, le-leb 48 (48 + n) (omega arith), le-leb (48 + n) 57 (omega arith)) (ap Some (omega arith))
digit_case n false e h =
    let great : 10 ≤ n = ltb-false n 10 e in
    rw (e, le-leb 48 (87 + n) (omega arith), lt-leb (87 + n) 57 (omega arith), le-leb 97 (87 + n) (omega arith), le-leb (87 + n) 102 (omega arith)) (ap Some (omega arith))

digit_read : (n : ℕ) → n < 16 → digit_value (hex_digit n) ≡ Some n
digit_read n h = digit_case n (nat_lt n 10) refl h

byte_read : (b : ℕ) → b < 256 → byte_value (hex_digit (b / 16)) (hex_digit (b % 16)) ≡ Some b
byte_read b h =
    let whole = div-add-mod b 16 in
    let high : b / 16 < 16 = omega arith in
    let low : b % 16 < 16 = omega arith in
    ap (λ (o : Option ℕ). option_and_then (λ h'. option_map (λ l. 16 * h' + l) (digit_value (hex_digit (b % 16)))) o) (digit_read (b / 16) high)
    ∙ ap (λ (o : Option ℕ). option_map (λ l. 16 * (b / 16) + l) o) (digit_read (b % 16) low)
    ∙ ap Some whole

digit_backslash_case : (n : ℕ) (t : Bool) → nat_lt n 10 ≡ t → (hex_digit n == 0x5c) ≡ false
digit_backslash_case n true e = let small : n < 10 = ltb-true n 10 e in rw e (ne_eqb (48 + n) 0x5c (λ same. omega (arith, same)))
digit_backslash_case n false e = let great : 10 ≤ n = ltb-false n 10 e in rw e (ne_eqb (87 + n) 0x5c (λ same. omega (arith, same)))

digit_no_backslash : (n : ℕ) → (hex_digit n == 0x5c) ≡ false
digit_no_backslash n = digit_backslash_case n (nat_lt n 10) refl

-- ---- bytes

one_case : (b : ℕ) (text : List ℕ) (t : Bool) → is_plain b ≡ t → b < 256 → bytes_spelled_by (written_byte b ++ text) ≡ and_bytes (Some b) (bytes_spelled_by text)
unfolding bytes_spelled_by
one_case b text true e h = rw e (plain_spells b text e)
one_case b text false e h = rw e (ap (λ (o : Option ℕ). and_bytes o (bytes_spelled_by text)) (byte_read b h))

json_case : (b : ℕ) (t : Bool) → is_plain b ≡ t → flat_map in_json (written_byte b) ≡ text_of_byte b
json_case b true e = rw (e, no_backslash b e) refl
json_case b false e = rw (e, digit_no_backslash (b / 16), digit_no_backslash (b % 16)) refl

-- ---- texts

read_back : (bytes : List ℕ) → All (λ b. b < 256) bytes → bytes_spelled_by (bytes_escaped bytes) ≡ Some bytes
unfolding bytes_spelled_by
read_back [] a = refl
read_back (b ∷ bytes) a =
    one_case b (bytes_escaped bytes) (is_plain b) refl (All-head (λ n. n < 256) b bytes a)
    ∙ ap (and_bytes (Some b)) (read_back bytes (All-tail (λ n. n < 256) b bytes a))

pub texts_read_back : TextsAreReadBack
texts_read_back = read_back

in_lines : (bytes : List ℕ) → flat_map in_json (bytes_escaped bytes) ≡ text_of bytes
in_lines [] = refl
in_lines (b ∷ bytes) =
    flat_map-append in_json (written_byte b) (bytes_escaped bytes)
    ∙ ap (λ (front : List ℕ). front ++ flat_map in_json (bytes_escaped bytes)) (json_case b (is_plain b) refl)
    ∙ ap (λ (back : List ℕ). text_of_byte b ++ back) (in_lines bytes)

pub lines_have_the_text : LinesHaveTheText
lines_have_the_text = in_lines
