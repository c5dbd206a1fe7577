-- Texts of plain bytes.
use Rattle.std.proofs.Common.{◌≡◌, ℕ, ◌+◌, ◌<◌, ◌≤◌, Bool, true, false, List, [], ◌∷◌, ◌++◌, Some, length, length-append, get_or, take, drop, refl, sym, ap, ◌∙◌, arith, lit≤}
use Rattle.std.specs.Prelude.{◌&&◌}
use Rattle.std.proofs.lemmas.List.{take_more}
use Rattle.ctf_model.specs.dumps.Texts.{is_plain}
use Rattle.ctf_protocol.specs.lines.Text.{text_of_byte, text_of, and_bytes, bytes_spelled_by}
use Rattle.ctf_protocol.proofs.TextReading.{plain_spells}
use Rattle.ctf_lines.proofs.Walks.{walked}

one : (b : ℕ) → is_plain b ≡ true → text_of_byte b ≡ b ∷ []
one b plain = rw plain refl

-- one more plain byte
pub plain-next : (bytes : List ℕ) (k : ℕ) → k < length bytes → is_plain (get_or bytes k 0) ≡ true → text_of (take k bytes) ≡ take k bytes → text_of (take (k + 1) bytes) ≡ take (k + 1) bytes
plain-next bytes k h plain same =
    sym (walked text_of_byte bytes k h)
    ∙ ap (λ (t : List ℕ). t ++ text_of_byte (get_or bytes k 0)) same
    ∙ ap (λ (t : List ℕ). take k bytes ++ t) (one (get_or bytes k 0) plain)
    ∙ sym (take_more bytes k 0 h)

pub plain-more : (bytes : List ℕ) (k : ℕ) (were is : Bool) → k < length bytes → is ≡ is_plain (get_or bytes k 0) → (were ≡ true → text_of (take k bytes) ≡ take k bytes) → were && is ≡ true → text_of (take (k + 1) bytes) ≡ take (k + 1) bytes
plain-more bytes k true true h e same t = plain-next bytes k h (sym e) (same refl)
plain-more bytes k true false h e same t = absurd cc
plain-more bytes k false is h e same t = absurd cc

five : (b : ℕ) → is_plain b ≡ false → length (text_of_byte b) ≡ 5
five b other = rw other refl

some : (b : ℕ) (t : Bool) → is_plain b ≡ t → 1 ≤ length (text_of_byte b)
some b true e = let len = ap length (one b e) in omega (arith, len)
some b false e = let len = five b e in omega (arith, len)

no_shorter : (bytes : List ℕ) → length bytes ≤ length (text_of bytes)
no_shorter [] = lit≤ tt
no_shorter (b ∷ bytes) =
    let all = length-append (text_of_byte b) (text_of bytes) in
    let here = some b (is_plain b) refl in
    let later = no_shorter bytes in
    omega (arith, all, here, later)

spells : (b : ℕ) (bytes : List ℕ) (t : Bool) → is_plain b ≡ t → text_of_byte b ++ text_of bytes ≡ b ∷ bytes → (text_of bytes ≡ bytes → bytes_spelled_by bytes ≡ Some bytes) → bytes_spelled_by (b ∷ bytes) ≡ Some (b ∷ bytes)
spells b bytes true e same later =
    let rest : text_of bytes ≡ bytes = ap (drop 1) (ap (λ (t : List ℕ). t ++ text_of bytes) (sym (one b e)) ∙ same) in
    plain_spells b bytes e ∙ ap (and_bytes (Some b)) (later rest)
spells b bytes false e same later =
    let all = length-append (text_of_byte b) (text_of bytes) in
    let here = five b e in
    let more = no_shorter bytes in
    let lens = ap length same in
    absurd (omega (arith, all, here, more, lens))

-- a text that needs no escapes spells itself
pub plain_spelled : (bytes : List ℕ) → text_of bytes ≡ bytes → bytes_spelled_by bytes ≡ Some bytes
unfolding bytes_spelled_by
plain_spelled [] same = refl
plain_spelled (b ∷ bytes) same = spells b bytes (is_plain b) refl same (plain_spelled bytes)
