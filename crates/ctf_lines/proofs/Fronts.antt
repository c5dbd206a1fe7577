-- The bytes that a text spells, from its start on.
use Rattle.std.proofs.Common.{◌≡◌, ◌∙◌, ℕ, ◌<◌, ◌-◌, ◌++◌, take, drop, get_or, append-nil, Bool, true, false, List, [], ◌∷◌, Option, Some, None, length, refl, arith}
use Rattle.std.specs.Prelude.{◌==◌, ◌&&◌, if◌then◌else◌}
use Rattle.std.proofs.lemmas.List.{take_all}
use Rattle.std.specs.Option.{option_map}
use Rattle.ctf_protocol.proofs.TextReading.{plain_spells}
use Rattle.ctf_model.specs.dumps.Texts.{is_plain}
use Rattle.ctf_protocol.specs.lines.Text.{byte_value, plain_byte, and_bytes, bytes_spelled_by}
use Rattle.ctf_lines.specs.Fronts.{escape, IsFront}

-- a plain byte spells itself
plain_front : (c : ℕ) (text : List ℕ) → is_plain c ≡ true → IsFront (c ∷ text) (Some (c, text))
plain_front c text h = (omega arith, plain_spells c text h)

either_way : (t : Bool) (v : Option ℕ) (whole text : List ℕ) (other : Option (List ℕ)) → other ≡ None → length text < length whole → bytes_spelled_by whole ≡ (if t then and_bytes v (bytes_spelled_by text) else other) → IsFront whole (if t then option_map (λ b. (b, text)) v else None)
either_way false v whole text other o l e = e ∙ o
either_way true None whole text other o l e = e
either_way true (Some b) whole text other o l e = (l, e)

-- any other byte is spelled by an escape
pub escape_front : (c : ℕ) (text : List ℕ) → is_plain c ≡ false → IsFront (c ∷ text) (escape (c ∷ text))
unfolding bytes_spelled_by
escape_front c [] h = rw h refl
escape_front c (x ∷ []) h = rw h refl
escape_front c (x ∷ high ∷ []) h = rw h refl
escape_front c (x ∷ high ∷ low ∷ text) h =
    either_way (c == 0x5c && x == 0x78) (byte_value high low) (c ∷ x ∷ high ∷ low ∷ text) text (and_bytes (plain_byte c) (bytes_spelled_by (x ∷ high ∷ low ∷ text))) (rw h refl) (omega arith) refl

-- the start of a text with a plain byte
pub plain_start : (text : List ℕ) → 0 < length text → is_plain (get_or text 0 0) ≡ true → IsFront text (Some (get_or text 0 0, take (length text - 1) (drop 1 text)))
plain_start [] h p = absurd (omega (arith, h))
plain_start (c ∷ text) h p =
    let same : take (length (c ∷ text) - 1) text ≡ text = take_all (length (c ∷ text) - 1) text (omega arith) in
    rw same (plain_front c text p)

-- once the whole text is read
pub spelled_end : (text rest bytes : List ℕ) → length rest ≡ 0 → bytes_spelled_by text ≡ option_map (λ more. bytes ++ more) (bytes_spelled_by rest) → Some bytes ≡ bytes_spelled_by text
unfolding bytes_spelled_by
spelled_end text [] bytes e h = rw (h, append-nil) refl
spelled_end text (c ∷ rest) bytes e h = absurd (omega (arith, e))
