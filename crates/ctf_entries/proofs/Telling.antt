-- Entries one by one.
use Rattle.std.proofs.Common.{◌≡◌, ℕ, ◌+◌, ◌*◌, ◌<◌, ◌≤◌, Bool, true, false, cond, eqb, ltb, List, [], ◌∷◌, length, drop, Option, Some, None, refl, arith}
use Rattle.std.specs.Prelude.{not, ◌&&◌, ◌||◌}
use Rattle.std.proofs.lemmas.Bool.{ltb-false, lt-ltb}
use Rattle.std.proofs.lemmas.List.{length-drop, nil_from_length}
use Rattle.ctf_model.specs.format.Bytes.{number, u16_at}
use Rattle.ctf_model.specs.symbols.Entries.{Entry, entries_of, entry_len, function_sites_of, is_bad_entry, is_silent, kind_number, argument_count, object_type, signature_in}
use Rattle.ctf_model.specs.symbols.Entries as info
use Rattle.ctf_model.specs.format.Spelling.{items, argument_of}
use Rattle.ctf_model.specs.symbols.Symbols.{Symbol, is_object}
use Rattle.ctf_entries.specs.Sound.{bad_place}

-- an entry has two bytes or more
pub long_entry : (b : List ℕ) → 2 ≤ entry_len b
long_entry b = at (is_silent b)
  where
    at : (c : Bool) → 2 ≤ cond c 2 (4 + 2 * argument_count b)
    at true = omega arith
    at false = omega arith

-- a good entry is inside its section
pub good_entry : (b : List ℕ) → is_bad_entry b ≡ false → 0 < length b → entry_len b ≤ length b
good_entry b good some = at (ltb 0 (length b)) (ltb (length b) (entry_len b)) refl refl good
  where
    at : (c d : Bool) → ltb 0 (length b) ≡ c → ltb (length b) (entry_len b) ≡ d → (c && (d || (not (is_silent b) && not (eqb (kind_number b) 5)))) ≡ false → entry_len b ≤ length b
    at true true e f g = absurd cc
    at true false e f g = ltb-false (length b) (entry_len b) f
    at false d e f g = let hit = lt-ltb 0 (length b) some in absurd cc

-- at the end there is no signature
pub no_signature : (b : List ℕ) → length b ≡ 0 → signature_in b ≡ None
unfolding number
no_signature b e = rw (nil_from_length b e) refl

pub said_signature : (b behind args : List ℕ) (n : ℕ) → is_silent b ≡ false → behind ≡ drop 4 b → n ≡ argument_count b → items argument_of 2 n behind ≡ Some args
    → Some (record { ret = u16_at b 2; args = args }) ≡ signature_in b
said_signature b behind args n e d c read = let here : items argument_of 2 (argument_count b) (drop 4 b) ≡ Some args = rw (← d, ← c) read in rw (e, here) refl

pub drop_short : (b : List ℕ) → length b < 2 → drop 2 b ≡ []
drop_short b lt = nil_from_length (drop 2 b) (omega (arith, length-drop 2 b))

-- ---- the first of the remaining symbols

pub entries_none : (xs : List (ℕ × Symbol)) (o f : List ℕ) → xs ≡ [] → entries_of xs o f ≡ []
unfolding entries_of
entries_none xs o f e = rw e refl

pub entries_object : (all xs : List (ℕ × Symbol)) (x : ℕ × Symbol) (o p f : List ℕ) (t : Option ℕ) → all ≡ x ∷ xs → is_object x.1 ≡ true → t ≡ object_type o → p ≡ drop 2 o
    → entries_of all o f ≡ record { number = x.0; name = x.1.name; info = info.object t } ∷ entries_of xs p f
unfolding entries_of
entries_object all xs x o p f t e is d b = rw (e, is, d, b) refl

pub entries_function : (all xs : List (ℕ × Symbol)) (x : ℕ × Symbol) (o f g : List ℕ) (s : Option info.Signature) → all ≡ x ∷ xs → is_object x.1 ≡ false → s ≡ signature_in f → g ≡ drop (entry_len f) f
    → entries_of all o f ≡ record { number = x.0; name = x.1.name; info = info.function s } ∷ entries_of xs o g
unfolding entries_of
entries_function all xs x o f g s e is d b = rw (e, is, d, b) refl

pub sound_object : (all xs : List (ℕ × Symbol)) (x : ℕ × Symbol) (f : List ℕ) → all ≡ x ∷ xs → is_object x.1 ≡ true → bad_place all f ≡ None → bad_place xs f ≡ None
unfolding bad_place function_sites_of
sound_object all xs x f e is h = rw (e, is) at h

-- if no function has a bad entry, the first one's entry is good, and so are those after it
pub sound_function : (all xs : List (ℕ × Symbol)) (x : ℕ × Symbol) (f : List ℕ) → all ≡ x ∷ xs → is_object x.1 ≡ false → bad_place all f ≡ None → (is_bad_entry f ≡ false) × (bad_place xs (drop (entry_len f) f) ≡ None)
unfolding bad_place function_sites_of
sound_function all xs x f e is h = at (is_bad_entry f) refl (rw (e, is) at h)
  where
    at : (c : Bool) → is_bad_entry f ≡ c → cond c (Some x.0) (bad_place xs (drop (entry_len f) f)) ≡ None → (is_bad_entry f ≡ false) × (bad_place xs (drop (entry_len f) f) ≡ None)
    at true b g = absurd cc
    at false b g = (b, g)
