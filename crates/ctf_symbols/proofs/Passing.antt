-- What is left after one symbol.
use Rattle.std.proofs.Common.{◌≡◌, ℕ, ◌+◌, ◌<◌, ◌≤◌, true, false, List, [], ◌∷◌, ◌++◌, length, drop, Option, None, refl, sym, ap, ◌∙◌}
use Rattle.std.proofs.lemmas.List.{append-nil, append_assoc}
use Rattle.ctf_model.specs.symbols.Entries.{entry_len, is_bad_entry}
use Rattle.ctf_model.specs.symbols.Symbols.{Symbol, symbol_of, symbols_of, considered_from, is_considered, is_object}
use Rattle.ctf_entries.proofs.Considering.{symbols_more, symbols_end, considered_more, considered_less}
use Rattle.ctf_entries.proofs.Telling.{sound_object, sound_function}
use Rattle.ctf_entries.specs.Sound.{bad_place}
use Rattle.ctf_symbols.specs.Kept.{lefts_from}

-- one more number at the end
pushed : (items rest all whole : List ℕ) (v : ℕ) → all ≡ v ∷ rest → items ++ all ≡ whole → (items ++ v ∷ []) ++ rest ≡ whole
pushed items rest all whole v e h = append_assoc items (v ∷ []) rest ∙ ap (λ (l : List ℕ). items ++ l) (sym e) ∙ h

-- the invariant from symbol to symbol
pub record Passes (strs : Option (List ℕ)) (whole items : List ℕ) (n : ℕ) (rest o f : List ℕ) : Type 0 where
  pub kept : items ++ lefts_from n (symbols_of strs rest) o f ≡ whole
  pub sound : bad_place (considered_from n (symbols_of strs rest)) f ≡ None

pub past_other : (strs : Option (List ℕ)) (whole items : List ℕ) (n : ℕ) (rest behind o f : List ℕ) (x : Symbol) → behind ≡ drop 24 rest → 24 ≤ length rest → x ≡ symbol_of strs rest → is_considered (n, x) ≡ false
    → Passes strs whole items n rest o f → Passes strs whole (items ++ 0 ∷ []) (n + 1) behind o f
unfolding lefts_from
past_other strs whole items n rest behind o f x d le e t h =
    let all : lefts_from n (symbols_of strs rest) o f ≡ 0 ∷ lefts_from (n + 1) (symbols_of strs behind) o f = rw (symbols_more strs rest le, ← e, ← d, t) refl in
    record { kept = pushed items _ _ whole 0 all h.kept; sound = ap (λ (l : List (ℕ × Symbol)). bad_place l f) (sym (considered_less strs n rest behind x d le e t)) ∙ h.sound }

pub past_object : (strs : Option (List ℕ)) (whole items : List ℕ) (n : ℕ) (rest behind o p f : List ℕ) (x : Symbol) → behind ≡ drop 24 rest → 24 ≤ length rest → x ≡ symbol_of strs rest → is_considered (n, x) ≡ true → is_object x ≡ true → p ≡ drop 2 o
    → Passes strs whole items n rest o f → Passes strs whole (items ++ length o ∷ []) (n + 1) behind p f
unfolding lefts_from
past_object strs whole items n rest behind o p f x d le e t is q h =
    let here : is_considered (n, symbol_of strs rest) ≡ true = ap (λ (z : Symbol). is_considered (n, z)) (sym e) ∙ t in
    let object : is_object (symbol_of strs rest) ≡ true = ap is_object (sym e) ∙ is in
    let all : lefts_from n (symbols_of strs rest) o f ≡ length o ∷ lefts_from (n + 1) (symbols_of strs behind) p f = rw (symbols_more strs rest le, ← d, here, object, ← q) refl in
    record { kept = pushed items _ _ whole (length o) all h.kept; sound = sound_object _ _ _ _ (considered_more strs n rest behind x d le e t) is h.sound }

pub good_function : (strs : Option (List ℕ)) (whole items : List ℕ) (n : ℕ) (rest behind o f : List ℕ) (x : Symbol) → behind ≡ drop 24 rest → 24 ≤ length rest → x ≡ symbol_of strs rest → is_considered (n, x) ≡ true → is_object x ≡ false
    → Passes strs whole items n rest o f → is_bad_entry f ≡ false
good_function strs whole items n rest behind o f x d le e t is h = (sound_function _ _ _ _ (considered_more strs n rest behind x d le e t) is h.sound).0

pub past_function : (strs : Option (List ℕ)) (whole items : List ℕ) (n : ℕ) (rest behind o f g : List ℕ) (x : Symbol) → behind ≡ drop 24 rest → 24 ≤ length rest → x ≡ symbol_of strs rest → is_considered (n, x) ≡ true → is_object x ≡ false → g ≡ drop (entry_len f) f
    → Passes strs whole items n rest o f → Passes strs whole (items ++ length f ∷ []) (n + 1) behind o g
unfolding lefts_from
past_function strs whole items n rest behind o f g x d le e t is q h =
    let here : is_considered (n, symbol_of strs rest) ≡ true = ap (λ (z : Symbol). is_considered (n, z)) (sym e) ∙ t in
    let other : is_object (symbol_of strs rest) ≡ false = ap is_object (sym e) ∙ is in
    let all : lefts_from n (symbols_of strs rest) o f ≡ length f ∷ lefts_from (n + 1) (symbols_of strs behind) o g = rw (symbols_more strs rest le, ← d, here, other, ← q) refl in
    record { kept = pushed items _ _ whole (length f) all h.kept; sound = ap (λ (l : List ℕ). bad_place (considered_from (n + 1) (symbols_of strs behind)) l) q ∙ (sound_function _ _ _ _ (considered_more strs n rest behind x d le e t) is h.sound).1 }

pub at_end : (strs : Option (List ℕ)) (whole items : List ℕ) (n : ℕ) (rest o f : List ℕ) → length rest < 24 → items ++ lefts_from n (symbols_of strs rest) o f ≡ whole → items ≡ whole
unfolding lefts_from
at_end strs whole items n rest o f lt h = let none : lefts_from n (symbols_of strs rest) o f ≡ [] = rw (symbols_end strs rest lt) refl in sym (append-nil items) ∙ ap (λ (l : List ℕ). items ++ l) (sym none) ∙ h
