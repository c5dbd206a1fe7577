-- The entry of a symbol begins where the stored number of bytes is left in its section.
use Rattle.std.proofs.Common.{◌≡◌, ℕ, zero, suc, ◌+◌, ◌-◌, ◌<◌, ◌≤◌, Bool, true, false, eqb, List, [], ◌∷◌, length, drop, Option, Some, None, refl, sym, ap, subst, ◌∙◌, arith, ◌⊎◌, inl, inr}
use Rattle.std.specs.Prelude.{slice_get, unwrap_or, if◌then◌else◌}
use Rattle.std.proofs.lemmas.Bool.{ne_eqb, cases_lt}
use Rattle.std.proofs.lemmas.Bool.Decides.{Decides-eqb}
use Rattle.std.proofs.lemmas.List.{length-drop, drop-drop, nil_from_length}
use Rattle.std.proofs.lemmas.Option.{same_Some}
use Rattle.ctf_model.specs.symbols.Entries.{Entry, SymbolInfo, entries_of, entry_len, is_bad_entry, object_type, signature_in}
use Rattle.ctf_model.specs.symbols.Entries as info
use Rattle.ctf_model.specs.symbols.SymbolQuestions.{info_of_symbol}
use Rattle.ctf_model.specs.symbols.Symbols.{Symbol, considered_from, is_considered, is_object}
use Rattle.ctf_model.proofs.SymbolRules.{AreRising, considered_rising, entries_rising}
use Rattle.ctf_entries.proofs.Telling.{entries_object, entries_function, sound_object, sound_function}
use Rattle.ctf_entries.specs.Sound.{bad_place}
use Rattle.ctf_symbols.specs.Kept.{lefts_from, last_bytes}

-- ---- the end of a section

-- some bytes are the end of others
abbrev pub IsEnd : List ℕ → List ℕ → Type 0
IsEnd b whole = (b ≡ last_bytes (length b) whole) × (length b ≤ length whole)

-- the whole is its own end
pub end_whole : (b : List ℕ) → IsEnd b b
end_whole b = let none : length b - length b ≡ 0 = omega arith in (rw none refl, omega arith)

nothing_left : (k : ℕ) (b whole : List ℕ) → length (drop k b) ≡ 0 → drop k b ≡ last_bytes (length (drop k b)) whole
nothing_left k b whole e =
    let all : drop (length whole - 0) whole ≡ [] = nil_from_length _ (omega (arith, length-drop (length whole - 0) whole)) in
    rw e (nil_from_length (drop k b) e ∙ sym all)

-- the rest of an end is an end
pub end_drop : (k : ℕ) (b whole : List ℕ) → IsEnd b whole → IsEnd (drop k b) whole
end_drop k b whole h = (at (cases_lt (length b) k), omega (arith, length-drop k b, h.1))
  where
    at : (length b < k) ⊎ (k ≤ length b) → drop k b ≡ last_bytes (length (drop k b)) whole
    at (inl lt) = nothing_left k b whole (omega (arith, length-drop k b))
    at (inr le) = ap (drop k) h.0 ∙ drop-drop k (length whole - length b) whole ∙ ap (λ (n : ℕ). drop n whole) (omega (arith, length-drop k b, h.1))

-- ---- entries by number

-- numbers below the lowest have no entry
below : (es : List Entry) (low m : ℕ) → AreRising (λ (e : Entry). e.number) low es → m < low → info_of_symbol es m ≡ None
below [] low m r lt = refl
below (e ∷ es) low m r lt =
    let from = r.0 in
    let other : eqb e.number m ≡ false = ne_eqb e.number m (λ same. absurd (omega arith)) in
    rw other (below es (e.number + 1) m r.1 (omega arith))

-- the first entry is that of its number
told_first : (e : Entry) (es : List Entry) (m : ℕ) → e.number ≡ m → info_of_symbol (e ∷ es) m ≡ Some e.info
told_first e es m same = let test : eqb e.number m ≡ true = (Decides-eqb e.number m).1 same in rw test refl

told_later : (e : Entry) (es : List Entry) (m : ℕ) → e.number < m → info_of_symbol (e ∷ es) m ≡ info_of_symbol es m
told_later e es m lt = let other : eqb e.number m ≡ false = ne_eqb e.number m (λ same. absurd (omega arith)) in rw other refl

-- ---- one symbol

abbrev pub told_with : List ℕ → List ℕ → Symbol → ℕ → SymbolInfo
told_with objects functions x left = if is_object x then info.object (object_type (last_bytes left objects)) else info.function (signature_in (last_bytes left functions))

-- the symbol's entry begins where that many bytes are left, and is good; or it has none
abbrev pub IsKept : List ℕ → List ℕ → Symbol → ℕ → Option SymbolInfo → Type 0
IsKept objects functions x left said =
    ((said ≡ Some (told_with objects functions x left)) × (is_object x ≡ false → is_bad_entry (last_bytes left functions) ≡ false))
    ⊎ ((left ≡ 0) × (said ≡ None))

-- ---- all symbols

-- the property of the symbols after the first
abbrev Later : List ℕ → List ℕ → ℕ → List Symbol → ℕ → Type 0
Later objects functions n xs j =
    (o f : List ℕ) → IsEnd o objects → IsEnd f functions → bad_place (considered_from n xs) f ≡ None
    → (x : Symbol) (left : ℕ) → slice_get xs j ≡ Some x → slice_get (lefts_from n xs o f) j ≡ Some left
    → IsKept objects functions x left (info_of_symbol (entries_of (considered_from n xs) o f) (n + j))

-- a symbol that is skipped
passed : (objects functions : List ℕ) (n k : ℕ) (y : Symbol) (ys : List Symbol) (o f : List ℕ) → is_considered (n, y) ≡ false → ((j : ℕ) → k ≡ suc j → Later objects functions (n + 1) ys j)
    → IsEnd o objects → IsEnd f functions → bad_place (considered_from n (y ∷ ys)) f ≡ None → (x : Symbol) (left : ℕ) → slice_get (y ∷ ys) k ≡ Some x → slice_get (lefts_from n (y ∷ ys) o f) k ≡ Some left
    → IsKept objects functions x left (info_of_symbol (entries_of (considered_from n (y ∷ ys)) o f) (n + k))
unfolding lefts_from
passed objects functions n zero y ys o f e rest ends endf sound x left at kept =
    let left_is : 0 ≡ left = same_Some 0 left (rw e at kept) in
    let rising = entries_rising (considered_from (n + 1) ys) o f (n + 1) (considered_rising (n + 1) ys) in
    let none : info_of_symbol (entries_of (considered_from (n + 1) ys) o f) (n + 0) ≡ None = below _ (n + 1) (n + 0) rising (omega arith) in
    inr (sym left_is, rw e none)
passed objects functions n (suc j) y ys o f e rest ends endf sound x left at kept =
    let same : (n + 1) + j ≡ n + suc j = omega arith in
    let later = rest j refl o f ends endf (rw e at sound) x left at (rw e at kept) in
    rw (e, ← same) later

-- an object
object_first : (objects functions : List ℕ) (n k : ℕ) (y : Symbol) (ys : List Symbol) (o f : List ℕ) → is_considered (n, y) ≡ true → is_object y ≡ true → ((j : ℕ) → k ≡ suc j → Later objects functions (n + 1) ys j)
    → IsEnd o objects → IsEnd f functions → bad_place (considered_from n (y ∷ ys)) f ≡ None → (x : Symbol) (left : ℕ) → slice_get (y ∷ ys) k ≡ Some x → slice_get (lefts_from n (y ∷ ys) o f) k ≡ Some left
    → IsKept objects functions x left (info_of_symbol (entries_of (considered_from n (y ∷ ys)) o f) (n + k))
unfolding lefts_from
object_first objects functions n zero y ys o f e is rest ends endf sound x left at kept =
    let all : considered_from n (y ∷ ys) ≡ (n, y) ∷ considered_from (n + 1) ys = rw e refl in
    let es = entries_object _ _ _ o _ f _ all is refl refl in
    let left_is : length o ≡ left = same_Some (length o) left (rw (e, is) at kept) in
    let x_is : y ≡ x = same_Some y x at in
    let said = ap (λ (l : List Entry). info_of_symbol l (n + 0)) es ∙ told_first (record { number = n; name = y.name; info = info.object (object_type o) }) _ (n + 0) (omega arith) in
    let with : told_with objects functions y (length o) ≡ info.object (object_type o) = rw (is, ← ends.0) refl in
    inl (said ∙ ap (λ (t : SymbolInfo). Some t) (sym with) ∙ ap (λ (l : ℕ). Some (told_with objects functions y l)) left_is ∙ ap (λ (z : Symbol). Some (told_with objects functions z left)) x_is, λ no. let other : is_object y ≡ false = ap is_object x_is ∙ no in absurd cc)
object_first objects functions n (suc j) y ys o f e is rest ends endf sound x left at kept =
    let all : considered_from n (y ∷ ys) ≡ (n, y) ∷ considered_from (n + 1) ys = rw e refl in
    let es = entries_object _ _ _ o _ f _ all is refl refl in
    let same : (n + 1) + j ≡ n + suc j = omega arith in
    let said = ap (λ (l : List Entry). info_of_symbol l (n + suc j)) es ∙ told_later (record { number = n; name = y.name; info = info.object (object_type o) }) _ (n + suc j) (omega arith) in
    let later = rest j refl (drop 2 o) f (end_drop 2 o objects ends) endf (sound_object _ _ _ _ all is sound) x left at (rw (e, is) at kept) in
    rw (said, ← same) later

-- a function
function_first : (objects functions : List ℕ) (n k : ℕ) (y : Symbol) (ys : List Symbol) (o f : List ℕ) → is_considered (n, y) ≡ true → is_object y ≡ false → ((j : ℕ) → k ≡ suc j → Later objects functions (n + 1) ys j)
    → IsEnd o objects → IsEnd f functions → bad_place (considered_from n (y ∷ ys)) f ≡ None → (x : Symbol) (left : ℕ) → slice_get (y ∷ ys) k ≡ Some x → slice_get (lefts_from n (y ∷ ys) o f) k ≡ Some left
    → IsKept objects functions x left (info_of_symbol (entries_of (considered_from n (y ∷ ys)) o f) (n + k))
unfolding lefts_from
function_first objects functions n zero y ys o f e is rest ends endf sound x left at kept =
    let all : considered_from n (y ∷ ys) ≡ (n, y) ∷ considered_from (n + 1) ys = rw e refl in
    let es = entries_function _ _ _ o f _ _ all is refl refl in
    let good = (sound_function _ _ _ _ all is sound).0 in
    let left_is : length f ≡ left = same_Some (length f) left (rw (e, is) at kept) in
    let x_is : y ≡ x = same_Some y x at in
    let said = ap (λ (l : List Entry). info_of_symbol l (n + 0)) es ∙ told_first (record { number = n; name = y.name; info = info.function (signature_in f) }) _ (n + 0) (omega arith) in
    let with : told_with objects functions y (length f) ≡ info.function (signature_in f) = rw (is, ← endf.0) refl in
    inl (said ∙ ap (λ (t : SymbolInfo). Some t) (sym with) ∙ ap (λ (l : ℕ). Some (told_with objects functions y l)) left_is ∙ ap (λ (z : Symbol). Some (told_with objects functions z left)) x_is, λ no. rw (← left_is, ← endf.0) good)
function_first objects functions n (suc j) y ys o f e is rest ends endf sound x left at kept =
    let all : considered_from n (y ∷ ys) ≡ (n, y) ∷ considered_from (n + 1) ys = rw e refl in
    let es = entries_function _ _ _ o f _ _ all is refl refl in
    let same : (n + 1) + j ≡ n + suc j = omega arith in
    let said = ap (λ (l : List Entry). info_of_symbol l (n + suc j)) es ∙ told_later (record { number = n; name = y.name; info = info.function (signature_in f) }) _ (n + suc j) (omega arith) in
    let later = rest j refl o (drop (entry_len f) f) ends (end_drop (entry_len f) f functions endf) (sound_function _ _ _ _ all is sound).1 x left at (rw (e, is) at kept) in
    rw (said, ← same) later

by_class : (objects functions : List ℕ) (n k : ℕ) (y : Symbol) (ys : List Symbol) (c b : Bool) → is_considered (n, y) ≡ c → is_object y ≡ b → ((j : ℕ) → k ≡ suc j → Later objects functions (n + 1) ys j) → Later objects functions n (y ∷ ys) k
by_class objects functions n k y ys false b e is rest = λ o f. passed objects functions n k y ys o f e rest
by_class objects functions n k y ys true true e is rest = λ o f. object_first objects functions n k y ys o f e is rest
by_class objects functions n k y ys true false e is rest = λ o f. function_first objects functions n k y ys o f e is rest

-- for each symbol, the stored number gives the start of its entry
pub kept_at : (objects functions : List ℕ) (n : ℕ) (xs : List Symbol) (k : ℕ) → Later objects functions n xs k
kept_at objects functions n [] k = λ o f ends endf sound x left at kept. absurd cc
kept_at objects functions n (y ∷ ys) zero = by_class objects functions n zero y ys (is_considered (n, y)) (is_object y) refl refl (λ j e. absurd cc)
kept_at objects functions n (y ∷ ys) (suc i) = by_class objects functions n (suc i) y ys (is_considered (n, y)) (is_object y) refl refl (λ j e. let less : i ≡ j = cc in subst (λ (m : ℕ). Later objects functions (n + 1) ys m) less (kept_at objects functions (n + 1) ys i))

-- a number is stored for each symbol
there_case : (n k : ℕ) (y : Symbol) (ys : List Symbol) (o f : List ℕ) (c b : Bool) → is_considered (n, y) ≡ c → is_object y ≡ b
    → ((j : ℕ) → k ≡ suc j → (p g : List ℕ) → slice_get (lefts_from (n + 1) ys p g) j ≡ Some (unwrap_or (slice_get (lefts_from (n + 1) ys p g) j) 0))
    → slice_get (lefts_from n (y ∷ ys) o f) k ≡ Some (unwrap_or (slice_get (lefts_from n (y ∷ ys) o f) k) 0)
unfolding lefts_from
there_case n zero y ys o f false b e is rest = rw e refl
there_case n zero y ys o f true true e is rest = rw (e, is) refl
there_case n zero y ys o f true false e is rest = rw (e, is) refl
there_case n (suc j) y ys o f false b e is rest = rw e (rest j refl o f)
there_case n (suc j) y ys o f true true e is rest = rw (e, is) (rest j refl (drop 2 o) f)
there_case n (suc j) y ys o f true false e is rest = rw (e, is) (rest j refl o (drop (entry_len f) f))

pub lefts_there : (n : ℕ) (xs : List Symbol) (k : ℕ) (x : Symbol) (o f : List ℕ) → slice_get xs k ≡ Some x → slice_get (lefts_from n xs o f) k ≡ Some (unwrap_or (slice_get (lefts_from n xs o f) k) 0)
lefts_there n [] k x o f e = absurd cc
lefts_there n (y ∷ ys) zero x o f e = there_case n zero y ys o f (is_considered (n, y)) (is_object y) refl refl (λ j e. absurd cc)
lefts_there n (y ∷ ys) (suc i) x o f e = there_case n (suc i) y ys o f (is_considered (n, y)) (is_object y) refl refl (λ j e2. let less : i ≡ j = cc in subst (λ (m : ℕ). (p g : List ℕ) → slice_get (lefts_from (n + 1) ys p g) m ≡ Some (unwrap_or (slice_get (lefts_from (n + 1) ys p g) m) 0)) less (λ p g. lefts_there (n + 1) ys i x p g e))
