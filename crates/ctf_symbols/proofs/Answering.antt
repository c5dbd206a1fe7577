-- Answers about a symbol, from the data stored for it.
use Rattle.std.proofs.Common.{◌≡◌, ◌≢◌, ℕ, zero, suc, ◌+◌, ◌-◌, ◌*◌, ◌/◌, ◌%◌, ◌<◌, ◌≤◌, Bool, true, false, eqb, ltb, List, [], length, drop, Option, Some, None, Err, refl, sym, ap, subst, ◌∙◌, arith, inl, inr}
use Rattle.std.specs.Prelude.{slice_get, slice_index, unwrap_or}
use Rattle.std.specs.Option.{option_map}
use Rattle.std.proofs.lemmas.Bool.{ltb-true, ltb-false, ne_eqb}
use Rattle.std.proofs.lemmas.Bool.Decides.{Decides-eqb}
use Rattle.std.proofs.lemmas.List.{length-drop, drop-drop, get_or-drop, nil_from_length}
use Rattle.std.proofs.lemmas.Option.{same_Some, slice_get_past}
use Rattle.ctf_model.specs.format.Dictionary.{said_by}
use Rattle.ctf_model.specs.symbols.Entries.{SymbolInfo, Signature, entries, entries_of, is_bad_entry, object_type, signature_in}
use Rattle.ctf_model.specs.format.Header.{section}
use Rattle.ctf_model.specs.format.Lists.{Lists}
use Rattle.ctf_model.specs.rules.Refusals.{placeless}
use Rattle.ctf_model.specs.symbols.SymbolQuestions.{info_of_symbol, type_of_object, signature_of_function, or_refused, object_of, function_of, name_of_symbol}
use Rattle.ctf_model.specs.symbols.Symbols.{Symbol, symbol_of, symbols_in, symbols_of, symbols, with_types, is_object, is_function}
use Rattle.ctf_model.specs.declared.sections.Section.TheVariants.{SObjects, SFunctions}
use Rattle.ctf_entries.proofs.Telling.{no_signature}
use Rattle.ctf_entries.specs.Sound.{bad_place}
use Rattle.ctf_symbols.specs.Kept.{lefts_from, lefts_of, last_bytes, sort_in}
use Rattle.ctf_symbols.proofs.Reading.{IsKept, kept_at, end_whole, lefts_there}

-- the parts that the code reads are those of the lists
pub lefts_are : (s : Lists) (strs named : Option (List ℕ)) (table objects functions : List ℕ) → named ≡ strs → strs ≡ s.strs → table ≡ unwrap_or s.sym [] → objects ≡ section s.ctf SObjects → functions ≡ section s.ctf SFunctions
    → lefts_from 0 (symbols_of named table) objects functions ≡ lefts_of s
unfolding symbols
lefts_are s strs named table objects functions n e t o f = rw (n, e, t, o, f) refl

-- ---- a symbol by number

symbol_numbered : (strs : Option (List ℕ)) (n k : ℕ) (b : List ℕ) → k < n → slice_get (symbols_in strs n b) k ≡ Some (symbol_of strs (drop (24 * k) b))
unfolding symbols_in
symbol_numbered strs zero k b lt = absurd (omega arith)
symbol_numbered strs (suc n) zero b lt = refl
symbol_numbered strs (suc n) (suc k) b lt =
    let far : 24 * k + 24 ≡ 24 * suc k = omega arith in
    symbol_numbered strs n k (drop 24 b) (omega arith) ∙ ap (λ (l : List ℕ). Some (symbol_of strs l)) (drop-drop (24 * k) 24 b ∙ ap (λ (m : ℕ). drop m b) (omega arith))

symbols_length : (strs : Option (List ℕ)) (n : ℕ) (b : List ℕ) → length (symbols_in strs n b) ≡ n
unfolding symbols_in
symbols_length strs zero b = refl
symbols_length strs (suc n) b = ap suc (symbols_length strs n (drop 24 b))

-- a missing symbol
pub no_symbol : (strs : Option (List ℕ)) (table : List ℕ) (k : ℕ) → None ≡ sort_in table k → slice_get (symbols_of strs table) k ≡ None
no_symbol strs table k e = at (ltb k (length table / 24)) refl e
  where
    at : (t : Bool) → ltb k (length table / 24) ≡ t → None ≡ sort_in table k → slice_get (symbols_of strs table) k ≡ None
    at true h g = let some : sort_in table k ≡ Some (slice_index table (24 * k + 4) % 16) = rw h refl in absurd cc
    at false h g = slice_get_past (symbols_of strs table) k (omega (arith, symbols_length strs (length table / 24) table, ltb-false k (length table / 24) h))

-- an existing symbol has that type
pub some_symbol : (strs : Option (List ℕ)) (table : List ℕ) (k sort : ℕ) → Some sort ≡ sort_in table k → (x : Symbol) × (slice_get (symbols_of strs table) k ≡ Some x) × (x.sort ≡ sort)
some_symbol strs table k sort e = at (ltb k (length table / 24)) refl e
  where
    at : (t : Bool) → ltb k (length table / 24) ≡ t → Some sort ≡ sort_in table k → (x : Symbol) × (slice_get (symbols_of strs table) k ≡ Some x) × (x.sort ≡ sort)
    at true h g =
        let some : sort_in table k ≡ Some (slice_index table (24 * k + 4) % 16) = rw h refl in
        let is = same_Some sort _ (g ∙ some) in
        (symbol_of strs (drop (24 * k) table), symbol_numbered strs (length table / 24) k table (ltb-true k (length table / 24) h), ap (λ (n : ℕ). n % 16) (get_or-drop (24 * k) table 4 0) ∙ sym is)
    at false h g = let none : sort_in table k ≡ None = rw h refl in absurd cc

-- ---- over the lists of a dictionary

pub not_there : (s : Lists) (table : List ℕ) (k : ℕ) → table ≡ unwrap_or s.sym [] → None ≡ sort_in table k → slice_get (symbols s) k ≡ None
unfolding symbols
not_there s table k t e = ap (λ (b : List ℕ). slice_get (symbols_of s.strs b) k) (sym t) ∙ no_symbol s.strs table k e

pub there : (s : Lists) (table : List ℕ) (k sort : ℕ) → table ≡ unwrap_or s.sym [] → Some sort ≡ sort_in table k → (x : Symbol) × (slice_get (symbols s) k ≡ Some x) × (x.sort ≡ sort)
unfolding symbols
there s table k sort t e = let x = some_symbol s.strs table k sort e in (x.0, ap (λ (b : List ℕ). slice_get (symbols_of s.strs b) k) (sym t) ∙ x.1, x.2)

-- the bytes left in the section where the symbol's entry begins
abbrev pub left_of : Lists → ℕ → ℕ
left_of s k = unwrap_or (slice_get (lefts_of s) k) 0

pub kept_of : (s : Lists) (k : ℕ) (x : Symbol) → bad_place (with_types (symbols s)) (section s.ctf SFunctions) ≡ None → slice_get (symbols s) k ≡ Some x
    → IsKept (section s.ctf SObjects) (section s.ctf SFunctions) x (left_of s k) (info_of_symbol (entries s) k)
unfolding entries
kept_of s k x sound at =
    let o = section s.ctf SObjects in
    let f = section s.ctf SFunctions in
    let same : 0 + k ≡ k = omega arith in
    subst (λ (m : ℕ). IsKept o f x (left_of s k) (info_of_symbol (entries_of (with_types (symbols s)) o f) m)) same
    (kept_at o f 0 (symbols s) k o f (end_whole o) (end_whole f) sound x (left_of s k) at (lefts_there 0 (symbols s) k x o f at))

-- if no bytes are left
nothing : (b : List ℕ) → length (last_bytes 0 b) ≡ 0
nothing b = omega (arith, length-drop (length b - 0) b)

pub object_kept : (o f : List ℕ) (x : Symbol) (left : ℕ) (said : Option SymbolInfo) → IsKept o f x left said → is_object x ≡ true → object_type (last_bytes left o) ≡ type_of_object said
object_kept o f x left said (inl h) is = sym (ap type_of_object h.0 ∙ (rw is refl))
object_kept o f x left said (inr h) is = let none : object_type (last_bytes 0 o) ≡ None = rw (nil_from_length _ (nothing o)) refl in rw (h.0, h.1) none

pub function_kept : (o f : List ℕ) (x : Symbol) (left : ℕ) (said : Option SymbolInfo) → IsKept o f x left said → is_object x ≡ false → signature_in (last_bytes left f) ≡ signature_of_function said
function_kept o f x left said (inl h) is = sym (ap signature_of_function h.0 ∙ (rw is refl))
function_kept o f x left said (inr h) is = rw (h.0, h.1) (no_signature (last_bytes 0 f) (nothing f))

pub function_good : (o f : List ℕ) (x : Symbol) (left : ℕ) (said : Option SymbolInfo) → IsKept o f x left said → is_object x ≡ false → is_bad_entry (last_bytes left f) ≡ false
function_good o f x left said (inl h) is = h.1 is
function_good o f x left said (inr h) is = let none : is_bad_entry (last_bytes 0 f) ≡ false = rw (nothing f) refl in rw h.0 none

-- ---- answers

pub object_missing : (s : Lists) (k : ℕ) → slice_get (symbols s) k ≡ None → Err (placeless 34) ≡ object_of (said_by s) k
unfolding said_by
object_missing s k e = rw e refl

pub object_other : (s : Lists) (k : ℕ) (x : Symbol) → slice_get (symbols s) k ≡ Some x → is_object x ≡ false → Err (placeless 35) ≡ object_of (said_by s) k
unfolding said_by
object_other s k x e is = rw (e, is) refl

pub object_said : (s : Lists) (k : ℕ) (x : Symbol) (o : Option ℕ) → slice_get (symbols s) k ≡ Some x → is_object x ≡ true → o ≡ type_of_object (info_of_symbol (entries s) k) → or_refused 37 o ≡ object_of (said_by s) k
unfolding said_by
object_said s k x o e is t = rw (e, is, t) refl

pub function_missing : (s : Lists) (k : ℕ) → slice_get (symbols s) k ≡ None → Err (placeless 34) ≡ function_of (said_by s) k
unfolding said_by
function_missing s k e = rw e refl

pub function_other : (s : Lists) (k : ℕ) (x : Symbol) → slice_get (symbols s) k ≡ Some x → is_function x ≡ false → Err (placeless 36) ≡ function_of (said_by s) k
unfolding said_by
function_other s k x e is = rw (e, is) refl

pub function_said : (s : Lists) (k : ℕ) (x : Symbol) (o : Option Signature) → slice_get (symbols s) k ≡ Some x → is_function x ≡ true → o ≡ signature_of_function (info_of_symbol (entries s) k) → or_refused 37 o ≡ function_of (said_by s) k
unfolding said_by
function_said s k x o e is t = rw (e, is, t) refl

-- a symbol of this type
pub is_sort : (x : Symbol) (sort n : ℕ) → x.sort ≡ sort → sort ≡ n → eqb x.sort n ≡ true
is_sort x sort n e same = (Decides-eqb x.sort n).1 (e ∙ same)

pub other_sort : (x : Symbol) (sort n : ℕ) → x.sort ≡ sort → sort ≢ n → eqb x.sort n ≡ false
other_sort x sort n e other = ne_eqb x.sort n (λ same. other (sym e ∙ same))

-- the symbols of the parts that the code reads
pub sound_parts : (s : Lists) (strs : Option (List ℕ)) (table functions : List ℕ) → strs ≡ s.strs → table ≡ unwrap_or s.sym [] → functions ≡ section s.ctf SFunctions → bad_place (with_types (symbols_of strs table)) functions ≡ None → bad_place (with_types (symbols s)) (section s.ctf SFunctions) ≡ None
unfolding symbols
sound_parts s strs table functions e t f h = rw (← e, ← t, ← f) h

pub left_is : (s : Lists) (kept : List ℕ) (left k : ℕ) → left ≡ unwrap_or (slice_get kept k) 0 → kept ≡ lefts_of s → left ≡ left_of s k
left_is s kept left k e h = e ∙ ap (λ (l : List ℕ). unwrap_or (slice_get l k) 0) h

pub ending_is : (left l : ℕ) (b c whole : List ℕ) → b ≡ last_bytes left c → left ≡ l → c ≡ whole → b ≡ last_bytes l whole
ending_is left l b c whole e h w = rw (e, h, w) refl

-- ---- names

pub numbered : (strs : Option (List ℕ)) (k : ℕ) (table b : List ℕ) (x : Symbol) → k < length table / 24 → b ≡ drop (24 * k) table → x ≡ symbol_of strs b → Some x ≡ slice_get (symbols_of strs table) k
numbered strs k table b x lt d e = ap (λ (y : Symbol). Some y) (e ∙ ap (symbol_of strs) d) ∙ sym (symbol_numbered strs (length table / 24) k table lt)

pub unnumbered : (strs : Option (List ℕ)) (k : ℕ) (table : List ℕ) → length table / 24 ≤ k → None ≡ slice_get (symbols_of strs table) k
unnumbered strs k table le = sym (slice_get_past (symbols_of strs table) k (omega (arith, symbols_length strs (length table / 24) table)))

pub name_said : (s : Lists) (strs strings : Option (List ℕ)) (table : List ℕ) (k : ℕ) (x : Option Symbol) → strings ≡ strs → strs ≡ s.strs → table ≡ unwrap_or s.sym [] → x ≡ slice_get (symbols_of strings table) k
    → or_refused 34 (option_map (λ y. y.name) x) ≡ name_of_symbol (said_by s) k
unfolding said_by symbols
name_said s strs strings table k x n e t h = rw (h, n, e, t) refl
