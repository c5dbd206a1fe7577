-- The entries of symbols, one after another.
use Rattle.std.proofs.Common.{◌≡◌, ℕ, Bool, true, false, cond, List, [], ◌∷◌, drop, Option, Some, None, refl, sym, ◌∙◌}
use Rattle.std.specs.List.{list_any}
use Rattle.std.specs.Option.{option_or}
use Rattle.ctf_model.specs.rules.References.{is_missing}
use Rattle.ctf_model.specs.symbols.Entries.{entries_of, entry_len, function_sites_of, is_bad_entry, signature_in, object_type, types_named}
use Rattle.ctf_model.specs.symbols.Entries as info
use Rattle.ctf_model.specs.symbols.Symbols.{Symbol, is_object}
use Rattle.ctf_entries.specs.Sound.{bad_place}
use Rattle.ctf_check.specs.Stages.{first_missing, entries_fault}

-- ---- the first function with a bad entry

bad_none : (f : List ℕ) → bad_place [] f ≡ None
unfolding bad_place function_sites_of
bad_none f = refl

bad_object : (x : ℕ × Symbol) (xs : List (ℕ × Symbol)) (f : List ℕ) → is_object x.1 ≡ true → bad_place (x ∷ xs) f ≡ bad_place xs f
unfolding bad_place function_sites_of
bad_object x xs f is = rw is refl

bad_here : (x : ℕ × Symbol) (xs : List (ℕ × Symbol)) (f : List ℕ) → is_object x.1 ≡ false → is_bad_entry f ≡ true → bad_place (x ∷ xs) f ≡ Some x.0
unfolding bad_place function_sites_of
bad_here x xs f is bad = rw (is, bad) refl

bad_behind : (x : ℕ × Symbol) (xs : List (ℕ × Symbol)) (f : List ℕ) → is_object x.1 ≡ false → is_bad_entry f ≡ false → bad_place (x ∷ xs) f ≡ bad_place xs (drop (entry_len f) f)
unfolding bad_place function_sites_of
bad_behind x xs f is good = rw (is, good) refl

-- ---- the first symbol with a missing type

-- the number found so far, or that of the first remaining symbol
abbrev pub missing_type_from : Bool → ℕ → Option ℕ → List (ℕ × Symbol) → List ℕ → List ℕ → Option ℕ
missing_type_from child count found xs o f = option_or found (first_missing child count (entries_of xs o f))

or_here : (found : Option ℕ) (breaks : Bool) (n : ℕ) (rest : Option ℕ) → option_or (option_or found (cond breaks (Some n) None)) rest ≡ option_or found (cond breaks (Some n) rest)
or_here (Some p) breaks n rest = refl
or_here None true n rest = refl
or_here None false n rest = refl

mistold_object : (child : Bool) (count : ℕ) (found : Option ℕ) (x : ℕ × Symbol) (xs : List (ℕ × Symbol)) (o f : List ℕ) → is_object x.1 ≡ true
    → missing_type_from child count (option_or found (cond (list_any (is_missing child count) (types_named (info.object (object_type o)))) (Some x.0) None)) xs (drop 2 o) f ≡ missing_type_from child count found (x ∷ xs) o f
unfolding entries_of
mistold_object child count found x xs o f is = rw is (or_here found _ x.0 _)

mistold_function : (child : Bool) (count : ℕ) (found : Option ℕ) (x : ℕ × Symbol) (xs : List (ℕ × Symbol)) (o f : List ℕ) → is_object x.1 ≡ false
    → missing_type_from child count (option_or found (cond (list_any (is_missing child count) (types_named (info.function (signature_in f)))) (Some x.0) None)) xs o (drop (entry_len f) f) ≡ missing_type_from child count found (x ∷ xs) o f
unfolding entries_of
mistold_function child count found x xs o f is = rw is (or_here found _ x.0 _)

-- ---- both, symbol by symbol

-- the result for the remaining symbols is that for all
pub record GoesOn (child : Bool) (count : ℕ) (all : List (ℕ × Symbol)) (objects functions : List ℕ)
    (found : Option ℕ) (xs : List (ℕ × Symbol)) (o f : List ℕ) : Type 0 where
  pub bad : bad_place xs f ≡ bad_place all functions
  pub missing : missing_type_from child count found xs o f ≡ first_missing child count (entries_of all objects functions)

pub at_start : (child : Bool) (count : ℕ) (all : List (ℕ × Symbol)) (o f : List ℕ) → GoesOn child count all o f None all o f
at_start child count all o f = record { bad = refl; missing = refl }

pub past_object : (child : Bool) (count : ℕ) (all : List (ℕ × Symbol)) (objects functions : List ℕ) (found next : Option ℕ) (left : List (ℕ × Symbol)) (x : ℕ × Symbol) (xs : List (ℕ × Symbol)) (o p f : List ℕ) (t : Option ℕ) (b : Bool) → left ≡ x ∷ xs → is_object x.1 ≡ true
    → t ≡ object_type o → b ≡ list_any (is_missing child count) (types_named (info.object t)) → next ≡ option_or found (cond b (Some x.0) None) → p ≡ drop 2 o
    → GoesOn child count all objects functions found left o f → GoesOn child count all objects functions next xs p f
past_object child count all objects functions found next left x xs o p f t b e is said misses place d h =
    let before : GoesOn child count all objects functions found (x ∷ xs) o f = rw e at h in
    record {
      bad = sym (bad_object x xs f is) ∙ before.bad;
      missing = rw (place, misses, said, d) (mistold_object child count found x xs o f is ∙ before.missing);
    }

pub past_function : (child : Bool) (count : ℕ) (all : List (ℕ × Symbol)) (objects functions : List ℕ) (found next : Option ℕ) (left : List (ℕ × Symbol)) (x : ℕ × Symbol) (xs : List (ℕ × Symbol)) (o f g : List ℕ) (s : Option info.Signature) (b : Bool) → left ≡ x ∷ xs → is_object x.1 ≡ false → is_bad_entry f ≡ false
    → s ≡ signature_in f → b ≡ list_any (is_missing child count) (types_named (info.function s)) → next ≡ option_or found (cond b (Some x.0) None) → g ≡ drop (entry_len f) f
    → GoesOn child count all objects functions found left o f → GoesOn child count all objects functions next xs o g
past_function child count all objects functions found next left x xs o f g s b e is good said misses place d h =
    let before : GoesOn child count all objects functions found (x ∷ xs) o f = rw e at h in
    record {
      bad = rw d (sym (bad_behind x xs f is good) ∙ before.bad);
      missing = rw (place, misses, said, d) (mistold_function child count found x xs o f is ∙ before.missing);
    }

-- ---- the end of the walk

pub at_bad : (child : Bool) (count : ℕ) (all : List (ℕ × Symbol)) (objects functions : List ℕ) (found : Option ℕ) (left : List (ℕ × Symbol)) (x : ℕ × Symbol) (xs : List (ℕ × Symbol)) (o f : List ℕ) → left ≡ x ∷ xs → is_object x.1 ≡ false → is_bad_entry f ≡ true
    → GoesOn child count all objects functions found left o f → entries_fault child count all objects functions ≡ Some (record { code = 17; place = x.0 })
at_bad child count all objects functions found left x xs o f e is bad h =
    let before : GoesOn child count all objects functions found (x ∷ xs) o f = rw e at h in
    let here : bad_place all functions ≡ Some x.0 = sym before.bad ∙ bad_here x xs f is bad in
    rw here refl

none_bad : (child : Bool) (count : ℕ) (all : List (ℕ × Symbol)) (objects functions : List ℕ) (found : Option ℕ) (left : List (ℕ × Symbol)) (o f : List ℕ) → left ≡ [] → GoesOn child count all objects functions found left o f → bad_place all functions ≡ None
none_bad child count all objects functions found left o f e h = sym h.bad ∙ rw e (bad_none f)

all_told : (child : Bool) (count : ℕ) (all : List (ℕ × Symbol)) (objects functions : List ℕ) (found : Option ℕ) (left : List (ℕ × Symbol)) (o f : List ℕ) → left ≡ [] → GoesOn child count all objects functions found left o f → found ≡ first_missing child count (entries_of all objects functions)
unfolding entries_of
all_told child count all objects functions None left o f e h = rw e at h.missing
all_told child count all objects functions (Some p) left o f e h = h.missing

pub at_mistold : (child : Bool) (count : ℕ) (all : List (ℕ × Symbol)) (objects functions : List ℕ) (found : Option ℕ) (left : List (ℕ × Symbol)) (o f : List ℕ) (p : ℕ) → left ≡ [] → found ≡ Some p
    → GoesOn child count all objects functions found left o f → entries_fault child count all objects functions ≡ Some (record { code = 18; place = p })
at_mistold child count all objects functions found left o f p e is h =
    rw (none_bad child count all objects functions found left o f e h, ← all_told child count all objects functions found left o f e h, is) refl

pub at_good : (child : Bool) (count : ℕ) (all : List (ℕ × Symbol)) (objects functions : List ℕ) (found : Option ℕ) (left : List (ℕ × Symbol)) (o f : List ℕ) → left ≡ [] → found ≡ None
    → GoesOn child count all objects functions found left o f → entries_fault child count all objects functions ≡ None
at_good child count all objects functions found left o f e is h =
    rw (none_bad child count all objects functions found left o f e h, ← all_told child count all objects functions found left o f e h, is) refl
