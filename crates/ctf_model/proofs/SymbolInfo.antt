-- The computed entries of symbols are those that the sections define, and the only ones.
use Rattle.std.proofs.Common.{◌≡◌, ℕ, zero, suc, ◌+◌, ◌*◌, Bool, true, false, cond, List, [], ◌∷◌, drop, Option, refl, sym, ap, ◌∙◌, arith}
use Rattle.std.specs.Prelude.{map}
use Rattle.std.proofs.lemmas.List.{drop-drop}
use Rattle.ctf_model.specs.symbols.Entries.{Entry, Owner, Signature, SymbolInfo, AreEntries, AreObjects, AreFunctions, entries_of, entries, entry_len, object_type, signature_in, objects_in, functions_in, owner, owner_of}
use Rattle.ctf_model.specs.symbols.Entries as info
use Rattle.ctf_model.specs.format.Header.{section}
use Rattle.ctf_model.specs.format.Lists.{Lists}
use Rattle.ctf_model.specs.symbols.Symbols.{Symbol, symbols, with_types, is_object}
use Rattle.ctf_model.specs.declared.sections.Section.TheVariants.{SObjects, SFunctions}
use Rattle.ctf_model.specs.declared.symbols.SymbolClass.TheVariants.{Object, Function}

-- the entry after the first one
next_entry : (b : List ℕ) (i : ℕ) → drop (2 * i) (drop 2 b) ≡ drop (2 * suc i) b
next_entry b i =
    let far : 2 + 2 * i ≡ 2 * suc i = omega arith in
    drop-drop (2 * i) 2 b ∙ ap (λ (n : ℕ). drop n b) far

-- ---- computed entries are defined by the sections

-- one more object
more_objects : (b : List ℕ) (types : List (Option ℕ)) → AreObjects (drop 2 b) types → AreObjects b (object_type b ∷ types)
more_objects b types h zero lt = refl
more_objects b types h (suc i) lt = h i (omega arith) ∙ ap object_type (next_entry b i)

owners_computed : (xs : List (ℕ × Symbol)) (o f : List ℕ) → map owner_of (entries_of xs o f) ≡ map owner xs
unfolding entries_of
owners_computed [] o f = refl
owners_computed (x ∷ xs) o f = at (is_object x.1) (owners_computed xs (drop 2 o) f) (owners_computed xs o (drop (entry_len f) f))
  where
    at : (c : Bool) → map owner_of (entries_of xs (drop 2 o) f) ≡ map owner xs → map owner_of (entries_of xs o (drop (entry_len f) f)) ≡ map owner xs
        → map owner_of (cond c (record { number = x.0; name = x.1.name; info = info.object (object_type o) } ∷ entries_of xs (drop 2 o) f) (record { number = x.0; name = x.1.name; info = info.function (signature_in f) } ∷ entries_of xs o (drop (entry_len f) f)))
        ≡ record { number = x.0; name = x.1.name; class = cond c Object Function } ∷ map owner xs
    at true objects functions = ap (λ (l : List Owner). record { number = x.0; name = x.1.name; class = Object } ∷ l) objects
    at false objects functions = ap (λ (l : List Owner). record { number = x.0; name = x.1.name; class = Function } ∷ l) functions

objects_computed : (xs : List (ℕ × Symbol)) (o f : List ℕ) → AreObjects o (objects_in (entries_of xs o f))
unfolding entries_of
objects_computed [] o f = λ i lt. absurd (omega arith)
objects_computed (x ∷ xs) o f = at (is_object x.1) (objects_computed xs (drop 2 o) f) (objects_computed xs o (drop (entry_len f) f))
  where
    at : (c : Bool) → AreObjects (drop 2 o) (objects_in (entries_of xs (drop 2 o) f)) → AreObjects o (objects_in (entries_of xs o (drop (entry_len f) f)))
        → AreObjects o (objects_in (cond c (record { number = x.0; name = x.1.name; info = info.object (object_type o) } ∷ entries_of xs (drop 2 o) f) (record { number = x.0; name = x.1.name; info = info.function (signature_in f) } ∷ entries_of xs o (drop (entry_len f) f))))
    at true objects functions = more_objects o (objects_in (entries_of xs (drop 2 o) f)) objects
    at false objects functions = functions

functions_computed : (xs : List (ℕ × Symbol)) (o f : List ℕ) → AreFunctions f (functions_in (entries_of xs o f))
unfolding entries_of
functions_computed [] o f = tt
functions_computed (x ∷ xs) o f = at (is_object x.1) (functions_computed xs (drop 2 o) f) (functions_computed xs o (drop (entry_len f) f))
  where
    at : (c : Bool) → AreFunctions f (functions_in (entries_of xs (drop 2 o) f)) → AreFunctions (drop (entry_len f) f) (functions_in (entries_of xs o (drop (entry_len f) f)))
        → AreFunctions f (functions_in (cond c (record { number = x.0; name = x.1.name; info = info.object (object_type o) } ∷ entries_of xs (drop 2 o) f) (record { number = x.0; name = x.1.name; info = info.function (signature_in f) } ∷ entries_of xs o (drop (entry_len f) f))))
    at true objects functions = objects
    at false objects functions = (refl, functions)

pub entries_said : (s : Lists) → AreEntries (symbols s) (section s.ctf SObjects) (section s.ctf SFunctions) (entries s)
unfolding entries
entries_said s =
    let xs = with_types (symbols s) in
    let o = section s.ctf SObjects in
    let f = section s.ctf SFunctions in
    record { owners = owners_computed xs o f; types = objects_computed xs o f; signatures = functions_computed xs o f }

-- ---- the sections define no others

-- the objects after the first one
fewer_objects : (b : List ℕ) (t : Option ℕ) (types : List (Option ℕ)) → AreObjects b (t ∷ types) → AreObjects (drop 2 b) types
fewer_objects b t types h = λ i lt. h (suc i) (omega arith) ∙ sym (ap object_type (next_entry b i))

-- equal lists have equal first items
same_first : (x y : Owner) (xs ys : List Owner) → x ∷ xs ≡ y ∷ ys → x ≡ y
same_first x y xs ys e = cc

-- equal first entries, with equal others
one_more : (x y : Entry) (xs ys : List Entry) (o f : List ℕ) (a b : SymbolInfo)
    → ((p q : List ℕ) → map owner_of xs ≡ map owner_of ys → AreObjects p (objects_in xs) → AreObjects p (objects_in ys) → AreFunctions q (functions_in xs) → AreFunctions q (functions_in ys) → xs ≡ ys)
    → map owner_of (record x { info = a } ∷ xs) ≡ map owner_of (record y { info = b } ∷ ys)
    → AreObjects o (objects_in (record x { info = a } ∷ xs)) → AreObjects o (objects_in (record y { info = b } ∷ ys))
    → AreFunctions f (functions_in (record x { info = a } ∷ xs)) → AreFunctions f (functions_in (record y { info = b } ∷ ys))
    → record x { info = a } ∷ xs ≡ record y { info = b } ∷ ys
one_more x y xs ys o f (info.object t) (info.object u) next e p q r v =
    let same : t ≡ u = p 0 (omega arith) ∙ sym (q 0 (omega arith)) in
    let later : xs ≡ ys = next (drop 2 o) f (cc) (fewer_objects o t (objects_in xs) p) (fewer_objects o u (objects_in ys) q) r v in
    let first = same_first _ _ _ _ e in
    let number : x.number ≡ y.number = ap (λ (w : Owner). w.number) first in
    let name : x.name ≡ y.name = ap (λ (w : Owner). w.name) first in
    rw (same, later, number, name) refl
one_more x y xs ys o f (info.function t) (info.function u) next e p q r v =
    let same : t ≡ u = r.0 ∙ sym v.0 in
    let later : xs ≡ ys = next o (drop (entry_len f) f) (cc) p q r.1 v.1 in
    let first = same_first _ _ _ _ e in
    let number : x.number ≡ y.number = ap (λ (w : Owner). w.number) first in
    let name : x.name ≡ y.name = ap (λ (w : Owner). w.name) first in
    rw (same, later, number, name) refl
one_more x y xs ys o f (info.object t) (info.function u) next e p q r v = let apart : Object ≡ Function = ap (λ (w : Owner). w.class) (same_first _ _ _ _ e) in absurd cc
one_more x y xs ys o f (info.function t) (info.object u) next e p q r v = let apart : Function ≡ Object = ap (λ (w : Owner). w.class) (same_first _ _ _ _ e) in absurd cc

one_told : (es fs : List Entry) (o f : List ℕ) → map owner_of es ≡ map owner_of fs → AreObjects o (objects_in es) → AreObjects o (objects_in fs) → AreFunctions f (functions_in es) → AreFunctions f (functions_in fs) → es ≡ fs
one_told [] [] o f e p q r t = refl
one_told [] (y ∷ ys) o f e p q r t = absurd cc
one_told (x ∷ xs) [] o f e p q r t = absurd cc
one_told (x ∷ xs) (y ∷ ys) o f e p q r t = one_more x y xs ys o f x.info y.info (one_told xs ys) e p q r t

pub one_entries : (xs : List Symbol) (o f : List ℕ) (es fs : List Entry) → AreEntries xs o f es → AreEntries xs o f fs → es ≡ fs
one_entries xs o f es fs p q = one_told es fs o f (p.owners ∙ sym q.owners) p.types q.types p.signatures q.signatures
