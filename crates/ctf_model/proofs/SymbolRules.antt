-- The rules of symbols agree with their facts: symbols are numbered in ascending order.
use Rattle.std.proofs.Common.{◌≡◌, ℕ, ◌+◌, ◌%◌, ◌≤◌, Bool, true, false, cond, List, [], ◌∷◌, length, drop, Option, Some, None, Result, refl, sym, ap, subst, ◌∙◌, arith, ◌⊎◌, inl, inr}
use Rattle.std.specs.Prelude.{not, unwrap_or, Any}
use Rattle.std.specs.Bool.{Decides}
use Rattle.std.specs.List.{list_any}
use Rattle.std.proofs.lemmas.Bool.{false≢true}
use Rattle.std.proofs.lemmas.Bool.Decides.{Decides-eqb, Decides-ltb, Decides-not, Decides-or, Decides-and}
use Rattle.std.proofs.lemmas.List.Folds.{Any-from_list_any, list_any-from_Any}
use Rattle.ctf_model.specs.symbols.Entries.{Entry, FunctionSite, is_bad_entry, is_silent, kind_number, entry_len, entries_of, entries, function_sites_of, function_sites, types_named, object_type, signature_in}
use Rattle.ctf_model.specs.symbols.Entries as info
use Rattle.ctf_model.specs.rules.Faults.{first_where, bad_funcs, bad_symbol_type, bad_symtab, tells_missing, types}
use Rattle.ctf_model.specs.format.Header.{fields, is_child, section}
use Rattle.ctf_model.specs.format.Lists.{Lists}
use Rattle.ctf_model.specs.rules.References.{is_missing}
use Rattle.ctf_model.specs.rules.Rules.{IsBroken, Keeps, IsBadEntry, IsMissing, TellsMissing, BadSymbolType}
use Rattle.ctf_model.specs.format.Section.{Piece, IsCut}
use Rattle.ctf_model.specs.symbols.Symbols.{Symbol, symbols, with_types, considered_from, is_considered, is_object}
use Rattle.ctf_model.specs.declared.sections.Section.TheVariants.{SObjects, SFunctions, STypes}
use Rattle.ctf_model.specs.declared.faults.Fault.{Fault}
use Rattle.ctf_model.proofs.Anywhere.{any_here, any_there, any_split, any_map}
use Rattle.ctf_model.proofs.Cut.{one_cut}
use Rattle.ctf_model.proofs.FirstFault.{Agrees, agrees_as, test_agrees}
use Rattle.ctf_model.proofs.RecordRules.{kept_records, length_all, types_cut}
use Rattle.ctf_model.proofs.ReferenceRules.{missing_true, true_missing}
use Rattle.ctf_model.proofs.SymbolInfo.{entries_said, one_entries}

-- ---- the first of items by ascending places

-- the places ascend strictly, from `low` on
abbrev pub AreRising : {X : Type 0} → (X → ℕ) → ℕ → List X → Type 0
AreRising place low [] = Unit {0}
AreRising place low (x ∷ xs) = (low ≤ place x) × AreRising place (place x + 1) xs

-- places that ascend from one start also ascend from a lower one
pub rising_lower : {X : Type 0} (place : X → ℕ) (low high : ℕ) (xs : List X) → low ≤ high → AreRising place high xs → AreRising place low xs
rising_lower place low high [] le r = tt
rising_lower place low high (x ∷ xs) le r = let from = r.0 in (omega arith, r.1)

-- the fact holds of an item at place `p`
abbrev pub HoldsAtPlace : {X : Type 0} → (X → ℕ) → (X → Type 0) → List X → ℕ → Type 0
HoldsAtPlace place Fact xs p = Any (λ x. (place x ≡ p) × Fact x) xs

-- it holds of no item below the lowest place
none_below : {X : Type 0} (place : X → ℕ) (Fact : X → Type 0) (xs : List X) (low p : ℕ) → AreRising place low xs → HoldsAtPlace place Fact xs p → low ≤ p
none_below place Fact [] low p r a = let lt = a.2 in absurd (omega arith)
none_below place Fact (x ∷ xs) low p r a = at (any_split _ x xs a) (none_below place Fact xs (place x + 1) p r.1)
  where
    at : ((place x ≡ p) × Fact x) ⊎ HoldsAtPlace place Fact xs p → (HoldsAtPlace place Fact xs p → place x + 1 ≤ p) → low ≤ p
    at (inl here) next = let from = r.0 in let same = here.0 in omega arith
    at (inr later) next = let from = r.0 in let behind = next later in omega arith

-- the first item that passes the test of a fact is at the least place where the fact holds
pub first_agrees : {X : Type 0} (test : X → Bool) (place : X → ℕ) (Fact : X → Type 0) → ((x : X) → Decides (test x) (Fact x)) → (xs : List X) (low : ℕ) → AreRising place low xs → Agrees (first_where test place xs) (HoldsAtPlace place Fact xs)
first_agrees test place Fact decides [] low r = λ p a. let lt = a.2 in absurd (omega arith)
first_agrees {X} test place Fact decides (x ∷ xs) low r = at (test x) (decides x) (first_where test place xs) (first_agrees test place Fact decides xs (place x + 1) r.1)
  where
    later_only : (p : ℕ) → (Fact x → ⊥) → HoldsAtPlace place Fact (x ∷ xs) p → HoldsAtPlace place Fact xs p
    later_only p no_fact a = go (any_split _ x xs a)
      where
        go : ((place x ≡ p) × Fact x) ⊎ HoldsAtPlace place Fact xs p → HoldsAtPlace place Fact xs p
        go (inl here) = absurd (no_fact here.1)
        go (inr later) = later

    at : (b : Bool) → Decides b (Fact x) → (later : Option ℕ) → Agrees later (HoldsAtPlace place Fact xs) → Agrees (cond b (Some (place x)) later) (HoldsAtPlace place Fact (x ∷ xs))
    at true d later h = (any_here _ x xs (refl, d.0 refl), λ q lt a. let low = none_below place Fact (x ∷ xs) (place x) q (omega arith, r.1) a in absurd (omega arith))
    at false d None h = λ p a. h p (later_only p (λ fact. false≢true (d.1 fact)) a)
    at false d (Some p) h = (any_there _ x xs h.0, λ q lt a. h.1 q lt (later_only q (λ fact. false≢true (d.1 fact)) a))

-- ---- considered symbols by ascending numbers

pub considered_rising : (n : ℕ) (xs : List Symbol) → AreRising (λ (x : ℕ × Symbol). x.0) n (considered_from n xs)
considered_rising n [] = tt
considered_rising n (x ∷ xs) = at (is_considered (n, x)) (considered_rising (n + 1) xs)
  where
    at : (b : Bool) → AreRising (λ (x : ℕ × Symbol). x.0) (n + 1) (considered_from (n + 1) xs) → AreRising (λ (x : ℕ × Symbol). x.0) n (cond b ((n, x) ∷ considered_from (n + 1) xs) (considered_from (n + 1) xs))
    at true later = (omega arith, later)
    at false later = rising_lower (λ (x : ℕ × Symbol). x.0) n (n + 1) (considered_from (n + 1) xs) (omega arith) later

pub sites_rising : (xs : List (ℕ × Symbol)) (b : List ℕ) (low : ℕ) → AreRising (λ (x : ℕ × Symbol). x.0) low xs → AreRising (λ (site : FunctionSite). site.number) low (function_sites_of xs b)
unfolding function_sites_of
sites_rising [] b low r = tt
sites_rising (x ∷ xs) b low r = at (is_object x.1) (sites_rising xs b (x.0 + 1) r.1) (sites_rising xs (drop (entry_len b) b) (x.0 + 1) r.1)
  where
    at : (c : Bool) → AreRising (λ (site : FunctionSite). site.number) (x.0 + 1) (function_sites_of xs b) → AreRising (λ (site : FunctionSite). site.number) (x.0 + 1) (function_sites_of xs (drop (entry_len b) b)) → AreRising (λ (site : FunctionSite). site.number) low (cond c (function_sites_of xs b) (record { number = x.0; left = b } ∷ function_sites_of xs (drop (entry_len b) b)))
    at true objects functions = let from = r.0 in rising_lower (λ (site : FunctionSite). site.number) low (x.0 + 1) (function_sites_of xs b) (omega arith) objects
    at false objects functions = (r.0, functions)

pub entries_rising : (xs : List (ℕ × Symbol)) (o f : List ℕ) (low : ℕ) → AreRising (λ (x : ℕ × Symbol). x.0) low xs → AreRising (λ (e : Entry). e.number) low (entries_of xs o f)
unfolding entries_of
entries_rising [] o f low r = tt
entries_rising (x ∷ xs) o f low r = at (is_object x.1) (entries_rising xs (drop 2 o) f (x.0 + 1) r.1) (entries_rising xs o (drop (entry_len f) f) (x.0 + 1) r.1)
  where
    at : (c : Bool) → AreRising (λ (e : Entry). e.number) (x.0 + 1) (entries_of xs (drop 2 o) f) → AreRising (λ (e : Entry). e.number) (x.0 + 1) (entries_of xs o (drop (entry_len f) f))
        → AreRising (λ (e : Entry). e.number) low (cond c (record { number = x.0; name = x.1.name; info = info.object (object_type o) } ∷ entries_of xs (drop 2 o) f) (record { number = x.0; name = x.1.name; info = info.function (signature_in f) } ∷ entries_of xs o (drop (entry_len f) f)))
    at true objects functions = (r.0, objects)
    at false objects functions = (r.0, functions)

-- ---- the rules

bad_entry_decides : (b : List ℕ) → Decides (is_bad_entry b) (IsBadEntry b)
bad_entry_decides b =
    Decides-and _ _ (Decides-ltb 0 (length b))
    (Decides-or _ _ (Decides-ltb (length b) (entry_len b)) (Decides-and _ _ (not_silent (is_silent b)) (Decides-not _ (Decides-eqb (kind_number b) 5))))
  where
    not_silent : (c : Bool) → Decides (not c) (c ≡ false)
    not_silent true = (λ e. absurd (false≢true e), λ e. absurd (false≢true (sym e)))
    not_silent false = (λ e. refl, λ e. refl)

pub bad_funcs_agrees : (s : Lists) → Agrees (bad_funcs s) (IsBroken s 17)
unfolding bad_funcs function_sites
bad_funcs_agrees s = first_agrees (λ (site : FunctionSite). is_bad_entry site.left) (λ (site : FunctionSite). site.number) (λ (site : FunctionSite). IsBadEntry site.left) (λ site. bad_entry_decides site.left) (function_sites s) 0 (sites_rising (with_types (symbols s)) (section s.ctf SFunctions) 0 (considered_rising 0 (symbols s)))

-- the test for a missing number decides the fact
missing_decides : (child : Bool) (count : ℕ) (ts : List ℕ) → Decides (list_any (is_missing child count) ts) (Any (IsMissing child count) ts)
missing_decides child count ts = (
  λ e. any_map _ (IsMissing child count) (missing_true child count) ts (Any-from_list_any (is_missing child count) ts e),
  λ a. list_any-from_Any (is_missing child count) ts (any_map (IsMissing child count) _ (true_missing child count) ts a),
)

-- the entry of symbol number `p` refers to a missing type, in a dictionary of `count` types
abbrev HasMissingType : Lists → ℕ → ℕ → Type 0
HasMissingType s count p = Any (λ e. (e.number ≡ p) × TellsMissing (is_child (fields s.ctf)) count e) (entries s)

mistold_agrees : (s : Lists) (count : ℕ) → Agrees (first_where (tells_missing (is_child (fields s.ctf)) count) (λ (e : Entry). e.number) (entries s)) (HasMissingType s count)
unfolding entries
mistold_agrees s count = first_agrees (tells_missing (is_child (fields s.ctf)) count) (λ (e : Entry). e.number) (TellsMissing (is_child (fields s.ctf)) count) (λ e. missing_decides (is_child (fields s.ctf)) count (types_named e.info)) (entries s) 0 (entries_rising (with_types (symbols s)) (section s.ctf SObjects) (section s.ctf SFunctions) 0 (considered_rising 0 (symbols s)))

-- if the earlier rules are kept, the rule agrees with its fact
pub bad_symbol_type_agrees : (s : Lists) → Keeps s 18 → Agrees (bad_symbol_type s) (IsBroken s 18)
unfolding bad_symbol_type
bad_symbol_type_agrees s keeps = by_cut (kept_records s 18 (omega arith) keeps)
  where
    to : (parts : List (List ℕ)) (rest : List ℕ) → IsCut (section s.ctf STypes) parts rest → (p : ℕ) → HasMissingType s (length parts) p → BadSymbolType s p
    to parts rest cut p a = (parts, rest, cut, entries s, entries_said s, a)

    from : (parts : List (List ℕ)) (rest : List ℕ) → IsCut (section s.ctf STypes) parts rest → (p : ℕ) → BadSymbolType s p → HasMissingType s (length parts) p
    from parts rest cut p h =
        let cuts = (one_cut parts h.0 (section s.ctf STypes) (section s.ctf STypes) rest h.1 refl cut h.2).0 in
        let same = one_entries (symbols s) (section s.ctf SObjects) (section s.ctf SFunctions) (entries s) h.3 (entries_said s) h.4 in
        let info = subst (λ (ps : List (List ℕ)). Any (λ e. (e.number ≡ p) × TellsMissing (is_child (fields s.ctf)) (length ps) e) h.3) (sym cuts) h.5 in
        subst (λ (es : List Entry). Any (λ e. (e.number ≡ p) × TellsMissing (is_child (fields s.ctf)) (length parts) e) es) (sym same) info

    by_cut : ((parts : List (List ℕ)) × (rest : List ℕ) × IsCut (section s.ctf STypes) parts rest × (length rest ≡ 0)) → Agrees (first_where (tells_missing (is_child (fields s.ctf)) (length (types s.ctf))) (λ (e : Entry). e.number) (entries s)) (IsBroken s 18)
    by_cut r =
        let same = types_cut s.ctf r.0 r.1 r.2 in
        let count : length (types s.ctf) ≡ length r.0 = ap (λ (rs : List (Result Piece Fault)). length rs) same ∙ length_all r.0 r.1 1 0 r.3 in
        rw count (agrees_as _ (HasMissingType s (length r.0)) (IsBroken s 18) (to r.0 r.1 r.2) (from r.0 r.1 r.2) (mistold_agrees s (length r.0)))

pub bad_symtab_agrees : (s : Lists) → Agrees (bad_symtab s) (IsBroken s 19)
bad_symtab_agrees s = test_agrees _ _ (Decides-ltb 0 (length (unwrap_or s.sym []) % 24))
