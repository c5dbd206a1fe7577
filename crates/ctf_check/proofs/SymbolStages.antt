-- The faults of symbols, one rule after another.
use Rattle.std.proofs.Common.{◌≡◌, ℕ, ◌%◌, ◌<◌, Bool, true, ltb, List, [], length, Option, Some, None, refl, ◌∙◌}
use Rattle.std.specs.Prelude.{unwrap_or}
use Rattle.std.proofs.lemmas.Bool.{lt-ltb}
use Rattle.ctf_model.specs.symbols.Entries.{Entry, entries, entries_of, function_sites}
use Rattle.ctf_model.specs.rules.Faults.{bad_funcs, bad_symbol_type, or_later, types}
use Rattle.ctf_model.specs.declared.faults.Fault.{Fault}
use Rattle.ctf_model.specs.declared.faults.TheConstants.Fault.{BAD_FUNCS, BAD_SYMBOL_TYPE}
use Rattle.ctf_model.specs.format.Header.{fields, is_child, section}
use Rattle.ctf_model.specs.format.Lists.{Lists}
use Rattle.ctf_model.specs.symbols.Symbols.{Symbol, symbols, symbols_of, with_types}
use Rattle.ctf_model.specs.declared.sections.Section.TheVariants.{SObjects, SFunctions}
use Rattle.ctf_entries.specs.Sound.{bad_place}
use Rattle.ctf_check.specs.Stages.{entries_fault, first_missing, symbols_fault}

-- ---- the parts that the code reads

pub funcs_are : (s : Lists) (table functions : List ℕ) → table ≡ unwrap_or s.sym [] → functions ≡ section s.ctf SFunctions → bad_place (with_types (symbols_of s.strs table)) functions ≡ bad_funcs s
unfolding bad_place bad_funcs function_sites symbols
funcs_are s table functions e f = rw (e, f) refl

pub entries_are : (s : Lists) (table objects functions : List ℕ) → table ≡ unwrap_or s.sym [] → objects ≡ section s.ctf SObjects → functions ≡ section s.ctf SFunctions → entries_of (with_types (symbols_of s.strs table)) objects functions ≡ entries s
unfolding entries symbols
entries_are s table objects functions e o f = rw (e, o, f) refl

mistold_are : (s : Lists) (child : Bool) (count : ℕ) (es : List Entry) → es ≡ entries s → child ≡ is_child (fields s.ctf) → count ≡ length (types s.ctf) → first_missing child count es ≡ bad_symbol_type s
unfolding bad_symbol_type
mistold_are s child count es e c n = rw (e, c, n) refl

-- ---- stage by stage

-- the fault of the entries is that of the two rules
pub entries_fault_is : (s : Lists) (child : Bool) (count : ℕ) (strs : Option (List ℕ)) (table objects functions : List ℕ) (xs : List (ℕ × Symbol)) → xs ≡ with_types (symbols_of strs table) → strs ≡ s.strs → table ≡ unwrap_or s.sym [] → objects ≡ section s.ctf SObjects → functions ≡ section s.ctf SFunctions → child ≡ is_child (fields s.ctf) → count ≡ length (types s.ctf)
    → entries_fault child count xs objects functions ≡ or_later BAD_FUNCS (bad_funcs s) (or_later BAD_SYMBOL_TYPE (bad_symbol_type s) None)
entries_fault_is s child count strs table objects functions xs all names e o f c n =
    rw (all, names, funcs_are s table functions e f, mistold_are s child count _ (entries_are s table objects functions e o f) c n) refl

later_fault : (code : ℕ) (a : Option ℕ) (rest more : Option Fault) (f : Fault) → ((g : Fault) → rest ≡ Some g → more ≡ Some g) → or_later code a rest ≡ Some f → or_later code a more ≡ Some f
later_fault code (Some p) rest more f h e = e
later_fault code None rest more f h e = h f e

pub at_entries : (s : Lists) (f : Fault) → or_later BAD_FUNCS (bad_funcs s) (or_later BAD_SYMBOL_TYPE (bad_symbol_type s) None) ≡ Some f → symbols_fault s ≡ Some f
at_entries s f e = later_fault BAD_FUNCS (bad_funcs s) _ _ f (λ g. later_fault BAD_SYMBOL_TYPE (bad_symbol_type s) None _ g (λ h none. absurd cc)) e

behind_entries : (a b : Option ℕ) (rest : Option Fault) → or_later BAD_FUNCS a (or_later BAD_SYMBOL_TYPE b None) ≡ None → or_later BAD_FUNCS a (or_later BAD_SYMBOL_TYPE b rest) ≡ rest
behind_entries (Some p) b rest e = absurd cc
behind_entries None (Some p) rest e = absurd cc
behind_entries None None rest e = refl

pub at_table : (s : Lists) (table : List ℕ) → or_later BAD_FUNCS (bad_funcs s) (or_later BAD_SYMBOL_TYPE (bad_symbol_type s) None) ≡ None → table ≡ unwrap_or s.sym [] → 0 < length table % 24 → symbols_fault s ≡ Some (record { code = 19; place = 0 })
at_table s table e t more = let test : ltb 0 (length (unwrap_or s.sym []) % 24) ≡ true = rw (← t) (lt-ltb 0 (length table % 24) more) in behind_entries (bad_funcs s) (bad_symbol_type s) _ e ∙ rw test refl

pub past_table : (s : Lists) (table : List ℕ) → or_later BAD_FUNCS (bad_funcs s) (or_later BAD_SYMBOL_TYPE (bad_symbol_type s) None) ≡ None → table ≡ unwrap_or s.sym [] → length table % 24 ≡ 0 → symbols_fault s ≡ None
past_table s table e t none = let whole : length (unwrap_or s.sym []) % 24 ≡ 0 = rw (← t) none in behind_entries (bad_funcs s) (bad_symbol_type s) _ e ∙ rw whole refl
