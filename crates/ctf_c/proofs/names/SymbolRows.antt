-- A symbol has 24 bytes.
use Rattle.std.proofs.Common.{◌≡◌, ℕ, zero, suc, ◌+◌, ◌*◌, ◌/◌, ◌%◌, ◌<◌, ◌≤◌, List, [], length, drop, Option, Some, Ok, refl, sym, ap, ◌∙◌, arith}
use Rattle.std.specs.Prelude.{slice_get, slice_index, unwrap_or}
use Rattle.std.proofs.lemmas.List.{drop-drop, length-drop}
use Rattle.ctf_c.specs.Given.{Gives}
use Rattle.ctf_c.specs.ItemRows.{TellsSymbol, class_of_sort, return_of}
use Rattle.ctf_c.specs.declared.symbol_rows.GivenSymbolRow.{GivenSymbolRow}
use Rattle.ctf_c.specs.names.Places.{text_in}
use Rattle.ctf_model.specs.format.Bytes.{u32_at}
use Rattle.ctf_model.specs.format.Dictionary.{said_by}
use Rattle.ctf_model.specs.format.Lists.{Lists}
use Rattle.ctf_model.specs.opened.Open.{Open, own_in}
use Rattle.ctf_model.specs.symbols.SymbolQuestions.{function_of, object_of}
use Rattle.ctf_model.specs.symbols.Symbols.{symbol_name, symbol_of, symbols, symbols_in}

symbol_numbered : (strs : Option (List ℕ)) (n k : ℕ) (b : List ℕ) → k < n → slice_get (symbols_in strs n b) k ≡ Some (symbol_of strs (drop (24 * k) b))
unfolding symbols_in
symbol_numbered strs zero k b lt = absurd (omega arith)
symbol_numbered strs (suc n) zero b lt = refl
symbol_numbered strs (suc n) (suc k) b lt =
    symbol_numbered strs n k (drop 24 b) (omega arith) ∙ ap (λ (l : List ℕ). Some (symbol_of strs l)) (drop-drop (24 * k) 24 b ∙ ap (λ (m : ℕ). drop m b) (omega arith))

symbols_length : (strs : Option (List ℕ)) (n : ℕ) (b : List ℕ) → length (symbols_in strs n b) ≡ n
unfolding symbols_in
symbols_length strs zero b = refl
symbols_length strs (suc n) b = ap suc (symbols_length strs n (drop 24 b))

-- the number of symbols
pub symbols_counted : (s : Lists) (table : List ℕ) → table ≡ unwrap_or s.sym [] → length table / 24 ≡ length (said_by s).symbols
unfolding said_by symbols
symbols_counted s table t = rw t (sym (symbols_length s.strs (length (unwrap_or s.sym []) / 24) (unwrap_or s.sym [])))

-- the symbol with a number
pub symbol_there : (s : Lists) (table : List ℕ) (n : ℕ) → table ≡ unwrap_or s.sym [] → n < length table / 24 → slice_get (said_by s).symbols n ≡ Some (symbol_of s.strs (drop (24 * n) table))
unfolding said_by symbols
symbol_there s table n t lt = rw t (symbol_numbered s.strs (length (unwrap_or s.sym []) / 24) n (unwrap_or s.sym []) (rw t at lt))

-- its bytes are inside the table
pub symbol_inside : (s : Lists) (table : List ℕ) (n : ℕ) → table ≡ unwrap_or s.sym [] → n < length (said_by s).symbols → 24 * n + 24 ≤ length table
symbol_inside s table n t lt = let many = symbols_counted s table t in omega (arith, many, lt)

pub symbol_whole : (s : Lists) (table b : List ℕ) (n : ℕ) → table ≡ unwrap_or s.sym [] → n < length (said_by s).symbols → b ≡ drop (24 * n) table → 24 ≤ length b
symbol_whole s table b n t lt at =
    let inside = symbol_inside s table n t lt in
    rw at (omega (arith, inside, length-drop (24 * n) table))

-- the row of the bytes at its offset is the row of the symbol
pub symbol_told : (d : Open) (n : ℕ) (table b : List ℕ) (row : GivenSymbolRow) → table ≡ unwrap_or d.own.lists.sym [] → n < length (own_in d).symbols → b ≡ drop (24 * n) table
    → row.number ≡ n → row.symbol_class ≡ class_of_sort (slice_index b 4 % 16)
    → (row.symbol_class ≡ 2 → Gives (return_of (function_of (own_in d) n)) row.type_status 0 row.tnum)
    → ((row.symbol_class ≡ 2 → ⊥) → Gives (object_of (own_in d) n) row.type_status 0 row.tnum)
    → text_in d.own.lists row.name_list row.name_at ≡ Some (symbol_name d.own.lists.strs (u32_at b 0))
    → TellsSymbol (Some d) n row
symbol_told d n table b row t lt at number class function object name =
    let many = symbols_counted d.own.lists table t in
    let there = symbol_there d.own.lists table n t (omega (arith, many, lt)) ∙ ap (λ (l : List ℕ). Some (symbol_of d.own.lists.strs l)) (sym at) in
    record {
      number = number;
      class = rw there (ap Ok (sym class));
      function = function;
      object = object;
      name = (symbol_name d.own.lists.strs (u32_at b 0), rw there refl, name);
    }
