-- Rows and single calls: a row gives the answer of the single call.
use Rattle.std.proofs.Common.{◌≡◌, ℕ, ◌+◌, ◌<◌, List, length, Option, Some, Result, Ok, Err, refl, sym, ap, ◌∙◌, arith}
use Rattle.std.specs.Prelude.{slice_get}
use Rattle.ctf_c.proofs.names.Parts.{one_there}
use Rattle.ctf_c.specs.Given.{Gives, ask}
use Rattle.ctf_c.specs.ItemRows.{IsArgument, TellsSymbol, arguments_answered, named_list, return_of}
use Rattle.ctf_c.specs.Rowed.{GivesRows}
use Rattle.ctf_c.specs.TypeRows.{TellsType}
use Rattle.ctf_c.specs.declared.symbol_rows.GivenSymbolRow.{GivenSymbolRow}
use Rattle.ctf_c.specs.declared.type_rows.GivenTypeRow.{GivenTypeRow}
use Rattle.ctf_model.specs.declared.faults.Fault.{Fault}
use Rattle.ctf_model.specs.figures.Figures.{reference as reference_of}
use Rattle.ctf_model.specs.format.Shown.{Shape}
use Rattle.ctf_model.specs.opened.Open.{Open, own_in, space_in}
use Rattle.ctf_model.specs.opened.Questions.{align_answered, argument_answered, item_of, named_answered, on_shape, resolved_answered, size_answered}
use Rattle.ctf_model.specs.symbols.Entries.{Signature}
use Rattle.ctf_model.specs.symbols.SymbolQuestions.{function_of, object_of}

-- the same answer, whatever the output contained before
pub one_given : {A : Type 0} (answer : Result A Fault) (status told : ℕ) (old new said : A) → Gives answer status old new → Gives answer told old said → (status ≡ told) × (new ≡ said)
one_given (Ok n) status told old new said a b = (a.0 ∙ sym b.0, a.1 ∙ sym b.1)
one_given (Err f) status told old new said a b = (a.0 ∙ sym b.0, a.1 ∙ sym b.1)

-- ---- types: ctfd_size, ctfd_align, ctfd_resolve and ctfd_reference, each over 0

module _ (s : Option Open) (t : ℕ) (row : GivenTypeRow) (h : TellsType s t row) (status said : ℕ) where
  pub size_in_row : Gives (ask s (λ o. size_answered (space_in o) t)) status 0 said → (status ≡ row.size_status) × (said ≡ row.size)
  size_in_row g = one_given (ask s (λ o. size_answered (space_in o) t)) status row.size_status 0 said row.size g h.size

  pub align_in_row : Gives (ask s (λ o. align_answered (space_in o) t)) status 0 said → (status ≡ row.align_status) × (said ≡ row.align)
  align_in_row g = one_given (ask s (λ o. align_answered (space_in o) t)) status row.align_status 0 said row.align g h.align

  pub resolved_in_row : Gives (ask s (λ o. resolved_answered (space_in o) t)) status 0 said → (status ≡ row.resolved_status) × (said ≡ row.resolved)
  resolved_in_row g = one_given (ask s (λ o. resolved_answered (space_in o) t)) status row.resolved_status 0 said row.resolved g h.resolved

  pub reference_in_row : Gives (ask s (λ o. reference_of (space_in o) t)) status 0 said → (status ≡ row.reference_status) × (said ≡ row.reference)
  reference_in_row g = one_given (ask s (λ o. reference_of (space_in o) t)) status row.reference_status 0 said row.reference g h.reference

-- ---- symbols: ctfd_function and ctfd_object

module _ (s : Option Open) (n : ℕ) (row : GivenSymbolRow) (h : TellsSymbol s n row) (status said : ℕ) where
  pub return_in_row : row.symbol_class ≡ 2 → Gives (ask s (λ o. return_of (function_of (own_in o) n))) status 0 said → (status ≡ row.type_status) × (said ≡ row.tnum)
  return_in_row is g = one_given (ask s (λ o. return_of (function_of (own_in o) n))) status row.type_status 0 said row.tnum g (h.function is)

  pub object_in_row : (row.symbol_class ≡ 2 → ⊥) → Gives (ask s (λ o. object_of (own_in o) n)) status 0 said → (status ≡ row.type_status) × (said ≡ row.tnum)
  object_in_row other g = one_given (ask s (λ o. object_of (own_in o) n)) status row.type_status 0 said row.tnum g (h.object other)

-- ---- arguments: ctfd_argument and ctfd_function_argument

-- a filled row is the item with its index
pub item_in_row : (answer : Result (List ℕ) Fault) (from status : ℕ) (old new : List ℕ) (was count : ℕ) → GivesRows IsArgument answer from status old new was count → status ≡ 0
    → (i row : ℕ) → slice_get new i ≡ Some row → from + i < count → item_of (from + i) answer ≡ Ok row
item_in_row (Ok items) from status old new was count h e i row there lt =
    let many = h.1 in
    let x = one_there items (from + i) (omega (arith, many, lt)) in
    rw x.1 (ap (λ n. Ok n) (sym (h.2.told i x.0 row x.1 there)))
item_in_row (Err f) from status old new was count h e i row there lt = let said = h.0 in absurd (omega (arith, said, e))

pub argument_in : (found : Result Shape Fault) (k : ℕ) → item_of k (on_shape arguments_answered found) ≡ on_shape (argument_answered k) found
argument_in (Ok x) k = refl
argument_in (Err f) k = refl

pub named_in : (function : Result Signature Fault) (k : ℕ) → item_of k (named_list function) ≡ named_answered k function
named_in (Ok f) k = refl
named_in (Err f) k = refl
