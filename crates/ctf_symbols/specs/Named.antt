-- Symbols and labels by name. Source: ours.
use Rattle.std.specs.Prelude.{◌≡◌, ℕ, List, [], ◌∷◌, Option, Some, None, unwrap_or, if◌then◌else◌}
use Rattle.std.specs.List.{enumerate_from}
use Rattle.std.specs.Str.{bytes_eq}
use Rattle.ctf_model.specs.format.Dictionary.{Label, said_by}
use Rattle.ctf_model.specs.format.Lists.{Lists, tables}
use Rattle.ctf_model.specs.format.Name.{name, text_at}
use Rattle.ctf_model.specs.symbols.Symbols.{Symbol, with_types, symbols}
use Rattle.ctf_order.specs.Holding.{Fits}
use Rattle.ctf_order.specs.Naming.{Naming}
use Rattle.ctf_order.specs.declared.entries.NamedItem.{NamedItem}
use Rattle.ctf_order.specs.declared.order.Order.{Order}

-- the first of these numbered things with this name
abbrev pub first_called : {A : Type 0} → (A → List ℕ) → List ℕ → List (ℕ × A) → Option (ℕ × A)
first_called called text [] = None
first_called called text (x ∷ xs) =
    if bytes_eq (called x.1) text then Some x else first_called called text xs

-- the items match the things: each with its number, and a reference to its name
abbrev pub AreItems : {A : Type 0} → Naming → (A → List ℕ) → List (ℕ × A) → List NamedItem → Type 0
AreItems names called [] items = items ≡ []
AreItems names called (x ∷ xs) [] = ⊥
AreItems names called (x ∷ xs) (e ∷ items) =
    (e.item ≡ x.0) × (names e.reference ≡ Some (called x.1)) × AreItems names called xs items

-- an order over such items
pub record Ordered {A : Type 0} (names : Naming) (called : A → List ℕ) (xs : List (ℕ × A))
    (o : Order) : Type 0 where
  pub items : List NamedItem
  pub each : AreItems names called xs items
  pub fits : Fits names items o

-- such items exist
abbrev pub AreInOrder : {A : Type 0} → Naming → (A → List ℕ) → List (ℕ × A) → Order → Type 0
AreInOrder names called xs o = ∥ Ordered names called xs o ∥₁

-- ---- for a dictionary

-- the names in the program's strings, by offset
abbrev pub program_names : Option (List ℕ) → Naming
program_names strs = text_at (Some (unwrap_or strs []))

abbrev pub called_symbol : Symbol → List ℕ
called_symbol x = x.name

abbrev pub called_label : Label → List ℕ
called_label x = x.name

-- the considered symbols
abbrev pub SymbolsInOrder : Lists → Order → Type 0
SymbolsInOrder s o = AreInOrder (program_names s.strs) called_symbol (with_types (symbols s)) o

-- the labels, numbered from 0
abbrev pub LabelsInOrder : Lists → Order → Type 0
LabelsInOrder s o =
    AreInOrder (name (tables s)) called_label (enumerate_from 0 (said_by s).labels) o
