-- The dictionary that bytes denote. Source: ctf(5); that a parent's name makes a child is ours.
use Rattle.std.specs.Prelude.{◌≡◌, ◌<◌, ◌≤◌, ℕ, zero, suc, ◌/◌, Bool, List, [], ◌∷◌, length, drop, Option, Some, None, unwrap_or}
use Rattle.ctf_model.specs.format.Bytes.{u32_at}
use Rattle.ctf_model.specs.symbols.Entries.{Entry, AreEntries, entries}
use Rattle.ctf_model.specs.rules.Faults.{first_fault, types}
use Rattle.ctf_model.specs.format.Header.{fields, is_child, section}
use Rattle.ctf_model.specs.format.Lists.{Lists, tables}
use Rattle.ctf_model.specs.format.Name.{Tables, name}
use Rattle.ctf_model.specs.format.Section.{Section, terms_in}
use Rattle.ctf_model.specs.symbols.Symbols.{Symbol, symbols}
use Rattle.ctf_model.specs.format.Term.{Term}
use Rattle.ctf_model.specs.declared.faults.Fault.{Fault}
use Rattle.ctf_model.specs.declared.sections.Section.TheVariants.{SLabels, SObjects, SFunctions, STypes}

-- a label: a name, and the last type that it covers
pub record Label : Type 0 where
  pub name : List ℕ
  pub last : ℕ

pub record Dictionary : Type 0 where
  -- whether low type numbers belong to a parent
  pub child : Bool
  pub parname : List ℕ
  pub parlabel : List ℕ
  pub labels : List Label
  pub terms : List Term
  pub symbols : List Symbol
  -- the entries of the considered symbols
  pub entries : List Entry

-- ---- as facts

-- the bytes are these labels, 8 bytes each; a rest of fewer than 8 bytes is ignored (ours)
abbrev pub AreLabels : Tables → List ℕ → List Label → Type 0
AreLabels t b [] = length b < 8
AreLabels t b (label ∷ labels) =
    (8 ≤ length b) × (name t (u32_at b 0) ≡ Some label.name) × (u32_at b 4 ≡ label.last)
    × AreLabels t (drop 8 b) labels

-- the lists break no rule, and encode this dictionary
pub record Denotes (s : Lists) (d : Dictionary) : Type 0 where
  pub faultless : first_fault s ≡ None
  pub child : d.child ≡ is_child (fields s.ctf)
  pub parname : name (tables s) (fields s.ctf).parname ≡ Some d.parname
  pub parlabel : name (tables s) (fields s.ctf).parlabel ≡ Some d.parlabel
  pub labels : AreLabels (tables s) (section s.ctf SLabels) d.labels
  pub terms : Section (tables s) (section s.ctf STypes) d.terms
  pub symbols : d.symbols ≡ symbols s
  pub entries : AreEntries d.symbols (section s.ctf SObjects) (section s.ctf SFunctions) d.entries

-- ---- the same, computed

-- the name of a valid reference
abbrev pub text_or_empty : Tables → ℕ → List ℕ
text_or_empty t reference = unwrap_or (name t reference) []

unfoldable pub labels_in : Tables → ℕ → List ℕ → List Label
labels_in t zero b = []
labels_in t (suc n) b =
    record { name = text_or_empty t (u32_at b 0); last = u32_at b 4 } ∷ labels_in t n (drop 8 b)

-- the dictionary that the lists encode, if they break no rule
unfoldable pub said_by : Lists → Dictionary
said_by s =
    let t = tables s in
    let h = fields s.ctf in
    record {
      child = is_child h;
      parname = text_or_empty t h.parname;
      parlabel = text_or_empty t h.parlabel;
      labels = labels_in t (length (section s.ctf SLabels) / 8) (section s.ctf SLabels);
      terms = terms_in t (types s.ctf);
      symbols = symbols s;
      entries = entries s;
    }

abbrev pub unless_fault : Option Fault → Dictionary → Option Dictionary
unless_fault None d = Some d
unless_fault (Some f) d = None

-- the dictionary that the lists denote, if any
unfoldable pub denoted : Lists → Option Dictionary
denoted s = unless_fault (first_fault s) (said_by s)
