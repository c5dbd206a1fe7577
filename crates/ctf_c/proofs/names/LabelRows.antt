-- A label has eight bytes: the reference to its name, and its last type.
use Rattle.std.proofs.Common.{◌≡◌, ℕ, zero, suc, ◌*◌, ◌<◌, ◌≤◌, List, [], ◌∷◌, length, drop, Some, None, refl, sym, ap, subst, ◌∙◌, arith}
use Rattle.std.proofs.lemmas.List.{drop-drop, length-drop}
use Rattle.std.specs.Prelude.{IfSome, slice_get}
use Rattle.ctf_c.specs.ItemRows.{TellsLabel}
use Rattle.ctf_c.specs.declared.label_rows.GivenLabelRow.{GivenLabelRow}
use Rattle.ctf_c.specs.names.Places.{text_in}
use Rattle.ctf_model.proofs.Denoted.{denotes_said}
use Rattle.ctf_model.specs.declared.sections.Section.TheVariants.{SLabels}
use Rattle.ctf_model.specs.format.Bytes.{u32_at}
use Rattle.ctf_model.specs.format.Dictionary.{AreLabels, Label, said_by}
use Rattle.ctf_model.specs.format.Header.{section}
use Rattle.ctf_model.specs.format.Lists.{Lists, tables}
use Rattle.ctf_model.specs.format.Name.{Tables, name}
use Rattle.ctf_model.specs.rules.Faults.{first_fault}

-- the label at an offset
pub record StandsAt (t : Tables) (b : List ℕ) (x : Label) : Type 0 where
  pub whole : 8 ≤ length b
  pub named : name t (u32_at b 0) ≡ Some x.name
  pub last : u32_at b 4 ≡ x.last

-- the label at an index
pub record Stands (t : Tables) (b : List ℕ) (xs : List Label) (i : ℕ) : Type 0 where
  pub label : Label
  pub is : slice_get xs i ≡ Some label
  pub at : StandsAt t (drop (8 * i) b) label

stands : (t : Tables) (b : List ℕ) (xs : List Label) (i : ℕ) → AreLabels t b xs → i < length xs → Stands t b xs i
stands t b [] i h lt = absurd (omega arith)
stands t b (x ∷ xs) zero h lt = record { label = x; is = refl; at = record { whole = h.0; named = h.1; last = h.2 } }
stands t b (x ∷ xs) (suc i) h lt =
    let rest = stands t (drop 8 b) xs i h.3 (omega arith) in
    let far : drop (8 * i) (drop 8 b) ≡ drop (8 * suc i) b = drop-drop (8 * i) 8 b ∙ ap (λ (m : ℕ). drop m b) (omega arith) in
    record { label = rest.label; is = rest.is; at = subst (λ (l : List ℕ). StandsAt t l rest.label) far rest.at }

-- the same for a faultless dictionary
pub label_stands : (s : Lists) (i : ℕ) → first_fault s ≡ None → i < length (said_by s).labels → Stands (tables s) (section s.ctf SLabels) (said_by s).labels i
label_stands s i e lt = stands (tables s) (section s.ctf SLabels) (said_by s).labels i (denotes_said s e).labels lt

-- its start is inside the section
pub label_inside : (s : Lists) (i : ℕ) (b : List ℕ) → first_fault s ≡ None → i < length (said_by s).labels → b ≡ section s.ctf SLabels → 8 * i ≤ length b
label_inside s i b e lt is =
    let whole = (label_stands s i e lt).at.whole in
    let long = length-drop (8 * i) (section s.ctf SLabels) in
    rw is (omega (arith, whole, long))

pub label_whole : (s : Lists) (i : ℕ) (b l : List ℕ) → first_fault s ≡ None → i < length (said_by s).labels → b ≡ section s.ctf SLabels → l ≡ drop (8 * i) b → 8 ≤ length l
label_whole s i b l e lt is at = rw (at, is) (label_stands s i e lt).at.whole

-- the row of the bytes at its offset is the row of the label
pub label_told : (s : Lists) (i : ℕ) (b l : List ℕ) (row : GivenLabelRow) → first_fault s ≡ None → i < length (said_by s).labels → b ≡ section s.ctf SLabels → l ≡ drop (8 * i) b
    → ((said : List ℕ) → name (tables s) (u32_at l 0) ≡ Some said → text_in s row.name_list row.name_at ≡ Some said) → row.last ≡ u32_at l 4
    → IfSome (slice_get (said_by s).labels i) (λ x. TellsLabel (Some s) x row)
label_told s i b l row e lt is at name_is last_is =
    let h = label_stands s i e lt in
    let here : StandsAt (tables s) l h.label = subst (λ (k : List ℕ). StandsAt (tables s) k h.label) (ap (drop (8 * i)) (sym is) ∙ sym at) h.at in
    rw h.is (name_is h.label.name here.named, last_is ∙ here.last)
