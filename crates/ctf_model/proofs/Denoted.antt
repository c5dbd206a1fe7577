-- Lists that keep every rule denote just one dictionary.
use Rattle.std.proofs.Common.{◌≡◌, ℕ, zero, suc, ◌+◌, ◌-◌, ◌*◌, ◌/◌, ◌<◌, ◌≤◌, Bool, List, [], ◌∷◌, length, take, drop, Option, Some, None, refl, sym, ap, subst, ◌∙◌, arith}
use Rattle.std.specs.Prelude.{MatchOption, ◌↔◌}
use Rattle.std.proofs.lemmas.List.{length-take, length-drop, take-take, drop-take, drop-drop}
use Rattle.std.proofs.lemmas.Option.{same_Some}
use Rattle.ctf_model.specs.format.Bytes.{number, u32_at}
use Rattle.ctf_model.specs.declared.faults.Fault.{Fault}
use Rattle.ctf_model.specs.declared.sections.Section.TheVariants.{SLabels, SObjects, SFunctions, STypes}
use Rattle.ctf_model.specs.format.Dictionary.{Dictionary, Label, Denotes, AreLabels, labels_in, said_by, denoted, unless_fault}
use Rattle.ctf_model.specs.symbols.Entries.{Entry, AreEntries}
use Rattle.ctf_model.specs.rules.Faults.{first_fault, label_sites}
use Rattle.ctf_model.specs.format.Header.{fields, section}
use Rattle.ctf_model.specs.format.Laws.{KeepsEveryRule}
use Rattle.ctf_model.specs.format.Lists.{Lists, tables}
use Rattle.ctf_model.specs.format.Name.{Tables, name}
use Rattle.ctf_model.specs.rules.Rules.{IsFirstFault}
use Rattle.ctf_model.specs.symbols.Symbols.{Symbol}
use Rattle.ctf_model.specs.format.Term.{Term}
use Rattle.ctf_model.proofs.GoodNames.{the_value, good}
use Rattle.ctf_model.proofs.Judge.{least_fault}
use Rattle.ctf_model.proofs.HeaderRules.{kept_order, kept_end, section_len}
use Rattle.ctf_model.proofs.SpelledSection.{section_spelled}
use Rattle.ctf_model.proofs.Spelled.{IsNamed, AreNamed}
use Rattle.ctf_model.proofs.SymbolInfo.{entries_said, one_entries}
use Rattle.ctf_model.proofs.Unique.{one_list}

-- ---- labels

-- the labels that are read are those in the bytes, if their names are valid
labels_read : (t : Tables) (ctf : List ℕ) (n at len : ℕ) → at + len ≤ length ctf → 8 * n ≤ len → len < 8 * n + 8 → AreNamed t (label_sites ctf at n)
    → AreLabels t (take len (drop at ctf)) (labels_in t n (take len (drop at ctf)))
unfolding label_sites labels_in
labels_read t ctf zero at len inside low high named = omega (arith, length-take len (drop at ctf))
labels_read t ctf (suc n) at len inside low high named =
    let long : 8 ≤ length (take len (drop at ctf)) = omega (arith, length-take len (drop at ctf), length-drop at ctf) in
    let word : u32_at (take len (drop at ctf)) 0 ≡ u32_at ctf at = ap number (take-take 4 len (drop at ctf) (omega arith)) in
    let good : IsNamed t (u32_at (take len (drop at ctf)) 0) = subst (IsNamed t) (sym word) named.0 in
    let less : 8 + (len - 8) ≡ len = omega arith in
    let behind : drop 8 (take len (drop at ctf)) ≡ take (len - 8) (drop (at + 8) ctf) = ap (λ (m : ℕ). drop 8 (take m (drop at ctf))) (sym less) ∙ drop-take 8 (len - 8) (drop at ctf) ∙ ap (take (len - 8)) (drop-drop 8 at ctf) in
    let later = labels_read t ctf n (at + 8) (len - 8) (omega arith) (omega arith) (omega arith) named.1 in
    (long, the_value (name t (u32_at (take len (drop at ctf)) 0)) good, refl, subst (λ (r : List ℕ). AreLabels t r (labels_in t n r)) (sym behind) later)

-- ---- a dictionary

-- the labels of the encoded dictionary are those in the bytes
labels_said : (s : Lists) → KeepsEveryRule s → AreLabels (tables s) (section s.ctf SLabels) (labels_in (tables s) (length (section s.ctf SLabels) / 8) (section s.ctf SLabels))
labels_said s keeps =
    let h = fields s.ctf in
    let order = kept_order s 20 (omega arith) (λ rule lt. keeps rule) in
    let inside = kept_end s 20 (omega arith) (λ rule lt. keeps rule) in
    let objects = order.objects in
    let functions = order.functions in
    let before = order.types in
    let strings = order.strings in
    let from = 36 + h.lbloff in
    let size : (36 + h.objtoff) - (36 + h.lbloff) ≡ h.objtoff - h.lbloff = omega arith in
    let len : length (section s.ctf SLabels) ≡ h.objtoff - h.lbloff = section_len s.ctf (36 + h.lbloff) (36 + h.objtoff) (omega arith) (omega arith) ∙ size in
    let n = (h.objtoff - h.lbloff) / 8 in
    let found = labels_read (tables s) s.ctf n (36 + h.lbloff) (h.objtoff - h.lbloff) (omega arith) (omega arith) (omega arith) (good s 20 (omega arith) (λ rule lt. keeps rule)).labels in
    rw (len, size) found

-- without a first fault, every rule is kept
keeps_from : (s : Lists) → first_fault s ≡ None → KeepsEveryRule s
keeps_from s e = subst (λ (f : Option Fault). MatchOption f (KeepsEveryRule s) (IsFirstFault s)) e (least_fault s)

-- without a fault, the encoded dictionary is denoted
pub denotes_said : (s : Lists) → first_fault s ≡ None → Denotes s (said_by s)
unfolding said_by
denotes_said s e =
    let keeps = keeps_from s e in
    let named = good s 20 (omega arith) (λ rule lt. keeps rule) in
    record {
      faultless = e;
      child = refl;
      parname = the_value (name (tables s) (fields s.ctf).parname) named.parname;
      parlabel = the_value (name (tables s) (fields s.ctf).parlabel) named.parlabel;
      labels = labels_said s keeps;
      terms = (section_spelled s 20 (omega arith) (λ rule lt. keeps rule)).0;
      symbols = refl;
      entries = entries_said s;
    }

-- ---- only one dictionary

-- labels with equal name and last type are equal
one_label : (x y : Label) → x.name ≡ y.name → x.last ≡ y.last → x ≡ y
one_label x y p q = ap (λ (n : List ℕ). record { name = n; last = x.last }) p ∙ ap (λ (m : ℕ). record { name = y.name; last = m }) q

-- bytes hold only one list of labels
one_labels : (t : Tables) (b : List ℕ) (xs ys : List Label) → AreLabels t b xs → AreLabels t b ys → xs ≡ ys
one_labels t b [] [] p q = refl
one_labels t b [] (y ∷ ys) p q = let low = q.0 in absurd (omega arith)
one_labels t b (x ∷ xs) [] p q = let low = p.0 in absurd (omega arith)
one_labels t b (x ∷ xs) (y ∷ ys) p q =
    let head = one_label x y (same_Some x.name y.name (sym p.1 ∙ q.1)) (sym p.2 ∙ q.2) in
    ap (λ (z : Label). z ∷ xs) head ∙ ap (λ (zs : List Label). y ∷ zs) (one_labels t (drop 8 b) xs ys p.3 q.3)

-- lists denote only one dictionary
pub one_dictionary : (s : Lists) (d e : Dictionary) → Denotes s d → Denotes s e → d ≡ e
one_dictionary s d e p q =
    let child : d.child ≡ e.child = p.child ∙ sym q.child in
    let parname : d.parname ≡ e.parname = same_Some d.parname e.parname (sym p.parname ∙ q.parname) in
    let parlabel : d.parlabel ≡ e.parlabel = same_Some d.parlabel e.parlabel (sym p.parlabel ∙ q.parlabel) in
    let labels : d.labels ≡ e.labels = one_labels (tables s) (section s.ctf SLabels) d.labels e.labels p.labels q.labels in
    let terms : d.terms ≡ e.terms = one_list (tables s) (section s.ctf STypes) (section s.ctf STypes) d.terms e.terms refl p.terms q.terms in
    let symbols : d.symbols ≡ e.symbols = p.symbols ∙ sym q.symbols in
    let entries : d.entries ≡ e.entries = one_entries e.symbols (section s.ctf SObjects) (section s.ctf SFunctions) d.entries e.entries (subst (λ (xs : List Symbol). AreEntries xs (section s.ctf SObjects) (section s.ctf SFunctions) d.entries) symbols p.entries) q.entries in
    ap (λ (x : Bool). record { child = x; parname = d.parname; parlabel = d.parlabel; labels = d.labels; terms = d.terms; symbols = d.symbols; entries = d.entries }) child
    ∙ ap (λ (x : List ℕ). record { child = e.child; parname = x; parlabel = d.parlabel; labels = d.labels; terms = d.terms; symbols = d.symbols; entries = d.entries }) parname
    ∙ ap (λ (x : List ℕ). record { child = e.child; parname = e.parname; parlabel = x; labels = d.labels; terms = d.terms; symbols = d.symbols; entries = d.entries }) parlabel
    ∙ ap (λ (x : List Label). record { child = e.child; parname = e.parname; parlabel = e.parlabel; labels = x; terms = d.terms; symbols = d.symbols; entries = d.entries }) labels
    ∙ ap (λ (x : List Term). record { child = e.child; parname = e.parname; parlabel = e.parlabel; labels = e.labels; terms = x; symbols = d.symbols; entries = d.entries }) terms
    ∙ ap (λ (x : List Symbol). record { child = e.child; parname = e.parname; parlabel = e.parlabel; labels = e.labels; terms = e.terms; symbols = x; entries = d.entries }) symbols
    ∙ ap (λ (x : List Entry). record { child = e.child; parname = e.parname; parlabel = e.parlabel; labels = e.labels; terms = e.terms; symbols = e.symbols; entries = x }) entries

-- ---- what is computed

-- exactly lists without a fault denote a dictionary
pub faultless_denoted : (s : Lists) → (first_fault s ≡ None) ↔ ((d : Dictionary) × Denotes s d)
faultless_denoted s = (λ e. (said_by s, denotes_said s e), λ h. h.1.faultless)

-- what is computed is what is denoted
pub denoted_denotes : (s : Lists) (d : Dictionary) → (denoted s ≡ Some d) ↔ Denotes s d
unfolding denoted
denoted_denotes s d = (λ e. at (first_fault s) refl e, λ h. (rw h.faultless (ap (λ (x : Dictionary). Some x) (one_dictionary s (said_by s) d (denotes_said s h.faultless) h))))
  where
    at : (f : Option Fault) → first_fault s ≡ f → unless_fault f (said_by s) ≡ Some d → Denotes s d
    at None e same = subst (Denotes s) (same_Some (said_by s) d same) (denotes_said s e)
    at (Some f) e same = absurd cc
