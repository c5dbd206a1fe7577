-- Items of symbols and of labels, one after another.
use Rattle.std.proofs.Common.{◌≡◌, ℕ, suc, ◌+◌, ◌-◌, ◌/◌, ◌<◌, ◌≤◌, Bool, true, false, List, [], ◌∷◌, ◌++◌, length, drop, Option, Some, None, refl, sym, ap, subst, ◌∙◌, arith}
use Rattle.std.specs.Prelude.{◌==◌, ◌&&◌, ◌||◌, nat_le, not, unwrap_or}
use Rattle.std.specs.List.{enumerate_from}
use Rattle.std.proofs.lemmas.List.{append-nil, append_assoc, length-drop}
use Rattle.ctf_model.specs.format.Bytes.{u32_at}
use Rattle.ctf_model.proofs.Denoted.{denotes_said}
use Rattle.ctf_model.specs.format.Dictionary.{AreLabels, Label, labels_in, text_or_empty, said_by}
use Rattle.ctf_model.specs.rules.Faults.{first_fault}
use Rattle.ctf_model.specs.format.Header.{section}
use Rattle.ctf_model.specs.format.Lists.{Lists, tables}
use Rattle.ctf_model.specs.declared.sections.Section.TheVariants.{SLabels}
use Rattle.ctf_model.specs.format.Name.{Tables, name, text_at}
use Rattle.ctf_model.specs.symbols.Symbols.{Symbol, is_absolute_zero, is_considered, is_function, is_mark, is_named, is_object, symbol_name, symbol_of}
use Rattle.ctf_order.specs.Naming.{Naming}
use Rattle.ctf_order.specs.declared.entries.NamedItem.{NamedItem}
use Rattle.ctf_symbols.specs.Named.{AreItems, called_label, program_names}

-- ---- one after another

-- these items and those of the rest are the items of all
abbrev pub GoesOn : {A : Type 0} → Naming → (A → List ℕ) → List (ℕ × A) → List NamedItem → List (ℕ × A) → Type 0
GoesOn names called all items left = (more : List NamedItem) → AreItems names called left more → AreItems names called all (items ++ more)

pub none_yet : {A : Type 0} (names : Naming) (called : A → List ℕ) (all : List (ℕ × A)) → GoesOn names called all [] all
none_yet names called all = λ more h. h

pub one_more : {A : Type 0} (names : Naming) (called : A → List ℕ) (all left behind : List (ℕ × A)) (items : List NamedItem) (x : ℕ × A) (e : NamedItem) → left ≡ x ∷ behind → e.item ≡ x.0 → names e.reference ≡ Some (called x.1)
    → GoesOn names called all items left → GoesOn names called all (items ++ e ∷ []) behind
one_more {A} names called all left behind items x e first at named goes = λ more h.
    let later : AreItems names called left (e ∷ more) = subst (λ (l : List (ℕ × A)). AreItems names called l (e ∷ more)) (sym first) (at, named, h) in
    subst (λ (l : List NamedItem). AreItems names called all l) (sym (append_assoc items (e ∷ []) more)) (goes (e ∷ more) later)

pub passed : {A : Type 0} (names : Naming) (called : A → List ℕ) (all left behind : List (ℕ × A)) (items : List NamedItem) → left ≡ behind → GoesOn names called all items left → GoesOn names called all items behind
passed {A} names called all left behind items same goes = subst (λ (l : List (ℕ × A)). GoesOn names called all items l) same goes

pub all_there : {A : Type 0} (names : Naming) (called : A → List ℕ) (all left : List (ℕ × A)) (items : List NamedItem) → left ≡ [] → GoesOn names called all items left → AreItems names called all items
all_there {A} names called all left items none goes =
    let last : AreItems names called left [] = subst (λ (l : List (ℕ × A)). AreItems names called l []) (sym none) refl in
    subst (λ (l : List NamedItem). AreItems names called all l) (append-nil items) (goes [] last)

-- ---- symbols

fourth : (a b c d e : Bool) → (a && b && c && d && e) ≡ true → d ≡ true
fourth a b c true e h = refl
fourth false b c false e h = absurd cc
fourth true false c false e h = absurd cc
fourth true true false false e h = absurd cc
fourth true true true false e h = absurd cc

not_empty : (a b : Bool) → (not a && b) ≡ true → a ≡ false
not_empty false b h = refl
not_empty true b h = absurd cc

considered_is_named : (n : ℕ) (x : Symbol) → is_considered (n, x) ≡ true → length x.name == 0 ≡ false
unfolding is_considered
considered_is_named n x h = not_empty (length x.name == 0) (not (is_mark x.name)) (fourth (nat_le n 0xffffffff) (is_object x || is_function x) (not (x.section == 0)) (is_named x) (not (is_absolute_zero x)) h)

some_text : (o : Option (List ℕ)) → length (unwrap_or o []) == 0 ≡ false → o ≡ Some (unwrap_or o [])
some_text None h = absurd cc
some_text (Some text) h = refl

without_strings : (at : ℕ) (t : Bool) → at == 0 ≡ t → length (symbol_name None at) == 0 ≡ false → text_at (Some []) at ≡ Some (symbol_name None at)
without_strings at true e h = let empty : length (symbol_name None at) == 0 ≡ true = rw e refl in absurd cc
without_strings at false e h = let empty : length (symbol_name None at) == 0 ≡ true = rw e refl in absurd cc

with_strings : (strs : List ℕ) (at : ℕ) (t : Bool) → at == 0 ≡ t → length (symbol_name (Some strs) at) == 0 ≡ false → text_at (Some strs) at ≡ Some (symbol_name (Some strs) at)
with_strings strs at true e h = let empty : length (symbol_name (Some strs) at) == 0 ≡ true = rw e refl in absurd cc
with_strings strs at false e h = rw e (some_text (text_at (Some strs) at) (rw e at h))

named_there : (strs : Option (List ℕ)) (at : ℕ) → length (symbol_name strs at) == 0 ≡ false → program_names strs at ≡ Some (symbol_name strs at)
named_there None at h = without_strings at (at == 0) refl h
named_there (Some strs) at h = with_strings strs at (at == 0) refl h

-- the name of a considered symbol is where its bytes say
pub considered_named : (strs : Option (List ℕ)) (n : ℕ) (b : List ℕ) (x : Symbol) → x ≡ symbol_of strs b → is_considered (n, x) ≡ true → program_names strs (u32_at b 0) ≡ Some x.name
considered_named strs n b x e h =
    let named : length (symbol_name strs (u32_at b 0)) == 0 ≡ false = ap (λ (y : Symbol). length y.name == 0) (sym e) ∙ considered_is_named n x h in
    named_there strs (u32_at b 0) named ∙ ap (λ (y : Symbol). Some y.name) (sym e)

-- ---- labels

-- one more label
labels_more : (t : Tables) (b : List ℕ) → 8 ≤ length b → labels_in t (length b / 8) b ≡ record { name = text_or_empty t (u32_at b 0); last = u32_at b 4 } ∷ labels_in t (length (drop 8 b) / 8) (drop 8 b)
unfolding labels_in
labels_more t b le =
    let behind : length (drop 8 b) / 8 ≡ (length b - 8) / 8 = ap (λ (n : ℕ). n / 8) (length-drop 8 b) in
    let one : length b / 8 ≡ suc ((length b - 8) / 8) = omega arith in
    rw (one, behind) refl

-- no more labels
labels_end : (t : Tables) (b : List ℕ) → length b < 8 → labels_in t (length b / 8) b ≡ []
unfolding labels_in
labels_end t b lt = let none : length b / 8 ≡ 0 = omega arith in rw none refl

-- the remaining labels
abbrev pub labels_left : Tables → ℕ → List ℕ → List (ℕ × Label)
labels_left t n b = enumerate_from n (labels_in t (length b / 8) b)

-- the invariant from label to label
pub record PassesLabels (t : Tables) (all : List (ℕ × Label)) (items : List NamedItem) (n : ℕ) (rest : List ℕ) : Type 0 where
  pub goes : GoesOn (name t) called_label all items (labels_left t n rest)
  pub good : AreLabels t rest (labels_in t (length rest / 8) rest)

good_first : (t : Tables) (b : List ℕ) (label : Label) (labels : List Label) → AreLabels t b (label ∷ labels) → name t (u32_at b 0) ≡ Some label.name
good_first t b label labels h = h.1

good_rest : (t : Tables) (b : List ℕ) (label : Label) (labels : List Label) → AreLabels t b (label ∷ labels) → AreLabels t (drop 8 b) labels
good_rest t b label labels h = h.3

pub next_label : (t : Tables) (all : List (ℕ × Label)) (items : List NamedItem) (n : ℕ) (rest behind : List ℕ) → 8 ≤ length rest → behind ≡ drop 8 rest → PassesLabels t all items n rest
    → PassesLabels t all (items ++ record { reference = u32_at rest 0; item = n } ∷ []) (n + 1) behind
next_label t all items n rest behind le d p =
    let first : Label = record { name = text_or_empty t (u32_at rest 0); last = u32_at rest 4 } in
    let good : AreLabels t rest (first ∷ labels_in t (length (drop 8 rest) / 8) (drop 8 rest)) = subst (λ (ls : List Label). AreLabels t rest ls) (labels_more t rest le) p.good in
    let left : labels_left t n rest ≡ (n, first) ∷ labels_left t (n + 1) (drop 8 rest) = ap (λ (ls : List Label). enumerate_from n ls) (labels_more t rest le) in
    rw d (record {
      goes = one_more (name t) called_label all _ _ items (n, first) (record { reference = u32_at rest 0; item = n }) left refl (good_first t rest first _ good) p.goes;
      good = good_rest t rest first _ good;
    })

pub last_label : (t : Tables) (all : List (ℕ × Label)) (items : List NamedItem) (n : ℕ) (rest : List ℕ) → length rest < 8 → PassesLabels t all items n rest → AreItems (name t) called_label all items
last_label t all items n rest lt p = all_there (name t) called_label all _ items (ap (λ (ls : List Label). enumerate_from n ls) (labels_end t rest lt)) p.goes

-- it holds at the start for a dictionary that breaks no rule
pub labels_at_first : (s : Lists) → first_fault s ≡ None → (bytes : List ℕ) → bytes ≡ section s.ctf SLabels → PassesLabels (tables s) (enumerate_from 0 (said_by s).labels) [] 0 bytes
unfolding said_by
labels_at_first s sound bytes is = rw is (record { goes = none_yet (name (tables s)) called_label (labels_left (tables s) 0 (section s.ctf SLabels)); good = (denotes_said s sound).labels })
