-- A look-up by name finds the first symbol or label of that name.
use Rattle.std.proofs.Common.{◌≡◌, ◌⊎◌, inl, inr, ℕ, zero, suc, ◌+◌, ◌≤◌, Bool, true, false, List, [], ◌∷◌, Option, Some, None, Ok, Err, refl, sym, ap, ◌∙◌, arith}
use Rattle.std.specs.Prelude.{◌==◌, MatchOption, map, slice_get, unwrap_or, if◌then◌else◌}
use Rattle.std.specs.List.{Contains, enumerate_from}
use Rattle.std.specs.Option.{option_map}
use Rattle.std.specs.Str.{bytes_eq}
use Rattle.std.proofs.Math.Logic.{∥∥₁_elim}
use Rattle.std.proofs.Props.{props}
use Rattle.std.proofs.lemmas.Option.{same_Some}
use Rattle.std.proofs.lemmas.Slice.Eq.{bytes_eq-Decides}
use Rattle.ctf_model.proofs.Denoted.{denotes_said}
use Rattle.ctf_model.proofs.SymbolRules.{AreRising, considered_rising}
use Rattle.ctf_model.specs.format.Dictionary.{Label, said_by}
use Rattle.ctf_model.specs.symbols.Entries as info
use Rattle.ctf_model.specs.symbols.Entries.{Owner, owner, owner_of}
use Rattle.ctf_model.specs.rules.Faults.{first_fault}
use Rattle.ctf_model.specs.format.Lists.{Lists, tables}
use Rattle.ctf_model.specs.format.Name.{name}
use Rattle.ctf_model.specs.rules.Refusals.{placeless}
use Rattle.ctf_model.specs.symbols.SymbolQuestions.{entry_named, label_of, last_of_label}
use Rattle.ctf_model.specs.symbols.Symbols.{Symbol, class_of, with_types, considered_from, is_considered, symbols}
use Rattle.ctf_model.specs.declared.faults.TheConstants.Fault.{NO_LABEL}
use Rattle.ctf_model.specs.declared.symbols.SymbolClass.TheVariants.{Object, Function}
use Rattle.ctf_order.specs.Holding.{Fits, IsFound, IsLeast, IsNamed}
use Rattle.ctf_order.specs.Naming.{Naming}
use Rattle.ctf_order.specs.declared.entries.NamedItem.{NamedItem}
use Rattle.ctf_order.specs.declared.order.Order.{Order}
use Rattle.ctf_symbols.specs.Kept.{class_in, sort_in}
use Rattle.ctf_symbols.specs.Named.{AreInOrder, AreItems, LabelsInOrder, SymbolsInOrder, called_label, called_symbol, first_called, program_names}
use Rattle.ctf_symbols.proofs.Answering.{not_there, there}

-- the number of a numbered thing
abbrev pub number : {A : Type 0} → ℕ × A → ℕ
number x = x.0

by_place : (e f : NamedItem) (items : List NamedItem) → Contains (e ∷ items) f → (e ≡ f) ⊎ Contains items f
by_place e f items (zero, lt, is) = inl is
by_place e f items (suc k, lt, is) = inr (k, omega (arith, lt), is)

in_rest : (e f : NamedItem) (items : List NamedItem) → Contains items f → Contains (e ∷ items) f
in_rest e f items h = (suc h.0, omega (arith, h.1), h.2)

none_there : (items : List NamedItem) (e : NamedItem) → items ≡ [] → Contains items e → ⊥
none_there [] e none h = absurd (omega (arith, h.1))
none_there (f ∷ items) e none h = absurd cc

-- the items of ascending numbers ascend
items_from : {A : Type 0} (names : Naming) (called : A → List ℕ) (low : ℕ) (xs : List (ℕ × A)) (items : List NamedItem) → AreRising number low xs → AreItems names called xs items → (e : NamedItem) → Contains items e → low ≤ e.item
items_from names called low [] items rising each e h = absurd (none_there items e each h)
items_from names called low (x ∷ xs) [] rising each e h = absurd each
items_from names called low (x ∷ xs) (f ∷ items) rising each e h = at (items_from names called (x.0 + 1) xs items rising.1 each.2 e) (by_place f e items h)
  where
    at : (Contains items e → x.0 + 1 ≤ e.item) → (f ≡ e) ⊎ Contains items e → low ≤ e.item
    at rest (inl same) = omega (arith, rising.0, each.0, ap (λ (y : NamedItem). y.item) same)
    at rest (inr there) = omega (arith, rising.0, rest there)

same_text : (names : Naming) (x text : List ℕ) (e : NamedItem) → names e.reference ≡ Some x → IsNamed names text e → bytes_eq x text ≡ true
same_text names x text e is named = let same : ◌≡◌ {A = Option (List ℕ)} (Some x) (Some text) = sym is ∙ named in let text_same : x ≡ text = cc in (bytes_eq-Decides x text).1 text_same

later : {A : Type 0} (names : Naming) (text : List ℕ) (e : NamedItem) (items : List NamedItem) → (IsNamed names text e → ⊥) → (found : Option (ℕ × A)) → IsFound names items text (option_map number found) → IsFound names (e ∷ items) text (option_map number found)
later names text e items not None none = λ f h named. at f named (by_place e f items h)
  where
    at : (f : NamedItem) → IsNamed names text f → (e ≡ f) ⊎ Contains items f → ⊥
    at f named (inl same) = not (rw same named)
    at f named (inr there) = none f there named
later names text e items not (Some x) least = record { entry = least.entry; there = in_rest e least.entry items least.there; named = least.named; is = least.is; least = λ f h named. at f named (by_place e f items h) }
  where
    at : (f : NamedItem) → IsNamed names text f → (e ≡ f) ⊎ Contains items f → x.0 ≤ f.item
    at f named (inl same) = absurd (not (rw same named))
    at f named (inr there) = least.least f there named

here : {A : Type 0} (names : Naming) (called : A → List ℕ) (low : ℕ) (x : ℕ × A) (xs : List (ℕ × A)) (text : List ℕ) (e : NamedItem) (items : List NamedItem) → AreRising number low (x ∷ xs) → AreItems names called (x ∷ xs) (e ∷ items) → bytes_eq (called x.1) text ≡ true → IsLeast names (e ∷ items) text x.0
here names called low x xs text e items rising each same = record {
  entry = e;
  there = (0, omega arith, refl);
  named = each.1 ∙ ap (λ (t : List ℕ). Some t) ((bytes_eq-Decides (called x.1) text).0 same);
  is = each.0;
  least = λ f h named. at f (by_place e f items h);
}
  where
    at : (f : NamedItem) → (e ≡ f) ⊎ Contains items f → x.0 ≤ f.item
    at f (inl is) = omega (arith, each.0, ap (λ (y : NamedItem). y.item) is)
    at f (inr there) = omega (arith, items_from names called (x.0 + 1) xs items rising.1 each.2 f there)

first_case : {A : Type 0} (names : Naming) (called : A → List ℕ) (low : ℕ) (x : ℕ × A) (xs : List (ℕ × A)) (text : List ℕ) (e : NamedItem) (items : List NamedItem) → AreRising number low (x ∷ xs) → AreItems names called (x ∷ xs) (e ∷ items) → IsFound names items text (option_map number (first_called called text xs))
    → (t : Bool) → bytes_eq (called x.1) text ≡ t → IsFound names (e ∷ items) text (option_map number (first_called called text (x ∷ xs)))
first_case names called low x xs text e items rising each rest true same = rw same (here names called low x xs text e items rising each same)
first_case names called low x xs text e items rising each rest false other = rw other (later names text e items (λ named. let same = same_text names (called x.1) text e each.1 named in absurd cc) (first_called called text xs) rest)

-- the first with a name has the least number
first_found : {A : Type 0} (names : Naming) (called : A → List ℕ) (low : ℕ) (xs : List (ℕ × A)) (items : List NamedItem) (text : List ℕ) → AreRising number low xs → AreItems names called xs items → IsFound names items text (option_map number (first_called called text xs))
first_found names called low [] items text rising each = λ e h named. none_there items e each h
first_found names called low (x ∷ xs) [] text rising each = absurd each
first_found names called low (x ∷ xs) (e ∷ items) text rising each = first_case names called low x xs text e items rising each (first_found names called (x.0 + 1) xs items text rising.1 each.2) (bytes_eq (called x.1) text) refl

-- only one number is found
one_found : (names : Naming) (items : List NamedItem) (text : List ℕ) (found other : Option ℕ) → IsFound names items text found → IsFound names items text other → found ≡ other
one_found names items text None None p q = refl
one_found names items text None (Some m) p q = absurd (p q.entry q.there q.named)
one_found names items text (Some n) None p q = absurd (q p.entry p.there p.named)
one_found names items text (Some n) (Some m) p q = ap (λ (k : ℕ). Some k) (same (p.least q.entry q.there q.named) (q.least p.entry p.there p.named) p.is q.is)
  where
    same : n ≤ q.entry.item → m ≤ p.entry.item → p.entry.item ≡ n → q.entry.item ≡ m → n ≡ m
    same a b c d = omega (arith, a, b, c, d)

-- the number found in the order of names is that of the first with the name
pub found_first : {A : Type 0} (names : Naming) (called : A → List ℕ) (xs : List (ℕ × A)) (o : Order) (text : List ℕ) (found : Option ℕ) → AreRising number 0 xs → AreInOrder names called xs o → ((items : List NamedItem) → Fits names items o → IsFound names items text found)
    → found ≡ option_map number (first_called called text xs)
found_first names called xs o text found rising order finds = ∥∥₁_elim order (search props) (λ h. one_found names h.items text found _ (finds h.items h.fits) (first_found names called 0 xs h.items text rising h.each))

pub enumerated_rising : {A : Type 0} (n : ℕ) (xs : List A) → AreRising (number {A = A}) n (enumerate_from n xs)
enumerated_rising n [] = tt
enumerated_rising n (x ∷ xs) = (omega arith, enumerated_rising (n + 1) xs)

-- ---- symbols

-- the first owner with a name
abbrev owner_called : List ℕ → List Owner → Option Owner
owner_called text [] = None
owner_called text (o ∷ os) = if bytes_eq o.name text then Some o else owner_called text os

entry_owner : (text : List ℕ) (es : List info.Entry) → option_map owner_of (entry_named es text) ≡ owner_called text (map owner_of es)
entry_owner text [] = refl
entry_owner text (e ∷ es) = by_case (bytes_eq e.name text) (entry_owner text es)
  where
    by_case : (t : Bool) → option_map owner_of (entry_named es text) ≡ owner_called text (map owner_of es) → option_map owner_of (if t then Some e else entry_named es text) ≡ (if t then Some (owner_of e) else owner_called text (map owner_of es))
    by_case true rest = refl
    by_case false rest = rest

symbol_owner : (text : List ℕ) (xs : List (ℕ × Symbol)) → option_map owner (first_called called_symbol text xs) ≡ owner_called text (map owner xs)
symbol_owner text [] = refl
symbol_owner text (x ∷ xs) = by_case (bytes_eq x.1.name text) (symbol_owner text xs)
  where
    by_case : (t : Bool) → option_map owner (first_called called_symbol text xs) ≡ owner_called text (map owner xs) → option_map owner (if t then Some x else first_called called_symbol text xs) ≡ (if t then Some (owner x) else owner_called text (map owner xs))
    by_case true rest = refl
    by_case false rest = rest

owners : (s : Lists) → first_fault s ≡ None → map owner_of (said_by s).entries ≡ map owner (with_types (symbols s))
unfolding said_by
owners s sound = (denotes_said s sound).entries.owners

-- the first entry with a name belongs to the first considered symbol with it
entry_of_symbol : (s : Lists) (text : List ℕ) → first_fault s ≡ None → option_map owner_of (entry_named (said_by s).entries text) ≡ option_map owner (first_called called_symbol text (with_types (symbols s)))
entry_of_symbol s text sound = entry_owner text (said_by s).entries ∙ ap (owner_called text) (owners s sound) ∙ sym (symbol_owner text (with_types (symbols s)))

-- the symbol that was found has the name and its number
pub record IsSymbol (n : ℕ) (xs : List Symbol) (text : List ℕ) (x : ℕ × Symbol) : Type 0 where
  pub place : ℕ
  pub number : n + place ≡ x.0
  pub there : slice_get xs place ≡ Some x.1
  pub named : x.1.name ≡ text

symbol_behind : (n : ℕ) (y : Symbol) (ys : List Symbol) (text : List ℕ) (x : ℕ × Symbol) → IsSymbol (n + 1) ys text x → IsSymbol n (y ∷ ys) text x
symbol_behind n y ys text x is = record { place = suc is.place; number = omega (arith, is.number); there = is.there; named = is.named }

symbol_here : (n : ℕ) (y : Symbol) (ys : List Symbol) (text : List ℕ) (x : ℕ × Symbol) → bytes_eq y.name text ≡ true → ◌≡◌ {A = Option (ℕ × Symbol)} (Some (n, y)) (Some x) → IsSymbol n (y ∷ ys) text x
symbol_here n y ys text x named same =
    let is : (n, y) ≡ x = same_Some (n, y) x same in
    rw (← is) (record { place = 0; number = omega arith; there = refl; named = (bytes_eq-Decides y.name text).0 named })

symbol_case : (n : ℕ) (y : Symbol) (ys : List Symbol) (text : List ℕ) (x : ℕ × Symbol) → (first_called called_symbol text (considered_from (n + 1) ys) ≡ Some x → IsSymbol (n + 1) ys text x) → (t u : Bool) → is_considered (n, y) ≡ t → bytes_eq y.name text ≡ u
    → first_called called_symbol text (considered_from n (y ∷ ys)) ≡ Some x → IsSymbol n (y ∷ ys) text x
symbol_case n y ys text x rest false u p q h = symbol_behind n y ys text x (rest (rw p at h))
symbol_case n y ys text x rest true true p q h = symbol_here n y ys text x q (rw (p, q) at h)
symbol_case n y ys text x rest true false p q h = symbol_behind n y ys text x (rest (rw (p, q) at h))

found_symbol : (n : ℕ) (xs : List Symbol) (text : List ℕ) (x : ℕ × Symbol) → first_called called_symbol text (considered_from n xs) ≡ Some x → IsSymbol n xs text x
found_symbol n [] text x h = absurd cc
found_symbol n (y ∷ ys) text x h = symbol_case n y ys text x (found_symbol (n + 1) ys text x) (is_considered (n, y)) (bytes_eq y.name text) refl refl h

class_there : (s : Lists) (table : List ℕ) (k : ℕ) (x : Symbol) → table ≡ unwrap_or s.sym [] → slice_get (symbols s) k ≡ Some x → (o : Option ℕ) → sort_in table k ≡ o → class_in o ≡ class_of x
class_there s table k x t at None e = let none = not_there s table k t (sym e) in absurd (let bad : ◌≡◌ {A = Option Symbol} None (Some x) = sym none ∙ at in cc)
class_there s table k x t at (Some sort) e =
    let y = there s table k sort t (sym e) in
    let same : y.0 ≡ x = same_Some y.0 x (sym y.1 ∙ at) in
    ap (λ (n : ℕ). if n == 1 then Object else Function) (sym y.2 ∙ ap (λ (z : Symbol). z.sort) same)

-- the considered symbol that was found owns the first entry with the name
pub found_owner : (s : Lists) (o : Order) (table text : List ℕ) (names : Naming) (number : ℕ) → first_fault s ≡ None → table ≡ unwrap_or s.sym [] → names ≡ program_names s.strs → SymbolsInOrder s o → ((items : List NamedItem) → Fits names items o → IsFound names items text (Some number))
    → Some (record { number = number; name = text; class = class_in (sort_in table number) }) ≡ option_map owner_of (entry_named (said_by s).entries text)
found_owner s o table text names number sound t by order finds =
    let first = found_first (program_names s.strs) called_symbol (with_types (symbols s)) o text (Some number) (considered_rising 0 (symbols s)) order (rw by at finds) in
    at (first_called called_symbol text (with_types (symbols s))) refl first ∙ sym (entry_of_symbol s text sound)
  where
    at : (f : Option (ℕ × Symbol)) → first_called called_symbol text (with_types (symbols s)) ≡ f → Some number ≡ option_map (λ x. x.0) f → Some (record { number = number; name = text; class = class_in (sort_in table number) }) ≡ option_map owner (first_called called_symbol text (with_types (symbols s)))
    at None e same = absurd cc
    at (Some x) e same =
        let is = found_symbol 0 (symbols s) text x e in
        let numbered : number ≡ x.0 = same_Some number x.0 same in
        let place : is.place ≡ number = omega (arith, is.number, numbered) in
        let class : class_in (sort_in table number) ≡ class_of x.1 = class_there s table number x.1 t (rw place at is.there) (sort_in table number) refl in
        rw (e, class, ← is.named, numbered) refl

-- if none is found, there is no entry with the name
pub none_owned : (s : Lists) (o : Order) (text : List ℕ) (names : Naming) → first_fault s ≡ None → names ≡ program_names s.strs → SymbolsInOrder s o → ((items : List NamedItem) → Fits names items o → IsFound names items text None)
    → None ≡ option_map owner_of (entry_named (said_by s).entries text)
none_owned s o text names sound by order finds =
    let first = found_first (program_names s.strs) called_symbol (with_types (symbols s)) o text None (considered_rising 0 (symbols s)) order (rw by at finds) in
    at (first_called called_symbol text (with_types (symbols s))) refl first ∙ sym (entry_of_symbol s text sound)
  where
    at : (f : Option (ℕ × Symbol)) → first_called called_symbol text (with_types (symbols s)) ≡ f → None ≡ option_map (λ x. x.0) f → None ≡ option_map owner (first_called called_symbol text (with_types (symbols s)))
    at None e same = rw e refl
    at (Some x) e same = absurd cc

-- ---- labels

label_first : (n : ℕ) (ls : List Label) (text : List ℕ) → last_of_label ls text ≡ option_map (λ x. x.1.last) (first_called called_label text (enumerate_from n ls))
label_first n [] text = refl
label_first n (l ∷ ls) text = by_case (bytes_eq l.name text) (label_first (n + 1) ls text)
  where
    by_case : (t : Bool) → last_of_label ls text ≡ option_map (λ x. x.1.last) (first_called called_label text (enumerate_from (n + 1) ls)) → (if t then Some l.last else last_of_label ls text) ≡ option_map (λ x. x.1.last) (if t then Some (n, l) else first_called called_label text (enumerate_from (n + 1) ls))
    by_case true rest = refl
    by_case false rest = rest

label_there : (n : ℕ) (ls : List Label) (text : List ℕ) (x : ℕ × Label) → first_called called_label text (enumerate_from n ls) ≡ Some x → (place : ℕ) × (n + place ≡ x.0) × (slice_get ls place ≡ Some x.1)
label_there n [] text x h = absurd cc
label_there n (l ∷ ls) text x h = by_case (bytes_eq l.name text) (label_there (n + 1) ls text x) h
  where
    by_case : (t : Bool) → (first_called called_label text (enumerate_from (n + 1) ls) ≡ Some x → (place : ℕ) × (n + 1 + place ≡ x.0) × (slice_get ls place ≡ Some x.1)) → (if t then Some (n, l) else first_called called_label text (enumerate_from (n + 1) ls)) ≡ Some x → (place : ℕ) × (n + place ≡ x.0) × (slice_get (l ∷ ls) place ≡ Some x.1)
    by_case true rest same = let is : (n, l) ≡ x = same_Some (n, l) x same in rw (← is) (0, omega arith, refl)
    by_case false rest same = let later = rest same in (suc later.0, omega (arith, later.1), later.2)

-- the result of a look-up among labels
pub found_label : (s : Lists) (o : Order) (text : List ℕ) (names : Naming) (found : Option ℕ) → names ≡ name (tables s) → LabelsInOrder s o → ((items : List NamedItem) → Fits names items o → IsFound names items text found)
    → MatchOption found (last_of_label (said_by s).labels text ≡ None) (λ n. last_of_label (said_by s).labels text ≡ option_map (λ x. x.last) (slice_get (said_by s).labels n))
found_label s o text names found by order finds =
    let all = enumerate_from 0 (said_by s).labels in
    at found (first_called called_label text all) refl (found_first (name (tables s)) called_label all o text found (enumerated_rising 0 (said_by s).labels) order (rw by at finds))
  where
    last : (f : Option (ℕ × Label)) → first_called called_label text (enumerate_from 0 (said_by s).labels) ≡ f → last_of_label (said_by s).labels text ≡ option_map (λ x. x.1.last) f
    last f e = label_first 0 (said_by s).labels text ∙ ap (option_map (λ x. x.1.last)) e

    at : (found : Option ℕ) (f : Option (ℕ × Label)) → first_called called_label text (enumerate_from 0 (said_by s).labels) ≡ f → found ≡ option_map (λ x. x.0) f → MatchOption found (last_of_label (said_by s).labels text ≡ None) (λ n. last_of_label (said_by s).labels text ≡ option_map (λ x. x.last) (slice_get (said_by s).labels n))
    at None None e same = last None e
    at None (Some x) e same = absurd cc
    at (Some n) None e same = absurd cc
    at (Some n) (Some x) e same =
        let is = label_there 0 (said_by s).labels text x e in
        let place : is.0 ≡ n = omega (arith, is.1, same_Some n x.0 same) in
        let there : slice_get (said_by s).labels n ≡ Some x.1 = rw place at is.2 in
        rw there (last (Some x) e)

pub label_refused : (s : Lists) (text : List ℕ) → last_of_label (said_by s).labels text ≡ None → Err (placeless NO_LABEL) ≡ label_of (said_by s) text
label_refused s text e = rw e refl

pub label_said : (s : Lists) (text : List ℕ) (last : ℕ) → last_of_label (said_by s).labels text ≡ Some last → Ok last ≡ label_of (said_by s) text
label_said s text last e = rw e refl
