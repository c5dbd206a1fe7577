-- The record of a type gives the type's own fields.
use Rattle.std.proofs.Common.{◌≡◌, ◌<◌, ℕ, length, Option, Some, refl, sym, ap, ◌∙◌}
use Rattle.std.specs.Prelude.{IfSome, slice_index}
use Rattle.std.specs.Option.{option_map}
use Rattle.std.proofs.lemmas.Option.{same_Some}
use Rattle.ctf_model.specs.format.Bytes.{u32_at}
use Rattle.ctf_model.specs.rules.Chains.{by_value}
use Rattle.ctf_model.specs.format.Name.{name}
use Rattle.ctf_model.specs.format.Record.{kind, is_root}
use Rattle.ctf_model.specs.format.Shown.{Facts, Shape, facts, kind_of, reference_of, shape, shown, size_of}
use Rattle.ctf_model.specs.format.Term.{Term}
use Rattle.ctf_model.specs.declared.kinds.Kind.{Kind}
use Rattle.ctf_chains.proofs.SpelledNumbers.{spelled_numbers}
use Rattle.ctf_chains.specs.Numbers.{numbers}
use Rattle.ctf_chains.specs.declared.chain.Chain.TheVariants.{ByValue}
use Rattle.ctf_check.proofs.Terms.{Spelled, all_spelled, numbered_spelled}
use Rattle.ctf_check.specs.CheckedView.{IsOwn, lists_of, tables_of}
use Rattle.ctf_check.specs.declared.checked.Checked.{Checked}
use Rattle.ctf_records.specs.ByKind.{size_in, reference_in, declared_in}
use Rattle.ctf_records.specs.RecordView.{bytes_of, piece}
use Rattle.ctf_records.specs.declared.record.Record.{Record}
use Rattle.ctf_model.specs.format.Spelling.{term_of}
use Rattle.ctf_check.proofs.SpelledHead.{head_says}

-- a record of a dictionary spells a type
pub own_spelled : (d : Checked) (r : Record) → IsOwn d r → Spelled (tables_of d) (bytes_of r)
own_spelled d r own = numbered_spelled (tables_of d) _ _ (piece r) (all_spelled (lists_of d) d.faultless) own

pub described : (d : Checked) (r : Record) (f : Shape) → IsOwn d r → kind (bytes_of r) ≡ Some f.kind
    → f.size ≡ size_in (bytes_of r) → f.reference ≡ reference_in (bytes_of r) → f.declares ≡ declared_in (bytes_of r) → option_map (λ x. shown x.body) (term_of (tables_of d) (bytes_of r)) ≡ Some f.behind
    → option_map (λ x. shape x.body) (term_of (tables_of d) (bytes_of r)) ≡ Some f
described d r f own kind_is size_is reference_is declares_is behind_is =
    let x = own_spelled d r own in
    let s = head_says (tables_of d) (bytes_of r) x.type x.says in
    let same_kind = same_Some _ _ (sym s.kind_is ∙ kind_is) in
    let same_size = size_is ∙ s.size_is in
    let same_reference = reference_is ∙ s.reference_is in
    let same_declares = declares_is ∙ s.declares_is in
    let same_behind = same_Some _ _ (sym (ap (option_map (λ (y : Term). shown y.body)) x.says) ∙ behind_is) in
    rw (x.says, same_kind, same_behind, ← same_size, ← same_reference, ← same_declares) refl

-- ---- parts of it alone

pub kind_said : (d : Checked) (r : Record) (k : Kind) → IsOwn d r → kind (bytes_of r) ≡ Some k → option_map (λ x. kind_of x.body) (term_of (tables_of d) (bytes_of r)) ≡ Some k
kind_said d r k own is =
    let x = own_spelled d r own in
    let s = head_says (tables_of d) (bytes_of r) x.type x.says in
    rw x.says (sym s.kind_is ∙ is)

pub size_said : (d : Checked) (r : Record) (n : Option ℕ) → IsOwn d r → n ≡ size_in (bytes_of r) → option_map (λ x. size_of x.body) (term_of (tables_of d) (bytes_of r)) ≡ Some n
size_said d r n own is =
    let x = own_spelled d r own in
    let s = head_says (tables_of d) (bytes_of r) x.type x.says in
    rw x.says (ap Some (sym (is ∙ s.size_is)))

pub reference_said : (d : Checked) (r : Record) (n : Option ℕ) → IsOwn d r → n ≡ reference_in (bytes_of r) → option_map (λ x. reference_of x.body) (term_of (tables_of d) (bytes_of r)) ≡ Some n
reference_said d r n own is =
    let x = own_spelled d r own in
    let s = head_says (tables_of d) (bytes_of r) x.type x.says in
    rw x.says (ap Some (sym (is ∙ s.reference_is)))

pub values_counted : (d : Checked) (r : Record) (n : ℕ) → IsOwn d r → n ≡ length (numbers ByValue (bytes_of r)) → option_map (λ x. length (by_value x.body)) (term_of (tables_of d) (bytes_of r)) ≡ Some n
values_counted d r n own is =
    let x = own_spelled d r own in
    rw (x.says, spelled_numbers ByValue (tables_of d) (bytes_of r) x.type x.says, is) refl

-- the reference in its record leads to its name
pub referred_name : (d : Checked) (r : Record) → IsOwn d r → option_map (λ x. Some x.name) (term_of (tables_of d) (bytes_of r)) ≡ Some (name (tables_of d) (u32_at (bytes_of r) 0))
referred_name d r own = let x = own_spelled d r own in rw (x.says, x.named) refl

-- whether look-ups see it
pub root_said : (d : Checked) (r : Record) → IsOwn d r → option_map (λ x. x.root) (term_of (tables_of d) (bytes_of r)) ≡ Some (is_root (bytes_of r))
root_said d r own =
    let x = own_spelled d r own in
    let s = head_says (tables_of d) (bytes_of r) x.type x.says in
    rw (x.says, s.root_is) refl

-- ---- with name and visibility

pub all_described : (d : Checked) (r : Record) (f : Facts) → IsOwn d r → option_map (λ x. x.name) (term_of (tables_of d) (bytes_of r)) ≡ Some f.name → f.root ≡ is_root (bytes_of r)
    → option_map (λ x. shape x.body) (term_of (tables_of d) (bytes_of r)) ≡ Some f.shape → option_map facts (term_of (tables_of d) (bytes_of r)) ≡ Some f
all_described d r f own name_is root_is shape_is =
    let x = own_spelled d r own in
    let s = head_says (tables_of d) (bytes_of r) x.type x.says in
    let same_name = same_Some _ _ (sym (ap (option_map (λ (y : Term). y.name)) x.says) ∙ name_is) in
    let same_root = root_is ∙ s.root_is in
    let same_shape = same_Some _ _ (sym (ap (option_map (λ (y : Term). shape y.body)) x.says) ∙ shape_is) in
    rw (x.says, same_name, same_shape, ← same_root) refl

-- the type number of a step by value
pub value_number : (d : Checked) (r : Record) (item : ℕ) → IsOwn d r → IfSome (term_of (tables_of d) (bytes_of r)) (λ x. item < length (by_value x.body)) → item < length (numbers ByValue (bytes_of r))
value_number d r item own inside =
    let x = own_spelled d r own in
    let lt : item < length (by_value x.type.body) = rw x.says at inside in
    rw (← spelled_numbers ByValue (tables_of d) (bytes_of r) x.type x.says) lt

pub value_typed : (d : Checked) (r : Record) (item n : ℕ) → IsOwn d r → n ≡ slice_index (numbers ByValue (bytes_of r)) item → option_map (λ x. slice_index (by_value x.body) item) (term_of (tables_of d) (bytes_of r)) ≡ Some n
value_typed d r item n own is =
    let x = own_spelled d r own in
    rw (x.says, spelled_numbers ByValue (tables_of d) (bytes_of r) x.type x.says, is) refl
