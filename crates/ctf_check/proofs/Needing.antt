-- The greatest number of a parent's type in the bytes is that of the types.
use Rattle.std.proofs.Common.{◌≡◌, ℕ, max, List, [], ◌∷◌, ◌++◌, Some, None, Result, Ok, Err, refl, sym, ap, ◌∙◌, arith}
use Rattle.std.specs.List.{AllByRecursion, flat_map}
use Rattle.ctf_model.specs.format.Dictionary.{said_by}
use Rattle.ctf_model.specs.rules.Faults.{first_fault, types}
use Rattle.ctf_model.specs.format.Lists.{Lists, tables}
use Rattle.ctf_model.specs.format.Name.{Tables}
use Rattle.ctf_model.specs.symbols.Entries.{Entry, types_named}
use Rattle.ctf_model.specs.rules.Needs.{greatest_in_parent, named_by}
use Rattle.ctf_model.specs.rules.References.{references}
use Rattle.ctf_model.specs.format.Section.{Piece, terms_in}
use Rattle.ctf_model.specs.format.Spelling.{term_of}
use Rattle.ctf_model.specs.format.Term.{Term}
use Rattle.ctf_model.specs.declared.faults.Fault.{Fault}
use Rattle.ctf_check.specs.Needed.{record_needs, records_need, entries_need}
use Rattle.ctf_check.proofs.Naming.{record_names}
use Rattle.ctf_check.proofs.Terms.{IsSpelled, all_spelled}

-- the greatest of two lists
greatest_append : (xs ys : List ℕ) → greatest_in_parent (xs ++ ys) ≡ max (greatest_in_parent xs) (greatest_in_parent ys)
unfolding greatest_in_parent
greatest_append [] ys = omega arith
greatest_append (x ∷ xs) ys = omega (arith, greatest_append xs ys)

-- a record needs the greatest number that its type refers to
record_needs_said : (t : Tables) (b : List ℕ) (x : Term) → term_of t b ≡ Some x → record_needs b ≡ greatest_in_parent (references x.body)
unfolding record_needs
record_needs_said t b x e = ap greatest_in_parent (sym (record_names t b x e))

records_need_said : (t : Tables) (xs : List (Result Piece Fault)) → AllByRecursion (IsSpelled t) xs → records_need xs ≡ greatest_in_parent (flat_map (λ x. references x.body) (terms_in t xs))
unfolding records_need terms_in greatest_in_parent
records_need_said t [] all = refl
records_need_said t (Ok p ∷ xs) all =
    let x = all.0.type in
    let here = record_needs_said t p.bytes x all.0.says in
    let later = records_need_said t xs all.1 in
    rw (all.0.says, here, later) (sym (greatest_append (references x.body) (flat_map (λ x. references x.body) (terms_in t xs))))
records_need_said t (Err f ∷ xs) all = absurd all.0

-- without a broken rule, records need what the dictionary's types refer to
pub types_need : (s : Lists) → first_fault s ≡ None → records_need (types s.ctf) ≡ greatest_in_parent (flat_map (λ x. references x.body) (said_by s).terms)
unfolding said_by
types_need s e = records_need_said (tables s) (types s.ctf) (all_spelled s e)

entries_need_said : (es : List Entry) → entries_need es ≡ greatest_in_parent (flat_map (λ e. types_named e.info) es)
unfolding entries_need greatest_in_parent
entries_need_said [] = refl
entries_need_said (e ∷ es) = ap (λ (n : ℕ). max (greatest_in_parent (types_named e.info)) n) (entries_need_said es) ∙ sym (greatest_append (types_named e.info) (flat_map (λ e. types_named e.info) es))

-- without a broken rule, records and entries need what the dictionary refers to
pub all_need : (s : Lists) → first_fault s ≡ None → max (records_need (types s.ctf)) (entries_need (said_by s).entries) ≡ greatest_in_parent (named_by (said_by s))
all_need s e =
    ap (λ (n : ℕ). max n (entries_need (said_by s).entries)) (types_need s e)
    ∙ ap (λ (n : ℕ). max (greatest_in_parent (flat_map (λ x. references x.body) (said_by s).terms)) n) (entries_need_said (said_by s).entries)
    ∙ sym (greatest_append (flat_map (λ x. references x.body) (said_by s).terms) (flat_map (λ e. types_named e.info) (said_by s).entries))
