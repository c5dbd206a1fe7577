use Rattle.std.proofs.Common.{◌≡◌, ℕ, List, Option, Some, None, Result, IsSome, refl, sym, ap, ◌∙◌}
use Rattle.std.specs.Prelude.{IfSome}
use Rattle.std.proofs.lemmas.Bool.{false≢true}
use Rattle.std.specs.Option.{option_map}
use Rattle.std.specs.List.{AllByRecursion}
use Rattle.ctf_chains.specs.Starts.{starts_in}
use Rattle.ctf_model.specs.rules.Faults.{types, walk_fault}
use Rattle.ctf_model.specs.format.Name.{Tables}
use Rattle.ctf_model.specs.format.Spelling.{term_of}
use Rattle.ctf_model.specs.format.Section.{Piece}
use Rattle.ctf_model.specs.format.Term.{Term}
use Rattle.ctf_model.specs.declared.faults.Fault.{Fault}
use Rattle.ctf_check.proofs.Order.{faultless, types_are}
use Rattle.ctf_check.proofs.Terms.{IsSpelled, all_spelled, numbered_index, numbered_spelled, spelled_at, type_is}
use Rattle.ctf_check.specs.CheckedView.{lists_of, tables_of}
use Rattle.ctf_records.specs.Pieces.{piece_numbered}
use Rattle.ctf_records.specs.RecordView.{bytes_of, index_of, piece}
use Rattle.ctf_records.specs.declared.record.Record.{Record}
use Rattle.ctf_check.proofs.checked.Checked.term.Goals as goal

-- ---- over any list of records

some_iff : (t : Tables) (xs : List (Result Piece Fault)) (n : ℕ) (r : Option Record) (x : Option Term) → AllByRecursion (IsSpelled t) xs → option_map piece r ≡ piece_numbered xs n → spelled_at t (piece_numbered xs n) ≡ x
    → (IsSome r → IsSome x) × (IsSome x → IsSome r)
some_iff t xs n None x all e f =
    let none : None ≡ x = ap (spelled_at t) e ∙ f in
    (λ h. absurd (false≢true h), λ h. absurd (false≢true (rw (← none) at h)))
some_iff t xs n (Some r) x all e f =
    let y = numbered_spelled t xs n (piece r) all (sym e) in
    let some : Some y.type ≡ x = sym y.says ∙ (ap (spelled_at t) e ∙ f) in
    (λ h. rw (← some) refl, λ h. refl)

said : (t : Tables) (xs : List (Result Piece Fault)) (n : ℕ) (r : Option Record) (x : Option Term) → option_map piece r ≡ piece_numbered xs n → spelled_at t (piece_numbered xs n) ≡ x → IfSome r (λ q. term_of t (bytes_of q) ≡ x)
said t xs n None x e f = tt
said t xs n (Some r) x e f = ap (spelled_at t) e ∙ f

numbered : (xs : List (Result Piece Fault)) (n : ℕ) (r : Option Record) → option_map piece r ≡ piece_numbered xs n → IfSome r (λ q. index_of q ≡ n)
numbered xs n None e = tt
numbered xs n (Some r) e = numbered_index xs n (piece r) (sym e)

own : (xs : List (Result Piece Fault)) (n : ℕ) (r : Option Record) → option_map piece r ≡ piece_numbered xs n → IfSome r (λ q. piece_numbered xs q.index ≡ Some (piece q))
own xs n None e = tt
own xs n (Some r) e = ap (piece_numbered xs) (numbered_index xs n (piece r) (sym e)) ∙ sym e

-- ---- over the records of the dictionary

pub returns-clause-exact : goal.returns-clause-exact
returns-clause-exact c =
    let d = c.args.self.now in
    let part = types_are (lists_of d).ctf c.section.result.now c.section.ensures.bytes in
    let found = c.find.ensures ∙ ap (λ (l : List (Result Piece Fault)). piece_numbered l c.args.index) part in
    some_iff (tables_of d) _ c.args.index _ _ (all_spelled (lists_of d) d.faultless) found (type_is (lists_of d) c.args.index d.faultless)

pub returns-clause-spells : goal.returns-clause-spells
returns-clause-spells c =
    let d = c.args.self.now in
    let part = types_are (lists_of d).ctf c.section.result.now c.section.ensures.bytes in
    let found = c.find.ensures ∙ ap (λ (l : List (Result Piece Fault)). piece_numbered l c.args.index) part in
    said (tables_of d) _ c.args.index _ _ found (type_is (lists_of d) c.args.index d.faultless)

pub returns-clause-index : goal.returns-clause-index
returns-clause-index c = numbered _ c.args.index _ c.find.ensures

pub returns-clause-own : goal.returns-clause-own
returns-clause-own c =
    let d = c.args.self.now in
    let part = types_are (lists_of d).ctf c.section.result.now c.section.ensures.bytes in
    own (types (lists_of d).ctf) c.args.index _ (c.find.ensures ∙ ap (λ (l : List (Result Piece Fault)). piece_numbered l c.args.index) part)

pub find-requires-clause-whole : goal.find-requires-clause-whole
find-requires-clause-whole c =
    let d = c.args.self.now in
    let part = types_are (lists_of d).ctf c.section.result.now c.section.ensures.bytes in
    ap walk_fault part ∙ (faultless (lists_of d) d.faultless).read

pub find-requires-clause-begin : goal.find-requires-clause-begin
find-requires-clause-begin c =
    let d = c.args.self.now in
    let part = types_are (lists_of d).ctf c.section.result.now c.section.ensures.bytes in
    c.starts.ensures ∙ ap starts_in (sym part)
