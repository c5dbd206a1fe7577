use Rattle.std.proofs.Common.{◌≡◌, eqb, List, ℕ, Result, option_copied, None, inr, refl, sym, ap, ◌∙◌, length}
use Rattle.std.specs.Prelude.{not}
use Rattle.std.proofs.lemmas.Result.{err_from_is_err_and}
use Rattle.ctf_model.specs.rules.Faults.{first_nameless, sites}
use Rattle.ctf_model.specs.format.Header.{Fields, fields, is_child}
use Rattle.ctf_model.specs.format.Lists.{Lists, tables as tables_of}
use Rattle.ctf_model.specs.format.Name.{Tables}
use Rattle.ctf_model.specs.format.Section.{Piece, records}
use Rattle.ctf_model.specs.declared.faults.Fault.{Fault}
use Rattle.ctf_chains.specs.Starts.{starts_in}
use Rattle.ctf_check.specs.ListsView.{given}
use Rattle.ctf_check.specs.Stages.{records_fault}
use Rattle.ctf_check.proofs.Sites.{record_part}
use Rattle.ctf_check.proofs.Order.{at_header, at_records, at_names, types_are, read_whole}
use Rattle.ctf_check.proofs.TypeStages.{at_types, at_types_or_memory, at_types_or_late}
use Rattle.ctf_check.proofs.judge.check.Goals as goal

pub returns-in_err-header-clause-exact_err : goal.returns-in_err-header-clause-exact_err
returns-in_err-header-clause-exact_err c =
    let p = err_from_is_err_and c.from_residual.result c.from_residual.ensures.1 in
    let s = given c.args.ctf.now (option_copied c.args.sym) (option_copied c.args.strs) in
    rw (p.1, p.2) (inr (at_header s c.in_err-header.field-0.0 c.in_err-header.ensures.exact_err))

pub returns-in_err-header-clause-late : goal.returns-in_err-header-clause-late
returns-in_err-header-clause-late c =
    let p = err_from_is_err_and c.from_residual.result c.from_residual.ensures.1 in
    let s = given c.args.ctf.now (option_copied c.args.sym) (option_copied c.args.strs) in
    rw (p.1, p.2) (inr (at_header s c.in_err-header.field-0.0 c.in_err-header.ensures.exact_err))

pub returns-in_err-walked-clause-exact_err : goal.returns-in_err-walked-clause-exact_err
returns-in_err-walked-clause-exact_err c =
    let p = err_from_is_err_and c.from_residual-in_err-walked.result c.from_residual-in_err-walked.ensures.1 in
    let s = given c.args.ctf.now (option_copied c.args.sym) (option_copied c.args.strs) in
    let part = types_are s.ctf c.bytes_in-types.result.now c.bytes_in-types.ensures.bytes in
    rw (p.1, p.2) (inr (at_records s c.in_err-walked.field-0.0 c.in_ok-header.ensures.exact_ok (ap records_fault (sym part) ∙ c.in_err-walked.ensures.exact_err)))

pub returns-in_err-walked-clause-late : goal.returns-in_err-walked-clause-late
returns-in_err-walked-clause-late c =
    let p = err_from_is_err_and c.from_residual-in_err-walked.result c.from_residual-in_err-walked.ensures.1 in
    let s = given c.args.ctf.now (option_copied c.args.sym) (option_copied c.args.strs) in
    let part = types_are s.ctf c.bytes_in-types.result.now c.bytes_in-types.ensures.bytes in
    rw (p.1, p.2) (inr (at_records s c.in_err-walked.field-0.0 c.in_ok-header.ensures.exact_ok (ap records_fault (sym part) ∙ c.in_err-walked.ensures.exact_err)))

-- the string tables are those of the lists
same_tables : (t : Tables) (s : Lists) (internal : List ℕ) → t ≡ record { internal = internal; elf = s.strs } → internal ≡ (tables_of s).internal → t ≡ tables_of s
same_tables t s internal e i = rw (e, i) refl

pub bad_name-requires-clause-in_records : goal.bad_name-requires-clause-in_records
bad_name-requires-clause-in_records c =
    let part = types_are c.args.ctf.now c.bytes_in-types.result.now c.bytes_in-types.ensures.bytes in
    c.in_ok-walked.ensures.name ∙ record_part _ c.args.ctf.now c.in_ok-header.header c.range-start.result _ c.in_ok-header.ensures.fields c.range-start.ensures.range part

pub returns-in-Some-clause-exact_err : goal.returns-in-Some-clause-exact_err
returns-in-Some-clause-exact_err c =
    let s = given c.args.ctf.now (option_copied c.args.sym) (option_copied c.args.strs) in
    let part = types_are s.ctf c.bytes_in-types.result.now c.bytes_in-types.ensures.bytes in
    let same = same_tables _ s c.bytes_in.result.now c.new-ends.ensures c.bytes_in.ensures.bytes in
    let bad = c.bad_name.ensures ∙ ap (λ (t : Tables). first_nameless t (sites s.ctf)) same in
    let all = at_names s c.bad_name.result c.in_ok-header.ensures.exact_ok (ap records_fault (sym part) ∙ c.in_ok-walked.ensures.exact_ok) bad in
    inr (rw c.in-Some.is at all)

pub returns-in-Some-clause-late : goal.returns-in-Some-clause-late
returns-in-Some-clause-late c =
    let s = given c.args.ctf.now (option_copied c.args.sym) (option_copied c.args.strs) in
    let part = types_are s.ctf c.bytes_in-types.result.now c.bytes_in-types.ensures.bytes in
    let same = same_tables _ s c.bytes_in.result.now c.new-ends.ensures c.bytes_in.ensures.bytes in
    let bad = c.bad_name.ensures ∙ ap (λ (t : Tables). first_nameless t (sites s.ctf)) same in
    let all = at_names s c.bad_name.result c.in_ok-header.ensures.exact_ok (ap records_fault (sym part) ∙ c.in_ok-walked.ensures.exact_ok) bad in
    inr (rw c.in-Some.is at all)

-- a dictionary with a parent's name is a child
same_child : (n : ℕ) (g h : Fields) → n ≡ g.parname → g ≡ h → not (eqb n 0) ≡ is_child h
same_child n g h e f = rw (e, f) refl

pub judge_types-requires : goal.judge_types-requires
judge_types-requires c = record { whole = read_whole (records c.bytes_in-types.result.now) c.in_ok-walked.ensures.exact_ok; count = c.in_ok-walked.ensures.count; short = c.bytes_in-types.ensures.short; enough = c.in_ok-walked.ensures.enough }

pub returns-in_err-starts-clause-exact_err : goal.returns-in_err-starts-clause-exact_err
returns-in_err-starts-clause-exact_err c =
    let p = err_from_is_err_and c.from_residual-in_err-starts.result c.from_residual-in_err-starts.ensures.1 in
    let s = given c.args.ctf.now (option_copied c.args.sym) (option_copied c.args.strs) in
    let part = types_are s.ctf c.bytes_in-types.result.now c.bytes_in-types.ensures.bytes in
    let same = same_tables _ s c.bytes_in.result.now c.new-ends.ensures c.bytes_in.ensures.bytes in
    let bad = c.bad_name.ensures ∙ ap (λ (t : Tables). first_nameless t (sites s.ctf)) same in
    rw (p.1, p.2) (at_types_or_memory s c.bytes_in-types.result.now _ c.bad_name.result c.in_err-starts.field-0.0 c.in_ok-header.ensures.exact_ok part c.in_ok-walked.ensures.exact_ok bad c.in_default.is (same_child c.parname-child.result c.in_ok-header.header (fields c.args.ctf.now) c.parname-child.ensures c.in_ok-header.ensures.fields) c.in_err-starts.ensures.err)

pub returns-in_err-starts-clause-late : goal.returns-in_err-starts-clause-late
returns-in_err-starts-clause-late c =
    let p = err_from_is_err_and c.from_residual-in_err-starts.result c.from_residual-in_err-starts.ensures.1 in
    let s = given c.args.ctf.now (option_copied c.args.sym) (option_copied c.args.strs) in
    let part = types_are s.ctf c.bytes_in-types.result.now c.bytes_in-types.ensures.bytes in
    let same = same_tables _ s c.bytes_in.result.now c.new-ends.ensures c.bytes_in.ensures.bytes in
    let bad = c.bad_name.ensures ∙ ap (λ (t : Tables). first_nameless t (sites s.ctf)) same in
    rw (p.1, p.2) (at_types_or_late s c.bytes_in-types.result.now _ c.in_ok-walked.walked.count c.bad_name.result c.in_err-starts.field-0.0 c.in_ok-header.ensures.exact_ok part c.in_ok-walked.ensures.exact_ok bad c.in_default.is (same_child c.parname-child.result c.in_ok-header.header (fields c.args.ctf.now) c.parname-child.ensures c.in_ok-header.ensures.fields) c.in_ok-walked.ensures.count c.in_err-starts.ensures.late)

pub judge_symbols-requires : goal.judge_symbols-requires
judge_symbols-requires c =
    let part = types_are c.args.ctf.now c.bytes_in-types.result.now c.bytes_in-types.ensures.bytes in
    record {
      fields = c.in_ok-header.ensures.fields;
      inside = c.in_ok-header.ensures.inside;
      child = same_child c.parname-child.result c.in_ok-header.header (fields c.args.ctf.now) c.parname-child.ensures c.in_ok-header.ensures.fields;
      count = c.in_ok-walked.ensures.count ∙ ap (λ (l : List (Result Piece Fault)). length l) part;
    }

pub returns-in_err-judge_symbols-clause-exact_err : goal.returns-in_err-judge_symbols-clause-exact_err
returns-in_err-judge_symbols-clause-exact_err c =
    let p = err_from_is_err_and c.from_residual-in_err-judge_symbols.result c.from_residual-in_err-judge_symbols.ensures.1 in
    let s = given c.args.ctf.now (option_copied c.args.sym) (option_copied c.args.strs) in
    let part = types_are s.ctf c.bytes_in-types.result.now c.bytes_in-types.ensures.bytes in
    let same = same_tables _ s c.bytes_in.result.now c.new-ends.ensures c.bytes_in.ensures.bytes in
    let bad = c.bad_name.ensures ∙ ap (λ (t : Tables). first_nameless t (sites s.ctf)) same in
    let none = at_types s c.bytes_in-types.result.now _ c.bad_name.result None c.in_ok-header.ensures.exact_ok part c.in_ok-walked.ensures.exact_ok bad c.in_default.is (same_child c.parname-child.result c.in_ok-header.header (fields c.args.ctf.now) c.parname-child.ensures c.in_ok-header.ensures.fields) c.in_ok-starts.ensures.ok in
    rw (p.1, p.2) (inr (none ∙ c.in_err-judge_symbols.ensures.err))

pub returns-in_err-judge_symbols-clause-late : goal.returns-in_err-judge_symbols-clause-late
returns-in_err-judge_symbols-clause-late c =
    let p = err_from_is_err_and c.from_residual-in_err-judge_symbols.result c.from_residual-in_err-judge_symbols.ensures.1 in
    let s = given c.args.ctf.now (option_copied c.args.sym) (option_copied c.args.strs) in
    let part = types_are s.ctf c.bytes_in-types.result.now c.bytes_in-types.ensures.bytes in
    let same = same_tables _ s c.bytes_in.result.now c.new-ends.ensures c.bytes_in.ensures.bytes in
    let bad = c.bad_name.ensures ∙ ap (λ (t : Tables). first_nameless t (sites s.ctf)) same in
    let none = at_types s c.bytes_in-types.result.now _ c.bad_name.result None c.in_ok-header.ensures.exact_ok part c.in_ok-walked.ensures.exact_ok bad c.in_default.is (same_child c.parname-child.result c.in_ok-header.header (fields c.args.ctf.now) c.parname-child.ensures c.in_ok-header.ensures.fields) c.in_ok-starts.ensures.ok in
    rw (p.1, p.2) (inr (none ∙ c.in_err-judge_symbols.ensures.err))

pub returns-clause-starts : goal.returns-clause-starts
returns-clause-starts c = c.in_ok-starts.ensures.starts ∙ ap starts_in (types_are c.args.ctf.now c.bytes_in-types.result.now c.bytes_in-types.ensures.bytes)

pub returns-clause-exact_ok : goal.returns-clause-exact_ok
returns-clause-exact_ok c =
    let s = given c.args.ctf.now (option_copied c.args.sym) (option_copied c.args.strs) in
    let part = types_are s.ctf c.bytes_in-types.result.now c.bytes_in-types.ensures.bytes in
    let same = same_tables _ s c.bytes_in.result.now c.new-ends.ensures c.bytes_in.ensures.bytes in
    let bad = c.bad_name.ensures ∙ ap (λ (t : Tables). first_nameless t (sites s.ctf)) same in
    at_types s c.bytes_in-types.result.now _ c.bad_name.result None c.in_ok-header.ensures.exact_ok part c.in_ok-walked.ensures.exact_ok bad c.in_default.is (same_child c.parname-child.result c.in_ok-header.header (fields c.args.ctf.now) c.parname-child.ensures c.in_ok-header.ensures.fields) c.in_ok-starts.ensures.ok ∙ c.in_ok-judge_symbols.ensures.ok
