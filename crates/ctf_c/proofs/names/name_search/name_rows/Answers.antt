use Rattle.std.proofs.Common.{◌≡◌, ◌⊎◌, List, ℕ, Option, Some, ap, sym, ◌∙◌, ⊎_elim, inl, inr}
use Rattle.std.specs.Option.{option_map}
use Rattle.ctf_model.specs.format.Record.{kind}
use Rattle.ctf_model.specs.format.Shown.{shown}
use Rattle.ctf_model.specs.format.Term.{Term}
use Rattle.ctf_model.specs.declared.kinds.Kind.TheVariants.{KStruct, KUnion}
use Rattle.ctf_records.specs.RecordView.{bytes_of}
use Rattle.ctf_sections.specs.StringsView.{tables}
use Rattle.ctf_views.proofs.Shows.{member_parts}
use Rattle.ctf_views.specs.Lists.{items_in}
use Rattle.ctf_c.specs.names.Names.{name_at, shown_names}
use Rattle.ctf_c.proofs.names.NamedRows.{enum_good, enum_named, struct_good, struct_named, none_named, same_term, some_term}
use Rattle.ctf_c.proofs.names.name_search.name_rows.Goals as goal

abbrev names_said : Term → Option (List (List ℕ))
names_said x = shown_names (shown x.body)

pub new-requires-clause-good : goal.new-requires-clause-good
new-requires-clause-good c =
    let x = c.args.found.now in
    let t = tables c.strings-strings.result in
    let b = bytes_of c.record-record.result in
    let some = some_term x.dictionary c.dictionary.result x.source c.record-record.result t x.own c.strings-strings.ensures c.dictionary.ensures c.record-record.ensures in
    let k : (kind b ≡ Some KStruct) ⊎ (kind b ≡ Some KUnion) = ⊎_elim (λ e. inl (c.kind.ensures ∙ ap Some e)) (λ e. inr (c.kind.ensures ∙ ap Some e)) c.in-KStruct.is in
    let p = member_parts b c.rest-rest.result.now c.unwrap.result c.vlen-count.result k (sym c.size.ensures ∙ c.unwrap.ensures) c.vlen-count.ensures.number c.rest-rest.ensures.length in
    rw c.member_len-width.ensures (struct_good t b c.rest-rest.result.now c.unwrap.result c.vlen-count.result k some c.rest-rest.ensures.bytes p)

pub new-requires-in-KEnum-clause-good : goal.new-requires-in-KEnum-clause-good
new-requires-in-KEnum-clause-good c =
    let x = c.args.found.now in
    let t = tables c.strings-strings.result in
    let b = bytes_of c.record-record.result in
    let some = some_term x.dictionary c.dictionary.result x.source c.record-record.result t x.own c.strings-strings.ensures c.dictionary.ensures c.record-record.ensures in
    enum_good t b c.rest-rest.result.now c.vlen-count.result (c.kind.ensures ∙ ap Some c.in-KEnum.is) some c.rest-rest.ensures.bytes c.rest-rest.ensures.length c.vlen-count.ensures.number

pub returns-in-KStruct-clause-names : goal.returns-in-KStruct-clause-names
returns-in-KStruct-clause-names c =
    let x = c.args.found.now in
    let t = tables c.strings-strings.result in
    let b = bytes_of c.record-record.result in
    let some = some_term x.dictionary c.dictionary.result x.source c.record-record.result t x.own c.strings-strings.ensures c.dictionary.ensures c.record-record.ensures in
    let same = same_term x.dictionary c.dictionary.result x.source c.record-record.result t c.strings-strings.ensures c.dictionary.ensures c.record-record.ensures in
    let k : (kind b ≡ Some KStruct) ⊎ (kind b ≡ Some KUnion) = ⊎_elim (λ e. inl (c.kind.ensures ∙ ap Some e)) (λ e. inr (c.kind.ensures ∙ ap Some e)) c.in-KStruct.is in
    let p = member_parts b c.rest-rest.result.now c.unwrap.result c.vlen-count.result k (sym c.size.ensures ∙ c.unwrap.ensures) c.vlen-count.ensures.number c.rest-rest.ensures.length in
    let wide = ap (λ (len : ℕ). items_in (name_at t) len c.vlen-count.result c.rest-rest.result.now) (sym c.member_len-width.ensures) in
    ap (option_map names_said) same ∙ struct_named t b c.rest-rest.result.now c.unwrap.result c.vlen-count.result k some c.rest-rest.ensures.bytes p ∙ ap (λ (names : List (List ℕ)). Some (Some names)) (wide ∙ c.new.ensures.names)

pub returns-in-KEnum-clause-names : goal.returns-in-KEnum-clause-names
returns-in-KEnum-clause-names c =
    let x = c.args.found.now in
    let t = tables c.strings-strings.result in
    let b = bytes_of c.record-record.result in
    let some = some_term x.dictionary c.dictionary.result x.source c.record-record.result t x.own c.strings-strings.ensures c.dictionary.ensures c.record-record.ensures in
    let same = same_term x.dictionary c.dictionary.result x.source c.record-record.result t c.strings-strings.ensures c.dictionary.ensures c.record-record.ensures in
    ap (option_map names_said) same ∙ enum_named t b c.rest-rest.result.now c.vlen-count.result (c.kind.ensures ∙ ap Some c.in-KEnum.is) some c.rest-rest.ensures.bytes c.rest-rest.ensures.length c.vlen-count.ensures.number ∙ ap (λ (names : List (List ℕ)). Some (Some names)) c.new-in-KEnum.ensures.names

pub returns-in_default : goal.returns-in_default
returns-in_default c =
    let x = c.args.found.now in
    let t = tables c.strings-strings.result in
    let b = bytes_of c.record-record.result in
    let some = some_term x.dictionary c.dictionary.result x.source c.record-record.result t x.own c.strings-strings.ensures c.dictionary.ensures c.record-record.ensures in
    let same = same_term x.dictionary c.dictionary.result x.source c.record-record.result t c.strings-strings.ensures c.dictionary.ensures c.record-record.ensures in
    record {
      names = ap (option_map names_said) same ∙ none_named t b _ c.kind.ensures some c.in_default.not-KStruct c.in_default.not-KUnion c.in_default.not-KEnum;
      tables = tt;
    }
