use Rattle.std.proofs.Common.{◌≡◌, ◌⊎◌, List, Option, Some, ap, sym, ◌∙◌, ⊎_elim, inl, inr, refl}
use Rattle.std.specs.Option.{option_map}
use Rattle.ctf_check.specs.CheckedView.{tables_of}
use Rattle.ctf_model.specs.format.Record.{kind}
use Rattle.ctf_model.specs.format.Shown.{members_in, shown}
use Rattle.ctf_model.specs.format.Term.{Member, Term}
use Rattle.ctf_model.specs.declared.kinds.Kind.TheVariants.{KStruct, KUnion}
use Rattle.ctf_records.specs.RecordView.{bytes_of}
use Rattle.ctf_sections.specs.StringsView.{tables}
use Rattle.ctf_views.proofs.Shows.{member_parts, members_good}
use Rattle.ctf_c.proofs.names.Listing.{none_listed, struct_listed}
use Rattle.ctf_c.proofs.names.NamedRows.{same_term, some_term}
use Rattle.ctf_c.proofs.names.name_search.member_rows.Goals as goal

abbrev members_said : Term → Option (List Member)
members_said x = members_in (shown x.body)

pub new-requires : goal.new-requires
new-requires c =
    let x = c.args.found.now in
    let t = tables c.strings-strings.result in
    let b = bytes_of c.record-record.result in
    let some = some_term x.dictionary c.dictionary.result x.source c.record-record.result t x.own c.strings-strings.ensures c.dictionary.ensures c.record-record.ensures in
    let k : (kind b ≡ Some KStruct) ⊎ (kind b ≡ Some KUnion) = ⊎_elim (λ e. inl (c.kind.ensures ∙ ap Some e)) (λ e. inr (c.kind.ensures ∙ ap Some e)) c.in-KStruct.is in
    let p = member_parts b c.rest.result.now c.unwrap-size.result c.vlen.result k (sym c.size.ensures ∙ c.unwrap-size.ensures) c.vlen.ensures.number c.rest.ensures.length in
    members_good t b c.rest.result.now c.unwrap-size.result c.vlen.result k some c.rest.ensures.bytes p

pub returns-in-KStruct-clause-members : goal.returns-in-KStruct-clause-members
returns-in-KStruct-clause-members c =
    let x = c.args.found.now in
    let t = tables c.strings-strings.result in
    let b = bytes_of c.record-record.result in
    let some = some_term x.dictionary c.dictionary.result x.source c.record-record.result t x.own c.strings-strings.ensures c.dictionary.ensures c.record-record.ensures in
    let same = same_term x.dictionary c.dictionary.result x.source c.record-record.result t c.strings-strings.ensures c.dictionary.ensures c.record-record.ensures in
    let k : (kind b ≡ Some KStruct) ⊎ (kind b ≡ Some KUnion) = ⊎_elim (λ e. inl (c.kind.ensures ∙ ap Some e)) (λ e. inr (c.kind.ensures ∙ ap Some e)) c.in-KStruct.is in
    let p = member_parts b c.rest.result.now c.unwrap-size.result c.vlen.result k (sym c.size.ensures ∙ c.unwrap-size.ensures) c.vlen.ensures.number c.rest.ensures.length in
    ap (option_map members_said) same ∙ struct_listed t b c.rest.result.now c.unwrap-size.result c.vlen.result k some c.rest.ensures.bytes p ∙ ap (λ (ms : List Member). Some (Some ms)) c.new.ensures.members

pub returns-in_default : goal.returns-in_default
returns-in_default c =
    let x = c.args.found.now in
    let t = tables_of x.dictionary in
    let b = bytes_of c.record-record.result in
    let some = some_term x.dictionary x.dictionary x.source c.record-record.result t x.own refl refl c.record-record.ensures in
    let same = same_term x.dictionary x.dictionary x.source c.record-record.result t refl refl c.record-record.ensures in
    record {
      members = ap (option_map members_said) same ∙ none_listed t b _ c.kind.ensures some c.in_default.not-KStruct c.in_default.not-KUnion;
      tables = tt;
    }
