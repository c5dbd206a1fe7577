use Rattle.std.proofs.Common.{◌≡◌, ◌⊎◌, Some, ap, sym, ◌∙◌, ⊎_elim, inl, inr}
use Rattle.ctf_model.specs.format.Record.{kind}
use Rattle.ctf_model.specs.declared.kinds.Kind.TheVariants.{KInteger, KFloat, KStruct, KUnion}
use Rattle.ctf_records.specs.RecordView.{bytes_of}
use Rattle.ctf_sections.specs.StringsView.{tables}
use Rattle.ctf_views.proofs.Shows.{member_parts, members_good, members_view, enumerators_good, enumerators_view, arguments_view, array_view, encoding_view, tag_view, nothing_seen}
use Rattle.ctf_views.proofs.reading.variant.Goals as goal

pub new-requires : goal.new-requires
new-requires c =
    let b = bytes_of c.args.record.now in
    let k : (kind b ≡ Some KStruct) ⊎ (kind b ≡ Some KUnion) = ⊎_elim (λ e. inl (c.kind.ensures ∙ ap Some e)) (λ e. inr (c.kind.ensures ∙ ap Some e)) c.in-KStruct.is in
    let p = member_parts b c.rest-rest.result.now c.unwrap-size.result c.vlen-count.result k (sym c.size.ensures ∙ c.unwrap-size.ensures) c.vlen-count.ensures.number c.rest-rest.ensures.length in
    members_good (tables c.args.strings) b _ _ _ k c.requires c.rest-rest.ensures.bytes p

pub new-requires-in-KEnum : goal.new-requires-in-KEnum
new-requires-in-KEnum c = enumerators_good (tables c.args.strings) (bytes_of c.args.record.now) _ _ (c.kind.ensures ∙ ap Some c.in-KEnum.is) c.requires c.rest-rest.ensures.bytes c.rest-rest.ensures.length c.vlen-count.ensures.number

pub returns-in-KStruct : goal.returns-in-KStruct
returns-in-KStruct c =
    let b = bytes_of c.args.record.now in
    let k : (kind b ≡ Some KStruct) ⊎ (kind b ≡ Some KUnion) = ⊎_elim (λ e. inl (c.kind.ensures ∙ ap Some e)) (λ e. inr (c.kind.ensures ∙ ap Some e)) c.in-KStruct.is in
    let p = member_parts b c.rest-rest.result.now c.unwrap-size.result c.vlen-count.result k (sym c.size.ensures ∙ c.unwrap-size.ensures) c.vlen-count.ensures.number c.rest-rest.ensures.length in
    members_view (tables c.args.strings) b _ _ _ _ k c.requires c.rest-rest.ensures.bytes p c.new.ensures

pub returns-in-KEnum : goal.returns-in-KEnum
returns-in-KEnum c = enumerators_view (tables c.args.strings) (bytes_of c.args.record.now) _ _ _ (c.kind.ensures ∙ ap Some c.in-KEnum.is) c.requires c.rest-rest.ensures.bytes c.vlen-count.ensures.number c.new-in-KEnum.ensures

pub returns-in-KFunction : goal.returns-in-KFunction
returns-in-KFunction c = arguments_view (tables c.args.strings) (bytes_of c.args.record.now) _ _ _ (c.kind.ensures ∙ ap Some c.in-KFunction.is) c.requires c.rest-rest.ensures.bytes c.vlen-count.ensures.number c.arguments.ensures

pub returns-in-KArray : goal.returns-in-KArray
returns-in-KArray c = array_view (tables c.args.strings) (bytes_of c.args.record.now) _ _ (c.kind.ensures ∙ ap Some c.in-KArray.is) c.requires c.rest-rest.ensures.bytes c.read.ensures

pub returns-in-KInteger : goal.returns-in-KInteger
returns-in-KInteger c =
    let b = bytes_of c.args.record.now in
    let k : (kind b ≡ Some KInteger) ⊎ (kind b ≡ Some KFloat) = ⊎_elim (λ e. inl (c.kind.ensures ∙ ap Some e)) (λ e. inr (c.kind.ensures ∙ ap Some e)) c.in-KInteger.is in
    encoding_view (tables c.args.strings) b _ _ k c.requires c.rest-rest.ensures.bytes c.read-in-KInteger.ensures

pub returns-in-KForward : goal.returns-in-KForward
returns-in-KForward c = tag_view (tables c.args.strings) (bytes_of c.args.record.now) _ _ (c.kind.ensures ∙ ap Some c.in-KForward.is) c.requires c.tag.ensures c.unwrap.ensures

pub returns-in_default : goal.returns-in_default
returns-in_default c =
    let d = c.in_default in
    nothing_seen (tables c.args.strings) (bytes_of c.args.record.now) _ c.kind.ensures c.requires d.not-KInteger d.not-KFloat d.not-KArray d.not-KFunction d.not-KStruct d.not-KUnion d.not-KEnum d.not-KForward
