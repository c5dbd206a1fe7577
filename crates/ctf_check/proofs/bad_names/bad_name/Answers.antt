use Rattle.std.proofs.Common.{Some, None, refl, sym, ◌∙◌}
use Rattle.ctf_check.specs.EndsView.{tables_in}
use Rattle.ctf_check.proofs.Sites.{sites_parts, header_part, label_part}
use Rattle.ctf_check.proofs.bad_names.bad_name.Goals as goal

pub returns-in-Some : goal.returns-in-Some
returns-in-Some c =
    let t = tables_in c.args.ends in
    let ctf = c.args.ctf.now in
    let of_header = c.bad_in_header.ensures ∙ header_part t ctf c.args.header c.requires.fields in
    sym (sites_parts t ctf (Some c.in-Some.place) _ _ (sym c.in-Some.is ∙ of_header) refl refl)

pub returns-in-Some-bad_in_labels : goal.returns-in-Some-bad_in_labels
returns-in-Some-bad_in_labels c =
    let t = tables_in c.args.ends in
    let ctf = c.args.ctf.now in
    let of_header = c.bad_in_header.ensures ∙ header_part t ctf c.args.header c.requires.fields in
    let of_labels = c.bad_in_labels.ensures ∙ label_part t ctf c.args.header c.range-start.result c.requires.fields c.range-start.ensures.range in
    sym (sites_parts t ctf None (Some c.in-Some-bad_in_labels.place) _ (sym c.in_default.is ∙ of_header) (sym c.in-Some-bad_in_labels.is ∙ of_labels) refl)

pub returns : goal.returns
returns c =
    let t = tables_in c.args.ends in
    let ctf = c.args.ctf.now in
    let of_header = c.bad_in_header.ensures ∙ header_part t ctf c.args.header c.requires.fields in
    let of_labels = c.bad_in_labels.ensures ∙ label_part t ctf c.args.header c.range-start.result c.requires.fields c.range-start.ensures.range in
    sym (sites_parts t ctf None None c.args.in_records (sym c.in_default.is ∙ of_header) (sym c.in_default-bad_in_labels.is ∙ of_labels) c.requires.in_records)
