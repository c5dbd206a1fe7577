use Rattle.std.proofs.Common.{ap, ◌∙◌}
use Rattle.ctf_json.specs.Values.{args_without, names_without}
use Rattle.ctf_json.proofs.Lines.{field_kept}
use Rattle.ctf_json.proofs.line.Line.keep_at.Goals as goal

pub returns : goal.returns
returns c q =
    let old = c.args.self.now in
    let kept = c.keep_field.ensures in
    let w = c.wanted_list.ensures in
    field_kept c.args.key.now q old c.keep_field.new.self c.args.place c.args.field c.requires kept.inside kept.fields (kept.names ∙ ap (λ x. names_without x old.names) w) (kept.args ∙ ap (λ x. args_without x old.args) w)
