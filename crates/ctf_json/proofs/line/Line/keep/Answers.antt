use Rattle.std.proofs.Common.{Some, cond, sym, ap, ◌∙◌, bytes_eq}
use Rattle.ctf_json.specs.Keys.{wanted_at}
use Rattle.ctf_json.specs.Values.{fits, read_data}
use Rattle.ctf_json.proofs.Lines.{at_args, at_names, has, list_kept, numbers_fit, numbers_kept, texts_fit}
use Rattle.ctf_json.proofs.line.Line.keep.Goals as goal

pub returns-in-Field : goal.returns-in-Field
returns-in-Field c q =
    let old = c.args.self.now in
    c.keep_at.ensures q ∙ ap (λ v. cond (bytes_eq c.args.key.now q) (Some (read_data v)) (has q old.fields.all old.names old.args)) (sym c.in-Field.is)

pub returns-in-Texts : goal.returns-in-Texts
returns-in-Texts c q =
    let old = c.args.self.now in
    let key = c.args.key.now in
    let texts = c.in-Texts.texts in
    list_kept key q old.fields.all old.names old.args texts (at_names key (texts_fit (wanted_at key) texts (ap (fits (wanted_at key)) (sym c.in-Texts.is) ∙ c.requires.fits)))
    ∙ ap (λ v. cond (bytes_eq key q) (Some (read_data v)) (has q old.fields.all old.names old.args)) (sym c.in-Texts.is)

pub returns-in-Numbers : goal.returns-in-Numbers
returns-in-Numbers c q =
    let old = c.args.self.now in
    let key = c.args.key.now in
    let numbers = c.in-Numbers.numbers in
    numbers_kept key q old.fields.all old.names old.args numbers (at_args key (numbers_fit (wanted_at key) numbers (ap (fits (wanted_at key)) (sym c.in-Numbers.is) ∙ c.requires.fits)))
    ∙ ap (λ v. cond (bytes_eq key q) (Some (read_data v)) (has q old.fields.all old.names old.args)) (sym c.in-Numbers.is)
