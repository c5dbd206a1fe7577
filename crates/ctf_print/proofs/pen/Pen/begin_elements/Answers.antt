use Rattle.std.proofs.Common.{◌∙◌, sym}
use Rattle.std.proofs.lemmas.Result.{err_from_is_err_and}
use Rattle.ctf_model.specs.figures.Figures.{size as size_of}
use Rattle.ctf_print.specs.ImageView.{shows, types_of}
use Rattle.ctf_print.proofs.Writes.{first_element_refused, no_size}
use Rattle.ctf_print.proofs.pen.Pen.begin_elements.Goals as goal

pub returns-in_err-look_up-in-Ok-clause-refused : goal.returns-in_err-look_up-in-Ok-clause-refused
returns-in_err-look_up-in-Ok-clause-refused c =
    let p = err_from_is_err_and c.from_residual.result c.from_residual.ensures.1 in
    rw p.1 (λ at count some. first_element_refused c.args.self.now.out (shows c.args.image.now c.args.nesting) at c.args.contents.0 count c.in-Ok.size (size_of (types_of c.args.image.now) c.args.contents.0) c.look_up.new.self.fault (sym c.size.ensures ∙ c.in-Ok.is) some c.in_err-look_up-in-Ok.ensures.refused)

pub returns-in-Err-clause-refused : goal.returns-in-Err-clause-refused
returns-in-Err-clause-refused c at count some =
    rw (no_size (shows c.args.image.now c.args.nesting) at c.args.contents.0 count (size_of (types_of c.args.image.now) c.args.contents.0) c.in-Err.fault (sym c.size.ensures ∙ c.in-Err.is)) c.end.ensures.refused
