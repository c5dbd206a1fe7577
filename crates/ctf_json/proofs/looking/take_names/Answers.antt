use Rattle.std.proofs.Common.{sym, ap, ◌∙◌, option_map}
use Rattle.ctf_joined.specs.Joined.{texts}
use Rattle.ctf_json.specs.Values.{texts_data}
use Rattle.ctf_json.proofs.Lines.{names_listed}
use Rattle.ctf_json.proofs.looking.take_names.Goals as goal

pub returns : goal.returns
returns c = ap (option_map (λ v. texts_data (texts v))) c.take.ensures.value ∙ sym (names_listed c.args.line.now)
