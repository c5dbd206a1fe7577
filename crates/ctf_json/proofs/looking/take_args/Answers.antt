use Rattle.std.proofs.Common.{sym, ap, ◌∙◌, option_map}
use Rattle.ctf_json.specs.Values.{numbers_data}
use Rattle.ctf_json.proofs.Lines.{args_listed}
use Rattle.ctf_json.proofs.looking.take_args.Goals as goal

pub returns : goal.returns
returns c = ap (option_map (λ v. numbers_data v.items)) c.take.ensures.value ∙ sym (args_listed c.args.line.now)
