use Rattle.std.proofs.Common.{◌≡◌, None, sym, ap, ◌∙◌, option_map, arith}
use Rattle.ctf_json.specs.Keys.{place_in}
use Rattle.ctf_json.specs.Values.{keys, data_of}
use Rattle.ctf_json.proofs.AtNames.{field_is, no_field}
use Rattle.ctf_json.proofs.looking.plain_value.Goals as goal

pub returns-in_err-place : goal.returns-in_err-place
returns-in_err-place c =
    let nowhere : None ≡ place_in c.args.key.now keys = grind arith in
    grind (arith, no_field c.args.key.now c.args.line.now.fields.all nowhere)

pub returns-in-Some : goal.returns-in-Some
returns-in-Some c = sym (ap (option_map data_of) c.in-Some.is) ∙ field_is c.args.key.now c.args.line.now.fields.all c.in_ok-place.place c.in_ok-place.ensures.place

pub returns-in-None : goal.returns-in-None
returns-in-None c = sym (ap (option_map data_of) c.in-None.is) ∙ field_is c.args.key.now c.args.line.now.fields.all c.in_ok-place.place c.in_ok-place.ensures.place
