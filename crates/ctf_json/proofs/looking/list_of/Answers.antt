use Rattle.std.proofs.Common.{refl}
use Rattle.ctf_json.proofs.Lines.{got_names, got_args, got_no_names, got_no_args, got_plain}
use Rattle.ctf_json.proofs.looking.list_of.Goals as goal

pub returns-in-Some : goal.returns-in-Some
returns-in-Some c = got_names c.args.key.now c.args.line.now c.in-Some.texts c.in-Texts.ensures c.in-Some.is

pub returns-in-None : goal.returns-in-None
returns-in-None c = got_no_names c.args.key.now c.args.line.now _ c.in-Texts.ensures c.in-None.is refl

pub returns-in-Some-args : goal.returns-in-Some-args
returns-in-Some-args c = got_args c.args.key.now c.args.line.now c.in-Some-args.numbers c.as_slice.result.now c.in-Numbers.ensures c.in-Some-args.is c.as_slice.ensures.value

pub returns-in-None-args : goal.returns-in-None-args
returns-in-None-args c = got_no_args c.args.key.now c.args.line.now _ c.in-Numbers.ensures c.in-None-args.is refl

pub returns-in-Nothing : goal.returns-in-Nothing
returns-in-Nothing c = got_plain c.args.key.now c.args.line.now _ c.in-Nothing.ensures refl
