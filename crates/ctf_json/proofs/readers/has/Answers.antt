use Rattle.std.proofs.Common.{sym}
use Rattle.ctf_json.proofs.Escapes.{found, nowhere}
use Rattle.ctf_json.proofs.readers.has.Goals as goal

pub returns-in-Some : goal.returns-in-Some
returns-in-Some c = sym (found c.args.byte c.args.text.now _ c.in-Some.ensures.0.high c.in-Some.ensures.1)

pub returns-in-None : goal.returns-in-None
returns-in-None c = sym (nowhere c.args.byte c.args.text.now c.in-None.ensures)
