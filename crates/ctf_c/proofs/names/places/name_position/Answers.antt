use Rattle.ctf_check.specs.CheckedView.{lists_of}
use Rattle.ctf_c.proofs.names.Texts.{internal_there}
use Rattle.ctf_c.proofs.names.places.name_position.Goals as goal

pub returns-then-reference-eq0 : goal.returns-then-reference-eq0
returns-then-reference-eq0 c name is = internal_there (lists_of c.args.dictionary.now) c.strings_begin.result c.from-at.result c.args.reference name c.from-at.ensures c.if-at-eq0.false c.if-reference-eq0.true c.strings_begin.ensures.begin is
