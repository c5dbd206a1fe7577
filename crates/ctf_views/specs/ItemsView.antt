-- What a lent member, enumerator or label shows. Source: ours; Spelling.antt and Dictionary.antt of
-- ctf_model say what the bytes mean.
use Rattle.ctf_model.specs.format.Dictionary as dictionary
use Rattle.ctf_model.specs.format.Term as term
use Rattle.ctf_views.specs.declared.enumerators.Enumerator.{Enumerator}
use Rattle.ctf_views.specs.declared.labels.Label.{Label}
use Rattle.ctf_views.specs.declared.members.Member.{Member}

-- its name, type and offset
abbrev pub member : Member → term.Member
member m = record { name = m.name.now; tnum = m.tnum.0; offset = m.offset }

-- its name and value
abbrev pub enumerator : Enumerator → term.Enumerator
enumerator e = record { name = e.name.now; value = e.value }

-- its name and last type
abbrev pub label : Label → dictionary.Label
label x = record { name = x.name.now; last = x.last }
