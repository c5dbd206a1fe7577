-- What a lent signature shows.
use Rattle.ctf_model.specs.symbols.Entries.{Signature}
use Rattle.ctf_entries.specs.declared.signature.Signature as lent

abbrev pub signature : lent.Signature → Signature
signature s = record { ret = s.ret.0; args = s.args }
