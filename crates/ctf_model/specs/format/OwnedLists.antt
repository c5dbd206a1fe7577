-- What owned lists show.
use Rattle.ctf_model.specs.format.Lists.{Lists}
use Rattle.ctf_model.specs.declared.lists.Parts.{Parts}

abbrev pub lists_owned : Parts → Lists
lists_owned p = record { ctf = p.ctf; sym = p.sym; strs = p.strs }
