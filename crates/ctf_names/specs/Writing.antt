-- What a written name shows.
use Rattle.ctf_model.specs.names.Lookups as found
use Rattle.ctf_names.specs.Sorts.{tag_in}
use Rattle.ctf_names.specs.declared.written.NameParts.{NameParts}

abbrev pub written_in : NameParts → found.Written
written_in w = record { tag = tag_in w.sort; name = w.name.now }
