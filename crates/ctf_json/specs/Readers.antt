-- The model of a reader. Only private clauses cite it.
use Rattle.std.specs.Prelude.{List}
use Rattle.json.specs.Token.{Token}
use Rattle.ctf_json.specs.declared.readers.TextSource.{TextSource}
use Rattle.ctf_json.specs.declared.readers.TextSource.TheVariants.{Lent, Plain}

abbrev pub left_of : TextSource → List Token
left_of (Lent reader) = reader.value
left_of (Plain ts) = ts
