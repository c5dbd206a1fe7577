-- What a list of type numbers shows. Source: ours.
use Rattle.std.specs.Prelude.{ℕ, List}
use Rattle.ctf_records.specs.ListedTypes.{numbers_in}
use Rattle.ctf_records.specs.declared.numbers.ReferenceList.{ReferenceList}

abbrev pub numbers_listed : ReferenceList → List ℕ
numbers_listed l = numbers_in l.len l.at l.count l.bytes.now
