use Rattle.std.proofs.Common.{sym}
use Rattle.ctf_records.proofs.ListedNumbers.{numbers_in-length}
use Rattle.ctf_records.proofs.numbers.ReferenceList.count.Goals as goal

pub returns : goal.returns
returns c = let l = c.args.self.now in sym (numbers_in-length l.len l.at l.count l.bytes.now)
