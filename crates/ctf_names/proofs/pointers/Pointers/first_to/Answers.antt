use Rattle.std.proofs.Common.{◌≡◌, length, rules}
use Rattle.ctf_names.proofs.Pointing.{first_at}
use Rattle.ctf_names.proofs.pointers.Pointers.first_to.Goals as goal

pub returns-in-Some : goal.returns-in-Some
returns-in-Some c = λ terms are count.
    let len : c.len.result ≡ length c.args.self.now.firsts.items = search rules in
    first_at terms c.args.self.now.base c.args.target.0 c.in-Some.slot c.len.result c.args.types c.index.result.now c.args.self.now.firsts.items c.args.self.now.outside.items c.place_among.result are.all count c.in-Some.ensures.is len c.index.ensures c.place_among.ensures
