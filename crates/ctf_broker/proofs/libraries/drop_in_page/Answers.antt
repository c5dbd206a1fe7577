use Rattle.std.proofs.Common.{◌≡◌, ◌/◌, rules}
use Rattle.ctf_broker.specs.Table.{page_at}
use Rattle.ctf_broker.proofs.libraries.drop_in_page.Goals as goal

pub returns-clause-empty : goal.returns-clause-empty
returns-clause-empty c =
    let same : page_at (c.get_mut.follows.lender c.drop_library.new.self).entries (c.args.session / 16) ≡ c.drop_library.new.self = search rules in
    rw same c.is_empty.ensures
