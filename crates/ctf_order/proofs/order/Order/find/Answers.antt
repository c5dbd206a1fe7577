use Rattle.std.proofs.Common.{List, map, ◌-◌, length, take, drop, sym, ap, ◌∙◌}
use Rattle.std.proofs.lemmas.Bool.{ltb-true}
use Rattle.ctf_order.specs.Naming.{naming}
use Rattle.ctf_order.specs.Names.{rank}
use Rattle.ctf_order.specs.Searching.{first_of}
use Rattle.ctf_order.specs.declared.entries.Ranked.{Ranked}
use Rattle.ctf_order.proofs.Lent.{entry_in}
use Rattle.ctf_order.proofs.Rest.{tail_all}
use Rattle.ctf_order.proofs.Search.{found_by, parted, rises_by, searched, skipped}
use Rattle.ctf_order.proofs.order.Order.find.Goals as goal

pub returns : goal.returns
returns c = λ items fits.
    let t = naming c.args.texts.now in
    let text = c.args.text.now in
    let kept = c.args.self.now.entries.items in
    let from = c.begin-from.result in
    let rises = rises_by t (map entry_in kept) fits.sorted in
    let parts = parted t text kept fits.ranked rises in
    let low = rw c.rank-rank.ensures at (rw c.deref.ensures.value at c.begin-from.ensures.low) in
    let skips = skipped t text from kept fits.ranked (λ j d lt inside. ltb-true _ _ (low parts j d lt inside)) in
    let rest = ap (λ (rs : List Ranked). take (length rs - from) (drop from rs)) c.deref-2.ensures.value ∙ tail_all kept from in
    let says = rw c.rank-rank.ensures at c.first_named.ensures ∙ ap (first_of t (rank text) text) rest ∙ sym skips in
    rw says (found_by t items (map entry_in kept) text fits.stands (first_of t (rank text) text kept) (searched t text kept fits.ranked rises))
