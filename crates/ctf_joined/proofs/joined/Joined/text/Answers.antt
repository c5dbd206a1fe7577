use Rattle.std.proofs.Common.{◌≡◌, ◌-◌, ◌<◌, ◌≤◌, [], ◌∷◌, drop, get_or, length, take, sym, ap, ap₂, ◌∙◌, arith}
use Rattle.ctf_joined.proofs.Texts.{text-at, text-inside, texts-length}
use Rattle.ctf_joined.proofs.joined.Joined.text.Goals as goal

pub start-requires : goal.start-requires
start-requires c =
    let same = texts-length c.args.self.now.bytes.items 0 c.args.self.now.ends.items in
    let inside = c.requires in
    omega (arith, same, inside)

pub end-requires : goal.end-requires
end-requires c =
    let same = texts-length c.args.self.now.bytes.items 0 c.args.self.now.ends.items in
    let inside = c.requires in
    omega (arith, same, inside)

pub slice_bounds-result-count : goal.slice_bounds-result-count
slice_bounds-result-count c =
    let self = c.args.self.now in
    let same = texts-length self.bytes.items 0 self.ends.items in
    let requires = c.requires in
    let inside = text-inside 0 self.ends.items (length self.bytes.items) c.args.place self.rising (omega (arith, same, requires)) in
    let start = c.start.ensures in
    let end = c.end.ensures in
    let order = inside.0 in
    omega (arith, start, end, order)

pub slice_bounds-result-start : goal.slice_bounds-result-start
slice_bounds-result-start c =
    let self = c.args.self.now in
    let same = texts-length self.bytes.items 0 self.ends.items in
    let requires = c.requires in
    let inside = text-inside 0 self.ends.items (length self.bytes.items) c.args.place self.rising (omega (arith, same, requires)) in
    let start = c.start.ensures in
    let end = c.end.ensures in
    let order = inside.0 in
    let within = inside.1 in
    let len = c.deref.ensures.len in
    omega (arith, start, end, order, within, len)

pub slice_bounds-result-end : goal.slice_bounds-result-end
slice_bounds-result-end c =
    let self = c.args.self.now in
    let same = texts-length self.bytes.items 0 self.ends.items in
    let requires = c.requires in
    let inside = text-inside 0 self.ends.items (length self.bytes.items) c.args.place self.rising (omega (arith, same, requires)) in
    let start = c.start.ensures in
    let end = c.end.ensures in
    let order = inside.0 in
    let within = inside.1 in
    let len = c.deref.ensures.len in
    omega (arith, start, end, order, within, len)

pub returns : goal.returns
returns c =
    let self = c.args.self.now in
    let same = texts-length self.bytes.items 0 self.ends.items in
    let requires = c.requires in
    ap₂ (λ start end. take (end - start) (drop start c.deref.result.now)) c.start.ensures c.end.ensures
    ∙ ap (λ bytes. take (get_or self.ends.items c.args.place 0 - get_or (0 ∷ self.ends.items) c.args.place 0) (drop (get_or (0 ∷ self.ends.items) c.args.place 0) bytes)) c.deref.ensures.value
    ∙ sym (text-at self.bytes.items 0 self.ends.items c.args.place (omega (arith, same, requires)))
