use Rattle.std.proofs.Common.{◌≡◌, ◌≤◌, ◌++◌, List, [], ◌∷◌, length, sum_by, ap, sym, subst, ◌∙◌, arith}
use Rattle.std.proofs.lemmas.List.{length-append}
use Rattle.std.proofs.lemmas.List.Sums.{sum_by_push}
use Rattle.ctf_library.specs.Pooling.{most_bytes, with_room}
use Rattle.ctf_library.proofs.Pooled.{IsRoomy, is_roomy}
use Rattle.ctf_model.specs.spaces.Kept.{Kept}
use Rattle.ctf_model.specs.opened.Sizes.{kept_bytes}
use Rattle.ctf_library.proofs.pool.Pool.hold.Goals as goal

pub invariant_of-self : goal.invariant_of-self
invariant_of-self c =
    let few : c.bytes-bytes.result ≤ most_bytes = let over = c.if-bytes-gt-MOST_BYTES.false in omega (arith, over) in
    let held = c.self.inside.held.items in
    let left : with_room c.bytes-bytes.result c.args.self.now ≡ held = sym (c.self.view_is ∙ c.make_room.ensures) in
    let roomy = subst (λ (xs : List Kept). IsRoomy c.bytes-bytes.result xs) left (is_roomy c.bytes-bytes.result c.args.self.now few) in
    let all = c.push_reserved.ensures.items ∙ ap (λ (xs : List Kept). xs ++ c.in-Ok.shared ∷ []) c.reserve.ensures.items in
    let long = ap (λ (xs : List Kept). length xs) all ∙ length-append held (c.in-Ok.shared ∷ []) in
    let much = ap (λ (xs : List Kept). sum_by kept_bytes xs) all ∙ sum_by_push kept_bytes held c.in-Ok.shared in
    let one = ap kept_bytes c.in-Ok.ensures in
    let count = c.bytes-bytes.ensures.count in
    (let r = roomy.few in omega (arith, r, long), let r = roomy.small in omega (arith, r, much, one, count))
