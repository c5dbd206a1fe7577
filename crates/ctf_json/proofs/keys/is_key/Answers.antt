use Rattle.std.proofs.Common.{◌≡◌, ◌≤◌, ℕ, List, length, take, sym, ◌∙◌, arith}
use Rattle.std.proofs.lemmas.List.{take_all}
use Rattle.std.proofs.lemmas.Slice.Eq.{bytes_eq-Decides}
use Rattle.ctf_json.proofs.keys.is_key.Goals as goal

whole : (k : ℕ) (a b : List ℕ) → length a ≤ k → length b ≤ k → take k a ≡ take k b → a ≡ b
whole k a b h i e = sym (take_all k a h) ∙ e ∙ take_all k b i

pub returns : goal.returns
returns c =
    let a = c.as_bytes-name.result.now in
    let b = c.as_bytes-key.result.now in
    let end = c.loop-at-test.false in
    let same = c.if-name-key.false in
    let all = whole c.loop-at.at a b (omega (arith, end)) (omega (arith, end, same)) c.loop-at.invariant in
    sym ((bytes_eq-Decides c.args.name.now c.args.key.now).1 (sym c.as_bytes-name.ensures.value ∙ all ∙ c.as_bytes-key.ensures.value))
