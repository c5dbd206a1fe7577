use Rattle.std.proofs.Common.{◌≡◌, ℕ, ◌+◌, ◌≤◌, min, List, [], ◌++◌, length, take, Option, Some, None, ap, ◌∙◌, arith}
use Rattle.std.specs.Option.{IfSome, option_map}
use Rattle.std.proofs.lemmas.List.{length-take, take_all}
use Rattle.ctf_command.proofs.files.read_whole.Goals as goal

-- a file within the limit that is not cut off is complete
whole : (left : Option (List ℕ)) (items : List ℕ) (limit longest : ℕ) → limit ≡ longest + 1 → length items ≤ longest
    → IfSome (option_map (take limit) left) (λ xs. items ≡ [] ++ xs) → IfSome left (λ bytes. items ≡ bytes)
whole None items limit longest e few h = h
whole (Some bytes) items limit longest e few h =
    let cut : length items ≡ min limit (length bytes) = ap length h ∙ length-take limit bytes in
    h ∙ take_all limit bytes (omega (arith, e, few, cut))

pub returns-in-Ok-2-clause-whole : goal.returns-in-Ok-2-clause-whole
returns-in-Ok-2-clause-whole g c =
    whole (g.R.Read.remaining c.args.reader) c.read_to_end.new.buf.items c.take-front.result.limit c.args.longest (omega (arith, c.take-front.ensures.limit, c.from.ensures)) (omega (arith, c.if-len-longest.false, c.len.ensures)) (rw (c.take-front.ensures.inner, c.new-bytes.ensures.items) at c.in-Ok.ensures.bytes)
