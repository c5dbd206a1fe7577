use Rattle.std.proofs.Common.{◌≡◌, ◌+◌, ◌++◌, [], ◌∷◌, length, sym, ap, ap₂, ◌∙◌, arith}
use Rattle.std.proofs.lemmas.List.{length-append}
use Rattle.ctf_joined.specs.Texts.{rise, texts_from}
use Rattle.ctf_joined.proofs.Texts.{rise-more, texts-more}
use Rattle.ctf_joined.proofs.joined.Joined.push.Goals as goal

pub invariant_of-self-2 : goal.invariant_of-self-2
invariant_of-self-2 c =
    let old = c.args.self.now in
    let bytes : c.extend_from_slice.new.self.items ≡ old.bytes.items ++ c.args.text.now = grind arith in
    let ends : c.push_reserved.new.self.items ≡ old.ends.items ++ c.in-Ok.end ∷ [] = grind arith in
    let end : c.in-Ok.end ≡ length old.bytes.items + length c.args.text.now = grind arith in
    let whole : length c.extend_from_slice.new.self.items ≡ c.in-Ok.end = ap length bytes ∙ length-append old.bytes.items c.args.text.now ∙ sym end in
    record {
      rising = ap₂ (rise 0) ends whole ∙ rise-more 0 old.ends.items (length old.bytes.items) c.in-Ok.end old.rising (omega (arith, end));
    }

pub returns-clause-ok : goal.returns-clause-ok
returns-clause-ok c =
    let old = c.args.self.now in
    let bytes : c.extend_from_slice.new.self.items ≡ old.bytes.items ++ c.args.text.now = grind arith in
    let ends : c.push_reserved.new.self.items ≡ old.ends.items ++ c.in-Ok.end ∷ [] = grind arith in
    let end : c.in-Ok.end ≡ length old.bytes.items + length c.args.text.now = grind arith in
    ap₂ (λ b e. texts_from b 0 e) bytes (ends ∙ ap (λ n. old.ends.items ++ n ∷ []) end) ∙ texts-more old.bytes.items c.args.text.now 0 old.ends.items old.rising
