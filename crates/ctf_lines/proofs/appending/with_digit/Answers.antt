use Rattle.std.proofs.Common.{ℕ, List, [], ◌∷◌, sym, ap, subst, ◌∙◌}
use Rattle.std.proofs.lemmas.Fmt.{decimal_digit}
use Rattle.ctf_lines.specs.Appending.{HasRoom}
use Rattle.ctf_lines.proofs.appending.with_digit.Goals as goal

pub append_bytes-requires : goal.append_bytes-requires
append_bytes-requires c =
    let one = ap (λ (b : ℕ). b ∷ []) c.digit.ensures ∙ sym (decimal_digit c.args.number c.requires.number) in
    subst (λ (t : List ℕ). HasRoom c.args.out t) (sym one) c.requires.room

pub returns : goal.returns
returns c =
    let one = ap (λ (b : ℕ). b ∷ []) c.digit.ensures ∙ sym (decimal_digit c.args.number c.requires.number) in
    rw (sym one) c.append_bytes.ensures
