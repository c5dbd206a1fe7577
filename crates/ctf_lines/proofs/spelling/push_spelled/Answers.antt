use Rattle.std.proofs.Common.{◌≡◌, ◌++◌, [], ◌∷◌, IfOk, None, Some, cond, option_map, option_and_then, sym, subst}
use Rattle.ctf_joined.specs.Joined.{texts}
use Rattle.ctf_protocol.specs.lines.LineFields.{not_too_many}
use Rattle.ctf_lines.proofs.Plain.{plain_spelled}
use Rattle.ctf_lines.proofs.spelling.push_spelled.Goals as goal

pub returns-then-are_plain : goal.returns-then-are_plain
returns-then-are_plain c =
    subst (λ o. IfOk c.push_short.result (λ good. cond good (Some (texts c.push_short.new.names)) None ≡ option_map (λ name. texts c.args.names.now ++ name ∷ []) (option_and_then not_too_many o)))
    (sym (plain_spelled c.args.text.now (c.are_plain.ensures c.if-are_plain.true))) c.push_short.ensures
