use Rattle.std.proofs.Common.{inl, refl}
use Rattle.ctf_library.proofs.Named.{named}
use Rattle.ctf_library.proofs.answering.name.Goals as goal

pub returns : goal.returns
returns c =
    inl (named _ _ _ _ c.new-text.ensures.items c.in_ok-spell.ensures.exact_ok (rw (c.with_text.ensures, c.from.ensures) refl))
