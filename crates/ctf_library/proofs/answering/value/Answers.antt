use Rattle.std.proofs.Common.{inl, refl}
use Rattle.ctf_library.proofs.Named.{shown}
use Rattle.ctf_library.proofs.answering.value.Goals as goal

pub returns : goal.returns
returns c =
    inl (shown _ _ _ _ c.new-text.ensures.items c.in_ok-show.ensures.exact_ok (rw (c.with_text.ensures, c.from.ensures) refl))
