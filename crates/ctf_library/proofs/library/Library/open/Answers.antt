use Rattle.std.proofs.Common.{rules, inl, refl, sym, ap, ◌∙◌}
use Rattle.ctf_model.specs.rules.Faults.{first_fault}
use Rattle.ctf_library.proofs.Opening.{opens_broken, opens_to}
use Rattle.ctf_library.proofs.library.Library.open.Goals as goal

pub returns-in-Some : goal.returns-in-Some
returns-in-Some c =
    let broken = ap (λ s. first_fault s.stage) (sym c.self.view_is) ∙ c.in-Some.ensures in
    let to = opens_broken c.args.model c.args.self.now c.in-Some.fault (sym c.has_room.ensures ∙ c.if-not-has_room.false) broken in
    rw to (inl (refl, refl))

pub returns : goal.returns
returns c =
    let none = sym (ap (λ s. first_fault s.stage) c.self.view_is) ∙ c.in_ok-loaded.ensures.exact_ok in
    let to = opens_to c.args.model c.args.self.now (sym c.has_room.ensures ∙ c.if-not-has_room.false) none in
    rw to (inl (search rules, search rules))
