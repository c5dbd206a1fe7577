use Rattle.std.proofs.Common.{List, ℕ, ap, sym, ◌∙◌, w32}
use Rattle.std.proofs.Math.Facts.{to_z-of_z}
use Rattle.ctf_model.specs.drafts.Adders.{against_enumerator}
use Rattle.ctf_model.specs.rules.Judgements.{first_met}
use Rattle.ctf_draft.proofs.Sounding.{enumerated_sound}
use Rattle.ctf_draft.proofs.draft.Draft.enumerator.Goals as goal

pub put_enumerator-requires-clause-sound : goal.put_enumerator-requires-clause-sound
put_enumerator-requires-clause-sound c =
    let d = c.args.self.now.draft in
    let same = to_z-of_z {w = w32} {z = c.args.value} c.ranges.value in
    rw same (λ ok. enumerated_sound d c.args.n.0 (record { name = c.args.name; value = c.args.value }) ok c.ranges.value (ap (λ (name : List ℕ). first_met (against_enumerator d c.args.n.0 name)) (sym c.as_slice.ensures) ∙ c.in_ok-i.ensures.ok))
