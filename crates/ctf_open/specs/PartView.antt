-- Additions to a draft other than types. Source: ours.
use Rattle.std.specs.Prelude.{Result}
use Rattle.ctf_model.specs.opened.Steps.{silent}
use Rattle.ctf_open.specs.declared.adding.Part.{Part}
use Rattle.ctf_open.specs.declared.adding.Part.TheVariants.{Member, MemberAt, Enumerator, Label}
use Rattle.ctf_draft.specs.Stating.{add_member_at}
use Rattle.ctf_model.specs.drafts.Adders.{Added, add_enumerator, add_label, add_member}
use Rattle.ctf_model.specs.drafts.Drafts.{Draft}
use Rattle.ctf_model.specs.declared.faults.Fault.{Fault}

abbrev pub part_in : Part → Draft → Result Added Fault
part_in (Member t name tnum offset) d = add_member d t.0 name.now tnum.0 offset
part_in (MemberAt t name tnum offset size) d =
    silent (add_member_at d t.0 (record { name = name.now; tnum = tnum.0; offset = offset }) size)
part_in (Enumerator t name value) d =
    silent (add_enumerator d t.0 (record { name = name.now; value = value }))
part_in (Label name last) d = silent (add_label d (record { name = name.now; last = last }))
