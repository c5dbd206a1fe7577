use Rattle.std.proofs.Common.{◌≡◌, None, false, ap, sym, ◌∙◌}
use Rattle.std.specs.Map.{lookup}
use Rattle.indexmap.proofs.CallerLemmas.{insert_entry-new}
use Rattle.ctf_writer.specs.Endings.{is_marked}
use Rattle.ctf_writer.specs.TableNames.{is_name}
use Rattle.ctf_writer.proofs.TableNames.{last_noted, none_noted, noted_before, passed_over}
use Rattle.ctf_writer.proofs.offsets.note.Goals as goal

pub returns-then-not-has : goal.returns-then-not-has
returns-then-not-has c text marked =
    let none : is_marked c.args.endings.now c.args.name.now ≡ false = sym c.has.ensures ∙ c.if-not-has.true in
    passed_over c.args.endings.now c.args.name.now text (lookup (is_name text) c.args.offsets.now.entries) c.args.at none marked

pub returns-then-contains_key : goal.returns-then-contains_key
returns-then-contains_key c text marked = noted_before text c.args.name.now c.args.offsets.now.entries c.args.at (sym c.contains_key.ensures ∙ c.if-contains_key.true)

pub returns : goal.returns
returns c text marked =
    let known = c.args.offsets.now.entries in
    let none : lookup (is_name c.args.name.now) known ≡ None = none_noted (lookup (is_name c.args.name.now) known) c.contains_key.result c.contains_key.ensures c.if-contains_key.false in
    ap (lookup (is_name text)) (c.in-Ok.ensures.entries ∙ insert_entry-new _ c.args.offsets.now c.args.name c.args.at none) ∙ last_noted text known c.args.name c.args.at
