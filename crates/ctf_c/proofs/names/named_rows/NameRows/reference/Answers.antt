use Rattle.ctf_sections.specs.StringsView.{tables}
use Rattle.ctf_c.proofs.names.NamedRows.{row_starts, row_holds, row_names}
use Rattle.ctf_c.proofs.names.named_rows.NameRows.reference.Goals as goal

pub row_at-requires : goal.row_at-requires
row_at-requires c = let r = c.args.self.now in row_starts (tables r.strings) r.width r.count c.args.index r.bytes.now r.good c.requires

pub u32_at-requires : goal.u32_at-requires
u32_at-requires c = let r = c.args.self.now in row_holds (tables r.strings) r.width r.count c.args.index r.bytes.now r.good c.requires _ r.wide c.row_at.ensures

pub returns : goal.returns
returns c = let r = c.args.self.now in row_names (tables r.strings) r.width r.count c.args.index r.bytes.now r.good c.requires _ _ c.row_at.ensures c.u32_at.ensures
