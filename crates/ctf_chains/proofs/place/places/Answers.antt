use Rattle.std.proofs.Common.{ℕ, List, [], ◌∷◌, drop, sym, ap, ◌∙◌}
use Rattle.ctf_records.specs.ListedTypes.{numbers_in}
use Rattle.ctf_records.specs.RecordView.{bytes_of}
use Rattle.ctf_records.proofs.ListedNumbers.{none_listed, one_listed, u16_behind}
use Rattle.ctf_chains.proofs.Members.{members_listed, numbers_by}
use Rattle.ctf_chains.proofs.place.places.Goals as goal

pub returns-in-Nowhere : goal.returns-in-Nowhere
returns-in-Nowhere c =
    let b = bytes_of c.args.source.now in
    c.new.ensures ∙ none_listed 2 0 _ ∙ sym (numbers_by c.args.chain c.kind.result b _ c.kind.ensures (sym c.in-Nowhere.is ∙ c.spot_of.ensures))

pub returns-in-Head : goal.returns-in-Head
returns-in-Head c =
    let b = bytes_of c.args.source.now in
    c.new-in-Head.ensures ∙ ap (λ (r : List ℕ). numbers_in 2 0 1 r) c.field_on.ensures ∙ one_listed 2 0 (drop 6 b) ∙ ap (λ (n : ℕ). n ∷ []) (u16_behind b 6 0) ∙ sym (numbers_by c.args.chain c.kind.result b _ c.kind.ensures (sym c.in-Head.is ∙ c.spot_of.ensures))

pub returns-in-Contents : goal.returns-in-Contents
returns-in-Contents c =
    let b = bytes_of c.args.source.now in
    c.new-in-Contents.ensures ∙ ap (λ (r : List ℕ). numbers_in 2 0 1 r) c.rest.ensures.bytes ∙ one_listed 2 0 _ ∙ sym (numbers_by c.args.chain c.kind.result b _ c.kind.ensures (sym c.in-Contents.is ∙ c.spot_of.ensures))

pub returns-in-Members : goal.returns-in-Members
returns-in-Members c =
    let b = bytes_of c.args.source.now in
    c.reference_list.ensures ∙ members_listed c.args.chain c.kind.result b c.kind.ensures (sym c.in-Members.is ∙ c.spot_of.ensures)
