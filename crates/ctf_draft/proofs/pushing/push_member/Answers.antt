use Rattle.std.proofs.Common.{ℕ, List, [], ◌∷◌, ◌++◌, map, sym, ap, ◌∙◌}
use Rattle.ctf_draft.specs.NamesInUseView.{are_hashed, names_in, with_hash}
use Rattle.ctf_draft.specs.declared.types.Body.{Body}
use Rattle.ctf_draft.specs.declared.types.Member.{Member}
use Rattle.ctf_draft.proofs.NamesInUse.{one_more}
use Rattle.ctf_draft.proofs.pushing.push_member.Goals as goal

pub invariant_of-to-in-Aggregate : goal.invariant_of-to-in-Aggregate
invariant_of-to-in-Aggregate c =
    let name : Member → List ℕ = λ x. x.name in
    let old = c.args.to.now.taken in
    let hashes = c.in_ok-add-in-Aggregate.ensures.ok ∙ ap (with_hash old) c.as_slice.ensures in
    let all = c.push_reserved.ensures.items ∙ ap (λ (xs : List Member). xs ++ c.args.member ∷ []) c.make_room.ensures.items in
    let before = ap (λ (b : Body). are_hashed old (names_in b)) (sym c.in-Aggregate.is) ∙ c.args.to.now.kept in
    record { kept = ap (λ (hs : List ℕ). are_hashed hs (map name c.push_reserved.new.self.items)) hashes ∙ ap (λ (xs : List Member). are_hashed (with_hash old (name c.args.member)) (map name xs)) all ∙ one_more name old c.in-Aggregate.members.items c.args.member before }
