use Rattle.std.proofs.Common.{ℕ, List, [], ◌∷◌, ◌++◌, map, sym, ap, ◌∙◌}
use Rattle.ctf_draft.specs.NamesInUseView.{are_hashed, names_in, with_hash}
use Rattle.ctf_draft.specs.declared.types.Body.{Body}
use Rattle.ctf_draft.specs.declared.types.Enumerator.{Enumerator}
use Rattle.ctf_draft.proofs.NamesInUse.{one_more}
use Rattle.ctf_draft.proofs.pushing.push_enumerator.Goals as goal

pub invariant_of-to-in-Enum : goal.invariant_of-to-in-Enum
invariant_of-to-in-Enum c =
    let name : Enumerator → List ℕ = λ x. x.name in
    let old = c.args.to.now.taken in
    let hashes = c.in_ok-add-in-Enum.ensures.ok ∙ ap (with_hash old) c.as_slice.ensures in
    let all = c.push_reserved.ensures.items ∙ ap (λ (xs : List Enumerator). xs ++ c.args.enumerator ∷ []) c.make_room.ensures.items in
    let before = ap (λ (b : Body). are_hashed old (names_in b)) (sym c.in-Enum.is) ∙ c.args.to.now.kept in
    record { kept = ap (λ (hs : List ℕ). are_hashed hs (map name c.push_reserved.new.self.items)) hashes ∙ ap (λ (xs : List Enumerator). are_hashed (with_hash old (name c.args.enumerator)) (map name xs)) all ∙ one_more name old c.in-Enum.enumerators.items c.args.enumerator before }
