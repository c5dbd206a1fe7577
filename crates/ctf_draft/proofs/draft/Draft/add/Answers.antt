use Rattle.std.proofs.Common.{◌≡◌, ◌≤◌, ℕ, false, is_some, List, ◌++◌, ◌∷◌, [], Ok, length, map, sym, ap, subst, ◌∙◌, arith}
use Rattle.std.proofs.lemmas.List.{length-map, length-take}
use Rattle.std.specs.List.{AllByRecursion}
use Rattle.ctf_draft.specs.ParentView.{parent_in}
use Rattle.ctf_model.specs.drafts.Adders.{Added, add_type}
use Rattle.ctf_model.specs.drafts.DraftLaws.{IsSound}
use Rattle.ctf_model.specs.drafts.NewTypes.{new_term}
use Rattle.ctf_model.proofs.SoundDrafts.{type_sound}
use Rattle.ctf_model.specs.format.Term.{Term}
use Rattle.ctf_draft.specs.NewView.{new_of}
use Rattle.ctf_draft.specs.TypeView.{type_of}
use Rattle.ctf_draft.specs.Bounding.{IsBounded, IsReady}
use Rattle.ctf_draft.specs.Reaching.{Knows}
use Rattle.ctf_model.specs.drafts.Drafts.{Draft, count_of, is_absent}
use Rattle.ctf_model.specs.rules.Chains.{by_value, own_index}
use Rattle.ctf_draft.proofs.Holding.{accepted_named, type_bounded}
use Rattle.ctf_draft.proofs.Known.{type_known}
use Rattle.ctf_draft.proofs.Views.{added, all_terms, one_type, seen, type_accepted}
use Rattle.ctf_draft.proofs.draft.Draft.add.Goals as goal
use Rattle.ctf_draft.proofs.draft.Draft.add.Goals.{In_ok-push_type}

-- the addition succeeds
accepted : (c : In_ok-push_type) → add_type c.args.self.now.draft (new_of c.args.new) ≡ Ok (record { draft = seen c.self.inside.parname c.self.inside.parlabel (parent_in c.self.inside.parent) c.self.inside.model c.self.inside.updated c.self.inside.updated_labels (map type_of c.push_type.new.types.items) c.self.inside.labels; answer = c.next_number-number.result.0 })
accepted c =
    let d = c.self.inside in
    let parent = parent_in d.parent in
    let terms = map type_of d.types.items in
    let x = new_term (new_of c.args.new) in
    let inside = c.self.invariant.0 in
    let count = d.types.ok.0 in
    let same = length-map d.types.items type_of in
    let view = ap (λ o. o.draft) c.self.view_is in
    let all : map type_of c.push_type.new.types.items ≡ terms ++ x ∷ [] = c.in_ok-push_type.ensures.types in
    let one = one_type d.parname d.parlabel parent d.model d.updated d.updated_labels terms d.labels x (omega arith) in
    type_accepted c.args.self.now.draft (new_of c.args.new) (sym c.against_type.ensures ∙ c.in_default.is)
    ∙ added c.args.self.now.draft (seen d.parname d.parlabel parent d.model d.updated d.updated_labels terms d.labels) x (seen d.parname d.parlabel parent d.model d.updated d.updated_labels (map type_of c.push_type.new.types.items) d.labels) c.next_number-number.result.0 (sym view) (one ∙ ap (λ (ts : List Term). seen d.parname d.parlabel parent d.model d.updated d.updated_labels ts d.labels) (sym all)) (sym c.next_number-number.ensures)

pub returns-clause-ok : goal.returns-clause-ok
returns-clause-ok c = accepted (goal.at.returns-clause-ok c).In_ok-push_type

pub invariant_of-self-2 : goal.invariant_of-self-2
invariant_of-self-2 c =
    let d = c.self.inside in
    let parent = parent_in d.parent in
    let terms = map type_of c.push_type.new.types.items in
    let after : Added = record { draft = seen d.parname d.parlabel parent d.model d.updated d.updated_labels terms d.labels; answer = c.next_number-number.result.0 } in
    let before = subst IsSound (ap (λ o. o.draft) c.self.view_is) c.self.invariant.4 in
    let sound = type_sound c.args.self.now.draft (new_of c.args.new) after before c.push_type.ensures.fits (accepted (goal.at.invariant_of-self-2 c).In_ok-push_type) in
    let few = sound.all.count in
    let count = ap length (all_terms d.parname d.parlabel parent d.model d.updated d.updated_labels terms d.labels) in
    let same = length-map c.push_type.new.types.items type_of in
    let x = new_term (new_of c.args.new) in
    let old = map type_of d.types.items in
    let all : terms ≡ old ++ x ∷ [] = c.in_ok-push_type.ensures.types in
    let knows = subst (λ (ts : List Term). Knows (seen d.parname d.parlabel parent d.model d.updated d.updated_labels ts d.labels) d.marks) (sym all) (type_known d.parname d.parlabel parent d.model d.marks d.updated d.updated_labels old d.labels x c.self.invariant.4 c.self.invariant.5) in
    let view = ap (λ o. o.draft) c.self.view_is in
    let all_old = length-map d.types.items type_of in
    let inside : d.updated ≤ length old = omega (arith, all_old, c.self.invariant.0, d.types.ok.0) in
    let length_is : c.len.result ≡ length old = omega (arith, all_old, c.len.ensures, d.types.ok.0) in
    let held_so = subst (λ (e : Draft). AllByRecursion (λ n. own_index (is_some e.parent) (count_of e) n ≡ c.held_by-held.result) (by_value x.body)) (sym view) c.held_by-held.ensures.held in
    let there = subst (λ (e : Draft). AllByRecursion (λ n. is_absent e n ≡ false) (by_value x.body)) (sym view) (accepted_named c.args.self.now.draft x (sym c.against_type.ensures ∙ c.in_default.is)) in
    let ready = subst (λ (k : ℕ). IsReady d.updated c.make_next.new.self k c.held_by-held.result) length_is c.in_ok-make_next.ensures.ready in
    let now = seen d.parname d.parlabel parent d.model d.updated d.updated_labels old d.labels in
    let still = c.make_next.ensures.still now (omega (arith, length-take d.updated old, inside)) (ap length (all_terms d.parname d.parlabel parent d.model d.updated d.updated_labels old d.labels) ∙ sym length_is) c.self.invariant.6 in
    let bounded = subst (λ (ts : List Term). IsBounded (seen d.parname d.parlabel parent d.model d.updated d.updated_labels ts d.labels) c.make_next.new.self) (sym all) (type_bounded d.parname d.parlabel parent d.model c.make_next.new.self d.updated d.updated_labels old d.labels x c.held_by-held.result inside c.self.invariant.4 held_so there ready still) in
    (omega (arith, c.in_ok-push_type.ensures.len, c.self.invariant.0), c.self.invariant.1, omega (arith, few, count, same, c.push_type.new.types.ok.0), c.self.invariant.3, sound, knows, bounded)

pub invariant_of-self-in_err-push_type : goal.invariant_of-self-in_err-push_type
invariant_of-self-in_err-push_type c =
    let d = c.self.inside in
    let parent = parent_in d.parent in
    let old = map type_of d.types.items in
    let all_old = length-map d.types.items type_of in
    let inside : d.updated ≤ length old = omega (arith, all_old, c.self.invariant.0, d.types.ok.0) in
    let length_is : c.len.result ≡ length old = omega (arith, all_old, c.len.ensures, d.types.ok.0) in
    let now = seen d.parname d.parlabel parent d.model d.updated d.updated_labels old d.labels in
    let still = c.make_next.ensures.still now (omega (arith, length-take d.updated old, inside)) (ap length (all_terms d.parname d.parlabel parent d.model d.updated d.updated_labels old d.labels) ∙ sym length_is) c.self.invariant.6 in
    let len = c.in_err-push_type.ensures.same_len in
    let a = c.self.invariant.0 in
    let b = c.self.invariant.2 in
    (omega (arith, len, a), c.self.invariant.1, omega (arith, len, b), c.self.invariant.3, rw c.in_err-push_type.ensures.same c.self.invariant.4, rw c.in_err-push_type.ensures.same c.self.invariant.5, rw c.in_err-push_type.ensures.same still)
