use Rattle.std.proofs.Common.{◌≡◌, ℕ, List, ◌++◌, ◌∷◌, [], Ok, length, map, sym, ap, subst, ◌∙◌, arith}
use Rattle.std.specs.List.{list_any}
use Rattle.std.specs.Str.{bytes_eq}
use Rattle.std.proofs.lemmas.List.{length-append, length-map}
use Rattle.ctf_model.specs.drafts.Adders.{add_label}
use Rattle.ctf_model.specs.format.Dictionary.{Label}
use Rattle.ctf_model.specs.drafts.DraftLaws.{IsSound}
use Rattle.ctf_model.proofs.SoundDrafts.{label_sound}
use Rattle.ctf_draft.specs.ParentView.{parent_in}
use Rattle.ctf_model.specs.drafts.Drafts.{Draft, has_zero, content}
use Rattle.ctf_draft.specs.TypeView.{type_of}
use Rattle.ctf_draft.proofs.Known.{terms_known}
use Rattle.ctf_draft.proofs.Holding.{terms_bounded}
use Rattle.ctf_draft.proofs.Views.{all_labels, label_free, labelled, one_label, seen, label_accepted}
use Rattle.ctf_draft.proofs.draft.Draft.label.Goals as goal
use Rattle.ctf_draft.proofs.draft.Draft.label.Goals.{In_ok-push}

-- the addition succeeds
accepted : (c : In_ok-push) → add_label c.args.self.now.draft (record { name = c.args.name; last = c.args.last }) ≡ Ok (seen c.self.inside.parname c.self.inside.parlabel (parent_in c.self.inside.parent) c.self.inside.model c.self.inside.updated c.self.inside.updated_labels (map type_of c.self.inside.types.items) c.push.new.self)
accepted c =
    let d = c.self.inside in
    let parent = parent_in d.parent in
    let terms = map type_of d.types.items in
    let l : Label = record { name = c.args.name; last = c.args.last } in
    let inside = c.self.invariant.1 in
    let view = ap (λ o. o.draft) c.self.view_is in
    let all : c.push.new.self ≡ d.labels ++ l ∷ [] = c.in_ok-push.ensures.ok ∙ ap (λ (n : List ℕ). d.labels ++ (record { name = n; last = c.args.last }) ∷ []) c.into_vec.ensures in
    let zeros : has_zero c.args.name ≡ c.has_zero.result = sym (c.has_zero.ensures ∙ ap has_zero c.as_slice.ensures) in
    let names : list_any (bytes_eq c.args.name) (map (λ l. l.name) d.labels) ≡ c.has.result = sym (c.has.ensures ∙ ap (λ (n : List ℕ). list_any (bytes_eq n) (map (λ l. l.name) d.labels)) c.as_slice-2.ensures) in
    let one = one_label d.parname d.parlabel parent d.model d.updated d.updated_labels terms d.labels l (omega arith) in
    label_accepted c.args.self.now.draft l (label_free c.args.name c.args.self.now.draft d.labels (ap (λ (e : Draft). (content e).labels) (sym view) ∙ all_labels d.parname d.parlabel parent d.model d.updated d.updated_labels terms d.labels) (zeros ∙ c.if-has_zero.false) (names ∙ c.if-has.false))
    ∙ labelled c.args.self.now.draft (seen d.parname d.parlabel parent d.model d.updated d.updated_labels terms d.labels) l (seen d.parname d.parlabel parent d.model d.updated d.updated_labels terms c.push.new.self) (sym view) (one ∙ ap (λ (ls : List Label). seen d.parname d.parlabel parent d.model d.updated d.updated_labels terms ls) (sym all))

pub returns-clause-ok : goal.returns-clause-ok
returns-clause-ok c = accepted (goal.at.returns-clause-ok c).In_ok-push

pub invariant_of-self-2 : goal.invariant_of-self-2
invariant_of-self-2 c =
    let d = c.self.inside in
    let l : Label = record { name = c.args.name; last = c.args.last } in
    let all : c.push.new.self ≡ d.labels ++ l ∷ [] = c.in_ok-push.ensures.ok ∙ ap (λ (n : List ℕ). d.labels ++ (record { name = n; last = c.args.last }) ∷ []) c.into_vec.ensures in
    let more = ap length all in
    let len = length-append d.labels (l ∷ []) in
    let sound = subst IsSound (ap (λ o. o.draft) c.self.view_is) c.self.invariant.4 in
    (c.self.invariant.0, omega (arith, more, len, c.self.invariant.1), c.self.invariant.2, c.self.invariant.3, label_sound c.args.self.now.draft l _ sound (omega (arith, c.ranges.last.fits)) (accepted (goal.at.invariant_of-self-2 c).In_ok-push), terms_known d.parname d.parlabel (parent_in d.parent) d.model d.marks d.updated d.updated_labels d.updated d.updated_labels (map type_of d.types.items) d.labels c.push.new.self c.self.invariant.5, terms_bounded d.parname d.parlabel (parent_in d.parent) d.model d.depths d.updated d.updated_labels d.updated d.updated_labels (map type_of d.types.items) d.labels c.push.new.self (omega arith) (omega (arith, length-map d.types.items type_of, c.self.invariant.0, d.types.ok.0)) c.self.invariant.6)
