use Rattle.std.proofs.Common.{ℕ, List, [], ◌∷◌, ◌++◌, map, ap, subst, ◌∙◌}
use Rattle.std.specs.List.{flat_map}
use Rattle.std.proofs.lemmas.Result.{err_from_is_err_and}
use Rattle.ctf_writer.specs.Before.{later_uses}
use Rattle.ctf_writer.specs.DraftContentView.{dictionary_of, uses}
use Rattle.ctf_writer.specs.TableNames.{joined, names_within}
use Rattle.ctf_writer.specs.Uses.{with_names, IsRefused}
use Rattle.ctf_writer.proofs.ContentParts.{later_are}
use Rattle.ctf_writer.proofs.Distinct.{joined_used}
use Rattle.ctf_writer.proofs.uses.strings_of.Goals as goal

pub returns-in_err-strings-clause-refused : goal.returns-in_err-strings-clause-refused
returns-in_err-strings-clause-refused c =
    let p = err_from_is_err_and c.from_residual-in_err-strings.result c.from_residual-in_err-strings.ensures.1 in
    let h = c.args.held in
    let old = names_within c.args.before.strings.now in
    let used = c.in_ok-used.ensures
    ∙ ap (λ (ns : List (List ℕ)). with_names [] (h.parlabel.now ∷ h.parname.now ∷ (map (λ l. l.name) h.labels.now ++ ns))) (ap (flat_map uses) c.others.ensures ∙ later_are h c.args.before.count) in
    let all = ap (joined old) used ∙ joined_used old (later_uses (dictionary_of h) c.args.before.count) ∙ c.requires.names in
    rw (p.1, p.2) (subst (λ (ns : List (List ℕ)). IsRefused ns c.in_err-strings.field-0.0) all c.in_err-strings.ensures.refused)

pub returns-clause-names : goal.returns-clause-names
returns-clause-names c =
    let h = c.args.held in
    let old = names_within c.args.before.strings.now in
    let used = c.in_ok-used.ensures
    ∙ ap (λ (ns : List (List ℕ)). with_names [] (h.parlabel.now ∷ h.parname.now ∷ (map (λ l. l.name) h.labels.now ++ ns))) (ap (flat_map uses) c.others.ensures ∙ later_are h c.args.before.count) in
    c.in_ok-strings.ensures.names ∙ ap (joined old) used ∙ joined_used old (later_uses (dictionary_of h) c.args.before.count) ∙ c.requires.names

pub returns-clause-used : goal.returns-clause-used
returns-clause-used c =
    let h = c.args.held in
    c.in_ok-strings.ensures.used ∙ c.in_ok-used.ensures
    ∙ ap (λ (ns : List (List ℕ)). with_names [] (h.parlabel.now ∷ h.parname.now ∷ (map (λ l. l.name) h.labels.now ++ ns))) (ap (flat_map uses) c.others.ensures ∙ later_are h c.args.before.count)
