-- Consequences of a sound draft: its dictionary keeps the rule of references, and can be imported
-- over its parent.
use Rattle.std.proofs.Common.{◌≡◌, ℕ, ◌<◌, ◌≤◌, true, false, List, [], ◌∷◌, length, Option, Some, None, refl, subst, arith}
use Rattle.std.specs.List.{AllByRecursion, flat_map, list_any}
use Rattle.std.proofs.lemmas.Bool.{le-ltb}
use Rattle.ctf_model.proofs.Alls.{all_joined, none_all, none_weaker}
use Rattle.ctf_model.proofs.Anywhere.{all_map}
use Rattle.ctf_model.proofs.DraftNumbers.{there_in_parent, there_low, there_not_missing}
use Rattle.ctf_model.specs.format.Dictionary.{Dictionary}
use Rattle.ctf_model.specs.drafts.DraftLaws.{IsSound, NamesThere}
use Rattle.ctf_model.specs.drafts.Drafts.{Draft, content, is_absent, is_childs}
use Rattle.ctf_model.specs.rules.Needs.{greatest_in_parent, named_by, number_in_parent}
use Rattle.ctf_model.specs.rules.References.{is_missing, references}
use Rattle.ctf_model.specs.spaces.Imports.{import_fault, of_one_model, same_model}
use Rattle.ctf_model.specs.format.Term.{Term}
use Rattle.ctf_model.specs.declared.data_model.DataModel.{DataModel}
use Rattle.ctf_model.specs.declared.data_model.DataModel.TheVariants.{Lp64, Ilp32}

pub misses_none : (d : Draft) → IsSound d → AllByRecursion (λ x. list_any (is_missing (content d).child (length (content d).terms)) (references x.body) ≡ false) (content d).terms
misses_none d ok = all_map (NamesThere d) (λ x. list_any (is_missing (content d).child (length (content d).terms)) (references x.body) ≡ false) (λ x h. none_weaker (is_absent d) (is_missing (content d).child (length (content d).terms)) (there_not_missing d) (references x.body) h) (content d).terms ok.all.named

pub names_short : (d : Draft) → IsSound d → AllByRecursion (λ x. AllByRecursion (λ n. n < 0xffff) (references x.body)) (content d).terms
names_short d ok = all_map (NamesThere d) (λ x. AllByRecursion (λ n. n < 0xffff) (references x.body)) (λ x h. none_all (is_absent d) (λ n. n < 0xffff) (λ n e. there_low d n ok.all.count e) (references x.body) h) (content d).terms ok.all.named

-- ---- under a parent

abbrev InParent : Dictionary → ℕ → Type 0
InParent parent n = number_in_parent n ≤ length parent.terms

greatest_low : (parent : Dictionary) (ns : List ℕ) → AllByRecursion (InParent parent) ns → greatest_in_parent ns ≤ length parent.terms
unfolding greatest_in_parent
greatest_low parent [] h = omega arith
greatest_low parent (n ∷ ns) h = let more = greatest_low parent ns h.1 in let first = h.0 in omega arith

flat_low : (parent : Dictionary) (xs : List Term) → AllByRecursion (λ x. AllByRecursion (InParent parent) (references x.body)) xs → AllByRecursion (InParent parent) (flat_map (λ x. references x.body) xs)
flat_low parent [] h = tt
flat_low parent (x ∷ xs) h = all_joined (InParent parent) (references x.body) (flat_map (λ x. references x.body) xs) h.0 (flat_low parent xs h.1)

-- the types of the parent that a draft's type refers to exist
each_low : (d : Draft) (parent : Dictionary) → d.parent ≡ Some parent → (x : Term) → NamesThere d x → AllByRecursion (InParent parent) (references x.body)
each_low d parent e x h = none_all (is_absent d) (InParent parent) (λ n g. there_in_parent (content d) parent n (rw e at g)) (references x.body) h

low : (d : Draft) (parent : Dictionary) → IsSound d → d.parent ≡ Some parent → greatest_in_parent (named_by (content d)) ≤ length parent.terms
low d parent ok e =
    let each = all_map (NamesThere d) (λ x. AllByRecursion (InParent parent) (references x.body)) (each_low d parent e) (content d).terms ok.all.named in
    let all = all_joined (InParent parent) (flat_map (λ x. references x.body) (content d).terms) [] (flat_low parent (content d).terms each) tt in
    greatest_low parent (named_by (content d)) all

same_as_itself : (model : DataModel) → same_model model model ≡ true
same_as_itself Lp64 = refl
same_as_itself Ilp32 = refl

pub stays_under : (d : Draft) (parent : Dictionary) → IsSound d → d.parent ≡ Some parent → import_fault (of_one_model d.model (content d) parent) ≡ None
stays_under d parent ok e =
    let enough = le-ltb (length parent.terms) (greatest_in_parent (named_by (content d))) (low d parent ok e) in
    let grown_up : is_childs (Some parent) ≡ false = subst (λ (q : Option Dictionary). is_childs q ≡ false) e ok.all.parent in
    rw (e, grown_up, same_as_itself d.model, enough) refl
