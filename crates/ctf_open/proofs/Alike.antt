-- What an addition to a draft leaves unchanged.
use Rattle.std.proofs.Common.{◌≡◌, ℕ, Option, Result, Ok, Err, refl, ap, sym, subst, ◌∙◌, Box, Global, Some}
use Rattle.std.specs.Box.{with_value}
use Rattle.std.specs.Prelude.{IfOk, OnErr}
use Rattle.ctf_model.specs.opened.Steps.{silent}
use Rattle.ctf_open.specs.PartView.{part_in}
use Rattle.ctf_open.specs.declared.adding.Part.{Part}
use Rattle.ctf_open.specs.declared.adding.Part.TheVariants as part
use Rattle.ctf_draft.specs.DraftView.{Owned}
use Rattle.ctf_draft.specs.Stating.{add_member_at}
use Rattle.ctf_open.proofs.DraftParents.{AreAlike, enumerator_alike, label_alike, member_alike, stated_alike}
use Rattle.ctf_open.specs.Drafting.{IsUnder, IsWritten}
use Rattle.ctf_model.specs.drafts.Adders.{Added, add_enumerator, add_label}
use Rattle.ctf_model.specs.drafts.Drafts.{Draft, rollback}
use Rattle.ctf_model.specs.spaces.Kept.{Kept}
use Rattle.ctf_model.specs.declared.faults.Fault.{Fault}

silent_alike : (d : Draft) (r : Result Draft Fault) (a : Added) → ((b : Draft) → r ≡ Ok b → AreAlike d b) → silent r ≡ Ok a → AreAlike d a.draft
silent_alike d (Ok b) a alike e =
    let is : b ≡ a.draft = cc in
    subst (λ (x : Draft). AreAlike d x) is (alike b refl)
silent_alike d (Err f) a alike e = absurd cc

pub part_alike : (d : Draft) (x : Part) (a : Added) → part_in x d ≡ Ok a → AreAlike d a.draft
part_alike d (part.Member t name tnum offset) a e = member_alike d t.0 name.now tnum.0 offset a e
part_alike d (part.MemberAt t name tnum offset size) a e = silent_alike d (add_member_at d t.0 (record { name = name.now; tnum = tnum.0; offset = offset }) size) a (λ b h. stated_alike d t.0 (record { name = name.now; tnum = tnum.0; offset = offset }) size b h) e
part_alike d (part.Enumerator t name value) a e = silent_alike d (add_enumerator d t.0 (record { name = name.now; value = value })) a (λ b h. enumerator_alike d t.0 (record { name = name.now; value = value }) b h) e
part_alike d (part.Label name last) a e = silent_alike d (add_label d (record { name = name.now; last = last })) a (λ b h. label_alike d (record { name = name.now; last = last }) b h) e

-- so the draft keeps its parent
pub still_under : {A : Type 0} (number : A → ℕ) (result : Result A Fault) (adds : Draft → Result Added Fault) (old new : Owned) (above : Option Kept) → ((a : Added) → adds old.draft ≡ Ok a → AreAlike old.draft a.draft) → IfOk result (λ n. adds old.draft ≡ Ok (record { draft = new.draft; answer = number n })) → OnErr result (new ≡ old) → IsUnder old.draft above → IsUnder new.draft above
still_under number (Ok n) adds old new above alike ok err under =
    let same = alike (record { draft = new.draft; answer = number n }) ok in
    let parent = ap (λ (d : Draft). d.parent) same in
    let model = ap (λ (d : Draft). d.model) same in
    record { parent = parent ∙ under.parent; model = λ p h. under.model p h ∙ sym model }
still_under number (Err f) adds old new above alike ok err under =
    subst (λ (d : Owned). IsUnder d.draft above) (sym err) under

-- and its dictionary is still as written
pub still_written : {A : Type 0} (number : A → ℕ) (result : Result A Fault) (adds : Draft → Result Added Fault) (old new : Owned) (kept : Kept) → ((a : Added) → adds old.draft ≡ Ok a → AreAlike old.draft a.draft) → IfOk result (λ n. adds old.draft ≡ Ok (record { draft = new.draft; answer = number n })) → OnErr result (new ≡ old) → IsWritten (rollback old.draft) kept → IsWritten (rollback new.draft) kept
still_written number (Ok n) adds old new kept alike ok err w =
    let same = alike (record { draft = new.draft; answer = number n }) ok in
    subst (λ (d : Draft). IsWritten d kept) (sym same) w
still_written number (Err f) adds old new kept alike ok err w =
    subst (λ (d : Owned). IsWritten (rollback d.draft) kept) (sym err) w

-- what is written into a box is its new value
pub value_put : {A : Type 0} (b y : Box A Global) (v : A) → Some (with_value b v) ≡ Some y → v ≡ y.value
value_put b y v e = cc

pub same_value : {A : Type 0} (b y : Box A Global) → Some b ≡ Some y → b.value ≡ y.value
same_value b y e = cc
