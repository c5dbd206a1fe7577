-- The rule of names agrees with its fact: the sites are listed by ascending places.
use Rattle.std.proofs.Common.{◌≡◌, ℕ, zero, suc, ◌+◌, ◌-◌, ◌*◌, ◌/◌, ◌≤◌, Bool, true, false, cond, eqb, List, [], ◌∷◌, ◌++◌, length, drop, Option, Some, None, Result, Err, refl, sym, subst, arith, ◌⊎◌, inl, inr}
use Rattle.std.specs.Prelude.{is_none, Any, MatchOption}
use Rattle.std.specs.List.{AllByRecursion}
use Rattle.std.proofs.Math.Nat.{mul-suc}
use Rattle.ctf_model.specs.declared.faults.Fault.{Fault}
use Rattle.ctf_model.specs.declared.kinds.Kind.{Kind}
use Rattle.ctf_model.specs.declared.kinds.Kind.TheVariants.{KUnknown, KInteger, KFloat, KPointer, KArray, KFunction, KStruct, KUnion, KEnum, KForward, KTypedef, KVolatile, KConst, KRestrict}
use Rattle.ctf_model.specs.declared.sections.Section.TheVariants.{STypes}
use Rattle.ctf_model.specs.rules.Faults.{Site, first_nameless, label_sites, item_sites, list_sites, record_sites, sites, bad_name, types}
use Rattle.ctf_model.specs.format.Header.{fields, section}
use Rattle.ctf_model.specs.format.Laws.{pieces}
use Rattle.ctf_model.specs.format.Lists.{Lists, tables}
use Rattle.ctf_model.specs.format.Name.{Tables, name}
use Rattle.ctf_model.specs.format.Record.{IsWhole, IsWholeAt, kind, size, vlen, head_len, member_len, behind_head}
use Rattle.ctf_model.specs.rules.Rules.{IsBroken, Keeps}
use Rattle.ctf_model.specs.format.Section.{Piece, stop_code}
use Rattle.ctf_model.proofs.Anywhere.{any_none, any_here, any_there, any_split}
use Rattle.ctf_model.proofs.Cut.{read}
use Rattle.ctf_model.proofs.FirstFault.{Agrees, agrees_as}
use Rattle.ctf_model.proofs.HeaderRules.{InOrder, kept_order}
use Rattle.ctf_model.proofs.NameSites.{name_stands, name_site}
use Rattle.ctf_model.proofs.RecordRules.{types_cut}

-- ---- sites by ascending places

-- the places ascend from `low` on
abbrev pub IsRising : ℕ → List Site → Type 0
IsRising low [] = Unit {0}
IsRising low (site ∷ more) = (low ≤ site.place) × IsRising site.place more

-- ascending places also ascend from any lower start
lower : (low high : ℕ) (xs : List Site) → low ≤ high → IsRising high xs → IsRising low xs
lower low high [] le r = tt
lower low high (site ∷ more) le r = let from = r.0 in (omega arith, r.1)

-- the site at place `p` names nothing
abbrev pub IsNameless : Tables → List Site → ℕ → Type 0
IsNameless t xs p = Any (λ site. (site.place ≡ p) × (name t site.reference ≡ None)) xs

-- a nameless site is not below the lowest place
none_below : (t : Tables) (xs : List Site) (low p : ℕ) → IsRising low xs → IsNameless t xs p → low ≤ p
none_below t [] low p r a = absurd (any_none _ a)
none_below t (site ∷ more) low p r a = at (any_split _ site more a) (λ later. none_below t more site.place p r.1 later)
  where
    at : ((site.place ≡ p) × (name t site.reference ≡ None)) ⊎ IsNameless t more p → (IsNameless t more p → site.place ≤ p) → low ≤ p
    at (inl here) next = let from = r.0 in let same = here.0 in omega arith
    at (inr later) next = let from = r.0 in let behind = next later in omega arith

-- if `is_none` holds, there is no value
is_none_true : {A : Type 0} (o : Option A) → is_none o ≡ true → o ≡ None
is_none_true None e = refl
is_none_true (Some x) e = absurd cc

-- if it does not hold, there is a value
not_here : {A : Type 0} (o : Option A) → is_none o ≡ false → o ≡ None → ⊥
not_here None e n = absurd cc
not_here (Some x) e n = absurd cc

-- the first nameless site is at the least place of all nameless ones
nameless_agrees : (t : Tables) (xs : List Site) (low : ℕ) → IsRising low xs → Agrees (first_nameless t xs) (IsNameless t xs)
unfolding first_nameless
nameless_agrees t [] low r = λ p a. any_none _ a
nameless_agrees t (site ∷ more) low r = at (is_none (name t site.reference)) refl (first_nameless t more) (nameless_agrees t more site.place r.1)
  where
    rest : is_none (name t site.reference) ≡ false → (p : ℕ) → IsNameless t (site ∷ more) p → IsNameless t more p
    rest e p a = go (any_split _ site more a)
      where
        go : ((site.place ≡ p) × (name t site.reference ≡ None)) ⊎ IsNameless t more p → IsNameless t more p
        go (inl here) = absurd (not_here (name t site.reference) e here.1)
        go (inr later) = later

    at : (b : Bool) → is_none (name t site.reference) ≡ b → (later : Option ℕ) → Agrees later (IsNameless t more) → Agrees (cond b (Some site.place) later) (IsNameless t (site ∷ more))
    at true e later h = (any_here _ site more (refl, is_none_true (name t site.reference) e), λ q lt a. let low = none_below t (site ∷ more) site.place q (omega arith, r.1) a in absurd (omega arith))
    at false e None h = λ p a. h p (rest e p a)
    at false e (Some p) h = (any_there _ site more h.0, λ q lt a. h.1 q lt (rest e q a))

-- ---- the sites of a dictionary

-- the sites of labels ascend, then those after them
labels_rising : (ctf : List ℕ) (at n low high : ℕ) (more : List Site) → low ≤ at → at + 8 * n ≤ high → IsRising high more → IsRising low (label_sites ctf at n ++ more)
unfolding label_sites
labels_rising ctf at zero low high more le end r = lower low high more (omega arith) r
labels_rising ctf at (suc n) low high more le end r = (le, labels_rising ctf (at + 8) n at high more (omega arith) (omega arith) r)

-- the sites of items ascend, then those after them
items_rising : (place len n : ℕ) (b : List ℕ) (low high : ℕ) (more : List Site) → low ≤ place → place + len * n ≤ high → IsRising high more → IsRising low (item_sites place len n b ++ more)
unfolding item_sites
items_rising place len zero b low high more le end r = lower low high more (omega arith) r
items_rising place len (suc n) b low high more le end r = let total = mul-suc len n in (le, items_rising (place + len) len n (drop len b) place high more (omega arith) (omega arith) r)

-- the sites in the list of a whole record ascend, then those after it
list_rising : (place : ℕ) (b : List ℕ) (more : List Site) → IsWhole b → IsRising (place + length b) more → IsRising place (list_sites place b (kind b) ++ more)
unfolding IsWhole
list_rising place b more whole r = at (kind b) whole
  where
    past : IsRising place more
    past = lower place (place + length b) more (omega arith) r

    listed : (len : ℕ) → length b ≡ head_len b + len * vlen b → IsRising place (item_sites (place + head_len b) len (vlen b) (behind_head b) ++ more)
    listed len e = items_rising (place + head_len b) len (vlen b) (behind_head b) place (place + length b) more (omega arith) (omega arith) r

    at : (k : Option Kind) → MatchOption k ⊥ (IsWholeAt b) → IsRising place (list_sites place b k ++ more)
    at None w = absurd w
    at (Some KUnknown) w = past
    at (Some KInteger) w = past
    at (Some KFloat) w = past
    at (Some KPointer) w = past
    at (Some KArray) w = past
    at (Some KFunction) w = past
    at (Some KStruct) w = listed (member_len (size b)) w.ends
    at (Some KUnion) w = listed (member_len (size b)) w.ends
    at (Some KEnum) w = listed 8 w.ends
    at (Some KForward) w = past
    at (Some KTypedef) w = past
    at (Some KVolatile) w = past
    at (Some KConst) w = past
    at (Some KRestrict) w = past

-- the sites of records ascend
records_rising : (start low : ℕ) (parts : List (List ℕ)) (rest : List ℕ) (index at : ℕ) → AllByRecursion IsWhole parts → low ≤ start + at → IsRising low (record_sites start (pieces index at parts rest))
unfolding record_sites
records_rising start low [] rest index at whole le = end (eqb (length rest) 0)
  where
    end : (b : Bool) → IsRising low (record_sites start (cond b [] (Err (record { code = stop_code rest; place = index }) ∷ [])))
    end true = tt
    end false = tt
records_rising start low (part ∷ parts) rest index at whole le =
    (le, list_rising (start + at) part (record_sites start (pieces (index + 1) (at + length part) parts rest)) whole.0 (records_rising start (start + at + length part) parts rest (index + 1) (at + length part) whole.1 (omega arith)))

-- if the sections are in order, all sites ascend
sites_rising : (s : Lists) → InOrder (fields s.ctf) → IsRising 0 (sites s.ctf)
unfolding sites
sites_rising s ok =
    let h = fields s.ctf in
    let r = read (section s.ctf STypes) in
    let places : IsRising (36 + h.typeoff) (record_sites (36 + h.typeoff) (pieces 1 0 r.0 r.1)) = records_rising (36 + h.typeoff) (36 + h.typeoff) r.0 r.1 1 0 r.2.cut.whole (omega arith) in
    let found : IsRising (36 + h.typeoff) (record_sites (36 + h.typeoff) (types s.ctf)) = subst (λ (rs : List (Result Piece Fault)). IsRising (36 + h.typeoff) (record_sites (36 + h.typeoff) rs)) (sym (types_cut s.ctf r.0 r.1 r.2.cut)) places in
    let objects = ok.objects in
    let functions = ok.functions in
    let before = ok.types in
    (omega arith, (omega arith, labels_rising s.ctf (36 + h.lbloff) ((h.objtoff - h.lbloff) / 8) 8 (36 + h.typeoff) _ (omega arith) (omega arith) found))

pub bad_name_agrees : (s : Lists) → Keeps s 13 → Agrees (bad_name s) (IsBroken s 13)
unfolding bad_name
bad_name_agrees s keeps = agrees_as (bad_name s) (IsNameless (tables s) (sites s.ctf)) (IsBroken s 13) (name_stands s) (name_site s) (nameless_agrees (tables s) (sites s.ctf) 0 (sites_rising s (kept_order s 13 (omega arith) keeps)))
