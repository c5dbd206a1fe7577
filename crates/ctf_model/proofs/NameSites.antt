-- The sites that the rule of names visits are the places of names.
use Rattle.std.proofs.Common.{◌≡◌, ℕ, zero, suc, ◌+◌, ◌-◌, ◌*◌, ◌/◌, ◌<◌, ◌≤◌, eqb, ltb, Bool, true, false, cond, List, [], ◌∷◌, ◌++◌, length, take, drop, Option, Some, None, Result, Err, refl, sym, ap, subst, ◌∙◌, arith, ◌⊎◌, inl, inr}
use Rattle.std.specs.Prelude.{Any, MatchOption}
use Rattle.std.specs.List.{concat, AllByRecursion}
use Rattle.std.proofs.Math.Nat.{mul-suc}
use Rattle.std.proofs.Math.Seq.{drop-append-add}
use Rattle.std.proofs.lemmas.List.{append_assoc, drop-drop, drop-take, take-take, length-append, length-drop, length-take}
use Rattle.ctf_model.specs.format.Bytes.{number, u32_at}
use Rattle.ctf_model.specs.declared.faults.Fault.{Fault}
use Rattle.ctf_model.specs.declared.kinds.Kind.{Kind}
use Rattle.ctf_model.specs.declared.kinds.Kind.TheVariants.{KUnknown, KInteger, KFloat, KPointer, KArray, KFunction, KStruct, KUnion, KEnum, KForward, KTypedef, KVolatile, KConst, KRestrict}
use Rattle.ctf_model.specs.declared.sections.Section.TheVariants.{STypes}
use Rattle.ctf_model.specs.rules.Faults.{Site, label_sites, item_sites, list_sites, record_sites, sites, types}
use Rattle.ctf_model.specs.format.Header.{fields, section}
use Rattle.ctf_model.specs.format.Laws.{pieces}
use Rattle.ctf_model.specs.format.Lists.{Lists, tables}
use Rattle.ctf_model.specs.format.Name.{name}
use Rattle.ctf_model.specs.format.NamePlaces.{InList, InRecord, NameStandsAt}
use Rattle.ctf_model.specs.format.Record.{IsWhole, IsWholeAt, kind, size, vlen, head_len, member_len, behind_head}
use Rattle.ctf_model.specs.rules.Rules.{BadName}
use Rattle.ctf_model.specs.format.Section.{Piece, IsCut, stop_code}
use Rattle.ctf_model.proofs.Anywhere.{any_none, any_here, any_there, any_split, any_append, any_left, any_right}
use Rattle.ctf_model.proofs.Cut.{read}
use Rattle.ctf_model.proofs.Prefix.{u32-append, has_head}
use Rattle.ctf_model.proofs.RecordRules.{types_cut}

-- ---- bytes of a dictionary

-- every word in `b` equals the word at that offset from `place`
abbrev StandAt : List ℕ → ℕ → List ℕ → Type 0
StandAt ctf place b = (j : ℕ) → j + 4 ≤ length b → u32_at b j ≡ u32_at ctf (place + j)

-- so does every word in the front
front_stands : (ctf : List ℕ) (place : ℕ) (a x : List ℕ) → StandAt ctf place (a ++ x) → StandAt ctf place a
front_stands ctf place a x h j le = sym (u32-append a x j le) ∙ h j (omega (arith, length-append a x))

-- and in the back
back_stands : (ctf : List ℕ) (place : ℕ) (a x : List ℕ) → StandAt ctf place (a ++ x) → StandAt ctf (place + length a) x
back_stands ctf place a x h j le =
    let far : place + (length a + j) ≡ place + length a + j = omega arith in
    ap (λ (r : List ℕ). number (take 4 r)) (sym (drop-append-add a x j)) ∙ h (length a + j) (omega (arith, length-append a x)) ∙ ap (u32_at ctf) far

-- and after some bytes
drop_stands : (ctf : List ℕ) (place n : ℕ) (b : List ℕ) → n ≤ length b → StandAt ctf place b → StandAt ctf (place + n) (drop n b)
drop_stands ctf place n b inside h j le =
    let far : place + (n + j) ≡ place + n + j = omega arith in
    ap (λ (r : List ℕ). number (take 4 r)) (drop-drop j n b) ∙ h (n + j) (omega (arith, length-drop n b)) ∙ ap (u32_at ctf) far

-- the bytes of a section, from its start
section_stands : (ctf : List ℕ) (start n : ℕ) → StandAt ctf start (take n (drop start ctf))
section_stands ctf start n j le =
    let len = length-take n (drop start ctf) in
    let more : j + (n - j) ≡ n = omega arith in
    let cut : drop j (take n (drop start ctf)) ≡ take (n - j) (drop j (drop start ctf)) = ap (λ (m : ℕ). drop j (take m (drop start ctf))) (sym more) ∙ drop-take j (n - j) (drop start ctf) in
    ap (λ (r : List ℕ). number (take 4 r)) cut ∙ ap number (take-take 4 (n - j) (drop j (drop start ctf)) (omega (arith, len))) ∙ ap (λ (r : List ℕ). number (take 4 r)) (drop-drop j start ctf)

-- ---- sites

-- the site at place `p` has a reference with the property
abbrev SiteAt : (ℕ → Type 0) → List Site → ℕ → Type 0
SiteAt N xs p = Any (λ (site : Site). (site.place ≡ p) × N site.reference) xs

-- ---- labels

-- place `p` is a label with such a reference
abbrev LabelAt : (ℕ → Type 0) → List ℕ → ℕ → ℕ → ℕ → Type 0
LabelAt N ctf at n p = (i : ℕ) × (i < n) × (p ≡ at + 8 * i) × N (u32_at ctf p)

label_stands : (N : ℕ → Type 0) (ctf : List ℕ) (at n p : ℕ) → SiteAt N (label_sites ctf at n) p → LabelAt N ctf at n p
unfolding label_sites
label_stands N ctf at zero p a = absurd (any_none _ a)
label_stands N ctf at (suc n) p a = go (any_split _ _ _ a) (label_stands N ctf (at + 8) n p)
  where
    go : ((at ≡ p) × N (u32_at ctf at)) ⊎ SiteAt N (label_sites ctf (at + 8) n) p → (SiteAt N (label_sites ctf (at + 8) n) p → LabelAt N ctf (at + 8) n p) → LabelAt N ctf at (suc n) p
    go (inl h) later = let same = h.0 in (0, omega arith, omega arith, subst (λ (q : ℕ). N (u32_at ctf q)) same h.1)
    go (inr h) later = let l = later h in let lt = l.1 in let is = l.2 in (suc l.0, omega arith, omega arith, l.3)

label_site : (N : ℕ → Type 0) (ctf : List ℕ) (at n p i : ℕ) → i < n → p ≡ at + 8 * i → N (u32_at ctf p) → SiteAt N (label_sites ctf at n) p
unfolding label_sites
label_site N ctf at zero p i lt is x = absurd (omega arith)
label_site N ctf at (suc n) p zero lt is x = let same : p ≡ at = omega arith in any_here _ _ _ (sym same, subst (λ (q : ℕ). N (u32_at ctf q)) same x)
label_site N ctf at (suc n) p (suc i) lt is x = any_there _ _ _ (label_site N ctf (at + 8) n p i (omega arith) (omega arith) x)

-- ---- items

-- place `p` is an item with such a reference
abbrev ItemAt : (ℕ → Type 0) → List ℕ → ℕ → ℕ → ℕ → ℕ → Type 0
ItemAt N ctf place len n p = (k : ℕ) × (k < n) × (p ≡ place + len * k) × N (u32_at ctf p)

item_stands : (N : ℕ → Type 0) (ctf : List ℕ) (place len n : ℕ) (b : List ℕ) (p : ℕ) → 4 ≤ len → len * n ≤ length b → StandAt ctf place b → SiteAt N (item_sites place len n b) p → ItemAt N ctf place len n p
unfolding item_sites
item_stands N ctf place len zero b p low room h a = absurd (any_none _ a)
item_stands N ctf place len (suc n) b p low room h a =
    let total = mul-suc len n in
    go (any_split _ _ _ a) (item_stands N ctf (place + len) len n (drop len b) p low (omega (arith, total, length-drop len b)) (drop_stands ctf place len b (omega (arith, total)) h))
  where
    go : ((place ≡ p) × N (u32_at b 0)) ⊎ SiteAt N (item_sites (place + len) len n (drop len b)) p → (SiteAt N (item_sites (place + len) len n (drop len b)) p → ItemAt N ctf (place + len) len n p) → ItemAt N ctf place len (suc n) p
    go (inl x) later =
        let same = x.0 in
        let total = mul-suc len n in
        let word : u32_at b 0 ≡ u32_at ctf (place + 0) = h 0 (omega (arith, total)) in
        let there : place + 0 ≡ p = omega arith in
        (0, omega arith, omega arith, subst N (word ∙ ap (u32_at ctf) there) x.1)
    go (inr x) later = let l = later x in let lt = l.1 in let is = l.2 in (suc l.0, omega arith, omega (arith, mul-suc len l.0), l.3)

item_site : (N : ℕ → Type 0) (ctf : List ℕ) (place len n : ℕ) (b : List ℕ) (p k : ℕ) → 4 ≤ len → len * n ≤ length b → StandAt ctf place b → k < n → p ≡ place + len * k → N (u32_at ctf p) → SiteAt N (item_sites place len n b) p
unfolding item_sites
item_site N ctf place len zero b p k low room h lt is x = absurd (omega arith)
item_site N ctf place len (suc n) b p zero low room h lt is x =
    let total = mul-suc len n in
    let word : u32_at b 0 ≡ u32_at ctf (place + 0) = h 0 (omega (arith, total)) in
    let there : place + 0 ≡ p = omega arith in
    let same : place ≡ p = omega arith in
    any_here _ _ _ (same, subst N (sym (word ∙ ap (u32_at ctf) there)) x)
item_site N ctf place len (suc n) b p (suc k) low room h lt is x =
    let total = mul-suc len n in
    any_there _ _ _ (item_site N ctf (place + len) len n (drop len b) p k low (omega (arith, total, length-drop len b)) (drop_stands ctf place len b (omega (arith, total)) h) (omega arith) (omega (arith, mul-suc len k)) x)

-- ---- records

-- a member has 8 bytes or more
wide_enough : (size : ℕ) → 4 ≤ member_len size
wide_enough size = at (ltb size 8192)
  where
    at : (b : Bool) → 4 ≤ cond b 8 16
    at true = omega arith
    at false = omega arith

-- place `p` is a name in a record that begins at `place`, with such a reference
abbrev HasNameAt : (ℕ → Type 0) → List ℕ → ℕ → (ℕ → Type 0) → ℕ → Type 0
HasNameAt N ctf place In p = (at : ℕ) × In at × (p ≡ place + at) × N (u32_at ctf p)

list_stands : (N : ℕ → Type 0) (ctf : List ℕ) (place : ℕ) (b : List ℕ) (p : ℕ) → IsWhole b → StandAt ctf place b → SiteAt N (list_sites place b (kind b)) p → HasNameAt N ctf place (InList b (kind b)) p
unfolding IsWhole
list_stands N ctf place b p whole h a = at (kind b) whole a
  where
    listed : (len : ℕ) → 4 ≤ len → length b ≡ head_len b + len * vlen b → SiteAt N (item_sites (place + head_len b) len (vlen b) (behind_head b)) p → (at : ℕ) × ((k : ℕ) × (k < vlen b) × (at ≡ head_len b + len * k)) × (p ≡ place + at) × N (u32_at ctf p)
    listed len low ends a =
        let l = item_stands N ctf (place + head_len b) len (vlen b) (behind_head b) p low (omega (arith, length-drop (head_len b) b)) (drop_stands ctf place (head_len b) b (omega arith) h) a in
        let is = l.2 in
        (head_len b + len * l.0, (l.0, l.1, refl), omega arith, l.3)

    at : (k : Option Kind) → MatchOption k ⊥ (IsWholeAt b) → SiteAt N (list_sites place b k) p → HasNameAt N ctf place (InList b k) p
    at None w a = absurd w
    at (Some KUnknown) w a = absurd (any_none _ a)
    at (Some KInteger) w a = absurd (any_none _ a)
    at (Some KFloat) w a = absurd (any_none _ a)
    at (Some KPointer) w a = absurd (any_none _ a)
    at (Some KArray) w a = absurd (any_none _ a)
    at (Some KFunction) w a = absurd (any_none _ a)
    at (Some KStruct) w a = listed (member_len (size b)) (wide_enough (size b)) w.ends a
    at (Some KUnion) w a = listed (member_len (size b)) (wide_enough (size b)) w.ends a
    at (Some KEnum) w a = listed 8 (omega arith) w.ends a
    at (Some KForward) w a = absurd (any_none _ a)
    at (Some KTypedef) w a = absurd (any_none _ a)
    at (Some KVolatile) w a = absurd (any_none _ a)
    at (Some KConst) w a = absurd (any_none _ a)
    at (Some KRestrict) w a = absurd (any_none _ a)

list_site : (N : ℕ → Type 0) (ctf : List ℕ) (place : ℕ) (b : List ℕ) (p : ℕ) → IsWhole b → StandAt ctf place b → HasNameAt N ctf place (InList b (kind b)) p → SiteAt N (list_sites place b (kind b)) p
unfolding IsWhole
list_site N ctf place b p whole h x = at (kind b) whole x
  where
    listed : (len : ℕ) → 4 ≤ len → length b ≡ head_len b + len * vlen b → (at : ℕ) × ((k : ℕ) × (k < vlen b) × (at ≡ head_len b + len * k)) × (p ≡ place + at) × N (u32_at ctf p) → SiteAt N (item_sites (place + head_len b) len (vlen b) (behind_head b)) p
    listed len low ends x =
        let there = x.1.2 in
        let is = x.2 in
        item_site N ctf (place + head_len b) len (vlen b) (behind_head b) p x.1.0 low (omega (arith, length-drop (head_len b) b)) (drop_stands ctf place (head_len b) b (omega arith) h) x.1.1 (omega arith) x.3

    at : (k : Option Kind) → MatchOption k ⊥ (IsWholeAt b) → HasNameAt N ctf place (InList b k) p → SiteAt N (list_sites place b k) p
    at None w x = absurd w
    at (Some KUnknown) w x = absurd x.1
    at (Some KInteger) w x = absurd x.1
    at (Some KFloat) w x = absurd x.1
    at (Some KPointer) w x = absurd x.1
    at (Some KArray) w x = absurd x.1
    at (Some KFunction) w x = absurd x.1
    at (Some KStruct) w x = listed (member_len (size b)) (wide_enough (size b)) w.ends x
    at (Some KUnion) w x = listed (member_len (size b)) (wide_enough (size b)) w.ends x
    at (Some KEnum) w x = listed 8 (omega arith) w.ends x
    at (Some KForward) w x = absurd x.1
    at (Some KTypedef) w x = absurd x.1
    at (Some KVolatile) w x = absurd x.1
    at (Some KConst) w x = absurd x.1
    at (Some KRestrict) w x = absurd x.1

-- place `p` is a name in one of the records, which begin at `place`
pub record AmongRecords (N : ℕ → Type 0) (ctf : List ℕ) (place : ℕ) (parts : List (List ℕ)) (p : ℕ) : Type 0 where
  pub front : List (List ℕ)
  pub part : List ℕ
  pub back : List (List ℕ)
  pub all : parts ≡ front ++ part ∷ back
  pub named : HasNameAt N ctf (place + length (concat front)) (InRecord part) p

-- the sites of one record
one_stands : (N : ℕ → Type 0) (ctf : List ℕ) (place : ℕ) (b : List ℕ) (p : ℕ) → IsWhole b → StandAt ctf place b → ((place ≡ p) × N (u32_at b 0)) ⊎ SiteAt N (list_sites place b (kind b)) p → HasNameAt N ctf place (InRecord b) p
unfolding IsWhole
one_stands N ctf place b p whole h (inl x) =
    let same = x.0 in
    let low = has_head (kind b) b whole in
    let there : place + 0 ≡ p = omega arith in
    (0, inl refl, omega arith, subst N (h 0 (omega arith) ∙ ap (u32_at ctf) there) x.1)
one_stands N ctf place b p whole h (inr x) = let l = list_stands N ctf place b p whole h x in (l.0, inr l.1, l.2, l.3)

one_site : (N : ℕ → Type 0) (ctf : List ℕ) (place : ℕ) (b : List ℕ) (p : ℕ) → IsWhole b → StandAt ctf place b → HasNameAt N ctf place (InRecord b) p → ((place ≡ p) × N (u32_at b 0)) ⊎ SiteAt N (list_sites place b (kind b)) p
unfolding IsWhole
one_site N ctf place b p whole h x = go x.0 x.1 x.2 x.3
  where
    go : (at : ℕ) → InRecord b at → p ≡ place + at → N (u32_at ctf p) → ((place ≡ p) × N (u32_at b 0)) ⊎ SiteAt N (list_sites place b (kind b)) p
    go at (inl none) is x =
        let low = has_head (kind b) b whole in
        let there : place + 0 ≡ p = omega arith in
        let same : place ≡ p = omega arith in
        inl (same, subst N (sym (h 0 (omega arith) ∙ ap (u32_at ctf) there)) x)
    go at (inr l) is x = inr (list_site N ctf place b p whole h (at, l, is, x))

records_stand : (N : ℕ → Type 0) (ctf : List ℕ) (start : ℕ) (parts : List (List ℕ)) (rest : List ℕ) (index at p : ℕ) → AllByRecursion IsWhole parts → StandAt ctf (start + at) (concat parts ++ rest) → SiteAt N (record_sites start (pieces index at parts rest)) p → AmongRecords N ctf (start + at) parts p
unfolding record_sites
records_stand N ctf start [] rest index at p whole h a = absurd (none (eqb (length rest) 0) a)
  where
    none : (b : Bool) → SiteAt N (record_sites start (cond b [] (Err (record { code = stop_code rest; place = index }) ∷ []))) p → ⊥
    none true a = any_none _ a
    none false a = any_none _ a
records_stand N ctf start (part ∷ parts) rest index at p whole h a =
    go (any_split _ _ _ a) (records_stand N ctf start parts rest (index + 1) (at + length part) p whole.1 (subst (λ (q : ℕ). StandAt ctf q (concat parts ++ rest)) far (back_stands ctf (start + at) part (concat parts ++ rest) here)))
  where
    here : StandAt ctf (start + at) (part ++ (concat parts ++ rest))
    here = subst (StandAt ctf (start + at)) (append_assoc part (concat parts) rest) h

    far : start + at + length part ≡ start + (at + length part)
    far = omega arith

    more : List Site
    more = record_sites start (pieces (index + 1) (at + length part) parts rest)

    first : ((start + at ≡ p) × N (u32_at part 0)) ⊎ SiteAt N (list_sites (start + at) part (kind part)) p → AmongRecords N ctf (start + at) (part ∷ parts) p
    first x =
        let n = one_stands N ctf (start + at) part p whole.0 (front_stands ctf (start + at) part (concat parts ++ rest) here) x in
        let is = n.2 in
        record { front = []; part = part; back = parts; all = refl; named = (n.0, n.1, omega arith, n.3) }

    go : ((start + at ≡ p) × N (u32_at part 0)) ⊎ SiteAt N (list_sites (start + at) part (kind part) ++ more) p → (SiteAt N more p → AmongRecords N ctf (start + (at + length part)) parts p) → AmongRecords N ctf (start + at) (part ∷ parts) p
    go (inl x) later = first (inl x)
    go (inr x) later = split (any_append _ (list_sites (start + at) part (kind part)) more x)
      where
        split : SiteAt N (list_sites (start + at) part (kind part)) p ⊎ SiteAt N more p → AmongRecords N ctf (start + at) (part ∷ parts) p
        split (inl y) = first (inr y)
        split (inr y) =
            let l = later y in
            let is = l.named.2 in
            record { front = part ∷ l.front; part = l.part; back = l.back; all = ap (λ (ps : List (List ℕ)). part ∷ ps) l.all; named = (l.named.0, l.named.1, omega (arith, length-append part (concat l.front)), l.named.3) }

record_site : (N : ℕ → Type 0) (ctf : List ℕ) (start : ℕ) (front : List (List ℕ)) (part : List ℕ) (back : List (List ℕ)) (rest : List ℕ) (index at p : ℕ) → AllByRecursion IsWhole (front ++ part ∷ back) → StandAt ctf (start + at) (concat (front ++ part ∷ back) ++ rest) → HasNameAt N ctf (start + at + length (concat front)) (InRecord part) p → SiteAt N (record_sites start (pieces index at (front ++ part ∷ back) rest)) p
unfolding record_sites
record_site N ctf start [] part back rest index at p whole h x = go (one_site N ctf (start + at) part p whole.0 (front_stands ctf (start + at) part (concat back ++ rest) (subst (StandAt ctf (start + at)) (append_assoc part (concat back) rest) h)) (x.0, x.1, (let is = x.2 in omega arith), x.3))
  where
    more : List Site
    more = record_sites start (pieces (index + 1) (at + length part) back rest)

    go : ((start + at ≡ p) × N (u32_at part 0)) ⊎ SiteAt N (list_sites (start + at) part (kind part)) p → SiteAt N (record { place = start + at; reference = u32_at part 0 } ∷ (list_sites (start + at) part (kind part) ++ more)) p
    go (inl y) = any_here _ _ _ y
    go (inr y) = any_there _ _ _ (any_left _ (list_sites (start + at) part (kind part)) more y)
record_site N ctf start (first ∷ front) part back rest index at p whole h x =
    let parts = front ++ part ∷ back in
    let here : StandAt ctf (start + at) (first ++ (concat parts ++ rest)) = subst (StandAt ctf (start + at)) (append_assoc first (concat parts) rest) h in
    let far : start + at + length first ≡ start + (at + length first) = omega arith in
    let behind : StandAt ctf (start + (at + length first)) (concat parts ++ rest) = subst (λ (q : ℕ). StandAt ctf q (concat parts ++ rest)) far (back_stands ctf (start + at) first (concat parts ++ rest) here) in
    let is = x.2 in
    let later = record_site N ctf start front part back rest (index + 1) (at + length first) p whole.1 behind (x.0, x.1, omega (arith, length-append first (concat front)), x.3) in
    any_there _ _ _ (any_right _ (list_sites (start + at) first (kind first)) _ later)

-- ---- the sites of a dictionary

-- the reference names nothing
abbrev NamesNothing : Lists → ℕ → Type 0
NamesNothing s reference = name (tables s) reference ≡ None

-- the bytes of the type section, from its start
types_stand : (ctf : List ℕ) (parts : List (List ℕ)) (rest : List ℕ) → IsCut (section ctf STypes) parts rest → StandAt ctf (36 + (fields ctf).typeoff + 0) (concat parts ++ rest)
types_stand ctf parts rest cut =
    let start : 36 + (fields ctf).typeoff ≡ 36 + (fields ctf).typeoff + 0 = omega arith in
    subst (λ (q : ℕ). StandAt ctf q (concat parts ++ rest)) start (subst (StandAt ctf (36 + (fields ctf).typeoff)) cut.joined (section_stands ctf (36 + (fields ctf).typeoff) (36 + (fields ctf).stroff - (36 + (fields ctf).typeoff))))

-- the sites of the labels, and of the records
abbrev pub in_labels : List ℕ → List Site
in_labels ctf = label_sites ctf (36 + (fields ctf).lbloff) (((fields ctf).objtoff - (fields ctf).lbloff) / 8)

abbrev pub in_types : List ℕ → List Site
in_types ctf = record_sites (36 + (fields ctf).typeoff) (types ctf)

-- the sites after the first
abbrev behind_first : List ℕ → List Site
behind_first ctf = record { place = 8; reference = (fields ctf).parname } ∷ (in_labels ctf ++ in_types ctf)

-- a site of the records that names nothing is a bad name
types_stands : (s : Lists) (p : ℕ) → SiteAt (NamesNothing s) (in_types s.ctf) p → BadName s p
types_stands s p a =
    let r = read (section s.ctf STypes) in
    let b = subst (λ (rs : List (Result Piece Fault)). SiteAt (NamesNothing s) (record_sites (36 + (fields s.ctf).typeoff) rs) p) (types_cut s.ctf r.0 r.1 r.2.cut) a in
    let l = records_stand (NamesNothing s) s.ctf (36 + (fields s.ctf).typeoff) r.0 r.1 1 0 p r.2.cut.whole (types_stand s.ctf r.0 r.1 r.2.cut) b in
    let cut = subst (λ (ps : List (List ℕ)). IsCut (section s.ctf STypes) ps r.1) l.all r.2.cut in
    let is = l.named.2 in
    (inr (inr (record { front = l.front; part = l.part; back = l.back; rest = r.1; cut = cut }, l.named.0, l.named.1, omega arith)), l.named.3)

-- a site that names nothing is a bad name
pub name_stands : (s : Lists) (p : ℕ) → SiteAt (NamesNothing s) (sites s.ctf) p → BadName s p
unfolding sites
name_stands s p a = header (any_split _ _ (behind_first s.ctf) a)
  where
    behind : SiteAt (NamesNothing s) (in_labels s.ctf) p ⊎ SiteAt (NamesNothing s) (in_types s.ctf) p → BadName s p
    behind (inl a) =
        let l = label_stands (NamesNothing s) s.ctf (36 + (fields s.ctf).lbloff) (((fields s.ctf).objtoff - (fields s.ctf).lbloff) / 8) p a in
        let lt = l.1 in
        let is = l.2 in
        (inr (inl (l.0, omega arith, omega arith)), l.3)
    behind (inr a) = types_stands s p a

    second : ((8 ≡ p) × NamesNothing s (fields s.ctf).parname) ⊎ SiteAt (NamesNothing s) (in_labels s.ctf ++ in_types s.ctf) p → BadName s p
    second (inl x) = (inl (inr (sym x.0)), subst (λ (q : ℕ). NamesNothing s (u32_at s.ctf q)) x.0 x.1)
    second (inr a) = behind (any_append _ (in_labels s.ctf) (in_types s.ctf) a)

    header : ((4 ≡ p) × NamesNothing s (fields s.ctf).parlabel) ⊎ SiteAt (NamesNothing s) (behind_first s.ctf) p → BadName s p
    header (inl x) = (inl (inl (sym x.0)), subst (λ (q : ℕ). NamesNothing s (u32_at s.ctf q)) x.0 x.1)
    header (inr a) = second (any_split _ _ (in_labels s.ctf ++ in_types s.ctf) a)

-- a bad name is a site that names nothing
pub name_site : (s : Lists) (p : ℕ) → BadName s p → SiteAt (NamesNothing s) (sites s.ctf) p
unfolding sites
name_site s p bad = at bad.0
  where
    first : (q : ℕ) → p ≡ q → (q ≡ p) × NamesNothing s (u32_at s.ctf q)
    first q e = (sym e, subst (λ (r : ℕ). NamesNothing s (u32_at s.ctf r)) e bad.1)

    behind : SiteAt (NamesNothing s) (in_labels s.ctf ++ in_types s.ctf) p → SiteAt (NamesNothing s) (sites s.ctf) p
    behind a = any_there _ _ (behind_first s.ctf) (any_there _ _ (in_labels s.ctf ++ in_types s.ctf) a)

    at : NameStandsAt s.ctf p → SiteAt (NamesNothing s) (sites s.ctf) p
    at (inl (inl e)) = any_here _ _ (behind_first s.ctf) (first 4 e)
    at (inl (inr e)) = any_there _ _ (behind_first s.ctf) (any_here _ _ (in_labels s.ctf ++ in_types s.ctf) (first 8 e))
    at (inr (inl l)) =
        let room = l.1 in
        behind (any_left _ (in_labels s.ctf) (in_types s.ctf) (label_site (NamesNothing s) s.ctf (36 + (fields s.ctf).lbloff) (((fields s.ctf).objtoff - (fields s.ctf).lbloff) / 8) p l.0 (omega arith) l.2 bad.1))
    at (inr (inr l)) =
        let r = l.0 in
        let is = l.3 in
        let found = record_site (NamesNothing s) s.ctf (36 + (fields s.ctf).typeoff) r.front r.part r.back r.rest 1 0 p r.cut.whole (types_stand s.ctf (r.front ++ r.part ∷ r.back) r.rest r.cut) (l.1, l.2, omega arith, bad.1) in
        let there = subst (λ (rs : List (Result Piece Fault)). SiteAt (NamesNothing s) (record_sites (36 + (fields s.ctf).typeoff) rs) p) (sym (types_cut s.ctf (r.front ++ r.part ∷ r.back) r.rest r.cut)) found in
        behind (any_right _ (in_labels s.ctf) (in_types s.ctf) there)
