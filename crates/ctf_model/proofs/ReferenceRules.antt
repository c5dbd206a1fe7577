-- The rule of references agrees with its fact.
use Rattle.std.proofs.Common.{◌≡◌, ℕ, ◌+◌, ◌≤◌, Bool, true, false, cond, eqb, List, [], ◌∷◌, ◌++◌, length, Option, Some, None, Result, Err, refl, sym, ap, subst, ◌∙◌, arith, ◌⊎◌, inl, inr}
use Rattle.std.specs.Prelude.{◌||◌, Any}
use Rattle.std.specs.Bool.{Decides}
use Rattle.std.specs.List.{list_any, AllByRecursion}
use Rattle.std.specs.Option.{option_map}
use Rattle.std.proofs.lemmas.Bool.{eqb-true, eqb-false, ne_eqb, not-true, leb-true, le-leb, and_parts, or_cases, or_right}
use Rattle.std.proofs.lemmas.List.Folds.{Any-from_list_any, list_any-from_Any}
use Rattle.std.proofs.lemmas.Option.{same_Some}
use Rattle.ctf_model.specs.format.Bytes.{u32_at}
use Rattle.ctf_model.specs.declared.faults.Fault.{Fault}
use Rattle.ctf_model.specs.declared.kinds.Kind.{Kind}
use Rattle.ctf_model.specs.declared.kinds.Kind.TheVariants.{KUnknown, KInteger, KFloat, KPointer, KArray, KFunction, KStruct, KUnion, KEnum, KForward, KTypedef, KVolatile, KConst, KRestrict}
use Rattle.ctf_model.specs.declared.numbers.Place.{Place}
use Rattle.ctf_model.specs.declared.numbers.Place.TheVariants.{Nowhere, Own, Parents}
use Rattle.ctf_model.specs.declared.sections.Section.TheVariants.{STypes}
use Rattle.ctf_model.specs.rules.Faults.{first_misnaming, bad_reference, types}
use Rattle.ctf_model.specs.format.Header.{fields, is_child, section}
use Rattle.ctf_model.specs.format.Laws.{pieces}
use Rattle.ctf_model.specs.format.Lists.{Lists, tables}
use Rattle.ctf_model.specs.format.Name.{Tables, name}
use Rattle.ctf_model.specs.format.Record.{kind, field, is_long, is_root}
use Rattle.ctf_model.specs.rules.References.{references, is_missing, is_missing_at, is_forward, has_long_tag, is_misnaming}
use Rattle.ctf_model.specs.rules.Rules.{IsBroken, Keeps, IsMissing, IsMissingAt, Misnames, BadReference}
use Rattle.ctf_model.specs.format.Section.{Piece, IsCut, stop_code}
use Rattle.ctf_model.specs.format.SpelledTypes.{is_short_kind, HasStrayMark}
use Rattle.ctf_model.specs.format.Spelling.{◌>>=◌, arguments, body_of, term_of}
use Rattle.ctf_model.proofs.SpelledRead.{says_of, spells_of}
use Rattle.ctf_model.specs.format.Term.{Body, Term}
use Rattle.ctf_model.specs.format.Term as term
use Rattle.ctf_model.specs.spaces.TypePlaces.{place}
use Rattle.ctf_model.proofs.Anywhere.{any_map, all_map}
use Rattle.ctf_model.proofs.Cut.{one_cut}
use Rattle.ctf_model.proofs.FirstFault.{Agrees, agrees_as}
use Rattle.ctf_model.proofs.RecordRules.{kept_records, length_all, types_cut}
use Rattle.ctf_model.proofs.Spelled.{Says}
use Rattle.ctf_model.proofs.SpelledSection.{parts_said, few_records}

-- ---- tests and facts

pub missing_true : (child : Bool) (count n : ℕ) → is_missing child count n ≡ true → IsMissing child count n
missing_true child count n e = at (place child n) e
  where
    at : (p : Place) → is_missing_at count n p ≡ true → IsMissingAt count n p
    at Nowhere e = eqb-false n 0 (not-true (eqb n 0) e)
    at (Own i) e = leb-true count i e
    at (Parents i) e = absurd cc

pub true_missing : (child : Bool) (count n : ℕ) → IsMissing child count n → is_missing child count n ≡ true
true_missing child count n h = at (place child n) h
  where
    at : (p : Place) → IsMissingAt count n p → is_missing_at count n p ≡ true
    at Nowhere h = let e = ne_eqb n 0 h in rw e refl
    at (Own i) h = le-leb count i h
    at (Parents i) h = absurd h

forward_true : (k : Option Kind) → is_forward k ≡ true → k ≡ Some KForward
forward_true None e = absurd cc
forward_true (Some KUnknown) e = absurd cc
forward_true (Some KInteger) e = absurd cc
forward_true (Some KFloat) e = absurd cc
forward_true (Some KPointer) e = absurd cc
forward_true (Some KArray) e = absurd cc
forward_true (Some KFunction) e = absurd cc
forward_true (Some KStruct) e = absurd cc
forward_true (Some KUnion) e = absurd cc
forward_true (Some KEnum) e = absurd cc
forward_true (Some KForward) e = refl
forward_true (Some KTypedef) e = absurd cc
forward_true (Some KVolatile) e = absurd cc
forward_true (Some KConst) e = absurd cc
forward_true (Some KRestrict) e = absurd cc

-- ---- the mark of the long form in kinds without it

-- whether a record has it is decidable
stray_decided : (b : List ℕ) → HasStrayMark b ⊎ (¬ HasStrayMark b)
stray_decided b = at (kind b) refl
  where
    short : (k : Kind) → kind b ≡ Some k → (s : Bool) → is_short_kind k ≡ s → (m : Bool) → eqb (field b) 0xffff ≡ m → HasStrayMark b ⊎ (¬ HasStrayMark b)
    short k e true is true mark = inl (record { of = k; known = e; short = is; mark = eqb-true (field b) 0xffff mark })
    short k e true is false mark = inr (λ h. eqb-false (field b) 0xffff mark h.mark)
    short k e false is m mark = inr (λ h. let same : k ≡ h.of = same_Some k h.of (sym e ∙ h.known) in let short : is_short_kind k ≡ true = ap is_short_kind same ∙ h.short in absurd cc)

    at : (o : Option Kind) → kind b ≡ o → HasStrayMark b ⊎ (¬ HasStrayMark b)
    at None e = inr (λ h. let known = h.known in absurd cc)
    at (Some k) e = short k e (is_short_kind k) refl (eqb (field b) 0xffff) refl

-- a forward with the mark passes the test of its tag
stray_forward : (b : List ℕ) → kind b ≡ Some KForward → field b ≡ 0xffff → has_long_tag b ≡ true
stray_forward b e mark = rw (e, mark) refl

forward_stray : (b : List ℕ) → has_long_tag b ≡ true → HasStrayMark b
forward_stray b e =
    let both = and_parts (is_forward (kind b)) (is_long b) e in
    record { of = KForward; known = forward_true (kind b) both.0; short = refl; mark = eqb-true (field b) 0xffff both.1 }

-- the type in the field is the first that the type refers to
abbrev FirstOf : List ℕ → Term → Type 0
FirstOf b x = (more : List ℕ) × (references x.body ≡ field b ∷ more)

-- the type that a record spells, given its name and its body
abbrev said_with : List ℕ → Option (List ℕ) → Option Body → Option Term
said_with b text body = text >>= (λ n. body >>= (λ said. Some (record { name = n; root = is_root b; body = said })))

first_named : (b : List ℕ) (x : Term) (text : Option (List ℕ)) (body : Body) → said_with b text (Some body) ≡ Some x → (more : List ℕ) → references body ≡ field b ∷ more → FirstOf b x
first_named b x None body e more first = absurd cc
first_named b x (Some n) body e more first = let same = same_Some _ x e in (more, ap (λ (y : Term). references y.body) (sym same) ∙ first)

first_of_function : (b : List ℕ) (x : Term) (text : Option (List ℕ)) (args : Option (List ℕ)) → said_with b text (option_map (term.function (field b)) args) ≡ Some x → FirstOf b x
first_of_function b x None None e = absurd cc
first_of_function b x (Some n) None e = absurd cc
first_of_function b x text (Some ns) e = first_named b x text (term.function (field b) ns) e ns refl

-- a kind with only the short form is a forward, or refers first to the type in its field
first_reference : (t : Tables) (b : List ℕ) (x : Term) (k : Kind) → is_short_kind k ≡ true → said_with b (name t (u32_at b 0)) (body_of t b k) ≡ Some x → (k ≡ KForward) ⊎ FirstOf b x
first_reference t b x KUnknown short e = absurd cc
first_reference t b x KInteger short e = absurd cc
first_reference t b x KFloat short e = absurd cc
first_reference t b x KPointer short e = inr (first_named b x (name t (u32_at b 0)) (term.pointer (field b)) e [] refl)
first_reference t b x KArray short e = absurd cc
first_reference t b x KFunction short e = inr (first_of_function b x (name t (u32_at b 0)) (arguments b) e)
first_reference t b x KStruct short e = absurd cc
first_reference t b x KUnion short e = absurd cc
first_reference t b x KEnum short e = absurd cc
first_reference t b x KForward short e = inl refl
first_reference t b x KTypedef short e = inr (first_named b x (name t (u32_at b 0)) (term.typedef (field b)) e [] refl)
first_reference t b x KVolatile short e = inr (first_named b x (name t (u32_at b 0)) (term.volatile (field b)) e [] refl)
first_reference t b x KConst short e = inr (first_named b x (name t (u32_at b 0)) (term.const (field b)) e [] refl)
first_reference t b x KRestrict short e = inr (first_named b x (name t (u32_at b 0)) (term.restrict (field b)) e [] refl)

-- the mark names a missing type in any dictionary
mark_missing : (child : Bool) (count : ℕ) → count ≤ 32766 → is_missing child count 0xffff ≡ true
mark_missing false count few = le-leb count 65534 (omega arith)
mark_missing true count few = le-leb count 32766 few

-- so a record with the mark passes the test
stray_misnames : (t : Tables) (child : Bool) (count : ℕ) (b : List ℕ) (x : Term) → count ≤ 32766 → term_of t b ≡ Some x → HasStrayMark b → (has_long_tag b || list_any (is_missing child count) (references x.body)) ≡ true
unfolding term_of
stray_misnames t child count b x few e h = at (first_reference t b x h.of h.short (let known = h.known in rw known at e))
  where
    at : (h.of ≡ KForward) ⊎ FirstOf b x → (has_long_tag b || list_any (is_missing child count) (references x.body)) ≡ true
    at (inl forward) = let tag = stray_forward b (h.known ∙ ap (λ (k : Kind). Some k) forward) h.mark in rw tag refl
    at (inr first) =
        let here = ap (list_any (is_missing child count)) first.1 in
        let missing = ap (is_missing child count) h.mark ∙ mark_missing child count few in
        or_right (has_long_tag b) (list_any (is_missing child count) (references x.body)) (here ∙ (rw missing refl))

-- ---- one record

-- the test of a record that spells a type decides its fact
misnaming_decides : (t : Tables) (child : Bool) (count : ℕ) (b : List ℕ) (x : Term) → count ≤ 32766 → Says t b x → Decides (is_misnaming t child count b) (Misnames t child count b)
unfolding is_misnaming
misnaming_decides t child count b x few said = let says = said.says in rw says (λ e. to (or_cases (has_long_tag b) (list_any (is_missing child count) (references x.body)) e), from)
  where
    missing : list_any (is_missing child count) (references x.body) ≡ true → HasStrayMark b ⊎ (¬ HasStrayMark b) → Misnames t child count b
    missing e (inl stray) = inl stray
    missing e (inr form) = inr (x, spells_of t b x said.whole form said.says, any_map _ (IsMissing child count) (missing_true child count) (references x.body) (Any-from_list_any (is_missing child count) (references x.body) e))

    to : (has_long_tag b ≡ true) ⊎ (list_any (is_missing child count) (references x.body) ≡ true) → Misnames t child count b
    to (inl e) = inl (forward_stray b e)
    to (inr e) = missing e (stray_decided b)

    from : Misnames t child count b → (has_long_tag b || list_any (is_missing child count) (references x.body)) ≡ true
    from (inl stray) = stray_misnames t child count b x few said.says stray
    from (inr m) =
        let same : m.0 ≡ x = same_Some m.0 x (sym (says_of t b m.0 m.1) ∙ said.says) in
        let any = subst (λ (y : Term). Any (IsMissing child count) (references y.body)) same m.2 in
        or_right (has_long_tag b) (list_any (is_missing child count) (references x.body)) (list_any-from_Any (is_missing child count) (references x.body) (any_map (IsMissing child count) _ (true_missing child count) (references x.body) any))

-- ---- the records in order

-- record number `p` is one of these, and the fact holds of it
pub record IsAmong (Fact : List ℕ → Type 0) (parts : List (List ℕ)) (index p : ℕ) : Type 0 where
  pub front : List (List ℕ)
  pub part : List ℕ
  pub back : List (List ℕ)
  pub all : parts ≡ front ++ part ∷ back
  pub number : p ≡ index + length front
  pub fact : Fact part

-- there is none in an empty list
none_among : (Fact : List ℕ → Type 0) (index p : ℕ) → IsAmong Fact [] index p → ⊥
none_among Fact index p a = at a.front a.all
  where
    at : (front : List (List ℕ)) → [] ≡ front ++ a.part ∷ a.back → ⊥
    at [] e = absurd cc
    at (f ∷ fs) e = absurd cc

-- it is the first, or one of the others
split_among : (Fact : List ℕ → Type 0) (part : List ℕ) (parts : List (List ℕ)) (index p : ℕ) → IsAmong Fact (part ∷ parts) index p → Fact part ⊎ IsAmong Fact parts (index + 1) p
split_among Fact part parts index p a = at a.front a.all a.number
  where
    at : (front : List (List ℕ)) → part ∷ parts ≡ front ++ a.part ∷ a.back → p ≡ index + length front → Fact part ⊎ IsAmong Fact parts (index + 1) p
    at [] e is = let same : a.part ≡ part = cc in inl (subst Fact same a.fact)
    at (f ∷ fs) e is = let rest : parts ≡ fs ++ a.part ∷ a.back = cc in inr (record { front = fs; part = a.part; back = a.back; all = rest; number = omega arith; fact = a.fact })

later_among : (Fact : List ℕ → Type 0) (part : List ℕ) (parts : List (List ℕ)) (index p : ℕ) → IsAmong Fact parts (index + 1) p → IsAmong Fact (part ∷ parts) index p
later_among Fact part parts index p a = let is = a.number in record { front = part ∷ a.front; part = a.part; back = a.back; all = ap (λ (ps : List (List ℕ)). part ∷ ps) a.all; number = omega arith; fact = a.fact }

-- the first record that fails is at the least place of all that do
misnaming_agrees : (t : Tables) (child : Bool) (count : ℕ) (parts : List (List ℕ)) (rest : List ℕ) (index at : ℕ) → AllByRecursion (λ part. Decides (is_misnaming t child count part) (Misnames t child count part)) parts → Agrees (first_misnaming t child count (pieces index at parts rest)) (IsAmong (Misnames t child count) parts index)
unfolding first_misnaming
misnaming_agrees t child count [] rest index at d = go (eqb (length rest) 0)
  where
    go : (b : Bool) → Agrees (first_misnaming t child count (cond b [] (Err (record { code = stop_code rest; place = index }) ∷ []))) (IsAmong (Misnames t child count) [] index)
    go true = none_among (Misnames t child count) index
    go false = none_among (Misnames t child count) index
misnaming_agrees t child count (part ∷ parts) rest index at d = go (is_misnaming t child count part) d.0 (first_misnaming t child count (pieces (index + 1) (at + length part) parts rest)) (misnaming_agrees t child count parts rest (index + 1) (at + length part) d.1)
  where
    Fact : List ℕ → Type 0
    Fact = Misnames t child count

    later_only : (p : ℕ) → (Fact part → ⊥) → IsAmong Fact (part ∷ parts) index p → IsAmong Fact parts (index + 1) p
    later_only p no_fact a = split (split_among Fact part parts index p a)
      where
        split : Fact part ⊎ IsAmong Fact parts (index + 1) p → IsAmong Fact parts (index + 1) p
        split (inl h) = absurd (no_fact h)
        split (inr b) = b

    go : (b : Bool) → Decides b (Fact part) → (later : Option ℕ) → Agrees later (IsAmong Fact parts (index + 1)) → Agrees (cond b (Some index) later) (IsAmong Fact (part ∷ parts) index)
    go true d later h = (record { front = []; part = part; back = parts; all = refl; number = omega arith; fact = d.0 refl }, λ q lt a. let is = a.number in absurd (omega arith))
    go false d None h = λ p a. h p (later_only p (λ fact. let e = d.1 fact in absurd cc) a)
    go false d (Some p) h = (later_among Fact part parts index p h.0, λ q lt a. h.1 q lt (later_only q (λ fact. let e = d.1 fact in absurd cc) a))

-- if the earlier rules are kept, the rule agrees with its fact
pub bad_reference_agrees : (s : Lists) → Keeps s 14 → Agrees (bad_reference s) (IsBroken s 14)
unfolding bad_reference
bad_reference_agrees s keeps = by_cut (kept_records s 14 (omega arith) keeps)
  where
    Fact : ℕ → List ℕ → Type 0
    Fact count = Misnames (tables s) (is_child (fields s.ctf)) count

    by_cut : ((parts : List (List ℕ)) × (rest : List ℕ) × IsCut (section s.ctf STypes) parts rest × (length rest ≡ 0)) → Agrees (first_misnaming (tables s) (is_child (fields s.ctf)) (length (types s.ctf)) (types s.ctf)) (IsBroken s 14)
    by_cut r =
        let same = types_cut s.ctf r.0 r.1 r.2 in
        let count : length (types s.ctf) ≡ length r.0 = ap (λ (rs : List (Result Piece Fault)). length rs) same ∙ length_all r.0 r.1 1 0 r.3 in
        let few : length r.0 ≤ 32766 = few_records s 14 (omega arith) keeps r.0 r.1 r.2 in
        let decided = all_map _ _ (λ part said. misnaming_decides (tables s) (is_child (fields s.ctf)) (length r.0) part said.0 few said.1) r.0 (parts_said s 14 (omega arith) keeps r.0 r.1 r.2) in
        let found = misnaming_agrees (tables s) (is_child (fields s.ctf)) (length r.0) r.0 r.1 1 0 decided in
        rw (count, same) (agrees_as _ (IsAmong (Fact (length r.0)) r.0 1) (IsBroken s 14) (to r.0 r.1 r.2) (from r.0 r.1 r.2) found)
      where
        to : (parts : List (List ℕ)) (rest : List ℕ) → IsCut (section s.ctf STypes) parts rest → (p : ℕ) → IsAmong (Fact (length parts)) parts 1 p → BadReference s p
        to parts rest cut p a =
            let is = a.number in
            (record { front = a.front; part = a.part; back = a.back; rest = rest; cut = subst (λ (ps : List (List ℕ)). IsCut (section s.ctf STypes) ps rest) a.all cut }, omega arith, subst (λ (ps : List (List ℕ)). Fact (length ps) a.part) a.all a.fact)

        from : (parts : List (List ℕ)) (rest : List ℕ) → IsCut (section s.ctf STypes) parts rest → (p : ℕ) → BadReference s p → IsAmong (Fact (length parts)) parts 1 p
        from parts rest cut p h =
            let r = h.0 in
            let is = h.1 in
            let all = (one_cut parts (r.front ++ r.part ∷ r.back) (section s.ctf STypes) (section s.ctf STypes) rest r.rest refl cut r.cut).0 in
            record { front = r.front; part = r.part; back = r.back; all = all; number = omega arith; fact = subst (λ (ps : List (List ℕ)). Fact (length ps) r.part) (sym all) h.2 }
