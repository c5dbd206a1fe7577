-- What an update wrote is written again: its records and strings stay as they are.
use Rattle.std.proofs.Common.{◌≡◌, ℕ, zero, suc, ◌+◌, ◌/◌, ◌≤◌, Bool, true, false, cond, ltb, List, [], ◌∷◌, ◌++◌, length, map, take, Option, Some, None, Ok, refl, sym, ap, subst, ◌∙◌, arith}
use Rattle.std.specs.List.{AllByRecursion, before_first, filter, flat_map, position_or_len}
use Rattle.std.specs.Str.{bytes_eq}
use Rattle.std.proofs.lemmas.Bool.{ltb-false}
use Rattle.std.proofs.lemmas.Grind.{flat_map-append}
use Rattle.std.proofs.lemmas.List.{append_assoc, append-nil, drop_at, length-append, nil_from_length, take_at}
use Rattle.std.proofs.lemmas.List.Sums.{fold-append}
use Rattle.ctf_model.proofs.Alls.{all_joined, all_split}
use Rattle.ctf_model.proofs.Denoted.{denotes_said, one_dictionary}
use Rattle.ctf_model.proofs.KeptNames.{all_flat, all_kept, kept_of}
use Rattle.ctf_model.proofs.SoundDrafts.{life_sound}
use Rattle.ctf_model.proofs.WrittenDrafts.{draft_denoted}
use Rattle.ctf_model.proofs.WrittenParts.{IsLaid, laid}
use Rattle.ctf_model.specs.declared.sections.Section.TheVariants.{SLabels, SStrings, STypes}
use Rattle.ctf_model.specs.drafts.DraftLaws.{HoldsTogether, IsSound}
use Rattle.ctf_model.specs.drafts.Drafts.{Draft, content, rollback}
use Rattle.ctf_model.specs.drafts.Fitting.{Fits, FitsBody, FitsEnumerator, FitsLabel, FitsMember, IsName}
use Rattle.ctf_model.specs.format.Dictionary.{Dictionary, Label, said_by}
use Rattle.ctf_model.specs.format.Header.{section}
use Rattle.ctf_model.specs.format.Term.{Body, Enumerator, Member, Term}
use Rattle.ctf_model.specs.format.Term as term
use Rattle.ctf_model.specs.rules.Chains.{by_value, declarator}
use Rattle.ctf_model.specs.rules.Faults.{or_later}
use Rattle.ctf_model.specs.writing.WritingLaws.{IsKept}
use Rattle.ctf_model.specs.writing.Written.{bytes_of, bytes_unless, deep_by, labels_written, lists_of, records_written, unwritten, written}
use Rattle.ctf_model.specs.writing.WrittenNames.{closed_name, is_empty, listed_names, name_reference, names_of, string_bytes, strings_of, used_names}
use Rattle.ctf_model.specs.writing.WrittenRecords.{enumerator_bytes, member_bytes, record_bytes, variant_bytes}
use Rattle.ctf_writer.specs.Before.{IsBefore, later_uses}
use Rattle.ctf_writer.specs.Offsets.{with_name}
use Rattle.ctf_writer.specs.TableNames.{names_within}
use Rattle.ctf_writer.specs.Uses.{with_names}
use Rattle.ctf_writer.specs.declared.before.Before.{Before}
use Rattle.ctf_writer.proofs.Distinct.{added, each_once, fresh, kept}
use Rattle.ctf_writer.proofs.Lengths.{bytes_len, labels_len}
use Rattle.ctf_writer.proofs.Placing.{first_among}
use Rattle.ctf_writer.proofs.TableNames.{names_again}

-- ---- nothing was written

pub nothing_before : (d : Dictionary) (b : Before) → b.records.now ≡ [] → b.strings.now ≡ 0 ∷ [] → b.count ≡ 0 → IsBefore d b
unfolding strings_of used_names
nothing_before d b records strings count =
    let names : with_names [] (later_uses d 0) ≡ strings_of d = each_once (later_uses d 0) in
    record {
      count = omega (arith, count);
      whole = rw strings refl;
      short = rw strings (omega arith);
      names = rw (strings, count) names;
      records = rw (records, count) refl;
      few = rw records (omega arith);
    }

-- ---- records with more names

reference_stays : (names more : List (List ℕ)) (text : List ℕ) → IsKept names text → name_reference (names ++ more) text ≡ name_reference names text
unfolding name_reference
reference_stays names more text has = at (is_empty text) refl
  where
    at : (b : Bool) → is_empty text ≡ b → name_reference (names ++ more) text ≡ name_reference names text
    at true e = rw e refl
    at false e = rw (e, first_among (bytes_eq text) names more (has e)) refl

members_stay : (names more : List (List ℕ)) (size : ℕ) (ms : List Member) → AllByRecursion (IsKept names) (map (λ m. m.name) ms) → flat_map (member_bytes (names ++ more) size) ms ≡ flat_map (member_bytes names size) ms
members_stay names more size [] h = refl
members_stay names more size (m ∷ ms) h = rw (reference_stays names more m.name h.0, members_stay names more size ms h.1) refl

enumerators_stay : (names more : List (List ℕ)) (es : List Enumerator) → AllByRecursion (IsKept names) (map (λ e. e.name) es) → flat_map (enumerator_bytes (names ++ more)) es ≡ flat_map (enumerator_bytes names) es
enumerators_stay names more [] h = refl
enumerators_stay names more (e ∷ es) h = rw (reference_stays names more e.name h.0, enumerators_stay names more es h.1) refl

variant_stays : (names more : List (List ℕ)) (x : Body) → AllByRecursion (IsKept names) (listed_names x) → variant_bytes (names ++ more) x ≡ variant_bytes names x
variant_stays names more term.unknown h = refl
variant_stays names more (term.integer s) h = refl
variant_stays names more (term.float s) h = refl
variant_stays names more (term.pointer t) h = refl
variant_stays names more (term.array e) h = refl
variant_stays names more (term.function ret args) h = refl
variant_stays names more (term.struct size ms) h = members_stay names more size ms h
variant_stays names more (term.union size ms) h = members_stay names more size ms h
variant_stays names more (term.enum size es) h = enumerators_stay names more es h
variant_stays names more (term.forward tag) h = refl
variant_stays names more (term.typedef t) h = refl
variant_stays names more (term.volatile t) h = refl
variant_stays names more (term.const t) h = refl
variant_stays names more (term.restrict t) h = refl

record_stays : (names more : List (List ℕ)) (x : Term) → AllByRecursion (IsKept names) (names_of x) → record_bytes (names ++ more) x ≡ record_bytes names x
unfolding record_bytes
record_stays names more x h = rw (reference_stays names more x.name h.0, variant_stays names more x.body h.1) refl

records_stay : (names more : List (List ℕ)) (xs : List Term) → AllByRecursion (λ x. AllByRecursion (IsKept names) (names_of x)) xs → flat_map (record_bytes (names ++ more)) xs ≡ flat_map (record_bytes names) xs
records_stay names more [] h = refl
records_stay names more (x ∷ xs) h = rw (record_stays names more x h.0, records_stay names more xs h.1) refl

-- ---- no name has a zero byte

member_names : (size : ℕ) (ms : List Member) → AllByRecursion (FitsMember size) ms → AllByRecursion IsName (map (λ m. m.name) ms)
member_names size [] h = tt
member_names size (m ∷ ms) h = (h.0.name, member_names size ms h.1)

enumerator_names : (es : List Enumerator) → AllByRecursion FitsEnumerator es → AllByRecursion IsName (map (λ e. e.name) es)
enumerator_names [] h = tt
enumerator_names (e ∷ es) h = (h.0.name, enumerator_names es h.1)

body_names : (x : Body) → FitsBody x → AllByRecursion IsName (listed_names x)
body_names term.unknown h = tt
body_names (term.integer s) h = tt
body_names (term.float s) h = tt
body_names (term.pointer t) h = tt
body_names (term.array e) h = tt
body_names (term.function ret args) h = tt
body_names (term.struct size ms) h = member_names size ms h.each
body_names (term.union size ms) h = member_names size ms h.each
body_names (term.enum size es) h = enumerator_names es h.each
body_names (term.forward tag) h = tt
body_names (term.typedef t) h = tt
body_names (term.volatile t) h = tt
body_names (term.const t) h = tt
body_names (term.restrict t) h = tt

term_names : (xs : List Term) → AllByRecursion Fits xs → AllByRecursion IsName (flat_map names_of xs)
term_names [] h = tt
term_names (x ∷ xs) h = all_joined IsName (names_of x) (flat_map names_of xs) (h.0.name, body_names x.body h.0.body) (term_names xs h.1)

label_names : (labels : List Label) → AllByRecursion FitsLabel labels → AllByRecursion IsName (map (λ label. label.name) labels)
label_names [] h = tt
label_names (label ∷ labels) h = (h.0.name, label_names labels h.1)

strings_named : (d : Draft) → HoldsTogether d → AllByRecursion IsName (strings_of (content d))
unfolding strings_of used_names
strings_named d ok =
    let e = content d in
    all_kept IsName (e.parlabel ∷ e.parname ∷ (map (λ label. label.name) e.labels ++ flat_map names_of e.terms))
    (ok.parlabel, (ok.parname, all_joined IsName (map (λ label. label.name) e.labels) (flat_map names_of e.terms) (label_names e.labels ok.labels) (term_names e.terms ok.terms)))

-- ---- where the parts of written bytes are

record IsWrittenOut (d : Dictionary) (bytes : List ℕ) : Type 0 where
  same : bytes_of d ≡ bytes
  small : length (bytes_of d) ≤ 67108864

written_out : (d : Dictionary) (bytes : List ℕ) → written d ≡ Ok bytes → IsWrittenOut d bytes
unfolding written unwritten
written_out d bytes e = at (deep_by by_value d) (deep_by declarator d) (ltb 67108864 (length (bytes_of d))) refl e
  where
    at : (v w : Option ℕ) (b : Bool) → ltb 67108864 (length (bytes_of d)) ≡ b
        → bytes_unless (or_later 15 v (or_later 16 w (or_later 47 (cond b (Some 0) None) None))) (bytes_of d) ≡ Ok bytes → IsWrittenOut d bytes
    at (Some p) w b h e = absurd cc
    at None (Some p) b h e = absurd cc
    at None None true h e = absurd cc
    at None None false h e = record { same = cc; small = ltb-false 67108864 (length (bytes_of d)) h }

short_front : (names : List (List ℕ)) (k : ℕ) → length (flat_map closed_name (take k names)) ≤ length (flat_map closed_name names)
short_front names zero = omega arith
short_front [] (suc k) = omega arith
short_front (name ∷ names) (suc k) =
    let more = short_front names k in
    let one = length-append (closed_name name) (flat_map closed_name (take k names)) in
    let all = length-append (closed_name name) (flat_map closed_name names) in
    omega (arith, more, one, all)

reference_short : (names : List (List ℕ)) (text : List ℕ) → name_reference names text ≤ length (string_bytes names)
unfolding name_reference
reference_short names text = at (is_empty text)
  where
    at : (b : Bool) → cond b 0 (length (string_bytes (before_first (bytes_eq text) names))) ≤ length (string_bytes names)
    at true = omega arith
    at false = let short = short_front names (position_or_len (bytes_eq text) names) in omega (arith, short)

laid_out : (d : Dictionary) (bytes : List ℕ) → written d ≡ Ok bytes → IsLaid (name_reference (strings_of d) d.parlabel) (name_reference (strings_of d) d.parname) bytes (labels_written d) (records_written d) (string_bytes (strings_of d))
unfolding bytes_of
laid_out d bytes e =
    let out = written_out d bytes e in
    let ns = strings_of d in
    let ls = labels_written d in
    let rs = records_written d in
    let ss = string_bytes (strings_of d) in
    let len = bytes_len d in
    let small = out.small in
    let first = reference_short (strings_of d) d.parlabel in
    let second = reference_short (strings_of d) d.parname in
    subst (λ (b : List ℕ). IsLaid (name_reference ns d.parlabel) (name_reference ns d.parname) b ls rs ss) out.same
    (laid (name_reference ns d.parlabel) (name_reference ns d.parname) ls rs ss (omega (arith, len, small, first)) (omega (arith, len, small, second)) (omega (arith, len, small)))

-- ---- the last update

nothing_new : (names uses : List (List ℕ)) → AllByRecursion (IsKept names) uses → with_names names uses ≡ names
nothing_new names [] h = refl
nothing_new names (text ∷ uses) h = rw (one (is_empty text) refl) (nothing_new names uses h.1)
  where
    one : (b : Bool) → is_empty text ≡ b → with_name names text ≡ names
    one true e = rw e refl
    one false e = rw (e, h.0 e) refl

module _ (d : Draft) (bytes : List ℕ) (sound : IsSound d) (is : written (content (rollback d)) ≡ Ok bytes) (full : length (section bytes SLabels) / 8 ≡ length (content d).labels) where
  parts : IsLaid (name_reference (strings_of (content (rollback d))) d.parlabel) (name_reference (strings_of (content (rollback d))) d.parname) bytes (labels_written (content (rollback d))) (records_written (content (rollback d))) (string_bytes (strings_of (content (rollback d))))
  parts = laid_out (content (rollback d)) bytes is

  -- no label was added
  no_labels : d.pending.labels ≡ []
  unfolding labels_written
  no_labels =
      let count = labels_len (strings_of (content (rollback d))) (content (rollback d)).labels in
      let there = ap (λ (b : List ℕ). length b) parts.labels in
      let old : length (content (rollback d)).labels ≡ length d.updated.labels = ap (λ (ls : List Label). length ls) (append-nil d.updated.labels) in
      let all : length (content d).labels ≡ length d.updated.labels + length d.pending.labels = length-append d.updated.labels d.pending.labels in
      nil_from_length d.pending.labels (omega (arith, count, there, old, all, full))

  same_labels : (content d).labels ≡ (content (rollback d)).labels
  same_labels = ap (λ (ls : List Label). d.updated.labels ++ ls) no_labels

  more_uses : used_names (content d) ≡ used_names (content (rollback d)) ++ flat_map names_of d.pending.terms
  unfolding used_names
  more_uses =
      let old = map (λ (l : Label). l.name) (content (rollback d)).labels in
      ap (λ (ls : List Label). d.parlabel ∷ d.parname ∷ (map (λ (l : Label). l.name) ls ++ flat_map names_of (d.updated.terms ++ d.pending.terms))) same_labels
      ∙ ap (λ (ns : List (List ℕ)). d.parlabel ∷ d.parname ∷ (old ++ ns)) (flat_map-append names_of d.updated.terms d.pending.terms)
      ∙ ap (λ (ns : List (List ℕ)). d.parlabel ∷ d.parname ∷ ns) (sym (append_assoc old (flat_map names_of d.updated.terms) (flat_map names_of d.pending.terms)))
      ∙ ap (λ (ts : List Term). d.parlabel ∷ d.parname ∷ ((old ++ flat_map names_of ts) ++ flat_map names_of d.pending.terms)) (sym (append-nil d.updated.terms))

  more_strings : strings_of (content d) ≡ with_names (strings_of (content (rollback d))) (flat_map names_of d.pending.terms)
  unfolding strings_of
  more_strings =
      sym (each_once (used_names (content d))) ∙ ap (with_names []) more_uses ∙ fold-append with_name [] (used_names (content (rollback d))) (flat_map names_of d.pending.terms)
      ∙ ap (λ (ns : List (List ℕ)). with_names ns (flat_map names_of d.pending.terms)) (each_once (used_names (content (rollback d))))

  kept_all : AllByRecursion (IsKept (strings_of (content (rollback d)))) (used_names (content (rollback d)))
  unfolding strings_of
  kept_all = kept_of (used_names (content (rollback d)))

  kept_front : AllByRecursion (IsKept (strings_of (content (rollback d)))) (d.parlabel ∷ d.parname ∷ map (λ l. l.name) (content d).labels)
  unfolding used_names
  kept_front =
      let old = map (λ (l : Label). l.name) (content (rollback d)).labels in
      let labels = (all_split (IsKept (strings_of (content (rollback d)))) old (flat_map names_of (content (rollback d)).terms) kept_all.1.1).0 in
      (kept_all.0, (kept_all.1.0, subst (λ (ls : List Label). AllByRecursion (IsKept (strings_of (content (rollback d)))) (map (λ (l : Label). l.name) ls)) (sym same_labels) labels))

  kept_terms : AllByRecursion (λ x. AllByRecursion (IsKept (strings_of (content (rollback d)))) (names_of x)) d.updated.terms
  unfolding used_names
  kept_terms =
      let old = map (λ (l : Label). l.name) (content (rollback d)).labels in
      let terms = (all_split (IsKept (strings_of (content (rollback d)))) old (flat_map names_of (content (rollback d)).terms) kept_all.1.1).1 in
      subst (AllByRecursion (λ x. AllByRecursion (IsKept (strings_of (content (rollback d)))) (names_of x))) (append-nil d.updated.terms) (all_flat (IsKept (strings_of (content (rollback d)))) names_of (content (rollback d)).terms terms)

  count_is : length (said_by (lists_of bytes)).terms ≡ length d.updated.terms
  count_is =
      let denotes = draft_denoted (rollback d) bytes (life_sound d sound).0 is in
      let said = one_dictionary (lists_of bytes) (said_by (lists_of bytes)) (content (rollback d)) (denotes_said (lists_of bytes) denotes.faultless) denotes in
      ap (λ (e : Dictionary). length e.terms) said ∙ ap (λ (ts : List Term). length ts) (append-nil d.updated.terms)

  later_stay : (count : ℕ) → count ≡ length d.updated.terms → with_names (strings_of (content (rollback d))) (later_uses (content d) count) ≡ strings_of (content d)
  later_stay count e =
      let ns = strings_of (content (rollback d)) in
      let front = d.parlabel ∷ d.parname ∷ map (λ (l : Label). l.name) (content d).labels in
      ap (λ (ts : List Term). with_names ns (d.parlabel ∷ d.parname ∷ (map (λ (l : Label). l.name) (content d).labels ++ flat_map names_of ts))) (drop_at d.updated.terms d.pending.terms count (sym e))
      ∙ fold-append with_name ns front (flat_map names_of d.pending.terms)
      ∙ ap (λ (n : List (List ℕ)). with_names n (flat_map names_of d.pending.terms)) (nothing_new ns front kept_front)
      ∙ sym more_strings

  records_are_old : (count : ℕ) → count ≡ length d.updated.terms → records_written (content (rollback d)) ≡ flat_map (record_bytes (strings_of (content d))) (take count (content d).terms)
  unfolding records_written
  records_are_old count e =
      let ns = strings_of (content (rollback d)) in
      let more = filter (fresh ns) (kept (flat_map names_of d.pending.terms)) in
      ap (flat_map (record_bytes ns)) (append-nil d.updated.terms)
      ∙ sym (records_stay ns more d.updated.terms kept_terms)
      ∙ ap (λ (n : List (List ℕ)). flat_map (record_bytes n) d.updated.terms) (sym (more_strings ∙ added (flat_map names_of d.pending.terms) ns))
      ∙ ap (flat_map (record_bytes (strings_of (content d)))) (sym (take_at d.updated.terms d.pending.terms count (sym e)))

  pub all_before : (b : Before) → b.records.now ≡ section bytes STypes → b.strings.now ≡ section bytes SStrings → b.count ≡ length (said_by (lists_of bytes)).terms → IsBefore (content d) b
  all_before b r s n =
      let ns = strings_of (content (rollback d)) in
      let count = n ∙ count_is in
      let strings = s ∙ parts.strings in
      let records = r ∙ parts.types in
      let within = ap names_within strings ∙ names_again ns (strings_named (rollback d) sound.updated) in
      let out = written_out (content (rollback d)) bytes is in
      let small = out.small in
      let whole = bytes_len (content (rollback d)) in
      let all : length (content d).terms ≡ length d.updated.terms + length d.pending.terms = length-append d.updated.terms d.pending.terms in
      let long = ap (λ (x : List ℕ). length x) strings in
      let wide = ap (λ (x : List ℕ). length x) records in
      record {
        count = omega (arith, count, all);
        whole = strings ∙ ap string_bytes (sym within);
        short = omega (arith, long, whole, small);
        names = ap (λ (m : List (List ℕ)). with_names m (later_uses (content d) b.count)) within ∙ later_stay b.count count;
        records = records ∙ records_are_old b.count count;
        few = omega (arith, wide, whole, small);
      }
