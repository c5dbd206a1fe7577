-- The members in a type are those in the struct or union that it resolves to.
use Rattle.std.proofs.Common.{◌≡◌, ℕ, suc, zero, ◌+◌, ◌-◌, ◌<◌, ◌≤◌, List, [], length, set, Option, Some, None, Result, Ok, Err, refl, sym, ap, subst, ◌∙◌, arith}
use Rattle.std.specs.Option.{option_map}
use Rattle.std.specs.Prelude.{IfSome, IsSome, flat_map, slice_get}
use Rattle.std.proofs.lemmas.Option.{same_Some}
use Rattle.ctf_c.proofs.names.Parts.{all_answered, filled_all, filled_member, one_there}
use Rattle.ctf_c.specs.Rowed.{lists_with}
use Rattle.ctf_c.specs.Visiting.{FillsOn, TellsIn, TellsVisited, Visits}
use Rattle.ctf_c.specs.declared.visits.GivenVisitRow.{GivenVisitRow}
use Rattle.ctf_check.proofs.Described.{own_spelled}
use Rattle.ctf_check.specs.CheckedView.{IsOwn, tables_of}
use Rattle.ctf_check.specs.declared.checked.Checked.{Checked}
use Rattle.ctf_records.specs.RecordView.{bytes_of}
use Rattle.ctf_records.specs.declared.record.Record.{Record}
use Rattle.ctf_model.specs.format.Spelling.{term_of}
use Rattle.ctf_c.specs.names.Holders.{lists_at}
use Rattle.ctf_c.specs.names.Visits.{Visited, inside, members_of, or_nothing, outermost, visit_of, placed_with, stands_for}
use Rattle.ctf_model.specs.declared.faults.Fault.{Fault}
use Rattle.ctf_model.specs.declared.faults.TheConstants.Fault.{WRONG_KIND}
use Rattle.ctf_model.specs.format.Lists.{Lists}
use Rattle.ctf_model.specs.format.Shown.{members_in, shown}
use Rattle.ctf_model.specs.format.Term.{Member, Term}
use Rattle.ctf_model.specs.opened.Open.{Open, space_in}
use Rattle.ctf_model.specs.opened.Questions.{if_there, members_answered, on_shape, shape_of}
use Rattle.ctf_model.specs.spaces.Space as spaces
use Rattle.ctf_model.specs.spaces.TypeNumbers.{or_no_type}
use Rattle.ctf_model.specs.spaces.TypePlaces.{place}
use Rattle.ctf_model.specs.symbols.SymbolQuestions.{or_refused}
use Rattle.ctf_model.specs.values.Values.{most_values}

-- ---- the members of a looked-up type

abbrev pub members_behind : Result Term Fault → List Member
members_behind found = or_nothing (on_shape members_answered (shape_of found))

listed_some : (o : Option (List Member)) (ms : List Member) → o ≡ Some ms → or_nothing (or_refused WRONG_KIND o) ≡ ms
listed_some o ms e = rw e refl

listed_none : (o : Option (List Member)) → o ≡ None → or_nothing (or_refused WRONG_KIND o) ≡ []
listed_none o e = rw e refl

pub behind_members : (o : Option Term) (ms : List Member) → option_map (λ (x : Term). members_in (shown x.body)) o ≡ Some (Some ms) → members_behind (or_no_type o) ≡ ms
behind_members None ms h = absurd cc
behind_members (Some x) ms h = listed_some (members_in (shown x.body)) ms (same_Some _ _ h)

pub behind_unlisted : (o : Option Term) → option_map (λ (x : Term). members_in (shown x.body)) o ≡ Some None → members_behind (or_no_type o) ≡ []
behind_unlisted None h = absurd cc
behind_unlisted (Some x) h = listed_none (members_in (shown x.body)) (same_Some _ _ h)

pub behind_refused : (found : Result Term Fault) (fault : Fault) → found ≡ Err fault → members_behind found ≡ []
behind_refused found fault e = rw e refl

-- ---- nested members

pub inside_end : (left : ℕ) (s : spaces.Space) (offset depth t : ℕ) → left ≡ 0 → inside left s offset depth t ≡ []
unfolding inside
inside_end zero s offset depth t e = refl
inside_end (suc k) s offset depth t e = absurd cc

inside_next : (k : ℕ) (s : spaces.Space) (offset depth t : ℕ) → inside (suc k) s offset depth t ≡ flat_map (placed_with (inside k s) (stands_for s t) offset depth) (members_of s (stands_for s t))
unfolding inside
inside_next k s offset depth t = refl

inside_is : (left k : ℕ) (s : spaces.Space) (offset depth t holder : ℕ) (ms : List Member) → left ≡ suc k → holder ≡ stands_for s t → members_of s holder ≡ ms
    → inside left s offset depth t ≡ flat_map (placed_with (inside k s) holder offset depth) ms
inside_is left k s offset depth t holder ms l h m =
    ap (λ n. inside n s offset depth t) l ∙ inside_next k s offset depth t
    ∙ ap (λ n. flat_map (placed_with (inside k s) n offset depth) (members_of s n)) (sym h)
    ∙ ap (flat_map (placed_with (inside k s) holder offset depth)) m

one_less : (left : ℕ) → (left ≡ 0 → ⊥) → left ≡ suc (left - 1)
one_less left some = omega (arith, some)

pub inside_members : (left : ℕ) (s : spaces.Space) (offset depth t holder : ℕ) (ms : List Member) → (left ≡ 0 → ⊥) → holder ≡ stands_for s t → members_of s holder ≡ ms
    → inside left s offset depth t ≡ flat_map (placed_with (inside (left - 1) s) holder offset depth) ms
inside_members left s offset depth t holder ms some h m = inside_is left (left - 1) s offset depth t holder ms (one_less left some) h m

pub inside_nothing : (left : ℕ) (s : spaces.Space) (offset depth t holder : ℕ) → (left ≡ 0 → ⊥) → holder ≡ stands_for s t → members_of s holder ≡ [] → inside left s offset depth t ≡ []
inside_nothing left s offset depth t holder some h m = inside_members left s offset depth t holder [] some h m

-- ---- a row of a member

pub told_one : (lists : Option Lists) (place : Member → Visited) (row : GivenVisitRow) (o : Option Member) (m : Member) → o ≡ Some m → IfSome o (λ x. TellsVisited lists (place x) row) → TellsVisited lists (place m) row
told_one lists place row o m e h = rw e at h

pub row_deeper : (lists : Option Lists) (holder offset depth : ℕ) (row : GivenVisitRow) (ms : List Member) (i : ℕ) → i < length ms → IfSome (slice_get ms i) (λ m. TellsVisited lists (visit_of holder offset depth m) row) → row.depth ≡ depth + 1
row_deeper lists holder offset depth row ms i lt h =
    let one = one_there ms i lt in
    (told_one lists (visit_of holder offset depth) row (slice_get ms i) one.0 one.1 h).4

same_inside : (k : ℕ) (s : spaces.Space) (v : Visited) (row : GivenVisitRow) → row.offset ≡ v.offset → row.depth ≡ v.depth → row.tnum ≡ v.tnum → inside k s row.offset row.depth row.tnum ≡ inside k s v.offset v.depth v.tnum
same_inside k s v row a b c = rw (a, b, c) refl

module _ (d : Open) (k holder offset depth : ℕ) (row : GivenVisitRow) (lists : Lists) (known : lists_with (Some d) holder ≡ Some lists) where
  -- a member, then those nested in it
  pub filled_with : (m : Member) (c e : ℕ) (now new : List GivenVisitRow) → c ≤ length now → TellsVisited (Some lists) (visit_of holder offset depth m) row
      → row.stands_for ≡ stands_for (space_in d) row.tnum
      → FillsOn (TellsIn (Some d)) (inside k (space_in d) row.offset row.depth row.tnum) (c + 1) e (set now c row) new
      → FillsOn (TellsIn (Some d)) (placed_with (inside k (space_in d)) holder offset depth m) c e now new
  filled_with m c e now new room tells stands rest =
      let v = visit_of holder offset depth m in
      let told : TellsIn (Some d) v row = (subst (λ l. TellsVisited l v row) (sym known) tells, stands ∙ ap (stands_for (space_in d)) tells.2) in
      let same = same_inside k (space_in d) v row tells.1 tells.4 tells.2 in
      filled_member (TellsIn (Some d)) v (inside k (space_in d) v.offset v.depth v.tnum) row c e now new room told (subst (λ items. FillsOn (TellsIn (Some d)) items (c + 1) e (set now c row) new) same rest)

-- ---- the outermost type

pub is_there : (d : Checked) (r : Record) → IsOwn d r → IsSome (term_of (tables_of d) (bytes_of r))
is_there d r own = rw (own_spelled d r own).says refl

pub if_found : {A : Type 0} (o : Option Term) (found : Result Term Fault) (said : Result A Fault) → IsSome o → or_no_type o ≡ found → if_there said found ≡ said
if_found None found said some e = absurd cc
if_found (Some x) found said some e = rw (← e) refl

most_is : most_values ≡ 1027
unfolding most_values
most_is = refl

pub most_inside : (s : spaces.Space) (t : ℕ) → inside 1027 s 0 0 t ≡ inside most_values s 0 0 t
most_inside s t = ap (λ n. inside n s 0 0 t) (sym most_is)

pub outermost_told : (o : Option Lists) (lists : Lists) (t stood : ℕ) → o ≡ Some lists → TellsVisited o (outermost t) (record { offset = 0; name_at = 0; name_list = 2; depth = 0; tnum = t; holder = t; stands_for = stood })
outermost_told o lists t stood e = rw e (refl, refl, refl, refl, refl)

pub visits : {A R : Type 0} (Tells : A → R → Type 0) (items : List A) (found : Result Term Fault) (answer : ℕ) (old new : List R) → if_there (Ok items) found ≡ Ok items → FillsOn Tells items 0 answer old new → Visits Tells (if_there (Ok items) found) (Ok answer) old new
visits Tells items found answer old new e h = rw e (ap Ok (all_answered Tells items answer old new h), filled_all Tells items answer old new h)

-- ---- the lists that a type belongs to

pub lists_are : (s : Open) (t : ℕ) (space : spaces.Space) (own : Lists) (parent : Option Lists) (lists : Lists)
    → space ≡ space_in s → own ≡ s.own.lists → parent ≡ option_map (λ p. p.lists) s.parent → lists_at (place space.own.child t) own parent ≡ Some lists → lists_with (Some s) t ≡ Some lists
lists_are s t space own parent lists a b c e =
    let above = option_map (λ p. p.lists) s.parent in
    ap (λ (x : spaces.Space). lists_at (place x.own.child t) s.own.lists above) (sym a) ∙ ap (λ (l : Lists). lists_at (place space.own.child t) l above) (sym b) ∙ ap (λ (l : Option Lists). lists_at (place space.own.child t) own l) (sym c) ∙ e
