-- Files published one after another, and one that is not.
use Rattle.std.proofs.Common.{◌≡◌, inr, ℕ, ◌+◌, ◌<◌, List, [], ◌∷◌, ◌++◌, length, map, take, drop, get_or, Option, Some, Result, Ok, Err, refl, sym, ap, subst, ◌∙◌, arith}
use Rattle.std.specs.Prelude.{IsSome}
use Rattle.std.proofs.lemmas.List.{drop_more, take_more, take-append-drop, map-append}
use Rattle.std.proofs.lemmas.List.Elements.{All-append, All-cons}
use Rattle.ctf_model.specs.spaces.Kept.{as_kept}
use Rattle.ctf_protocol.specs.sessions.State.{Publication, State, empty_state}
use Rattle.ctf_broker.specs.Loading.{section_alone}
use Rattle.ctf_broker.specs.Table.{Libraries, library_at}
use Rattle.ctf_dump.specs.declared.ends.DumpEnd.{DumpEnd}
use Rattle.ctf_command.specs.declared.starts.NotStarted.{NotStarted}
use Rattle.ctf_command.specs.declared.starts.NotStarted.TheVariants.{Misused, File}
use Rattle.ctf_command.specs.declared.publications.Wanted.{Wanted}
use Rattle.ctf_command.specs.Argument.{Argument, all_arguments, argument_shown}
use Rattle.ctf_command.specs.Files.{Readings}
use Rattle.ctf_command.specs.Started.{HasPublished, IsCutOff, IsPublishedFile, IsUnpublished, IsUnpublishedFile, IsUnstarted, PublishedFile, argument_for, publication_of}

-- no file is published yet
pub none_published : (gave : Readings) (new : Libraries) → ((session : ℕ) → library_at new session ≡ empty_state) → HasPublished gave [] new
none_published gave new empty = record {
  files = [];
  asks = refl;
  given = λ k d below. absurd (omega (arith, below));
  own = empty 0;
  others = λ session other. empty session;
}

-- one more file is published
one_more : (gave : Readings) (front : List Argument) (asked : Argument) (old new : Libraries) → HasPublished gave front old → IsPublishedFile gave asked old new → HasPublished gave (front ++ asked ∷ []) new
one_more gave front asked old new h p =
    let file : PublishedFile = record { name = asked.name; file = asked.file; section = p.section } in
    let publication : Publication = record { name = asked.name; kept = as_kept (section_alone p.section) } in
    let gives : PublishedFile → Type 0 = λ f. gave f.file (Ok f.section) in
    record {
      files = h.files ++ file ∷ [];
      asks = map-append argument_for h.files (file ∷ []) ∙ ap (λ (front : List Argument). front ++ asked ∷ []) h.asks;
      given = All-append gives h.files (file ∷ []) h.given (All-cons gives file [] p.given (λ k d below. absurd (omega (arith, below))));
      own = p.published.own ∙ ap (λ (s : State). record s { published = s.published ++ publication ∷ [] }) h.own ∙ ap (λ (ps : List Publication). record empty_state { published = ps }) (sym (map-append publication_of h.files (file ∷ [])));
      others = λ session other. p.published.others session other ∙ h.others session other;
    }

-- an unpublished file is no wrong argument
not_misused : (old : Libraries) (asked : Argument) (outcome : Result (List ℕ) DumpEnd) → IsUnpublished old asked outcome Misused → ⊥
not_misused old asked (Ok section) h = h
not_misused old asked (Err end) h = cc

cut_off : (gave : Readings) (words : List (List ℕ)) (why : NotStarted) → IsSome (all_arguments words) → IsCutOff gave words why → IsUnstarted gave words why
cut_off gave words (File end) some c = (some, inr c)
cut_off gave words Misused some c = absurd (not_misused c.before c.last c.refused.outcome c.refused.refused)

module _ (xs : List Wanted) (i : ℕ) (x : Wanted) (lt : i < length xs) (is : x ≡ get_or xs i x) where
  asked_taken : map argument_shown (take (i + 1) xs) ≡ map argument_shown (take i xs) ++ argument_shown x ∷ []
  asked_taken = ap (map argument_shown) (take_more xs i x lt) ∙ map-append argument_shown (take i xs) (get_or xs i x ∷ []) ∙ ap (λ (y : Wanted). map argument_shown (take i xs) ++ argument_shown y ∷ []) (sym is)

  asked_cut : map argument_shown xs ≡ map argument_shown (take i xs) ++ argument_shown x ∷ map argument_shown (drop (i + 1) xs)
  asked_cut = ap (map argument_shown) (sym (take-append-drop i xs)) ∙ map-append argument_shown (take i xs) (drop i xs) ∙ ap (λ (ys : List Wanted). map argument_shown (take i xs) ++ map argument_shown ys) (drop_more xs i x lt ∙ ap (λ (y : Wanted). y ∷ drop (i + 1) xs) (sym is))

  pub published_next : (gave : Readings) (old new : Libraries) → HasPublished gave (map argument_shown (take i xs)) old → IsPublishedFile gave (argument_shown x) old new → HasPublished gave (map argument_shown (take (i + 1) xs)) new
  published_next gave old new h p = subst (λ (all : List Argument). HasPublished gave all new) (sym asked_taken) (one_more gave (map argument_shown (take i xs)) (argument_shown x) old new h p)

  pub unstarted_at : (gave : Readings) (words : List (List ℕ)) (old : Libraries) (why : NotStarted) → Some (map argument_shown xs) ≡ all_arguments words → HasPublished gave (map argument_shown (take i xs)) old → IsUnpublishedFile gave (argument_shown x) old why → IsUnstarted gave words why
  unstarted_at gave words old why all h refused =
      let there : IsSome (Some (map argument_shown xs)) = search in
      cut_off gave words why (subst (λ (asked : Option (List Argument)). IsSome asked) all there) (record {
        front = map argument_shown (take i xs);
        last = argument_shown x;
        behind = map argument_shown (drop (i + 1) xs);
        all = sym all ∙ ap (λ (every : List Argument). Some every) asked_cut;
        before = old;
        has = h;
        refused = refused;
      })
