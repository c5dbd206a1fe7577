-- The dictionary that an update writes.
use Rattle.std.proofs.Common.{◌≡◌, ℕ, List, ◌++◌, [], is_some, length, map, Ok, ap, sym, ◌∙◌}
use Rattle.std.proofs.lemmas.List.{append-nil, length-map}
use Rattle.ctf_draft.specs.TypeView.{type_of}
use Rattle.ctf_draft.specs.declared.types.DraftType.{DraftType}
use Rattle.ctf_model.proofs.Denoted.{denotes_said, one_dictionary}
use Rattle.ctf_model.proofs.WrittenDrafts.{draft_denoted, draft_imported}
use Rattle.ctf_model.specs.format.Dictionary.{Dictionary, Label, said_by}
use Rattle.ctf_model.specs.drafts.DraftLaws.{IsSound}
use Rattle.ctf_model.specs.drafts.Drafts.{Contents, Draft, all_of, followed_by, content, no_contents, commit}
use Rattle.ctf_model.specs.format.Term.{Term}
use Rattle.ctf_model.specs.writing.Written.{lists_of, written}
use Rattle.ctf_writer.specs.Updating.{StandsFor}

pub stands_for : (d : Draft) (bytes : List ℕ) → IsSound d → written (content d) ≡ Ok bytes → StandsFor d bytes
stands_for d bytes sound is =
    let denotes = draft_denoted d bytes sound is in
    record {
      denotes = denotes;
      under = λ parent has. draft_imported d parent bytes (said_by (lists_of bytes)) sound has is (denotes_said (lists_of bytes) denotes.faultless);
    }

-- nothing pending after an update
none_behind : (all : Contents) → followed_by all no_contents ≡ all
none_behind all = ap (λ (terms : List Term). record { terms = terms; labels = all.labels ++ no_contents.labels }) (append-nil all.terms) ∙ ap (λ (labels : List Label). record { terms = all.terms; labels = labels }) (append-nil all.labels)

pub held_stays : (d : Draft) → content (commit d) ≡ content d
held_stays d = ap (λ (all : Contents). record {
  child = is_some d.parent;
  parname = d.parname;
  parlabel = d.parlabel;
  labels = all.labels;
  terms = all.terms;
  symbols = [];
  entries = [];
}) (none_behind (all_of d))

-- the bytes encode as many types as the draft has
pub written_count : (d : Draft) (bytes : List ℕ) (types : List DraftType) → StandsFor d bytes → map type_of types ≡ (all_of d).terms → length types ≡ length (said_by (lists_of bytes)).terms
written_count d bytes types stands are =
    sym (length-map types type_of) ∙ ap (λ (ts : List Term). length ts) are
    ∙ ap (λ (e : Dictionary). length e.terms) (one_dictionary (lists_of bytes) (content d) (said_by (lists_of bytes)) stands.denotes (denotes_said (lists_of bytes) stands.denotes.faultless))
