-- What a draft lends to its writer stands for. Source: ours.
use Rattle.std.specs.Prelude.{ℕ, List, [], map}
use Rattle.ctf_model.specs.format.Dictionary.{Dictionary, Label}
use Rattle.ctf_model.specs.writing.WrittenNames.{names_of}
use Rattle.ctf_model.specs.writing.WrittenRecords.{enumerator_bytes, member_bytes, record_bytes, u16}
use Rattle.ctf_model.specs.declared.numbers.TypeNum.{TypeNum}
use Rattle.ctf_draft.specs.TypeView.{enumerator_of, member_of, type_of}
use Rattle.ctf_draft.specs.declared.types.DraftType.{DraftType}
use Rattle.ctf_draft.specs.declared.types.Enumerator.{Enumerator}
use Rattle.ctf_draft.specs.declared.types.Member.{Member}
use Rattle.ctf_writer.specs.declared.draft_view.DraftContent.{DraftContent}

-- the dictionary to write
abbrev pub dictionary_of : DraftContent → Dictionary
dictionary_of h =
    record {
      child = h.child;
      parname = h.parname.now;
      parlabel = h.parlabel.now;
      labels = h.labels.now;
      terms = map type_of h.types.now;
      symbols = [];
      entries = [];
    }

-- the names that a type uses
abbrev pub uses : DraftType → List (List ℕ)
uses x = names_of (type_of x)

-- an argument in bytes
abbrev pub written_argument : TypeNum → List ℕ
written_argument t = u16 t.0

-- a member in bytes, given the dictionary's names and the size of its struct or union
abbrev pub written_member : List (List ℕ) → ℕ → Member → List ℕ
written_member names size m = member_bytes names size (member_of m)

abbrev pub written_enumerator : List (List ℕ) → Enumerator → List ℕ
written_enumerator names e = enumerator_bytes names (enumerator_of e)

abbrev pub written_type : List (List ℕ) → DraftType → List ℕ
written_type names x = record_bytes names (type_of x)

-- the label used if there is none
abbrev pub no_label : Label
no_label = record { name = []; last = 0 }
