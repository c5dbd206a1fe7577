-- What the written bytes of a sound draft denote.
use Rattle.std.proofs.Common.{◌≡◌, ℕ, ◌≤◌, List, length, Some, None, Ok, refl, sym, subst}
use Rattle.std.specs.Prelude.{is_some}
use Rattle.ctf_model.proofs.Denoted.{one_dictionary}
use Rattle.ctf_model.proofs.UnderParents.{misses_none, names_short, stays_under}
use Rattle.ctf_model.proofs.WrittenBytes.{IsWritable, alike, whole}
use Rattle.ctf_model.specs.format.Dictionary.{Dictionary, Denotes}
use Rattle.ctf_model.specs.drafts.DraftLaws.{IsSound}
use Rattle.ctf_model.specs.drafts.Drafts.{Draft, content}
use Rattle.ctf_model.specs.rules.Faults.{first_fault}
use Rattle.ctf_model.specs.format.Header.{fields, is_child}
use Rattle.ctf_model.specs.spaces.Imports.{import_fault, of_one_model}
use Rattle.ctf_model.specs.writing.Written.{bytes_of, lists_of, most_written, unwritten, written}

writable : (d : Draft) → IsSound d → IsWritable (content d)
writable d ok = record {
  child = ok.all.child;
  parname = ok.all.parname;
  parlabel = ok.all.parlabel;
  labels = ok.all.labels;
  count = ok.all.count;
  terms = ok.all.terms;
  missing = misses_none d ok;
  short = names_short d ok;
  symbols = refl;
  entries = refl;
}

pub draft_denoted : (d : Draft) (bytes : List ℕ) → IsSound d → written (content d) ≡ Ok bytes → Denotes (lists_of bytes) (content d)
draft_denoted d bytes ok e = whole (content d) bytes (writable d ok) e

pub draft_child : (d : Draft) (bytes : List ℕ) → IsSound d → written (content d) ≡ Ok bytes → is_child (fields bytes) ≡ is_some d.parent
draft_child d bytes ok e = sym (draft_denoted d bytes ok e).child

pub draft_imported : (d : Draft) (parent : Dictionary) (bytes : List ℕ) (child : Dictionary) → IsSound d → d.parent ≡ Some parent → written (content d) ≡ Ok bytes → Denotes (lists_of bytes) child → import_fault (of_one_model d.model child parent) ≡ None
draft_imported d parent bytes child ok p e denotes =
    let same : content d ≡ child = one_dictionary (lists_of bytes) (content d) child (draft_denoted d bytes ok e) denotes in
    subst (λ (c : Dictionary). import_fault (of_one_model d.model c parent) ≡ None) same (stays_under d parent ok p)

pub draft_alike : (d : Draft) → IsSound d → length (bytes_of (content d)) ≤ most_written → first_fault (lists_of (bytes_of (content d))) ≡ unwritten (content d)
draft_alike d ok small = alike (content d) (writable d ok) small
