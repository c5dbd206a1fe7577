-- The publications at the start of the service. Source: ours.
use Rattle.std.specs.Prelude.{◌≡◌, ◌≢◌, ◌⊎◌, ⊤, ℕ, ◌≤◌, List, [], ◌∷◌, ◌++◌, length, All, map, Some, None, IsSome, Result, Ok, Err}
use Rattle.ctf_model.specs.spaces.Kept.{as_kept}
use Rattle.ctf_protocol.specs.sessions.State.{Publication, empty_state}
use Rattle.ctf_broker.specs.Loading.{loads_section, section_alone}
use Rattle.ctf_broker.specs.Table.{Libraries, library_at}
use Rattle.ctf_command.specs.Argument.{Argument, all_arguments}
use Rattle.ctf_command.specs.Files.{Readings, longest_file}
use Rattle.ctf_answers.specs.Replies.{unaddressed_reply}
use Rattle.ctf_dump.specs.declared.ends.DumpEnd.{DumpEnd}
use Rattle.ctf_dump.specs.declared.ends.DumpEnd.TheVariants.{Unread, Refused, Memory, Write}
use Rattle.ctf_command.specs.declared.starts.NotStarted.{NotStarted}
use Rattle.ctf_command.specs.declared.starts.NotStarted.TheVariants.{Misused, File}

-- the section is published for the operator under this name, after the others; all else is
-- unchanged
pub record IsPublished (name section : List ℕ) (old new : Libraries) : Type 0 where
  pub own : library_at new 0
      ≡ record (library_at old 0) {
        published = (library_at old 0).published
            ++ record { name = name; kept = as_kept (section_alone section) } ∷ [];
      }
  pub others : (session : ℕ) → session ≢ 0 → library_at new session ≡ library_at old session

-- a section read from its file, within the size limit, is published for the operator
pub record IsPublishedFile (gave : Readings) (asked : Argument) (old new : Libraries) : Type 0 where
  pub section : List ℕ
  pub short : length section ≤ longest_file
  pub given : gave asked.file (Ok section)
  pub published : IsPublished asked.name section old new

-- the content of a file, and the name that it is published under
pub record PublishedFile : Type 0 where
  pub name : List ℕ
  pub file : List ℕ
  pub section : List ℕ

-- the publication that was asked for
abbrev pub argument_for : PublishedFile → Argument
argument_for p = record { name = p.name; file = p.file }

-- its publication
abbrev pub publication_of : PublishedFile → Publication
publication_of p = record { name = p.name; kept = as_kept (section_alone p.section) }

-- exactly the sections of these files are published, in order, and no other session holds anything
pub record HasPublished (gave : Readings) (asked : List Argument) (new : Libraries) : Type 0 where
  pub files : List PublishedFile
  pub asks : map argument_for files ≡ asked
  pub given : All (λ p. gave p.file (Ok p.section)) files
  pub own : library_at new 0 ≡ record empty_state { published = map publication_of files }
  pub others : (session : ℕ) → session ≢ 0 → library_at new session ≡ empty_state

-- the arguments ask for publications, and these are published
pub record IsStarted (gave : Readings) (words : List (List ℕ)) (new : Libraries) : Type 0 where
  pub asked : List Argument
  pub all : all_arguments words ≡ Some asked
  pub has : HasPublished gave asked new

-- ---- why the service did not start

-- if the file was read, its section was refused under that name, and the file is named; otherwise
-- the reason is that of the reading
abbrev pub IsUnpublished : Libraries → Argument → Result (List ℕ) DumpEnd → NotStarted → Type 0
IsUnpublished old asked (Err end) why = why ≡ File end
IsUnpublished old asked (Ok section) (File Memory) = ⊤
IsUnpublished old asked (Ok section) (File (Refused file fault)) =
    (file.now ≡ asked.file)
    × ((loads_section asked.name section (library_at old 0)).reply ≡ unaddressed_reply (Err fault))
IsUnpublished old asked (Ok section) (File (Unread file)) = ⊥
IsUnpublished old asked (Ok section) (File Write) = ⊥
IsUnpublished old asked (Ok section) Misused = ⊥

-- the same, for what reading the file gave
pub record IsUnpublishedFile (gave : Readings) (asked : Argument) (old : Libraries)
    (why : NotStarted) : Type 0 where
  pub outcome : Result (List ℕ) DumpEnd
  pub given : gave asked.file outcome
  pub refused : IsUnpublished old asked outcome why

-- all files before one were published, and that one was not
pub record IsCutOff (gave : Readings) (words : List (List ℕ)) (why : NotStarted) : Type 0 where
  pub front : List Argument
  pub last : Argument
  pub behind : List Argument
  pub all : all_arguments words ≡ Some (front ++ last ∷ behind)
  pub before : Libraries
  pub has : HasPublished gave front before
  pub refused : IsUnpublishedFile gave last before why

-- an argument is wrong; or memory ran out before any file was read, or one of the files was not
-- published
abbrev pub IsUnstarted : Readings → List (List ℕ) → NotStarted → Type 0
IsUnstarted gave words Misused = all_arguments words ≡ None
IsUnstarted gave words (File end) =
    IsSome (all_arguments words) × ((end ≡ Memory) ⊎ IsCutOff gave words (File end))
