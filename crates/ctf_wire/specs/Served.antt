-- The lines given to a machine that answers them, and the replies that were output. Source: ours.
use Rattle.std.specs.Prelude.{◌≡◌, ℕ, ◌≤◌, List, [], ◌∷◌, ◌++◌, length, map, Bool, true, false, Option}
use Rattle.std.specs.List.{concat}
use Rattle.std.specs.Io.KnownBytes.{Appends}
use Rattle.ctf_protocol.specs.lines.Lines.{stored_line}
use Rattle.ctf_wire.specs.Flushes.{after_pieces}
use Rattle.ctf_wire.specs.Streams.{Pushed}

-- from state `old`, these lines have these replies, one each, and lead to state `new`
abbrev pub Answers : {S : Type 0} → (S → Option (List ℕ) → List ℕ → S → Type 0) → S → List (List ℕ)
    → List (List ℕ) → S → Type 0
Answers {S} Step old [] [] new = new ≡ old
Answers {S} Step old [] (reply ∷ replies) new = ⊥
Answers {S} Step old (line ∷ lines) [] new = ⊥
Answers {S} Step old (line ∷ lines) (reply ∷ replies) new =
    (mid : S) × Step old (stored_line line) reply mid × Answers Step mid lines replies new

-- the list begins with `front`
abbrev pub BeginsWith : {X : Type 0} → List X → List X → Type 0
BeginsWith {X} xs front = (more : List X) × (xs ≡ front ++ more)

-- the bytes were pushed and then flushed, without a failure
pub record SentPiece (before : Pushed) (bytes : List ℕ) (after : Pushed) : Type 0 where
  pub written : Appends before.contents after.contents bytes
  pub flushed : after.flushes ≡ after_pieces before.flushes (bytes ∷ []) []
  pub well : after.failed ≡ before.failed

-- a prefix of the bytes was pushed, and the sink failed
pub record SentPart (before : Pushed) (bytes : List ℕ) (after : Pushed) : Type 0 where
  pub front : List ℕ
  pub begins : BeginsWith bytes front
  pub written : Appends before.contents after.contents front
  pub flushed : after.flushes ≡ after_pieces before.flushes [] front
  pub broke : after.failed ≡ true

-- the bytes were sent, or the sink failed after a prefix of them
abbrev pub Sends : Pushed → List ℕ → Bool → Pushed → Type 0
Sends before bytes true after = SentPiece before bytes after
Sends before bytes false after = SentPart before bytes after

-- the concatenation of groups of replies
abbrev pub all_of : List (List (List ℕ)) → List (List ℕ)
all_of [] = []
all_of (group ∷ groups) = group ++ all_of groups

-- no group is empty
abbrev pub AreFilled : List (List (List ℕ)) → Type 0
AreFilled [] = Unit {0}
AreFilled ([] ∷ groups) = ⊥
AreFilled ((reply ∷ group) ∷ groups) = AreFilled groups

-- the replies were pushed and flushed in groups of whole replies, without a failure
pub record Sent (before : Pushed) (replies : List (List ℕ)) (after : Pushed) : Type 0 where
  pub groups : List (List (List ℕ))
  pub grouped : all_of groups ≡ replies
  pub filled : AreFilled groups
  pub written : Appends before.contents after.contents (concat replies)
  pub flushed : after.flushes ≡ after_pieces before.flushes (map concat groups) []
  pub well : after.failed ≡ before.failed

-- these replies were pushed and flushed in groups of whole replies, then a prefix of the waiting
-- ones was pushed, and the sink failed
pub record SentFront (before : Pushed) (replies waiting : List (List ℕ))
    (after : Pushed) : Type 0 where
  pub groups : List (List (List ℕ))
  pub grouped : all_of groups ≡ replies
  pub filled : AreFilled groups
  pub front : List ℕ
  pub begins : BeginsWith (concat waiting) front
  pub written : Appends before.contents after.contents (concat replies ++ front)
  pub flushed : after.flushes ≡ after_pieces before.flushes (map concat groups) front
  pub broke : after.failed ≡ true

-- these lines have replies, and the replies are sent
pub record Serves {S : Type 0} (Step : S → Option (List ℕ) → List ℕ → S → Type 0) (old : S)
    (lines : List (List ℕ)) (new : S) (before after : Pushed) : Type 0 where
  pub replies : List (List ℕ)
  pub answers : Answers Step old lines replies new
  pub sent : Sent before replies after

-- the first of these lines are answered; at least `sure` of their replies are sent, and a prefix of
-- the last ones, which waited
pub record BrokenOff {S : Type 0} (Step : S → Option (List ℕ) → List ℕ → S → Type 0) (old : S)
    (sure : ℕ) (lines : List (List ℕ)) (new : S) (before after : Pushed) : Type 0 where
  pub answered : List (List ℕ)
  pub first : BeginsWith lines answered
  pub replies : List (List ℕ)
  pub waiting : List (List ℕ)
  pub answers : Answers Step old answered (replies ++ waiting) new
  pub enough : sure ≤ length replies
  pub sent : SentFront before replies waiting after
