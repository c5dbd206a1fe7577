-- The effect of one more line on what was served.
use Rattle.std.proofs.Common.{◌≡◌, ◌≢◌, ℕ, ◌+◌, ◌≤◌, leb, length, List, [], ◌∷◌, ◌++◌, map, Bool, true, false, Option, Some, None, refl, ◌∙◌, ap, sym, subst, arith, append_assoc, append-nil, ◌⊎◌, inl, inr}
use Rattle.std.specs.Prelude.{if◌then◌else◌}
use Rattle.std.specs.List.{concat}
use Rattle.std.specs.Io.KnownBytes.{Appends}
use Rattle.std.proofs.KnownBytes.{Appends-trans}
use Rattle.std.proofs.lemmas.List.{map-append, length-append}
use Rattle.std.proofs.lemmas.List.Folds.{concat-append}
use Rattle.std.proofs.lemmas.Bool.{le-leb}
use Rattle.ctf_protocol.specs.lines.Lines.{whole_lines, last_piece, all_lines, if_not_empty, longest_line, stored_line}
use Rattle.ctf_wire.specs.Flushes.{after_pieces}
use Rattle.ctf_wire.specs.Served.{Answers, BeginsWith, SentPiece, SentPart, all_of, AreFilled, Sent, SentFront, Sends, Serves, BrokenOff}
use Rattle.ctf_wire.specs.Gathering.{Gathered, Gathers, Feeds, MakesRoom, FlushesBatch}
use Rattle.ctf_wire.specs.Standing.{Stands, TakesIn, Finishes}
use Rattle.ctf_wire.specs.Streams.{Pushed}
use Rattle.ctf_wire.specs.declared.batch.Batch.{Batch}
use Rattle.ctf_wire.proofs.Cutting.{whole_lines-piece, last_piece-piece, whole_lines-line, last_piece-line, whole_lines-front}
use Rattle.ctf_wire.proofs.Passing.{after_pieces-more}

-- one more line is answered
Answers-push : {S : Type 0} (Step : S → Option (List ℕ) → List ℕ → S → Type 0) (old mid new : S) (lines replies : List (List ℕ)) (line reply : List ℕ)
    → Answers Step old lines replies mid → Step mid (stored_line line) reply new → Answers Step old (lines ++ line ∷ []) (replies ++ reply ∷ []) new
Answers-push {S} Step old mid new [] [] line reply a s =
    let P : S → Type 0 = λ x. Step x (stored_line line) reply new in
    (new, subst P a s, refl)
Answers-push {S} Step old mid new [] (r ∷ replies) line reply a s = absurd a
Answers-push {S} Step old mid new (l ∷ lines) [] line reply a s = absurd a
Answers-push {S} Step old mid new (l ∷ lines) (r ∷ replies) line reply a s =
    (a.0, a.1, Answers-push Step a.0 mid new lines replies line reply a.2 s)

-- each line has one reply
Answers-length : {S : Type 0} (Step : S → Option (List ℕ) → List ℕ → S → Type 0) (old new : S) (lines replies : List (List ℕ)) → Answers Step old lines replies new → length replies ≡ length lines
Answers-length {S} Step old new [] [] a = refl
Answers-length {S} Step old new [] (r ∷ replies) a = absurd a
Answers-length {S} Step old new (l ∷ lines) [] a = absurd a
Answers-length {S} Step old new (l ∷ lines) (r ∷ replies) a = let same = Answers-length Step a.0 new lines replies a.2 in omega (arith, same)

-- ---- sent replies

-- one more group
all_of-push : (groups : List (List (List ℕ))) (group : List (List ℕ)) → all_of (groups ++ group ∷ []) ≡ all_of groups ++ group
all_of-push [] group = append-nil group
all_of-push (g ∷ groups) group = ap (λ rs. g ++ rs) (all_of-push groups group) ∙ sym (append_assoc g (all_of groups) group)

AreFilled-push : (groups : List (List (List ℕ))) (group : List (List ℕ)) → AreFilled groups → group ≢ [] → AreFilled (groups ++ group ∷ [])
AreFilled-push [] [] all some = absurd (some refl)
AreFilled-push [] (r ∷ group) all some = tt
AreFilled-push ([] ∷ groups) group all some = absurd all
AreFilled-push ((r ∷ g) ∷ groups) group all some = AreFilled-push groups group all some

-- replies were sent, then the waiting ones
Sent-more : (a b c : Pushed) (replies waiting : List (List ℕ)) (bytes : List ℕ) → Sent a replies b → waiting ≢ [] → bytes ≡ concat waiting → SentPiece b bytes c → Sent a (replies ++ waiting) c
Sent-more a b c replies waiting bytes p some e q =
    let P : List ℕ → Type 0 = λ bs. Appends a.contents c.contents bs in
    let Q : List ℕ → Type 0 = λ bs. Appends b.contents c.contents bs in
    record {
      groups = p.groups ++ waiting ∷ [];
      grouped = all_of-push p.groups waiting ∙ ap (λ rs. rs ++ waiting) p.grouped;
      filled = AreFilled-push p.groups waiting p.filled some;
      written = subst P (sym (concat-append replies waiting)) (Appends-trans a.contents b.contents c.contents (concat replies) (concat waiting) p.written (subst Q e q.written));
      flushed = q.flushed ∙ ap (λ known. after_pieces known (bytes ∷ []) []) p.flushed ∙ after_pieces-more a.flushes (map concat p.groups) (bytes ∷ []) []
          ∙ ap (λ ps. after_pieces a.flushes ps []) (ap (λ bs. map concat p.groups ++ bs ∷ []) e ∙ sym (map-append concat p.groups (waiting ∷ [])));
      well = q.well ∙ p.well;
    }

-- replies were sent, then a prefix of the waiting ones
Sent-front : (a b c : Pushed) (replies waiting : List (List ℕ)) (bytes : List ℕ) → Sent a replies b → bytes ≡ concat waiting → SentPart b bytes c → SentFront a replies waiting c
Sent-front a b c replies waiting bytes p e q =
    record {
      groups = p.groups;
      grouped = p.grouped;
      filled = p.filled;
      front = q.front;
      begins = (q.begins.0, sym e ∙ q.begins.1);
      written = Appends-trans a.contents b.contents c.contents (concat replies) q.front p.written q.written;
      flushed = q.flushed ∙ ap (λ known. after_pieces known [] q.front) p.flushed ∙ after_pieces-more a.flushes (map concat p.groups) [] q.front
          ∙ ap (λ ps. after_pieces a.flushes ps q.front) (append-nil (map concat p.groups));
      broke = q.broke;
    }

-- ---- lines with waiting replies

-- no reply waits
Gathered-of : {S : Type 0} (Step : S → Option (List ℕ) → List ℕ → S → Type 0) (start machine : S) (lines : List (List ℕ)) (batch : Batch) (a b : Pushed)
    → batch.bytes.items ≡ [] → batch.waits ≡ false → Serves Step start lines machine a b → Gathered Step start (length lines) lines machine batch a b
Gathered-of {S} Step start machine lines batch a b empty quiet s =
    let P : List (List ℕ) → Type 0 = λ rs. Answers Step start lines rs machine in
    record {
      replies = s.replies;
      waiting = [];
      answers = subst P (sym (append-nil s.replies)) s.answers;
      enough = let same = Answers-length Step start machine lines s.replies s.answers in omega (arith, same);
      sent = s.sent;
      gathered = empty;
      none = λ e. refl;
      some = λ e. let clash : false ≡ true = sym quiet ∙ e in absurd cc;
    }

not_nil : (waiting : List (List ℕ)) (reply : List ℕ) → waiting ++ reply ∷ [] ≢ []
not_nil [] reply = λ e. cc
not_nil (w ∷ waiting) reply = λ e. cc

-- one more reply waits
Gathered-push : {S : Type 0} (Step : S → Option (List ℕ) → List ℕ → S → Type 0) (start mid new : S) (sure : ℕ) (lines : List (List ℕ)) (line reply : List ℕ) (batch batch_new : Batch) (a b : Pushed)
    → Gathered Step start sure lines mid batch a b → Step mid (stored_line line) reply new → batch_new.bytes.items ≡ batch.bytes.items ++ reply → batch_new.waits ≡ true
    → Gathered Step start sure (lines ++ line ∷ []) new batch_new a b
Gathered-push {S} Step start mid new sure lines line reply batch batch_new a b g step grown waits =
    let P : List (List ℕ) → Type 0 = λ rs. Answers Step start (lines ++ line ∷ []) rs new in
    record {
      replies = g.replies;
      waiting = g.waiting ++ reply ∷ [];
      answers = subst P (append_assoc g.replies g.waiting (reply ∷ [])) (Answers-push Step start mid new lines (g.replies ++ g.waiting) line reply g.answers step);
      enough = g.enough;
      sent = g.sent;
      gathered = grown ∙ ap (λ bs. bs ++ reply) g.gathered ∙ sym (concat-append g.waiting (reply ∷ []) ∙ ap (λ bs. concat g.waiting ++ bs) (append-nil reply));
      none = λ e. let clash : true ≡ false = sym waits ∙ e in absurd cc;
      some = λ e. not_nil g.waiting reply;
    }

-- the waiting replies are sent
Gathered-sent : {S : Type 0} (Step : S → Option (List ℕ) → List ℕ → S → Type 0) (start machine : S) (sure : ℕ) (lines : List (List ℕ)) (batch : Batch) (a b c : Pushed)
    → Gathered Step start sure lines machine batch a b → batch.waits ≡ true → SentPiece b batch.bytes.items c → Serves Step start lines machine a c
Gathered-sent {S} Step start machine sure lines batch a b c g waits sent = record {
  replies = g.replies ++ g.waiting;
  answers = g.answers;
  sent = Sent-more a b c g.replies g.waiting batch.bytes.items g.sent (g.some waits) g.gathered sent;
}

-- only a prefix of them is sent
Gathered-cut : {S : Type 0} (Step : S → Option (List ℕ) → List ℕ → S → Type 0) (start machine : S) (sure : ℕ) (lines : List (List ℕ)) (batch : Batch) (a b c : Pushed)
    → Gathered Step start sure lines machine batch a b → SentPart b batch.bytes.items c → BrokenOff Step start sure lines machine a c
Gathered-cut {S} Step start machine sure lines batch a b c g sent = record {
  answered = lines;
  first = ([], sym (append-nil lines));
  replies = g.replies;
  waiting = g.waiting;
  answers = g.answers;
  enough = g.enough;
  sent = Sent-front a b c g.replies g.waiting batch.bytes.items g.sent g.gathered sent;
}

-- non-empty bytes contain a reply
has_some : (waiting : List (List ℕ)) (bytes : List ℕ) → bytes ≡ concat waiting → 65536 ≤ length bytes → waiting ≢ []
has_some waiting bytes e long none =
    let short : length bytes ≡ 0 = ap length (e ∙ ap concat none) in
    omega (arith, short, long)

-- there is room again
Gathered-room : {S : Type 0} (Step : S → Option (List ℕ) → List ℕ → S → Type 0) (start machine : S) (sure : ℕ) (lines : List (List ℕ)) (batch batch_new : Batch) (a b c : Pushed)
    → Gathered Step start sure lines machine batch a b → MakesRoom batch b true batch_new c → Gathered Step start sure lines machine batch_new a c
Gathered-room {S} Step start machine sure lines batch batch_new a b c g (inl same) =
    let P : Batch → Type 0 = λ x. Gathered Step start sure lines machine x a c in
    let Q : Pushed → Type 0 = λ x. Gathered Step start sure lines machine batch a x in
    subst P (sym same.0) (subst Q (sym same.1) g)
Gathered-room {S} Step start machine sure lines batch batch_new a b c g (inr sent) =
    let P : List (List ℕ) → Type 0 = λ rs. Answers Step start lines rs machine in
    record {
      replies = g.replies ++ g.waiting;
      waiting = [];
      answers = subst P (sym (append-nil (g.replies ++ g.waiting))) g.answers;
      enough = let long = length-append g.replies g.waiting in let enough = g.enough in omega (arith, long, enough);
      sent = Sent-more a b c g.replies g.waiting batch.bytes.items g.sent (has_some g.waiting batch.bytes.items g.gathered sent.2) g.gathered sent.3;
      gathered = sent.0;
      none = λ e. refl;
      some = λ e. let clash : false ≡ true = sym sent.1 ∙ e in absurd cc;
    }

-- no reply waits any more
Gathered-flushed : {S : Type 0} (Step : S → Option (List ℕ) → List ℕ → S → Type 0) (start machine : S) (sure : ℕ) (lines : List (List ℕ)) (batch : Batch) (a b c : Pushed)
    → Gathered Step start sure lines machine batch a b → FlushesBatch batch b true c → Serves Step start lines machine a c
Gathered-flushed {S} Step start machine sure lines batch a b c g (inr sent) = Gathered-sent Step start machine sure lines batch a b c g sent.0 sent.1
Gathered-flushed {S} Step start machine sure lines batch a b c g (inl same) =
    let P : List (List ℕ) → Type 0 = λ rs. Answers Step start lines rs machine in
    let Q : Pushed → Type 0 = λ x. Sent a g.replies x in
    record {
      replies = g.replies;
      answers = subst P (ap (λ rs. g.replies ++ rs) (g.none same.0) ∙ append-nil g.replies) g.answers;
      sent = subst Q (sym same.1) g.sent;
    }

-- a line among the first ones is a line of all
BrokenOff-more : {S : Type 0} (Step : S → Option (List ℕ) → List ℕ → S → Type 0) (start new : S) (sure : ℕ) (lines all : List (List ℕ)) (a c : Pushed)
    → BeginsWith all lines → BrokenOff Step start sure lines new a c → BrokenOff Step start sure all new a c
BrokenOff-more {S} Step start new sure lines all a c more b = record {
  answered = b.answered;
  first = (b.first.0 ++ more.0, more.1 ∙ ap (λ ls. ls ++ more.0) b.first.1 ∙ append_assoc b.answered b.first.0 more.0);
  replies = b.replies;
  waiting = b.waiting;
  answers = b.answers;
  enough = b.enough;
  sent = b.sent;
}

-- ---- pieces

-- no bytes arrived
pub Feeds-none : {S : Type 0} (Step : S → Option (List ℕ) → List ℕ → S → Type 0) (machine : S) (held : Option (List ℕ)) (batch : Batch) (sink : Pushed) → Feeds Step machine held batch sink [] true machine held batch sink
Feeds-none {S} Step machine held batch sink = λ start a sure read s.
    let P : List ℕ → Type 0 = λ bs. Gathers Step start a sure bs machine held batch sink in
    subst P (sym (append-nil read)) s

-- a piece without a newline arrived
pub Feeds-piece : {S : Type 0} (Step : S → Option (List ℕ) → List ℕ → S → Type 0) (machine : S) (held now : Option (List ℕ)) (batch : Batch) (sink : Pushed) (piece : List ℕ)
    → whole_lines piece ≡ [] → ((bs : List ℕ) → held ≡ stored_line bs → now ≡ stored_line (bs ++ piece)) → Feeds Step machine held batch sink piece true machine now batch sink
Feeds-piece {S} Step machine held now batch sink piece none joined = λ start a sure read s.
    let P : List (List ℕ) → Type 0 = λ lines. Gathered Step start sure lines machine batch a sink in
    record {
      lines = subst P (sym (whole_lines-piece read piece none)) s.lines;
      holds = joined (last_piece read) s.holds ∙ ap stored_line (sym (last_piece-piece read piece none));
    }

-- a line that is short enough to be stored, after an empty piece
pub whole_joins : (piece : List ℕ) → length piece ≤ longest_line → (bs : List ℕ) → Some [] ≡ stored_line bs → Some piece ≡ stored_line (bs ++ piece)
whole_joins piece short [] e = rw (le-leb (length piece) longest_line short) refl
whole_joins piece short (b ∷ bs) e = absurd (no (leb (length (b ∷ bs)) longest_line) e)
  where
    no : (t : Bool) → Some [] ≡ (if t then Some (b ∷ bs) else None) → ⊥
    no true h = cc
    no false h = cc

-- a piece with a newline arrived, and the line is answered
pub Feeds-line : {S : Type 0} (Step : S → Option (List ℕ) → List ℕ → S → Type 0) (old new : S) (held joined now : Option (List ℕ)) (batch roomy batch_new : Batch) (b c : Pushed) (piece reply : List ℕ)
    → whole_lines piece ≡ [] → ((bs : List ℕ) → held ≡ stored_line bs → joined ≡ stored_line (bs ++ piece)) → MakesRoom batch b true roomy c
    → Step old joined reply new → batch_new.bytes.items ≡ roomy.bytes.items ++ reply → batch_new.waits ≡ true → now ≡ Some []
    → Feeds Step old held batch b (piece ++ 10 ∷ []) true new now batch_new c
Feeds-line {S} Step old new held joined now batch roomy batch_new b c piece reply none joins room step grown waits cleared = λ start a sure read s.
    let P : List (List ℕ) → Type 0 = λ lines. Gathered Step start sure lines new batch_new a c in
    let Q : Option (List ℕ) → Type 0 = λ o. Step old o reply new in
    let g = Gathered-room Step start old sure (whole_lines read) batch roomy a b c s.lines room in
    record {
      lines = subst P (sym (whole_lines-line read piece none)) (Gathered-push Step start old new sure (whole_lines read) (last_piece read ++ piece) reply roomy batch_new a c g (subst Q (joins (last_piece read) s.holds) step) grown waits);
      holds = cleared ∙ ap stored_line (sym (last_piece-line read piece));
    }

-- the replies that waited before could not be sent
pub Feeds-cut : {S : Type 0} (Step : S → Option (List ℕ) → List ℕ → S → Type 0) (old : S) (held now : Option (List ℕ)) (batch batch_new : Batch) (b c : Pushed) (bytes : List ℕ)
    → SentPart b batch.bytes.items c → Feeds Step old held batch b bytes false old now batch_new c
Feeds-cut {S} Step old held now batch batch_new b c bytes sent = λ start a sure read s.
    BrokenOff-more Step start old sure (whole_lines read) (whole_lines (read ++ bytes)) a c (whole_lines-front read bytes) (Gathered-cut Step start old sure (whole_lines read) batch a b c s.lines sent)

-- more bytes arrived
pub Feeds-more : {S : Type 0} (Step : S → Option (List ℕ) → List ℕ → S → Type 0) (old mid new : S) (held between now : Option (List ℕ)) (x y z : Batch) (b c d : Pushed) (bytes more : List ℕ) (done : Bool)
    → Feeds Step old held x b bytes true mid between y c → Feeds Step mid between y c more done new now z d → Feeds Step old held x b (bytes ++ more) done new now z d
Feeds-more {S} Step old mid new held between now x y z b c d bytes more true p q = λ start a sure read s.
    let P : List ℕ → Type 0 = λ bs. Gathers Step start a sure bs new now z d in
    subst P (append_assoc read bytes more) (q start a sure (read ++ bytes) (p start a sure read s))
Feeds-more {S} Step old mid new held between now x y z b c d bytes more false p q = λ start a sure read s.
    let P : List ℕ → Type 0 = λ bs. BrokenOff Step start sure (whole_lines bs) new a d in
    subst P (append_assoc read bytes more) (q start a sure (read ++ bytes) (p start a sure read s))

-- once the sink failed, later bytes do not matter
pub Feeds-broken : {S : Type 0} (Step : S → Option (List ℕ) → List ℕ → S → Type 0) (old new : S) (held now later : Option (List ℕ)) (x y z : Batch) (b c : Pushed) (bytes more : List ℕ)
    → Feeds Step old held x b bytes false new now y c → Feeds Step old held x b (bytes ++ more) false new later z c
Feeds-broken {S} Step old new held now later x y z b c bytes more p = λ start a sure read s.
    let P : List ℕ → Type 0 = λ bs. BeginsWith (whole_lines bs) (whole_lines (read ++ bytes)) in
    BrokenOff-more Step start new sure (whole_lines (read ++ bytes)) (whole_lines (read ++ (bytes ++ more))) a c (subst P (append_assoc read bytes more) (whole_lines-front (read ++ bytes) more)) (p start a sure read s)

-- ---- a read

Gathers-of : {S : Type 0} (Step : S → Option (List ℕ) → List ℕ → S → Type 0) (start machine : S) (a b : Pushed) (read : List ℕ) (held : Option (List ℕ)) (batch : Batch)
    → batch.bytes.items ≡ [] → batch.waits ≡ false → Stands Step start a read machine held b → Gathers Step start a (length (whole_lines read)) read machine held batch b
Gathers-of {S} Step start machine a b read held batch empty quiet s = record {
  lines = Gathered-of Step start machine (whole_lines read) batch a b empty quiet s.served;
  holds = s.holds;
}

-- all of it was processed, and no reply waits any more
TakesIn-flushed : {S : Type 0} (Step : S → Option (List ℕ) → List ℕ → S → Type 0) (old new : S) (held now : Option (List ℕ)) (x y : Batch) (b c d : Pushed) (bytes : List ℕ)
    → x.bytes.items ≡ [] → x.waits ≡ false → Feeds Step old held x b bytes true new now y c → FlushesBatch y c true d → TakesIn Step old held b bytes true new now d
TakesIn-flushed {S} Step old new held now x y b c d bytes empty quiet fed flushed = λ start a read s.
    let g = fed start a (length (whole_lines read)) read (Gathers-of Step start old a b read held x empty quiet s) in
    record {
      served = Gathered-flushed Step start new (length (whole_lines read)) (whole_lines (read ++ bytes)) y a c d g.lines flushed;
      holds = g.holds;
    }

-- all of it was processed, and then the sink failed
TakesIn-cut : {S : Type 0} (Step : S → Option (List ℕ) → List ℕ → S → Type 0) (old new : S) (held now : Option (List ℕ)) (x y : Batch) (b c d : Pushed) (bytes : List ℕ)
    → x.bytes.items ≡ [] → x.waits ≡ false → Feeds Step old held x b bytes true new now y c → FlushesBatch y c false d → TakesIn Step old held b bytes false new now d
TakesIn-cut {S} Step old new held now x y b c d bytes empty quiet fed cut = λ start a read s.
    let g = fed start a (length (whole_lines read)) read (Gathers-of Step start old a b read held x empty quiet s) in
    Gathered-cut Step start new (length (whole_lines read)) (whole_lines (read ++ bytes)) y a c d g.lines cut

pub TakesIn-done : {S : Type 0} (Step : S → Option (List ℕ) → List ℕ → S → Type 0) (old new : S) (held now : Option (List ℕ)) (x y : Batch) (b c d : Pushed) (bytes : List ℕ) (done : Bool)
    → x.bytes.items ≡ [] → x.waits ≡ false → Feeds Step old held x b bytes true new now y c → FlushesBatch y c done d → TakesIn Step old held b bytes done new now d
TakesIn-done {S} Step old new held now x y b c d bytes true empty quiet fed flushed = TakesIn-flushed Step old new held now x y b c d bytes empty quiet fed flushed
TakesIn-done {S} Step old new held now x y b c d bytes false empty quiet fed cut = TakesIn-cut Step old new held now x y b c d bytes empty quiet fed cut

-- the sink failed before all was processed
pub TakesIn-broken : {S : Type 0} (Step : S → Option (List ℕ) → List ℕ → S → Type 0) (old new : S) (held now : Option (List ℕ)) (x y : Batch) (b c : Pushed) (bytes : List ℕ)
    → x.bytes.items ≡ [] → x.waits ≡ false → Feeds Step old held x b bytes false new now y c → TakesIn Step old held b bytes false new now c
TakesIn-broken {S} Step old new held now x y b c bytes empty quiet fed = λ start a read s.
    fed start a (length (whole_lines read)) read (Gathers-of Step start old a b read held x empty quiet s)

-- ---- the end

some-held : (piece : List ℕ) → stored_line piece ≢ Some [] → piece ∷ [] ≡ if_not_empty piece
some-held [] h = absurd (h refl)
some-held (b ∷ bs) h = refl

-- an unfinished piece is stored
all_lines-last : (read : List ℕ) → stored_line (last_piece read) ≢ Some [] → whole_lines read ++ last_piece read ∷ [] ≡ all_lines read
all_lines-last read h = ap (λ lines. whole_lines read ++ lines) (some-held (last_piece read) h)

-- the last piece is answered, and its reply waits
Finishes-gathered : {S : Type 0} (Step : S → Option (List ℕ) → List ℕ → S → Type 0) (start old new : S) (held : Option (List ℕ)) (x y : Batch) (a b : Pushed) (read reply : List ℕ)
    → held ≢ Some [] → x.bytes.items ≡ [] → x.waits ≡ false → Step old held reply new → y.bytes.items ≡ x.bytes.items ++ reply → y.waits ≡ true → Stands Step start a read old held b
    → Gathered Step start (length (whole_lines read)) (all_lines read) new y a b
Finishes-gathered {S} Step start old new held x y a b read reply some empty quiet step grown waits s =
    let P : Option (List ℕ) → Type 0 = λ o. Step old o reply new in
    let Q : List (List ℕ) → Type 0 = λ lines. Gathered Step start (length (whole_lines read)) lines new y a b in
    subst Q (all_lines-last read (λ e. some (s.holds ∙ e)))
    (Gathered-push Step start old new (length (whole_lines read)) (whole_lines read) (last_piece read) reply x y a b (Gathered-of Step start old (whole_lines read) x a b empty quiet s.served) (subst P s.holds step) grown waits)

-- the reply is sent, or a prefix of it
pub Finishes-line : {S : Type 0} (Step : S → Option (List ℕ) → List ℕ → S → Type 0) (old new : S) (held : Option (List ℕ)) (x y : Batch) (b c : Pushed) (reply : List ℕ) (done : Bool)
    → held ≢ Some [] → x.bytes.items ≡ [] → x.waits ≡ false → Step old held reply new → y.bytes.items ≡ x.bytes.items ++ reply → y.waits ≡ true → FlushesBatch y b done c → Finishes Step old held b done new c
Finishes-line {S} Step old new held x y b c reply true some empty quiet step grown waits flushed = λ start a read s.
    Gathered-flushed Step start new (length (whole_lines read)) (all_lines read) y a b c (Finishes-gathered Step start old new held x y a b read reply some empty quiet step grown waits s) flushed
Finishes-line {S} Step old new held x y b c reply false some empty quiet step grown waits cut = λ start a read s.
    Gathered-cut Step start new (length (whole_lines read)) (all_lines read) y a b c (Finishes-gathered Step start old new held x y a b read reply some empty quiet step grown waits s) cut

nothing_held : (piece : List ℕ) (t : Bool) → (if t then Some piece else None) ≡ Some [] → piece ≡ []
nothing_held piece true h = cc
nothing_held piece false h = absurd cc

-- no piece is left
pub Finishes-none : {S : Type 0} (Step : S → Option (List ℕ) → List ℕ → S → Type 0) (machine : S) (held : Option (List ℕ)) (sink : Pushed) → held ≡ Some [] → Finishes Step machine held sink true machine sink
Finishes-none {S} Step machine held sink none = λ start a read s.
    let empty : last_piece read ≡ [] = nothing_held (last_piece read) (leb (length (last_piece read)) 1048576) (sym s.holds ∙ none) in
    let same : all_lines read ≡ whole_lines read = ap (λ piece. whole_lines read ++ if_not_empty piece) empty ∙ append-nil (whole_lines read) in
    let P : List (List ℕ) → Type 0 = λ lines. Serves Step start lines machine a sink in
    subst P (sym same) s.served
