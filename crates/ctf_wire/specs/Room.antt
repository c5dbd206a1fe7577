-- Room for replies after a batch, and the effect of a reply. Source: ours.
use Rattle.std.specs.Prelude.{◌≡◌, ℕ, ◌+◌, ◌≤◌, ◌++◌, List, Vec, vec_len, vec_capacity}
use Rattle.std.specs.declared.alloc.Global.{Global}

-- there is room for the reply to any change, any refusal, and an answer of at most 131,072 bytes
abbrev pub HasReplyRoom : Vec ℕ Global → Type 0
HasReplyRoom out = vec_len out + 131072 ≤ vec_capacity out

-- the reply was appended, and no room was lost
pub record Replies (old : Vec ℕ Global) (reply : List ℕ) (new : Vec ℕ Global) : Type 0 where
  pub items : new.items ≡ old.items ++ reply
  pub grows : vec_capacity old ≤ vec_capacity new
