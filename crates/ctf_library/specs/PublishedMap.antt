-- A session's publications, if it ever had any. Source: ours.
use Rattle.std.specs.Prelude.{Box, List, None, Option, Some, []}
use Rattle.std.specs.declared.alloc.Global.{Global}
use Rattle.ctf_protocol.specs.sessions.State.{Publication}

abbrev pub publications_in : Option (Box (List Publication) Global) → List Publication
publications_in None = []
publications_in (Some map) = map.value
