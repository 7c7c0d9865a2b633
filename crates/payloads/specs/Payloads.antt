-- What `payload` promises, for every message and reply: the part that it returns.
use Rattle.std.specs.Prelude.{◌≡◌}
use Rattle.rules.specs.Words.{Bytes}
use Rattle.rules.specs.Source.{Reply, fields_of}

-- the payload of a reply to a message
abbrev pub PayloadPromise : (message : Bytes) → Reply → (payload : Bytes) → Type 0
PayloadPromise m reply payload = payload ≡ (fields_of reply m).payload
