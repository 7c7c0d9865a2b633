-- What the four exported functions promise, for every input: every field of the struct and every byte of the table after.
use Rattle.std.specs.Prelude.{ℕ, ◌+◌, ◌≡◌, [], ◌∷◌, ◌++◌, length, take, drop}
use Rattle.rules.specs.Words.{Bytes}
use Rattle.rules.specs.Messages.{payload_at}
use Rattle.rules.specs.Answers.{Answer, refused, done, called, registered, looked, Fields, fields, Outcome}
use Rattle.rules.specs.Calls.{set_up, turn, look, system_call}
use Rattle.replies.specs.declared.Reply.{Reply}

-- the struct has room for two code bytes; those that the code does not have are zero
unfoldable pub padded : (code : Bytes) → Bytes
padded code = take 2 (code ++ (0 ∷ 0 ∷ []))

-- where in the message the payload begins, also if it is empty: data follows the type byte
unfoldable pub place_of : Answer → ℕ
place_of (refused c) = 0
place_of done = 0
place_of (called address payload) = 1 + payload_at
place_of (registered tests) = 0
place_of (looked value) = 0

-- the struct of an answer: document 01's fields, and for the payload its place and its length
unfoldable pub exported : Answer → Reply
exported a =
    record {
      tests = (fields a).tests;
      payload_at = place_of a;
      payload_len = length (fields a).payload;
      address = (fields a).address;
      value = (fields a).value;
      flag = (fields a).flag;
      code_len = length (fields a).code;
      code = padded (fields a).code;
    }

-- The promise of a call: the struct is the answer's, and the table after is as defined.
pub record Exports (o : Outcome) (r : Reply) (after : Bytes) : Type 0 where
  pub reply : r ≡ exported o.answer
  pub table : after ≡ o.table

-- of each call
abbrev pub SetUpExports : (table key address kernel_address : Bytes) → Reply → (after : Bytes) → Type 0
SetUpExports t k a ka r after = Exports (set_up t k a ka) r after

abbrev pub TurnExports : (table key : Bytes) → Reply → (after : Bytes) → Type 0
TurnExports t k r after = Exports (turn t k) r after

abbrev pub LookExports : (table slot_key : Bytes) → Reply → (after : Bytes) → Type 0
LookExports t k r after = Exports (look t k) r after

abbrev pub SystemCallExports : (table message code mask : Bytes) → Reply → (after : Bytes) → Type 0
SystemCallExports t m code mask r after = Exports (system_call t m code mask) r after

-- what a host reads of the struct and its own message
unfoldable pub read_back : (message : Bytes) → Reply → Fields
read_back m r =
    record {
      flag = r.flag;
      code = take r.code_len r.code;
      tests = r.tests;
      address = r.address;
      payload = take r.payload_len (drop r.payload_at m);
      value = r.value;
    }
