-- The struct by the cases of the kernel's reply, as the code builds it.
use Rattle.std.specs.Prelude.{ℕ, ◌+◌, length, [], ◌∷◌, Ok, Err}
use Rattle.rules.specs.Words.{Bytes}
use Rattle.rules.specs.Messages.{payload_at}
use Rattle.rules.specs.Answers.{no_address, no_value, code_bytes}
use Rattle.rules.specs.Source.{Reply as KernelReply}
use Rattle.rules.specs.declared.Success.TheVariants.{Done, Called, Registered, Looked}
use Rattle.replies.specs.declared.Reply.{Reply}
use Rattle.replies.specs.Exports.{padded}

abbrev pub refusal_of : (code : Bytes) → Reply
refusal_of code =
    record {
      tests = 0;
      payload_at = 0;
      payload_len = 0;
      address = no_address;
      value = no_value;
      flag = 0;
      code_len = length code;
      code = padded code;
    }

abbrev pub success_of : (tests payload_place payload_length : ℕ) → (address value : Bytes) → Reply
success_of n at len a v =
    record { tests = n; payload_at = at; payload_len = len; address = a; value = v; flag = 1; code_len = 0; code = 0 ∷ 0 ∷ [] }

-- the struct of a reply with the length of its payload
unfoldable pub struct_of : KernelReply → (payload_length : ℕ) → Reply
struct_of (Ok Done) len = success_of 0 0 0 no_address no_value
struct_of (Ok (Called a)) len = success_of 0 (1 + payload_at) len a no_value
struct_of (Ok (Registered n)) len = success_of n 0 0 no_address no_value
struct_of (Ok (Looked v)) len = success_of 0 0 0 no_address v
struct_of (Err c) len = refusal_of (code_bytes c.0)
