-- Kernel storage (001 section 2): a key of it is ff ff ff ff, the region, the middle, the end.
use Rattle.std.specs.Prelude.{ℕ, ◌+◌, ◌*◌, ◌/◌, ◌%◌, ◌^◌, Bool, eqb}
use Rattle.rules.specs.Words.{key_bytes}

-- "Kernel storage is every key whose first four bytes are ff ff ff ff."
abbrev pub kernel_mark : ℕ
kernel_mark = 0xffffffff

unfoldable pub in_kernel_storage : ℕ → Bool
in_kernel_storage k = eqb (k / 256 ^ 28) kernel_mark

-- "Byte 4 is the region, bytes 5 to 28 the middle, bytes 29 to 31 the end"
unfoldable pub slot : (region middle end : ℕ) → ℕ
slot region middle end = ((kernel_mark * 256 + region) * 256 ^ key_bytes + middle) * 256 ^ 3 + end

-- the middle of a key, and its bytes 30 and 31
unfoldable pub middle_of : ℕ → ℕ
middle_of k = k / 256 ^ 3 % 256 ^ key_bytes

unfoldable pub end_second : ℕ → ℕ
end_second k = k / 256 % 256

unfoldable pub end_third : ℕ → ℕ
end_third k = k % 256

-- an end of three bytes
unfoldable pub ending : (a b c : ℕ) → ℕ
ending a b c = (a * 256 + b) * 256 + c

-- The rows of the document's table; addresses, indexes and keys stand right in their values. ("If Table 3 places address or index
-- at another end, Table 3 decides": it prints both right. "Section 4.7 prints the entry slot without the ff bytes; Table 1
-- decides.") Region 00, middle the procedure's key:
-- end 00 00 00, the contract address
unfoldable pub address_slot : (procedure : ℕ) → ℕ
address_slot p = slot 0 p (ending 0 0 0)

-- end 00 00 01, the procedure index
unfoldable pub index_slot : (procedure : ℕ) → ℕ
index_slot p = slot 0 p (ending 0 0 1)

-- end type 00 00, the number of capabilities of that type
unfoldable pub count_slot : (procedure type : ℕ) → ℕ
count_slot p type = slot 0 p (ending type 0 0)

-- end type i k, word k, from 0, of the i-th capability, i from 1
unfoldable pub word_slot : (procedure type i k : ℕ) → ℕ
word_slot p type i k = slot 0 p (ending type i k)

-- region 01: the list length in the middle 0, the n-th procedure key in the middle n, from 1
unfoldable pub length_slot : ℕ
length_slot = slot 1 0 0

unfoldable pub place_slot : (n : ℕ) → ℕ
place_slot n = slot 1 n 0

-- regions 02, 03, 04: "kernel address; current key; entry key"
unfoldable pub kernel_address_slot : ℕ
kernel_address_slot = slot 2 0 0

unfoldable pub current_slot : ℕ
current_slot = slot 3 0 0

unfoldable pub entry_slot : ℕ
entry_slot = slot 4 0 0
