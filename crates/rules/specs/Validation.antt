-- Code validation at registration. "The mask alone decides."
use Rattle.std.specs.Prelude.{ℕ, zero, suc, ◌/◌, ◌%◌, ◌^◌, ◌-◌, [], ◌∷◌, Bool, true, false, ◌&&◌, eqb, leb, length, get_or}
use Rattle.rules.specs.Words.{Bytes}

-- "Code passes when it has 1 to 24,576 bytes"
abbrev pub greatest_code : ℕ
greatest_code = 24576

-- "The host fills the mask from section 5.1."; "opcode k is allowed when bit k mod 8 (lowest is 0) of byte k div 8 is set"
unfoldable pub allowed : (mask : Bytes) → (k : ℕ) → Bool
allowed mask k = eqb (get_or mask (k / 8) 0 / 2 ^ (k % 8) % 2) 1

-- "an opcode 60 to 7f (hex) is followed by 1 to 32 data bytes"
unfoldable pub data_bytes : (opcode : ℕ) → ℕ
data_bytes k = elim (leb 0x60 k && leb k 0x7f) [ true ↦ k - 0x5f | false ↦ 0 ]

-- "Walk the code from byte 0": `skip` bytes are data still, "which are skipped, and the end of code may cut them"
unfoldable pub walk : (mask : Bytes) → (skip : ℕ) → (code : Bytes) → Bool
walk mask skip [] = true
walk mask zero (k ∷ rest) = elim (allowed mask k) [ true ↦ walk mask (data_bytes k) rest | false ↦ false ]
walk mask (suc n) (b ∷ rest) = walk mask n rest

-- "Code passes when it has 1 to 24,576 bytes and every walked opcode is allowed."
unfoldable pub passes : (mask code : Bytes) → Bool
passes mask code = leb 1 (length code) && leb (length code) greatest_code && walk mask 0 code
