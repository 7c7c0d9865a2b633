-- Set-up looks only at the table's length: so every table of full size becomes the one that the rules name.
use Rattle.std.proofs.Common.{ℕ, ◌≡◌, sym, ap, ◌∙◌, length, replicate}
use Rattle.std.proofs.Math.ListN.{length-replicate}
use Rattle.rules.specs.Words.{Bytes, key_bytes, address_bytes, bytes_of, num}
use Rattle.rules.specs.Table.{greatest_table, Store, bytes}
use Rattle.rules.specs.Answers.{done, Result, change, outcome, ◌then◌}
use Rattle.rules.specs.Calls.{set_up_row, set_up, fresh}
use Rattle.rules.proofs.Computing.{computing}
use Rattle.rules.specs.Program.{program_table}

abbrev key : Bytes
key = bytes_of key_bytes 0x01

abbrev address : Bytes
address = bytes_of address_bytes 0x11

abbrev kernel_address : Bytes
kernel_address = bytes_of address_bytes 0x22

abbrev made : Store
made = fresh (num key) (num address) (num kernel_address)

-- a full_size table has room for the 13 records
row-passes : (t : Bytes) → length t ≡ greatest_table → (set_up_row t key address kernel_address then change done made) ≡ change done made
unfolding computing
row-passes t e = rw e

full_size : (t : Bytes) → length t ≡ greatest_table → (set_up t key address kernel_address).table ≡ bytes greatest_table made
unfolding set_up outcome
full_size t e = ap (λ (r : Result). (outcome t r).table) (row-passes t e) ∙ ap (λ (n : ℕ). bytes n made) e

pub first-table : (t : Bytes) → length t ≡ greatest_table → (set_up t key address kernel_address).table ≡ program_table
unfolding program_table
first-table t e = full_size t e ∙ sym (full_size (replicate greatest_table 0) (length-replicate {A = ℕ} greatest_table 0))
