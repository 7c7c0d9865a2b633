-- What the functions that judge a table's soundness ask and promise, where the rules have no name for it.
use Rattle.std.specs.Prelude.{ℕ, ◌≤◌, ◌≡◌, Bool, true, false, ◌&&◌, Result, Ok, Err, length}
use Rattle.rules.specs.Words.{Bytes}
use Rattle.rules.specs.Table.{Store, store}
use Rattle.rules.specs.Procedures.{list_length, kernel_address, current, entry_key, listed}
use Rattle.rules.specs.Sound.{is_key, is_address, sound_table}
use Rattle.finding.specs.declared.Records.{Records}
use Rattle.rules.specs.Answers.{ef, code_number}
use Rattle.rules.specs.declared.Refusal.{Refusal as Code}

-- a table whose list has `places` places, where only a key is listed
pub record SoundList (table : Records) (places : ℕ) : Type 0 where
  pub all : places ≡ list_length (store table.bytes.now)
  pub short : places ≤ table.used
  pub keys : (p : ℕ) → listed (store table.bytes.now) p ≡ true → is_key p ≡ true

-- what is asked besides the list and the procedures
unfoldable pub rest_sound : Store → Bool
rest_sound s = listed s (current s) && listed s (entry_key s) && is_address (kernel_address s)

-- how many records are occupied, or the refusal of a table that is not sound
unfoldable pub soundness_of : Bytes → Result ℕ Code
soundness_of t = elim (sound_table t) [ true ↦ Ok (length (store t)) | false ↦ Err (record { 0 = code_number ef }) ]
