-- One slot of a sound table set to a value. The current and the entry slot hold a key, so another takes no more room.
use Rattle.std.proofs.Common.{ℕ, ◌*◌, ◌≤◌, ◌≡◌, true, length}
use Rattle.rules.specs.Table.{record_size, put, store}
use Rattle.rules.specs.KernelStorage.{current_slot, entry_slot}
use Rattle.rules.specs.Procedures.{current, entry_key}
use Rattle.rules.specs.Sound.{sound_table}
use Rattle.laws.proofs.Procedures.{listed-non_zero}
use Rattle.storing.proofs.Chain.{start, room-for-present}
use Rattle.storing.specs.declared.table.Table.{Table}
use Rattle.acting.proofs.Holder.{sound-store}

module _ (table : Table) (g : sound_table table.bytes.now ≡ true) where
  pub current-room : (x : ℕ) → record_size * length (put (store table.bytes.now) current_slot x) ≤ length table.bytes.now
  unfolding current
  current-room x =
      let sound = sound-store table.bytes.now g in
      room-for-present (start table) current_slot x (listed-non_zero (store table.bytes.now) sound _ sound.current_listed)

  pub entry-room : (x : ℕ) → record_size * length (put (store table.bytes.now) entry_slot x) ≤ length table.bytes.now
  unfolding entry_key
  entry-room x =
      let sound = sound-store table.bytes.now g in
      room-for-present (start table) entry_slot x (listed-non_zero (store table.bytes.now) sound _ sound.entry_listed)
