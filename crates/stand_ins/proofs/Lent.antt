-- The calls by which stand-ins are shown wrong, with the messages of the rules' examples. What they lend is computed to be bytes.
-- A table with room for 20 records is set up; the calls that follow are those below.
use mathlib.Core.Path.{◌≡◌, refl}
use mathlib.Core.List.{[], ◌∷◌}
use mathlib.Core.Bool.{Bool, true}
use lib.Dec.{ltb}
use lib.ListN.{replicate}
use borrow.Author.Tests.{ltb-true}
use Rattle.rules.specs.Words.{key_bytes, address_bytes, Bytes, AllBytes, bytes_of, word}
use Rattle.rules.specs.KernelStorage.{kernel_address_slot}
use Rattle.rules.specs.Sound.{all_of}
use Rattle.rules.specs.Calls.{set_up}
use Rattle.rules.specs.Examples.{K2, K3, mask_of_00_and_60, write_message, register_message, delete_message, write_then_set_entry, set_entry_then_too_much}
use Rattle.demands.specs.Kernels.{AnyCall, setting_up, LentBytes}
use Rattle.demands.specs.Worked.{sending}
use Rattle.demands.proofs.Computing.{computing}
use Rattle.stand_ins.specs.StandIns.{hide}
use Rattle.laws.proofs.Lists.{every_map, all_true}

-- the test that a list holds bytes only, and that it decides so
abbrev bytes_only : Bytes → Bool
bytes_only bs = all_of (λ b. ltb b 256) bs

all-bytes : (bs : Bytes) → bytes_only bs ≡ true → AllBytes bs
all-bytes bs e = every_map _ _ (λ b q. ltb-true b 256 q) bs (all_true (λ b. ltb b 256) bs e)

-- the set-up: an empty table, a key, an address and the kernel address
unfoldable pub empty : Bytes
empty = replicate 1280 0

unfoldable pub key : Bytes
key = bytes_of key_bytes 0x01

unfoldable pub address : Bytes
address = bytes_of address_bytes 0x11

unfoldable pub kernel_address : Bytes
kernel_address = bytes_of address_bytes 0x22

unfoldable pub start : Bytes
start = (set_up empty key address kernel_address).table

abbrev pub the_set_up : AnyCall
the_set_up = setting_up key address kernel_address

pub empty-bytes : AllBytes empty
unfolding computing empty
empty-bytes = all-bytes empty refl

pub start-bytes : AllBytes start
unfolding computing start empty key address kernel_address
start-bytes = all-bytes start refl

pub key-bytes : AllBytes key
unfolding computing key
key-bytes = all-bytes key refl

-- the same table with a record at its end, behind a gap of zeros
unfoldable pub hidden : Bytes
hidden = (hide (set_up empty key address kernel_address)).table

pub hidden-bytes : AllBytes hidden
unfolding computing hidden hide empty key address kernel_address
hidden-bytes = all-bytes hidden refl

pub set-up-lent : LentBytes the_set_up
unfolding computing key address kernel_address
set-up-lent = (all-bytes key refl, all-bytes address refl, all-bytes kernel_address refl)

-- a set-up that is refused: the key is zero
unfoldable pub no_key : Bytes
no_key = bytes_of key_bytes 0

pub refused-bytes : LentBytes (setting_up no_key address kernel_address)
unfolding computing no_key address kernel_address
refused-bytes = (all-bytes no_key refl, all-bytes address refl, all-bytes kernel_address refl)

sending-bytes : (m : Bytes) → bytes_only m ≡ true → LentBytes (sending m)
unfolding computing
sending-bytes m e = (all-bytes m e, all-bytes (0x00 ∷ []) refl, all-bytes mask_of_00_and_60 refl)

-- Null
unfoldable pub null : Bytes
null = 0 ∷ []

pub null-bytes : LentBytes (sending null)
unfolding computing null
null-bytes = sending-bytes null refl

-- Write of the value 1 at the address 5, and as the kernel address
unfoldable pub writing : Bytes
writing = write_message 5 1

pub writing-bytes : LentBytes (sending writing)
unfolding computing writing
writing-bytes = sending-bytes writing refl

unfoldable pub seizing : Bytes
seizing = write_message kernel_address_slot 1

pub seizing-bytes : LentBytes (sending seizing)
unfolding computing seizing
seizing-bytes = sending-bytes seizing refl

-- "Registering Write(1,1) and Set Entry reports 2 tests."
unfoldable pub permitted : Bytes
permitted = register_message K2 write_then_set_entry

pub permitted-bytes : LentBytes (sending permitted)
unfolding computing permitted
permitted-bytes = sending-bytes permitted refl

-- Set Entry, and Write(2^256−1, 1), which is within none held (P9)
unfoldable pub forbidden : Bytes
forbidden = register_message K2 set_entry_then_too_much

pub forbidden-bytes : LentBytes (sending forbidden)
unfolding computing forbidden
forbidden-bytes = sending-bytes forbidden refl

-- the procedures 2 and 3, without capabilities
unfoldable pub second : Bytes
second = register_message K2 []

pub second-bytes : LentBytes (sending second)
unfolding computing second
second-bytes = sending-bytes second refl

unfoldable pub third : Bytes
third = register_message K3 []

pub third-bytes : LentBytes (sending third)
unfolding computing third
third-bytes = sending-bytes third refl

-- Turn to the procedure 2, and its deletion
unfoldable pub second_key : Bytes
second_key = bytes_of key_bytes K2

pub second-key-bytes : AllBytes second_key
unfolding computing second_key
second-key-bytes = all-bytes second_key refl

unfoldable pub deleting : Bytes
deleting = delete_message K2

pub deleting-bytes : LentBytes (sending deleting)
unfolding computing deleting
deleting-bytes = sending-bytes deleting refl

-- Look at slot 0
unfoldable pub slot_zero : Bytes
slot_zero = word 0

pub slot-zero-bytes : AllBytes slot_zero
unfolding computing slot_zero
slot-zero-bytes = all-bytes slot_zero refl
