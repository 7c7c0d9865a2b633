-- Each return is a place in the row.
-- The returns in order: 66 e4 (three); 66 e7; done.
use Rattle.std.proofs.Common.{rules}
use Rattle.rules.specs.Words.{key_bytes, address_bytes}
use Rattle.rules.specs.Answers.{code_number}
use Rattle.laws.proofs.Numerals.{all-bytes}
use Rattle.laws.proofs.Words.{num-fits}
use Rattle.starting.proofs.StartRow.{Lent, key-zero, address-zero, kernel-zero, set-up-no-room, set-up-lent, set-up-done}
use Rattle.starting.proofs.set_up_fresh.Goals as goal
use Rattle.starting.proofs.set_up_fresh.Goals.{After-is_zero}

lent : (c : After-is_zero) → Lent c.args.t.now c.args.key.now c.args.address.now c.args.kernel_address.now
lent c =
    record {
      fits = c.requires;
      key = num-fits key_bytes _ (all-bytes c.args.key.now c.fits-key) c.told-key;
      address = num-fits address_bytes _ (all-bytes c.args.address.now c.fits-address) c.told-address;
      kernel_address = num-fits address_bytes _ (all-bytes c.args.kernel_address.now c.fits-kernel_address) c.told-kernel_address;
    }

pub returns-then-is_zero : goal.returns-then-is_zero
unfolding code_number
returns-then-is_zero c = key-zero (lent (goal.at.returns-then-is_zero c).After-is_zero) c.is_zero.ensures c.if-is_zero.true

pub returns-then-is_zero-2 : goal.returns-then-is_zero-2
unfolding code_number
returns-then-is_zero-2 c =
    address-zero (lent (goal.at.returns-then-is_zero-2 c).After-is_zero) c.is_zero.ensures c.if-is_zero.false
    c.is_zero-2.ensures c.if-is_zero-2.true

pub returns-then-is_zero-3 : goal.returns-then-is_zero-3
unfolding code_number
returns-then-is_zero-3 c =
    kernel-zero (lent (goal.at.returns-then-is_zero-3 c).After-is_zero) c.is_zero.ensures c.if-is_zero.false
    c.is_zero-2.ensures c.if-is_zero-2.false c.is_zero-3.ensures c.if-is_zero-3.true

pub returns-then-t-lt-FIRST_ROOM : goal.returns-then-t-lt-FIRST_ROOM
unfolding code_number
returns-then-t-lt-FIRST_ROOM c =
    set-up-no-room (lent (goal.at.returns-then-t-lt-FIRST_ROOM c).After-is_zero) c.is_zero.ensures c.if-is_zero.false
    c.is_zero-2.ensures c.if-is_zero-2.false c.is_zero-3.ensures c.if-is_zero-3.false (search rules)

pub found-requires : goal.found-requires
found-requires c =
    set-up-lent (lent (goal.at.found-requires c).After-is_zero) c.is_zero.ensures c.if-is_zero.false
    c.is_zero-2.ensures c.if-is_zero-2.false c.is_zero-3.ensures c.if-is_zero-3.false (search rules)

pub returns : goal.returns
returns c =
    set-up-done (lent (goal.at.returns c).After-is_zero) c.is_zero.ensures c.if-is_zero.false
    c.is_zero-2.ensures c.if-is_zero-2.false c.is_zero-3.ensures c.if-is_zero-3.false (search rules) c.found.ensures
