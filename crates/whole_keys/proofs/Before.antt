-- A prefix of at most 24 bits is one of at most 192, and the clauses of soundness differ in the range of prefixes alone.
-- On both sides of the old limit soundness and prefixes are computed; a sound table whose prefixes are all short was sound.
use Prim.Native.Nat.{ℕ, ◌≤◌}
use native.Mathlib.Omega.{arith}
use native.Mathlib.Nat.{le_trans}
use mathlib.Core.Path.{◌≡◌, refl, sym, ◌∙◌}
use mathlib.Core.Bool.{Bool, true, false, true≢false}
use lib.Dec.{leb}
use borrow.Author.Tests.{leb-true, le-leb}
use Rattle.rules.specs.Words.{Bytes}
use Rattle.rules.specs.Table.{Store, store}
use Rattle.rules.specs.Capabilities.{Kind, call, register, delete, set_entry, write, kinds, Capability, prefix, greatest_prefix, prefix_up_to}
use Rattle.rules.specs.Procedures.{list_length, key_at, count_of, held, capability, InList}
use Rattle.rules.specs.Sound.{SoundUpTo, all_of, all_places, sound_table}
use Rattle.rules.proofs.Lists.{◌also◌}
use Rattle.rules.proofs.Computing.{computing}
use Rattle.laws.proofs.Lists.{all_true, places-true}
use Rattle.laws.proofs.KindFacts.{kinds-true}
use Rattle.laws.proofs.Procedures.{held-each}
use Rattle.laws.proofs.TableDecides.{sound_table-true}
use Rattle.whole_keys.specs.Before.{greatest_prefix_before, SoundTableBefore, SoundBeforeIsSoundAfter, PrefixesEndedAt24}

-- every counted capability of every listed procedure has a prefix of at most `greatest`
abbrev PrefixesUpTo : (greatest : ℕ) → Store → Type 0
PrefixesUpTo greatest s = (n : ℕ) → InList s n → (kind : Kind) (i : ℕ) → 1 ≤ i → i ≤ count_of s (key_at s n) kind
    → prefix_up_to greatest kind (capability s (key_at s n) kind i) ≡ true

-- soundness with another range of prefixes, if they are in it
with-range : {greatest other : ℕ} {s : Store} → SoundUpTo greatest s → PrefixesUpTo other s → SoundUpTo other s
with-range h prefixes =
    record {
      at_least_one = h.at_least_one;
      keys = h.keys;
      distinct = h.distinct;
      addresses = h.addresses;
      indexes = h.indexes;
      counts = h.counts;
      current_listed = h.current_listed;
      entry_listed = h.entry_listed;
      kernel_address_fits = h.kernel_address_fits;
      prefixes = prefixes;
      nothing_else = h.nothing_else;
    }

-- What was in range is in range, so what was sound is sound.
longer : (c : Capability) {m n : ℕ} → m ≤ n → leb (prefix c) m ≡ true → leb (prefix c) n ≡ true
longer c {m} {n} more q = le-leb (prefix c) n (le_trans (leb-true (prefix c) m q) more)

in-longer-range : {m n : ℕ} → m ≤ n → (kind : Kind) (c : Capability) → prefix_up_to m kind c ≡ true → prefix_up_to n kind c ≡ true
unfolding prefix_up_to
in-longer-range more call c q = longer c more q
in-longer-range more register c q = longer c more q
in-longer-range more delete c q = longer c more q
in-longer-range more set_entry c q = refl
in-longer-range more write c q = refl

before-in-range : greatest_prefix_before ≤ greatest_prefix
unfolding greatest_prefix
before-in-range = leb-true greatest_prefix_before greatest_prefix refl

pub sound-before-is-sound-after : SoundBeforeIsSoundAfter
sound-before-is-sound-after t h =
    record {
      form = h.form;
      sound = with-range h.sound (λ n in_list kind i first last.
          in-longer-range before-in-range kind _ (h.sound.prefixes n in_list kind i first last));
    }

-- The old limit. Whether every prefix of a store is in the range as it was:
unfoldable short_prefixes : Store → Bool
short_prefixes s =
    all_places (λ n. all_of (λ kind. all_of (prefix_up_to greatest_prefix_before kind) (held s (key_at s n) kind)) kinds) (list_length s)

all_short : (s : Store) → short_prefixes s ≡ true → PrefixesUpTo greatest_prefix_before s
unfolding short_prefixes
all_short s short n in_list kind =
    let here = places-true _ _ short n in_list.first in_list.last in
    held-each (λ c. prefix_up_to greatest_prefix_before kind c ≡ true) s (key_at s n) kind (all_true _ _ (kinds-true _ here kind))

-- a table that passes the test in force, and whose prefixes are all short, was sound
was-sound : (t : Bytes) → sound_table t ≡ true → short_prefixes (store t) ≡ true → SoundTableBefore t
was-sound t q short =
    let h = sound_table-true t q in record { form = h.form; sound = with-range h.sound (all_short (store t) short) }

-- a table that was not: the first capability that the first procedure holds of some type is out of the range as it was
was-not : (t : Bytes) (kind : Kind) → leb 1 (count_of (store t) (key_at (store t) 1) kind) ≡ true
    → prefix_up_to greatest_prefix_before kind (capability (store t) (key_at (store t) 1) kind 1) ≡ false → SoundTableBefore t → ⊥
was-not t kind some long h =
    let one : InList (store t) 1 = record { first = omega arith; last = h.sound.at_least_one } in
    true≢false (sym (h.sound.prefixes 1 one kind 1 (omega arith) (leb-true _ _ some)) ∙ long)

pub prefixes-ended-at-24 : PrefixesEndedAt24
unfolding computing short_prefixes
prefixes-ended-at-24 = (
  was-sound _ refl refl also was-sound _ refl refl also was-sound _ refl refl also tt,
  was-not _ call refl refl also was-not _ register refl refl also was-not _ delete refl refl also tt,
  sound_table-true _ refl also sound_table-true _ refl also sound_table-true _ refl also tt,
)
