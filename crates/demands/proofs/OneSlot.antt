-- Turn, Set Entry and Write store one record. A listed key in the current or the entry slot keeps the store sound and makes it
-- no longer, since each of the two slots holds a key already; outside kernel storage any value keeps it sound.
use Prim.Native.Nat.{ℕ, ◌≤◌}
use native.Mathlib.Omega.{arith}
use native.Mathlib.Nat.{le_trans}
use mathlib.Core.Path.{◌≡◌, sym, ap, ◌∙◌}
use mathlib.Core.Bool.{true, false, true≢false}
use lib.ListN.{length}
use Rattle.rules.specs.Table.{Store, get, put}
use Rattle.rules.specs.KernelStorage.{in_kernel_storage, current_slot, entry_slot}
use Rattle.rules.specs.Procedures.{current, entry_key, Listed}
use Rattle.laws.proofs.Stores.{get-put-same, get-put-other, put-ascending, put-no-longer}
use Rattle.laws.proofs.Slots.{slot-in_kernel_storage, fixed, regions-apart}
use Rattle.laws.proofs.Procedures.{Good, short, listed-non_zero}
use Rattle.demands.proofs.Frame.{framed}

-- the two slots differ and lie in kernel storage
current-apart : current_slot ≡ entry_slot → ⊥
unfolding current_slot entry_slot
current-apart = regions-apart (fixed 3 (omega arith)) (fixed 4 (omega arith)) (λ q. omega arith)

pub current-in : in_kernel_storage current_slot ≡ true
unfolding current_slot
current-in = slot-in_kernel_storage (fixed 3 (omega arith))

pub entry_in : in_kernel_storage entry_slot ≡ true
unfolding entry_slot
entry_in = slot-in_kernel_storage (fixed 4 (omega arith))

pub kernel-apart : (x k : ℕ) → in_kernel_storage x ≡ false → in_kernel_storage k ≡ true → k ≡ x → ⊥
kernel-apart x k out in_k q = true≢false (sym in_k ∙ ap in_kernel_storage q ∙ out)

module _ (n : ℕ) (s : Store) (g : Good n s) where
  -- a record that reaches no slot of kernel storage but these two, and leaves listed keys in them
  one-keeps : (x v : ℕ)
      → ((k : ℕ) → in_kernel_storage k ≡ true → (k ≡ current_slot → ⊥) → (k ≡ entry_slot → ⊥) → k ≡ x → ⊥)
      → length (put s x v) ≤ n → Listed s (get (put s x v) current_slot) → Listed s (get (put s x v) entry_slot) → Good n (put s x v)
  unfolding current entry_key
  one-keeps x v apart fits current_listed entry_listed =
      record {
        ascending = put-ascending 0 s x v (omega arith) g.ascending;
        fits = fits;
        room = g.room;
        sound = framed s (put s x v) g.sound (short g) (λ k in_k d d'. get-put-other s x v k (apart k in_k d d'))
            current_listed entry_listed;
      }

  -- a slot that holds a listed key is present
  key_fits : (x v : ℕ) → Listed s (get s x) → length (put s x v) ≤ n
  key_fits x v l = le_trans (put-no-longer 0 s x v g.ascending (listed-non_zero s g.sound _ l)) g.fits

  -- a slot that holds a listed key, after a store into it and after one into another slot
  same-listed : (x p : ℕ) → Listed s p → Listed s (get (put s x p) x)
  same-listed x p l = rw (get-put-same 0 s x p g.ascending) l

  other-listed : (x v k : ℕ) → (k ≡ x → ⊥) → Listed s (get s k) → Listed s (get (put s x v) k)
  other-listed x v k d l = rw (get-put-other s x v k d) l

  current-listed : Listed s (get s current_slot)
  current-listed = unfold current in g.sound.current_listed

  entry_listed : Listed s (get s entry_slot)
  entry_listed = unfold entry_key in g.sound.entry_listed

  pub turn-keeps : (p : ℕ) → Listed s p → Good n (put s current_slot p)
  turn-keeps p l =
      one-keeps current_slot p (λ k in_k d d'. d) (key_fits current_slot p current-listed)
      (same-listed current_slot p l)
      (other-listed current_slot p entry_slot (λ q. current-apart (sym q)) entry_listed)

  pub set_entry-keeps : (p : ℕ) → Listed s p → Good n (put s entry_slot p)
  set_entry-keeps p l =
      one-keeps entry_slot p (λ k in_k d d'. d') (key_fits entry_slot p entry_listed)
      (other-listed entry_slot p current_slot current-apart current-listed)
      (same-listed entry_slot p l)

  pub write_keeps : (x v : ℕ) → in_kernel_storage x ≡ false → length (put s x v) ≤ n → Good n (put s x v)
  write_keeps x v out fits =
      one-keeps x v (λ k in_k d d'. kernel-apart x k out in_k) fits
      (other-listed x v current_slot (kernel-apart x current_slot out current-in) current-listed)
      (other-listed x v entry_slot (kernel-apart x entry_slot out entry_in) entry_listed)
