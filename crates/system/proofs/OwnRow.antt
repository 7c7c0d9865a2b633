-- The row of a message's own type. A number names one type, so what is asked and shown of the type is asked and shown of the number.
use Rattle.std.proofs.Common.{ℕ, ◌*◌, ◌≤◌, ◌≡◌, sym, ◌∙◌, subst, false, length}
use Rattle.rules.specs.Words.{Bytes, word_bytes}
use Rattle.rules.specs.Table.{room, store}
use Rattle.rules.specs.Capabilities.{Kind, call, register, delete, set_entry, write, number}
use Rattle.rules.specs.Messages.{minimum, leading_bytes, key_too_long, address_too_long}
use Rattle.rules.specs.Answers.{outcome}
use Rattle.rules.specs.Calls.{do_kind}
use Rattle.rules.specs.Source.{OfType, Reply}
use Rattle.laws.proofs.Bools.{or_left, or_right}
use Rattle.laws.proofs.KindFacts.{number-inj}
use Rattle.registering.specs.Registering.{NamesProcedure}
use Rattle.storing.specs.declared.table.Table.{Table}
use Rattle.results.specs.Results.{NamesKey, Leaves}
use Rattle.system.specs.System.{Acceptable}

module _ {n : ℕ} {d : Bytes} (a : Acceptable n d) where
  -- the type that a number names
  named-long : (kind : Kind) → n ≡ number kind → minimum kind ≤ length d
  named-long kind q = subst (λ (k : Kind). minimum k ≤ length d) (number-inj a.kind kind (a.names ∙ q)) a.long

  named-leads : (kind : Kind) → n ≡ number kind → leading_bytes kind d ≡ false
  named-leads kind q = subst (λ (k : Kind). leading_bytes k d ≡ false) (number-inj a.kind kind (a.names ∙ q)) a.leads

  pub call-names : n ≡ number call → NamesKey d
  unfolding minimum leading_bytes
  call-names q = record { long = named-long call q; fits = named-leads call q }

  pub delete-names : n ≡ number delete → NamesKey d
  unfolding minimum leading_bytes
  delete-names q = record { long = named-long delete q; fits = named-leads delete q }

  pub set-entry-names : n ≡ number set_entry → NamesKey d
  unfolding minimum leading_bytes
  set-entry-names q = record { long = named-long set_entry q; fits = named-leads set_entry q }

  pub register-names : n ≡ number register → NamesProcedure d
  unfolding minimum leading_bytes
  register-names q =
      record {
        long = named-long register q;
        not_longer = a.not_longer;
        key_fits = or_left (key_too_long d) (address_too_long d) (named-leads register q);
        address_fits = or_right (key_too_long d) (address_too_long d) (named-leads register q);
      }

  -- no other type is left
  pub is-write : (n ≡ number call → ⊥) → (n ≡ number register → ⊥) → (n ≡ number delete → ⊥) → (n ≡ number set_entry → ⊥) → n ≡ number write
  is-write c r e s = go a.kind a.names
    where
      go : (kind : Kind) → number kind ≡ n → n ≡ number write
      go call q = absurd (c (sym q))
      go register q = absurd (r (sym q))
      go delete q = absurd (e (sym q))
      go set_entry q = absurd (s (sym q))
      go write q = sym q

  pub write-long : n ≡ number write → 3 * word_bytes ≤ length d
  unfolding minimum
  write-long q = named-long write q

-- what is shown of a kind is shown of its number
pub shown-of-kind : (table : Table) (d code mask : Bytes) (kind : Kind) {n : ℕ} → n ≡ number kind → {r : Reply} {after : Table}
    → (let t = table.bytes.now in Leaves (outcome t (do_kind (room t) (store t) d code mask kind)) r table after)
    → (let t = table.bytes.now in OfType n (λ k. Leaves (outcome t (do_kind (room t) (store t) d code mask k)) r table after))
shown-of-kind table d code mask kind e {r} {after} g k q =
    let t = table.bytes.now in
    subst (λ (x : Kind). Leaves (outcome t (do_kind (room t) (store t) d code mask x)) r table after) (sym (number-inj k kind (q ∙ e))) g
