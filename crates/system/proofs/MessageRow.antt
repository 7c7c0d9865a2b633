-- The row before a message's own type: what its type names, its data's length, and leading bytes.
use Rattle.std.proofs.Common.{ℕ, ◌≤◌, ◌<◌, arith, ◌≡◌, refl, sym, ap, ◌∙◌, Bool, true, false, ltb, length, length-drop, Ok}
use borrow.Author.Tests.{ltb-false, lt-ltb, le-ltb}
use Rattle.rules.specs.Words.{Bytes}
use Rattle.rules.specs.Table.{room, store}
use Rattle.rules.specs.Capabilities.{Kind, number}
use Rattle.rules.specs.Messages.{Named as Meaning, null, unknown, of_kind, greatest_message, data_of, minimum, overlong, leading_bytes}
use Rattle.rules.specs.Answers.{aa, e0, eb, e6, code_number, done, outcome}
use Rattle.rules.specs.Calls.{do_kind, format_row, named_row, do_named}
use Rattle.rules.specs.Source.{refused_reply, reply_of, minimum_of, OfType, Reply}
use Rattle.rules.specs.declared.Success.TheVariants.{Done}
use Rattle.rules.specs.declared.Kind.{Kind as Number}
use Rattle.messages.specs.Messages.{named_of, overlong_of}
use Rattle.messages.specs.declared.Named.{Named}
use Rattle.messages.specs.declared.Named.TheVariants.{Null, Unknown, Of}
use Rattle.messages.proofs.Types.{minimum-number, overlong-number}
use Rattle.storing.specs.declared.table.Table.{Table}
use Rattle.results.specs.Results.{Leaves}
use Rattle.results.proofs.Rows.{refusal, answers, leaves, refuses, passes, ends}
use Rattle.system.specs.System.{Acceptable}

-- what the source's case says of the type
pub record NamesType (m : Meaning) (n : ℕ) : Type 0 where
  pub kind : Kind
  pub is : m ≡ of_kind kind
  pub names : number kind ≡ n

module _ (m : Meaning) {r : Named} (e : r ≡ named_of m) where
  pub names-null : r ≡ Null → m ≡ null
  unfolding named_of
  names-null q = go m e
    where
      go : (m : Meaning) → r ≡ named_of m → m ≡ null
      go null e = refl
      go unknown e = let z : ◌≡◌ {A = ℕ} 0 1 = cc in absurd (omega (arith, z))
      go (of_kind kind) e = let z : ◌≡◌ {A = ℕ} 0 1 = cc in absurd (omega (arith, z))

  pub names-unknown : r ≡ Unknown → m ≡ unknown
  unfolding named_of
  names-unknown q = go m e
    where
      go : (m : Meaning) → r ≡ named_of m → m ≡ unknown
      go null e = let z : ◌≡◌ {A = ℕ} 0 1 = cc in absurd (omega (arith, z))
      go unknown e = refl
      go (of_kind kind) e = let z : ◌≡◌ {A = ℕ} 0 1 = cc in absurd (omega (arith, z))

  pub names-type : {k : Number} → r ≡ Of k → NamesType m k.0
  unfolding named_of
  names-type {k} q = go m e
    where
      go : (m : Meaning) → r ≡ named_of m → NamesType m k.0
      go null e = let z : ◌≡◌ {A = ℕ} 0 1 = cc in absurd (omega (arith, z))
      go unknown e = let z : ◌≡◌ {A = ℕ} 0 1 = cc in absurd (omega (arith, z))
      go (of_kind kind) e =
          let same : record { 0 = number kind } ≡ k = cc in
          record { kind = kind; is = refl; names = ap (λ (x : Number). x.0) same }

-- what the source finds of the data is what the rules say of it
module _ (d : Bytes) {m : Meaning} {n : ℕ} (named : NamesType m n) where
  is-short : {s b : Bool} → s ≡ ltb (length d) (minimum_of n) → s ≡ b → ltb (length d) (minimum named.kind) ≡ b
  is-short e q =
      let its-minimum = ap minimum_of (sym named.names) ∙ minimum-number named.kind in
      ap (ltb (length d)) (sym its-minimum) ∙ sym e ∙ q

  is-overlong : {o b : Bool} → o ≡ overlong_of n d → o ≡ b → overlong named.kind d ≡ b
  is-overlong e q = sym (overlong-number named.kind d) ∙ ap (λ (x : ℕ). overlong_of x d) named.names ∙ sym e ∙ q

  has-leading : {l b : Bool} → OfType n (λ k. l ≡ leading_bytes k d) → l ≡ b → leading_bytes named.kind d ≡ b
  has-leading e q = sym (e named.kind named.names) ∙ q

-- data that is not short and has no leading bytes is what the type's own row asks
pub acceptable : (d : Bytes) {m : Meaning} {n : ℕ} (named : NamesType m n) {s l : Bool} → s ≡ ltb (length d) (minimum_of n) → s ≡ false
    → OfType n (λ k. l ≡ leading_bytes k d) → l ≡ false → length d ≤ greatest_message → Acceptable n d
acceptable d named e not_short g leads not_longer =
    record {
      kind = named.kind;
      names = named.names;
      long = ltb-false (length d) (minimum named.kind) (is-short d named e not_short);
      not_longer = not_longer;
      leads = has-leading d named g leads;
    }

module _ (table : Table) (d code mask : Bytes) (m : Meaning) where
  abbrev t : Bytes
  t = table.bytes.now

  abbrev row : Reply → Table → Type 0
  row r after = Leaves (outcome t (do_named (room t) (store t) d code mask m)) r table after

  pub null-refused : m ≡ null → 0 < length d → row (refused_reply (code_number eb)) table
  unfolding format_row named_row
  null-refused q more = leaves table (rw (q, refuses (lt-ltb 0 (length d) more)) (refusal t eb))

  pub null-done : m ≡ null → length d ≤ 0 → row (Ok Done) table
  unfolding format_row named_row reply_of
  null-done q empty = leaves table (rw (q, passes (le-ltb 0 (length d) empty), ends) (answers t done))

  pub unknown-refused : m ≡ unknown → row (refused_reply (code_number aa)) table
  unfolding format_row named_row
  unknown-refused q = leaves table (rw (q, refuses refl) (refusal t aa))

  module _ {n : ℕ} (named : NamesType m n) {s : Bool} (e : s ≡ ltb (length d) (minimum_of n)) where
    pub short-refused : s ≡ true → row (refused_reply (code_number e0)) table
    unfolding format_row named_row
    short-refused q = leaves table (rw (named.is, refuses (is-short d named e q)) (refusal t e0))

    module _ (not_short : s ≡ false) {o : Bool} (v : o ≡ overlong_of n d) where
      pub overlong-refused : o ≡ true → row (refused_reply (code_number eb)) table
      unfolding format_row named_row
      overlong-refused q = leaves table (rw (named.is, passes (is-short d named e not_short), refuses (is-overlong d named v q)) (refusal t eb))

      module _ (not_overlong : o ≡ false) {l : Bool} (g : OfType n (λ k. l ≡ leading_bytes k d)) where
        pub leading-refused : l ≡ true → row (refused_reply (code_number e6)) table
        unfolding format_row named_row
        leading-refused q =
            leaves table
            (rw (named.is, passes (is-short d named e not_short), passes (is-overlong d named v not_overlong), refuses (has-leading d named g q))
            (refusal t e6))

        pub own_row : l ≡ false → {r : Reply} {after : Table} → OfType n (λ k. Leaves (outcome t (do_kind (room t) (store t) d code mask k)) r table after)
            → row r after
        unfolding format_row named_row
        own_row q f =
            rw (named.is, passes (is-short d named e not_short), passes (is-overlong d named v not_overlong), passes (has-leading d named g q))
            (f named.kind named.names)

-- the data is no longer than the message
pub data-short : (m : Bytes) → length m ≤ greatest_message → length (data_of m) ≤ greatest_message
unfolding data_of
data-short m h = omega (arith, length-drop 1 m)
