-- What the code asks of a type by its number: whether there is one, and how many words it has.
use Rattle.std.proofs.Common.{ℕ, ◌≤◌, ◌≡◌, refl, sym, ◌∙◌, true, false, true≢false, arith}
use Rattle.std.proofs.Math.Option.{Option as Maybe, none, some}
use Rattle.rules.specs.Capabilities.{Kind, call, register, delete, set_entry, write, number, kind_of, word_count}
use Rattle.rules.specs.Source.{is_type, words_of}
use Rattle.rules.proofs.Source.{names-none}
use Rattle.laws.proofs.KindFacts.{kind_of-some}

pub data Names (n : ℕ) : Type 0 where
  names : (kind : Kind) → kind_of n ≡ some kind → Names n

pub named : (n : ℕ) → is_type n ≡ true → Names n
unfolding is_type
named n q = go (kind_of n) refl
  where
    go : (o : Maybe Kind) → kind_of n ≡ o → Names n
    go none e = absurd (true≢false (sym q ∙ rw (e, is_type)))
    go (some kind) e = names kind e

pub named-known : (n : ℕ) (kind : Kind) → kind_of n ≡ some kind → is_type n ≡ true
unfolding is_type
named-known n kind e = rw (e, is_type)

-- a number that fits no byte is no type's
pub large-number : (n : ℕ) → 256 ≤ n → is_type n ≡ false
unfolding is_type
large-number n h = let none_named = names-none n (omega arith) in rw (none_named, is_type)

pub named-words : (n : ℕ) (kind : Kind) → kind_of n ≡ some kind → words_of n ≡ word_count kind
unfolding words_of
named-words n kind e = rw (e, words_of)

-- Call, Register and Delete have one word
one_word : (kind : Kind) → number kind ≤ 5 → word_count kind ≡ 1
unfolding number word_count
one_word call h = refl
one_word register h = refl
one_word delete h = refl
one_word set_entry h = absurd (omega arith)
one_word write h = absurd (omega arith)

pub prefix-word : (n : ℕ) → is_type n ≡ true → n ≤ 5 → words_of n ≡ 1
prefix-word n q h = go (named n q)
  where
    go : Names n → words_of n ≡ 1
    go (names kind e) = named-words n kind e ∙ one_word kind (omega (arith, kind_of-some n kind e))
