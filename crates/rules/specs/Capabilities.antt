-- Capabilities: the five types, what one covers, and when one lies within another. A name says `kind` for one of these five, and
-- `type` for a number, which names one of them or none; document 01 calls both a type.
use Rattle.std.specs.Prelude.{ℕ, ◌+◌, ◌*◌, ◌/◌, ◌%◌, ◌^◌, ◌-◌, List, [], ◌∷◌, Bool, true, false, ◌&&◌, eqb, leb, get_or}
use Rattle.std.proofs.Math.Option.{Option, none, some}
use Rattle.rules.specs.Words.{key_bytes}

-- "Not built: .. Log (8) and Gas Send (9). Types 8 and 9 answer as unknown, in messages and in capabilities."
pub data Kind : Type 0 where
  call register delete set_entry write : Kind

abbrev pub kinds : List Kind
kinds = call ∷ register ∷ delete ∷ set_entry ∷ write ∷ []

-- "The type numbers are named once, with the type they describe"
unfoldable pub number : Kind → ℕ
number call = 3
number register = 4
number delete = 5
number set_entry = 6
number write = 7

-- the kind that a number names, if it names one
unfoldable pub kind_among : List Kind → (type : ℕ) → Option Kind
kind_among [] type = none
kind_among (kind ∷ more) type = elim (eqb (number kind) type) [ true ↦ some kind | false ↦ kind_among more type ]

unfoldable pub kind_of : (type : ℕ) → Option Kind
kind_of type = kind_among kinds type

-- how many words a capability of the type has ("each table of word counts is kept as a constant": WORDS of the source)
unfoldable pub word_count : Kind → ℕ
word_count call = 1
word_count register = 1
word_count delete = 1
word_count set_entry = 0
word_count write = 2

-- the most words that a type has
abbrev pub greatest_words : ℕ
greatest_words = 2

-- a capability is its words
abbrev pub Capability : Type 0
Capability = List ℕ

unfoldable pub word_of : Capability → ℕ → ℕ
word_of c k = get_or c k 0

-- "prefix s, 0 to 24 (bits)", amended by document 02, No. 2: "Prefixes now run from 0 to 192." So a prefix can reach a whole key.
unfoldable pub greatest_prefix : ℕ
greatest_prefix = 192

-- "byte 0: prefix s ..; bytes 1 to 7 unread, stored as sent; bytes 8 to 31: base key b"
unfoldable pub prefix : Capability → ℕ
prefix c = word_of c 0 / 256 ^ 31

unfoldable pub base : Capability → ℕ
base c = word_of c 0 % 256 ^ key_bytes

-- the first s bits of a key, "most significant first"
unfoldable pub first_bits : (s key : ℕ) → ℕ
first_bits s key = key / 2 ^ (8 * key_bytes - s)

-- "A prefix capability covers a key when its first s bits equal those of b"
unfoldable pub covers_key : Capability → ℕ → Bool
covers_key c key = eqb (first_bits (prefix c) key) (first_bits (prefix c) (base c))

-- "B lies within A when B's s is at least A's and the first A-prefix bits of the two bases are equal (001 compares unlike lengths;
-- read it so)"
unfoldable pub within_prefix : (b a : Capability) → Bool
within_prefix b a = leb (prefix a) (prefix b) && eqb (first_bits (prefix a) (base b)) (first_bits (prefix a) (base a))

-- Write: "base a, additional n"; "Write covers address x when a ≤ x ≤ a+n."
unfoldable pub covers_address : Capability → ℕ → Bool
covers_address c x = leb (word_of c 0) x && leb x (word_of c 0 + word_of c 1)

-- "B lies within A when B.a ≥ A.a and B.a+B.n ≤ A.a+A.n. These sums are whole numbers and never wrap."
unfoldable pub within_range : (b a : Capability) → Bool
within_range b a = leb (word_of a 0) (word_of b 0) && leb (word_of b 0 + word_of b 1) (word_of a 0 + word_of a 1)

-- what a capability of a type covers: a key, or for Write an address. Set Entry has no data, and its row asks for no cover.
unfoldable pub covers : Kind → Capability → ℕ → Bool
covers call c x = covers_key c x
covers register c x = covers_key c x
covers delete c x = covers_key c x
covers set_entry c x = true
covers write c x = covers_address c x

-- B lies within A, both of one type: "types never cover each other". Set Entry: "all equal".
unfoldable pub within : Kind → (b a : Capability) → Bool
within call b a = within_prefix b a
within register b a = within_prefix b a
within delete b a = within_prefix b a
within set_entry b a = true
within write b a = within_range b a

-- the prefix of a capability, if its type has one, is at most `greatest`
unfoldable pub prefix_up_to : (greatest : ℕ) → Kind → Capability → Bool
prefix_up_to greatest call c = leb (prefix c) greatest
prefix_up_to greatest register c = leb (prefix c) greatest
prefix_up_to greatest delete c = leb (prefix c) greatest
prefix_up_to greatest set_entry c = true
prefix_up_to greatest write c = true

-- "every prefix is in range"
abbrev pub prefix_in_range : Kind → Capability → Bool
prefix_in_range = prefix_up_to greatest_prefix
