-- Words and byte order. Bytes are read as one whole number, most significant first ("both big-endian").
-- A word is a number below 2^256, written as 32 bytes. Sums of words are whole numbers and never wrap.
--
-- A key to the signs, for all these files:
--   a ≡ b, a ≢ b       a equals b; a does not equal b
--   A × B, A ⊎ B       A and B; A or B
--   A → B              if A then B; of a definition: it takes an A and gives a B
--   (x : ℕ) → B        for every whole number x: B
--   ⊥, Unit            what never holds, and what always does; A → ⊥: A does not hold
--   λ x. e             e, for whichever x is given
--   elim (test) [ true ↦ a | false ↦ b ]    a if the test holds, otherwise b
--   elim (o) [ none ↦ a | some x ↦ b ]      a if there is none, otherwise b, of the x that there is
--   eqb, ltb, leb      the tests: equal, less, less or equal
--   not a, a && b, a || b                   the tests: a does not hold; both hold; one of the two holds
--   A ↔ B              A exactly if B
--   x ∷ xs, xs ++ ys   first x, then the list xs; first the list xs, then the list ys. The list [] is empty.
--   take n xs, drop n xs                    the first n of the list xs; what follows them
--   r.name             the part of r that has this name; `record` gives all parts, `data` lists the cases
--   ℕ, suc n, 0x8005   the whole numbers from 0 on; n + 1; a number in hex
--   s'                 another s, as it is after a call, say
--   module _ (s : Store) where              what is indented below is said of any store s
--   condition ⇒ code, row then result       a check, and a row of checks with what it comes to: see Answers
--   use, mod, infix, abbrev, unfoldable, pub, {x : A}, Type 0       for the prover; a reader may skip them
--   x / 256 ^ n        drops the last n bytes of x
--   x % 256 ^ n        keeps them
--   x / 2 ^ n          drops the last n bits of x
--   num, bytes_of      from bytes to their number, and back: 01 02 is 258, and 258 in 2 bytes is 01 02
-- The last four lines are proved by example: `BytesAreNumbers` of Examples.
--
-- Some sentences have a test of the same name in lower case: `RecordForm` and `record_form`, `Ascending` and `ascending`, `Listed`
-- and `listed`, `IsKey` and `is_key`, `IsAddress` and `is_address`, `Belongs` and `belongs`, `Sound` and `sound`, `SoundTable` and
-- `sound_table`. The calls use the tests; the laws show that test and sentence say the same, of `listed` and `Listed` in a
-- sound store, which is where the calls ask.
--
-- "This statement decides where they differ": where the Beaker texts differ from document 01 or from each other, these files say
-- what 01 says. What document 02 has changed of it is quoted where it stands.
use Rattle.std.specs.Prelude.{ℕ, zero, suc, ◌+◌, ◌*◌, ◌/◌, ◌%◌, ◌<◌, ◌≡◌, ◌⊎◌, List, [], ◌∷◌, Bool, true, false, eqb, take, drop}

-- "keys of procedures 24 bytes, addresses 20, slot keys and the opcode mask 32"; "Words are 32 bytes"
abbrev pub key_bytes : ℕ
key_bytes = 24

abbrev pub address_bytes : ℕ
address_bytes = 20

abbrev pub word_bytes : ℕ
word_bytes = 32

abbrev pub Bytes : Type 0
Bytes = List ℕ

-- something holds of every element of a list
abbrev pub Every : {A : Type 0} → (A → Type 0) → List A → Type 0
Every P [] = Unit {0}
Every P (x ∷ xs) = P x × Every P xs

-- x is one of a list
abbrev pub OneOf : {A : Type 0} → A → List A → Type 0
OneOf x [] = ⊥
OneOf x (y ∷ ys) = (x ≡ y) ⊎ OneOf x ys

-- what the host lends: each element is a byte
abbrev pub AllBytes : Bytes → Type 0
AllBytes bs = Every (λ b. b < 256) bs

-- the number that bytes stand for, behind a number that was read before them
unfoldable pub num_after : ℕ → Bytes → ℕ
num_after a [] = a
num_after a (b ∷ bs) = num_after (a * 256 + b) bs

unfoldable pub num : Bytes → ℕ
num bs = num_after 0 bs

-- the n bytes of a number, put in front of bytes that follow
unfoldable pub bytes_before : ℕ → ℕ → Bytes → Bytes
bytes_before zero x bs = bs
bytes_before (suc n) x bs = bytes_before n (x / 256) (x % 256 ∷ bs)

unfoldable pub bytes_of : ℕ → ℕ → Bytes
bytes_of n x = bytes_before n x []

-- a word as its 32 bytes
unfoldable pub word : ℕ → Bytes
word x = bytes_of word_bytes x

-- the word that begins at a byte offset
unfoldable pub word_at : Bytes → ℕ → ℕ
word_at bs at = num (take word_bytes (drop at bs))

-- the first n words of bytes
unfoldable pub words : ℕ → Bytes → List ℕ
words zero bs = []
words (suc n) bs = num (take word_bytes bs) ∷ words n (drop word_bytes bs)

-- two byte lists are the same
unfoldable pub same_bytes : Bytes → Bytes → Bool
same_bytes [] [] = true
same_bytes [] (y ∷ ys) = false
same_bytes (x ∷ xs) [] = false
same_bytes (x ∷ xs) (y ∷ ys) = elim (eqb x y) [ true ↦ same_bytes xs ys | false ↦ false ]
