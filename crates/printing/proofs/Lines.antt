-- The parts of a printed line: each field after its space, and the flag before the fields.
use Rattle.std.proofs.Common.{◌≡◌, ℕ, ◌+◌, ◌*◌, ◌-◌, ◌/◌, ◌%◌, ◌≤◌, ◌<◌, Bool, true, false, ltb, [], ◌∷◌, length, length-drop, take, drop, refl, ap, ◌∙◌, arith}
use borrow.Author.Tests.{ltb-true, ltb-false}
use Rattle.std.proofs.Math.Seq.{take_all}
use Rattle.std.proofs.lemmas.Nat.{div-add-mod'}
use Rattle.rules.specs.Words.{Bytes}
use Rattle.rules.specs.Answers.{code_bytes, Answer, refused, done, called, registered, looked}
use Rattle.rules.specs.Program.{space, hex, decimal, spaced, printed}
use Rattle.rules.specs.Source.{reply_of}
use Rattle.rules.proofs.Source.{one_byte, two_bytes}
use Rattle.writing.specs.declared.text.Text.{Text}
use Rattle.writing.specs.Wrote.{Wrote}
use Rattle.writing.proofs.Texts.{wrote_both, hex-length}
use Rattle.decimals.proofs.Decimals.{decimal-fits}
use Rattle.printing.specs.Printing.{printed_flag, printed_fields, printed_reply}

-- bytes after a space
pub spaced-none : (bs : Bytes) → length bs ≡ 0 → spaced bs ≡ []
unfolding spaced
spaced-none [] h = refl
spaced-none (b ∷ bs) h = absurd (omega arith)

pub spaced-some : (bs : Bytes) → (length bs ≡ 0 → ⊥) → spaced bs ≡ space ∷ hex bs
unfolding spaced
spaced-some [] h = absurd (h refl)
spaced-some (b ∷ bs) h = refl

-- a code's bytes are the last of its two digits
abbrev pub two_digits : ℕ → Bytes
two_digits n = n / 256 % 256 ∷ n % 256 ∷ []

code-end : (n : ℕ) → n < 65536 → {k : ℕ} → k ≡ length (code_bytes n) → drop (2 - k) (two_digits n) ≡ code_bytes n
code-end n f {k} e = go (ltb n 256) refl
  where
    go : (b : Bool) → ltb n 256 ≡ b → drop (2 - k) (two_digits n) ≡ code_bytes n
    go true t =
        let one = one_byte n (ltb-true n 256 t) in
        let first : 2 - k ≡ 1 = omega (arith, e, ap length one) in
        let low : n % 256 ≡ n = omega (arith, ltb-true n 256 t) in
        rw (first, one, low) refl
    go false t =
        let two = two_bytes n (ltb-false n 256 t) in
        let none : 2 - k ≡ 0 = omega (arith, e, ap length two) in
        let high : n / 256 % 256 ≡ n / 256 = omega (arith, div-add-mod' n 256, div-add-mod' (n / 256) 256) in
        rw (none, two, high) refl

pub code-some : (n : ℕ) → (length (code_bytes n) ≡ 0 → ⊥) × (length (code_bytes n) ≤ 2)
code-some n = go (ltb n 256) refl
  where
    go : (b : Bool) → ltb n 256 ≡ b → (length (code_bytes n) ≡ 0 → ⊥) × (length (code_bytes n) ≤ 2)
    go true t = let long = ap length (one_byte n (ltb-true n 256 t)) in (λ z. omega (arith, z, long), omega (arith, long))
    go false t = let long = ap length (two_bytes n (ltb-false n 256 t)) in (λ z. omega (arith, z, long), omega (arith, long))

-- they are what the slice from there on has
pub digits-from : (n : ℕ) {bs : Bytes} {k j : ℕ} → bs ≡ two_digits n → j ≡ k → take (2 - (2 - j)) (drop (2 - j) bs) ≡ drop (2 - k) (two_digits n)
digits-from n {k = k} e q = rw (e, q) (take_all (2 - (2 - k)) (drop (2 - k) (two_digits n)) (simp length-drop (omega arith)))

-- each field, with the most characters that it has
module _ {x y z : Text} (w : Wrote x (space ∷ []) y) where
  pub wrote-spaced : (bs : Bytes) → (length bs ≡ 0 → ⊥) → Wrote y (hex bs) z → Wrote x (spaced bs) z × (z.end ≤ x.end + (1 + 2 * length bs))
  wrote-spaced bs h v = (rw (spaced-some bs h) (wrote_both w v), omega (arith, w.ends, v.ends, hex-length bs))

  pub wrote-number : (n : ℕ) → n < 18446744073709551616 → Wrote y (decimal n) z → Wrote x (space ∷ decimal n) z × (z.end ≤ x.end + 21)
  wrote-number n h v = (wrote_both w v, omega (arith, w.ends, v.ends, decimal-fits n h))

  pub wrote-code : (n : ℕ) → n < 65536 → {k : ℕ} → k ≡ length (code_bytes n) → {bs : Bytes} → bs ≡ drop (2 - k) (two_digits n)
      → Wrote y (hex bs) z → Wrote x (spaced (code_bytes n)) z × (z.end ≤ x.end + 5)
  wrote-code n f {k} e {bs} b v =
      let last = b ∙ code-end n f e in
      let some = code-some n in (
        rw (spaced-some (code_bytes n) some.0) (rw last at (wrote_both w v)),
        omega (arith, w.ends, v.ends, hex-length bs, ap length last, some.1),
      )

-- what is printed for an answer's reply is what the rules print for the answer
unfoldable pub payload_in : Answer → Bytes
payload_in (refused c) = []
payload_in done = []
payload_in (called a p) = p
payload_in (registered n) = []
payload_in (looked v) = []

pub printed-reply : (a : Answer) → printed_reply (reply_of a) (payload_in a) ≡ printed a
unfolding printed_reply reply_of printed_flag printed_fields payload_in printed
printed-reply (refused c) = refl
printed-reply done = refl
printed-reply (called a p) = refl
printed-reply (registered n) = refl
printed-reply (looked v) = refl
