-- A number of more than one digit is the number before its last digit, then that digit. Where a number fits 64 bits, the rules' decimal
-- is std's, so its length is known.
use Rattle.std.proofs.Common.{◌≡◌, ℕ, zero, suc, ◌+◌, ◌/◌, ◌%◌, ◌≤◌, ◌<◌, [], ◌∷◌, ◌++◌, length, ap, ◌∙◌, append-nil, length-append, arith}
use Rattle.std.proofs.lemmas.Fmt.{PrependsLastDigit, decimal_from_prepends, decimal_digit, length-decimal-le, length-decimal-le_succ}
use Rattle.std.specs.Fmt.{decimal as std_decimal}
use Rattle.rules.specs.Words.{Bytes}
use Rattle.rules.specs.Program.{decimal_before, decimal}

before-last : PrependsLastDigit decimal_before
unfolding decimal_before
before-last = record { one = λ k n acc h. grind arith; more = λ k n acc h. grind arith }

is-std : (n : ℕ) → n < 18446744073709551616 → decimal n ≡ std_decimal n
unfolding decimal
is-std n h =
    decimal_from_prepends decimal_before before-last (suc n) n [] (omega arith) (omega (arith, length-decimal-le_succ n (omega arith)))
    ∙ append-nil (std_decimal n)

pub decimal-one : (n : ℕ) → n < 10 → decimal n ≡ (0x30 + n % 10) ∷ []
decimal-one n h = let e : n ≡ n % 10 = omega arith in is-std n (omega arith) ∙ decimal_digit n h ∙ rw (← e)

-- What follows stands behind. The steps that `decimal_before` is given do not matter, as long as they are more than the number.
behind : (f g n : ℕ) (ds es : Bytes) → n < f → n < g → decimal_before f n (ds ++ es) ≡ decimal_before g n ds ++ es
unfolding decimal_before
behind zero g n ds es l m = absurd (omega arith)
behind (suc f) zero n ds es l m = absurd (omega arith)
behind (suc f) (suc g) n ds es l m = grind (arith, behind f g (n / 10) ((0x30 + n % 10) ∷ ds) es)

pub decimal-more : (n : ℕ) → 10 ≤ n → decimal n ≡ decimal (n / 10) ++ ((0x30 + n % 10) ∷ [])
unfolding decimal
decimal-more n h = before-last.more n n [] h ∙ behind n (suc (n / 10)) (n / 10) [] _ (omega arith) (omega arith)

pub decimal-longer : (n : ℕ) → 10 ≤ n → length (decimal n) ≡ length (decimal (n / 10)) + 1
decimal-longer n h = ap length (decimal-more n h) ∙ length-append (decimal (n / 10)) _

pub decimal-fits : (n : ℕ) → n < 18446744073709551616 → length (decimal n) ≤ 20
decimal-fits n h = rw (is-std n h) (length-decimal-le 20 n (omega arith) (omega arith) (omega arith))
