-- For callers: what `permits` asks of the key or address that a message names, and what its answer and that of `is_listed` say of a
-- row. The two checks for the index and for covering have one code, so `permits` decides both.
use Rattle.std.proofs.Common.{ℕ, ◌*◌, ◌^◌, ◌≤◌, arith, ◌≡◌, refl, sym, ap, ◌∙◌, List, ◌∷◌, Bool, true, false, not, ◌&&◌, length, leb-false}
use Rattle.rules.specs.Words.{Bytes, word_bytes, key_bytes, num}
use Rattle.rules.specs.Table.{store}
use Rattle.rules.specs.Capabilities.{Kind, write, number}
use Rattle.rules.specs.Procedures.{listed}
use Rattle.rules.specs.Messages.{key_too_long, key_word, write_address}
use Rattle.rules.specs.Answers.{Refusal, Result, refuse, Check, ◌⇒◌, judge}
use Rattle.rules.specs.Calls.{index_out_of_range, not_covering}
use Rattle.words.specs.Words.{Holds}
use Rattle.results.specs.Results.{NamesKey}
use Rattle.results.proofs.Rows.{either-refuses, both-pass}
use Rattle.acting.specs.Acting.{ActsOn, Permits}

-- a message acts on the key that it names, and a Write on its address
pub acts-on-key : (kind : Kind) {n : ℕ} → number kind ≡ n → {d x : Bytes} → NamesKey d → Holds word_bytes x (key_word d) → ActsOn n d x
unfolding key_too_long
acts-on-key kind q {d} {x} n h =
    record {
      kind = kind;
      names = q;
      long = omega (arith, n.long);
      key = λ other. rw h.number (leb-false (256 ^ key_bytes) (key_word d) n.fits);
    }

pub acts-on-address : {n : ℕ} → number write ≡ n → {d x : Bytes} → 3 * word_bytes ≤ length d → Holds word_bytes x (write_address d) → ActsOn n d x
acts-on-address q l h =
    record { kind = write; names = q; long = omega (arith, l); key = λ other. absurd (other refl) }

-- whether a key is listed, as the code found it of the bytes that hold the key
pub listed-judged : (t : Bytes) {key : Bytes} {y : ℕ} → Holds key_bytes key y → {l : Bool} → l ≡ listed (store t) (num key)
    → {b : Bool} → l ≡ b → listed (store t) y ≡ b
listed-judged t k e q = ap (listed (store t)) (sym k.number) ∙ sym e ∙ q

-- p is what `permits` answers for the word x, which holds y
module _ (t d : Bytes) (kind : Kind) (y : ℕ) {x : Bytes} (named : Holds word_bytes x y) {p : Bool}
    (e : Permits t d (number kind) (num x) p) where
  abbrev out : Bool
  out = index_out_of_range (store t) d kind

  abbrev uncovered : Bool
  uncovered = not_covering (store t) d kind y

  both : p ≡ (not out && not uncovered)
  both = e kind refl ∙ ap (λ z. not out && not (not_covering (store t) d kind z)) named.number

  pub not-permitted : p ≡ false → (c : Refusal) (cs : List Check) (result : Result) → judge (out ⇒ c ∷ uncovered ⇒ c ∷ cs) result ≡ refuse c
  not-permitted = either-refuses out uncovered both

  pub permitted : p ≡ true → (c : Refusal) (cs : List Check) (result : Result)
      → judge (out ⇒ c ∷ uncovered ⇒ c ∷ cs) result ≡ judge cs result
  permitted = both-pass out uncovered both
