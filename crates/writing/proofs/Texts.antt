-- Texts in a buffer: nothing is one, and two that follow each other are one. Bytes in hex, a byte at a time.
use Rattle.std.proofs.Common.{◌≡◌, ℕ, suc, ◌+◌, ◌*◌, ◌/◌, ◌%◌, ◌-◌, ◌≤◌, ◌<◌, [], ◌∷◌, ◌++◌, length, take, drop, get_or, set, refl, sym, ap, ◌∙◌, add-one, append_assoc, append-nil, length-append, length-take, length-drop, arith}
use Rattle.std.proofs.Math.Nat.{add-zero}
use Rattle.std.proofs.Math.ListN.{length-set, drop_of_length-le}
use Rattle.std.proofs.Math.Seq.{drop-cons, take-suc-set, take_all, drop-drop}
use Rattle.std.proofs.lemmas.Slice.{take-put_mid, drop-put_mid}
use borrow.Rule.Slice.PartMut.{put_mid}
use Rattle.rules.specs.Words.{Bytes}
use Rattle.rules.specs.Program.{hex_digit, hex}
use Rattle.writing.specs.declared.text.Text.{Text}
use Rattle.writing.specs.Wrote.{Wrote}

pub wrote_none : (x : Text) → Wrote x [] x
wrote_none x = record { same_reference = refl; size = refl; ends = sym (add-zero x.end); front = sym (append-nil (take x.end x.bytes.now)); rest = refl }

pub wrote_both : {x y z : Text} {a b : Bytes} → Wrote x a y → Wrote y b z → Wrote x (a ++ b) z
wrote_both {x} {y} {z} {a} {b} w v =
    let along : (l : Bytes) → drop z.end l ≡ drop (length b) (drop y.end l) = λ l. (ap (λ n. drop n l) v.ends ∙ sym (drop-drop (length b) y.end l)) in
    record {
      same_reference = v.same_reference ∙ w.same_reference;
      size = v.size ∙ w.size;
      ends = simp length-append (omega (arith, w.ends, v.ends));
      front = v.front ∙ ap (λ (l : Bytes). l ++ b) w.front ∙ append_assoc (take x.end x.bytes.now) a b;
      rest = v.rest ∙ along y.bytes.now ∙ ap (drop (length b)) w.rest ∙ sym (along x.bytes.now);
    }

-- what is put into the buffer's part that begins where the text ends is one
pub wrote-part : {x z : Text} {part : Bytes} → z.bytes.ghost_name ≡ x.bytes.ghost_name → z.bytes.now ≡ put_mid x.end (z.end - x.end) x.bytes.now part
    → z.end ≡ x.end + length part → z.end ≤ length x.bytes.now → Wrote x part z
wrote-part {x} {z} {part} same b e within =
    let n : ℕ = z.end - x.end in
    let long : length part ≡ n = omega arith in
    record {
      same_reference = same;
      size = rw b (simp (length-append, length-take, length-drop) (omega arith));
      ends = e;
      front = rw b (take-put_mid x.end n x.bytes.now part z.end e (omega arith));
      rest = rw b (drop-put_mid x.end n x.bytes.now part z.end (omega arith) (omega arith) long);
    }

pub hex-length : (bs : Bytes) → length (hex bs) ≡ 2 * length bs
unfolding hex
hex-length [] = refl
hex-length (x ∷ bs) = let more = hex-length bs in omega arith

-- the loop: the digits of the first i bytes are in their place, and those of the others are what is left
pub record Hexed (bytes out : Bytes) (i : ℕ) : Type 0 where
  pub size : length out ≡ 2 * length bytes
  pub front : take (2 * i) out ++ hex (drop i bytes) ≡ hex bytes

pub hexed-more : {bytes out : Bytes} {i high low : ℕ} → Hexed bytes out i → i < length bytes
    → high ≡ hex_digit (get_or bytes i 0 / 16) → low ≡ hex_digit (get_or bytes i 0 % 16)
    → Hexed bytes (set (set out (2 * i) high) (2 * i + 1) low) (i + 1)
unfolding hex
hexed-more {bytes} {out} {i} {high} {low} x h p q =
    let here : drop i bytes ≡ get_or bytes i 0 ∷ drop (i + 1) bytes = drop-cons bytes i 0 h ∙ rw (add-one i) refl in
    let twice : 2 * (i + 1) ≡ suc (suc (2 * i)) = omega arith in
    let a : 2 * i < length out = omega (arith, x.size) in
    let b : suc (2 * i) < length (set out (2 * i) high) = simp length-set (omega (arith, x.size)) in
    record {
      size = simp length-set x.size;
      front = rw (twice, add-one (2 * i), take-suc-set (set out (2 * i) high) (suc (2 * i)) low b, take-suc-set out (2 * i) high a, append_assoc, append_assoc, p, q)
          (sym (ap (λ (l : Bytes). take (2 * i) out ++ hex l) here) ∙ x.front);
    }

pub hexed-all : {bytes out : Bytes} {i : ℕ} → Hexed bytes out i → length bytes ≤ i → out ≡ hex bytes
unfolding hex
hexed-all {bytes} {out} {i} x h =
    let none_left : drop i bytes ≡ [] = drop_of_length-le bytes h in
    sym (take_all (2 * i) out (omega (arith, x.size))) ∙ sym (append-nil (take (2 * i) out)) ∙ (rw none_left at x.front)
