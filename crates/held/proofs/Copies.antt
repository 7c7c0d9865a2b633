-- Copies of held capabilities. One that is put behind the first i stands there, and those before it stand as they did, so a
-- reading comes further by one.
use Rattle.std.proofs.Common.{ℕ, ◌+◌, ◌*◌, ◌-◌, ◌≤◌, ◌<◌, arith, ◌≡◌, refl, sym, ap, ◌∙◌, Bool, true, false, ◌++◌, ltb, length, take, drop, length-drop, take-append-drop, take_at, drop_at, length-take-le, ltb-true, ltb-false}
use lib.Seq.{take-append-le, drop-append-le}
use borrow.Rule.Slice.PartMut.{put_mid, post_of}
use Rattle.rules.specs.Words.{Bytes}
use Rattle.rules.specs.Table.{Store}
use Rattle.rules.specs.Procedures.{capability}
use Rattle.rules.specs.Source.{OfType}
use Rattle.rights.specs.Rights.{capability_in}
use Rattle.holding.specs.Holding.{CapabilityOf}
use Rattle.held.specs.Held.{copy_in, Reached, Unread, ReachedBehind}
use Rattle.held.specs.declared.Held.{Held}

-- Where none is read, any bytes will do.
pub unread-reached : {s : Store} {p n : ℕ} {h : Held} → Unread s p n h → Reached s p h
unread-reached u = record { number = rw u.type u.number; held = λ i h. absurd (omega (arith, u.none)) }

-- A copy as a part of a slice arrives.
pub copy-part : (copies : Bytes) (i : ℕ) → take (64 * i + 64 - 64 * i) (drop (64 * i) copies) ≡ copy_in copies i
copy-part copies i = let one : 64 * i + 64 - 64 * i ≡ 64 = omega arith in rw one

-- Copies before the end of the front, and the one behind it.
copy-in-front : (front rest : Bytes) (i : ℕ) → 64 * i + 64 ≤ length front → copy_in (front ++ rest) i ≡ copy_in front i
copy-in-front front rest i h =
    ap (take 64) (drop-append-le (64 * i) front rest (omega arith))
    ∙ take-append-le 64 (drop (64 * i) front) rest (simp length-drop (omega arith))

copy-behind : (front bs rest : Bytes) (i : ℕ) → length front ≡ 64 * i → length bs ≡ 64 → copy_in (front ++ (bs ++ rest)) i ≡ bs
copy-behind front bs rest i h l = ap (take 64) (drop_at front (bs ++ rest) (64 * i) h) ∙ take_at bs rest 64 l

-- bytes put behind the first i copies
abbrev pub copies_with : (copies : Bytes) → (i : ℕ) → (bs : Bytes) → Bytes
copies_with copies i bs = put_mid (64 * i) (64 * i + 64 - 64 * i) copies bs

module _ (copies : Bytes) (i : ℕ) (h : 64 * i + 64 ≤ length copies) (bs : Bytes) (l : length bs ≡ 64) where
  front_length : length (take (64 * i) copies) ≡ 64 * i
  front_length = length-take-le (64 * i) copies (omega arith)

  put-there : copy_in (copies_with copies i bs) i ≡ bs
  put-there = copy-behind (take (64 * i) copies) bs (post_of (64 * i) (64 * i + 64 - 64 * i) copies) i front_length l

  kept-before : (j : ℕ) → j < i → copy_in (copies_with copies i bs) j ≡ copy_in copies j
  kept-before j k =
      let inside : 64 * j + 64 ≤ length (take (64 * i) copies) = omega (arith, front_length) in
      copy-in-front (take (64 * i) copies) (bs ++ post_of (64 * i) (64 * i + 64 - 64 * i) copies) j inside
      ∙ sym (copy-in-front (take (64 * i) copies) (drop (64 * i) copies) j inside)
      ∙ ap (λ (x : Bytes). copy_in x j) (take-append-drop (64 * i) copies)

-- The reading comes further by the one that is put there.
module _ {s : Store} {p : ℕ} {h : Held} (g : Reached s p h) {i : ℕ} (all : i ≤ h.read) (fits : 64 * i + 64 ≤ length h.copies)
    {before bs : Bytes} (c : CapabilityOf s p h.kind.0 (i + 1) before bs) where
  now-held : (j : ℕ) → j < i + 1
      → OfType h.kind.0 (λ kind. capability_in kind (copy_in (copies_with h.copies i bs) j) ≡ capability s p kind (j + 1))
  now-held j l = go (ltb j i) refl
    where
      go : (t : Bool) → ltb j i ≡ t
          → OfType h.kind.0 (λ kind. capability_in kind (copy_in (copies_with h.copies i bs) j) ≡ capability s p kind (j + 1))
      go true e kind q =
          let earlier = ltb-true j i e in
          ap (capability_in kind) (kept-before h.copies i fits bs c.size j earlier) ∙ g.held j (omega arith) kind q
      go false e kind q =
          let here : j ≡ i = omega (arith, ltb-false j i e) in
          rw here (ap (capability_in kind) (put-there h.copies i fits bs c.size) ∙ c.is kind q)

  pub reached-behind : {next : ℕ}
      → ReachedBehind s p h.kind.0 i
      (record { copies = copies_with h.copies i bs; kind = h.kind; number = h.number; read = i + 1; next = next })
  reached-behind =
      record {
        type = refl;
        reached = record { number = g.number; held = now-held };
        behind = omega arith;
      }
