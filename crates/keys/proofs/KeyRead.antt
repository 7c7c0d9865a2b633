-- A slot's key, read: each part is a quotient or a remainder of the key's number. In kernel storage the parts make up the whole,
-- so whether a key is that of a slot can be tested part by part.
use Rattle.std.proofs.Common.{ℕ, ◌+◌, ◌*◌, ◌/◌, ◌%◌, ◌^◌, ◌<◌, arith, mod-lt, div-add-mod', refl, sym, ap, ap₂, ◌∙◌, lit<, eqb-true}
use Rattle.std.proofs.Common.{rules, Fits, w8, length-take, length-drop, ◌≡◌, Bool, true, false, ◌&&◌, [], ◌∷◌, length, take, drop}
use Rattle.std.proofs.Common.{get_or, eqb, bytes_eq}
use native.Mathlib.Nat.{div-div-eq-div-mul}
use borrow.Author.Tests.{eqb-false}
use Rattle.std.proofs.lemmas.Slice.Eq.{bytes_eq-Decides}
use Rattle.std.proofs.lemmas.Bool.Decides.{Decides-eqb}
use Rattle.rules.specs.Words.{Bytes, AllBytes, word_bytes, num_after, num}
use Rattle.rules.specs.KernelStorage.{kernel_mark, in_kernel_storage, slot, ending, middle_of, end_second, end_third}
use Rattle.laws.proofs.Bools.{decide-false, tests-true, true-tests}
use Rattle.laws.proofs.Numerals.{all-bytes, num-injective}
use Rattle.laws.proofs.Slots.{Fits as SlotFits, slot-region, slot-middle, slot-end, ending-type, ending-middle, ending-last}
use Rattle.laws.proofs.Words.{take-bytes}
use Rattle.laws.proofs.Parts.{num-take, num-byte, num-part}
use Rattle.keys.specs.Keys.{MiddleOf, region_of, end_first}

module _ (key : Bytes) (size : length key ≡ word_bytes) (fits : (i : ℕ) → Fits w8 (get_or key i 0)) where
  bytes : AllBytes key
  bytes = all-bytes key (λ i. (fits i).fits)

  abbrev mark : Bytes
  mark = 0xff ∷ 0xff ∷ 0xff ∷ 0xff ∷ []

  pub mark-read : (r : Bool) → r ≡ bytes_eq mark (take 4 key) → r ≡ in_kernel_storage (num key)
  unfolding in_kernel_storage num num_after
  mark-read true e =
      let same : mark ≡ take 4 key = (bytes_eq-Decides mark (take 4 key)).0 (sym e) in
      sym ((Decides-eqb _ _).1 (sym (num-take key bytes 4 28 size) ∙ ap num (sym same)))
  mark-read false e =
      sym (decide-false _ (λ (q : eqb (num key / 256 ^ 28) kernel_mark ≡ true).
      let size_front : length (take 4 key) ≡ 4 = simp length-take (omega arith) in
      let number : num mark ≡ num (take 4 key) = sym ((Decides-eqb _ _).0 q) ∙ sym (num-take key bytes 4 28 size) in
      let same : mark ≡ take 4 key = num-injective mark (take 4 key) (sym size_front) (search rules) (take-bytes 4 key bytes) number in
      let yes = (bytes_eq-Decides mark (take 4 key)).1 same in cc))

  pub middle-read : MiddleOf (num key) (take 24 (drop 5 key))
  unfolding middle_of
  middle-read =
      record {
        size = simp (length-take, length-drop) (omega arith);
        number = num-part key bytes 5 24 3 size;
      }

  pub end-first-read : get_or key 29 0 ≡ end_first (num key)
  unfolding end_first
  end-first-read = num-byte key bytes 29 2 size

  pub end-second-read : get_or key 30 0 ≡ end_second (num key)
  unfolding end_second
  end-second-read = num-byte key bytes 30 1 size

  pub end-third-read : get_or key 31 0 ≡ end_third (num key)
  unfolding end_third
  end-third-read = num-byte key bytes 31 0 size ∙ omega arith

-- a key of kernel storage, put together again
end_whole : (k : ℕ) → ending (end_first k) (end_second k) (end_third k) ≡ k % 256 ^ 3
unfolding ending end_first end_second end_third
end_whole k = omega arith

key-whole : (k : ℕ) → in_kernel_storage k ≡ true → slot (region_of k) (middle_of k) (ending (end_first k) (end_second k) (end_third k)) ≡ k
unfolding slot region_of middle_of in_kernel_storage
key-whole k q =
    let mark : kernel_mark ≡ k / 256 ^ 27 / 256 = sym (eqb-true _ _ q) ∙ sym (div-div-eq-div-mul k (256 ^ 27) 256) in
    let front : kernel_mark * 256 + region_of k ≡ k / 256 ^ 3 / 256 ^ 24 =
    ap (λ (x : ℕ). x * 256 + region_of k) mark ∙ div-add-mod' (k / 256 ^ 27) 256 ∙ sym (div-div-eq-div-mul k (256 ^ 3) (256 ^ 24)) in
    let back : (kernel_mark * 256 + region_of k) * 256 ^ 24 + middle_of k ≡ k / 256 ^ 3 =
    ap (λ (x : ℕ). x * 256 ^ 24 + middle_of k) front ∙ div-add-mod' (k / 256 ^ 3) (256 ^ 24) in
    ap₂ (λ (x y : ℕ). x * 256 ^ 3 + y) back (end_whole k) ∙ div-add-mod' k (256 ^ 3)

end_second-byte : (k : ℕ) → end_second k < 256
unfolding end_second
end_second-byte k = omega arith

end_third-byte : (k : ℕ) → end_third k < 256
unfolding end_third
end_third-byte k = omega arith

parts-fit : (k : ℕ) → SlotFits (region_of k) (middle_of k) (ending (end_first k) (end_second k) (end_third k))
unfolding region_of middle_of
parts-fit k =
    record {
      region = mod-lt (k / 256 ^ 27) (lit< tt);
      middle = mod-lt (k / 256 ^ 3) (lit< tt);
      end = rw end_whole (mod-lt k (lit< tt));
    }

-- whether a key of kernel storage is that of a slot, tested by its parts
abbrev pub parts_same : (k region middle first second third : ℕ) → Bool
parts_same k r m a b c = eqb (region_of k) r && eqb (middle_of k) m && eqb (end_first k) a && eqb (end_second k) b && eqb (end_third k) c

module _ (k : ℕ) (inside : in_kernel_storage k ≡ true) {r m : ℕ} (a b c : ℕ) (f : SlotFits r m (ending a b c)) (hb : b < 256) (hc : c < 256) where
  parts-true : k ≡ slot r m (ending a b c) → parts_same k r m a b c ≡ true
  parts-true e =
      let whole = key-whole k inside ∙ e in
      let region = slot-region (parts-fit k) f whole in
      let middle = slot-middle (parts-fit k) f whole in
      let end = slot-end (parts-fit k) f whole in
      let second = end_second-byte k in
      let third = end_third-byte k in
      let first = ending-type (end_first k) (end_second k) (end_third k) a b c second hb third hc end in
      let next = ending-middle (end_first k) (end_second k) (end_third k) a b c second hb third hc end in
      let last = ending-last (end_first k) (end_second k) (end_third k) a b c second hb third hc end in
      search true-tests

  true-parts : parts_same k r m a b c ≡ true → k ≡ slot r m (ending a b c)
  true-parts q =
      let region : region_of k ≡ r = search tests-true in
      let middle : middle_of k ≡ m = search tests-true in
      let first : end_first k ≡ a = search tests-true in
      let second : end_second k ≡ b = search tests-true in
      let third : end_third k ≡ c = search tests-true in
      sym (key-whole k inside) ∙ rw (region, middle, first, second, third)

  pub same-slot : eqb k (slot r m (ending a b c)) ≡ parts_same k r m a b c
  same-slot = go (eqb k (slot r m (ending a b c))) refl
    where
      go : (x : Bool) → eqb k (slot r m (ending a b c)) ≡ x → x ≡ parts_same k r m a b c
      go true e = sym (parts-true (eqb-true _ _ e))
      go false e = sym (decide-false _ (λ q. eqb-false _ _ e (true-parts q)))
