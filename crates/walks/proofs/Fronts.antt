-- Keys of kernel storage as numbers: they begin at the first slot, and region 00 ends before the list length.
-- There a key is its front, which names the procedure, and its end of three bytes.
use Rattle.std.proofs.Common.{ℕ, suc, ◌+◌, ◌*◌, ◌/◌, ◌%◌, ◌-◌, ◌^◌, ◌≤◌, ◌<◌, arith, div-add-mod', ◌≡◌, refl, sym, ap, ◌∙◌, true, lit<, eqb-true, eq-eqb}
use Rattle.rules.specs.KernelStorage.{kernel_mark, in_kernel_storage, slot, ending, middle_of, end_second, end_third, length_slot, place_slot}
use Rattle.laws.proofs.Numbers.{digits_div, digits_mod}
use Rattle.laws.proofs.Slots.{fixed, slot-less-region}
use Rattle.keys.specs.Keys.{end_first}
use Rattle.walks.specs.Walks.{first_slot, front_of}

between : (d m k : ℕ) → m * d ≤ k → k < suc m * d → k / d ≡ m
between d m k h l =
    let rest : k ≡ m * d + (k - m * d) = omega arith in
    ap (λ (x : ℕ). x / d) rest ∙ digits_div d m (k - m * d) (omega arith)

below : (d m k : ℕ) → k / d ≡ m → m * d ≤ k
below d m k q = let whole = div-add-mod' k d in let same = ap (λ (x : ℕ). x * d) q in omega arith

pub in-kernel : (k : ℕ) → first_slot ≤ k → k < 2 ^ 256 → in_kernel_storage k ≡ true
unfolding first_slot slot in_kernel_storage
in-kernel k h l = eq-eqb _ _ (between (256 ^ 28) kernel_mark k h l)

pub kernel-from : (k : ℕ) → in_kernel_storage k ≡ true → first_slot ≤ k
unfolding first_slot slot in_kernel_storage
kernel-from k q = below (256 ^ 28) kernel_mark k (eqb-true _ _ q)

-- the slots that there is one of
less-at-most : {a b : ℕ} → a < b → a ≤ b
less-at-most l = omega arith

pub first-before : first_slot ≤ length_slot
unfolding first_slot length_slot
first-before = less-at-most (slot-less-region 0 0 (fixed 0 (omega arith)) (omega arith))

pub fixed-behind : (r : ℕ) → 1 < r → length_slot ≤ slot r 0 0
unfolding length_slot
fixed-behind r h = less-at-most (slot-less-region 0 0 (fixed 1 (omega arith)) h)

-- the places stand behind the list length
shifted : (a n : ℕ) → (a + 0) * 16777216 + 0 ≤ (a + n) * 16777216 + 0
shifted a n = omega arith

pub places_behind : (n : ℕ) → length_slot ≤ place_slot n
unfolding length_slot place_slot slot
places_behind n = shifted ((kernel_mark * 256 + 1) * 256 ^ 24) n

-- a key before the list length, put together again from its middle and its end
front-from : (x k : ℕ) → x * 16777216 + 0 ≤ k → x ≤ k / 16777216
front-from x k h = omega arith

front_below : (x k : ℕ) → k < x * 16777216 + 0 → k / 16777216 < x
front_below x k h = omega arith

pub own_key : (k : ℕ) → first_slot ≤ k → k < length_slot → slot 0 (middle_of k) (k % 256 ^ 3) ≡ k
unfolding first_slot length_slot slot middle_of
own_key k h l =
    let region : k / 256 ^ 3 / 256 ^ 24 ≡ kernel_mark * 256 =
    between (256 ^ 24) (kernel_mark * 256) (k / 256 ^ 3) (front-from (kernel_mark * 256 * 256 ^ 24) k h) (front_below ((kernel_mark * 256 + 1) * 256 ^ 24) k l) in
    let front : kernel_mark * 256 * 256 ^ 24 + k / 256 ^ 3 % 256 ^ 24 ≡ k / 256 ^ 3 =
    ap (λ (x : ℕ). x * 256 ^ 24 + k / 256 ^ 3 % 256 ^ 24) (sym region) ∙ div-add-mod' (k / 256 ^ 3) (256 ^ 24) in
    ap (λ (x : ℕ). x * 256 ^ 3 + k % 256 ^ 3) front ∙ div-add-mod' k (256 ^ 3)

-- the slot behind an address's
next : (x : ℕ) → x * 16777216 + 1 ≡ suc (x * 16777216 + 0)
next x = omega arith

pub own-next : (k : ℕ) → first_slot ≤ k → k < length_slot → k % 256 ^ 3 ≡ 0 → (slot 0 (middle_of k) 0 ≡ k) × (slot 0 (middle_of k) 1 ≡ suc k)
own-next k h l z =
    let address : slot 0 (middle_of k) 0 ≡ k = ap (slot 0 (middle_of k)) (sym z) ∙ own_key k h l in
    let index : slot 0 (middle_of k) 1 ≡ suc (slot 0 (middle_of k) 0) = unfold slot in (next _) in
    (address, index ∙ ap suc address)

pub own-end : (p e : ℕ) → e < 2 ^ 24 → slot 0 p e % 256 ^ 3 ≡ e
unfolding slot
own-end p e h = digits_mod (2 ^ 24) _ e h

-- keys with the same front have the same middle
pub same-middle : (a b : ℕ) → front_of a ≡ front_of b → middle_of a ≡ middle_of b
unfolding front_of middle_of
same-middle a b q = ap (λ (x : ℕ). x % 256 ^ 24) q

-- ends by their bytes; the first slot and the list length have an end of zero
pub end-parts : (k : ℕ) → k % 256 ^ 3 ≡ ending (end_first k) (end_second k) (end_third k)
unfolding ending end_first end_second end_third
end-parts k = omega arith

pub second-byte : (k : ℕ) → end_second k < 256
unfolding end_second
second-byte k = omega arith

pub length-end : length_slot % 256 ^ 3 ≡ 0
unfolding length_slot slot
length-end = refl

first-end : first_slot % 256 ^ 3 ≡ 0
unfolding first_slot slot
first-end = refl

-- what has the front of a key from the first slot on is itself from there on
pub same-front-from : (a b : ℕ) → first_slot ≤ a → front_of a ≡ front_of b → first_slot ≤ b
unfolding front_of
same-front-from a b h q = omega (arith, first-end)

-- and its front is not that of zero
first-large : 16777215 < first_slot
unfolding first_slot slot
first-large = lit< tt

pub front-some : (k : ℕ) → first_slot ≤ k → front_of k ≡ front_of 0 → ⊥
unfolding front_of
front-some k h q = omega (arith, first-large)
