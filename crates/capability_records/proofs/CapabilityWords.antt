-- The loop over a capability's words: those from word k on are left to store.
use Rattle.std.proofs.Common.{ℕ, suc, ◌+◌, ◌*◌, ◌-◌, ◌≤◌, ◌<◌, arith, add-one, ◌≡◌, sym, ap, ◌∙◌, List, ◌∷◌, length, drop, drop-drop}
use Rattle.rules.specs.Words.{Bytes, num, word_at, words}
use Rattle.rules.specs.Table.{Record, ◌holds◌, put, puts, room, store}
use Rattle.rules.specs.KernelStorage.{word_slot}
use Rattle.rules.specs.Capabilities.{Kind, number, word_count}
use Rattle.rules.specs.Source.{words_of}
use Rattle.rules.specs.Calls.{word_records}
use Rattle.laws.proofs.KindFacts.{kind_of-number, number-inj}
use Rattle.words.specs.Words.{Holds}
use Rattle.moves.specs.Moves.{WordPart}
use Rattle.requests.proofs.Types.{named-words}
use Rattle.capability_records.specs.CapabilityRecords.{WordsNeeds, WordsStored}
use Rattle.slots.specs.Slots.{KeyOf}
use Rattle.storing.specs.Storing.{Became}
use Rattle.storing.specs.declared.table.Table.{Table}
use Rattle.capability_records.proofs.Left.{Left, left-all, left-none, left-ready, left-put}

-- the words from word k on
words-next : (bs : Bytes) (count k : ℕ) → k < count
    → words (count - k) (drop (32 * k) bs) ≡ word_at bs (32 * k) ∷ words (count - (k + 1)) (drop (32 * (k + 1)) bs)
unfolding words word_at
words-next bs count k h =
    let one : count - k ≡ suc (count - (k + 1)) = omega arith in
    let next : 32 * k + 32 ≡ 32 * (k + 1) = omega arith in
    let behind : drop 32 (drop (32 * k) bs) ≡ drop (32 * (k + 1)) bs = drop-drop 32 (32 * k) bs ∙ ap (λ (j : ℕ). drop j bs) next in
    rw (one, behind)

-- their records
abbrev words_left : (p : ℕ) → Kind → (i : ℕ) → Bytes → (k : ℕ) → List Record
words_left p kind i bs k = word_records p kind i k (words (word_count kind - k) (drop (32 * k) bs))

words-first : (p : ℕ) (kind : Kind) (i : ℕ) (bs : Bytes) (k : ℕ) → k < word_count kind
    → words_left p kind i bs k ≡ word_slot p (number kind) i k holds word_at bs (32 * k) ∷ words_left p kind i bs (k + 1)
unfolding word_records
words-first p kind i bs k h = ap (word_records p kind i k) (words-next bs (word_count kind) k h) ∙ rw add-one

pub record StoringWords (before now : Table) (p n i : ℕ) (bs : Bytes) (count k : ℕ) : Type 0 where
  pub kind : Kind
  pub names : number kind ≡ n
  pub counted : count ≡ word_count kind
  pub within : 32 * word_count kind ≤ length bs
  pub left : Left before now (words_left p kind i bs k)
      (puts (store before.bytes.now) (word_records p kind i 0 (words (word_count kind) bs)))

pub words-start : {table : Table} {p n i count : ℕ} {bs : Bytes} → WordsNeeds table.bytes.now p n i bs → count ≡ words_of n
    → StoringWords table table p n i bs count 0
words-start {n = n} need e =
    let none : word_count need.kind - 0 ≡ word_count need.kind = omega arith in
    record {
      kind = need.kind;
      names = need.names;
      counted = e ∙ ap words_of (sym need.names) ∙ named-words (number need.kind) need.kind (kind_of-number need.kind);
      within = need.within;
      left = rw none (left-all need.takes);
    }

-- word k is stored next
module _ {before now : Table} {p n i : ℕ} {bs : Bytes} {count k : ℕ} {slot word : Bytes}
    (w : StoringWords before now p n i bs count k) (h : k < count) (is : KeyOf (word_slot p n i k) slot)
    (part : WordPart bs (32 * k) word) where
  first : words_left p w.kind i bs k ≡ word_slot p n i k holds word_at bs (32 * k) ∷ words_left p w.kind i bs (k + 1)
  first = words-first p w.kind i bs k (omega (arith, w.counted)) ∙ rw w.names

  value : Holds 32 word (word_at bs (32 * k))
  value = record { size = part.size; number = part.number }

  pub words-room : length (put (store now.bytes.now) (num slot) (num word)) ≤ room now.bytes.now
  words-room = left-ready w.left first is value

  pub words-turn : {later : Table} → Became now later (put (store now.bytes.now) (num slot) (num word))
      → StoringWords before later p n i bs count (k + 1)
  words-turn s =
      record {
        kind = w.kind;
        names = w.names;
        counted = w.counted;
        within = w.within;
        left = left-put w.left first is value s;
      }

pub words-end : {before now : Table} {p n i : ℕ} {bs : Bytes} {count k : ℕ} → StoringWords before now p n i bs count k → count ≤ k
    → WordsStored before now p n i bs
unfolding words word_records
words-end {k = k} w h kind names =
    let none : word_count w.kind - k ≡ 0 = omega (arith, w.counted) in
    let same : w.kind ≡ kind = number-inj w.kind kind (w.names ∙ sym names) in
    rw same at (left-none (rw none at w.left))
