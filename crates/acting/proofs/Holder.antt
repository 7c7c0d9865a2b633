-- The current procedure of a sound table: it is listed, so its key is the key part of the word that holds it, and what it holds is
-- sound. Here a caller finds these facts in the form that the functions on held capabilities ask for.
use Rattle.std.proofs.Common.{ℕ, ◌%◌, ◌^◌, ◌<◌, min, arith, ◌≡◌, ap, ◌∙◌, true, mod-eq_of_lt}
use Rattle.rules.specs.Words.{Bytes, key_bytes, word_bytes, num}
use Rattle.rules.specs.Table.{get, store}
use Rattle.rules.specs.KernelStorage.{count_slot}
use Rattle.rules.specs.Capabilities.{Kind, number}
use Rattle.rules.specs.Procedures.{count_of, current}
use Rattle.rules.specs.Sound.{Sound, kind_sound, sound_table}
use Rattle.laws.proofs.KindSound.{listed-kind-sound, count-at-most}
use Rattle.laws.proofs.Places.{listed-fits}
use Rattle.laws.proofs.Procedures.{body_of}
use Rattle.laws.proofs.TableDecides.{sound_table-good}
use Rattle.words.specs.Words.{Holds, small_limit}
use Rattle.key_words.specs.KeyWords.{KeyPart}
use Rattle.listing.proofs.Lookups.{count-named}

module _ (t : Bytes) (g : sound_table t ≡ true) where
  pub sound-store : Sound (store t)
  sound-store = (sound_table-good t g).good.sound

  current-fits : current (store t) < 256 ^ key_bytes
  current-fits = listed-fits (body_of (sound_table-good t g).good) sound-store.current_listed

  pub current-kind-sound : (kind : Kind) → kind_sound (store t) (current (store t)) kind ≡ true
  current-kind-sound = listed-kind-sound (store t) sound-store (current (store t)) sound-store.current_listed

  -- the key part of the word that holds the current key
  module _ {w part : Bytes} (h : Holds word_bytes w (current (store t))) (k : KeyPart (num w) part) where
    pub holder : num part ≡ current (store t)
    holder = k.number ∙ ap (λ (x : ℕ). x % 256 ^ key_bytes) h.number ∙ mod-eq_of_lt current-fits

    -- how many of a type it holds
    pub holder-count : (kind : Kind) {n : ℕ} → number kind ≡ n → {count : ℕ} → count ≡ min (get (store t) (count_slot (num part) n)) small_limit
        → count ≡ count_of (store t) (current (store t)) kind
    holder-count kind {n} q {count} e =
        let named : count_of (store t) (num part) kind ≡ get (store t) (count_slot (num part) n) = count-named (store t) (num part) kind q in
        let own : count_of (store t) (num part) kind ≡ count_of (store t) (current (store t)) kind = ap (λ (p : ℕ). count_of (store t) p kind) holder in
        let few = count-at-most (store t) (current (store t)) kind (current-kind-sound kind) in
        omega (arith, named, own, few, e)
